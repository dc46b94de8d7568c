-- The same bytes make the same requests.
use Rattle.std.proofs.Common.{◌≡◌, ◌∙◌, ℕ, List, [], ◌∷◌, map, refl, sym, ap, subst}
use Rattle.http.specs.Request.{head_of}
use Rattle.http_server.specs.Exchange.{Call, ReadsCall, Serves, map_of}
use Rattle.http_server.specs.declared.state.Config.{Config}
use Rattle.http_uri.specs.Uri.{Spells}
use Rattle.http_uri.proofs.Theorems.{Spells_unique}
use Rattle.httparse.specs.Spans.{name_and_value}
use Rattle.http1_typed.specs.Parts.{version_of}
use Rattle.http1.specs.Message as Wire
use Rattle.http1.proofs.OneParse.{request_message_unique}
use Rattle.http_laws.specs.Alone.{AskTheSame, IsSameRequest}

-- one message
same_request : (config : Config) (stream : List ℕ) (m n : Wire.Request) (c d : Call) (rest left : List ℕ) → m ≡ n
    → ReadsCall config stream m c.0 rest → ReadsCall config stream n d.0 left → IsSameRequest c.0 d.0
same_request config stream m n c d rest left same x y =
    let target = subst (λ (k : Wire.Request). Spells k.head.target (head_of c.0).uri) same x.parts.uri in
    let uri = Spells_unique n.head.target (head_of c.0).uri (head_of d.0).uri target y.parts.uri in
    record {
      method = x.parts.method ∙ ap (λ (k : Wire.Request). k.head.method) same ∙ sym y.parts.method;
      version = x.parts.version ∙ ap (λ (k : Wire.Request). version_of k.head.minor) same ∙ sym y.parts.version;
      scheme = uri.0;
      authority = uri.1;
      target = uri.2;
      headers = x.parts.headers ∙ ap (λ (k : Wire.Request). map_of (map name_and_value k.head.fields)) same ∙ sym y.parts.headers;
      body = x.body ∙ ap (λ (k : Wire.Request). k.body.bytes) same ∙ sym y.body;
    }

pub ask_the_same : (config : Config) (stream : List ℕ) (calls others : List Call) (text other rest left : List ℕ)
    → Serves config stream calls text rest → Serves config stream others other left → AskTheSame calls others
ask_the_same config stream [] others text other rest left x y = tt
ask_the_same config stream (c ∷ calls) [] text other rest left x y = tt
ask_the_same config stream (c ∷ calls) (d ∷ others) text other rest left (one, after, later, cut, exchange, served) (two, then, last, cut', exchange', served') =
    let same = request_message_unique config.limits stream exchange.message exchange'.message after then exchange.request.reads exchange'.request.reads in (
      same_request config stream exchange.message exchange'.message c d after then same.0 exchange.request exchange'.request,
      ask_the_same config then calls others later last rest left (subst (λ s. Serves config s calls later rest) same.1 served) served',
    )
