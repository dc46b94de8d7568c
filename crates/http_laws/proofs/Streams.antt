-- Responses one after another.
use Rattle.std.proofs.Common.{arith, ◌≡◌, ◌⊎◌, inl, inr, ◌∙◌, ℕ, ◌+◌, ◌≤◌, true, List, [], ◌∷◌, ◌++◌, None, codes, length, map, refl, sym, ap, subst, append_assoc}
use Rattle.std.specs.Prelude.{All}
use Rattle.std.proofs.lemmas.List.Elements.{All-nil, All-cons, All-head, All-tail}
use Rattle.httparse.specs.Grammar.{ReadsResponse, ResponseHead, print_response, status_code}
use Rattle.httparse.specs.Spans.{name_and_value}
use Rattle.http.specs.Request.{head_of}
use Rattle.http1.specs.declared.conn.Limits.{Limits}
use Rattle.http1.specs.declared.framing.Framing.TheVariants.{NoBody}
use Rattle.http1.specs.declared.framing.MethodKind.{MethodKind}
use Rattle.http1.specs.Body.{body_of}
use Rattle.http1.specs.Framing.{is_bodiless_status, method_kind}
use Rattle.http1.specs.Head.{are_headers, head_refusal, is_status_line, response_head, response_text}
use Rattle.http1.specs.Message.{Answer, ReadsAnswers, ReadsResponseMessage, known_of}
use Rattle.http1.proofs.FramingFacts.{bodiless_status_has_no_body}
use Rattle.http1.proofs.HeadRoundTrip.{response_reads_back}
use Rattle.http_server.specs.Exchange.{Call, Exchanges, Serves, continue_text}
use Rattle.http_server.specs.Response.{fields_of}
use Rattle.http_server.specs.declared.state.Config.{Config}
use Rattle.http_laws.specs.Reading.{AreResponsesTo, IsResponseTo, IsSign, StatesItsEnd, states_length}
use Rattle.http_laws.proofs.StatedEnds.{framing_is_sized, message_goes_on, states-append}

-- ---- the sign that a client may send its body

abbrev sign_head : ResponseHead
sign_head = response_head 1 100 (codes "Continue") []

abbrev pub sign_of : MethodKind → Answer
sign_of method = record { method = method; response = record { head = sign_head; body = body_of [] [] } }

sign_text : continue_text ≡ response_text 1 100 (codes "Continue") []
unfolding print_response
sign_text = refl

sign_may_be_sent : head_refusal (is_status_line 1 100 (codes "Continue")) [] ≡ None
unfolding are_headers
sign_may_be_sent = refl

pub is_sign : (method : MethodKind) → IsSign (sign_of method)
is_sign method = (refl, refl)

pub sign_reads : (limits : Limits) (method : MethodKind) (more : List ℕ) → length (print_response sign_head) ≤ limits.max_head_len
    → ReadsResponseMessage limits method (continue_text ++ more) (sign_of method).response more
sign_reads limits method more fits =
    let back = response_reads_back 1 100 (codes "Continue") [] more sign_may_be_sent in
    record {
      framing = NoBody;
      after_head = more;
      head = record {
        reads = subst (λ t. ReadsResponse (t ++ more) sign_head more) (sym sign_text) back.reads;
        strict = (fits, back.strict);
        status = omega arith;
        framed = bodiless_status_has_no_body method 100 1 (known_of sign_head.fields) (inl (omega arith, omega arith));
      };
      body = (refl, refl, refl);
    }

-- ---- one call, and all

-- what a client reads for a call
abbrev Reads : Call → List ℕ → Type 0
Reads c text =
    (signs : List Answer) × (first : Answer) × All IsSign signs × IsResponseTo c first
    × (room : ℕ) × ((limits : Limits) (later : List ℕ) (answers : List Answer) → room ≤ limits.max_head_len → 2 ≤ limits.max_trailers_len
    → ReadsAnswers limits later answers [] → ReadsAnswers limits (text ++ later) (signs ++ first ∷ answers) [])

one_read : (config : Config) (stream : List ℕ) (c : Call) (text rest : List ℕ) → Exchanges config true stream c text rest → StatesItsEnd c → Reads c text
one_read config stream c text rest e ends =
    let a = e.is_answer in
    let kind = method_kind e.message.head.method in
    let first : Answer = record { method = kind; response = a.message } in
    let same : method_kind (head_of c.0).method ≡ kind = ap method_kind e.request.parts.method in
    let is : IsResponseTo c first = record {
      method = sym same;
      status = a.status;
      added = a.added;
      fields = a.headers;
      body = rw same a.body;
    } in
    let length_of = length (print_response a.message.head) in
    let ended : (states_length (map name_and_value a.message.head.fields) ≡ true) ⊎ (is_bodiless_status (status_code a.message.head) ≡ true) =
    elim ends [
      | inl stated ↦ inl (ap states_length a.headers.0 ∙ states-append (fields_of c.1) a.added stated)
      | inr bare ↦ inr (ap is_bodiless_status a.status ∙ bare)
    ] in
    let whole : (limits : Limits) (later : List ℕ) → length_of ≤ limits.max_head_len → 2 ≤ limits.max_trailers_len
    → ReadsResponseMessage limits kind (e.answer ++ later) a.message later = λ limits later fits trailers.
    let read = a.reads limits fits trailers in
    message_goes_on limits kind e.answer a.message later read
    (framing_is_sized kind (status_code a.message.head) a.message.head.minor (map name_and_value a.message.head.fields) read.framing ended read.head.framed) in
    elim e.is_interim [
      | inl none ↦ (
        [],
        first,
        All-nil IsSign,
        is,
        length_of,
        λ limits later answers fits trailers others. (
          later,
          subst (λ t. ReadsResponseMessage limits kind (t ++ later) a.message later) (sym (e.joined ∙ ap (λ t. t ++ e.answer) none)) (whole limits later fits trailers),
          others,
        ),
      )
      | inr (sign, expects) ↦ (
        sign_of kind ∷ [],
        first,
        All-cons IsSign (sign_of kind) [] (is_sign kind) (All-nil IsSign),
        is,
        length_of + length (print_response sign_head),
        λ limits later answers fits trailers others. (
          e.answer ++ later,
          subst (λ t. ReadsResponseMessage limits kind t (sign_of kind).response (e.answer ++ later))
              (sym (ap (λ t. t ++ later) (e.joined ∙ ap (λ t. t ++ e.answer) sign) ∙ append_assoc continue_text e.answer later))
              (sign_reads limits kind (e.answer ++ later) (omega (arith, fits))),
          (later, whole limits later (omega (arith, fits)) trailers, others),
        ),
      )
    ]

pub all_read : (config : Config) (stream : List ℕ) (calls : List Call) (text rest : List ℕ) → Serves config stream calls text rest → All StatesItsEnd calls
    → (answers : List Answer) × AreResponsesTo calls answers
    × (room : ℕ) × ((limits : Limits) → room ≤ limits.max_head_len → 2 ≤ limits.max_trailers_len → ReadsAnswers limits text answers [])
all_read config stream [] text rest served ends = ([], refl, 0, λ limits fits trailers. served.1)
all_read config stream (c ∷ calls) text rest (first, after, later, cut, exchange, served) ends =
    let one = one_read config stream c first after exchange (All-head StatesItsEnd c calls ends) in
    let others = all_read config after calls later rest served (All-tail StatesItsEnd c calls ends) in (
      one.0 ++ one.1 ∷ others.0,
      (one.0, one.1, others.0, refl, one.2, one.3, others.1),
      one.4 + others.2,
      λ limits fits trailers. subst (λ t. ReadsAnswers limits t (one.0 ++ one.1 ∷ others.0) []) (sym cut)
          (one.5 limits later others.0 (omega (arith, fits)) trailers (others.3 limits (omega (arith, fits)) trailers)),
    )
