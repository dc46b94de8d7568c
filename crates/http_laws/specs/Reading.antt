-- What a client reads of what a connection sent.
use Rattle.std.specs.Prelude.{◌≡◌, ◌⊎◌, Bool, true, List, [], ◌∷◌, ◌++◌, All, codes, if◌then◌else◌, length, map}
use Rattle.std.specs.List.{list_any}
use Rattle.httparse.specs.Grammar.{status_code}
use Rattle.httparse.specs.Spans.{name_and_value}
use Rattle.http.specs.Request.{head_of}
use Rattle.http1.specs.Fields.{Header, is_named}
use Rattle.http1.specs.Framing.{is_bodiless_status, method_kind}
use Rattle.http1.specs.Message.{Answer}
use Rattle.http1.specs.Server.{is_head}
use Rattle.http_server.specs.Exchange.{Call, IsAdded}
use Rattle.http_server.specs.Response.{fields_of}

-- a field states the length of the body
abbrev pub states_length : List Header → Bool
states_length headers = list_any (is_named (codes "content-length")) headers

-- the response says where it ends: by a length, or by a status that no body follows
abbrev pub StatesItsEnd : Call → Type 0
StatesItsEnd c = (states_length (fields_of c.1) ≡ true) ⊎ (is_bodiless_status c.1.status ≡ true)

-- what is read is the response to the call: its status, its fields and then only those that the connection adds, and its body
pub record IsResponseTo (c : Call) (a : Answer) : Type 0 where
  pub method : a.method ≡ method_kind (head_of c.0).method
  pub status : status_code a.response.head ≡ c.1.status
  pub added : List Header
  pub fields : (map name_and_value a.response.head.fields ≡ fields_of c.1 ++ added) × All (IsAdded (length c.1.body.items)) added
  pub body : a.response.body.bytes ≡ (if is_head (method_kind (head_of c.0).method) then [] else c.1.body.items)

-- what tells a client that it may send its body: `100 Continue`
abbrev pub IsSign : Answer → Type 0
IsSign a = (status_code a.response.head ≡ 100) × (a.response.body.bytes ≡ [])

-- the responses to the calls, in order, each perhaps after such a sign
abbrev pub AreResponsesTo : List Call → List Answer → Type 0
AreResponsesTo [] answers = answers ≡ []
AreResponsesTo (c ∷ calls) answers =
    (signs : List Answer) × (first : Answer) × (later : List Answer)
    × (answers ≡ signs ++ first ∷ later) × All IsSign signs × IsResponseTo c first × AreResponsesTo calls later
