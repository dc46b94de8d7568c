-- What one client's own bytes decide, whoever else is connected.
use Rattle.std.specs.Prelude.{◌≡◌, ⊤, ℕ, List, [], ◌∷◌}
use Rattle.http.specs.declared.request.Request.{Request}
use Rattle.http.specs.Request.{head_of, body_of}
use Rattle.http_uri.specs.Uri.{uri_scheme, uri_authority, uri_data}
use Rattle.http_server.specs.Exchange.{Call}
use Rattle.http_server.specs.History.{History, IsServed}
use Rattle.http_server.specs.declared.state.Config.{Config}

-- the bytes that were sent answer the bytes that were received, by these calls, as on a connection that is the only one
abbrev pub IsAnswered : Config → List ℕ → List Call → List ℕ → Type 0
IsAnswered config received calls sent =
    (h : History) × (h.received ≡ received) × (h.calls ≡ calls) × (h.sent ≡ sent) × IsServed config h

-- all that is read of a request
pub record IsSameRequest (a b : Request (List ℕ)) : Type 0 where
  pub method : (head_of a).method ≡ (head_of b).method
  pub version : (head_of a).version ≡ (head_of b).version
  pub scheme : uri_scheme (head_of a).uri ≡ uri_scheme (head_of b).uri
  pub authority : uri_authority (head_of a).uri ≡ uri_authority (head_of b).uri
  pub target : uri_data (head_of a).uri ≡ uri_data (head_of b).uri
  pub headers : (head_of a).headers ≡ (head_of b).headers
  pub body : body_of a ≡ body_of b

-- the calls have the same requests, one after another, as far as both lists go
abbrev pub AskTheSame : List Call → List Call → Type 0
AskTheSame [] others = ⊤
AskTheSame (c ∷ calls) [] = ⊤
AskTheSame (c ∷ calls) (d ∷ others) = IsSameRequest c.0 d.0 × AskTheSame calls others
