-- What a request asks a site for.
use Rattle.std.specs.Prelude.{ℕ, ◌&&◌, ◌||◌, ◌==◌, not, Bool, false, List, [], ◌∷◌, Option, None, Some, option_and_then, option_map}
use Rattle.std.specs.Prelude.{if◌then◌else◌, codes, bytes_eq, take, drop, length, nat_le, map}
use Rattle.std.specs.Char.{to_ascii_lowercase}
use Rattle.http_header.specs.FieldValue.{FieldValue}
use Rattle.http_header.specs.HeaderMap.{Entries, get}
use Rattle.http_uri.specs.declared.uri.Uri.{Uri}
use Rattle.http_uri.specs.Uri.{uri_path_and_query}
use Rattle.http.specs.declared.request.Parts.{Parts}
use Rattle.http_messages.specs.declared.request.RequestFault.{RequestFault}
use Rattle.http_messages.specs.declared.request.RequestFault.TheVariants.{BadTarget, NoToken, NoEdits, OnlyPages, UnknownMethod}
use Rattle.http_messages.specs.declared.request.Wanted.{Wanted}
use Rattle.http_messages.specs.declared.request.Wanted.TheVariants as wanted

-- what is asked for, wherever its bytes lie in memory
pub data WantedData : Type 0 where
  page : (path : List ℕ) → WantedData
  commands : (lines : List ℕ) → WantedData
  refused : RequestFault → WantedData

abbrev pub wanted_data : Wanted → WantedData
wanted_data (wanted.Page path) = page path.now
wanted_data (wanted.Commands lines) = commands lines.now
wanted_data (wanted.Refused fault) = refused fault

-- a text that begins with a slash
abbrev pub rooted : List ℕ → Option (List ℕ)
rooted [] = Some (codes "/")
rooted (b ∷ text) = if b == 47 then Some (b ∷ text) else None

-- the path of a target and its query: of `/a?b` and of `http://host/a?b` it is `/a?b`; `*` and `host:80` have none
abbrev pub path_in : Uri → Option (List ℕ)
path_in uri = option_and_then rooted (uri_path_and_query uri)

-- `Bearer TOKEN`, its first word in any case
abbrev pub is_token_in : (value token : List ℕ) → Bool
is_token_in value token = nat_le 7 (length value) && (bytes_eq (map to_ascii_lowercase (take 7 value)) (codes "bearer ") && bytes_eq (drop 7 value) token)

abbrev pub has_token : List ℕ → Option FieldValue → Bool
has_token token None = false
has_token token (Some value) = is_token_in value.bytes token

abbrev pub allows_edits : Entries FieldValue → List ℕ → Bool
allows_edits headers token = has_token token (get headers (codes "authorization"))

-- a request to carry out commands, where edits are taken under this token
abbrev pub edits_under : Option (List ℕ) → Entries FieldValue → List ℕ → WantedData
edits_under None headers lines = refused NoEdits
edits_under (Some token) headers lines = if allows_edits headers token then commands lines else refused NoToken

-- what a method asks of a path
abbrev pub asked_at : Option (List ℕ) → Parts → List ℕ → Option (List ℕ) → WantedData
asked_at token head body None = refused BadTarget
asked_at token head body (Some path) =
    if bytes_eq head.method (codes "GET") || bytes_eq head.method (codes "HEAD") then page path
    else (if not (bytes_eq head.method (codes "POST")) then refused UnknownMethod
    else (if not (bytes_eq path (codes "/command")) then refused OnlyPages
    else edits_under token head.headers body))

-- what a request asks for
abbrev pub wanted_of : Option (List ℕ) → Parts → List ℕ → WantedData
wanted_of token head body = asked_at token head body (path_in head.uri)

-- the condition of a request: the first of its `If-None-Match`
abbrev pub condition_in : Entries FieldValue → Option (List ℕ)
condition_in headers = option_map (λ v. v.bytes) (get headers (codes "if-none-match"))
