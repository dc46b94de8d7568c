-- Where responses say that they end.
use Rattle.std.specs.Prelude.{◌≡◌, ◌⊎◌, true}
use Rattle.http1.specs.Framing.{is_bodiless_status}
use Rattle.http_messages.specs.Response.{ResponseData}
use Rattle.http_laws.specs.Reading.{states_length}

-- a length is stated, or the status is one that no body follows
abbrev pub SaysItsEnd : ResponseData → Type 0
SaysItsEnd said = (states_length said.fields ≡ true) ⊎ (is_bodiless_status said.status ≡ true)
