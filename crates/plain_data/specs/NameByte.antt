-- The bytes of names: of attributes, and of tags.
use Rattle.std.specs.Prelude.{ℕ, Bool, ◌||◌, ◌==◌}
use Rattle.std.specs.Char.{is_ascii_alphanumeric}

-- an ASCII letter, a digit, `_` (95) or `-` (45) (Shortcode API, get_shortcode_atts_regex)
abbrev pub is_name_byte : ℕ → Bool
is_name_byte b = is_ascii_alphanumeric b || b == 95 || b == 45
