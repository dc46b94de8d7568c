-- How long the texts of a site may be.
use Rattle.std.specs.Prelude.{ℕ, Bool, nat_le, List, length}

-- the maximum number of bytes of a title
abbrev pub max_title : ℕ
max_title = 65536

-- the maximum number of bytes of a content
abbrev pub max_content : ℕ
max_content = 524288

-- the maximum number of bytes of an option's value
abbrev pub max_value : ℕ
max_value = 65536

-- whether a text has at most `most` bytes
abbrev pub fits : ℕ → List ℕ → Bool
fits most text = nat_le (length text) most
