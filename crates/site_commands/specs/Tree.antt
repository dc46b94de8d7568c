-- What is read of a line.
use Rattle.std.specs.Prelude.{ℕ, List, Option, None, if◌then◌else◌}
use Rattle.std.specs.Str.{is_utf8}
use Rattle.serde_json.specs.Data.{Data}
use Rattle.serde_json.specs.Read.{read}

-- the tree of a line, if the line is one JSON value in UTF-8 (RFC 8259)
unfoldable pub tree_of : List ℕ → Option Data
tree_of line = if is_utf8 line then read line else None
