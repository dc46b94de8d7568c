-- For worked cases: from the bytes of a line to its command.
use Rattle.std.specs.Prelude.{ℕ, List, Option, option_and_then}
use Rattle.site_commands.specs.Tree.{tree_of}
use Rattle.site_commands.specs.Asked.{Asked, command_of}

-- the command that a line is, if it is one
abbrev pub line_command : List ℕ → Option Asked
line_command line = option_and_then command_of (tree_of line)
