-- The call of a shortcode's handler.
use Rattle.std.specs.Prelude.{[]}
use Rattle.shortcode_atts.specs.Attributes.{Attributes}
use Rattle.hook_changes.specs.declared.reply.Call.{Call}
use Rattle.plain_data.specs.Texts.{Text}

-- it has no hook and no arguments
abbrev pub shortcode_call : Text → Attributes → Text → Call
shortcode_call tag atts content = record { hook = []; args = []; tag = tag; atts = atts; content = content; answers = [] }
