-- What the callbacks of the bench reply.
use Rattle.std.specs.Prelude.{ℕ, []}
use Rattle.hook_changes.specs.declared.reply.Call.{Call}
use Rattle.hook_changes.specs.declared.reply.Reply.{Reply}
use Rattle.hook_changes.specs.declared.reply.Then.TheVariants as next
use Rattle.hook_meaning.specs.Meaning.{first_or_empty}

-- the value as it came
abbrev pub keeps_value : ℕ → Call → Reply
keeps_value callback call = record { changes = []; echo = []; next = next.Answer (first_or_empty call.args) }
