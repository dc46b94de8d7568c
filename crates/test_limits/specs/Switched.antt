-- What the callbacks with switches are stated to reply: each answers its first argument.
use Rattle.std.specs.Prelude.{ℕ, []}
use Rattle.hook_changes.specs.declared.reply.Call.{Call}
use Rattle.hook_changes.specs.declared.reply.Reply.{Reply}
use Rattle.hook_changes.specs.Replies.{changes_and_answers}
use Rattle.test_limits.specs.Climbing.{first_argument}

abbrev pub says : ℕ → Call → Reply
says number call = changes_and_answers [] (first_argument call.args)
