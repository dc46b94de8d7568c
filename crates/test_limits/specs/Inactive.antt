-- What the callbacks of two bundles are stated to reply: those of the program, but for one of them.
use Rattle.std.specs.Prelude.{ℕ, ◌==◌, codes, if◌then◌else◌}
use Rattle.hook_changes.specs.declared.reply.Call.{Call}
use Rattle.hook_changes.specs.declared.reply.Reply.{Reply}
use Rattle.hook_changes.specs.Replies.{answers_text}
use Rattle.bundled_plugins.specs.Replies as bundled

-- the callback with the number `changed` answers `!`
unfoldable pub says : ℕ → ℕ → Call → Reply
says changed number call = if number == changed then answers_text (codes "!") else bundled.says number call
