-- What a row of the tables means: a change, a part of a text, a reply, a plugin.
use Rattle.std.specs.Prelude.{◌≡◌, ◌==◌, ◌+◌, ℕ, Bool, true, false, List, [], ◌∷◌, map, flat_map, length, decimal, Some}
use Rattle.std.specs.List.{list_any, AllByRecursion}
use Rattle.plain_data.specs.Names.{core_name}
use Rattle.hook_changes.specs.declared.reply.Call.{Call}
use Rattle.hook_changes.specs.declared.reply.Change.{Change}
use Rattle.hook_changes.specs.declared.reply.Change.TheVariants as change
use Rattle.hook_changes.specs.declared.reply.Reply.{Reply}
use Rattle.hook_changes.specs.declared.reply.Then.TheVariants as next
use Rattle.bundled_plugins.specs.declared.rows.ChangeRow.{ChangeRow}
use Rattle.bundled_plugins.specs.declared.rows.ChangeRow.TheVariants.{Add, Remove, RemoveAll, AddTag, RemoveTag, RemoveAllTags}
use Rattle.bundled_plugins.specs.declared.rows.TextPart.{TextPart}
use Rattle.bundled_plugins.specs.declared.rows.TextPart.TheVariants.{Fixed, First, Second, Count, Content}
use Rattle.bundled_plugins.specs.declared.rows.ReplyRow.{ReplyRow}
use Rattle.bundled_plugins.specs.declared.shipped.Shipped.{Shipped}
use Rattle.plain_data.specs.Texts.{Text}
use Rattle.bundled_plugins.specs.Calls.{first_argument, second_argument}
use Rattle.bundled_plugins.specs.Replies.{reply_in, stated_functions}
use Rattle.bundled_plugins.specs.Bundle.{plugin}
use Rattle.callback_store.specs.Shape.{Shape}

-- the change of a row
abbrev pub change_of : ChangeRow → Change
change_of (Add hook priority number accepted) = change.Add (core_name hook) priority number accepted
change_of (Remove hook priority number) = change.Remove (core_name hook) priority number
change_of (RemoveAll hook priority) = change.RemoveAll (core_name hook) (Some priority)
change_of (AddTag tag number) = change.AddTag tag.now number
change_of (RemoveTag tag) = change.RemoveTag tag.now
change_of RemoveAllTags = change.RemoveAllTags

-- a part of a text, for a call
abbrev pub part_of : Call → TextPart → Text
part_of call (Fixed text) = text.now
part_of call First = first_argument call.args
part_of call Second = second_argument call.args
part_of call Count = decimal (length call.args)
part_of call Content = call.content

-- parts, joined
abbrev pub text_of : Call → List TextPart → Text
text_of call parts = flat_map (part_of call) parts

-- the reply of a row
abbrev pub reply_of : ReplyRow → Call → Reply
reply_of row call = record {
  changes = map change_of row.changes.now;
  echo = text_of call row.prints.now;
  next = next.Answer (text_of call row.answers.now);
}

-- the replies of rows, each under its number
abbrev pub replies_of : List ReplyRow → List (ℕ × (Call → Reply))
replies_of rows = map (λ row. (row.number, reply_of row)) rows

-- the numbers whose reply isn't in a row: those callbacks ask, or go through attributes or answers
abbrev pub is_no_row : ℕ → Bool
is_no_row number = list_any (λ k. k == number) (7 ∷ 18 ∷ 23 ∷ 24 ∷ 25 ∷ 26 ∷ 29 ∷ [])

-- whether replies have one under the number
abbrev pub has : List (ℕ × (Call → Reply)) → ℕ → Bool
has replies number = list_any (λ f. f.0 == number) replies

-- the rows reply what is stated of every other number, and have no number of which nothing is stated
pub record AreStated (rows : List ReplyRow) : Type 0 where
  pub replies : (call : Call) → AllByRecursion (λ f. is_no_row f.0 ≡ false → reply_in (replies_of rows) f.0 call ≡ reply_in stated_functions f.0 call)
      stated_functions
  pub numbers : AllByRecursion (λ f. has stated_functions f.0 ≡ true) (replies_of rows)

-- whether rows have one number after another, from a first one on
abbrev pub are_numbered_from : ℕ → List ReplyRow → Type 0
are_numbered_from first [] = Unit {0}
are_numbered_from first (row ∷ rows) = (row.number ≡ first) × are_numbered_from (first + 1) rows

-- the plugin of a row
abbrev pub plugin_of : Shipped → Shape
plugin_of row = plugin row.name.now (map change_of row.load.now) row.callbacks.now

-- the numbers of the callbacks of rows, plugin by plugin
abbrev pub numbers_in : List Shipped → List ℕ
numbers_in rows = flat_map (λ (row : Shipped). row.callbacks.now) rows
