-- What of a text makes markup, a call without its values, and where values may be printed.
use Rattle.std.specs.Prelude.{◌≡◌, ◌⊎◌, ℕ, Bool, ◌==◌, ◌||◌, List, [], ◌∷◌, IsTrue, filter, map}
use Rattle.hook_changes.specs.declared.reply.Call.{Call}
use Rattle.hook_changes.specs.declared.reply.Reply.{Reply}
use Rattle.hook_changes.specs.declared.reply.Then.{Then}
use Rattle.hook_changes.specs.declared.reply.Then.TheVariants.{Answer, Ask}
use Rattle.plain_data.specs.Texts.{Text}
use Rattle.snippets.specs.Places.{Place, Between, place_after, takes_values}
use Rattle.snippets.specs.Templates.{Values, Piece, Fixed, Shown, Inner, shown}

-- < > " '
abbrev pub is_mark : ℕ → Bool
is_mark b = b == 60 || b == 62 || b == 34 || b == 39

-- the marks of a text, in order
abbrev pub marks : Text → Text
marks text = filter is_mark text

-- the same values, each empty
abbrev pub without_value : Text × Text → Text × Text
without_value pair = (pair.0, [])

abbrev pub emptied : Values → Values
emptied values = map without_value values

-- a hook's arguments, the second empty
abbrev pub emptied_arguments : List Text → List Text
emptied_arguments [] = []
emptied_arguments (value ∷ []) = value ∷ []
emptied_arguments (value ∷ second ∷ more) = value ∷ [] ∷ more

-- the same call, with empty values
abbrev pub emptied_call : Call → Call
emptied_call call = record call {
  args = emptied_arguments call.args;
  atts = record call.atts { named = emptied call.atts.named };
}

-- a reply with the marks of its texts in their place
abbrev pub marks_then : Then → Then
marks_then (Answer text) = Answer (marks text)
marks_then (Ask ask) = Ask ask

abbrev pub markup_of : Reply → Reply
markup_of reply = record { changes = reply.changes; echo = marks reply.echo; next = marks_then reply.next }

-- a value that is printed has no marks, and is empty but between tags and within quotes
abbrev pub IsHarmless : Place → Text → Type 0
IsHarmless place text = (marks text ≡ []) × ((text ≡ []) ⊎ IsTrue (takes_values place))

-- each value of the pieces is harmless after all that is printed before it, contents aside
abbrev pub AreInPlace : Place → List Piece → Type 0
AreInPlace place [] = Unit {0}
AreInPlace place (Fixed text ∷ pieces) = AreInPlace (place_after place text) pieces
AreInPlace place (Shown text ∷ pieces) = IsHarmless place text × AreInPlace (place_after place text) pieces
AreInPlace place (Inner text ∷ pieces) = AreInPlace place pieces

-- what the value `1` becomes after a text of the template, for worked places
abbrev pub prints_after : Text → Text
prints_after text = shown (place_after Between text) (49 ∷ [])
