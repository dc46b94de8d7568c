-- Worked passes, computed.
use Rattle.std.specs.Prelude.{◌≡◌, ℕ, replicate, [], ◌++◌, IsTrue, IsFalse, codes, length, refl, Ok, Err}
use Rattle.std.specs.Fmt.{digits}
use Rattle.shortcode_scan.specs.Places.{first_place}
use Rattle.shortcode_scan.specs.Matches.{match_at, name_start, name_at, core_of, with_extras}
use Rattle.shortcode_scan.specs.Pieces.{match_from, pieces_within}
use Rattle.shortcode_scan.specs.Live.{has_opening}
use Rattle.hook_meaning.specs.declared.fault.RunFault.TheVariants.{TooManyCalls, TooDeep}
use Rattle.hook_meaning.specs.World.{is_active, loaded}
use Rattle.hook_meaning.specs.Meaning.{deeper, group_pass, priorities_pass, pass, filter_pass, action_pass, handled, piece_pass, pieces_pass}
use Rattle.hook_meaning.specs.Meaning.{shortcodes_pass, answered, follow, invoked, invoked_with, invoke_within, invoke, filtered, acted, replaced}
use Rattle.hook_meaning.specs.Trace.{turns_of}
use Rattle.hook_meaning.specs.Throughout.{names_active}
use Rattle.hook_meaning.specs.Worked.{bundle, loaded_with, title_pass, title, two_titles, unordered_title, footer, replaced_text, content, text_with_marks}
use Rattle.hook_meaning.specs.Worked.{marked_content}

-- what computes in the rows below
computes : ℕ
unfolding loaded deeper group_pass priorities_pass pass filter_pass action_pass handled piece_pass pieces_pass shortcodes_pass answered follow invoked
    invoked_with invoke_within invoke filtered acted replaced has_opening first_place match_at name_start name_at core_of with_extras match_from pieces_within
    digits
computes = 0

pub added_again : title 20 (codes "marks") (codes "T") ≡ Ok (codes "TX1Y")
unfolding computes
added_again = refl

pub inactive : title 20 (codes "other") (codes "T") ≡ Ok (codes "T")
unfolding computes
inactive = refl

pub load_order : unordered_title (codes "T") ≡ Ok (codes "T1Y")
unfolding computes
load_order = refl

pub itself : title 20 (codes "once") [] ≡ Ok (codes "124")
unfolding computes
itself = refl

pub nested : two_titles (codes "nest") ≡ Ok (codes "1-134-234", codes "13-134-24")
unfolding computes
nested = refl

pub added_in_mid_pass : two_titles (codes "grow") ≡ Ok (codes "a7", codes "5a97")
unfolding computes
added_in_mid_pass = refl

pub accepted : title 20 (codes "args") (codes "T") ≡ Ok (codes "n0(2 1)")
unfolding computes
accepted = refl

pub ends_of_priorities : title 20 (codes "edges") [] ≡ Ok (codes "cb")
unfolding computes
ends_of_priorities = refl

pub empty_argument : footer (codes "args") ≡ Ok (codes "[1:]")
unfolding computes
empty_argument = refl

pub counted_before : footer (codes "count") ≡ Ok (codes "1")
unfolding computes
counted_before = refl

pub enough_calls : title 3 (codes "deep") (codes "d") ≡ Ok (codes "()")
unfolding computes
enough_calls = refl

pub too_few_calls : title 2 (codes "deep") (codes "d") ≡ Err TooManyCalls
unfolding computes
too_few_calls = refl

pub asks_for_ever : title 100 (codes "deep") (codes "spin") ≡ Err TooManyCalls
unfolding computes
asks_for_ever = refl

pub deepest : title 10000 (codes "deep") (replicate 32 100) ≡ Ok (replicate 32 40 ++ replicate 32 41)
unfolding computes
deepest = refl

pub too_deep : title 10000 (codes "deep") (replicate 33 100) ≡ Err TooDeep
unfolding computes
too_deep = refl

pub escaped : replaced_text (codes "[[b]x[/b]]") ≡ Ok (codes "[b]x[/b]")
unfolding computes
escaped = refl

pub half_escaped : replaced_text (codes "[[b]] and [b]x[/b]") ≡ Ok (codes "[<b>] and [b]x</b>")
unfolding computes
half_escaped = refl

pub first_closing : replaced_text (codes "[b][b]x[/b][/b]") ≡ Ok (codes "<b>[b]x</b>[/b]")
unfolding computes
first_closing = refl

pub own_content : replaced_text (codes "[i]a[b]c[/b][/i]") ≡ Ok (codes "<i>a<b>c</b></i>")
unfolding computes
own_content = refl

pub removed_in_mid_pass : replaced_text (codes "[off][b]x[/b]") ≡ Ok (codes "[b]x[/b]")
unfolding computes
removed_in_mid_pass = refl

pub not_scanned_again : replaced_text (codes "[raw]") ≡ Ok (codes "[b]y[/b]")
unfolding computes
not_scanned_again = refl

pub by_core : content (codes "[b]x[/b]") ≡ Ok (codes "<b>x</b>")
unfolding computes
by_core = refl

pub active : IsTrue (is_active bundle (loaded_with 20 (codes "marks")) 1)
unfolding computes
active = refl

pub not_active : IsFalse (is_active bundle (loaded_with 20 (codes "marks")) 14)
unfolding computes
not_active = refl

pub registered : IsTrue (names_active bundle (loaded_with 20 (codes "marks")))
unfolding computes
registered = refl

pub no_longer_active : IsFalse (names_active bundle (record (loaded_with 20 (codes "marks")) { active = [] }))
unfolding computes
no_longer_active = refl

pub turns : length (turns_of (title_pass (loaded_with 20 (codes "marks")) (codes "T"))) ≡ 2
unfolding computes
turns = refl

pub marked_answer : text_with_marks 100 (codes "[b]x[/b]") ≡ Ok (codes "<b>x</b>{b}")
unfolding computes
marked_answer = refl

pub marked_extra : text_with_marks 100 (codes "[[b]x[/b]") ≡ Ok (codes "[<b>x</b>{b}")
unfolding computes
marked_extra = refl

pub marked_once : text_with_marks 100 (codes "[raw]") ≡ Ok (codes "[b]y[/b]{raw}")
unfolding computes
marked_once = refl

pub marked_within : text_with_marks 100 (codes "[i]a[b]c[/b][/i]") ≡ Ok (codes "<i>a<b>c</b>{b}</i>{i}")
unfolding computes
marked_within = refl

pub marked_empty : text_with_marks 100 (codes "[off][b]x[/b]") ≡ Ok (codes "{off}[b]x[/b]")
unfolding computes
marked_empty = refl

pub unmarked_escape : text_with_marks 100 (codes "[[b]]") ≡ Ok (codes "[b]")
unfolding computes
unmarked_escape = refl

pub marked_calls : text_with_marks 2 (codes "[b]x[/b]") ≡ Ok (codes "<b>x</b>{b}")
unfolding computes
marked_calls = refl

pub too_few_to_mark : text_with_marks 1 (codes "[b]x[/b]") ≡ Err TooManyCalls
unfolding computes
too_few_to_mark = refl

pub marked_turns : length (turns_of (marked_content (codes "[b]x[/b]"))) ≡ 3
unfolding computes
marked_turns = refl
