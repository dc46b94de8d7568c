-- Worked rows, computed.
use Rattle.std.specs.Prelude.{◌≡◌, Option, ℕ, ◌+◌, ◌-◌, true, false, List, [], ◌∷◌, ◌++◌, Some, None, is_none, refl, codes}
use Rattle.std.specs.List.{list_all, range_with_len}
use Rattle.std.proofs.Common.{arith, lit<, ◌∙◌, subst}
use Rattle.std.proofs.lemmas.List.Sums.{AllPass-from_list_all}
use Rattle.std.proofs.lemmas.List.FromFn.{length-range_with_len, get_or-range_with_len}
use Rattle.shortcode_scan.specs.declared.Piece.TheVariants.{Plain, Match}
use Rattle.shortcode_scan.specs.Places.{first_place}
use Rattle.shortcode_scan.specs.Matches.{match_at, name_start, name_at, core_of, with_extras, span}
use Rattle.shortcode_scan.specs.Pieces.{IsPieces, NoMatch, match_from, pieces_within, pieces_of, plain_between}
use Rattle.shortcode_scan.specs.Live.{has_opening, is_one_of, live}
use Rattle.shortcode_scan.specs.Opened.{name_opened}

-- `unfolding computing` opens what a row needs
unfoldable computing : Unit {0}
unfolding match_at name_start name_at first_place core_of with_extras has_opening match_from pieces_within name_opened
computing = tt

is_none_true : {A : Type 0} (o : Option A) → is_none o ≡ true → o ≡ None
is_none_true None e = refl
is_none_true (Some x) e = cc

-- that no match begins in a stretch, by a test that computes
none_in : (names : List (List ℕ)) (text : List ℕ) (i j : ℕ) → list_all (λ k. is_none (match_at names text k)) (range_with_len i (j - i)) ≡ true
    → NoMatch names text i j
none_in names text i j e k a b =
    let test = AllPass-from_list_all (λ k. is_none (match_at names text k)) (range_with_len i (j - i)) e (k - i) 0
    (omega (arith, length-range_with_len i (j - i))) in
    let at : i + (k - i) ≡ k = omega arith in
    is_none_true (match_at names text k) (subst (λ k. is_none (match_at names text k) ≡ true) (get_or-range_with_len i (j - i) (k - i) 0 (omega arith) ∙ at)
    test)

abbrev b : List (List ℕ)
b = codes "b" ∷ []

live_none : live b (codes "[b,x]") ≡ []
unfolding computing
live_none = refl

live_b : live b (codes "[b,x][b]") ≡ b
unfolding computing
live_b = refl

empty : IsPieces b [] []
empty = refl

both_extras : IsPieces b (codes "x[[b]]") (Plain (span 0 1) ∷ Match (span 1 6) (span 3 4) (span 4 4) (span 5 5) true true ∷ [])
unfolding computing
both_extras = (refl, lit< tt, none_in b (codes "x[[b]]") _ _ refl, tt, (refl, refl))

closed : IsPieces b (codes "[b/]") (Match (span 0 4) (span 1 2) (span 2 2) (span 4 4) false false ∷ [])
unfolding computing
closed = (refl, refl)

open_extra : IsPieces b (codes "[[b]] and [b]x[/b]") (Match (span 0 18) (span 2 3) (span 3 3) (span 4 14) true false ∷ [])
unfolding computing
open_extra = (refl, refl)

unended : IsPieces b (codes "[b x") (Plain (span 0 4) ∷ [])
unfolding computing
unended = (refl, lit< tt, none_in b (codes "[b x") _ _ refl, tt, refl)

escaped : IsPieces b (codes "[[b]x[/b]]") (Match (span 0 10) (span 2 3) (span 3 3) (span 4 5) true true ∷ [])
unfolding computing
escaped = (refl, refl)

unclosed : IsPieces b (codes "[b]x") (Match (span 0 3) (span 1 2) (span 2 2) (span 3 3) false false ∷ Plain (span 3 4) ∷ [])
unfolding computing
unclosed = (refl, (refl, lit< tt, none_in b (codes "[b]x") _ _ refl, tt, refl))

slashes : IsPieces (codes "show" ∷ []) (codes "[show //]") (Match (span 0 9) (span 1 5) (span 5 7) (span 9 9) false false ∷ [])
unfolding computing
slashes = (refl, refl)

longer_name : IsPieces b (codes "[bb]") (Plain (span 0 4) ∷ [])
unfolding computing
longer_name = (refl, lit< tt, none_in b (codes "[bb]") _ _ refl, tt, refl)

closing_alone : IsPieces b (codes "[/b]") (Plain (span 0 4) ∷ [])
unfolding computing
closing_alone = (refl, lit< tt, none_in b (codes "[/b]") _ _ refl, tt, refl)

comma : IsPieces b (codes "[b,x][b]") (Match (span 0 5) (span 1 2) (span 2 4) (span 5 5) false false
    ∷ Match (span 5 8) (span 6 7) (span 7 7) (span 8 8) false false ∷ [])
unfolding computing
comma = (refl, (refl, refl))

first_closing : IsPieces b (codes "[b][b]x[/b][/b]") (Match (span 0 11) (span 1 2) (span 2 2) (span 3 7) false false ∷ Plain (span 11 15) ∷ [])
unfolding computing
first_closing = (refl, (refl, lit< tt, none_in b (codes "[b][b]x[/b][/b]") _ _ refl, tt, refl))

within_another : IsPieces (codes "b" ∷ codes "i" ∷ []) (codes "[i]a[b]c[/b][/i]") (Match (span 0 16) (span 1 2) (span 2 2) (span 3 12) false false ∷ [])
unfolding computing
within_another = (refl, refl)

nested_name : IsPieces b (codes "[b]1 [b]2[/b]") (Match (span 0 13) (span 1 2) (span 2 2) (span 3 9) false false ∷ [])
unfolding computing
nested_name = (refl, refl)

no_break_space : live (codes "show" ∷ []) (codes "[show" ++ 0xC2 ∷ 0xA0 ∷ [] ++ codes "a]") ≡ []
unfolding computing
no_break_space = refl

own_order : live (codes "b" ∷ codes "i" ∷ []) (codes "[i][b]") ≡ codes "b" ∷ codes "i" ∷ []
unfolding computing
own_order = refl

-- no shortcode ends in a text without a `]` after its `[`
unended_plain : pieces_of b (codes "]x[b x") ≡ plain_between 0 6
unfolding computing
unended_plain = refl

-- the order of the names, and how often each is given, do not change the pieces
other_order : pieces_of (codes "i" ∷ b) (codes "[b]x[i/]") ≡ pieces_of (codes "b" ∷ codes "i" ∷ b) (codes "[b]x[i/]")
unfolding computing
other_order = refl

same_names : is_one_of (codes "i" ∷ b) (codes "b") ≡ is_one_of b (codes "b")
same_names = refl

-- a name may end at the end of the text, but not before a comma
opened_last : name_opened (codes "x[b") 1 ≡ Some (codes "b")
unfolding computing
opened_last = refl

opened_none : name_opened (codes "[b,") 0 ≡ None
unfolding computing
opened_none = refl
