-- What a binary search for a name finds in texts that are in ascending order of their names.
use Rattle.std.proofs.Common.{◌≡◌, ℕ, zero, suc, ◌+◌, ◌<◌, List, length, get_or, [], ◌∷◌, Bool, true, false, cond, T, Result, Ok, Err, None, Some, Less, Equal, Greater, refl, sym, ap, ◌∙◌, subst, ⊎_elim, arith, option_map}
use Rattle.std.specs.declared.cmp.Ordering.{Ordering}
use Rattle.std.specs.Ordering.{is_lt, is_eq, nat_cmp, ordering_reverse}
use Rattle.std.specs.Cmp.Lexicographic.{nat_list_cmp_total, slice_cmp}
use Rattle.std.specs.FinMap.{slice_cmp-IsAntisymmetric, nat_cmp-IsAntisymmetric}
use Rattle.std.specs.FinMap.Entries.{is_sorted, below_all}
use Rattle.std.specs.List.{AllWithin, find}
use Rattle.std.specs.List.Sorted.{IsSortedBy, IsSearchInRange, IsBinarySearchResult}
use Rattle.std.specs.Result.{MatchResult}
use Rattle.std.specs.Str.{bytes_eq}
use Rattle.std.proofs.lemmas.Bool.{and_parts, cases_lt}
use Rattle.std.proofs.lemmas.List.Sorted.{searchable_from_sorted}
use Rattle.std.proofs.lemmas.Map.Text.{is_eq-slice_cmp}
use Rattle.plain_data.specs.Texts.{Text}
use Rattle.site_records.specs.Texts.{text_named}
use Rattle.site_records.specs.Sorted.{AreSorted}

abbrev Texts : Type 0
Texts = List (Text × Text)

-- the order of texts by their bytes
abbrev by_bytes : Text → Text → Ordering
by_bytes = slice_cmp nat_cmp

is_true : (b : Bool) → T b → b ≡ true
is_true true h = refl
is_true false h = absurd h

is_less : (o : Ordering) → is_lt o ≡ true → o ≡ Less
is_less Less h = refl
is_less Equal h = absurd (let clash : false ≡ true = h in cc)
is_less Greater h = absurd (let clash : false ≡ true = h in cc)

-- the first name is before that of each later entry
below_at : (x : Text) (es : Texts) (i : ℕ) (d : Text × Text) → below_all by_bytes x es ≡ true → i < length es → by_bytes x (get_or es i d).0 ≡ Less
below_at x [] i d below high = absurd (omega arith)
below_at x (e ∷ es) zero d below high = is_less _ ((and_parts _ _ below).0)
below_at x (e ∷ es) (suc i) d below high = below_at x es i d ((and_parts _ _ below).1) (omega arith)

-- each name is before those of later entries
rises : (es : Texts) (i j : ℕ) (d : Text × Text) → is_sorted by_bytes es ≡ true → i < j → j < length es → by_bytes (get_or es i d).0 (get_or es j d).0 ≡ Less
rises [] i j d sorted later high = absurd (omega arith)
rises (e ∷ es) i zero d sorted later high = absurd (omega arith)
rises (e ∷ es) zero (suc j) d sorted later high = below_at e.0 es j d ((and_parts _ _ sorted).0) (omega arith)
rises (e ∷ es) (suc i) (suc j) d sorted later high = rises es i j d ((and_parts _ _ sorted).1) (omega arith) (omega arith)

ascending : (es : Texts) → is_sorted by_bytes es ≡ true → IsSortedBy (λ a b. is_lt (by_bytes a.0 b.0)) es
ascending es sorted k d low high =
    let later_first = nat_list_cmp_total.antisymm (get_or es (k + 1) d).0 (get_or es k d).0 in
    ap is_lt (later_first ∙ ap ordering_reverse (rises es k (k + 1) d sorted (omega arith) high))

module _ (name : Text) where
  abbrev is_named : Text × Text → Bool
  is_named t = bytes_eq t.0 name

  -- how a text compares with the name tells whether it is the same
  told : (x : Text) (o : Ordering) → by_bytes x name ≡ o → bytes_eq x name ≡ is_eq o
  told x o is = sym (is_eq-slice_cmp x name) ∙ ap is_eq is

  -- an entry with the name is the first of that name, since all before it have names before it
  found_at : (es : Texts) (i : ℕ) (d : Text × Text) → is_sorted by_bytes es ≡ true → i < length es → by_bytes (get_or es i d).0 name ≡ Equal
      → find is_named es ≡ Some (get_or es i d)
  found_at [] i d sorted high same = absurd (omega arith)
  found_at (e ∷ es) zero d sorted high same = ap (λ b. cond b (Some e) (find is_named es)) (told e.0 Equal same)
  found_at (e ∷ es) (suc i) d sorted high same =
      let its_name = slice_cmp-IsAntisymmetric nat_cmp-IsAntisymmetric (get_or es i d).0 name same in
      let before = subst (λ x. by_bytes e.0 x ≡ Less) its_name (below_at e.0 es i d ((and_parts _ _ sorted).0) (omega arith)) in
      ap (λ b. cond b (Some e) (find is_named es)) (told e.0 Less before) ∙ found_at es i d ((and_parts _ _ sorted).1) (omega arith) same

  found_nowhere : (es : Texts) → AllWithin (λ t. is_named t ≡ false) es 0 (length es) → find is_named es ≡ None
  found_nowhere [] others = refl
  found_nowhere (e ∷ es) others =
      ap (λ b. cond b (Some e) (find is_named es)) (others 0 e (omega arith) (omega arith)) ∙ found_nowhere es (λ k d low high. others (suc k) d (omega arith) (omega arith))

  -- a search that compares with the name finds its text, or finds that no text has the name
  pub searched : (es : Texts) (r : Result ℕ ℕ) → AreSorted es → IsSearchInRange r (length es) → IsBinarySearchResult (λ t. by_bytes t.0 name) es r
      → MatchResult r (λ i. (d : Text × Text) → text_named name es ≡ Some (get_or es i d).1) (λ _. text_named name es ≡ None)
  searched es (Ok i) sorted high same = λ d. ap (option_map (λ t. t.1)) (found_at es i d (is_true _ sorted) high (same d))
  searched es (Err i) sorted high apart =
      let parts = apart (searchable_from_sorted nat_list_cmp_total (λ t. t.0) es name (ascending es (is_true _ sorted))) in
      ap (option_map (λ t. t.1)) (found_nowhere es (λ k d low high. ⊎_elim (λ lt. told _ Less (parts.0 k d low lt)) (λ ge. told _ Greater (parts.1 k d ge high)) (cases_lt k i)))
