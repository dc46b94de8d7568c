-- Entries of a map that are set again, one after another, make the map.
use Rattle.std.proofs.Common.{◌≡◌, List, [], ◌∷◌, ◌++◌, map, Bool, true, false, cond, None, Some, Less, Equal, Greater, refl, sym, ap, ◌∙◌, append-nil}
use Rattle.std.specs.Prelude.{T}
use Rattle.std.specs.Ordering.{is_lt, is_eq, eq_by_cmp, ordering_reverse}
use Rattle.std.specs.Cmp.Lexicographic.{nat_list_cmp_total}
use Rattle.std.specs.FinMap.{FinMap, empty, entries, keys, entries_sorted, from_entries, from_entries_push, get-from_entries, get-entries, same_map, slice_cmp-IsAntisymmetric, nat_cmp-IsAntisymmetric}
use Rattle.std.specs.FinMap.Entries.{find, is_sorted, below_all}
use Rattle.std.proofs.lemmas.Bool.{and_parts}
use Rattle.std.proofs.lemmas.List.{append_assoc}
use Rattle.plain_data.specs.Texts.{Text}
use Rattle.post_tables.specs.Rows.{by_bytes, Named, Names, set_all, put_all}

pub is_true : (b : Bool) → T b → b ≡ true
is_true true h = refl
is_true false h = absurd h

-- what is greater is no equal
pub greater : (x k : Text) → is_lt (by_bytes x k) ≡ true → eq_by_cmp by_bytes k x ≡ false
greater x k less = ap is_eq (nat_list_cmp_total.antisymm k x) ∙ by (by_bytes x k) less
  where
    by : (o : _) → is_lt o ≡ true → is_eq (ordering_reverse o) ≡ false
    by Less h = refl
    by Equal h = absurd (let clash : false ≡ true = h in cc)
    by Greater h = absurd (let clash : false ≡ true = h in cc)

module _ {X : Type 0} where
  -- a key that comes later in a sorted list isn't before
  pub below_later : (x : Text) (xs ys : List (Text × X)) (e : Text × X) → below_all by_bytes x (xs ++ e ∷ ys) ≡ true → is_lt (by_bytes x e.0) ≡ true
  below_later x [] ys e h = (and_parts _ _ h).0
  below_later x (y ∷ xs) ys e h = below_later x xs ys e ((and_parts _ _ h).1)

  not_before : (xs ys : List (Text × X)) (e : Text × X) → is_sorted by_bytes (xs ++ e ∷ ys) ≡ true → find by_bytes e.0 xs ≡ None
  not_before [] ys e h = refl
  not_before (x ∷ xs) ys e h =
      ap (λ b. cond b (Some x.1) (find by_bytes e.0 xs)) (greater x.0 e.0 (below_later x.0 xs ys e ((and_parts _ _ h).0)))
      ∙ not_before xs ys e ((and_parts _ _ h).1)

  entries_back : (m : FinMap by_bytes X) → from_entries (entries m) ≡ m
  entries_back m =
      same_map nat_list_cmp_total (slice_cmp-IsAntisymmetric nat_cmp-IsAntisymmetric) _ _
      (λ q. get-from_entries nat_list_cmp_total (entries m) q ∙ sym (get-entries m q))

set_on : (xs ys : List (Text × Text)) → is_sorted by_bytes (xs ++ ys) ≡ true → set_all ys (from_entries xs) ≡ from_entries (xs ++ ys)
set_on xs [] h = ap from_entries (sym (append-nil xs))
set_on xs (e ∷ ys) h =
    let regroup = append_assoc xs (e ∷ []) ys in
    ap (set_all ys) (sym (from_entries_push nat_list_cmp_total (slice_cmp-IsAntisymmetric nat_cmp-IsAntisymmetric) xs e.0 e.1 (not_before xs ys e h)))
    ∙ set_on (xs ++ e ∷ []) ys (ap (is_sorted by_bytes) regroup ∙ h)
    ∙ ap from_entries regroup

-- texts under names, set again
pub set-again : (m : Named) → set_all (entries m) empty ≡ m
set-again m = set_on [] (entries m) (is_true _ (entries_sorted m)) ∙ entries_back m

put_on : (xs ys : List (Text × (Unit {0}))) → is_sorted by_bytes (xs ++ ys) ≡ true → put_all (map (λ e. e.0) ys) (from_entries xs) ≡ from_entries (xs ++ ys)
put_on xs [] h = ap from_entries (sym (append-nil xs))
put_on xs (e ∷ ys) h =
    let regroup = append_assoc xs (e ∷ []) ys in
    ap (put_all (map (λ e. e.0) ys)) (sym (from_entries_push nat_list_cmp_total (slice_cmp-IsAntisymmetric nat_cmp-IsAntisymmetric) xs e.0 e.1 (not_before xs ys e h)))
    ∙ put_on (xs ++ e ∷ []) ys (ap (is_sorted by_bytes) regroup ∙ h)
    ∙ ap from_entries regroup

-- names, put again
pub put-again : (m : Names) → put_all (keys m) empty ≡ m
put-again m = put_on [] (entries m) (is_true _ (entries_sorted m)) ∙ entries_back m
