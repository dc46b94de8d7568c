-- What a batch leaves: the lines after its last one are those that it did not return.
use Rattle.std.proofs.Common.{◌≡◌, ℕ, zero, suc, ℤ, List, [], ◌∷◌, map, filter, take, drop, fold, true, false, Bool, Option, None, Some, cond, Ordering, Less}
use Rattle.std.proofs.Common.{Equal, Greater, refl, sym, ap, subst, subst₂, ◌∙◌}
use Rattle.std.specs.Prelude.{IsTrue}
use Rattle.std.specs.List.{AllByRecursion}
use Rattle.std.specs.Ordering.{is_lt, int_cmp, ordering_reverse}
use Rattle.std.proofs.lemmas.Cmp.{int_cmp_total, tied_itself}
use Rattle.std.proofs.lemmas.List.{take-map, drop-map}
use Rattle.sqlite.specs.Order.{Row}
use Rattle.sqlite.specs.Query.{limited}
use Rattle.sqlite.specs.Tree.{rowid}
use Rattle.sqlite_value.specs.Order.{value_cmp}
use Rattle.sqlite_value.proofs.OrderLemmas.{value_cmp-Int}
use Rattle.sqlite_trees.specs.View.{is_int}
use Rattle.sqlite_rules.specs.Edit.{id_in}
use Rattle.sqlite_rules.proofs.TableLemmas.{int_is}
use Rattle.command_log.proofs.Reading.{every}
use Rattle.command_log.specs.Lines.{IsRising, is_past, rows_after, row_of_query, text_in, line_in, sum_in, digest_in, place_after}

abbrev number : Row → ℤ
number r = id_in (rowid r)

abbrev after : Option ℤ → Row → Bool
after None r = true
after (Some n) r = is_past n r

abbrev last : Option ℤ → List Row → Option ℤ
last = fold (λ _ r. Some (number r))

abbrev AreAbove : Row → List Row → Type 0
AreAbove r = AllByRecursion (λ y. int_cmp (number r) (number y) ≡ Less)

-- ---- numbers

lt_is : (o : Ordering) → is_lt o ≡ true → o ≡ Less
lt_is Less h = refl
lt_is Equal h = absurd cc
lt_is Greater h = absurd cc

all_above : (r : Row) → IsTrue (is_int (rowid r)) → (rows : List Row) → AllByRecursion (λ y. value_cmp (rowid r) (rowid y) ≡ Less) rows
    → AllByRecursion (λ y. IsTrue (is_int (rowid y))) rows
    → AreAbove r rows
all_above r keyed [] low each = tt
all_above r keyed (y ∷ rows) low each = (
  sym (value_cmp-Int (number r) (number y)) ∙ subst₂ (λ v w. value_cmp v w ≡ Less) (int_is (rowid r) keyed) (int_is (rowid y) each.0) low.0,
  all_above r keyed rows low.1 each.1,
)

further : (place : Option ℤ) (r y : Row) → after place r ≡ true → int_cmp (number r) (number y) ≡ Less → after place y ≡ true
further None r y held low = refl
further (Some n) r y held low = ap is_lt (int_cmp_total.trans n (number r) (number y) (lt_is (int_cmp n (number r)) held) low)

keeps : (place : Option ℤ) (r : Row) (rows : List Row) → after place r ≡ true → AreAbove r rows → filter (after place) rows ≡ rows
keeps place r [] held low = refl
keeps place r (y ∷ rows) held low =
    ap (λ b. cond b (y ∷ filter (after place) rows) (filter (after place) rows)) (further place r y held low.0)
    ∙ ap (λ l. y ∷ l) (keeps place r rows held low.1)

past_all : (r : Row) (rows : List Row) → AreAbove r rows → filter (is_past (number r)) rows ≡ rows
past_all r [] low = refl
past_all r (y ∷ rows) low =
    ap (λ b. cond b (y ∷ filter (is_past (number r)) rows) (filter (is_past (number r)) rows)) (ap is_lt low.0) ∙ ap (λ l. y ∷ l) (past_all r rows low.1)

-- a row is not after rows above it, nor after itself
not_past : (place : Option ℤ) (r : Row) (rows : List Row) → after place r ≡ false → AreAbove r rows → after (last place rows) r ≡ false
not_past place r [] not_yet low = not_yet
not_past place r (y ∷ rows) not_yet low =
    let back : int_cmp (number y) (number r) ≡ Greater = int_cmp_total.antisymm (number y) (number r) ∙ ap ordering_reverse low.0 in
    not_past (Some (number y)) r rows (ap is_lt back) low.1

pub all_taken : (P : Row → Type 0) (k : ℕ) (rows : List Row) → AllByRecursion P rows → AllByRecursion P (take k rows)
all_taken P zero rows all = tt
all_taken P (suc k) [] all = tt
all_taken P (suc k) (r ∷ rows) all = (all.0, all_taken P k rows all.1)

pub all_kept : (P : Row → Type 0) (f : Row → Bool) (rows : List Row) → AllByRecursion P rows → AllByRecursion P (filter f rows)
all_kept P f [] all = tt
all_kept P f (r ∷ rows) all =
    let later = all_kept P f rows all.1 in elim (f r) as (λ b. AllByRecursion P (cond b (r ∷ filter f rows) (filter f rows)))
    [ true ↦ (all.0, later) | false ↦ later ]

-- ---- what is left

none_left : (place : Option ℤ) (k : ℕ) → filter (after (last place (take k []))) [] ≡ drop k []
none_left place zero = refl
none_left place (suc k) = refl

left_over : (place : Option ℤ) (rows : List Row) → IsRising rows → (k : ℕ) → filter (after (last place (take k (filter (after place) rows)))) rows
    ≡ drop k (filter (after place) rows)
left_over place [] up k = none_left place k
left_over place (r ∷ rows) up k = go (after place r) refl k (left_over place rows (up.0.1, up.1.1)) (left_over (Some (number r)) rows (up.0.1, up.1.1))
  where
    kept : List Row
    kept = filter (after place) rows

    above : AreAbove r rows
    above = all_above r up.1.0 rows up.0.0 up.1.1

    above_kept : (n : ℕ) → AreAbove r (take n kept)
    above_kept n = all_taken _ n kept (all_kept _ (after place) rows above)

    itself : is_past (number r) r ≡ false
    itself = ap is_lt (tied_itself int_cmp_total (number r))

    Leaves : Option ℤ → Type 0
    Leaves q = (n : ℕ) → filter (after (last q (take n (filter (after q) rows)))) rows ≡ drop n (filter (after q) rows)

    go : (b : Bool) → after place r ≡ b → (n : ℕ) → Leaves place → Leaves (Some (number r)) → filter (after (last place (take n (cond b (r ∷ kept) kept))))
        (r ∷ rows) ≡ drop n (cond b (r ∷ kept) kept)
    go false not_yet n here next =
        let rest : List Row = filter (after (last place (take n kept))) rows in
        ap (λ b. cond b (r ∷ rest) rest) (not_past place r (take n kept) not_yet (above_kept n)) ∙ here n
    go true held zero here next = ap (λ b. cond b (r ∷ kept) kept) held
    go true held (suc m) here next =
        let rest : List Row = filter (after (last (Some (number r)) (take m kept))) rows in
        let step : rest ≡ drop m kept = subst (λ l. filter (after (last (Some (number r)) (take m l))) rows ≡ drop m l) (past_all r rows above
        ∙ sym (keeps place r rows held above)) (next m) in
        ap (λ b. cond b (r ∷ rest) rest) (not_past (Some (number r)) r (take m kept) itself (above_kept m)) ∙ step

after_is : (place : Option ℤ) (rows : List Row) → filter (after place) rows ≡ rows_after place rows
after_is None rows = every rows
after_is (Some n) rows = refl

last_shown : (place : Option ℤ) (rows : List Row) → place_after place (map row_of_query rows) ≡ last place rows
last_shown place [] = refl
last_shown place (r ∷ rows) = last_shown (Some (number r)) rows

-- ---- what a query shows

pub texts_of : (xs : List Row) → map text_in (map row_of_query xs) ≡ map line_in xs
texts_of [] = refl
texts_of (r ∷ xs) = ap (λ l. line_in r ∷ l) (texts_of xs)

pub sums_of : (xs : List Row) → map sum_in (map row_of_query xs) ≡ map digest_in xs
sums_of [] = refl
sums_of (r ∷ xs) = ap (λ l. digest_in r ∷ l) (sums_of xs)

module _ (place : Option ℤ) (rows : List Row) (up : IsRising rows) where
  pub left_rows : (n : ℕ) → rows_after (place_after place (take n (map row_of_query (rows_after place rows)))) rows ≡ drop n (rows_after place rows)
  left_rows n =
      let all : List Row = rows_after place rows in
      let next : place_after place (take n (map row_of_query all)) ≡ last place (take n all) = ap (place_after place) (take-map row_of_query n all)
      ∙ last_shown place (take n all) in
      ap (λ q. rows_after q rows) next ∙ sym (after_is (last place (take n all)) rows)
      ∙ subst (λ l. filter (after (last place (take n l))) rows ≡ drop n l) (after_is place rows) (left_over place rows up n)

  pub left : (n : ℕ) → map line_in (rows_after (place_after place (take n (map row_of_query (rows_after place rows)))) rows)
      ≡ drop n (map line_in (rows_after place rows))
  left n = ap (map line_in) (left_rows n) ∙ sym (drop-map line_in n (rows_after place rows))

  pub texts : (count : Option ℕ) → map text_in (limited count (map row_of_query (rows_after place rows))) ≡ limited count (map line_in (rows_after place rows))
  texts None = texts_of (rows_after place rows)
  texts (Some n) = sym (take-map text_in n (map row_of_query (rows_after place rows))) ∙ ap (take n) (texts_of (rows_after place rows))
