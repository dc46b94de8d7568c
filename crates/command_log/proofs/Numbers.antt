-- A new line gets the number after the last, so its row comes after all others.
use Rattle.std.proofs.Common.{◌≡◌, ℤ, pos, ◌+ℤ◌, List, [], ◌∷◌, ◌++◌, fold, map, Less, refl, sym, ap, subst, ◌∙◌}
use Rattle.std.proofs.lemmas.Bool.Decides.{nat_tests}
use Rattle.std.proofs.Common.{arith}
use Rattle.std.proofs.lemmas.Int.{ints}
use Rattle.std.specs.List.{AllByRecursion}
use Rattle.std.specs.Ordering.{int_cmp}
use Rattle.std.specs.Prelude.{IsTrue}
use Rattle.sqlite.specs.Order.{Row}
use Rattle.sqlite_value.specs.declared.value.Value.TheVariants.{Int}
use Rattle.sqlite_value.specs.Order.{value_cmp}
use Rattle.sqlite_value.proofs.OrderLemmas.{value_cmp-Int, value_cmp_total}
use Rattle.sqlite.specs.Tree.{rowid, put_row}
use Rattle.sqlite_trees.specs.View.{is_int}
use Rattle.sqlite_trees.proofs.TreeLemmas.{IsShaped-put_row}
use Rattle.sqlite_rules.specs.Edit.{id_in, next_rowid}
use Rattle.sqlite_rules.proofs.TableLemmas.{int_is}
use Rattle.command_log.specs.Lines.{IsRising}

abbrev number_after : ℤ → List Row → ℤ
number_after = fold (λ n r. id_in (rowid r) +ℤ pos 1)

one_more : (n : ℤ) → int_cmp n (n +ℤ pos 1) ≡ Less
one_more n = grind (arith, ints, nat_tests)

before_next : (r : Row) → IsTrue (is_int (rowid r)) → value_cmp (rowid r) (Int (id_in (rowid r) +ℤ pos 1)) ≡ Less
before_next r keyed =
    subst (λ v. value_cmp v (Int (id_in (rowid r) +ℤ pos 1)) ≡ Less) (sym (int_is (rowid r) keyed))
    (value_cmp-Int (id_in (rowid r)) (id_in (rowid r) +ℤ pos 1) ∙ one_more (id_in (rowid r)))

-- each number is below the next one
pub all_before : (n : ℤ) (r : Row) (rows : List Row) → IsRising (r ∷ rows) → AllByRecursion (λ x. value_cmp (rowid x) (Int (number_after n (r ∷ rows))) ≡ Less)
    (r ∷ rows)
all_before n r [] up = (before_next r up.1.0, tt)
all_before n r (y ∷ rows) up =
    let later = all_before (id_in (rowid r) +ℤ pos 1) y rows (up.0.1, up.1.1) in
    (value_cmp_total.trans (rowid r) (rowid y) _ up.0.0.0 later.0, later)

put_after : (new : Row) (rows : List Row) → AllByRecursion (λ x. value_cmp (rowid x) (rowid new) ≡ Less) rows → put_row new rows ≡ rows ++ new ∷ []
put_after new [] below = refl
put_after new (r ∷ rows) below = rw below.0 (ap (λ l. r ∷ l) (put_after new rows below.1))

abbrev numbered : List Row → Row → Row
numbered rows rest = Int (next_rowid rows) ∷ rest

pub put_last : (rows : List Row) (rest : Row) → IsRising rows → put_row (Int (next_rowid rows) ∷ rest) rows ≡ rows ++ (Int (next_rowid rows) ∷ rest) ∷ []
put_last [] rest up = refl
put_last (r ∷ rows) rest up = put_after (Int (next_rowid (r ∷ rows)) ∷ rest) (r ∷ rows) (all_before (pos 1) r rows up)

pub still_rises : (rows : List Row) (rest : Row) → IsRising rows → IsRising (put_row (Int (next_rowid rows) ∷ rest) rows)
still_rises rows rest up = IsShaped-put_row (Int (next_rowid rows) ∷ rest) rows refl up

pub map_last : {X Y : Type 0} (f : X → Y) (xs : List X) (x : X) → map f (xs ++ x ∷ []) ≡ map f xs ++ f x ∷ []
map_last f [] x = refl
map_last f (y ∷ xs) x = ap (λ l. f y ∷ l) (map_last f xs x)
