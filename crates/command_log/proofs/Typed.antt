-- The rows of a log can be read: each has a number and a text.
use Rattle.std.proofs.Common.{◌≡◌, ℕ, ℤ, List, [], ◌∷◌, map, true, false, Bool, not, ◌&&◌, codes, Option, None, Some, All, refl, sym}
use Rattle.std.proofs.Common.{true≢false}
use Rattle.std.specs.Prelude.{IsTrue}
use Rattle.std.specs.List.{AllByRecursion}
use Rattle.std.proofs.lemmas.Bool.{and_parts}
use Rattle.std.proofs.lemmas.List.Elements.{All-from_recursion}
use Rattle.sqlite.specs.Order.{Row}
use Rattle.sqlite.specs.Query.{limited}
use Rattle.sqlite.specs.Tree.{Trees, rowid}
use Rattle.sqlite_value.specs.declared.value.Value.TheVariants.{Null, Int, Real, Text, Blob}
use Rattle.sqlite_value.specs.Order.{column}
use Rattle.sqlite_trees.specs.View.{is_int}
use Rattle.sqlite_rules.specs.Edit.{id_in}
use Rattle.sqlite_rules.proofs.TableLemmas.{int_is}
use Rattle.sqlite_schema.specs.declared.schema.Constraint.TheVariants.{Datatype, NotNull}
use Rattle.sqlite_schema.specs.Rules.{passes, suits}
use Rattle.sqlite_sql.specs.Ops.{is_null}
use Rattle.sqlite_schema.specs.declared.schema.Column.{Column}
use Rattle.sqlite.specs.Kind.TheVariants as kind
use Rattle.sqlite_catalog.specs.Listing.{IsSound}
use Rattle.command_log.specs.Table.{log_schema, command_table, plain_column}
use Rattle.command_log.specs.Lines.{IsRising, IsLineRow, rows_after, is_past, row_of_query}
use Rattle.command_log.proofs.Batches.{all_kept, all_taken}

abbrev HasText : Row → Type 0
HasText r = (t : List ℕ) × (column r 2 ≡ Text t)

abbrev HasSum : Row → Type 0
HasSum r = (t : List ℕ) × (column r 3 ≡ Blob t)

abbrev text_column : Column
text_column = plain_column (codes "line") kind.Text true

last_false : (x : Bool) → (x && false) ≡ true → ⊥
last_false true h = true≢false (sym h)
last_false false h = true≢false (sym h)

never_suits : (x y : Bool) → ((x && (y && false)) && true) ≡ true → ⊥
never_suits true true h = true≢false (sym h)
never_suits true false h = true≢false (sym h)
never_suits false y h = true≢false (sym h)

module _ (db : Trees) where
  text_at : (r : Row) → passes Datatype log_schema db command_table r ≡ true → passes NotNull log_schema db command_table r ≡ true → HasText r
  text_at [] typed present = absurd (true≢false (sym present))
  text_at (a ∷ []) typed present = absurd (true≢false (sym present))
  text_at (a ∷ b ∷ []) typed present = absurd (true≢false (sym present))
  text_at (a ∷ b ∷ Null ∷ rest) typed present = absurd (true≢false (sym present))
  text_at (a ∷ b ∷ Int n ∷ rest) typed present = absurd (true≢false (sym (and_parts _ _ (and_parts _ _ typed).0).1))
  text_at (a ∷ b ∷ Real x ∷ rest) typed present = absurd (true≢false (sym (and_parts _ _ (and_parts _ _ typed).0).1))
  text_at (a ∷ b ∷ Blob x ∷ rest) typed present = absurd (true≢false (sym (and_parts _ _ (and_parts _ _ typed).0).1))
  text_at (a ∷ b ∷ Text t ∷ rest) typed present = (t, refl)

  sum_at : (r : Row) → passes Datatype log_schema db command_table r ≡ true → passes NotNull log_schema db command_table r ≡ true → HasSum r
  sum_at [] typed present = absurd (true≢false (sym present))
  sum_at (a ∷ []) typed present = absurd (true≢false (sym present))
  sum_at (a ∷ b ∷ []) typed present = absurd (true≢false (sym present))
  sum_at (a ∷ b ∷ c ∷ []) typed present = absurd (last_false (not (is_null c)) present)
  sum_at (a ∷ b ∷ c ∷ Null ∷ rest) typed present = absurd (last_false (not (is_null c)) present)
  sum_at (a ∷ b ∷ c ∷ Int n ∷ rest) typed present = absurd (never_suits (is_null b) (suits text_column c) typed)
  sum_at (a ∷ b ∷ c ∷ Real x ∷ rest) typed present = absurd (never_suits (is_null b) (suits text_column c) typed)
  sum_at (a ∷ b ∷ c ∷ Text x ∷ rest) typed present = absurd (never_suits (is_null b) (suits text_column c) typed)
  sum_at (a ∷ b ∷ c ∷ Blob t ∷ rest) typed present = (t, refl)

  line_rows : (rows : List Row) → AllByRecursion (λ r. passes Datatype log_schema db command_table r ≡ true) rows
      → AllByRecursion (λ r. passes NotNull log_schema db command_table r ≡ true) rows
      → AllByRecursion (λ r. IsTrue (is_int (rowid r))) rows → AllByRecursion (λ r. IsLineRow (row_of_query r)) rows
  line_rows [] typed present keyed = tt
  line_rows (r ∷ rows) typed present keyed = (
    record { width = refl; number = (id_in (rowid r), int_is (rowid r) keyed.0); text = text_at r typed.0 present.0; sum = sum_at r typed.0 present.0 },
    line_rows rows typed.1 present.1 keyed.1,
  )

all_after : (P : Row → Type 0) (place : Option ℤ) (rows : List Row) → AllByRecursion P rows → AllByRecursion P (rows_after place rows)
all_after P None rows all = all
all_after P (Some n) rows all = all_kept P (is_past n) rows all

all_shown : (rows : List Row) → AllByRecursion (λ r. IsLineRow (row_of_query r)) rows → AllByRecursion IsLineRow (map row_of_query rows)
all_shown [] all = tt
all_shown (r ∷ rows) all = (all.0, all_shown rows all.1)

all_limited : (P : Row → Type 0) (count : Option ℕ) (rows : List Row) → AllByRecursion P rows → AllByRecursion P (limited count rows)
all_limited P None rows all = all
all_limited P (Some n) rows all = all_taken P n rows all

pub all_lines : (db : Trees) → IsSound log_schema db → IsRising (db 0) → (place : Option ℤ) (count : Option ℕ)
    → All IsLineRow (limited count (map row_of_query (rows_after place (db 0))))
all_lines db sound up place count =
    let rows = line_rows db (db 0) (sound.obeys.rules Datatype).0 (sound.obeys.rules NotNull).0 up.1 in
    All-from_recursion IsLineRow _ (all_limited IsLineRow count _ (all_shown (rows_after place (db 0)) (all_after _ place (db 0) rows)))
