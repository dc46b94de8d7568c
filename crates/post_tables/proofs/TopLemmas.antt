-- What the query of the largest ID returns.
use Rattle.std.proofs.Common.{◌≡◌, ◌<◌, ◌^◌, ℕ, pos, negsuc, List, [], ◌∷◌, map, filter, Bool, true, false, codes, Ok, Err, Result, IfOk, Vec, refl, sym}
use Rattle.std.proofs.Common.{ap, subst, ◌∙◌}
use Rattle.std.specs.declared.alloc.Global.{Global}
use Rattle.std.specs.List.{IsDistinct}
use Rattle.std.specs.Ordering.{eq_by_cmp}
use Rattle.sqlite.specs.Order.{Row}
use Rattle.sqlite.specs.declared.error.Error.{Error}
use Rattle.sqlite.specs.Term.{Term, lit, col}
use Rattle.sqlite_sql.specs.Term.{op2}
use Rattle.sqlite.specs.Tree.{Trees}
use Rattle.sqlite.specs.Query.{Query, IsAnswer, output, output_cmp, Output}
use Rattle.sqlite.specs.Program.{overlay}
use Rattle.sqlite.specs.Command.TheVariants.{Select}
use Rattle.sqlite.specs.Listing.{understood, reads_listing}
use Rattle.sqlite_value.specs.declared.value.Value.TheVariants.{Null, Int, Text}
use Rattle.sqlite_value.specs.declared.keys.Collation.TheVariants.{Binary}
use Rattle.sqlite_value.specs.Order.{column}
use Rattle.sqlite_sql.specs.declared.ops.BinaryOp.TheVariants.{Compare}
use Rattle.sqlite_sql.specs.declared.ops.CompareOp.TheVariants.{Eq}
use Rattle.sqlite_trees.specs.declared.memory.MemStore.{MemStore}
use Rattle.sqlite_tied.specs.Compute.{everything}
use Rattle.sqlite.specs.Held.{Held, state}
use Rattle.sqlite.specs.Steps.{over_memory}
use Rattle.sqlite.specs.State.{Shown}
use Rattle.sqlite.proofs.Callers.{IsPlain, command_of, reads_as}
use Rattle.post_tables.specs.Schema.{site_schema}
use Rattle.table_rows.specs.Sorting.{in_order}
use Rattle.post_tables.specs.Stored.{IsSite, rows_of, trees_of, IsCounter, top_in}
use Rattle.post_tables.specs.Reading.{IsTop, IsTopRow}
use Rattle.post_tables.proofs.Comparing.{equal_text}
use Rattle.table_rows.proofs.Answering as reading
use Rattle.post_tables.proofs.Refusing.{IsWhole, IsSafe}

abbrev wheres : List Term
wheres = op2 (Compare Eq Binary) (col 1 1) (lit (Text (codes "post"))) ∷ []

abbrev query : Query
query = reading.query 1 wheres (col 1 2 ∷ []) [] [] (lit (Int (negsuc 0))) (lit (Int (pos 0)))

abbrev pub top_text : List ℕ
top_text = codes "SELECT seq FROM sqlite_sequence WHERE name = 'post'"

top_is : (command_of (understood site_schema top_text) ≡ Select (record { lets = []; body = query }) (codes "seq" ∷ []))
    × (reads_listing site_schema top_text ≡ false)
unfolding understood everything
top_is = (refl, refl)

pub top_plain : IsPlain (understood site_schema top_text)
unfolding understood everything
top_plain = (refl, refl)

top_whole : IsWhole top_text 0 (understood site_schema top_text)
unfolding understood everything
top_whole = (refl, refl)

pub top_safe : IsSafe top_text []
top_safe = record {
  query = query;
  names = codes "seq" ∷ [];
  is = top_is.0;
  unlisted = top_is.1;
  plain = top_plain;
  whole = top_whole;
  typed = refl;
  sums = λ db. reading.never_sums 1 wheres (col 1 2 ∷ []) [] [] (lit (Int (negsuc 0))) (lit (Int (pos 0))) db [];
}

abbrev shows : Row → Output
shows r = output query ([] ∷ r ∷ [])

abbrev passes : Row → Bool
passes = reading.passes 1 wheres (col 1 2 ∷ []) [] [] (lit (Int (negsuc 0))) (lit (Int (pos 0))) (λ _. []) []

no_ties : IsDistinct (eq_by_cmp (output_cmp query)) []
unfolding IsDistinct
no_ties = tt

one_alone : (o : Output) → IsDistinct (eq_by_cmp (output_cmp query)) (o ∷ [])
unfolding IsDistinct
one_alone o = (tt, tt)

answered : (db : Trees) (stored rows : List Row) → db 1 ≡ stored → IsCounter stored → IsAnswer query db [] rows → IsTop rows (top_in stored)
answered db [] rows e is a =
    let none : map shows (filter passes (db 1)) ≡ [] = ap (λ l. map shows (filter passes l)) e in
    let all = reading.answer_is 1 wheres (col 1 2 ∷ []) [] [] (lit (Int (negsuc 0))) (lit (Int (pos 0))) db [] rows a
    (subst (IsDistinct (eq_by_cmp (output_cmp query))) (sym none) no_ties) in
    let is_nil : rows ≡ [] = all ∙ ap (λ l. map (λ (o : Output). o.1) (in_order (output_cmp query) l)) none in
    subst (λ l. IsTop l 0) (sym is_nil) refl
answered db (r ∷ []) rows e is a =
    let named : column r 1 ≡ Text (codes "post") = ap (λ x. column x 1) is in
    let passed : passes r ≡ true = rw (named, equal_text (codes "post")) refl in
    let one : map shows (filter passes (db 1)) ≡ shows r ∷ [] = ap (λ l. map shows (filter passes l)) e ∙ rw passed refl in
    let all = reading.answer_is 1 wheres (col 1 2 ∷ []) [] [] (lit (Int (negsuc 0))) (lit (Int (pos 0))) db [] rows a
    (subst (IsDistinct (eq_by_cmp (output_cmp query))) (sym one) (one_alone (shows r))) in
    let is_one : rows ≡ (column r 2 ∷ []) ∷ [] = all ∙ ap (λ l. map (λ (o : Output). o.1) (in_order (output_cmp query) l)) one in
    subst (λ l. IsTop l (top_in (r ∷ []))) (sym is_one) (ap (λ x. column x 2) is)
answered db (r ∷ s ∷ stored) rows e is a = absurd is

pub top_rows : (old new : Held MemStore) (r : Result (Vec Row Global) Error) → IsSite old
    → IfOk r (λ rows. Shown top_text [] (state over_memory old) (state over_memory new) rows.items) → IfOk r (λ rows. IsTop rows.items (rows_of old).largest)
top_rows old new (Err e) is ok = tt
top_rows old new (Ok rows) is ok =
    let read = reads_as top_text [] (state over_memory old) (state over_memory new) site_schema is.holds.schema_is
    (Select (record { lets = []; body = query }) (codes "seq" ∷ [])) top_is.0 top_plain top_is.1 rows.items ok in
    answered (overlay (trees_of old) []) (trees_of old 1) rows.items refl is.holds.sound.counter (read.answer Null)

top_row : (n : ℕ) → n < 2 ^ 32 → (rows : List Row) → IsTop rows n → IsTopRow rows
top_row n low [] is = tt
top_row n low (r ∷ []) is = (n, is, low)
top_row n low (r ∷ s ∷ rows) is = absurd is

pub top_readable : (old new : Held MemStore) (r : Result (Vec Row Global) Error) → IsSite old
    → IfOk r (λ rows. Shown top_text [] (state over_memory old) (state over_memory new) rows.items) → IfOk r (λ rows. IsTopRow rows.items)
top_readable old new (Err e) is ok = tt
top_readable old new (Ok rows) is ok = top_row (rows_of old).largest is.holds.sound.bounded rows.items (top_rows old new (Ok rows) is ok)
