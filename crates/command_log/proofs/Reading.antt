-- What the queries of lines return.
use Rattle.std.proofs.Common.{◌≡◌, ◌⊎◌, ◌<◌, inl, inr, ℕ, ℤ, pos, length, get_or, All, List, [], ◌∷◌, map, filter, true, false, Bool, ◌&&◌, Some, cond}
use Rattle.std.proofs.Common.{Ordering, Less, Equal, Greater, refl, sym, ap, subst, ◌∙◌}
use Rattle.std.specs.Prelude.{IsTrue, IsUtf8}
use Rattle.std.proofs.lemmas.List.{get_or-map, length-map}
use Rattle.std.proofs.lemmas.List.Elements.{All-get_or}
use Rattle.sqlite.specs.declared.error.Error.{Error}
use Rattle.sqlite.specs.declared.error.Error.TheVariants.{SqliteFailure, Utf8Error}
use Rattle.sqlite.specs.declared.error.ErrorCode.TheVariants.{OutOfMemory}
use Rattle.command_log.specs.Faults.{AreText}
use Rattle.std.specs.List.{AllByRecursion, IsDistinct}
use Rattle.std.specs.Ordering.{is_eq, is_lt, int_cmp, eq_by_cmp, ordering_reverse}
use Rattle.std.proofs.lemmas.Cmp.{int_cmp_total}
use Rattle.sqlite.specs.Order.{Row}
use Rattle.sqlite.specs.Tree.{Trees, rowid, IsTable}
use Rattle.sqlite.specs.Query.{IsAnswer, output, output_cmp, page, Output, as_count, limited}
use Rattle.sqlite.specs.Program.{overlay}
use Rattle.sqlite.specs.Term.{Term, lit, col}
use Rattle.sqlite.specs.Command.TheVariants.{Select}
use Rattle.sqlite_value.specs.declared.value.Value.TheVariants.{Null, Int}
use Rattle.sqlite_value.specs.declared.keys.Collation.TheVariants.{Binary}
use Rattle.sqlite_value.specs.Order.{value_cmp}
use Rattle.sqlite_value.proofs.OrderLemmas.{value_cmp-Int, then-Equal}
use Rattle.sqlite_sql.specs.Ops.{binary, from_truth, is_true, test}
use Rattle.sqlite_sql.specs.declared.ops.BinaryOp.TheVariants.{Compare}
use Rattle.sqlite_sql.specs.declared.ops.CompareOp.TheVariants.{Gt}
use Rattle.sqlite_trees.specs.View.{is_int}
use Rattle.sqlite_rules.specs.Edit.{id_in}
use Rattle.sqlite_rules.proofs.TableLemmas.{int_is}
use Rattle.sqlite_rules.proofs.ListLemmas.{all_has, all_from, has_filtered}
use Rattle.sqlite.specs.State.{State, Shown}
use Rattle.sqlite.proofs.Callers.{reads_as}
use Rattle.table_rows.specs.Sorting.{in_order, put_sorted}
use Rattle.table_rows.proofs.Answering as answering
use Rattle.command_log.specs.Table.{log_schema}
use Rattle.command_log.specs.Lines.{HoldsTable, IsLineRow, is_past, rows_after, row_of_query, text_in}
use Rattle.command_log.proofs.Texts.{first_text, later_text, query, projects, orders, wheres, names, first_is, first_plain, later_is, later_plain}

-- a list that rises is in order
sorted_is : {X : Type 0} (R : X → X → Ordering) (f : Row → X) (rows : List Row) → IsTable rows → ((a b : Row) → value_cmp (rowid a) (rowid b) ≡ Less
    → R (f a) (f b) ≡ Less)
    → in_order R (map f rows) ≡ map f rows
sorted_is R f [] up less = refl
sorted_is R f (r ∷ []) up less = refl
sorted_is R f (r ∷ y ∷ rows) up less =
    let later = sorted_is R f (y ∷ rows) up.1 less in
    let first : R (f r) (f y) ≡ Less = less r y up.0.0 in
    ap (put_sorted R (f r)) later ∙ rw first refl

table_filter : (f : Row → Bool) (rows : List Row) → IsTable rows → IsTable (filter f rows)
table_filter f [] up = tt
table_filter f (r ∷ rows) up =
    let later = table_filter f rows up.1 in
    elim (f r) as (λ b. IsTable (cond b (r ∷ filter f rows) (filter f rows)))
    [ true ↦ (all_from _ (filter f rows) (λ q h. all_has _ rows q up.0 (has_filtered f rows q h).0), later) | false ↦ later ]

pub every : (rows : List Row) → filter (λ r. true) rows ≡ rows
every [] = refl
every (r ∷ rows) = ap (λ l. r ∷ l) (every rows)

module _ (tests : List Term) (limit : Term) (params : Row) where
  abbrev out : Row → Output
  out r = output (query tests limit) (params ∷ r ∷ [])

  abbrev passes : Row → Bool
  passes = answering.passes 0 tests projects [] orders limit (lit (Int (pos 0))) (λ _. []) params

  by_number : (a b : Row) → value_cmp (rowid a) (rowid b) ≡ Less → output_cmp (query tests limit) (out a) (out b) ≡ Less
  by_number a b low = then-Equal (value_cmp (rowid a) (rowid b)) ∙ low

  apart : (rows : List Row) → IsTable rows → IsDistinct (eq_by_cmp (output_cmp (query tests limit))) (map out rows)
  unfolding IsDistinct
  apart [] up = tt
  apart (r ∷ rows) up = (each rows up.0, apart rows up.1)
    where
      each : (xs : List Row) → AllByRecursion (λ b. value_cmp (rowid r) (rowid b) ≡ Less) xs
          → AllByRecursion (λ o. eq_by_cmp (output_cmp (query tests limit)) (out r) o ≡ false) (map out xs)
      each [] all = tt
      each (b ∷ xs) all = (ap is_eq (by_number r b all.0), each xs all.1)

  shown_are : (rows : List Row) → map (λ (o : Output). o.1) (map out rows) ≡ map row_of_query rows
  shown_are [] = refl
  shown_are (r ∷ rows) = ap (λ l. row_of_query r ∷ l) (shown_are rows)

  -- the rows that pass, in order, up to the limit
  shows : (db : Trees) (rows : List Row) → IsTable (db 0) → IsAnswer (query tests limit) db params rows → rows
      ≡ page (query tests limit) params (map row_of_query (filter passes (db 0)))
  shows db rows up a =
      let kept : List Row = filter passes (db 0) in
      let rising : IsTable kept = table_filter passes (db 0) up in
      answering.answer_is 0 tests projects [] orders limit (lit (Int (pos 0))) db params rows a (apart kept rising)
      ∙ ap (λ l. page (query tests limit) params (map (λ (o : Output). o.1) l)) (sorted_is (output_cmp (query tests limit)) out kept rising by_number)
      ∙ ap (page (query tests limit) params) (shown_are kept)

pub reads_first : (old new : State) (limit : ℤ) (rows : List Row) → HoldsTable old.now → Shown first_text (Int limit ∷ []) old new rows
    → rows ≡ limited (as_count (Int limit)) (map row_of_query (old.now.trees 0))
reads_first old new limit rows holds h =
    let params : Row = Int limit ∷ [] in
    let db = old.now.trees in
    let read = reads_as first_text params old new log_schema holds.schema_is (Select (record { lets = []; body = query [] (col 0 0) }) names) first_is.0
    first_plain first_is.1 rows h in
    shows [] (col 0 0) params (overlay db []) rows holds.rising.0 (read.answer Null) ∙ ap (λ l. limited (as_count (Int limit)) (map row_of_query l))
    (every (db 0))

-- ---- the test of WHERE

above : (o : Ordering) → (is_true (from_truth (Some (test Gt (ordering_reverse o)))) && true) ≡ is_lt o
above Less = refl
above Equal = refl
above Greater = refl

number_above : (n m : ℤ) → (is_true (binary (Compare Gt Binary) (Int m) (Int n)) && true) ≡ is_lt (int_cmp n m)
unfolding binary
number_above n m = ap (λ o. is_true (from_truth (Some (test Gt o))) && true) (value_cmp-Int m n ∙ int_cmp_total.antisymm m n) ∙ above (int_cmp n m)

past_is : (n : ℤ) (r : Row) → IsTrue (is_int (rowid r)) → (is_true (binary (Compare Gt Binary) (rowid r) (Int n)) && true) ≡ is_past n r
past_is n r keyed = subst (λ v. (is_true (binary (Compare Gt Binary) v (Int n)) && true) ≡ is_past n r) (sym (int_is (rowid r) keyed))
    (number_above n (id_in (rowid r)))

past_are : (n limit : ℤ) (rows : List Row) → AllByRecursion (λ r. IsTrue (is_int (rowid r))) rows → filter (passes wheres (col 0 1) (Int n ∷ Int limit ∷ []))
    rows ≡ filter (is_past n) rows
past_are n limit [] keyed = refl
past_are n limit (r ∷ rows) keyed =
    let later = past_are n limit rows keyed.1 in
    ap (λ l. cond (passes wheres (col 0 1) (Int n ∷ Int limit ∷ []) r) (r ∷ l) l) later
    ∙ ap (λ b. cond b (r ∷ filter (is_past n) rows) (filter (is_past n) rows)) (past_is n r keyed.0)

pub reads_later : (old new : State) (n limit : ℤ) (rows : List Row) → HoldsTable old.now → Shown later_text (Int n ∷ Int limit ∷ []) old new rows
    → rows ≡ limited (as_count (Int limit)) (map row_of_query (rows_after (Some n) (old.now.trees 0)))
reads_later old new n limit rows holds h =
    let params : Row = Int n ∷ Int limit ∷ [] in
    let db = old.now.trees in
    let read = reads_as later_text params old new log_schema holds.schema_is (Select (record { lets = []; body = query wheres (col 0 1) }) names) later_is.0
    later_plain later_is.1 rows h in
    shows wheres (col 0 1) params (overlay db []) rows holds.rising.0 (read.answer Null) ∙ ap (λ l. limited (as_count (Int limit)) (map row_of_query l))
    (past_are n limit (db 0) holds.rising.1)

-- ---- the rows as lines

pub line_at : (rows : List Row) (i : ℕ) (row : Row) → i < length rows → row ≡ get_or rows i row → All IsLineRow rows → IsLineRow row
line_at rows i row low is all = subst IsLineRow (sym is) (All-get_or IsLineRow rows i row low all)

not_all : (rows : List Row) (i : ℕ) (row : Row) → i < length rows → row ≡ get_or rows i row → ¬ IsUtf8 (text_in row) → ¬ AreText (map text_in rows)
not_all rows i row low is bad all =
    bad (subst IsUtf8 (get_or-map text_in rows i row (text_in row) low ∙ ap text_in (sym is)) (All-get_or IsUtf8 (map text_in rows) i (text_in row)
    (subst (λ n. i < n) (sym (length-map rows text_in)) low) all))

pub no_text : (rows : List Row) (i : ℕ) (row : Row) → i < length rows → row ≡ get_or rows i row → (e : Error) → (e ≡ SqliteFailure OutOfMemory)
    ⊎ ((e ≡ Utf8Error 1) × ¬ IsUtf8 (text_in row))
    → (e ≡ SqliteFailure OutOfMemory) ⊎ ((e ≡ Utf8Error 1) × ¬ AreText (map text_in rows))
no_text rows i row low is e (inl memory) = inl memory
no_text rows i row low is e (inr bad) = inr (bad.0, not_all rows i row low is bad.1)
