-- Why INSERT of a line, and DELETE of all, are refused.
use Rattle.std.proofs.Common.{◌≡◌, ◌⊎◌, inl, inr, ℕ, zero, suc, ◌+◌, ◌^◌, ◌≤◌, ℤ, List, [], ◌∷◌, true, false, Bool, not, ◌&&◌, Ok, Err, Result, Option, Some, None}
use Rattle.std.proofs.Common.{option_map, length, length-append, lit<, lit≤, refl, sym, ap, subst, ◌∙◌, arith}
use Rattle.std.proofs.Common.{true≢false, Less, pos, negsuc}
use Rattle.std.specs.Prelude.{IsSome, nat_lt}
use Rattle.std.specs.List.{AllByRecursion, list_all, list_any}
use Rattle.std.specs.Ordering.{is_eq}
use Rattle.std.specs.Int.{bit_at}
use Rattle.std.specs.Float.Ieee
use Rattle.std.specs.Float.{NotNan, float_zero}
use Rattle.std.proofs.lemmas.Bool.{cases_order}
use Rattle.std.proofs.lemmas.Nat.Bits.{bit_at-zero}
use Rattle.std.proofs.lemmas.List.Elements.{All-from_recursion}
use Rattle.sqlite.specs.Order.{Row}
use Rattle.sqlite.specs.Term.{lit, col}
use Rattle.sqlite.specs.Source.{Source}
use Rattle.sqlite.specs.Source.TheVariants.{Values}
use Rattle.sqlite_schema.specs.declared.program.Program.{Program}
use Rattle.sqlite_value.specs.declared.value.Value.{Value}
use Rattle.sqlite_value.specs.declared.value.Value.TheVariants.{Null, Int, Text, Blob}
use Rattle.sqlite_value.specs.Order.{value_cmp, number}
use Rattle.sqlite.specs.Tree.{Trees, rowid}
use Rattle.sqlite_trees.specs.View.{IsStorableRow}
use Rattle.sqlite_sql.specs.Ops.{fits_i64}
use Rattle.sqlite_typing.specs.Types.{accepts_terms, accepts_program}
use Rattle.sqlite_schema.specs.declared.schema.Constraint.TheVariants.{Datatype, NotNull, Check, PrimaryKey, Unique, ForeignKey}
use Rattle.sqlite_schema.specs.declared.schema.Keys.TheVariants.{Enforced}
use Rattle.sqlite_schema.specs.Rules.{passes, references_fit, table_reals}
use Rattle.sqlite_rules.specs.Lists.{Has}
use Rattle.sqlite_rules.specs.declared.error.Refusal.{Refusal}
use Rattle.sqlite_rules.specs.declared.error.Refusal.TheVariants.{Violates, Mismatch, NoRowid, BadReference, TooDeep}
use Rattle.sqlite_rules.specs.declared.error.Rowids.TheVariants.{Chosen, Given}
use Rattle.sqlite_rules.specs.Edit.{Edit, edit_of, is_taken, have_rowids, are_fresh, next_rowid, id_in, IsRefused, IsOversized}
use Rattle.sqlite_rules.specs.Calls.{ids_of}
use Rattle.sqlite_rules.specs.Action.{Work, Leads, End}
use Rattle.sqlite.specs.declared.error.Error.{Error}
use Rattle.sqlite.specs.declared.error.Error.TheVariants.{SqliteFailure}
use Rattle.sqlite.specs.declared.error.ErrorCode.TheVariants as code
use Rattle.sqlite.specs.Program.{overlay}
use Rattle.sqlite.specs.Effect.{edit_error}
use Rattle.sqlite.specs.Rows.{stamped, Task, Written, Edited, Then, Sourced, Queried, Inserts, Deletes}
use Rattle.sqlite.specs.Does.{Does, Concludes}
use Rattle.sqlite.specs.Listing.{understood}
use Rattle.sqlite.specs.State.{State, mode_of}
use Rattle.sqlite.proofs.Callers.{statement_of}
use Rattle.table_rows.proofs.Casting.{cast_int, cast_null}
use Rattle.table_rows.proofs.Answering as answering
use Rattle.table_rows.proofs.Deleting as deleting
use Rattle.command_log.specs.Table.{log_schema, command_table}
use Rattle.command_log.specs.Lines.{HoldsTable, IsRising}
use Rattle.command_log.specs.Faults.{IsTooLong}
use Rattle.command_log.proofs.Texts.{insert_text, insert_command, insert_at_text, insert_at_command, clear_text, clear_command}
use Rattle.command_log.proofs.Inserting.{rest_of}
use Rattle.command_log.proofs.Numbers.{all_before}

-- ---- what never stops a statement: the log has no index, no CHECK, no foreign key and no count

stopped_by : {A : Type 0} {a b : Option Error} → ◌≡◌ {A = Result A (Option Error)} (Err a) (Err b) → a ≡ b
stopped_by e = cc

ended_by : {a b : Option Refusal} → ◌≡◌ {A = End} (Err a) (Err b) → a ≡ b
ended_by e = cc

all_keep : (rows : List Row) → AllByRecursion (λ r. ◌≡◌ {A = Bool} true true) rows
all_keep [] = tt
all_keep (r ∷ rows) = (refl, all_keep rows)

never_settles : (n : ℕ) (next : Trees) (stack : List Work) (why : Option Refusal) → stack ≡ [] → ¬ Leads log_schema Enforced n next stack (Err why)
never_settles zero next stack why none h = absurd (let e = h.1 in cc)
never_settles (suc n) next stack why none h = omega (arith, ap length (sym h.2 ∙ none), length-append h.0 (h.1 ∷ []))

module _ (old : State) (params : Row) where
  abbrev task : Task
  task = record { limit = old.step_limit; keys = Enforced; schema = log_schema; table = command_table; params = params }

  never_concludes : (w : Written) (stop : Option Error) → ¬ Concludes task (mode_of old) None w (Err stop)
  never_concludes w stop (inl (s, tested, same)) = tested.0 (all_keep (w.trees 0), tt)
  never_concludes w stop (inr (doubt, tested, inl (s, returned, same))) = absurd (let e = returned in cc)
  never_concludes w stop (inr (doubt, tested, inr (rows, returned, gives))) = absurd (let e = gives in cc)

-- ---- INSERT

only : (b : Bool) → (b && true) ≡ false → b ≡ false
only true h = h
only false h = refl

not_taken : (rows : List Row) (v : Value) → AllByRecursion (λ x. value_cmp (rowid x) v ≡ Less) rows → list_any (λ r. is_eq (value_cmp (rowid r) v)) rows ≡ false
not_taken [] v low = refl
not_taken (r ∷ rows) v low = rw low.0 (not_taken rows v low.1)

is_new : (rows : List Row) (rest : Row) → IsRising rows → is_taken rows (Int (next_rowid rows) ∷ rest) ≡ false
is_new [] rest up = refl
is_new (r ∷ rows) rest up = not_taken (r ∷ rows) (Int (next_rowid (r ∷ rows))) (all_before (pos 1) r rows up)

int_is_number : (n : ℤ) → NotNan (number (Int n))
unfolding Ieee.is_nan
int_is_number (pos n) = tt
int_is_number (negsuc n) = tt

zero_is_number : NotNan float_zero
unfolding Ieee.is_nan
zero_is_number = tt

no_bit : (c : ℕ) → ¬ (bit_at 0 c ≡ 1)
no_bit c h = absurd (omega (arith, h, bit_at-zero c))

storable : (n : ℤ) (line sum : List ℕ) → length sum ≡ 32 → 104 + length line ≤ 10 ^ 9 → IsStorableRow (table_reals command_table) (Int n ∷ rest_of line sum)
storable n line sum long small = (
  record {
    typed = λ c bit. absurd (no_bit c bit);
    columns = (lit< tt, lit≤ tt);
    numbers = All-from_recursion (λ v. NotNan (number v)) (Int n ∷ rest_of line sum) (int_is_number n, (zero_is_number, (zero_is_number, (zero_is_number, tt))));
    short = omega (arith, small, long);
  },
  lit< tt,
)

module _ (old : State) (holds : HoldsTable old.now) (line sum : List ℕ) (long : length sum ≡ 32) where
  abbrev rows : List Row
  rows = old.now.trees 0

  -- why a row with this number isn't put: it is too large, its number is, or a limit on steps was met
  abbrev pub PutStops : ℤ → Option Error → Type 0
  PutStops n None = IsTooLong line
  PutStops n (Some e) = ((e ≡ SqliteFailure code.OperationInterrupted) × IsSome old.step_limit)
      ⊎ ((e ≡ SqliteFailure code.NoRowid) × (fits_i64 n ≡ false))

  abbrev put : List Row → Edit
  put sources = edit_of old.now.trees command_table [] Chosen 0 sources

  module _ (n : ℤ) (free : is_taken rows (Int n ∷ rest_of line sum) ≡ false) where
    abbrev new : Row
    new = Int n ∷ rest_of line sum

    module _ (sources : List Row) (news : (put sources).news ≡ new ∷ []) where
      refused : (why : Refusal) → IsRefused log_schema Enforced old.now.trees (put sources) why → PutStops n (Some (edit_error why))
      refused (Violates Datatype) h = absurd (true≢false (subst (λ l. list_all (passes Datatype log_schema old.now.trees command_table) l ≡ false) news h))
      refused (Violates NotNull) h = absurd (true≢false (subst (λ l. list_all (passes NotNull log_schema old.now.trees command_table) l ≡ false) news h))
      refused (Violates Check) h = absurd (true≢false (subst (λ l. list_all (passes Check log_schema old.now.trees command_table) l ≡ false) news h))
      refused (Violates PrimaryKey) h =
          let taken : (not (is_taken rows new) && true) ≡ false = subst (λ l. are_fresh rows l ≡ false) news h in
          absurd (true≢false (subst (λ b. (not b && true) ≡ false) free taken))
      refused (Violates Unique) h = absurd (h (all_keep _, tt))
      refused (Violates ForeignKey) h = absurd h
      refused Mismatch h = absurd (true≢false (subst (λ l. have_rowids l ≡ false) news h))
      refused NoRowid h = inr (refl, only _ (subst (λ l. list_all (λ r. fits_i64 (id_in (rowid r))) l ≡ false) news h))
      refused BadReference h = absurd (true≢false (subst (λ l. references_fit log_schema command_table (nat_lt 0 (length l)) false ≡ false) news h))
      refused TooDeep h = absurd h

      oversized : (row : Row) → Has (put sources).news row → IsOversized log_schema command_table row → IsTooLong line
      oversized row has (inr (i, none, at, other)) = absurd none
      oversized row has (inl unstorable) = elim (subst (λ l. Has l row) news has) [
        | inl is ↦ elim (cases_order (10 ^ 9) (104 + length line)) [
          | inl same ↦ absurd (unstorable (subst (IsStorableRow (table_reals command_table)) (sym is) (storable n line sum long (omega (arith, same)))))
          | inr (inl big) ↦ big
          | inr (inr small) ↦ absurd (unstorable (subst (IsStorableRow (table_reals command_table)) (sym is) (storable n line sum long (omega (arith, small)))))
        ]
        | inr none ↦ absurd none
      ]

      edited : (stop : Option Error) → Edited log_schema Enforced old.now.trees (put sources) (Err stop) → PutStops n stop
      edited stop (why, inl (w, h, same), is) = subst (PutStops n) (sym (is ∙ ap (option_map edit_error) (ended_by same))) (refused w h)
      edited stop (why, inr (inl (row, has, big, same)), is) = subst (PutStops n) (sym (is ∙ ap (option_map edit_error) (ended_by same))) (oversized row has big)
      edited stop (why, inr (inr (next, applies, settles)), is) = absurd (never_settles settles.0 next [] why refl settles.1)

    module _ (given : Row) (source : Source)
        (sourced : (stop : Option Error) → Sourced old.step_limit (record { schema = log_schema; trees = old.now.trees }) (stamped command_table given) source (Err stop)
        → PutStops n stop)
        (gives : (sources : List Row) → Sourced old.step_limit (record { schema = log_schema; trees = old.now.trees }) (stamped command_table given) source (Ok sources)
        → (put sources).news ≡ new ∷ [])
      where
        inserts : (stop : Option Error) → Inserts (task old given) source old.now.trees (Err stop) → PutStops n stop
        inserts stop (inl (s, h, same)) = subst (PutStops n) (sym (stopped_by same)) (sourced s h)
        inserts stop (inr (sources, h, inl (s, counted, same))) = absurd (let e = counted in cc)
        inserts stop (inr (sources, h, inr (c, counted, inl (s, it, same)))) = subst (PutStops n) (sym (stopped_by same)) (edited sources (gives sources h) s it)
        inserts stop (inr (sources, h, inr (c, counted, inr (mid, it, inl (s, counts, same))))) = absurd (let e = counts in cc)
        inserts stop (inr (sources, h, inr (c, counted, inr (mid, it, inr (next, counts, made))))) = absurd (let e = made in cc)

        ends : (stop : Option Error) → Then (Inserts (task old given) source old.now.trees) (Concludes (task old given) (mode_of old) None) (Err stop)
            → PutStops n stop
        ends stop (inl (s, it, same)) = subst (PutStops n) (sym (stopped_by same)) (inserts s it)
        ends stop (inr (w, it, end)) = absurd (never_concludes old given w stop end)

  -- the line after the others
  abbrev given_last : Row
  given_last = Text line ∷ Blob sum ∷ []

  abbrev source_last : Source
  source_last = Values (lit Null ∷ lit Null ∷ col 0 0 ∷ col 0 1 ∷ []) 4

  accepts_last : accepts_terms (lit Null ∷ lit Null ∷ col 0 0 ∷ col 0 1 ∷ []) given_last ≡ true
  accepts_last = refl

  sourced_last : (stop : Option Error) → Sourced old.step_limit (record { schema = log_schema; trees = old.now.trees }) given_last source_last (Err stop)
      → PutStops (next_rowid rows) stop
  sourced_last None h = absurd h
  sourced_last (Some e) (inl typed) = absurd (true≢false (sym accepts_last ∙ typed.1))
  sourced_last (Some e) (inr late) = inl late

  pub put_stops : (stop : Option Error) → Does old.step_limit (mode_of old) given_last old.now (statement_of insert_text (understood log_schema insert_text)) None
      insert_command (Err stop) → PutStops (next_rowid rows) stop
  put_stops stop h =
      ends (next_rowid rows) (is_new rows (rest_of line sum) holds.rising) given_last source_last sourced_last
      (λ sources h. ap (λ all. (put all).news) h.1 ∙ rw cast_null refl) stop
      (subst (λ s. Does old.step_limit (mode_of old) given_last (record old.now { schema = s }) (statement_of insert_text (understood log_schema insert_text)) None
      insert_command (Err stop)) holds.schema_is h)

  -- the first line of a table that has none, with this number
  module _ (n : ℤ) (none : rows ≡ []) where
    abbrev given_at : Row
    given_at = Int n ∷ Text line ∷ Blob sum ∷ []

    abbrev source_at : Source
    source_at = Values (col 0 0 ∷ lit Null ∷ col 0 1 ∷ col 0 2 ∷ []) 4

    accepts_at : accepts_terms (col 0 0 ∷ lit Null ∷ col 0 1 ∷ col 0 2 ∷ []) given_at ≡ true
    accepts_at = refl

    sourced_at : (stop : Option Error) → Sourced old.step_limit (record { schema = log_schema; trees = old.now.trees }) given_at source_at (Err stop)
        → PutStops n stop
    sourced_at None h = absurd h
    sourced_at (Some e) (inl typed) = absurd (true≢false (sym accepts_at ∙ typed.1))
    sourced_at (Some e) (inr late) = inl late

    pub put_at_stops : (stop : Option Error) → Does old.step_limit (mode_of old) given_at old.now (statement_of insert_at_text (understood log_schema insert_at_text))
        None insert_at_command (Err stop) → PutStops n stop
    put_at_stops stop h =
        ends n (ap (λ l. is_taken l (Int n ∷ rest_of line sum)) none) given_at source_at sourced_at
        (λ sources h. ap (λ all. (put all).news) h.1 ∙ rw (cast_int, cast_null) refl) stop
        (subst (λ s. Does old.step_limit (mode_of old) given_at (record old.now { schema = s }) (statement_of insert_at_text (understood log_schema insert_at_text))
        None insert_at_command (Err stop)) holds.schema_is h)

-- ---- DELETE

module _ (old : State) (holds : HoldsTable old.now) where
  -- only a limit on steps stops it
  abbrev pub ClearStops : Option Error → Type 0
  ClearStops None = ⊥
  ClearStops (Some e) = (e ≡ SqliteFailure code.OperationInterrupted) × IsSome old.step_limit

  abbrev cut : List Row → Edit
  cut found = edit_of old.now.trees command_table (ids_of found) Given 0 []

  refers : (b : Bool) → references_fit log_schema command_table false b ≡ true
  refers true = refl
  refers false = refl

  cut_refused : (found : List Row) (why : Refusal) → ¬ IsRefused log_schema Enforced old.now.trees (cut found) why
  cut_refused found (Violates Datatype) h = true≢false h
  cut_refused found (Violates NotNull) h = true≢false h
  cut_refused found (Violates Check) h = true≢false h
  cut_refused found (Violates PrimaryKey) h = true≢false h
  cut_refused found (Violates Unique) h = h (all_keep _, tt)
  cut_refused found (Violates ForeignKey) h = h
  cut_refused found Mismatch h = true≢false h
  cut_refused found NoRowid h = true≢false h
  cut_refused found BadReference h = true≢false (sym (refers (nat_lt 0 (length (ids_of found)))) ∙ h)
  cut_refused found TooDeep h = h

  cut_edited : (found : List Row) (stop : Option Error) → ¬ Edited log_schema Enforced old.now.trees (cut found) (Err stop)
  cut_edited found stop (why, inl (w, h, same), is) = cut_refused found w h
  cut_edited found stop (why, inr (inl (row, has, big, same)), is) = has
  cut_edited found stop (why, inr (inr (next, applies, settles)), is) = never_settles settles.0 next [] why refl settles.1

  abbrev program : Program
  program = record { lets = []; body = deleting.query 0 [] }

  typed : accepts_program log_schema [] (deleting.query 0 []) [] ≡ true
  typed = refl

  queried : (stop : Option Error) → Queried old.step_limit (record { schema = log_schema; trees = old.now.trees }) program [] (Err stop) → ClearStops stop
  queried None h = absurd h
  queried (Some e) (inl mismatch) = absurd (true≢false (sym typed ∙ mismatch.1))
  queried (Some e) (inr (inl sum)) = absurd (answering.never_sums 0 [] (col 1 0 ∷ []) [] [] (lit (Int (negsuc 0))) (lit (Int (pos 0)))
      (overlay old.now.trees []) [] sum.1)
  queried (Some e) (inr (inr late)) = late

  deletes : (stop : Option Error) → Deletes (task old []) program old.now.trees (Err stop) → ClearStops stop
  deletes stop (inl (s, h, same)) = subst ClearStops (sym (stopped_by same)) (queried s h)
  deletes stop (inr (found, h, inl (s, it, same))) = absurd (cut_edited found s it)
  deletes stop (inr (found, h, inr (next, it, gives))) = absurd (let e = gives in cc)

  pub clear_stops : (stop : Option Error) → Does old.step_limit (mode_of old) [] old.now (statement_of clear_text (understood log_schema clear_text)) None
      clear_command (Err stop) → ClearStops stop
  clear_stops stop h = go
      (subst (λ s. Does old.step_limit (mode_of old) [] (record old.now { schema = s }) (statement_of clear_text (understood log_schema clear_text)) None
      clear_command (Err stop)) holds.schema_is h)
    where
      go : Then (Deletes (task old []) program old.now.trees) (Concludes (task old []) (mode_of old) None) (Err stop) → ClearStops stop
      go (inl (s, it, same)) = subst ClearStops (sym (stopped_by same)) (deletes s it)
      go (inr (w, it, ends)) = absurd (never_concludes old [] w stop ends)
