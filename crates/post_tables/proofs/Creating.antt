-- What the statements make that define the tables.
use Rattle.std.proofs.Common.{◌≡◌, ℕ, List, [], ◌∷◌, ◌++◌, map, true, false, None, Ok, Err, Result, OnOk, ◌<◌, ◌^◌, lit≤, refl, sym, ap}
use Rattle.std.proofs.Common.{subst, ◌∙◌}
use Rattle.std.specs.List.{AllByRecursion}
use Rattle.sqlite.specs.Order.{Row}
use Rattle.sqlite.specs.declared.error.Error.{Error}
use Rattle.sqlite_trees.specs.declared.memory.MemStore.{MemStore}
use Rattle.sqlite.specs.Table.{Table}
use Rattle.sqlite.specs.Schema.{Schema}
use Rattle.sqlite_schema.specs.declared.command.Command.{Command}
use Rattle.sqlite.specs.Command.TheVariants.{CreateTable, CreateIndex}
use Rattle.sqlite.specs.Compile.{table_defined_by}
use Rattle.sqlite.specs.Change.{created, indexed, next_tree, KeepsRows}
use Rattle.sqlite.specs.Does.{Tally, Does, lacks_sequence, sequence_text}
use Rattle.sqlite.specs.Held.{Held, state}
use Rattle.sqlite.specs.Steps.{over_memory}
use Rattle.sqlite.specs.Effect.{Database}
use Rattle.sqlite.specs.Listing.{understood}
use Rattle.sqlite.specs.State.{mode_of, Writes, Executes}
use Rattle.sqlite.specs.Tree.{Trees}
use Rattle.sqlite_schema.specs.Names.{same_name}
use Rattle.sqlite_catalog.specs.Calls.{CreatesTable}
use Rattle.sqlite_tied.specs.Compute.{everything}
use Rattle.sqlite.proofs.Callers.{IsPlain, command_of, statement_of, runs_as}
use Rattle.post_tables.specs.Rows.{no_rows}
use Rattle.post_tables.specs.Schema.{no_schema, post_schema, option_schema, template_schema, table_schema, site_schema, create_post, create_option}
use Rattle.post_tables.specs.Schema.{create_template, create_active, create_index, post_table, sequence_table, option_table, template_table, active_table}
use Rattle.post_tables.specs.Stored.{IsBare, IsSite, ArePosts, AreNamed, IsCounter, AreGiven, rows_of, text_rest, text_in, no_rest, nothing_in, named_in}
use Rattle.post_tables.specs.Stored.{post_in, top_in}
use Rattle.post_tables.proofs.Texts.{post_is, sequence_is, option_is, template_is, active_is, index_is}
use Rattle.table_rows.proofs.Steps.{went, same_value}
use Rattle.post_tables.proofs.Memory.{wrote}

-- ---- what the texts are

record IsRead (schema : Schema) (text : List ℕ) (command : Command) : Type 0 where
  read : command_of (understood schema text) ≡ command
  whole : statement_of text (understood schema text) ≡ text
  plain : IsPlain (understood schema text)

post_read : IsRead no_schema create_post CreateTable
unfolding understood everything
post_read = record { read = refl; whole = refl; plain = (refl, refl) }

option_read : IsRead post_schema create_option CreateTable
unfolding understood everything
option_read = record { read = refl; whole = refl; plain = (refl, refl) }

template_read : IsRead option_schema create_template CreateTable
unfolding understood everything
template_read = record { read = refl; whole = refl; plain = (refl, refl) }

active_read : IsRead template_schema create_active CreateTable
unfolding understood everything
active_read = record { read = refl; whole = refl; plain = (refl, refl) }

index_read : IsRead table_schema create_index (CreateIndex 0)
unfolding understood everything
index_read = record { read = refl; whole = refl; plain = (refl, refl) }

lacks_first : lacks_sequence (created no_schema post_table) ≡ true
unfolding same_name
lacks_first = refl

lacks_none : (lacks_sequence option_schema ≡ false) × (lacks_sequence template_schema ≡ false) × (lacks_sequence table_schema ≡ false)
unfolding same_name
lacks_none = (refl, refl, refl)

-- ---- one table

still_empty : (tables : List Table) (old new : Trees) → KeepsRows tables old new → AllByRecursion (λ t. old t.tree ≡ []) tables
    → AllByRecursion (λ t. new t.tree ≡ []) tables
still_empty [] old new kept none = tt
still_empty (t ∷ tables) old new kept none = (kept.0 ∙ none.0, still_empty tables old new kept.1 none.1)

one_more : (tables : List Table) (t : Table) (trees : Trees) → AllByRecursion (λ t. trees t.tree ≡ []) tables → trees t.tree ≡ []
    → AllByRecursion (λ t. trees t.tree ≡ []) (tables ++ t ∷ [])
one_more [] t trees none here = (here, tt)
one_more (x ∷ tables) t trees none here = (none.0, one_more tables t trees none.1 here)

module _ (old new : Held MemStore) (limit : new.step_limit ≡ old.step_limit) (before : Schema) (bare : IsBare before old) where
  made_table : (text : List ℕ) (table : Table) → table_defined_by text ≡ Ok table → IsRead before text CreateTable
      → lacks_sequence (created before table) ≡ false
      → (count : ℕ) → Executes text [] (state over_memory old) (state over_memory new) (Ok count) → IsBare (created before table) new
  made_table text table is read whole count h =
      let s = state over_memory old in
      let t = state over_memory new in
      let w = subst (λ x. Writes s t None CreateTable x [] count) read.whole
      (runs_as text [] s t before bare.schema_is CreateTable read.read read.plain count h) in
      let all = went w.changed in
      let first = went all.1 in
      let made = first.1 in
      let one : made.table ≡ table = same_value (sym made.defined ∙ is) in
      let schema : first.0.schema ≡ created before table = made.is ∙ ap (λ x. created x made.table) bare.schema_is ∙ ap (created before) one in
      let plain : lacks_sequence first.0.schema ≡ false = ap lacks_sequence schema ∙ whole in
      let now : t.now ≡ first.0 = ap (λ (p : Tally × Database). p.1) (same_value all.2) ∙ same_value (rw plain at first.2) in
      let kept = subst (λ x. KeepsRows x.tables s.now.trees first.0.trees) bare.schema_is made.others in
      let none : first.0.trees (next_tree before) ≡ [] = subst (λ x. first.0.trees (next_tree x) ≡ []) bare.schema_is made.empty in
      record {
        schema_is = ap (λ (d : Database). d.schema) now ∙ schema;
        empty = subst (λ (d : Database). AllByRecursion (λ t. d.trees t.tree ≡ []) (created before table).tables) (sym now)
            (one_more before.tables (record table { tree = next_tree before }) first.0.trees
            (still_empty before.tables s.now.trees first.0.trees kept bare.empty) none);
        idle = wrote old new bare.idle _ _ _ _ _ w;
        unlimited = limit ∙ bare.unlimited;
      }

-- ---- each in turn

pub post_made : (old new : Held MemStore) → new.step_limit ≡ old.step_limit → (r : Result ℕ Error) → IsBare no_schema old
    → Executes create_post [] (state over_memory old) (state over_memory new) r → OnOk r (IsBare post_schema new)
post_made old new limit (Err e) bare h = tt
post_made old new limit (Ok count) bare h =
    let s = state over_memory old in
    let t = state over_memory new in
    let w = subst (λ x. Writes s t None CreateTable x [] count) post_read.whole
    (runs_as create_post [] s t no_schema bare.schema_is CreateTable post_read.read post_read.plain count h) in
    let all = went w.changed in
    let first = went all.1 in
    let made = first.1 in
    let one : made.table ≡ post_table = same_value (sym made.defined ∙ post_is) in
    let schema : first.0.schema ≡ created no_schema post_table = made.is ∙ ap (λ x. created x made.table) bare.schema_is ∙ ap (created no_schema) one in
    let lacks : lacks_sequence first.0.schema ≡ true = ap lacks_sequence schema ∙ lacks_first in
    let more : CreatesTable first.0.schema sequence_text first.0.trees all.0.schema all.0.trees = rw lacks at first.2 in
    let two : more.table ≡ record sequence_table { tree = 0 } = same_value (sym more.defined ∙ sequence_is) in
    let after : all.0.schema ≡ post_schema = more.is ∙ ap (λ x. created x more.table) schema ∙ ap (created (created no_schema post_table)) two in
    let now : t.now ≡ all.0 = ap (λ (p : Tally × Database). p.1) (same_value all.2) in
    let kept : all.0.trees 0 ≡ first.0.trees 0 = (subst (λ x. KeepsRows x.tables first.0.trees all.0.trees) schema more.others).0 in
    record {
      schema_is = ap (λ (d : Database). d.schema) now ∙ after;
      empty = (
        ap (λ (d : Database). d.trees 0) now ∙ kept ∙ subst (λ x. first.0.trees (next_tree x) ≡ []) bare.schema_is made.empty,
        (ap (λ (d : Database). d.trees 1) now ∙ subst (λ x. all.0.trees (next_tree x) ≡ []) schema more.empty, tt),
      );
      idle = wrote old new bare.idle _ _ _ _ _ w;
      unlimited = limit ∙ bare.unlimited;
    }

pub option_made : (old new : Held MemStore) → new.step_limit ≡ old.step_limit → (r : Result ℕ Error) → IsBare post_schema old
    → Executes create_option [] (state over_memory old) (state over_memory new) r → OnOk r (IsBare option_schema new)
option_made old new limit (Err e) bare h = tt
option_made old new limit (Ok count) bare h = made_table old new limit post_schema bare create_option (record option_table { tree = 0 }) option_is option_read
    lacks_none.0 count h

pub template_made : (old new : Held MemStore) → new.step_limit ≡ old.step_limit → (r : Result ℕ Error) → IsBare option_schema old
    → Executes create_template [] (state over_memory old) (state over_memory new) r → OnOk r (IsBare template_schema new)
template_made old new limit (Err e) bare h = tt
template_made old new limit (Ok count) bare h = made_table old new limit option_schema bare create_template (record template_table { tree = 0 }) template_is
    template_read lacks_none.1 count h

pub active_made : (old new : Held MemStore) → new.step_limit ≡ old.step_limit → (r : Result ℕ Error) → IsBare template_schema old
    → Executes create_active [] (state over_memory old) (state over_memory new) r → OnOk r (IsBare table_schema new)
active_made old new limit (Err e) bare h = tt
active_made old new limit (Ok count) bare h = made_table old new limit template_schema bare create_active (record active_table { tree = 0 }) active_is
    active_read lacks_none.2 count h

-- ---- and the index

no_posts : (rows : List Row) → rows ≡ [] → ArePosts rows
no_posts rows none = subst ArePosts (sym none) (record { ordered = tt; each = λ r h. absurd h; readable = λ r h. absurd h })

no_named : {V : Type 0} (rest : V → Row) (value_in : Row → V) (rows : List Row) → rows ≡ [] → AreNamed rest value_in rows
no_named rest value_in rows none = subst (AreNamed rest value_in) (sym none) (record { ordered = tt; each = λ r h. absurd h; distinct = λ r s h. absurd h })

pub record IsMade (r : Result ℕ Error) (h : Held MemStore) : Type 0 where
  pub site : OnOk r (IsSite h)
  pub empty : OnOk r (rows_of h ≡ no_rows)

pub index_made : (old new : Held MemStore) → new.step_limit ≡ old.step_limit → (r : Result ℕ Error) → IsBare table_schema old
    → Executes create_index [] (state over_memory old) (state over_memory new) r → IsMade r new
index_made old new limit (Err e) bare h = record { site = tt; empty = tt }
index_made old new limit (Ok count) bare h =
    let s = state over_memory old in
    let t = state over_memory new in
    let w = subst (λ x. Writes s t None (CreateIndex 0) x [] count) index_read.whole
    (runs_as create_index [] s t table_schema bare.schema_is (CreateIndex 0) index_read.read index_read.plain count h) in
    let all = went (subst (λ x. Does s.step_limit (mode_of s) [] (record s.now { schema = x }) create_index None (CreateIndex 0) (Ok (w.tally, t.now)))
    bare.schema_is w.changed) in
    let made = all.1 in
    let one = same_value (sym made.defined ∙ index_is) in
    let now : t.now ≡ all.0 = ap (λ (p : Tally × Database). p.1) (same_value all.2) in
    let schema : t.now.schema ≡ site_schema = ap (λ (d : Database). d.schema) now ∙ made.is ∙ ap (indexed table_schema post_table) one in
    let none = still_empty table_schema.tables s.now.trees t.now.trees
    (subst (λ (d : Database). KeepsRows table_schema.tables s.now.trees d.trees) (sym now) made.rows) bare.empty in
    record {
      site = record {
        holds = record {
          schema_is = schema;
          sound = record {
            posts = no_posts (t.now.trees 0) none.0;
            counter = subst IsCounter (sym none.1.0) tt;
            bounded = subst (λ rows. top_in rows < 2 ^ 32) (sym none.1.0) (lit≤ tt);
            given = subst (λ rows. AreGiven (map post_in rows) (top_in (t.now.trees 1))) (sym none.0) tt;
            options = no_named text_rest text_in (t.now.trees 2) none.1.1.0;
            templates = no_named text_rest text_in (t.now.trees 4) none.1.1.1.0;
            active = no_named no_rest nothing_in (t.now.trees 6) none.1.1.1.1.0;
          };
        };
        idle = wrote old new bare.idle _ _ _ _ _ w;
      };
      empty = λ i. record {
        posts = map post_in (none.0 i);
        options = named_in text_in (none.1.1.0 i);
        templates = named_in text_in (none.1.1.1.0 i);
        active = named_in nothing_in (none.1.1.1.1.0 i);
        largest = top_in (none.1.0 i);
        step_limit = (limit ∙ bare.unlimited) i;
      };
    }
