-- What an edit makes of the post with an ID.
use Rattle.std.proofs.Common.{◌≡◌, inl, inr, ℕ, pos, negsuc, List, [], ◌∷◌, map, filter, Bool, true, false, not, ◌==◌, codes, Option, option_map, Some}
use Rattle.std.proofs.Common.{None, unwrap_or, Ok, Err, Result, IfOk, Bor, length, nat_eq, is_some, refl, sym, ap, subst, ◌∙◌, arith}
use Rattle.std.proofs.lemmas.List.{length-map}
use Rattle.std.specs.List.{IsDistinct}
use Rattle.std.specs.Prelude.{IfSome, IsUtf8}
use Rattle.site_records.specs.Dates.{is_post_date}
use Rattle.std.specs.Ordering.{is_eq, eq_by_cmp}
use Rattle.std.proofs.lemmas.Bool.{and_parts, not-true}
use Rattle.sqlite.specs.Order.{Row}
use Rattle.sqlite.specs.Values.{or_null, bound_value}
use Rattle.sqlite.specs.Query.{Query, output, output_cmp, Output, IsAnswer}
use Rattle.sqlite.specs.Term.{Term, lit, col}
use Rattle.sqlite_value.specs.declared.value.Value.TheVariants.{Null, Int, Text}
use Rattle.sqlite_value.specs.declared.keys.Collation.TheVariants.{Binary}
use Rattle.sqlite_value.proofs.OrderLemmas.{value_cmp-Int}
use Rattle.sqlite_sql.specs.Ops.{binary}
use Rattle.sqlite_sql.specs.declared.ops.BinaryOp.TheVariants.{Compare, Coalesce}
use Rattle.sqlite_sql.specs.declared.ops.CompareOp.TheVariants.{Eq}
use Rattle.sqlite_sql.specs.Term.{op2}
use Rattle.sqlite.specs.Program.{overlay}
use Rattle.sqlite.specs.Tree.{Trees, IsTable, put_row, without_rowid, has_rowid}
use Rattle.sqlite_schema.specs.declared.command.Command.{Command}
use Rattle.sqlite_schema.specs.declared.command.Command.TheVariants.{Update}
use Rattle.sqlite_rules.specs.Lists.{Has}
use Rattle.sqlite_rules.specs.Edit.{edit_of, is_taken}
use Rattle.sqlite_rules.specs.Calls.{ids_of}
use Rattle.sqlite_rules.proofs.RowLemmas.{length-numbered}
use Rattle.sqlite_rules.specs.declared.error.Rowids.TheVariants.{Given}
use Rattle.sqlite_tied.specs.Compute.{everything}
use Rattle.sqlite_schema.specs.declared.schema.Keys.{Keys}
use Rattle.sqlite_schema.specs.declared.schema.Keys.TheVariants.{Enforced}
use Rattle.sqlite_trees.specs.declared.memory.MemStore.{MemStore}
use Rattle.sqlite.specs.Rows.{Written, Edited}
use Rattle.sqlite.specs.declared.error.Error.{Error}
use Rattle.sqlite.specs.Held.{Held, state}
use Rattle.sqlite.specs.Steps.{over_memory}
use Rattle.sqlite.specs.Effect.{Database}
use Rattle.sqlite.specs.Does.{Tally, Does}
use Rattle.sqlite.specs.Listing.{understood}
use Rattle.sqlite.specs.State.{mode_of, Executes}
use Rattle.sqlite.proofs.Callers.{IsPlain, command_of, statement_of, runs_as, one_step}
use Rattle.site_records.specs.declared.post.Post.{Post}
use Rattle.site_records.specs.declared.post.PostStatus.{PostStatus}
use Rattle.post_tables.specs.Schema.{site_schema, post_table}
use Rattle.table_rows.specs.Sorting.{in_order}
use Rattle.post_tables.specs.Rows.{with_post, without_post, has_post, post_with, PostEdit, edited_post, edited_posts}
use Rattle.post_tables.specs.Stored.{HoldsSite, IsReadable, ArePosts, IsCounter, row_of, post_in, top_in, rows_of, trees_of}
use Rattle.site_records.specs.Kinds.{status_text}
use Rattle.table_rows.proofs.Casting.{cast_int, cast_null}
use Rattle.post_tables.proofs.Comparing.{number_compares, pos_cmp, same_number}
use Rattle.table_rows.proofs.Steps.{went, same_value}
use Rattle.post_tables.proofs.Memory.{wrote}
use Rattle.post_tables.proofs.GivenIds.{edited_given}
use Rattle.post_tables.proofs.Parts.{posts_now}
use Rattle.post_tables.proofs.PageLemmas.{rising_from, rows_are}
use Rattle.post_tables.proofs.PostRows.{same_posts, still_posts, some_posts, mapped_filter, one_or_none, any_is_found, none_edited, one_edited}
use Rattle.post_tables.proofs.Statements.{IsDone}
use Rattle.table_rows.proofs.Answering as reading

abbrev pub update_text : List ℕ
update_text = codes "UPDATE post SET status = coalesce(?2, status), title = coalesce(?3, title), content = coalesce(?4, content), date = coalesce(?5, date) WHERE id = ?1"

abbrev wheres : List Term
wheres = op2 (Compare Eq Binary) (col 1 0) (col 0 0) ∷ []

abbrev projects : List Term
projects = col 1 0 ∷ col 1 0 ∷ lit Null ∷ col 1 2 ∷ op2 Coalesce (col 0 1) (col 1 3) ∷ op2 Coalesce (col 0 2) (col 1 4) ∷ op2 Coalesce (col 0 3) (col 1 5)
    ∷ op2 Coalesce (col 0 4) (col 1 6) ∷ []

abbrev query : Query
query = reading.query 0 wheres projects [] [] (lit (Int (negsuc 0))) (lit (Int (pos 0)))

abbrev pub update_command : Command
update_command = Update 0 (record { lets = []; body = query })

pub update_is : command_of (understood site_schema update_text) ≡ update_command
unfolding understood everything
update_is = refl

pub update_plain : IsPlain (understood site_schema update_text)
unfolding understood everything
update_plain = (refl, refl)

coalesced : (o : Option (List ℕ)) (t : List ℕ) → binary Coalesce (or_null Text o) (Text t) ≡ Text (unwrap_or o t)
unfolding binary
coalesced None t = refl
coalesced (Some s) t = refl

coalesced_status : (o : Option PostStatus) (t : PostStatus) → binary Coalesce (or_null Text (option_map status_text o)) (Text (status_text t))
    ≡ Text (status_text (unwrap_or o t))
unfolding binary
coalesced_status None t = refl
coalesced_status (Some s) t = refl

module _ (id : ℕ) (e : PostEdit) where
  abbrev pub given : Row
  given = Int (pos id) ∷ or_null Text (option_map status_text e.status) ∷ or_null Text e.title ∷ or_null Text e.content ∷ or_null Text e.date ∷ []

  abbrev shows : Row → Output
  shows r = output query (given ∷ r ∷ [])

  abbrev passes : Row → Bool
  passes = reading.passes 0 wheres projects [] [] (lit (Int (negsuc 0))) (lit (Int (pos 0))) (λ _. []) given

  -- the row that is shown: the rowid, and then the new row
  shown_is : (q : Post) → (shows (row_of q)).1 ≡ Int (pos q.id) ∷ row_of (edited_post e q)
  shown_is q = rw (coalesced_status e.status q.status, coalesced e.title q.title, coalesced e.content q.content, coalesced e.date q.date) refl

  apart_none : IsDistinct (eq_by_cmp (output_cmp query)) []
  unfolding IsDistinct
  apart_none = tt

  apart_one : (o : Output) → IsDistinct (eq_by_cmp (output_cmp query)) (o ∷ [])
  unfolding IsDistinct
  apart_one o = (tt, tt)

  pub record IsUpdated (db next : Trees) : Type 0 where
    pub posts : ArePosts (next 0)
    pub are : map post_in (next 0) ≡ edited_posts id e (map post_in (db 0))

  -- what an edit makes can be read back
  pub record IsReadableEdit : Type 0 where
    pub title : IfSome e.title IsUtf8
    pub content : IfSome e.content IsUtf8
    pub date : IfSome e.date IsUtf8
    pub dated : IfSome e.date (λ d. is_post_date d ≡ true)

  given_or : {A : Type 0} (P : A → Type 0) (o : Option A) (x : A) → IfSome o P → P x → P (unwrap_or o x)
  given_or P None x some has = has
  given_or P (Some y) x some has = some

  readable_edited : IsReadableEdit → (q : Post) → IsReadable q → IsReadable (edited_post e q)
  readable_edited given q was = record {
    id = was.id;
    title = given_or IsUtf8 e.title q.title given.title was.title;
    content = given_or IsUtf8 e.content q.content given.content was.content;
    date = given_or IsUtf8 e.date q.date given.date was.date;
    dated = given_or (λ d. is_post_date d ≡ true) e.date q.date given.dated was.dated;
  }

  module _ (keys : Keys) (db next : Trees) (shown : List Row) (good : IsReadableEdit) (ok : ArePosts (db 0)) (a : IsAnswer query (overlay db []) given shown)
      (h : Edited site_schema keys db (edit_of db post_table (ids_of shown) Given 1 shown) (Ok next)) where
    tests : (r : Row) → Has (db 0) r → passes r ≡ ((post_in r).id == id)
    tests r there = ap passes (ok.each r there) ∙ number_compares (post_in r).id id

    none_shown : filter passes (db 0) ≡ [] → shown ≡ []
    none_shown none =
        let outs : map shows (filter passes (db 0)) ≡ [] = ap (map shows) none in
        let all = reading.answer_is 0 wheres projects [] [] (lit (Int (negsuc 0))) (lit (Int (pos 0))) (overlay db []) given shown a
        (subst (IsDistinct (eq_by_cmp (output_cmp query))) (sym outs) apart_none) in
        all ∙ ap (λ l. map (λ (o : Output). o.1) (in_order (output_cmp query) l)) outs

    one_shown : (r : Row) → filter passes (db 0) ≡ r ∷ [] → shown ≡ (shows r).1 ∷ []
    one_shown r one =
        let outs : map shows (filter passes (db 0)) ≡ shows r ∷ [] = ap (map shows) one in
        let all = reading.answer_is 0 wheres projects [] [] (lit (Int (negsuc 0))) (lit (Int (pos 0))) (overlay db []) given shown a
        (subst (IsDistinct (eq_by_cmp (output_cmp query))) (sym outs) (apart_one (shows r))) in
        all ∙ ap (λ l. map (λ (o : Output). o.1) (in_order (output_cmp query) l)) outs

    -- a row is shown if there is such a post
    pub any_shown : not (nat_eq (length shown) 0) ≡ has_post id (map post_in (db 0))
    any_shown = elim (one_or_none passes id (db 0) ok.ordered ok.each tests) [
      | inl none ↦ ap (λ l. not (nat_eq (length l) 0)) (none_shown none.0) ∙ sym (any_is_found id (map post_in (db 0)) ∙ ap is_some none.1)
      | inr one ↦ ap (λ l. not (nat_eq (length l) 0)) (one_shown one.0 one.2) ∙ sym (any_is_found id (map post_in (db 0)) ∙ ap is_some one.3)
    ]

    nothing_updated : filter passes (db 0) ≡ [] → post_with id (map post_in (db 0)) ≡ None → IsUpdated db next
    nothing_updated none found =
        let is = none_shown none in
        let edit = subst (λ l. Edited site_schema keys db (edit_of db post_table (ids_of l) Given 1 l) (Ok next)) is h in
        let done = one_step site_schema keys db next (edit_of db post_table [] Given 1 []) refl edit in
        record {
          posts = subst ArePosts (sym done.rows) ok;
          are = ap (map post_in) done.rows ∙ sym (none_edited id e (map post_in (db 0)) found);
        }

    one_updated : (r : Row) → Has (db 0) r → filter passes (db 0) ≡ r ∷ [] → post_with id (map post_in (db 0)) ≡ Some (post_in r) → (post_in r).id ≡ id
        → IsUpdated db next
    one_updated r there one found same =
        let q : Post = post_in r in
        let p : Post = edited_post e q in
        let row : Row = Int (pos q.id) ∷ row_of p in
        let is : shown ≡ row ∷ [] = one_shown r one ∙ ap (λ x. (shows x).1 ∷ []) (ok.each r there) ∙ ap (λ x. x ∷ []) (shown_is q) in
        let edit = subst (λ l. Edited site_schema keys db (edit_of db post_table (ids_of l) Given 1 l) (Ok next)) is h in
        let done = one_step site_schema keys db next (edit_of db post_table (pos q.id ∷ []) Given 1 (row ∷ [])) refl edit in
        let left : List Row = without_rowid (pos q.id) (db 0) in
        let rows : next 0 ≡ put_row (row_of p) left = rw (cast_int (pos q.id), cast_null) at done.rows in
        let fresh = rw (cast_int (pos q.id)) at done.fresh in
        let free : is_taken left (row_of p) ≡ false = not-true _ (and_parts _ _ fresh).0 in
        let kept : ArePosts left = some_posts (λ x. not (has_rowid (pos q.id) x)) (db 0) ok in
        let by_id : (x : Row) → Has (db 0) x → has_rowid (pos q.id) x ≡ ((post_in x).id == q.id) = λ x h. ap (has_rowid (pos q.id)) (ok.each x h)
        ∙ ap is_eq (value_cmp-Int (pos (post_in x).id) (pos q.id) ∙ pos_cmp (post_in x).id q.id) ∙ same_number (post_in x).id q.id in
        let without : map post_in left ≡ without_post q.id (map post_in (db 0)) = mapped_filter q.id (has_rowid (pos q.id)) (db 0) by_id in
        record {
          posts = subst ArePosts (sym rows) (still_posts p (readable_edited good q (ok.readable r there)) left kept);
          are = ap (map post_in) rows ∙ same_posts p left kept.each free ∙ ap (with_post p) without
              ∙ ap (λ n. with_post p (without_post n (map post_in (db 0)))) same
              ∙ one_edited id e (map post_in (db 0)) q (rising_from (map post_in (db 0)) (subst IsTable (rows_are (db 0) ok.each) ok.ordered)) found;
        }

    pub updated : IsUpdated db next
    updated = elim (one_or_none passes id (db 0) ok.ordered ok.each tests) [
      | inl none ↦ nothing_updated none.0 none.1
      | inr one ↦ one_updated one.0 one.1 one.2 one.3 one.4
    ]

-- ---- the statement as a whole

pub edits_post : (old new : Held MemStore) (holds : HoldsSite (state over_memory old).now) (id : ℕ) (e : PostEdit) → IsReadableEdit id e → (count : ℕ)
    → Executes update_text (given id e) (state over_memory old) (state over_memory new) (Ok count)
    → IsDone (λ s. record s { posts = edited_posts id e s.posts }) old new
edits_post old new holds id e good count h =
    let s = state over_memory old in
    let t = state over_memory new in
    let text = statement_of update_text (understood site_schema update_text) in
    let w = runs_as update_text (given id e) s t site_schema holds.schema_is update_command update_is update_plain count h in
    let done = went (subst (λ x. Does s.step_limit (mode_of s) (given id e) (record s.now { schema = x }) text None update_command (Ok (w.tally, t.now)))
    holds.schema_is w.changed) in
    let now = ap (λ (x : Tally × Database). x.1) (same_value (went (went done.2).2).2) in
    let asked = went done.1 in
    let edit = went asked.2 in
    let db = s.now.trees in
    let trees : t.now.trees ≡ edit.0 = ap (λ (d : Database). d.trees) now ∙ ap (λ (x : Written). x.trees) (same_value edit.2) in
    let applied = one_step site_schema Enforced db edit.0 (edit_of db post_table (ids_of asked.0) Given 1 asked.0) refl edit.1 in
    let made = updated id e Enforced db edit.0 asked.0 good holds.sound.posts (asked.1.answer Null) edit.1 in
    let top : t.now.trees 1 ≡ db 1 = ap (λ (x : Trees). x 1) trees ∙ applied.tables.1.0 (λ e. omega arith) in
    let it = posts_now old.step_limit db t.now.trees holds.sound (
      ap (λ (x : Trees). x 2) trees ∙ applied.tables.1.1.0 (λ e. omega arith),
      ap (λ (x : Trees). x 4) trees
          ∙ applied.tables.1.1.1.0 (λ e. omega arith),
      ap (λ (x : Trees). x 6) trees ∙ applied.tables.1.1.1.1.0 (λ e. omega arith),
    )
    (subst (λ (x : Trees). ArePosts (x 0)) (sym trees) made.posts) (subst IsCounter (sym top) holds.sound.counter) _
    (ap (λ (x : Trees). map post_in (x 0)) trees ∙ made.are) _ holds.sound.bounded (ap top_in top)
    (edited_given id e (map post_in (db 0)) (top_in (db 1)) holds.sound.given) in
    record {
      holds = record { schema_is = ap (λ (d : Database). d.schema) now; sound = it.sound };
      rows = it.are;
      idle = λ idle. wrote old new idle _ _ _ _ _ w;
    }

-- it has edited a row if there was such a post
edited_any : (old new : Held MemStore) (holds : HoldsSite (state over_memory old).now) (id : ℕ) (e : PostEdit) → IsReadableEdit id e → (count : ℕ)
    → Executes update_text (given id e) (state over_memory old) (state over_memory new) (Ok count)
    → not (nat_eq count 0) ≡ has_post id (rows_of old).posts
edited_any old new holds id e good count h =
    let s = state over_memory old in
    let t = state over_memory new in
    let text = statement_of update_text (understood site_schema update_text) in
    let w = runs_as update_text (given id e) s t site_schema holds.schema_is update_command update_is update_plain count h in
    let done = went (subst (λ x. Does s.step_limit (mode_of s) (given id e) (record s.now { schema = x }) text None update_command (Ok (w.tally, t.now)))
    holds.schema_is w.changed) in
    let tally = ap (λ (x : Tally × Database). unwrap_or x.0.rows 0) (same_value (went (went done.2).2).2) in
    let asked = went done.1 in
    let edit = went asked.2 in
    let news : length done.0.rows ≡ length asked.0 = ap (λ (x : Written). length x.rows) (same_value edit.2) ∙ length-numbered Given _ _ ∙ length-map asked.0 _ in
    let is : count ≡ length asked.0 = w.counted ∙ tally ∙ news in
    ap (λ n. not (nat_eq n 0)) is
    ∙ any_shown id e Enforced (trees_of old) edit.0 asked.0 good holds.sound.posts (asked.1.answer Null) edit.1

pub edited_count : (old new : Held MemStore) (holds : HoldsSite (state over_memory old).now) (id : ℕ) (e : PostEdit) → IsReadableEdit id e → (r : Result ℕ Error)
    → Executes update_text (given id e) (state over_memory old) (state over_memory new) r
    → IfOk r (λ count. not (nat_eq count 0) ≡ has_post id (rows_of old).posts)
edited_count old new holds id e good (Ok count) h = edited_any old new holds id e good count h
edited_count old new holds id e good (Err x) h = tt

pub lent_text : (o : Option (Bor (List ℕ))) → bound_value (or_null (λ s. Text s.now) o) ≡ or_null Text (option_map (λ s. s.now) o)
lent_text None = refl
lent_text (Some s) = refl
