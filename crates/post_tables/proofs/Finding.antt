-- What the queries for an ID return, also within a transaction.
use Rattle.std.proofs.Common.{◌≡◌, inl, inr, ℕ, pos, negsuc, List, [], ◌∷◌, map, filter, Bool, false, not, ◌==◌, codes, Option, Some, None, Ok, Err}
use Rattle.std.proofs.Common.{Result, IfOk, Vec, is_some, nat_eq, length, ◌≤◌, lit≤, refl, sym, ap, subst, ◌∙◌}
use Rattle.std.specs.declared.alloc.Global.{Global}
use Rattle.std.specs.Option.{option_to_list}
use Rattle.std.specs.List.{IsDistinct}
use Rattle.std.specs.Ordering.{eq_by_cmp}
use Rattle.sqlite.specs.Order.{Row}
use Rattle.sqlite.specs.Query.{Query, output, output_cmp, Output, IsAnswer}
use Rattle.sqlite.specs.Term.{Term, lit, col}
use Rattle.sqlite.specs.Tree.{Trees}
use Rattle.sqlite_value.specs.declared.value.Value.TheVariants.{Null, Int}
use Rattle.sqlite_value.specs.declared.keys.Collation.TheVariants.{Binary}
use Rattle.sqlite_sql.specs.declared.ops.BinaryOp.TheVariants.{Compare}
use Rattle.sqlite_sql.specs.declared.ops.CompareOp.TheVariants.{Eq}
use Rattle.sqlite_sql.specs.Term.{op2}
use Rattle.sqlite.specs.Program.{overlay}
use Rattle.sqlite.specs.Command.TheVariants.{Select}
use Rattle.sqlite.specs.Listing.{understood, reads_listing}
use Rattle.sqlite_tied.specs.Compute.{everything}
use Rattle.sqlite_trees.specs.declared.memory.MemStore.{MemStore}
use Rattle.sqlite_rules.specs.Lists.{Has}
use Rattle.sqlite.specs.declared.error.Error.{Error}
use Rattle.sqlite.specs.Held.{Held, state}
use Rattle.sqlite.specs.Steps.{over_memory}
use Rattle.sqlite.specs.State.{Shown}
use Rattle.sqlite.proofs.Callers.{IsPlain, command_of, reads_as}
use Rattle.site_records.specs.declared.post.Post.{Post}
use Rattle.post_tables.specs.Schema.{site_schema}
use Rattle.table_rows.specs.Sorting.{in_order}
use Rattle.post_tables.specs.Rows.{has_post, post_with}
use Rattle.post_tables.specs.Stored.{row_of, post_in, ArePosts, HoldsSite, rows_of, trees_of}
use Rattle.post_tables.specs.Reading.{post_from, IsPostRow}
use Rattle.post_tables.proofs.Comparing.{number_compares}
use Rattle.post_tables.proofs.PageLemmas.{projects, posts_back, shown_post, each_readable, all_shown}
use Rattle.post_tables.proofs.Refusing.{IsWhole, IsSafe}
use Rattle.std.specs.Prelude.{All}
use Rattle.std.proofs.lemmas.Bool.{cases_Bool}
use Rattle.post_tables.proofs.PostRows.{one_or_none, any_is_found}
use Rattle.table_rows.proofs.Answering as reading

abbrev wheres : List Term
wheres = op2 (Compare Eq Binary) (col 1 0) (col 0 0) ∷ []

abbrev pub id_given : ℕ → Row
id_given id = Int (pos id) ∷ []

module _ (shown : List Term) where
  abbrev query : Query
  query = reading.query 0 wheres shown [] [] (lit (Int (negsuc 0))) (lit (Int (pos 0)))

  apart_none : IsDistinct (eq_by_cmp (output_cmp query)) []
  unfolding IsDistinct
  apart_none = tt

  apart_one : (o : Output) → IsDistinct (eq_by_cmp (output_cmp query)) (o ∷ [])
  unfolding IsDistinct
  apart_one o = (tt, tt)

  module _ (id : ℕ) where
    abbrev shows : Row → Output
    shows r = output query (id_given id ∷ r ∷ [])

    abbrev passes : Row → Bool
    passes = reading.passes 0 wheres shown [] [] (lit (Int (negsuc 0))) (lit (Int (pos 0))) (λ _. []) (id_given id)

    -- the result is what is shown of the post, or nothing
    pub by_id : (db : Trees) → ArePosts (db 0) → (rows : List Row) → IsAnswer query (overlay db []) (id_given id) rows
        → rows ≡ map (λ p. (shows (row_of p)).1) (option_to_list (post_with id (map post_in (db 0))))
    by_id db ok rows a =
        let tests : (r : Row) → Has (db 0) r → passes r ≡ ((post_in r).id == id) = λ r there. ap passes (ok.each r there) ∙ number_compares (post_in r).id id in
        elim (one_or_none passes id (db 0) ok.ordered ok.each tests) [
          | inl none ↦
              let outs : map shows (filter passes (db 0)) ≡ [] = ap (map shows) none.0 in
              let all = reading.answer_is 0 wheres shown [] [] (lit (Int (negsuc 0))) (lit (Int (pos 0))) (overlay db []) (id_given id) rows a
              (subst (IsDistinct (eq_by_cmp (output_cmp query))) (sym outs) apart_none) in
              all ∙ ap (λ l. map (λ (o : Output). o.1) (in_order (output_cmp query) l)) outs
              ∙ ap (λ o. map (λ p. (shows (row_of p)).1) (option_to_list o)) (sym none.1)
          | inr one ↦
              let outs : map shows (filter passes (db 0)) ≡ shows one.0 ∷ [] = ap (map shows) one.2 in
              let all = reading.answer_is 0 wheres shown [] [] (lit (Int (negsuc 0))) (lit (Int (pos 0))) (overlay db []) (id_given id) rows a
              (subst (IsDistinct (eq_by_cmp (output_cmp query))) (sym outs) (apart_one (shows one.0))) in
              all ∙ ap (λ l. map (λ (o : Output). o.1) (in_order (output_cmp query) l)) outs ∙ ap (λ r. (shows r).1 ∷ []) (ok.each one.0 one.1)
              ∙ ap (λ o. map (λ p. (shows (row_of p)).1) (option_to_list o)) (sym one.3)
        ]

-- ---- the post with an ID

abbrev pub post_text : List ℕ
post_text = codes "SELECT id, kind, status, title, content, date FROM post WHERE id = ?1"

abbrev names : List (List ℕ)
names = codes "id" ∷ codes "kind" ∷ codes "status" ∷ codes "title" ∷ codes "content" ∷ codes "date" ∷ []

post_is : (command_of (understood site_schema post_text) ≡ Select (record { lets = []; body = query projects }) names)
    × (reads_listing site_schema post_text ≡ false)
unfolding understood everything
post_is = (refl, refl)

pub post_plain : IsPlain (understood site_schema post_text)
unfolding understood everything
post_plain = (refl, refl)

post_whole : IsWhole post_text 1 (understood site_schema post_text)
unfolding understood everything
post_whole = (refl, refl)

pub post_safe : (id : ℕ) → IsSafe post_text (id_given id)
post_safe id = record {
  query = query projects;
  names = names;
  is = post_is.0;
  unlisted = post_is.1;
  plain = post_plain;
  whole = post_whole;
  typed = refl;
  sums = λ db. reading.never_sums 0 wheres projects [] [] (lit (Int (negsuc 0))) (lit (Int (pos 0))) db (id_given id);
}

found_among : (id : ℕ) (ps : List Post) (p : Post) → Has (option_to_list (post_with id ps)) p → Has ps p
found_among id [] p h = absurd h
found_among id (q ∷ ps) p h = elim (cases_Bool (q.id == id)) [
  | inl here ↦ elim (rw here at h) [ inl same ↦ inl same | inr none ↦ absurd none ]
  | inr other ↦ inr (found_among id ps p (rw other at h))
]

one_at_most : (o : Option Post) (f : Post → Row) → length (map f (option_to_list o)) ≤ 1
one_at_most None f = lit≤ tt
one_at_most (Some p) f = lit≤ tt

post_read : (old new : Held MemStore) (holds : HoldsSite (state over_memory old).now) (id : ℕ) (rows : List Row)
    → Shown post_text (id_given id) (state over_memory old) (state over_memory new) rows
    → rows ≡ map shown_post (option_to_list (post_with id (rows_of old).posts))
post_read old new holds id rows h =
    let read = reads_as post_text (id_given id) (state over_memory old) (state over_memory new) site_schema holds.schema_is
    (Select (record { lets = []; body = query projects }) names) post_is.0 post_plain post_is.1 rows h in
    by_id projects id (trees_of old) holds.sound.posts rows (read.answer Null)

pub post_readable : (old new : Held MemStore) (holds : HoldsSite (state over_memory old).now) (id : ℕ) (r : Result (Vec Row Global) Error)
    → IfOk r (λ rows. Shown post_text (id_given id) (state over_memory old) (state over_memory new) rows.items)
    → IfOk r (λ rows. All IsPostRow rows.items × (length rows.items ≤ 1))
post_readable old new holds id (Err e) h = tt
post_readable old new holds id (Ok rows) h =
    let are = post_read old new holds id rows.items h in (
      all_shown rows.items (option_to_list (post_with id (rows_of old).posts)) are
          (λ p there. each_readable (trees_of old 0) holds.sound.posts p (found_among id (rows_of old).posts p there)),
      subst (λ l. length l ≤ 1) (sym are) (one_at_most (post_with id (rows_of old).posts) shown_post),
    )

pub post_rows : (old new : Held MemStore) (holds : HoldsSite (state over_memory old).now) (id : ℕ) (r : Result (Vec Row Global) Error)
    → IfOk r (λ rows. Shown post_text (id_given id) (state over_memory old) (state over_memory new) rows.items)
    → IfOk r (λ rows. map post_from rows.items ≡ option_to_list (post_with id (rows_of old).posts))
post_rows old new holds id (Err e) h = tt
post_rows old new holds id (Ok rows) h =
    let read = reads_as post_text (id_given id) (state over_memory old) (state over_memory new) site_schema holds.schema_is
    (Select (record { lets = []; body = query projects }) names) post_is.0 post_plain post_is.1 rows.items h in
    ap (map post_from) (by_id projects id (trees_of old) holds.sound.posts rows.items (read.answer Null))
    ∙ posts_back (option_to_list (post_with id (rows_of old).posts))

-- ---- whether there is one

abbrev pub find_text : List ℕ
find_text = codes "SELECT id FROM post WHERE id = ?1"

find_is : (command_of (understood site_schema find_text) ≡ Select (record { lets = []; body = query (col 1 0 ∷ []) }) (codes "id" ∷ []))
    × (reads_listing site_schema find_text ≡ false)
unfolding understood everything
find_is = (refl, refl)

pub find_plain : IsPlain (understood site_schema find_text)
unfolding understood everything
find_plain = (refl, refl)

find_whole : IsWhole find_text 1 (understood site_schema find_text)
unfolding understood everything
find_whole = (refl, refl)

pub find_safe : (id : ℕ) → IsSafe find_text (id_given id)
find_safe id = record {
  query = query (col 1 0 ∷ []);
  names = codes "id" ∷ [];
  is = find_is.0;
  unlisted = find_is.1;
  plain = find_plain;
  whole = find_whole;
  typed = refl;
  sums = λ db. reading.never_sums 0 wheres (col 1 0 ∷ []) [] [] (lit (Int (negsuc 0))) (lit (Int (pos 0))) db (id_given id);
}

as_many : (o : Option Post) (f : Post → Row) → not (nat_eq (length (map f (option_to_list o))) 0) ≡ is_some o
as_many None f = refl
as_many (Some p) f = refl

-- there is one if the result has a row
pub row_is_found : (shown : List Term) (id : ℕ) (db : Trees) → ArePosts (db 0) → (rows : List Row) → IsAnswer (query shown) (overlay db []) (id_given id) rows
    → not (nat_eq (length rows) 0) ≡ has_post id (map post_in (db 0))
row_is_found shown id db ok rows a =
    ap (λ l. not (nat_eq (length l) 0)) (by_id shown id db ok rows a) ∙ as_many (post_with id (map post_in (db 0))) _
    ∙ sym (any_is_found id (map post_in (db 0)))

module _ (old new : Held MemStore) (id : ℕ) (holds : HoldsSite (state over_memory old).now) where
  found_is : (rows : List Row) → Shown find_text (id_given id) (state over_memory old) (state over_memory new) rows
      → not (nat_eq (length rows) 0) ≡ has_post id (rows_of old).posts
  found_is rows h =
      let read = reads_as find_text (id_given id) (state over_memory old) (state over_memory new) site_schema holds.schema_is
      (Select (record { lets = []; body = query (col 1 0 ∷ []) }) (codes "id" ∷ [])) find_is.0 find_plain find_is.1 rows h in
      row_is_found (col 1 0 ∷ []) id (trees_of old) holds.sound.posts rows (read.answer Null)

  pub found : (r : Result (Vec Row Global) Error) → IfOk r (λ rows. Shown find_text (id_given id) (state over_memory old) (state over_memory new) rows.items)
      → IfOk r (λ rows. not (nat_eq (length rows.items) 0) ≡ has_post id (rows_of old).posts)
  found (Err e) ok = tt
  found (Ok rows) ok = found_is rows.items ok
