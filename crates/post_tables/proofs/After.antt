-- What the query of the posts after an ID returns.
use Rattle.std.proofs.Common.{◌≡◌, ℕ, nat_lt, pos, List, [], ◌∷◌, map, filter, Bool, true, false, cond, codes}
use Rattle.std.proofs.Common.{Ok, Err, Result, IfOk, Vec, Less, refl, sym, ap, subst, ◌∙◌}
use Rattle.std.specs.Prelude.{All}
use Rattle.std.specs.List.{AllByRecursion, IsDistinct}
use Rattle.std.specs.Ordering.{is_eq, nat_cmp, eq_by_cmp}
use Rattle.std.specs.declared.alloc.Global.{Global}
use Rattle.std.proofs.lemmas.List.{take-map}
use Rattle.sqlite.specs.declared.error.Error.{Error}
use Rattle.sqlite.specs.Command.TheVariants.{Select}
use Rattle.sqlite.specs.Held.{Held, state}
use Rattle.sqlite.specs.Listing.{understood, reads_listing}
use Rattle.sqlite.specs.Order.{Row}
use Rattle.sqlite.specs.Program.{overlay}
use Rattle.sqlite.specs.Query.{Query, IsAnswer, output, output_cmp, page, Output}
use Rattle.sqlite.specs.State.{Shown}
use Rattle.sqlite.specs.Steps.{over_memory}
use Rattle.sqlite.specs.Term.{Term, lit, col}
use Rattle.sqlite.specs.Tree.{Trees, IsTable}
use Rattle.sqlite.proofs.Callers.{IsPlain, command_of, reads_as}
use Rattle.sqlite_rules.specs.Lists.{Has}
use Rattle.sqlite_rules.proofs.ListLemmas.{has_filtered}
use Rattle.sqlite_sql.specs.declared.ops.BinaryOp.TheVariants.{Compare}
use Rattle.sqlite_sql.specs.declared.ops.CompareOp.TheVariants.{Gt}
use Rattle.sqlite_sql.specs.Term.{op2}
use Rattle.sqlite_tied.specs.Compute.{everything}
use Rattle.sqlite_trees.specs.declared.memory.MemStore.{MemStore}
use Rattle.sqlite_value.specs.declared.value.Value.TheVariants.{Null, Int}
use Rattle.sqlite_value.specs.declared.keys.Collation.TheVariants.{Binary}
use Rattle.sqlite_value.specs.declared.keys.Key.{Key}
use Rattle.sqlite_value.proofs.OrderLemmas.{value_cmp-Int, then-Equal}
use Rattle.site_records.specs.declared.post.Post.{Post}
use Rattle.table_rows.specs.Sorting.{in_order, put_sorted}
use Rattle.table_rows.proofs.Answering as reading
use Rattle.post_tables.specs.Schema.{site_schema}
use Rattle.post_tables.specs.Rows.{posts_after}
use Rattle.post_tables.specs.Reading.{post_from, IsPostRow}
use Rattle.post_tables.specs.Stored.{IsSite, rows_of, trees_of, row_of, post_in}
use Rattle.post_tables.proofs.Comparing.{pos_cmp, number_above}
use Rattle.post_tables.proofs.PageLemmas.{projects, Rising, rising_from, rising_filter, rows_are, shown_post, posts_back, each_readable, all_shown, has_taken}
use Rattle.post_tables.proofs.Refusing.{IsWhole, IsSafe}

abbrev wheres : List Term
wheres = op2 (Compare Gt Binary) (col 1 0) (col 0 0) ∷ []

abbrev orders : List (Term × Key)
orders = (col 1 0, record { collation = Binary; descending = false }) ∷ []

abbrev query : Query
query = reading.query 0 wheres projects [] orders (col 0 1) (lit (Int (pos 0)))

-- ---- the statement

abbrev pub after_text : List ℕ
after_text = codes "SELECT id, kind, status, title, content, date FROM post WHERE id > ?1 ORDER BY id LIMIT ?2"

abbrev names : List (List ℕ)
names = codes "id" ∷ codes "kind" ∷ codes "status" ∷ codes "title" ∷ codes "content" ∷ codes "date" ∷ []

after_is : (command_of (understood site_schema after_text) ≡ Select (record { lets = []; body = query }) names)
    × (reads_listing site_schema after_text ≡ false)
unfolding understood everything
after_is = (refl, refl)

pub after_plain : IsPlain (understood site_schema after_text)
unfolding understood everything
after_plain = (refl, refl)

after_whole : IsWhole after_text 2 (understood site_schema after_text)
unfolding understood everything
after_whole = (refl, refl)

module _ (id limit : ℕ) where
  abbrev pub params : Row
  params = Int (pos id) ∷ Int (pos limit) ∷ []

  pub after_safe : IsSafe after_text params
  after_safe = record {
    query = query;
    names = names;
    is = after_is.0;
    unlisted = after_is.1;
    plain = after_plain;
    whole = after_whole;
    typed = refl;
    sums = λ db. reading.never_sums 0 wheres projects [] orders (col 0 1) (lit (Int (pos 0))) db params;
  }

  -- ---- its result

  abbrev is_after : Post → Bool
  is_after p = nat_lt id p.id

  abbrev passes : Row → Bool
  passes = reading.passes 0 wheres projects [] orders (col 0 1) (lit (Int (pos 0))) (λ _. []) params

  passes_is : (p : Post) → passes (row_of p) ≡ is_after p
  passes_is p = number_above p.id id

  -- what a post is sorted by, and what is shown of it
  abbrev out : Post → Output
  out p = output query (params ∷ row_of p ∷ [])

  abbrev shows : Row → Output
  shows r = output query (params ∷ r ∷ [])

  kept_rows : (ps : List Post) → map shows (filter passes (map row_of ps)) ≡ map out (filter is_after ps)
  kept_rows [] = refl
  kept_rows (p ∷ ps) = rw (passes_is p) (elim (is_after p) as
      (λ b. map shows (cond b (row_of p ∷ filter passes (map row_of ps)) (filter passes (map row_of ps)))
      ≡ map out (cond b (p ∷ filter is_after ps) (filter is_after ps)))
      [ true ↦ ap (λ l. out p ∷ l) (kept_rows ps) | false ↦ kept_rows ps ])

  by_number : (a b : Post) → nat_cmp a.id b.id ≡ Less → output_cmp query (out a) (out b) ≡ Less
  by_number a b low = then-Equal _ ∙ value_cmp-Int (pos a.id) (pos b.id) ∙ pos_cmp a.id b.id ∙ low

  apart : (ps : List Post) → Rising ps → IsDistinct (eq_by_cmp (output_cmp query)) (map out ps)
  unfolding IsDistinct
  apart [] up = tt
  apart (p ∷ ps) up = (each ps up.0, apart ps up.1)
    where
      each : (qs : List Post) → AllByRecursion (λ q. nat_cmp p.id q.id ≡ Less) qs
          → AllByRecursion (λ o. eq_by_cmp (output_cmp query) (out p) o ≡ false) (map out qs)
      each [] low = tt
      each (q ∷ qs) low = (ap is_eq (by_number p q low.0), each qs low.1)

  rising_in_order : (ps : List Post) → Rising ps → in_order (output_cmp query) (map out ps) ≡ map out ps
  rising_in_order [] up = refl
  rising_in_order (p ∷ []) up = refl
  rising_in_order (p ∷ q ∷ ps) up =
      let later = rising_in_order (q ∷ ps) up.1 in
      let first : output_cmp query (out p) (out q) ≡ Less = by_number p q up.0.0 in
      ap (put_sorted (output_cmp query) (out p)) later ∙ rw first refl

  shown_are : (ps : List Post) → map (λ (o : Output). o.1) (map out ps) ≡ map shown_post ps
  shown_are [] = refl
  shown_are (p ∷ ps) = ap (λ l. shown_post p ∷ l) (shown_are ps)

  answered : (db : Trees) (rows : List Row) (ps : List Post) → db 0 ≡ map row_of ps → IsTable (db 0) → IsAnswer query db params rows
      → rows ≡ map shown_post (posts_after id limit ps)
  answered db rows ps are up a =
      let ls : List Post = filter is_after ps in
      let rising : Rising ls = rising_filter is_after ps (rising_from ps (subst IsTable are up)) in
      let outs : map shows (filter passes (db 0)) ≡ map out ls = ap (λ l. map shows (filter passes l)) are ∙ kept_rows ps in
      let all = reading.answer_is 0 wheres projects [] orders (col 0 1) (lit (Int (pos 0))) db params rows a
      (subst (IsDistinct (eq_by_cmp (output_cmp query))) (sym outs) (apart ls rising)) in
      all ∙ ap (λ l. page query params (map (λ (o : Output). o.1) (in_order (output_cmp query) l))) outs
      ∙ ap (λ l. page query params (map (λ (o : Output). o.1) l)) (rising_in_order ls rising)
      ∙ ap (page query params) (shown_are ls)
      ∙ take-map shown_post limit ls

-- over the tables of a site
after_read : (old new : Held MemStore) (id limit : ℕ) (rows : List Row) → IsSite old
    → Shown after_text (params id limit) (state over_memory old) (state over_memory new) rows
    → rows ≡ map shown_post (posts_after id limit (rows_of old).posts)
after_read old new id limit rows is h =
    let read = reads_as after_text (params id limit) (state over_memory old) (state over_memory new) site_schema is.holds.schema_is
    (Select (record { lets = []; body = query }) names) after_is.0 after_plain after_is.1 rows h in
    let posts = is.holds.sound.posts in
    answered id limit (overlay (trees_of old) []) rows (map post_in (trees_of old 0)) (rows_are (trees_of old 0) posts.each) posts.ordered (read.answer Null)

stored_after : (id limit : ℕ) (ps : List Post) (p : Post) → Has (posts_after id limit ps) p → Has ps p
stored_after id limit ps p h = (has_filtered (λ (q : Post). nat_lt id q.id) ps p (has_taken limit _ p h)).0

module _ (old new : Held MemStore) (id limit : ℕ) where
  pub after_readable : (r : Result (Vec Row Global) Error) → IsSite old
      → IfOk r (λ rows. Shown after_text (params id limit) (state over_memory old) (state over_memory new) rows.items)
      → IfOk r (λ rows. All IsPostRow rows.items)
  after_readable (Err e) is ok = tt
  after_readable (Ok rows) is ok =
      all_shown rows.items (posts_after id limit (rows_of old).posts) (after_read old new id limit rows.items is ok)
      (λ p h. each_readable (trees_of old 0) is.holds.sound.posts p (stored_after id limit (rows_of old).posts p h))

  pub after_rows : (r : Result (Vec Row Global) Error) → IsSite old
      → IfOk r (λ rows. Shown after_text (params id limit) (state over_memory old) (state over_memory new) rows.items)
      → IfOk r (λ rows. map post_from rows.items ≡ posts_after id limit (rows_of old).posts)
  after_rows (Err e) is ok = tt
  after_rows (Ok rows) is ok = ap (map post_from) (after_read old new id limit rows.items is ok)
      ∙ posts_back (posts_after id limit (rows_of old).posts)
