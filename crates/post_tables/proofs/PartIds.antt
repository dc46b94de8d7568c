-- What the query of the IDs of a part returns, and what the posts with these IDs are.
use Rattle.std.proofs.Common.{◌≡◌, inl, inr, ℕ, pos, List, [], ◌∷◌, ◌++◌, map, false, codes, Some, Ok, Err, Result, IfOk, Vec, refl, sym, ap, subst, ◌∙◌}
use Rattle.std.specs.Prelude.{All}
use Rattle.std.specs.List.{AllByRecursion, flat_map}
use Rattle.std.specs.Option.{option_to_list}
use Rattle.std.specs.declared.alloc.Global.{Global}
use Rattle.std.proofs.lemmas.List.Elements.{All-from_recursion}
use Rattle.sqlite.specs.declared.error.Error.{Error}
use Rattle.sqlite.specs.Order.{Row}
use Rattle.sqlite.specs.Term.{Term, col}
use Rattle.sqlite.specs.Program.{overlay}
use Rattle.sqlite.specs.Command.TheVariants.{Select}
use Rattle.sqlite.specs.Listing.{understood, reads_listing}
use Rattle.sqlite.specs.Held.{Held, state}
use Rattle.sqlite.specs.Steps.{over_memory}
use Rattle.sqlite.specs.State.{Shown}
use Rattle.sqlite.proofs.Callers.{IsPlain, command_of, reads_as}
use Rattle.sqlite_rules.specs.Edit.{id_in}
use Rattle.sqlite_rules.specs.Lists.{Has}
use Rattle.sqlite_value.specs.declared.value.Value.TheVariants.{Null, Int}
use Rattle.sqlite_value.specs.Order.{column}
use Rattle.sqlite_tied.specs.Compute.{everything}
use Rattle.sqlite_trees.specs.declared.memory.MemStore.{MemStore}
use Rattle.site_records.specs.declared.post.Post.{Post}
use Rattle.site_records.specs.declared.post.PostKind.{PostKind}
use Rattle.post_tables.specs.declared.fault.TablesFault.{TablesFault}
use Rattle.post_tables.specs.Schema.{site_schema}
use Rattle.post_tables.specs.Rows.{post_with}
use Rattle.post_tables.specs.Page.{page_of}
use Rattle.post_tables.specs.Reading.{IsId}
use Rattle.post_tables.specs.Stored.{IsReadable, IsSite, rows_of, trees_of, post_in, magnitude}
use Rattle.post_tables.proofs.Refusing.{IsWhole, IsSafe}
use Rattle.table_rows.proofs.Answering as reading
use Rattle.post_tables.proofs.PageLemmas.{query, wheres, orders, params, answered_page, rows_are, each_readable, paged_from}
use Rattle.post_tables.proofs.PartLemmas.{found_in_part, site_rises}

-- ---- the statement

abbrev shown : List Term
shown = col 1 0 ∷ []

abbrev pub ids_text : List ℕ
ids_text = codes "SELECT id FROM post WHERE kind = ?1 AND status = 'publish' AND date BETWEEN ?2 AND ?3 ORDER BY date DESC, id DESC LIMIT ?4 OFFSET ?5"

abbrev names : List (List ℕ)
names = codes "id" ∷ []

ids_are : (command_of (understood site_schema ids_text) ≡ Select (record { lets = []; body = query shown }) names)
    × (reads_listing site_schema ids_text ≡ false)
unfolding understood everything
ids_are = (refl, refl)

pub ids_plain : IsPlain (understood site_schema ids_text)
unfolding understood everything
ids_plain = (refl, refl)

ids_whole : IsWhole ids_text 5 (understood site_schema ids_text)
unfolding understood everything
ids_whole = (refl, refl)

pub ids_safe : (kind : PostKind) (from to : List ℕ) (limit offset : ℕ) → IsSafe ids_text (params kind from to limit offset)
ids_safe kind from to limit offset = record {
  query = query shown;
  names = names;
  is = ids_are.0;
  unlisted = ids_are.1;
  plain = ids_plain;
  whole = ids_whole;
  typed = refl;
  sums = λ db. reading.never_sums 0 wheres shown [] orders (col 0 3) (col 0 4) db (params kind from to limit offset);
}

-- ---- its result

abbrev shown_id : Post → Row
shown_id p = Int (pos p.id) ∷ []

abbrev pub id_of : Row → ℕ
id_of r = magnitude (id_in (column r 0))

ids_read : (old new : Held MemStore) (kind : PostKind) (from to : List ℕ) (limit offset : ℕ) (rows : List Row) → IsSite old
    → Shown ids_text (params kind from to limit offset) (state over_memory old) (state over_memory new) rows
    → rows ≡ map shown_id (page_of kind from to limit offset (rows_of old).posts)
ids_read old new kind from to limit offset rows is h =
    let read = reads_as ids_text (params kind from to limit offset) (state over_memory old) (state over_memory new) site_schema is.holds.schema_is
    (Select (record { lets = []; body = query shown }) names) ids_are.0 ids_plain ids_are.1 rows h in
    let posts = is.holds.sound.posts in
    answered_page kind from to limit offset shown (overlay (trees_of old) []) rows (map post_in (trees_of old 0)) (rows_are (trees_of old 0) posts.each)
    posts.ordered (read.answer Null)

ids_back : (ps : List Post) → map id_of (map shown_id ps) ≡ map (λ p. p.id) ps
ids_back [] = refl
ids_back (p ∷ ps) = ap (λ l. p.id ∷ l) (ids_back ps)

shown_ids : (ps : List Post) → ((p : Post) → Has ps p → IsReadable p) → AllByRecursion (λ r. IsId (column r 0)) (map shown_id ps)
shown_ids [] each = tt
shown_ids (p ∷ ps) each = ((p.id, refl, (each p (inl refl)).id), shown_ids ps (λ q h. each q (inr h)))

module _ (old new : Held MemStore) (kind : PostKind) (from to : List ℕ) (limit offset : ℕ) where
  pub ids_readable : (r : Result (Vec Row Global) Error) → IsSite old
      → IfOk r (λ rows. Shown ids_text (params kind from to limit offset) (state over_memory old) (state over_memory new) rows.items)
      → IfOk r (λ rows. All (λ r. IsId (column r 0)) rows.items)
  ids_readable (Err e) is ok = tt
  ids_readable (Ok rows) is ok =
      let each = shown_ids (page_of kind from to limit offset (rows_of old).posts)
      (λ p h. each_readable (trees_of old 0) is.holds.sound.posts p (paged_from kind from to limit offset (rows_of old).posts p h)) in
      All-from_recursion (λ r. IsId (column r 0)) rows.items (subst (AllByRecursion (λ r. IsId (column r 0)))
      (sym (ids_read old new kind from to limit offset rows.items is ok)) each)

  pub ids_rows : (r : Result (Vec Row Global) Error) → IsSite old
      → IfOk r (λ rows. Shown ids_text (params kind from to limit offset) (state over_memory old) (state over_memory new) rows.items)
      → IfOk r (λ rows. map id_of rows.items ≡ map (λ p. p.id) (page_of kind from to limit offset (rows_of old).posts))
  ids_rows (Err e) is ok = tt
  ids_rows (Ok rows) is ok = ap (map id_of) (ids_read old new kind from to limit offset rows.items is ok)
      ∙ ids_back (page_of kind from to limit offset (rows_of old).posts)

-- ---- the posts with these IDs

abbrev pub found_of : List Post → ℕ → List Post
found_of ps id = option_to_list (post_with id ps)

found_each : (ps page : List Post) → ((p : Post) → Has page p → post_with p.id ps ≡ Some p) → flat_map (found_of ps) (map (λ p. p.id) page) ≡ page
found_each ps [] each = refl
found_each ps (p ∷ page) each =
    ap (λ o. option_to_list o ++ flat_map (found_of ps) (map (λ q. q.id) page)) (each p (inl refl))
    ∙ ap (λ l. p ∷ l) (found_each ps page (λ q h. each q (inr h)))

part_by_ids : (h : Held MemStore) (is : IsSite h) (kind : PostKind) (from to : List ℕ) (limit offset : ℕ) (ids : List ℕ)
    → ids ≡ map (λ p. p.id) (page_of kind from to limit offset (rows_of h).posts)
    → flat_map (found_of (rows_of h).posts) ids ≡ page_of kind from to limit offset (rows_of h).posts
part_by_ids h is kind from to limit offset ids are =
    let ps : List Post = (rows_of h).posts in
    ap (flat_map (found_of ps)) are
    ∙ found_each ps (page_of kind from to limit offset ps) (λ p there. found_in_part kind from to limit offset ps (site_rises h is) p there)

-- so they are the posts of the part
pub part_given : (h : Held MemStore) (is : IsSite h) (kind : PostKind) (from to : List ℕ) (limit offset : ℕ) (ids : List ℕ)
    → ids ≡ map (λ p. p.id) (page_of kind from to limit offset (rows_of h).posts)
    → (r : Result (Vec Post Global) TablesFault) → IfOk r (λ posts. posts.items ≡ flat_map (found_of (rows_of h).posts) ids)
    → IfOk r (λ posts. posts.items ≡ page_of kind from to limit offset (rows_of h).posts)
part_given h is kind from to limit offset ids are (Err e) given = tt
part_given h is kind from to limit offset ids are (Ok posts) given = given ∙ part_by_ids h is kind from to limit offset ids are
