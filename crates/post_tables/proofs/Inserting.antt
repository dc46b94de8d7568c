-- What INSERT makes of the table of posts and of the row that counts for it.
use Rattle.std.proofs.Common.{◌≡◌, inl, inr, ℕ, ℤ, pos, List, [], ◌∷◌, false, codes, Option, Some, None, Ok, refl, sym, ap, subst, ◌∙◌, arith}
use Rattle.sqlite.specs.Order.{Row}
use Rattle.sqlite_value.specs.declared.value.Value.TheVariants.{Null, Int, Text}
use Rattle.sqlite.specs.Term.{lit, col}
use Rattle.sqlite.specs.Source.TheVariants.{Values}
use Rattle.sqlite_schema.specs.declared.command.Command.{Command}
use Rattle.sqlite.specs.Command.TheVariants.{Insert}
use Rattle.sqlite.specs.Listing.{understood}
use Rattle.sqlite_tied.specs.Compute.{everything}
use Rattle.sqlite.specs.Rows.{sequence}
use Rattle.sqlite_schema.specs.Names.{same_name}
use Rattle.sqlite.proofs.Callers.{IsPlain, command_of}
use Rattle.std.proofs.Common.{find, max, Equal}
use Rattle.std.specs.Ordering.{is_eq, is_lt, int_cmp}
use Rattle.std.proofs.lemmas.Bool.{and_parts, not-true, cases_Bool}
use Rattle.sqlite.specs.Ops.{unary}
use Rattle.sqlite_sql.specs.declared.ops.UnaryOp.TheVariants.{ToInt}
use Rattle.sqlite_value.specs.Order.{column, value_cmp}
use Rattle.sqlite.specs.Tree.{Trees, put_row, rowid}
use Rattle.sqlite.specs.Rows.{Task, Written, Edited, Inserts, counter_in, count_of, counting, higher}
use Rattle.sqlite_schema.specs.declared.schema.Keys.{Keys}
use Rattle.sqlite_rules.specs.Edit.{edit_of, id_in, is_taken}
use Rattle.sqlite_rules.specs.declared.error.Rowids.TheVariants.{Above}
use Rattle.sqlite.proofs.Callers.{one_step}
use Rattle.site_records.specs.declared.post.Post.{Post}
use Rattle.post_tables.specs.Stored.{row_of, IsCounter, top_in}
use Rattle.site_records.specs.Kinds.{kind_text, status_text}
use Rattle.table_rows.proofs.Casting.{cast_int, cast_null}
use Rattle.post_tables.proofs.Comparing.{text_itself}
use Rattle.std.proofs.lemmas.Cmp.{tied_itself}
use Rattle.sqlite_value.proofs.OrderLemmas.{value_cmp_total}
use Rattle.std.proofs.Common.{fold, ◌<◌, ◌≤◌}
use Rattle.std.proofs.lemmas.Bool.Decides.{nat_tests}
use Rattle.std.proofs.lemmas.Int.{ints}
use Rattle.sqlite.specs.Rows.{Counts, CounterIn}
use Rattle.table_rows.proofs.Steps.{went, same_value}
use Rattle.post_tables.specs.Schema.{site_schema, post_table, sequence_table}
use Rattle.post_tables.proofs.Parts.{Others}

abbrev pub insert_text : List ℕ
insert_text = codes "INSERT INTO post (id, kind, status, title, content, date) VALUES (?1, ?2, ?3, ?4, ?5, ?6)"

abbrev pub insert_command : Command
insert_command = Insert 0 (Values (col 0 0 ∷ lit Null ∷ col 0 1 ∷ col 0 2 ∷ col 0 3 ∷ col 0 4 ∷ col 0 5 ∷ []) 7)

pub insert_is : command_of (understood site_schema insert_text) ≡ insert_command
unfolding understood everything
insert_is = refl

pub insert_plain : IsPlain (understood site_schema insert_text)
unfolding understood everything
insert_plain = (refl, refl)

sequence_at : sequence site_schema ≡ Some sequence_table
unfolding same_name
sequence_at = refl

-- the count that the row says
cast_top : (n : ℕ) → (id_in (unary ToInt Null) ≡ pos 0) × (id_in (unary ToInt (Int (pos n))) ≡ pos n)
unfolding unary
cast_top n = (refl, refl)

pub count_is : (db : Trees) → IsCounter (db 1) → (found : Option Row) → found ≡ counter_in db post_table sequence_table → count_of found ≡ pos (top_in (db 1))
count_is db is found at = ap count_of at ∙ go (db 1) is
  where
    go : (rows : List Row) → IsCounter rows → count_of (find (λ r. is_eq (value_cmp (column r 1) (Text (codes "post")))) rows) ≡ pos (top_in rows)
    go [] is = (cast_top 0).0
    go (r ∷ []) is =
        let named : value_cmp (column r 1) (Text (codes "post")) ≡ Equal = ap (λ x. value_cmp (column x 1) (Text (codes "post"))) is
        ∙ text_itself (codes "post") in
        let top : column r 2 ≡ Int (pos (top_in (r ∷ []))) = ap (λ x. column x 2) is in
        rw (named, top) (cast_top (top_in (r ∷ []))).1
    go (r ∷ s ∷ rows) is = absurd is

-- the tables of names are as they were
abbrev pub NamesKept : Trees → Trees → Type 0
NamesKept db next = (next 2 ≡ db 2) × (next 4 ≡ db 4) × (next 6 ≡ db 6)

names_kept : (db next : Trees) (tree : ℕ) → tree < 2 → Others tree db next → NamesKept db next
names_kept db next tree low o = (o.1.1.0 (λ e. omega arith), o.1.1.1.0 (λ e. omega arith), o.1.1.1.1.0 (λ e. omega arith))

pub record IsInserted (db next : Trees) (p : Post) : Type 0 where
  pub free : is_taken (db 0) (row_of p) ≡ false
  pub posts : next 0 ≡ put_row (row_of p) (db 0)
  pub counter : IsCounter (next 1)
  pub top : top_in (next 1) ≡ max (top_in (db 1)) p.id
  pub others : NamesKept db next

module _ (limit : Option ℕ) (keys : Keys) (p : Post) where
  abbrev pub params : Row
  params = Int (pos p.id) ∷ Text (kind_text p.kind) ∷ Text (status_text p.status) ∷ Text p.title ∷ Text p.content ∷ Text p.date ∷ []

  abbrev job : Task
  job = record { limit = limit; keys = keys; schema = site_schema; table = post_table; params = params }

  abbrev source : Row
  source = Int (pos p.id) ∷ Null ∷ Text (kind_text p.kind) ∷ Text (status_text p.status) ∷ Text p.title ∷ Text p.content ∷ Text p.date ∷ []

  put_it : (db mid : Trees) (count : ℤ) → Edited site_schema keys db (edit_of db post_table [] (Above count) 0 (source ∷ [])) (Ok mid)
      → (mid 0 ≡ put_row (row_of p) (db 0)) × (is_taken (db 0) (row_of p) ≡ false) × (mid 1 ≡ db 1) × NamesKept db mid
  put_it db mid count h =
      let edit = edit_of db post_table [] (Above count) 0 (source ∷ []) in
      let done = one_step site_schema keys db mid edit refl h in
      let rows = rw (cast_int (pos p.id), cast_null) at done.rows in
      let fresh = rw (cast_int (pos p.id)) at done.fresh in
      (rows, not-true _ (and_parts _ _ fresh).0, done.tables.1.0 (λ e. omega arith), names_kept db mid 0 (omega arith) done.tables)

  -- the count is made, or set
  abbrev Counting : Trees → Trees → Type 0
  Counting mid next = IsCounter (next 1) × (top_in (next 1) ≡ p.id) × (next 0 ≡ mid 0) × NamesKept mid next

  first_count : (mid next : Trees) → mid 1 ≡ [] → Edited site_schema keys mid (counting mid post_table sequence_table (pos p.id) None) (Ok next)
      → Counting mid next
  first_count mid next none h =
      let done = one_step site_schema keys mid next (counting mid post_table sequence_table (pos p.id) None) refl h in
      let rows = rw (none, cast_null) at done.rows in
      (subst IsCounter (sym rows) refl, ap top_in rows, done.tables.0 (λ e. omega arith), names_kept mid next 1 (omega arith) done.tables)

  next_count : (mid next : Trees) (r : Row) (z : ℤ) → mid 1 ≡ r ∷ [] → rowid r ≡ Int z
      → Edited site_schema keys mid (counting mid post_table sequence_table (pos p.id) (Some r)) (Ok next) → Counting mid next
  next_count mid next r z one at h =
      let done = one_step site_schema keys mid next (counting mid post_table sequence_table (pos p.id) (Some r)) refl h in
      let tied : value_cmp (Int z) (Int z) ≡ Equal = tied_itself value_cmp_total (Int z) in
      let rows = rw (one, at, cast_int z, tied) at done.rows in
      (subst IsCounter (sym rows) refl, ap top_in rows, done.tables.0 (λ e. omega arith), names_kept mid next 1 (omega arith) done.tables)

  Counted : Trees → Trees → Type 0
  Counted mid next = IsCounter (next 1) × (top_in (next 1) ≡ max (top_in (mid 1)) p.id) × (next 0 ≡ mid 0) × NamesKept mid next

  raised : (mid next : Trees) (found : Option Row) (rows : List Row) → mid 1 ≡ rows → IsCounter rows → found ≡ counter_in mid post_table sequence_table
      → Edited site_schema keys mid (counting mid post_table sequence_table (pos p.id) found) (Ok next) → Counting mid next
  raised mid next found [] e is at h =
      let none : found ≡ None = at ∙ ap (find (λ r. is_eq (value_cmp (column r 1) (Text (codes "post"))))) e in
      first_count mid next e (subst (λ o. Edited site_schema keys mid (counting mid post_table sequence_table (pos p.id) o) (Ok next)) none h)
  raised mid next found (r ∷ []) e is at h =
      let named : value_cmp (column r 1) (Text (codes "post")) ≡ Equal = ap (λ x. value_cmp (column x 1) (Text (codes "post"))) is
      ∙ text_itself (codes "post") in
      let some : found ≡ Some r = at ∙ ap (find (λ x. is_eq (value_cmp (column x 1) (Text (codes "post"))))) e ∙ rw named refl in
      next_count mid next r (id_in (rowid r)) e (ap rowid is) (subst
      (λ o. Edited site_schema keys mid (counting mid post_table sequence_table (pos p.id) o) (Ok next)) some h)
  raised mid next found (r ∷ s ∷ rows) e is at h = absurd is

  counted : (mid next : Trees) (found : Option Row) → IsCounter (mid 1) → found ≡ counter_in mid post_table sequence_table
      → Counts job mid found (higher (count_of found) (row_of p)) (Ok next) → Counted mid next
  unfolding Counted
  counted mid next found is at h =
      let top : count_of found ≡ pos (top_in (mid 1)) = count_is mid is found at in
      elim (cases_Bool (is_lt (int_cmp (pos (top_in (mid 1))) (pos p.id)))) [
        | inl above ↦
            let made : Edited site_schema keys mid (counting mid post_table sequence_table (pos p.id) found) (Ok next) = rw (top, above, above, sequence_at)
            at h in
            let it = raised mid next found (mid 1) refl is at made in
            let less : top_in (mid 1) < p.id = grind (arith, ints, nat_tests) in
            (it.0, it.1 ∙ omega arith, it.2, it.3)
        | inr under ↦
            let le : p.id ≤ top_in (mid 1) = grind (arith, ints, nat_tests) in
            let same : next ≡ mid = same_value (rw (top, under, same_int) at h) in (
              subst (λ (t : Trees). IsCounter (t 1)) (sym same) is,
              ap (λ (t : Trees). top_in (t 1)) same
                  ∙ omega arith,
              ap (λ (t : Trees). t 0) same,
              (ap (λ (t : Trees). t 2) same, ap (λ (t : Trees). t 4) same, ap (λ (t : Trees). t 6) same),
            )
      ]
    where
      same_int : is_lt (int_cmp (pos (top_in (mid 1))) (pos (top_in (mid 1)))) ≡ false
      same_int = grind (arith, ints, nat_tests)

  pub inserted : (db : Trees) (w : Written) → IsCounter (db 1)
      → Inserts job (Values (col 0 0 ∷ lit Null ∷ col 0 1 ∷ col 0 2 ∷ col 0 3 ∷ col 0 4 ∷ col 0 5 ∷ []) 7) db (Ok w) → IsInserted db w.trees p
  unfolding Counted
  inserted db w is h =
      let given = went h in
      let counter = went given.2 in
      let at : counter.0 ≡ counter_in db post_table sequence_table = same_value (subst (λ o. CounterIn job db o (Ok counter.0)) sequence_at counter.1) in
      let edit = went counter.2 in
      let put = put_it db edit.0 (count_of counter.0) (subst (λ rows. Edited site_schema keys db
      (edit_of db post_table [] (Above (count_of counter.0)) 0 rows) (Ok edit.0)) given.1.1 edit.1) in
      let counts = went edit.2 in
      let news = subst (λ rows. Counts job edit.0 counter.0 (fold higher (count_of counter.0)
      (edit_of db post_table [] (Above (count_of counter.0)) 0 rows).news) (Ok counts.0)) given.1.1 counts.1 in
      let done = counted edit.0 counts.0 counter.0 (subst IsCounter (sym put.2) is)
      (at ∙ ap (find (λ r. is_eq (value_cmp (column r 1) (Text (codes "post"))))) (sym put.2)) (rw (cast_int (pos p.id)) at news) in
      let trees : w.trees ≡ counts.0 = ap (λ (it : Written). it.trees) (same_value counts.2) in
      record {
        free = put.1;
        posts = ap (λ (t : Trees). t 0) trees ∙ done.2 ∙ put.0;
        counter = subst (λ (t : Trees). IsCounter (t 1)) (sym trees) done.0;
        top = ap (λ (t : Trees). top_in (t 1)) trees ∙ done.1 ∙ ap (λ rows. max (top_in rows) p.id) put.2;
        others = (
          ap (λ (t : Trees). t 2) trees ∙ done.3.0 ∙ put.3.0,
          ap (λ (t : Trees). t 4) trees ∙ done.3.1 ∙ put.3.1,
          ap (λ (t : Trees). t 6) trees
              ∙ done.3.2 ∙ put.3.2,
        );
      }
