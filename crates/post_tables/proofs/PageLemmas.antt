-- What the query of a part of the posts returns.
use Rattle.std.proofs.Common.{◌≡◌, inl, inr, ℕ, zero, suc, nat_lt, lit<, pos, List, [], ◌∷◌, map, filter, take, drop, Bool, true, false, ◌&&◌, cond, codes}
use Rattle.std.proofs.Common.{Ok, Err, Result, IfOk, Vec, Less, refl, sym, ap, subst, ◌∙◌}
use Rattle.std.specs.List.{AllByRecursion, IsDistinct}
use Rattle.std.specs.Str.{bytes_eq}
use Rattle.std.specs.declared.alloc.Global.{Global}
use Rattle.sqlite.specs.declared.error.Error.{Error}
use Rattle.std.specs.Ordering.{is_ge, nat_cmp, eq_by_cmp}
use Rattle.std.proofs.lemmas.List.{take-map, drop-map}
use Rattle.std.proofs.lemmas.Map.Text.{is_eq-slice_cmp}
use Rattle.sqlite.specs.Order.{Row}
use Rattle.sqlite.specs.Term.{Term, lit, col}
use Rattle.sqlite.specs.Tree.{Trees, rowid, IsTable, IsAscending}
use Rattle.sqlite.specs.Query.{Query, IsAnswer, output, output_cmp, page, Output}
use Rattle.sqlite.specs.Program.{overlay}
use Rattle.sqlite_value.specs.declared.value.Value.TheVariants.{Null, Int, Text}
use Rattle.sqlite_value.specs.declared.keys.Collation.TheVariants.{Binary}
use Rattle.sqlite_value.specs.declared.keys.Key.{Key}
use Rattle.sqlite_value.specs.Order.{value_cmp}
use Rattle.sqlite_value.proofs.OrderLemmas.{value_cmp-Text, value_cmp-Int, then-Equal}
use Rattle.sqlite_value.proofs.KeyLemmas.{then_tied}
use Rattle.sqlite_sql.specs.declared.ops.BinaryOp.TheVariants.{Compare}
use Rattle.sqlite_sql.specs.declared.ops.CompareOp.{CompareOp}
use Rattle.sqlite_sql.specs.declared.ops.CompareOp.TheVariants.{Eq, Ge, Le}
use Rattle.sqlite_sql.specs.Term.{op2}
use Rattle.sqlite_tied.specs.Compute.{everything}
use Rattle.sqlite.specs.Command.TheVariants.{Select}
use Rattle.sqlite.specs.Listing.{understood, reads_listing}
use Rattle.sqlite.proofs.Callers.{IsPlain, command_of}
use Rattle.post_tables.specs.Schema.{site_schema}
use Rattle.std.specs.Ordering.{ordering_reverse}
use Rattle.std.specs.Cmp.{nat_cmp_total}
use Rattle.std.proofs.lemmas.Bool.{false_from_ne_true, and_parts, ltb-true}
use Rattle.sqlite_rules.specs.Lists.{Has}
use Rattle.sqlite_rules.proofs.ListLemmas.{has_filtered, all_has, all_from}
use Rattle.sqlite_trees.specs.declared.memory.MemStore.{MemStore}
use Rattle.sqlite.specs.Held.{Held, state}
use Rattle.sqlite.specs.Steps.{over_memory}
use Rattle.sqlite.specs.State.{Shown}
use Rattle.sqlite.proofs.Callers.{reads_as}
use Rattle.site_records.specs.declared.post.Post.{Post}
use Rattle.site_records.specs.declared.post.PostKind.{PostKind}
use Rattle.site_records.specs.declared.post.PostKind.TheVariants.{Post as OfPost, Page as OfPage}
use Rattle.site_records.specs.declared.post.PostStatus.{PostStatus}
use Rattle.site_records.specs.declared.post.PostStatus.TheVariants.{Publish, Draft}
use Rattle.table_rows.specs.Sorting.{in_order}
use Rattle.post_tables.specs.Rows.{by_bytes}
use Rattle.post_tables.specs.Page.{newest, is_kind, is_published, is_listed, page_of}
use Rattle.post_tables.specs.Stored.{IsReadable, ArePosts, IsSite, rows_of, trees_of, row_of, post_in, kind_of, status_of}
use Rattle.site_records.specs.Kinds.{kind_text, status_text}
use Rattle.post_tables.specs.Reading.{post_from, IsPostRow}
use Rattle.sqlite_typing.specs.Types.{accepts_program}
use Rattle.std.specs.Prelude.{IsUtf8, All}
use Rattle.std.specs.List.{list_all}
use Rattle.std.specs.Str.{IsAscii}
use Rattle.std.proofs.lemmas.Str.{IsUtf8-from_ascii}
use Rattle.std.proofs.lemmas.List.Elements.{All-from_recursion}
use Rattle.std.specs.Cmp.{IsTotalOrder}
use Rattle.std.proofs.lemmas.Cmp.{on_total, then_total, back_total}
use Rattle.std.specs.Cmp.Lexicographic.{nat_list_cmp_total}
use Rattle.post_tables.proofs.Refusing.{IsWhole, IsSafe}
use Rattle.table_rows.proofs.Lists.{mapped_from}
use Rattle.post_tables.proofs.Comparing.{equal_is, text_compares, and_true, pos_cmp}
use Rattle.table_rows.proofs.SortLemmas.{sorted_mapped, sorted_had}
use Rattle.table_rows.proofs.Answering as reading

abbrev by : Key
by = record { collation = Binary; descending = true }

abbrev compare : CompareOp → Term → Term → Term
compare op = op2 (Compare op Binary)

abbrev pub wheres : List Term
wheres = compare Eq (col 1 2) (col 0 0) ∷ compare Eq (col 1 3) (lit (Text (codes "publish"))) ∷ compare Ge (col 1 6) (col 0 1)
    ∷ compare Le (col 1 6) (col 0 2) ∷ []

abbrev pub projects : List Term
projects = col 1 0 ∷ col 1 2 ∷ col 1 3 ∷ col 1 4 ∷ col 1 5 ∷ col 1 6 ∷ []

abbrev pub orders : List (Term × Key)
orders = (col 1 6, by) ∷ (col 1 0, by) ∷ []

-- a part, and what is shown of each of its posts
abbrev pub query : List Term → Query
query shown = reading.query 0 wheres shown [] orders (col 0 3) (col 0 4)

-- ---- the statement

abbrev pub page_text : List ℕ
page_text = codes "SELECT id, kind, status, title, content, date FROM post WHERE kind = ?1 AND status = 'publish' AND date BETWEEN ?2 AND ?3 ORDER BY date DESC, id DESC LIMIT ?4 OFFSET ?5"

abbrev names : List (List ℕ)
names = codes "id" ∷ codes "kind" ∷ codes "status" ∷ codes "title" ∷ codes "content" ∷ codes "date" ∷ []

page_is : (command_of (understood site_schema page_text) ≡ Select (record { lets = []; body = query projects }) names)
    × (reads_listing site_schema page_text ≡ false)
unfolding understood everything
page_is = (refl, refl)

pub page_plain : IsPlain (understood site_schema page_text)
unfolding understood everything
page_plain = (refl, refl)

page_whole : IsWhole page_text 5 (understood site_schema page_text)
unfolding understood everything
page_whole = (refl, refl)

-- ---- what the tests of WHERE say

kinds_tie : (a b : PostKind) → bytes_eq (kind_text a) (kind_text b) ≡ is_kind a b
kinds_tie OfPost OfPost = refl
kinds_tie OfPost OfPage = refl
kinds_tie OfPage OfPost = refl
kinds_tie OfPage OfPage = refl

published_ties : (s : PostStatus) → bytes_eq (status_text s) (codes "publish") ≡ is_published s
published_ties Publish = refl
published_ties Draft = refl

pub kind_back : (k : PostKind) → kind_of (kind_text k) ≡ k
kind_back OfPost = refl
kind_back OfPage = refl

pub status_back : (s : PostStatus) → status_of (status_text s) ≡ s
status_back Publish = refl
status_back Draft = refl

-- the IDs rise
abbrev pub Rising : List Post → Type 0
Rising = IsAscending (λ a b. nat_cmp a.id b.id ≡ Less)

below_from : (p : Post) (ps : List Post) → AllByRecursion (λ r. value_cmp (rowid (row_of p)) (rowid r) ≡ Less) (map row_of ps)
    → AllByRecursion (λ b. nat_cmp p.id b.id ≡ Less) ps
below_from p [] up = tt
below_from p (b ∷ ps) up = (sym (value_cmp-Int (pos p.id) (pos b.id) ∙ pos_cmp p.id b.id) ∙ up.0, below_from p ps up.1)

pub rising_from : (ps : List Post) → IsTable (map row_of ps) → Rising ps
rising_from [] up = tt
rising_from (p ∷ ps) up = (below_from p ps up.0, rising_from ps up.1)

pub rising_filter : (f : Post → Bool) (ps : List Post) → Rising ps → Rising (filter f ps)
rising_filter f [] up = tt
rising_filter f (p ∷ ps) up =
    let later = rising_filter f ps up.1 in
    elim (f p) as (λ b. Rising (cond b (p ∷ filter f ps) (filter f ps)))
    [ true ↦ (all_from _ (filter f ps) (λ q h. all_has _ ps q up.0 (has_filtered f ps q h).0), later) | false ↦ later ]

pub rows_are : (rows : List Row) → ((r : Row) → Has rows r → r ≡ row_of (post_in r)) → rows ≡ map row_of (map post_in rows)
rows_are [] each = refl
rows_are (r ∷ rows) each = let first = each r (inl refl) in let rest = rows_are rows (λ x h. each x (inr h)) in λ i. first i ∷ rest i

-- what is shown of a post
abbrev pub shown_post : Post → Row
shown_post p = Int (pos p.id) ∷ Text (kind_text p.kind) ∷ Text (status_text p.status) ∷ Text p.title ∷ Text p.content ∷ Text p.date ∷ []

pub posts_back : (ps : List Post) → map post_from (map shown_post ps) ≡ ps
posts_back [] = refl
posts_back (p ∷ ps) = let rest = posts_back ps in λ i. record p { kind = kind_back p.kind i; status = status_back p.status i } ∷ rest i

module _ (kind : PostKind) (from to : List ℕ) (limit offset : ℕ) where
  abbrev pub params : Row
  params = Text (kind_text kind) ∷ Text from ∷ Text to ∷ Int (pos limit) ∷ Int (pos offset) ∷ []

  page_typed : accepts_program site_schema [] (query projects) params ≡ true
  page_typed = refl

  pub page_safe : IsSafe page_text params
  page_safe = record {
    query = query projects;
    names = names;
    is = page_is.0;
    unlisted = page_is.1;
    plain = page_plain;
    whole = page_whole;
    typed = page_typed;
    sums = λ db. reading.never_sums 0 wheres projects [] orders (col 0 3) (col 0 4) db params;
  }

  abbrev passes : Row → Bool
  passes = reading.passes 0 wheres projects [] orders (col 0 3) (col 0 4) (λ _. []) params

  passes_is : (p : Post) → passes (row_of p) ≡ is_listed kind from to p
  passes_is p = rw (text_compares, text_compares, text_compares, text_compares, is_eq-slice_cmp, is_eq-slice_cmp, kinds_tie, published_ties)
      (ap (λ b. is_kind p.kind kind && (is_published p.status && (is_ge (by_bytes p.date from) && b))) (and_true _))

  module _ (shown : List Term) where
    -- what a post is sorted by, and what is shown of it
    abbrev pub out : Post → Output
    out p = output (query shown) (params ∷ row_of p ∷ [])

    newest_is : (a b : Post) → output_cmp (query shown) (out a) (out b) ≡ newest a b
    newest_is a b = rw (value_cmp-Text, value_cmp-Int, then-Equal, pos_cmp) refl

    abbrev shows : Row → Output
    shows r = output (query shown) (params ∷ r ∷ [])

    listed_rows : (ps : List Post) → map shows (filter passes (map row_of ps)) ≡ map out (filter (is_listed kind from to) ps)
    listed_rows [] = refl
    listed_rows (p ∷ ps) = rw (passes_is p) (elim (is_listed kind from to p) as
        (λ b. map shows (cond b (row_of p ∷ filter passes (map row_of ps)) (filter passes (map row_of ps)))
        ≡ map out (cond b (p ∷ filter (is_listed kind from to) ps) (filter (is_listed kind from to) ps)))
        [ true ↦ ap (λ l. out p ∷ l) (listed_rows ps) | false ↦ listed_rows ps ])

    tied_ids : (a b : Post) → nat_cmp a.id b.id ≡ Less → eq_by_cmp (output_cmp (query shown)) (out a) (out b) ≡ false
    tied_ids a b lower = false_from_ne_true _ (λ tied.
        let both = then_tied (by_bytes b.date a.date) (nat_cmp b.id a.id) (sym (newest_is a b) ∙ equal_is _ tied) in
        let flipped = nat_cmp_total.antisymm a.id b.id ∙ ap ordering_reverse both.1 in
        cc)

    apart : (ps : List Post) → Rising ps → IsDistinct (eq_by_cmp (output_cmp (query shown))) (map out ps)
    unfolding IsDistinct
    apart [] up = tt
    apart (p ∷ ps) up = (
      all_from _ (map out ps) (λ o h. let b = mapped_from out ps o h in rw (b.2) (tied_ids p b.0 (all_has _ ps b.0 up.0 b.1))),
      apart ps
          up.1,
    )

    abbrev pub shown_of : Post → Row
    shown_of p = (out p).1

    first_shown : (ps : List Post) → map (λ (o : Output). o.1) (map out ps) ≡ map shown_of ps
    first_shown [] = refl
    first_shown (p ∷ ps) = ap (λ l. shown_of p ∷ l) (first_shown ps)

    -- the result over the rows of posts
    pub answered_page : (db : Trees) (rows : List Row) (ps : List Post) → db 0 ≡ map row_of ps → IsTable (db 0) → IsAnswer (query shown) db params rows
        → rows ≡ map shown_of (page_of kind from to limit offset ps)
    answered_page db rows ps are up a =
        let ls : List Post = filter (is_listed kind from to) ps in
        let outs : map shows (filter passes (db 0)) ≡ map out ls = ap (λ l. map shows (filter passes l)) are ∙ listed_rows ps in
        let distinct : IsDistinct (eq_by_cmp (output_cmp (query shown))) (map out ls) = apart ls
        (rising_filter (is_listed kind from to) ps (rising_from ps (subst IsTable are up))) in
        let all = reading.answer_is 0 wheres shown [] orders (col 0 3) (col 0 4) db params rows a
        (subst (IsDistinct (eq_by_cmp (output_cmp (query shown)))) (sym outs) distinct) in
        all ∙ ap (λ l. page (query shown) params (map (λ (o : Output). o.1) (in_order (output_cmp (query shown)) l))) outs
        ∙ ap (λ l. page (query shown) params (map (λ (o : Output). o.1) l)) (sym (sorted_mapped newest (output_cmp (query shown)) out newest_is ls))
        ∙ ap (page (query shown) params) (first_shown (in_order newest ls))
        ∙ ap (take limit) (drop-map shown_of offset (in_order newest ls))
        ∙ take-map shown_of limit (drop offset (in_order newest ls))

-- what the statement returns over the tables of a site
page_read : (old new : Held MemStore) (kind : PostKind) (from to : List ℕ) (limit offset : ℕ) (rows : List Row) → IsSite old
    → Shown page_text (params kind from to limit offset) (state over_memory old) (state over_memory new) rows
    → rows ≡ map shown_post (page_of kind from to limit offset (rows_of old).posts)
page_read old new kind from to limit offset rows is h =
    let read = reads_as page_text (params kind from to limit offset) (state over_memory old) (state over_memory new) site_schema is.holds.schema_is
    (Select (record { lets = []; body = query projects }) names) page_is.0 page_plain page_is.1 rows h in
    let posts = is.holds.sound.posts in
    answered_page kind from to limit offset projects (overlay (trees_of old) []) rows (map post_in (trees_of old 0)) (rows_are (trees_of old 0) posts.each)
    posts.ordered (read.answer Null)

-- ---- that its rows can be read

ascii_each : (bs : List ℕ) → list_all (λ b. nat_lt b 128) bs ≡ true → IsAscii bs
ascii_each [] h zero = lit< tt
ascii_each [] h (suc i) = lit< tt
ascii_each (b ∷ bs) h zero = ltb-true b 128 (and_parts (nat_lt b 128) (list_all (λ x. nat_lt x 128) bs) h).0
ascii_each (b ∷ bs) h (suc i) = ascii_each bs (and_parts (nat_lt b 128) (list_all (λ x. nat_lt x 128) bs) h).1 i

ascii_utf8 : (bs : List ℕ) → list_all (λ b. nat_lt b 128) bs ≡ true → IsUtf8 bs
ascii_utf8 bs h = IsUtf8-from_ascii bs (ascii_each bs h)

kind_utf8 : (k : PostKind) → IsUtf8 (kind_text k)
kind_utf8 OfPost = ascii_utf8 (codes "post") refl
kind_utf8 OfPage = ascii_utf8 (codes "page") refl

status_utf8 : (s : PostStatus) → IsUtf8 (status_text s)
status_utf8 Publish = ascii_utf8 (codes "publish") refl
status_utf8 Draft = ascii_utf8 (codes "draft") refl

shown_row : (p : Post) → IsReadable p → IsPostRow (shown_post p)
shown_row p good = record {
  width = refl;
  id = (p.id, refl, good.id);
  kind = (kind_text p.kind, refl, kind_utf8 p.kind);
  status = (status_text p.status, refl, status_utf8 p.status);
  title = (p.title, refl, good.title);
  content = (p.content, refl, good.content);
  date = (p.date, refl, good.date);
  dated = good.dated;
}

pub each_readable : (rows : List Row) → ArePosts rows → (p : Post) → Has (map post_in rows) p → IsReadable p
each_readable rows ok p h = let r = mapped_from post_in rows p h in subst IsReadable (sym r.2) (ok.readable r.0 r.1)

shown_rows : (ps : List Post) → ((p : Post) → Has ps p → IsReadable p) → AllByRecursion IsPostRow (map shown_post ps)
shown_rows [] each = tt
shown_rows (p ∷ ps) each = (shown_row p (each p (inl refl)), shown_rows ps (λ q h. each q (inr h)))

pub all_shown : (rows : List Row) (ps : List Post) → rows ≡ map shown_post ps → ((p : Post) → Has ps p → IsReadable p) → All IsPostRow rows
all_shown rows ps are each = All-from_recursion IsPostRow rows (subst (AllByRecursion IsPostRow) (sym are) (shown_rows ps each))

pub has_taken : {A : Type 0} (n : ℕ) (xs : List A) (x : A) → Has (take n xs) x → Has xs x
has_taken zero xs x h = absurd h
has_taken (suc n) [] x h = h
has_taken (suc n) (y ∷ xs) x (inl same) = inl same
has_taken (suc n) (y ∷ xs) x (inr more) = inr (has_taken n xs x more)

pub has_left : {A : Type 0} (n : ℕ) (xs : List A) (x : A) → Has (drop n xs) x → Has xs x
has_left zero xs x h = h
has_left (suc n) [] x h = h
has_left (suc n) (y ∷ xs) x h = inr (has_left n xs x h)

pub newest_total : IsTotalOrder newest
newest_total = then_total (back_total (on_total (λ (p : Post). p.date) nat_list_cmp_total)) (back_total (on_total (λ (p : Post). p.id) nat_cmp_total))

-- a part has posts of the list alone
pub paged_from : (kind : PostKind) (from to : List ℕ) (limit offset : ℕ) (ps : List Post) (p : Post) → Has (page_of kind from to limit offset ps) p → Has ps p
paged_from kind from to limit offset ps p h =
    let listed : List Post = filter (is_listed kind from to) ps in
    let whole = has_left offset (in_order newest listed) p (has_taken limit (drop offset (in_order newest listed)) p h) in
    (has_filtered (is_listed kind from to) ps p (sorted_had newest newest_total listed p whole)).0

pub page_readable : (old new : Held MemStore) (kind : PostKind) (from to : List ℕ) (limit offset : ℕ) (r : Result (Vec Row Global) Error) → IsSite old
    → IfOk r (λ rows. Shown page_text (params kind from to limit offset) (state over_memory old) (state over_memory new) rows.items)
    → IfOk r (λ rows. All IsPostRow rows.items)
page_readable old new kind from to limit offset (Err e) is ok = tt
page_readable old new kind from to limit offset (Ok rows) is ok =
    all_shown rows.items (page_of kind from to limit offset (rows_of old).posts) (page_read old new kind from to limit offset rows.items is ok)
    (λ p h. each_readable (trees_of old 0) is.holds.sound.posts p (paged_from kind from to limit offset (rows_of old).posts p h))

pub page_rows : (old new : Held MemStore) (kind : PostKind) (from to : List ℕ) (limit offset : ℕ) (r : Result (Vec Row Global) Error) → IsSite old
    → IfOk r (λ rows. Shown page_text (params kind from to limit offset) (state over_memory old) (state over_memory new) rows.items)
    → IfOk r (λ rows. map post_from rows.items ≡ page_of kind from to limit offset (rows_of old).posts)
page_rows old new kind from to limit offset (Err e) is ok = tt
page_rows old new kind from to limit offset (Ok rows) is ok = ap (map post_from) (page_read old new kind from to limit offset rows.items is ok)
    ∙ posts_back (page_of kind from to limit offset (rows_of old).posts)
