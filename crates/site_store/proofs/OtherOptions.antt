-- What a path finds depends on three options alone.
use Rattle.std.proofs.Common.{◌≡◌, ◌∙◌, List, [], ◌∷◌, Bool, true, false, cond, Less, Equal, Greater, None, Some, refl, ap, subst, codes}
use Rattle.std.specs.declared.cmp.Ordering.{Ordering}
use Rattle.std.proofs.lemmas.Bool.{true≢false}
use Rattle.std.specs.Prelude.{bytes_eq, ◌||◌, find, option_map, option_and_then, unwrap_or, if◌then◌else◌}
use Rattle.std.specs.Option.{option_map_or}
use Rattle.std.specs.Cmp.Lexicographic.{nat_list_cmp_total}
use Rattle.std.specs.FinMap.{entries, insert, entries-insert, slice_cmp-IsAntisymmetric, nat_cmp-IsAntisymmetric}
use Rattle.std.specs.FinMap.Entries.{put, by_order}
use Rattle.plain_data.specs.Texts.{Text}
use Rattle.site_records.specs.Texts.{text_named}
use Rattle.site_records.specs.declared.post.Post.{Post}
use Rattle.site_records.specs.declared.post.PostKind.TheVariants.{Page as OfPage}
use Rattle.site_records.specs.declared.found.FoundKind.TheVariants.{Front, FrontPage, Home, Month}
use Rattle.post_tables.specs.Rows.{Rows, by_bytes}
use Rattle.permalink_query.specs.Months.{is_month}
use Rattle.permalink_query.specs.Found.{query_result, nothing, unless_empty, front_of, part_of_posts, published_posts, published_with, posts_of_month}
use Rattle.permalink_query.specs.Found.{part_size}
use Rattle.permalink_query.specs.Found.{posts_per_page, fronts_a_page, page_on_front, page_number}
use Rattle.permalink_query.specs.Paths.{query_of}
use Rattle.permalink_query.specs.declared.query.Query.{Query}
use Rattle.permalink_query.specs.declared.query.Query.TheVariants as query
use Rattle.site_store.specs.Stored.{Texts, found_by}
use Rattle.site_store.specs.Kept.{decides_what_is_found}

-- ---- what is set under one name leaves the texts of the others

other_stays : (name other value : Text) → bytes_eq other name ≡ false → (texts : Texts)
    → text_named name (put by_bytes other value texts) ≡ text_named name texts
other_stays name other value apart [] = rw apart refl
other_stays name other value apart (t ∷ texts) = by_place (other_stays name other value apart texts) (by_bytes other t.0) refl
  where
    same : text_named name (put by_bytes other value texts) ≡ text_named name texts → (b : Bool)
        → option_map (λ p. p.1) (cond b (Some t) (find (λ p. bytes_eq p.0 name) (put by_bytes other value texts)))
        ≡ option_map (λ p. p.1) (cond b (Some t) (find (λ p. bytes_eq p.0 name) texts))
    same more true = refl
    same more false = more

    by_place : text_named name (put by_bytes other value texts) ≡ text_named name texts → (r : Ordering) → by_bytes other t.0 ≡ r
        → text_named name (by_order r ((other, value) ∷ t ∷ texts) ((t.0, value) ∷ texts) (t ∷ put by_bytes other value texts)) ≡ text_named name (t ∷ texts)
    by_place more Less e = rw apart refl
    by_place more Equal e =
        let far = subst (λ k. bytes_eq k name ≡ false) (slice_cmp-IsAntisymmetric nat_cmp-IsAntisymmetric other t.0 e) apart in rw far refl
    by_place more Greater e = same more (bytes_eq t.0 name)

-- ---- what is found, by the texts of three names

module _ (a b : Texts) (size : text_named (codes "posts_per_page") a ≡ text_named (codes "posts_per_page") b)
    (shown : text_named (codes "show_on_front") a ≡ text_named (codes "show_on_front") b)
    (page : text_named (codes "page_on_front") a ≡ text_named (codes "page_on_front") b) where
  same_size : posts_per_page a ≡ posts_per_page b
  same_size = ap (λ text. unwrap_or (option_and_then part_size text) 10) size

  same_fronts : fronts_a_page a ≡ fronts_a_page b
  same_fronts = ap (λ text. option_map_or (λ value. bytes_eq value (codes "page")) text false) shown

  same_front : page_on_front a ≡ page_on_front b
  same_front = λ i. if same_fronts i then option_and_then page_number (page i) else None

  same_found : (posts : List Post) (asked : Query) → query_result posts a asked ≡ query_result posts b asked
  same_found posts (query.Front part) =
      λ i. option_map_or (λ id. unless_empty FrontPage (published_with OfPage id posts)) (same_front i)
      (option_map_or (λ n. front_of (if same_fronts i then Home else Front) n (part_of_posts (same_size i) n (published_posts posts))) part nothing)
  same_found posts (query.Single id) = refl
  same_found posts (query.Page id) = refl
  same_found posts (query.Month year month part) =
      λ i. if is_month year month
      then unless_empty Month (part_of_posts (same_size i) part (posts_of_month year month (published_posts posts)))
      else nothing
  same_found posts query.Nothing = refl

none_is : (x y z : Bool) → (x || y || z) ≡ false → (x ≡ false) × (y ≡ false) × (z ≡ false)
none_is true y z e = absurd (true≢false e)
none_is false true z e = absurd (true≢false e)
none_is false false true e = absurd (true≢false e)
none_is false false false e = (refl, refl, refl)

-- what a path finds stays if another option is set
pub finds_the_same : (rows : Rows) (other value : Text) → decides_what_is_found other ≡ false → (path : Text)
    → found_by (record rows { options = insert rows.options other value }) path ≡ found_by rows path
finds_the_same rows other value unread path =
    let apart = none_is _ _ _ unread in
    let stays : (name : Text) → bytes_eq other name ≡ false
    → text_named name (entries (insert rows.options other value)) ≡ text_named name (entries rows.options) =
    λ name far. ap (text_named name) (entries-insert nat_list_cmp_total rows.options other value) ∙ other_stays name other value far (entries rows.options) in
    same_found (entries (insert rows.options other value)) (entries rows.options) (stays (codes "posts_per_page") apart.0)
    (stays (codes "show_on_front") apart.1) (stays (codes "page_on_front") apart.2) rows.posts (query_of path)
