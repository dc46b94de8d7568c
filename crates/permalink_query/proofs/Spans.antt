-- The posts of a span of dates are the posts of the front, or of a month.
use Rattle.std.proofs.Common.{◌≡◌, ℕ, List, [], ◌∷◌, filter, take, drop, Bool, true, false, ◌&&◌, cond, refl, ap}
use Rattle.std.specs.Prelude.{◌-◌, ◌*◌}
use Rattle.std.specs.List.{list_all}
use Rattle.std.proofs.lemmas.Bool.{and_parts}
use Rattle.site_records.specs.Dates.{is_post_date}
use Rattle.site_records.specs.declared.post.Post.{Post}
use Rattle.site_records.specs.declared.post.PostKind.TheVariants.{Post as OfPost}
use Rattle.table_rows.specs.Sorting.{in_order}
use Rattle.post_tables.specs.Page.{newest, is_kind, is_published, is_listed, page_of}
use Rattle.permalink_query.specs.Months.{is_month, is_in_month, month_start, month_end}
use Rattle.permalink_query.specs.Found.{published_posts, posts_of_month, part_of_posts}
use Rattle.permalink_query.proofs.DateOrder.{first, last, any_date}
use Rattle.permalink_query.proofs.MonthDates.{month_dates}

abbrev AreDated : List Post → Type 0
AreDated posts = list_all (λ p. is_post_date p.date) posts ≡ true

with_true : (a b c : Bool) → c ≡ true → (a && (b && c)) ≡ (a && b)
with_true a true c h = ap (λ x. a && x) h
with_true a false c h = refl

all_listed : (posts : List Post) → AreDated posts → filter (is_listed OfPost first last) posts ≡ published_posts posts
all_listed [] dated = refl
all_listed (p ∷ posts) dated =
    let (here, later) = and_parts (is_post_date p.date) (list_all (λ q. is_post_date q.date) posts) dated in
    let same : is_listed OfPost first last p ≡ (is_kind p.kind OfPost && is_published p.status) = with_true (is_kind p.kind OfPost) (is_published p.status) _
    (any_date p.date here) in
    rw same (elim (is_kind p.kind OfPost && is_published p.status) as
    (λ b. cond b (p ∷ filter (is_listed OfPost first last) posts) (filter (is_listed OfPost first last) posts)
    ≡ cond b (p ∷ published_posts posts) (published_posts posts))
    [ true ↦ ap (λ l. p ∷ l) (all_listed posts later) | false ↦ all_listed posts later ])

-- a part of the front
pub front_span : (size part : ℕ) (posts : List Post) → AreDated posts
    → page_of OfPost first last size ((part - 1) * size) posts ≡ part_of_posts size part (published_posts posts)
front_span size part posts dated = ap (λ l. take size (drop ((part - 1) * size) (in_order newest l))) (all_listed posts dated)

module _ (year month : ℕ) (is : is_month year month ≡ true) where
  abbrev in_span : Post → Bool
  in_span = is_listed OfPost (month_start year month) (month_end year month)

  of_month : (posts : List Post) → AreDated posts → filter in_span posts ≡ posts_of_month year month (published_posts posts)
  of_month [] dated = refl
  of_month (p ∷ posts) dated =
      let (here, later) = and_parts (is_post_date p.date) (list_all (λ q. is_post_date q.date) posts) dated in
      rw (month_dates year month is p.date here) (by (is_kind p.kind OfPost) (is_published p.status) (of_month posts later))
    where
      by : (a b : Bool) → filter in_span posts ≡ posts_of_month year month (published_posts posts)
          → cond (a && (b && is_in_month year month p.date)) (p ∷ filter in_span posts) (filter in_span posts)
          ≡ posts_of_month year month (cond (a && b) (p ∷ published_posts posts) (published_posts posts))
      by true true rest = elim (is_in_month year month p.date) as (λ c. cond c (p ∷ filter in_span posts) (filter in_span posts)
          ≡ cond c (p ∷ posts_of_month year month (published_posts posts)) (posts_of_month year month (published_posts posts)))
          [ true ↦ ap (λ l. p ∷ l) rest | false ↦ rest ]
      by true false rest = rest
      by false b rest = rest

-- a part of a month
pub month_span : (year month size part : ℕ) (posts : List Post) → is_month year month ≡ true → AreDated posts
    → page_of OfPost (month_start year month) (month_end year month) size ((part - 1) * size) posts
    ≡ part_of_posts size part (posts_of_month year month (published_posts posts))
month_span year month size part posts is dated = ap (λ l. take size (drop ((part - 1) * size) (in_order newest l))) (of_month year month is posts dated)
