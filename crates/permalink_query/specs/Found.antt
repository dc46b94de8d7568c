-- Which posts a query finds.
use Rattle.std.specs.Prelude.{Bool, true, false, not, ℕ, ◌-◌, ◌*◌, ◌&&◌, ◌||◌, nat_le, take, drop, if◌then◌else◌, List, [], ◌∷◌, filter, codes, Option}
use Rattle.std.specs.Prelude.{Some, None, is_some, option_and_then, unwrap_or}
use Rattle.std.specs.Option.{option_to_list, option_map_or}
use Rattle.std.specs.Str.{bytes_eq}
use Rattle.site_records.specs.Texts.{text_named}
use Rattle.site_records.specs.declared.post.Post.{Post}
use Rattle.site_records.specs.declared.post.PostKind.{PostKind}
use Rattle.site_records.specs.declared.post.PostKind.TheVariants.{Post as OfPost, Page as OfPage}
use Rattle.plain_data.specs.Texts.{Text}
use Rattle.post_tables.specs.Rows.{post_with}
use Rattle.table_rows.specs.Sorting.{in_order}
use Rattle.post_tables.specs.Page.{newest, is_kind, is_published}
use Rattle.permalink_query.specs.Numbers.{is_within, whole_number}
use Rattle.permalink_query.specs.Months.{is_month, is_in_month}
use Rattle.permalink_query.specs.declared.query.Query.{Query}
use Rattle.permalink_query.specs.declared.query.Query.TheVariants as query
use Rattle.site_records.specs.declared.found.Found.{Found}
use Rattle.site_records.specs.declared.found.FoundKind.{FoundKind}
use Rattle.site_records.specs.declared.found.FoundKind.TheVariants.{Front, FrontPage, Home, Single, Page, Month, NotFound}

-- a number from 1 to 100
abbrev pub part_size : Text → Option ℕ
part_size value = option_and_then (λ n. if is_within 1 100 n then Some n else None) (whole_number value)

-- how many posts make a part: 10 if the option doesn't say (option posts_per_page)
abbrev pub posts_per_page : List (Text × Text) → ℕ
posts_per_page options = unwrap_or (option_and_then part_size (text_named (codes "posts_per_page") options)) 10

-- the published ones of a kind (class WP_Query, post_type and post_status)
abbrev pub published_of_kind : PostKind → List Post → List Post
published_of_kind kind = filter (λ p. is_kind p.kind kind && is_published p.status)

-- the published posts
abbrev pub published_posts : List Post → List Post
published_posts = published_of_kind OfPost

-- the posts of a month (class WP_Query, m)
abbrev pub posts_of_month : (year month : ℕ) → List Post → List Post
posts_of_month year month = filter (λ p. is_in_month year month p.date)

-- a part of some posts, newest first, `size` at a time; part 0 is the first too (class WP_Query, paged)
abbrev pub part_of_posts : (size part : ℕ) → List Post → List Post
part_of_posts size part posts = take size (drop ((part - 1) * size) (in_order newest posts))

-- the published post or page with the ID (class WP_Query, p and page_id)
abbrev pub published_with : PostKind → ℕ → List Post → List Post
published_with kind id posts = published_of_kind kind (option_to_list (post_with id posts))

-- posts are shown with status 200, and if nothing is found it is 404 (class WP, handle_404)
abbrev pub showing : FoundKind → List Post → Found
showing kind posts = record { kind = kind; posts = posts; status = 200 }

-- the result if nothing is found: no posts, and status 404
abbrev pub nothing : Found
nothing = record { kind = NotFound; posts = []; status = 404 }

-- these posts, or the result for nothing if there are none
abbrev pub unless_empty : FoundKind → List Post → Found
unless_empty kind [] = nothing
unless_empty kind (p ∷ ps) = showing kind (p ∷ ps)

-- whether the front is to show a page (option show_on_front)
abbrev pub fronts_a_page : List (Text × Text) → Bool
fronts_a_page options = option_map_or (λ value. bytes_eq value (codes "page")) (text_named (codes "show_on_front") options) false

-- a number other than 0
abbrev pub page_number : Text → Option ℕ
page_number value = option_and_then (λ n. if nat_le 1 n then Some n else None) (whole_number value)

-- the ID of the page that the front shows, unless it lists posts (option page_on_front)
abbrev pub page_on_front : List (Text × Text) → Option ℕ
page_on_front options =
    if fronts_a_page options then option_and_then page_number (text_named (codes "page_on_front") options) else None

-- the kind of a front that lists posts (is_home, is_front_page)
abbrev pub list_kind : List (Text × Text) → FoundKind
list_kind options = if fronts_a_page options then Home else Front

-- a front that lists posts is found also without any, at its first part alone (class WP, handle_404)
abbrev pub front_of : FoundKind → ℕ → List Post → Found
front_of kind part posts = if nat_le part 1 then showing kind posts else unless_empty kind posts

-- a front that lists posts: a part that isn't a number is empty
abbrev pub listed_front : List Post → List (Text × Text) → Option ℕ → Found
listed_front posts options part =
    option_map_or (λ n. front_of (list_kind options) n (part_of_posts (posts_per_page options) n (published_posts posts)))
    part nothing

-- a query that finds nothing whatever posts a site has: for nothing, for a month that the calendar doesn't have, or, if
-- the front lists posts, for a part of it that isn't a number
abbrev pub is_void : List (Text × Text) → Query → Bool
is_void options query.Nothing = true
is_void options (query.Front part) = not (is_some (page_on_front options) || is_some part)
is_void options (query.Month year month part) = not (is_month year month)
is_void options _ = false

-- what a site's posts and options have for a query (class WP_Query)
abbrev pub query_result : List Post → List (Text × Text) → Query → Found
query_result posts options (query.Front part) =
    option_map_or (λ id. unless_empty FrontPage (published_with OfPage id posts)) (page_on_front options) (listed_front posts options part)
query_result posts options (query.Single id) = unless_empty Single (published_with OfPost id posts)
query_result posts options (query.Page id) = unless_empty Page (published_with OfPage id posts)
query_result posts options (query.Month year month part) =
    if is_month year month
    then unless_empty Month (part_of_posts (posts_per_page options) part (posts_of_month year month (published_posts posts)))
    else nothing
query_result posts options query.Nothing = nothing
