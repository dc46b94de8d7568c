-- A part of the published posts, newest first.
use Rattle.std.specs.Prelude.{ℕ, Bool, true, false, ◌&&◌, List, filter, take, drop}
use Rattle.std.specs.declared.cmp.Ordering.{Ordering}
use Rattle.std.specs.Ordering.{nat_cmp, ordering_then, is_ge, is_le}
use Rattle.site_records.specs.declared.post.Post.{Post}
use Rattle.site_records.specs.declared.post.PostKind.{PostKind}
use Rattle.site_records.specs.declared.post.PostKind.TheVariants.{Post as OfPost, Page as OfPage}
use Rattle.site_records.specs.declared.post.PostStatus.{PostStatus}
use Rattle.site_records.specs.declared.post.PostStatus.TheVariants.{Publish, Draft}
use Rattle.table_rows.specs.Sorting.{in_order}
use Rattle.plain_data.specs.Texts.{Text}
use Rattle.post_tables.specs.Rows.{by_bytes}

-- by date, newest first, and then by ID, largest first (WordPress, WP_Query, orderby)
abbrev pub newest : Post → Post → Ordering
newest a b = ordering_then (by_bytes b.date a.date) (nat_cmp b.id a.id)

-- whether two kinds are the same
abbrev pub is_kind : PostKind → PostKind → Bool
is_kind OfPost OfPost = true
is_kind OfPost OfPage = false
is_kind OfPage OfPost = false
is_kind OfPage OfPage = true

-- whether a status is `publish`
abbrev pub is_published : PostStatus → Bool
is_published Publish = true
is_published Draft = false

-- published, of this kind, and dated from one moment to another, both included
abbrev pub is_listed : PostKind → Text → Text → Post → Bool
is_listed kind from to p = is_kind p.kind kind && (is_published p.status && (is_ge (by_bytes p.date from) && is_le (by_bytes p.date to)))

-- those of them after the first `offset`, and `limit` at most
abbrev pub page_of : PostKind → Text → Text → ℕ → ℕ → List Post → List Post
page_of kind from to limit offset posts = take limit (drop offset (in_order newest (filter (is_listed kind from to) posts)))
