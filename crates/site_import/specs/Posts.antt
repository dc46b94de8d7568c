-- The posts of a site file.
use Rattle.std.specs.Prelude.{ℕ, List, length, nat_le, ◌&&◌, codes, Option, Some, option_and_then, Ok, Err, if◌then◌else◌}
use Rattle.serde_json.specs.Data.{Data}
use Rattle.serde_json.specs.Find.{as_array}
use Rattle.site_records.specs.Dates.{is_post_date}
use Rattle.site_records.specs.declared.post.Post.{Post}
use Rattle.site_values.specs.Limits.{max_title, max_content, fits}
use Rattle.site_values.specs.Tree.{with_found, text_at}
use Rattle.site_values.specs.Named.{id_at, kind_named, status_named}
use Rattle.site_import.specs.Walks.{Read, whole, entry_of, and_read, of_form, each_from, list_of}
use Rattle.site_import.specs.declared.fault.Place.{Place}
use Rattle.site_import.specs.declared.fault.Section.TheVariants.{Posts}
use Rattle.site_import.specs.declared.fault.ImportFault.TheVariants.{TooLarge, BadDate}
use Rattle.site_import.specs.declared.posts.PostRow.{PostRow}

-- what a row says, wherever its texts lie
abbrev pub post_by : PostRow → Post
post_by row = record { id = row.id; kind = row.kind; status = row.status; title = row.title.now; content = row.content.now; date = row.date.now }

-- an object that has each key, of its form
unfoldable pub shape_of : Data → Option Post
shape_of tree =
    with_found (id_at (codes "id") tree) (λ id.
    with_found (option_and_then kind_named (text_at (codes "kind") tree)) (λ kind.
    with_found (option_and_then status_named (text_at (codes "status") tree)) (λ status.
    with_found (text_at (codes "title") tree) (λ title.
    with_found (text_at (codes "content") tree) (λ content.
    with_found (text_at (codes "date") tree) (λ date.
    Some (record { id = id; kind = kind; status = status; title = title; content = content; date = date })))))))

-- first the sizes, and then the date
abbrev pub checked_post : Place → Post → Read Post
checked_post place post =
    if fits max_title post.title && fits max_content post.content
    then (if is_post_date post.date then Ok post else Err (BadDate place))
    else Err (TooLarge place)

-- the nth post
abbrev pub post_at : ℕ → Data → Read Post
post_at n tree = and_read (of_form (entry_of Posts n) (shape_of tree)) (λ post. checked_post (entry_of Posts n) post)

-- at most 10,000 posts
abbrev pub posts_in : List Data → Read (List Post)
posts_in trees = if nat_le (length trees) 10000 then each_from post_at 0 trees else Err (TooLarge (whole Posts))

-- a list of posts
unfoldable pub posts_of : Data → Read (List Post)
posts_of tree = and_read (of_form (whole Posts) (as_array tree)) (λ items. posts_in (list_of items))
