-- Small tables, for worked cases.
use Rattle.std.specs.Prelude.{ℕ, List, [], ◌∷◌, Some, None, codes}
use Rattle.std.specs.FinMap.{empty}
use Rattle.site_records.specs.declared.post.Post.{Post}
use Rattle.site_records.specs.declared.post.PostKind.TheVariants.{Post as OfPost, Page as OfPage}
use Rattle.site_records.specs.declared.post.PostStatus.TheVariants.{Publish, Draft}
use Rattle.plain_data.specs.Texts.{Text}
use Rattle.post_tables.specs.Rows.{Named, Names, Rows, PostEdit, no_rows, with_new, without_post, set_all, put_all}

abbrev pub monday : Text
monday = codes "2024-05-06 10:00:00"

abbrev pub tuesday : Text
tuesday = codes "2024-05-07 10:00:00"

abbrev pub wednesday : Text
wednesday = codes "2024-05-08 10:00:00"

-- a published post with an ID and a date
abbrev pub post : ℕ → Text → Post
post id date = record { id = id; kind = OfPost; status = Publish; title = codes "t"; content = codes "c"; date = date }

abbrev pub draft : ℕ → Text → Post
draft id date = record (post id date) { status = Draft }

abbrev pub page : ℕ → Text → Post
page id date = record (post id date) { kind = OfPage }

-- two posts were put in, and the second was deleted
abbrev pub two_posts : Rows
two_posts = with_new (post 2 monday) (with_new (post 1 monday) no_rows)

abbrev pub one_deleted : Rows
one_deleted = record two_posts { posts = without_post 2 two_posts.posts }

abbrev pub some_posts : List Post
some_posts = post 1 monday ∷ post 2 wednesday ∷ draft 3 wednesday ∷ page 4 tuesday ∷ post 5 monday ∷ post 6 tuesday ∷ []

-- an edit of the title alone
abbrev pub new_title : PostEdit
new_title = record { status = None; title = Some (codes "u"); content = None; date = None }

-- three values of two options, and three names of which two are one
abbrev pub some_options : Named
some_options = set_all ((codes "b", codes "1") ∷ (codes "a", codes "2") ∷ (codes "b", codes "3") ∷ []) empty

abbrev pub some_names : Names
some_names = put_all (codes "b" ∷ codes "a" ∷ codes "b" ∷ []) empty
