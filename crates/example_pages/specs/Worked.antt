-- The bundle and the site of the worked pages.
use Rattle.std.specs.Prelude.{◌≡◌, ℕ, List, [], ◌∷◌, codes}
use Rattle.site_records.specs.declared.post.Post.{Post}
use Rattle.site_records.specs.declared.post.PostKind.TheVariants as kind
use Rattle.site_records.specs.declared.post.PostStatus.TheVariants as status
use Rattle.post_tables.specs.Rows.{Rows}
use Rattle.hook_meaning.specs.Meaning.{Engine}
use Rattle.bundled_plugins.specs.Replies.{says}
use Rattle.bundled_plugins.specs.Bundle.{bundle}
use Rattle.site_replies.specs.Reply.{page}
use Rattle.site_store.specs.Stored.{options_of, templates_of, active_of}
use Rattle.site_program.specs.Requests.{Opened}

-- the bundled plugins, as pages take them
abbrev pub bundled_engine : Engine
bundled_engine = record { says = says; plugins = bundle }

abbrev pub one_post : List Post
one_post = record { id = 1; kind = kind.Post; status = status.Publish; title = codes "T"; content = []; date = codes "2024-05-01 10:00:00" } ∷ []

-- one published post, number 1 with the title `T`, the plugin `marks` active, and no option and no template set
pub record IsMarked (rows : Rows) : Type 0 where
  pub posts : rows.posts ≡ one_post
  pub options : options_of rows ≡ []
  pub templates : templates_of rows ≡ []
  pub active : active_of rows ≡ codes "marks" ∷ []

-- the page of that site, open, with `left` turns to go
abbrev pub marked_turns : ℕ → Opened
marked_turns left = record { answer = page 200 (codes "<h2>TX1Y</h2>"); left = left }
