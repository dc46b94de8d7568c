-- What can be told of an open page between its turns.
use Rattle.std.specs.Prelude.{◌≡◌, ℕ, List, length, map, Option, option_map}
use Rattle.site_records.specs.declared.post.Post.{Post}
use Rattle.hook_machine.specs.Invocations.{Made, last_made}
use Rattle.hook_machine.specs.Runs.{paused_world}
use Rattle.template_parts.specs.declared.open_page.OpenPage.{OpenPage}
use Rattle.template_parts.specs.declared.steps.Step.{Step}
use Rattle.template_parts.specs.Pages.{page_items}
use Rattle.template_parts.specs.Places.{post_at, items_left}

-- the invocation that its last turn made
abbrev pub made_of : OpenPage → Option Made
made_of page = last_made page.run

-- how many invocations it may still make
abbrev pub calls_of : OpenPage → ℕ
calls_of page = (paused_world page.run).calls

-- how many steps it has still to begin, once its first turn has begun
abbrev pub steps_left : OpenPage → Option ℕ
steps_left page = option_map (λ ahead. length ahead.steps) page.ahead

-- the ID of the post that a step is about, if it is about one
abbrev pub post_id : List Post → Step → Option ℕ
post_id posts step = option_map (λ (p : Post). p.id) (post_at posts step.post)

-- these are the posts of some steps, in order, whose items are those of the page
pub record ArePostsOfSteps (page : OpenPage) (ids : List (Option ℕ)) : Type 0 where
  pub steps : List Step
  pub items : items_left page.settings page.found.posts steps ≡ page_items page.settings page.found.posts
  pub posts : ids ≡ map (post_id page.found.posts) steps
