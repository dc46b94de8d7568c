use Rattle.std.proofs.Common.{◌≡◌, List, ◌++◌, map, length}
use Rattle.template_parts.specs.declared.steps.Step.{Step}
use Rattle.template_parts.specs.Pages.{page_items}
use Rattle.template_parts.specs.Places.{items_left}
use Rattle.template_parts.specs.Told.{post_id}
use Rattle.template_parts.proofs.open_page.OpenPage.posts_of_steps.Given as goal

-- the posts so far, and those of the steps that are left, are those of all steps
abbrev pub invariant-steps : goal.invariant-steps
invariant-steps l =
    let posts = l.fn.self.found.posts in
    record {
      all : List Step;
      items : items_left l.fn.self.settings posts all ≡ page_items l.fn.self.settings posts;
      whole : l.ids.items ++ map (post_id posts) l.steps ≡ map (post_id posts) all;
    }

abbrev pub decreases-steps : goal.decreases-steps
decreases-steps l = length l.steps
