use Rattle.template_parts.specs.Places.{items_left}
use Rattle.template_parts.proofs.Building.{post_more}
use Rattle.template_parts.proofs.steps.push_over_each.Goals as goal

-- one post more
pub loop-post-preserved : goal.loop-post-preserved
loop-post-preserved c =
    let settings = c.args.settings.now in
    let posts = c.args.posts.now in
    post_more settings posts c.loop-post.steps.items c.push_over.new.steps.items (items_left settings posts c.args.steps.now.items) c.args.places.now
    c.loop-post.post c.loop-post-test.true c.in_ok-push_over.ensures c.loop-post.invariant
