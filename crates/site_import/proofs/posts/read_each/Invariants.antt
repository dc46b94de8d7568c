use Rattle.std.proofs.Common.{◌≡◌, map, drop}
use Rattle.serde_json.specs.View.{view}
use Rattle.site_import.specs.Walks.{each_from}
use Rattle.site_import.specs.Posts.{post_at}
use Rattle.site_import.proofs.Walks.{in_front}
use Rattle.site_import.proofs.posts.read_each.Given as goal

-- the walk of all is the posts so far, and then the walk of what is left
abbrev pub invariant-loop-entry : goal.invariant-loop-entry
invariant-loop-entry l =
    each_from post_at 0 (map view l.values) ≡ in_front l.posts (each_from post_at l.entry (map view (drop l.entry l.values)))
