use Rattle.std.proofs.Common.{◌≡◌, length, filter, map}
use Rattle.std.specs.String.{string_bytes}
use Rattle.site_export.proofs.Steps.{HasRead, after}
use Rattle.site_export.proofs.history.push_all_posts.Given as goal

abbrev pub invariant-loop-posts : goal.invariant-loop-posts
invariant-loop-posts l = record {
  same : l.tables ≡ l.fn.tables;
  read : HasRead l.fn.tables.posts l.last (map string_bytes l.fn.lines.items) (map string_bytes l.lines.items);
}

abbrev pub decreases-loop-posts : goal.decreases-loop-posts
decreases-loop-posts l = length (filter (after l.last) l.tables.posts)
