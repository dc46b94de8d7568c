use Rattle.std.proofs.Common.{◌≤◌, ◌-◌, length, map, take}
use Rattle.std.specs.String.{string_bytes}
use Rattle.site_export.specs.Lines.{AppendsPosts}
use Rattle.site_export.proofs.posts.push_posts.Given as goal

abbrev pub invariant-loop-done : goal.invariant-loop-done
invariant-loop-done l = record {
  within : l.done ≤ length l.posts;
  lines : AppendsPosts (take l.done l.posts) (map string_bytes l.fn.lines.items) (map string_bytes l.lines.items);
}

abbrev pub decreases-loop-done : goal.decreases-loop-done
decreases-loop-done l = length l.posts - l.done
