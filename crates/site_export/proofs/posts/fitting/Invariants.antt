use Rattle.std.proofs.Common.{◌≡◌, ◌+◌, take}
use Rattle.std.specs.Prelude.{sum_by}
use Rattle.site_export.specs.Lines.{room_of}
use Rattle.site_export.proofs.posts.fitting.Given as goal

abbrev pub invariant-loop-post : goal.invariant-loop-post
invariant-loop-post l = record {
  count : l.count ≡ l.post-index;
  left : l.left + sum_by room_of (take l.post-index l.posts) ≡ 170000;
}
