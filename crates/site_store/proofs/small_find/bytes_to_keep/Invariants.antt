use Rattle.std.proofs.Common.{◌≡◌, ◌≤◌, take}
use Rattle.std.specs.List.{sum_by}
use Rattle.site_store.specs.Kept.{size_of}
use Rattle.site_store.proofs.small_find.bytes_to_keep.Given as goal

-- the bytes are those of the posts so far
abbrev pub invariant-loop-post : goal.invariant-loop-post
invariant-loop-post l = (l.bytes ≡ sum_by size_of (take l.post-index l.posts)) × (l.bytes ≤ 1048576)
