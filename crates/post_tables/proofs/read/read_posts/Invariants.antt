use Rattle.std.proofs.Common.{◌≡◌, map, take}
use Rattle.post_tables.specs.Reading.{post_from}
use Rattle.post_tables.proofs.read.read_posts.Given as goal

abbrev pub invariant-loop-row : goal.invariant-loop-row
invariant-loop-row l = l.posts.items ≡ map post_from (take l.row-index l.rows)
