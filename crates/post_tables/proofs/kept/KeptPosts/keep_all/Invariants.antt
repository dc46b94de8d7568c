use Rattle.std.proofs.Common.{◌≡◌, List, Some}
use Rattle.std.specs.Prelude.{All}
use Rattle.site_records.specs.declared.post.Post.{Post}
use Rattle.post_tables.specs.Kept.{AreStored}
use Rattle.post_tables.specs.Rows.{post_with}
use Rattle.post_tables.proofs.kept.KeptPosts.keep_all.Given as goal

abbrev pub invariant-loop-post : goal.invariant-loop-post
invariant-loop-post l = (stored : List Post) → All (λ p. post_with p.id stored ≡ Some p) l.fn.posts → AreStored l.initial.self stored → AreStored l.self stored
