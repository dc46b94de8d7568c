-- The IDs of posts.
use Rattle.std.specs.Prelude.{ℕ}

-- the largest ID that a post can have
abbrev pub max_id : ℕ
max_id = 2147483647
