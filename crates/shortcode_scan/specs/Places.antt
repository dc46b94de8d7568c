-- The first place of a text that passes a test.
use Rattle.std.specs.Prelude.{ℕ, ◌-◌, Bool, find, Option}
use Rattle.std.specs.List.{range_with_len}

-- the smallest place from `low` on and below `high` at which the test passes, as a leftmost search finds it
unfoldable pub first_place : (ℕ → Bool) → ℕ → ℕ → Option ℕ
first_place test low high = find test (range_with_len low (high - low))
