use Rattle.std.proofs.Common.{◌≡◌, ℕ, length, take}
use Rattle.site_store.specs.Kept.{IsCounted, finds_of}
use Rattle.site_store.proofs.kept_finds.RecentFinds.make_room.Given as goal

-- the most recently used are still there, and their bytes are counted
abbrev pub invariant-loop-self : goal.invariant-loop-self
invariant-loop-self l = IsCounted l.self-inside.finds l.self-inside.bytes
    × (n : ℕ) × (finds_of l.self-inside.finds.entries ≡ take n (finds_of l.initial.self-inside.finds.entries))

abbrev pub decreases-loop-self : goal.decreases-loop-self
decreases-loop-self l = length l.self-inside.finds.entries
