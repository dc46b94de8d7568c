-- Texts in the order of their names.
use Rattle.std.specs.Prelude.{ℕ, List, T}
use Rattle.std.specs.Ordering.{nat_cmp}
use Rattle.std.specs.Cmp.Lexicographic.{slice_cmp}
use Rattle.std.specs.FinMap.Entries.{is_sorted}

-- each name comes before the next one, by their bytes
abbrev pub AreSorted : List (List ℕ × List ℕ) → Type 0
AreSorted texts = T (is_sorted (slice_cmp nat_cmp) texts)
