-- The names that a text opens, as one walk over its `[` collects them.
-- Bytes: `[` is 91.
use Rattle.std.specs.Prelude.{◌≡◌, ℕ, ◌+◌, ◌<◌, Bool, true, ◌&&◌, nat_lt, List, length, take, drop, slice_index, bytes_eq, Option, Some}
use Rattle.std.specs.List.{list_any, prefix_len}
use Rattle.std.specs.Borrow.{Bor}
use Rattle.plain_data.specs.Steps.{only_if}
use Rattle.plain_data.specs.NameByte.{is_name_byte}
use Rattle.shortcode_scan.specs.Live.{is_name_end}

-- what a `[` at place k opens: the bytes of names after it, if there are some and a name may end after them
unfoldable pub name_opened : List ℕ → ℕ → Option (List ℕ)
name_opened text k =
    let rest = drop (k + 1) text in
    let n = prefix_len is_name_byte rest in
    only_if (nat_lt 0 n && is_name_end text (k + 1 + n)) (take n rest)

-- whether the name is one of these
abbrev pub is_among : List ℕ → List (Bor (List ℕ)) → Bool
is_among name names = list_any (λ n. bytes_eq name n.now) names

-- the names are those that are opened before a place
pub record AreOpenedBefore (text : List ℕ) (at : ℕ) (names : List (Bor (List ℕ))) : Type 0 where
  pub every : (name : List ℕ) (k : ℕ) → k < at → slice_index text k ≡ 91 → name_opened text k ≡ Some name → is_among name names ≡ true
  pub only : (name : List ℕ) → is_among name names ≡ true → (k : ℕ) × (k < length text) × (slice_index text k ≡ 91) × (name_opened text k ≡ Some name)

abbrev pub AreOpened : List ℕ → List (Bor (List ℕ)) → Type 0
AreOpened text names = AreOpenedBefore text (length text) names
