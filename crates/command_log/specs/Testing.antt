-- Testing the digests of the rows of a log.
use Rattle.std.specs.Prelude.{◌≡◌, ◌≢◌, ⊤, ℕ, ◌+◌, ◌<◌, List, ◌++◌, length, map, take, get_or}
use Rattle.sha2.specs.Sha256.{sha256}
use Rattle.command_log.specs.Digests.{digest_after, digest_of, digests_after}
use Rattle.sqlite.specs.Order.{Row}
use Rattle.command_log.specs.declared.fault.LogFault.{LogFault}
use Rattle.command_log.specs.declared.fault.LogFault.TheVariants as fault
use Rattle.command_log.specs.declared.testing.Tested.{Tested}
use Rattle.command_log.specs.Lines.{AreSealed, line_in, place_after, rows_after, sum_in, text_in}

-- the rows up to a place were tested, and all have the digests of the lines up to them
pub record IsTested (rows : List Row) (t : Tested) : Type 0 where
  pub front : List Row
  pub are : rows ≡ front ++ rows_after t.place rows
  pub sealed : AreSealed front
  pub digest : t.digest ≡ digest_of (map line_in front)
  pub count : t.lines ≡ length front

-- these rows of a query have the digests that follow
pub record Tests (old : Tested) (shown : List Row) (new : Tested) : Type 0 where
  pub fit : map sum_in shown ≡ digests_after old.digest (map text_in shown)
  pub digest : new.digest ≡ digest_after old.digest (map text_in shown)
  pub place : new.place ≡ place_after old.place shown
  pub count : new.lines ≡ old.lines + length shown

-- one of them doesn't, the row of this number counted from 1, and those before it do
pub record Misses (old : Tested) (shown : List Row) (n : ℕ) : Type 0 where
  pub at : ℕ
  pub row : Row
  pub within : at < length shown
  pub is : row ≡ get_or shown at row
  pub number : n ≡ old.lines + at + 1
  pub before : map sum_in (take at shown) ≡ digests_after old.digest (map text_in (take at shown))
  pub differs : sum_in row ≢ sha256 (digest_after old.digest (map text_in (take at shown)) ++ text_in row)

-- why the test of these rows ends: memory, or a row that misses its digest
abbrev pub EndsTest : Tested → List Row → LogFault → Type 0
EndsTest old shown fault.OutOfMemory = ⊤
EndsTest old shown (fault.Altered n) = Misses old shown n
EndsTest old shown _ = ⊥
