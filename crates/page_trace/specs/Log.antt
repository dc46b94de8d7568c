-- What contracts see of a log.
use Rattle.std.specs.Prelude.{◌≡◌, ◌≢◌, ◌⊎◌, ℕ, Bool, Option, None, Some}
use Rattle.std.specs.Ordering.{nat_cmp}
use Rattle.std.specs.BTreeMap.{get}
use Rattle.std.specs.Io.KnownBytes.{Appends}
use Rattle.byte_io.specs.Known.{AppendsFront}
use Rattle.page_trace.specs.Line.{Text}
use Rattle.page_trace.specs.declared.told.PageName.{PageName}
use Rattle.page_trace.specs.declared.told.PageName.TheVariants as page
use Rattle.page_trace.specs.declared.paths.OpenPaths.{OpenPaths}
use Rattle.page_trace.specs.declared.log.PageTrace.{PageTrace}

-- the path of an open page, if it is known
abbrev pub path_at : OpenPaths → ℕ → Option Text
path_at known number = get nat_cmp known.paths number

-- this is known of the path of a page, and of every other page the same as before
pub record Sets (old new : OpenPaths) (number : ℕ) (path : Option Text) : Type 0 where
  pub this : path_at new number ≡ path
  pub others : (other : ℕ) → other ≢ number → path_at new other ≡ path_at old other

module _ {W : Type 0} where
  -- the sink that it writes to
  abbrev pub sink_of : PageTrace W → W
  sink_of log = log.sink

  -- whether a write has failed
  abbrev pub has_failed : PageTrace W → Bool
  has_failed log = log.has_failed

  -- the paths that it knows
  abbrev pub paths_of : PageTrace W → OpenPaths
  paths_of log = log.paths

  -- the path of a page, as its lines have it
  abbrev pub path_named : PageTrace W → PageName → Option Text
  path_named log (page.Path path) = Some path.now
  path_named log (page.Open number) = path_at log.paths number

module _ {W : Type 0} (contents : W → Option Text) where
  -- a line is appended
  abbrev pub Writes : PageTrace W → PageTrace W → Text → Type 0
  Writes old new line = Appends (contents old.sink) (contents new.sink) line

  -- a line is appended, or left out
  abbrev pub WritesOrSkips : PageTrace W → PageTrace W → Text → Type 0
  WritesOrSkips old new line = (new.sink ≡ old.sink) ⊎ Writes old new line

  -- of a line some bytes are appended, from its front: none, some, or all
  abbrev pub WritesFront : PageTrace W → PageTrace W → Text → Type 0
  WritesFront old new line = AppendsFront (contents old.sink) (contents new.sink) line

-- the number of a page, as its lines have it
abbrev pub number_named : PageName → Option ℕ
number_named (page.Path path) = None
number_named (page.Open number) = Some number
