-- What is known of the lines of a log.
use Rattle.std.specs.Prelude.{◌≡◌, ℕ, List, ◌++◌, Option, None, Some, if◌then◌else◌}
use Rattle.sqlite.specs.Held.{Held, state}
use Rattle.sqlite.specs.State.{HasCleanDisk}
use Rattle.sqlite.specs.Store.{Ghosts}
use Rattle.command_log.specs.Lines.{IsOpen, lines_of}
use Rattle.command_log.specs.declared.fault.LogFault.{LogFault}
use Rattle.site_journal.specs.declared.journal.LogJournal.{LogJournal}

module _ {S : Type 0} (g : Ghosts S) where
  -- the log is open, unless its disk has returned something else than what was written
  abbrev pub IsOpenIfClean : Held S → Type 0
  IsOpenIfClean h = HasCleanDisk (state g h) → IsOpen g h

  -- the lines of the log and these, as long as the log is open
  abbrev pub known_lines : Held S → List (List ℕ) → Option (List (List ℕ))
  known_lines h more = if (state g h).is_open then Some (lines_of g h ++ more) else None

-- why the journal has failed, unless only its sink has
abbrev pub fault_in : {S W : Type 0} → LogJournal S W → Option LogFault
fault_in j = j.fault
