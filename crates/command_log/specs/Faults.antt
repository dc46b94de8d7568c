-- What a call of the log returns for each error of the database.
use Rattle.std.specs.Prelude.{◌≡◌, ◌≢◌, ◌⊎◌, ⊤, ℕ, ◌+◌, ◌^◌, ◌<◌, ◌+ℤ◌, pos, false, List, ◌++◌, length, map, take, get_or, All, Contains, IsSome, IsUtf8}
use Rattle.sqlite.specs.Order.{Row}
use Rattle.sha2.specs.Sha256.{sha256}
use Rattle.command_log.specs.Digests.{digest_of}
use Rattle.sqlite_rules.specs.Edit.{next_rowid}
use Rattle.sqlite_sql.specs.Ops.{fits_i64}
use Rattle.sqlite.specs.State.{State}
use Rattle.sqlite_disk.specs.declared.Disk.{Ghosts}
use Rattle.sqlite.specs.Disk.{MoreFaults}
use Rattle.sqlite_store.specs.declared.store.FileStore.{FileStore}
use Rattle.sqlite.specs.FileStore.{view, faults}
use Rattle.sqlite_store.specs.FileStore.{NamesFault}
use Rattle.sqlite_trees.specs.declared.error.StoreError.{StoreError}
use Rattle.sqlite_trees.specs.declared.error.StoreError.TheVariants as store
use Rattle.sqlite.specs.Held.{Held}
use Rattle.sqlite.specs.declared.error.Error.{Error}
use Rattle.sqlite.specs.declared.error.Error.TheVariants.{SqliteFailure, Utf8Error}
use Rattle.sqlite.specs.declared.error.ErrorCode.TheVariants as code
use Rattle.command_log.specs.Lines.{AreSealed, digest_in, line_in}
use Rattle.command_log.specs.declared.fault.LogFault.{LogFault}
use Rattle.command_log.specs.declared.fault.LogFault.TheVariants as fault

abbrev pub fault_of : Error → LogFault
fault_of (SqliteFailure code.OutOfMemory) = fault.OutOfMemory
fault_of (SqliteFailure code.DatabaseBusy) = fault.Busy
fault_of (SqliteFailure code.CannotOpen) = fault.CannotOpen
fault_of (SqliteFailure code.NotADatabase) = fault.Damaged
fault_of (SqliteFailure code.DatabaseCorrupt) = fault.Damaged
fault_of (SqliteFailure code.DiskFull) = fault.DiskFull
fault_of (SqliteFailure code.SystemIoFailure) = fault.Disk
fault_of (SqliteFailure code.TooBig) = fault.TooBig
fault_of (SqliteFailure code.NoRowid) = fault.NumbersUsedUp
fault_of (SqliteFailure code.Closed) = fault.Shut
fault_of (SqliteFailure code.OperationInterrupted) = fault.Interrupted
fault_of (Utf8Error at) = fault.NotText
fault_of _ = fault.Store

-- and for one of the store
abbrev pub fault_of_store : StoreError → LogFault
fault_of_store store.OutOfMemory = fault.OutOfMemory
fault_of_store store.Io = fault.Disk
fault_of_store store.Corrupt = fault.Damaged
fault_of_store store.Full = fault.DiskFull
fault_of_store store.Broken = fault.Shut
fault_of_store store.Unstorable = fault.TooBig

-- a fault that is not of what the files hold as they are opened
abbrev pub IsPlain : LogFault → Type 0
IsPlain fault.NotALog = ⊥
IsPlain (fault.DamagedTail commits following) = ⊥
IsPlain fault.OlderLog = ⊥
IsPlain _ = ⊤

-- Why a call failed on a log that was open, by what it met between two states. `Own` says when the faults of the call
-- itself come. It never fails as shut.
abbrev pub IsCaused : State → State → (LogFault → Type 0) → LogFault → Type 0
IsCaused old new Own fault.OutOfMemory = ⊤
IsCaused old new Own fault.Damaged = MoreFaults old.faults new.faults
IsCaused old new Own fault.DiskFull = MoreFaults old.faults new.faults
IsCaused old new Own fault.Disk = MoreFaults old.faults new.faults
IsCaused old new Own fault.Interrupted = IsSome old.step_limit
IsCaused old new Own f = Own f

-- the call has no fault of its own
abbrev pub Nothing : LogFault → Type 0
Nothing f = ⊥

-- lines that another program has written, since a `String` is UTF-8
abbrev pub AreText : List (List ℕ) → Type 0
AreText = All IsUtf8

-- what a call that reads these lines may meet
abbrev pub Unreadable : List (List ℕ) → LogFault → Type 0
Unreadable lines fault.NotText = ¬ AreText lines
Unreadable lines _ = ⊥

-- a line and what is stored beside it have more than a billion bytes
abbrev pub IsTooLong : List ℕ → Type 0
IsTooLong line = 10 ^ 9 < 104 + length line

-- the number of the line after this many others is past the largest
abbrev pub IsUsedUp : List Row → ℕ → Type 0
IsUsedUp rows more = fits_i64 (next_rowid rows +ℤ pos more) ≡ false

-- the row at n, counted from 0, doesn't have the digest of the lines up to it, and each row before it does
pub record IsAltered (rows : List Row) (n : ℕ) : Type 0 where
  pub row : Row
  pub within : n < length rows
  pub is : row ≡ get_or rows n row
  pub before : AreSealed (take n rows)
  pub differs : digest_in row ≢ sha256 (digest_of (map line_in (take n rows)) ++ line_in row)

-- what a call that tests the digests of rows may meet: such a row, whose number is counted from 1
abbrev pub Unsealed : List Row → LogFault → Type 0
Unsealed rows (fault.Altered n) = (at : ℕ) × (n ≡ at + 1) × IsAltered rows at
Unsealed rows _ = ⊥

-- what a call that appends these lines to rows may meet
abbrev pub Unstorable : List Row → List (List ℕ) → LogFault → Type 0
Unstorable rows lines fault.TooBig = (line : List ℕ) × Contains lines line × IsTooLong line
Unstorable rows lines fault.NumbersUsedUp = (more : ℕ) × (more < length lines) × IsUsedUp rows more
Unstorable rows lines _ = ⊥

module _ {D : Type 0} {g : Ghosts D} where
  -- why a close failed: an allocation, a fault of the disk, or a log that was shut
  abbrev pub IsCloseFault : Held (FileStore D g) → FileStore D g → LogFault → Type 0
  IsCloseFault log last fault.OutOfMemory = ⊤
  IsCloseFault log last fault.Damaged = MoreFaults (faults log.store) (faults last)
  IsCloseFault log last fault.DiskFull = MoreFaults (faults log.store) (faults last)
  IsCloseFault log last fault.Disk = MoreFaults (faults log.store) (faults last)
  IsCloseFault log last fault.Shut = ((view log.store).is_open ≡ false) ⊎ MoreFaults (faults log.store) (faults last)
  IsCloseFault log last _ = ⊥

  -- a call of the store failed: the fault is told as its error, which names what the call met
  abbrev pub IsStoreFault : FileStore D g → FileStore D g → LogFault → Type 0
  IsStoreFault old new f = (error : StoreError) × (f ≡ fault_of_store error) × NamesFault old new error
