-- What an open of files finds.
use Rattle.std.specs.Prelude.{◌≡◌, ◌⊎◌, ℕ, List, [], Result, Err, IsErrOf, IsTrue, length}
use Rattle.log_tails.specs.declared.tail.Tail.{Tail}
use Rattle.log_tails.specs.Tails.{IsTailOf, Outgrows}
use Rattle.log_tails.specs.Rows.{last_row_in}
use Rattle.sqlite.specs.Recovery.{Image}
use Rattle.sqlite.specs.Tree.{Trees}
use Rattle.sqlite.specs.Effect.{Database, IsDatabase}
use Rattle.sqlite.specs.Files.{HoldsDatabase, AreFoundIn, file_state, image_of}
use Rattle.sqlite.specs.WalFiles.{outcomes}
use Rattle.sqlite_disk.specs.declared.Disk.{Ghosts}
use Rattle.sqlite_disk.specs.declared.Files.{Files}
use Rattle.sqlite.specs.WalReads.{IsClean, OnlyReads}
use Rattle.sqlite_store.specs.declared.store.FileStore.{FileStore}
use Rattle.sqlite_store.specs.FileStore as store
use Rattle.sqlite.specs.Held.{Held, state}
use Rattle.sqlite.specs.State.{HasCleanDisk}
use Rattle.sqlite.specs.Start.{FindsIn}
use Rattle.command_log.specs.declared.closed.LogFiles.{LogFiles}
use Rattle.command_log.specs.declared.fault.LogFault.{LogFault}
use Rattle.command_log.specs.declared.fault.LogFault.TheVariants.{NotALog, DamagedTail, OlderLog}
use Rattle.command_log.specs.Table.{IsOther}
use Rattle.sqlite.specs.Files.{over_files}
use Rattle.sqlite.specs.Order.{Row}
use Rattle.command_log.specs.Lines.{HasLines, HasRows, HoldsLines, IsOpen, Reaches, committed_rows, lines_of}

-- the store that the files of a log are in
abbrev pub store_of : {D : Type 0} {g : Ghosts D} → LogFiles D g → FileStore D g
store_of files = files.store

-- what follows the last commit in the log is what a crash leaves there
pub record EndsWhole (image : Image) : Type 0 where
  pub tail : Tail
  pub is : IsTailOf image.log tail
  pub whole : IsTrue tail.is_whole

-- and what follows these commits is something else
pub record EndsDamaged (image : Image) (commits following : ℕ) : Type 0 where
  pub tail : Tail
  pub is : IsTailOf image.log tail
  pub damaged : ¬ IsTrue tail.is_whole
  pub count : commits ≡ tail.commits
  pub left : following ≡ tail.following

-- the last commit in the log leaves the database at least as long as its file is
pub record CoversFile (image : Image) : Type 0 where
  pub tail : Tail
  pub is : IsTailOf image.log tail
  pub covers : ¬ Outgrows (length image.db) tail

-- and here it leaves it shorter
pub record IsOutgrown (image : Image) : Type 0 where
  pub tail : Tail
  pub is : IsTailOf image.log tail
  pub longer : Outgrows (length image.db) tail

-- the lines are those of the database that the files held, or none if it held nothing
abbrev pub FindsLines : Image → List (List ℕ) → Type 0
FindsLines image lines = (db : Trees) → HoldsDatabase image db → HasLines db lines

-- and there is such a database, or nothing that holds a log of no lines
abbrev pub ReadsLines : Image → List (List ℕ) → Type 0
ReadsLines image lines = (d : Database) × AreFoundIn image d.trees × IsDatabase d × HoldsLines d lines

-- the rows are those of the database that the files held, or none if it held nothing
abbrev pub FindsRows : Image → List Row → Type 0
FindsRows image rows = (db : Trees) → HoldsDatabase image db → HasRows db rows

-- what an open of the files finds: these lines are in each database that they hold, and there is one, or nothing and no line
pub record Finds (image : Image) (lines : List (List ℕ)) : Type 0 where
  pub each : FindsLines image lines
  pub one : ReadsLines image lines

-- a log that an open of the files finds has these lines
abbrev pub FindsOnly : Image → List (List ℕ) → Type 0
FindsOnly image lines = (found : List (List ℕ)) → FindsLines image found → found ≡ lines

-- and so has one that is found in the database file with no log file
abbrev pub FindsOnlyAlone : Image → List (List ℕ) → Type 0
FindsOnlyAlone image lines = FindsOnly image lines × FindsOnly (record image { log = [] }) lines

-- what reads alone leave of a file that held these bytes
pub record IsLeftByReads {D : Type 0} (g : Ghosts D) (bytes : List ℕ) (file : D) : Type 0 where
  pub before : D
  pub held : g.seen before ≡ bytes
  pub reads : OnlyReads g before file

module _ {D : Type 0} {g : Ghosts D} where
  -- an open is refused as no log only if it found a database whose schema is neither the log's nor empty
  abbrev pub RefusesOther : Image → Result (Held (FileStore D g)) LogFault → Type 0
  RefusesOther image result =
      IsErrOf result NotALog → (c : Held (FileStore D g)) × IsOther (file_state c).now.schema × (HasCleanDisk (file_state c) → FindsIn image (file_state c))

  -- the log has a line with the number of the last one that the database file alone has, or with a larger one
  abbrev pub ReachesFile : Image → Held (FileStore D g) → Type 0
  ReachesFile image log = Reaches over_files log (last_row_in image.db)

-- with an honest disk, a log whose rows were found in the files has only lines with smaller numbers than the last one of the
-- file alone
pub record IsOvertaken {D : Type 0} (g : Ghosts D) (image : Image) (db : D) : Type 0 where
  pub log : Held (FileStore D g)
  pub found : HasCleanDisk (state over_files log) → FindsRows image (committed_rows over_files log)
  pub short : IsClean g db → HasCleanDisk (state over_files log) → ¬ ReachesFile image log

module _ {D : Type 0} {g : Ghosts D} where
  -- files are refused for the end of the log only if it was read, with an honest disk, to be what no crash leaves, and for an
  -- older log only if both were read and the file is longer than the log says, or has a line with a larger number
  abbrev pub IsCutShort : Image → Result (Held (FileStore D g)) LogFault → Type 0
  IsCutShort image (Err (DamagedTail commits following)) = (log : D) × IsLeftByReads g image.log log × (IsClean g log → EndsDamaged image commits following)
  IsCutShort image (Err OlderLog) =
      (log db : D) × IsLeftByReads g image.log log × IsLeftByReads g image.db db × ((IsClean g log → IsClean g db → IsOutgrown image) ⊎ IsOvertaken g image db)
  IsCutShort image _ = Unit {0}

  -- Whatever a crash at this moment leaves of the files, the lines of a log that an open of them finds are these.
  abbrev pub IsFoundAgain : Held (FileStore D g) → Type 0
  IsFoundAgain log = IsOpen over_files log → (image : Image) → (store.state log.store).may_leave image → FindsOnly image (lines_of over_files log)

  -- Whatever a crash at this moment leaves of a store's files, of the lines that an open of them finds as a log this holds.
  abbrev pub FindsOnlySuch : FileStore D g → (List (List ℕ) → Type 0) → Type 0
  FindsOnlySuch it Such = (image : Image) → (store.state it).may_leave image → (lines : List (List ℕ)) → FindsLines image lines → ∥ Such lines ∥₁

  -- The files that a close returned hold the lines, and the database file alone does: as they are, and after a crash.
  pub record IsKeptAlone (log : Held (FileStore D g)) (files : Files D) : Type 0 where
    pub was_open : IsOpen over_files log
    pub seen : FindsOnlyAlone (image_of g files) (lines_of over_files log)
    pub left : (image : Image) → outcomes g files.log files.db image → FindsOnlyAlone image (lines_of over_files log)
