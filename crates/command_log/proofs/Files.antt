-- What an open of files finds: the rows ascend, and the lines are those of the database that the files held.
use Rattle.std.proofs.Common.{◌≡◌, ◌⊎◌, inl, inr, true, ℕ, List, sym, ap, ap₂, subst, ◌∙◌, lit≤, length}
use Rattle.std.proofs.Math.Logic.{∥∥₁_elim}
use Rattle.std.specs.Prelude.{IsTrue, Bool, not, ◌&&◌, refl}
use Rattle.sqlite_disk.specs.declared.Disk.{Ghosts}
use Rattle.sqlite.specs.Recovery.{Image}
use Rattle.sqlite.specs.Tree.{Trees}
use Rattle.sqlite.specs.Effect.{Database, IsDatabase}
use Rattle.sqlite_trees.specs.View.{IsShaped, IsOrdered}
use Rattle.sqlite_trees.specs.Props.{IsShaped-prop}
use Rattle.sqlite_trees.specs.Objects.{catalog_tree, IsListed}
use Rattle.sqlite_trees.specs.declared.store.Shape.TheVariants.{Table}
use Rattle.sqlite_pages.specs.PageMap.{PageMap}
use Rattle.sqlite_pool.specs.File.{version_in, in_use}
use Rattle.sqlite_store.specs.declared.catalog.Wanted.{Wanted}
use Rattle.sqlite_store.specs.declared.store.FileStore.{FileStore}
use Rattle.sqlite_store.specs.Listing.{file_trees, all_shapes, all_reals, IsOurs}
use Rattle.sqlite_store.specs.Listed.{catalog_rows, is_listed}
use Rattle.sqlite_store.proofs.ListingLemmas.{all_ordered}
use Rattle.sqlite_catalog.specs.Listing.{IsSound}
use Rattle.sqlite_catalog.proofs.LayoutLemmas.{laid_out}
use Rattle.sqlite.specs.Held.{Held, state}
use Rattle.sqlite.specs.Files.{over_files, file_state, image_of, Finds, HoldsDatabase, IsOpened, AreFoundIn}
use Rattle.sqlite.specs.Order.{Row}
use Rattle.sqlite.specs.Schema.{Schema}
use Rattle.sqlite.specs.WalReads.{AreClean, IsClean, OnlyReads}
use Rattle.log_tails.specs.declared.tail.Tail.{Tail}
use Rattle.log_tails.specs.Tails.{IsTailOf, Outgrows}
use Rattle.sqlite_disk.specs.declared.Files.{Files}
use Rattle.sqlite.specs.Start.{FindsIn}
use Rattle.command_log.specs.Table.{IsOther, log_schema}
use Rattle.std.proofs.Common.{Option, ◌≢◌, true≢false, false, Ok, Err, Result, IfOk, IfErr, arith}
use Rattle.sqlite.specs.State.{HasCleanDisk, Survives}
use Rattle.sqlite_store.specs.Laws.{shut_if_dirty_at}
use Rattle.command_log.specs.Lines.{FallsShort, IsRising, IsOrderly, HoldsLines, HoldsRows, IsOpen, IsIdle, Reaches, committed_rows, lines_of}
use Rattle.command_log.proofs.States.{ShutsIfDirty, clean_of}
use Rattle.command_log.specs.Found.{FindsLines, FindsRows, ReadsLines, RefusesOther, IsCutShort, EndsWhole, CoversFile, ReachesFile, IsOvertaken}
use Rattle.log_tails.specs.Rows.{last_row_in}
use Rattle.sqlite.specs.declared.error.Error.{Error}
use Rattle.sqlite.specs.declared.error.Error.TheVariants.{SqliteFailure, SqlInputError, InvalidParameterCount, ExecuteReturnedResults, InvalidQuery}
use Rattle.sqlite.specs.declared.error.Error.TheVariants.{MultipleStatement, QueryReturnedNoRows, InvalidColumnIndex, InvalidColumnType}
use Rattle.sqlite.specs.declared.error.Error.TheVariants.{IntegralValueOutOfRange, Utf8Error}
use Rattle.sqlite.specs.declared.error.ErrorCode.TheVariants as code
use Rattle.sqlite.specs.Opening.{is_open_error}
use Rattle.command_log.specs.declared.fault.LogFault.{LogFault}
use Rattle.command_log.specs.declared.fault.LogFault.TheVariants.{NotALog, OutOfMemory, Busy, CannotOpen, Damaged, DiskFull, Disk, TooBig, NumbersUsedUp}
use Rattle.command_log.specs.declared.fault.LogFault.TheVariants.{Shut, NotText, Altered, DamagedTail, OlderLog, Interrupted, Store}
use Rattle.command_log.specs.Faults.{fault_of, IsPlain}

module _ (size : ℕ) (wanted : List Wanted) (pages : PageMap) (ours : IsOurs size true wanted pages) (sound : IsSound log_schema (file_trees size wanted pages))
  where
    ordered : IsOrdered (all_shapes wanted) (file_trees size wanted pages)
    ordered = all_ordered ours.file.db (version_in pages)

    listed : IsListed (file_trees size wanted pages catalog_tree) (all_shapes wanted) (all_reals wanted)
    listed = subst (λ rows. IsListed rows (all_shapes wanted) (all_reals wanted)) (sym (catalog_rows size wanted (in_use size pages))) (is_listed wanted)

    pub rows_rise : IsRising (file_trees size wanted pages 0)
    rows_rise =
        let objects = subst (λ s. IsShaped s (file_trees size wanted pages catalog_tree)) listed.itself.0 (ordered catalog_tree) in
        let table : all_shapes wanted 0 ≡ Table = (laid_out listed objects sound.lists.listed).tables.0 in
        subst (λ s. IsShaped s (file_trees size wanted pages 0)) table (ordered 0)

found_rise : (image : Image) (db : Trees) → AreFoundIn image db → IsSound log_schema db → IsRising (db 0)
found_rise image db (inl f) sound = ∥∥₁_elim f.4 (IsShaped-prop Table (db 0)) (λ ours.
    subst (λ (t : Trees). IsRising (t 0)) (sym f.5) (rows_rise f.0 f.2 f.1 ours (subst (IsSound log_schema) f.5 sound)))
found_rise image db (inr none) sound = subst IsRising (sym (none.1.0 0 (lit≤ tt))) (tt, tt)

module _ {D : Type 0} {g : Ghosts D} (c : Held (FileStore D g)) (image : Image) (found : FindsIn image (file_state c)) (opened : IsOpened c) where
  pub orderly : IsOrderly over_files c
  orderly up is =
      let same = opened.0.clean in
      let sound : IsDatabase (file_state c).committed = (opened.1 up).1 in
      let schema : (file_state c).committed.schema ≡ log_schema = sym (ap (λ (d : Database). d.schema) same) ∙ is in
      subst (λ (d : Database). IsRising (d.trees 0)) (sym same)
      (found_rise image (file_state c).committed.trees found.reads (subst (λ s. IsSound s (file_state c).committed.trees) schema sound))

  -- what a database holds is in each that the files hold
  finds_such : (Such : Database → Type 0) → IsTrue (file_state c).is_open → Such (file_state c).now → (db : Trees) → HoldsDatabase image db
      → (schema : Schema) × IsDatabase (record { schema = schema; trees = db }) × Such (record { schema = schema; trees = db })
  finds_such Such up holds db was =
      let same = opened.0.clean in
      let is : (file_state c).now.trees ≡ db = ap (λ (d : Database). d.trees) same ∙ found.holds db was in (
        (file_state c).now.schema,
        subst (λ t. IsDatabase (record { schema = (file_state c).now.schema; trees = t })) is (opened.1 up).0,
        subst (λ t. Such (record { schema = (file_state c).now.schema; trees = t })) is holds,
      )

  pub finds_lines : IsTrue (file_state c).is_open → (lines : List (List ℕ)) → HoldsLines (file_state c).now lines → FindsLines image lines
  finds_lines up lines = finds_such (λ d. HoldsLines d lines) up

  pub finds_rows : IsTrue (file_state c).is_open → (rows : List Row) → HoldsRows (file_state c).now rows → FindsRows image rows
  finds_rows up rows = finds_such (λ d. HoldsRows d rows) up

  pub reads_lines : IsTrue (file_state c).is_open → (lines : List (List ℕ)) → HoldsLines (file_state c).now lines → ReadsLines image lines
  reads_lines up lines holds = (
    (file_state c).now,
    subst (AreFoundIn image) (sym (ap (λ (d : Database). d.trees) opened.0.clean)) found.reads,
    (opened.1 up).0,
    holds,
  )

module _ {D : Type 0} {g : Ghosts D} (c : Held (FileStore D g)) (image : Image) where
  shuts : ShutsIfDirty (over_files {D = D} {g = g})
  shuts s dirty = shut_if_dirty_at s dirty

  pub idle : c.in_transaction ≡ false → (HasCleanDisk (file_state c) → IsOpened c) → IsIdle over_files c
  idle autocommit opened = record { autocommit = autocommit; settled = λ up. sym (opened (clean_of over_files shuts c up)).0.clean }

  pub orderly_if_open : (HasCleanDisk (file_state c) → FindsIn image (file_state c)) → (HasCleanDisk (file_state c) → IsOpened c) → IsOrderly over_files c
  orderly_if_open found opened up is = let clean = clean_of over_files shuts c up in orderly c image (found clean) (opened clean) up is

  pub finds_over : {E : Type 0} (P : Trees → Type 0) → (HasCleanDisk (file_state c) → FindsIn image (file_state c)) → (HasCleanDisk (file_state c) → IsOpened c)
      → (r : Result (Held (FileStore D g)) E) → IfOk r (λ log. IsOpen over_files log → HoldsLines (file_state c).now (lines_of over_files log))
      → IfOk r (λ log. Survives (file_state c) (state over_files log) P) → IfOk r (λ log. IsOpen over_files log → FindsLines image (lines_of over_files log))
  finds_over P found opened (Err e) lines survives = tt
  finds_over P found opened (Ok log) lines survives = λ up.
      let after = clean_of over_files shuts log up in
      let clean : HasCleanDisk (file_state c) = omega (arith, survives.clean, after) in
      finds_lines c image (found clean) (opened clean) (opened clean).0.is_open (lines_of over_files log) (lines up)

  pub reads_over : {E : Type 0} (P : Trees → Type 0) → (HasCleanDisk (file_state c) → FindsIn image (file_state c)) → (HasCleanDisk (file_state c) → IsOpened c)
      → (r : Result (Held (FileStore D g)) E) → IfOk r (λ log. IsOpen over_files log → HoldsLines (file_state c).now (lines_of over_files log))
      → IfOk r (λ log. Survives (file_state c) (state over_files log) P) → IfOk r (λ log. IsOpen over_files log → ReadsLines image (lines_of over_files log))
  reads_over P found opened (Err e) lines survives = tt
  reads_over P found opened (Ok log) lines survives = λ up.
      let after = clean_of over_files shuts log up in
      let clean : HasCleanDisk (file_state c) = omega (arith, survives.clean, after) in
      reads_lines c image (found clean) (opened clean) (opened clean).0.is_open (lines_of over_files log) (lines up)

  pub opened_over : {E : Type 0} (P : Trees → Type 0) → (HasCleanDisk (file_state c) → IsOpened c) → (r : Result (Held (FileStore D g)) E)
      → IfOk r (λ log. HasCleanDisk (state over_files log) → IsOpen over_files c → IsOpen over_files log)
      → IfOk r (λ log. Survives (file_state c) (state over_files log) P)
      → IfOk r (λ log. HasCleanDisk (state over_files log) → IsOpen over_files log)
  opened_over P opened (Err e) stays survives = tt
  opened_over P opened (Ok log) stays survives = λ after. let clean : HasCleanDisk (file_state c) = omega (arith, survives.clean, after) in
      stays after (opened clean).0.is_open

  -- what is known of an honest disk, of a log that is open over it
  pub known_over : {E : Type 0} (P : Trees → Type 0) (Known : Type 0) → (HasCleanDisk (file_state c) → Known) → (r : Result (Held (FileStore D g)) E)
      → IfOk r (λ log. Survives (file_state c) (state over_files log) P) → IfOk r (λ log. IsOpen over_files log → Known)
  known_over P Known known (Err e) survives = tt
  known_over P Known known (Ok log) survives = λ up. let after = clean_of over_files shuts log up in
      let clean : HasCleanDisk (file_state c) = omega (arith, survives.clean, after) in
      known clean

  -- and what it reaches, said of what the file alone holds
  pub reaches_file : {E : Type 0} (P : Trees → Type 0) (number : Option ℕ) → (HasCleanDisk (file_state c) → number ≡ last_row_in image.db)
      → (r : Result (Held (FileStore D g)) E) → IfOk r (λ log. Survives (file_state c) (state over_files log) P)
      → IfOk r (λ log. IsOpen over_files log → Reaches over_files log number) → IfOk r (λ log. IsOpen over_files log → ReachesFile image log)
  reaches_file P number is (Err e) survives reaches = tt
  reaches_file P number is (Ok log) survives reaches = λ up.
      let after = clean_of over_files shuts log up in
      let clean : HasCleanDisk (file_state c) = omega (arith, survives.clean, after) in
      subst (Reaches over_files log) (is clean) (reaches up)

  -- a log that falls short of what the file alone holds
  pub overtaken : (db : D) (number : Option ℕ) → (HasCleanDisk (file_state c) → FindsIn image (file_state c)) → (HasCleanDisk (file_state c) → IsOpened c)
      → (IsClean g db → number ≡ last_row_in image.db) → FallsShort over_files c number → IsOvertaken g image db
  overtaken db number found opened is it =
      let early : HasCleanDisk (state over_files it.log) → HasCleanDisk (file_state c) = (λ after. omega (arith, it.survives.clean, after)) in
      record {
        log = it.log;
        found = λ after.
            let clean = early after in
            let up = (opened clean).0.is_open in
            finds_rows c image (found clean) (opened clean) up (committed_rows over_files it.log) (it.rows (it.opened after up));
        short = λ read after reaches.
            it.short after (opened (early after)).0.is_open (subst (Reaches over_files it.log) (sym (is read)) reaches);
      }

-- two looks at a file are one
pub then_reads : {D : Type 0} {g : Ghosts D} (old mid new : D) → OnlyReads g old mid → OnlyReads g mid new → OnlyReads g old new
then_reads old mid new one two = record {
  seen = two.seen ∙ one.seen;
  clean = λ clean. one.clean (two.clean clean);
  usable = two.usable;
  key = two.key ∙ one.key;
  rot = two.rot ∙ one.rot;
  crash = λ c may. one.crash c (two.crash c may);
}

-- no error of the database is of what the files hold
pub plain : (e : Error) → IsPlain (fault_of e)
plain (SqliteFailure (code.ConstraintViolation rule)) = tt
plain (SqliteFailure code.TypeMismatch) = tt
plain (SqliteFailure code.IntegerOverflow) = tt
plain (SqliteFailure code.NoRowid) = tt
plain (SqliteFailure code.ForeignKeyMismatch) = tt
plain (SqliteFailure code.TooDeep) = tt
plain (SqliteFailure code.NoClock) = tt
plain (SqliteFailure code.NameTaken) = tt
plain (SqliteFailure code.BadName) = tt
plain (SqliteFailure code.BadKey) = tt
plain (SqliteFailure code.BadText) = tt
plain (SqliteFailure code.SchemaTooBig) = tt
plain (SqliteFailure code.TransactionState) = tt
plain (SqliteFailure code.NoSuchSavepoint) = tt
plain (SqliteFailure code.OperationInterrupted) = tt
plain (SqliteFailure code.NotADatabase) = tt
plain (SqliteFailure code.DatabaseCorrupt) = tt
plain (SqliteFailure code.CannotOpen) = tt
plain (SqliteFailure code.DatabaseBusy) = tt
plain (SqliteFailure code.TooBig) = tt
plain (SqliteFailure code.OutOfMemory) = tt
plain (SqliteFailure code.SystemIoFailure) = tt
plain (SqliteFailure code.DiskFull) = tt
plain (SqliteFailure code.Closed) = tt
plain (SqlInputError fault) = tt
plain (InvalidParameterCount given wanted) = tt
plain ExecuteReturnedResults = tt
plain InvalidQuery = tt
plain MultipleStatement = tt
plain QueryReturnedNoRows = tt
plain (InvalidColumnIndex at) = tt
plain (InvalidColumnType at type) = tt
plain (IntegralValueOutOfRange at) = tt
plain (Utf8Error at) = tt

pub fails_to_open : {D : Type 0} {g : Ghosts D} (image : Image) (e : Error) (f : LogFault) → IsTrue (is_open_error e) → f ≡ fault_of e
    → RefusesOther {D = D} {g = g} image (Err f)
fails_to_open {D} {g} image e f named is none = absurd (subst IsPlain (sym is ∙ fault_in none) (plain e))
  where
    fault_in : ◌≡◌ {A = Result (Held (FileStore D g)) LogFault} (Err f) (Err NotALog) → f ≡ NotALog
    fault_in h = cc

pub refuses_over : {D : Type 0} {g : Ghosts D} (c : Held (FileStore D g)) (image : Image) → (HasCleanDisk (file_state c) → FindsIn image (file_state c))
    → (f : LogFault) → (f ≡ NotALog → IsOther (file_state c).now.schema) → RefusesOther {D = D} {g = g} image (Err f)
refuses_over {D} {g} c image found f other none = (c, other (fault_in none), found)
  where
    fault_in : ◌≡◌ {A = Result (Held (FileStore D g)) LogFault} (Err f) (Err NotALog) → f ≡ NotALog
    fault_in h = cc

-- a fault that is not of the log's end, or that of an older log
pub not_cut : {D : Type 0} (g : Ghosts D) (image : Image) (f : LogFault) → (f ≡ OlderLog → IsCutShort {D = D} {g = g} image (Err OlderLog))
    → (f ≡ NotALog) ⊎ ((f ≡ OlderLog) ⊎ IsPlain f) → IsCutShort {D = D} {g = g} image (Err f)
not_cut g image (DamagedTail commits following) older (inl other) = absurd (let e = other in cc)
not_cut g image (DamagedTail commits following) older (inr (inl other)) = absurd (let e = other in cc)
not_cut g image (DamagedTail commits following) older (inr (inr plain)) = absurd plain
not_cut g image OlderLog older h = older refl
not_cut g image NotALog older h = tt
not_cut g image OutOfMemory older h = tt
not_cut g image Busy older h = tt
not_cut g image CannotOpen older h = tt
not_cut g image Damaged older h = tt
not_cut g image DiskFull older h = tt
not_cut g image Disk older h = tt
not_cut g image TooBig older h = tt
not_cut g image NumbersUsedUp older h = tt
not_cut g image Shut older h = tt
not_cut g image NotText older h = tt
not_cut g image (Altered n) older h = tt
not_cut g image Interrupted older h = tt
not_cut g image Store older h = tt

-- nor is a log, or what isn't taken for one
pub not_cut_by : {D : Type 0} (g : Ghosts D) (image : Image) (r : Result (Held (FileStore D g)) LogFault)
    → IfErr r (λ f. f ≡ OlderLog → IsCutShort {D = D} {g = g} image (Err OlderLog)) → IfErr r (λ f. (f ≡ NotALog) ⊎ ((f ≡ OlderLog) ⊎ IsPlain f))
    → IsCutShort image r
not_cut_by g image (Ok log) older h = tt
not_cut_by g image (Err f) older h = not_cut g image f older h

pub refuses_by : {D : Type 0} {g : Ghosts D} (c : Held (FileStore D g)) (image : Image) → (HasCleanDisk (file_state c) → FindsIn image (file_state c))
    → (r : Result (Held (FileStore D g)) LogFault) → IfErr r (λ f. f ≡ NotALog → IsOther (file_state c).now.schema) → RefusesOther image r
refuses_by c image found (Ok log) other none = absurd (let e = none in cc)
refuses_by c image found (Err f) other none = refuses_over c image found f other none

-- what was found of the end of a log, if the disk was honest
pub ends_whole : {D : Type 0} (g : Ghosts D) (image : Image) (files : Files D) (tail : Tail) → (IsClean g files.log → IsTailOf image.log tail) → not tail.is_whole ≡ false
    → AreClean g files.log files.db → EndsWhole image
ends_whole g image files tail is no_damage clean = record {
  tail = tail;
  is = is (first (g.is_clean files.log) (g.is_clean files.db) clean);
  whole = then_true tail.is_whole no_damage;
}
  where
    first : (a b : Bool) → IsTrue (a && b) → IsTrue a
    first true b h = refl
    first false b h = h

    then_true : (b : Bool) → not b ≡ false → IsTrue b
    then_true true h = refl
    then_true false h = absurd (true≢false h)

-- of two files that are clean, the second
pub last_clean : {D : Type 0} (g : Ghosts D) (log db : D) → AreClean g log db → IsClean g db
last_clean g log db = second (g.is_clean log) (g.is_clean db)
  where
    second : (a b : Bool) → IsTrue (a && b) → IsTrue b
    second true b h = h
    second false b h = absurd (true≢false (sym h))

-- and of the length of the database file
pub covers_file : {D : Type 0} (g : Ghosts D) (image : Image) (files : Files D) (tail : Tail) (longer : Bool) → (IsClean g files.log → IsTailOf image.log tail)
    → (IsClean g files.db → (IsTrue longer → Outgrows (length image.db) tail) × (Outgrows (length image.db) tail → IsTrue longer))
    → longer ≡ false → AreClean g files.log files.db → CoversFile image
covers_file g image files tail longer is tells shorter clean = record {
  tail = tail;
  is = is (both (g.is_clean files.log) (g.is_clean files.db) clean).0;
  covers = λ outgrown. true≢false (sym ((tells (both (g.is_clean files.log) (g.is_clean files.db) clean).1).1 outgrown) ∙ shorter);
}
  where
    both : (a b : Bool) → IsTrue (a && b) → IsTrue a × IsTrue b
    both true b h = (refl, h)
    both false b h = absurd (true≢false (sym h))

-- what an open of files finds, said of what they held before a look at them
pub finds_in : {D : Type 0} {g : Ghosts D} (c : Held (FileStore D g)) (before after : Files D) → OnlyReads g before.log after.log → OnlyReads g before.db after.db
    → Finds after c → FindsIn (image_of g before) (file_state c)
finds_in {D} {g} c before after log db finds =
    subst (λ i. FindsIn i (file_state c)) (ap₂ images log.seen db.seen) (record { holds = finds.holds; reads = finds.reads })
  where
    images : List ℕ → List ℕ → Image
    images l d = record { log = l; db = d }
