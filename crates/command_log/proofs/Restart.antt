-- From one run to the next.
use Rattle.std.proofs.Common.{◌≡◌, ◌⊎◌, inl, inr, ℕ, List, [], ◌∷◌, refl, sym, ap, subst, ◌∙◌, arith}
use Rattle.std.proofs.Math.Logic.{∥∥₁_elim, ∥∥₁_map}
use Rattle.std.specs.Prelude.{IsTrue}
use Rattle.std.specs.List.{AllZip}
use Rattle.std.specs.Coded.{coded_ℕ, coded_list}
use base.Stored.{Coded-set}
use Rattle.sqlite_disk.specs.declared.Disk.{Ghosts}
use Rattle.sqlite_disk.specs.declared.Files.{Files}
use Rattle.sqlite.specs.Recovery.{Image}
use Rattle.sqlite.specs.Tree.{Trees}
use Rattle.sqlite.specs.Effect.{Database, IsDatabase}
use Rattle.sqlite_store.specs.declared.store.FileStore.{FileStore}
use Rattle.sqlite_store.specs.FileStore as store
use Rattle.sqlite_catalog.specs.Listing.{IsSound}
use Rattle.sqlite.specs.Held.{Held, AreDatabases}
use Rattle.sqlite.specs.Files.{over_files, file_state, image_of, HoldsDatabase, ExcusesClose, FailsToClose}
use Rattle.sqlite.specs.Closing.{HoldsAlone, IsCopied}
use Rattle.sqlite.specs.State.{HasCleanDisk, Survives, store_error}
use Rattle.sqlite.specs.Store as traits
use Rattle.sqlite.specs.Held.{state}
use Rattle.sqlite.specs.declared.error.Error.{Error}
use Rattle.sqlite_trees.specs.declared.error.StoreError.{StoreError}
use Rattle.sqlite_trees.specs.declared.error.StoreError.TheVariants.{OutOfMemory, Io, Corrupt, Full, Broken, Unstorable}
use Rattle.command_log.specs.Faults.{fault_of, IsCloseFault}
use Rattle.sqlite.proofs.Theorems.{opens_again}
use Rattle.command_log.specs.Table.{log_schema, no_schema}
use Rattle.command_log.specs.Lines.{HasLines, HoldsLines, IsLog, IsOpen, KeepsLines, MayHold, lines_of, lines_in}
use Rattle.command_log.specs.Found.{FindsOnly, FindsOnlyAlone, FindsOnlySuch, IsFoundAgain, IsKeptAlone}

lists_set : IsSet (List (List ℕ))
lists_set = Coded-set (coded_list (coded_list coded_ℕ))

no_zip : {A B : Type 0} (R Q : A → B → Type 0) (xs : List A) (y : B) → AllZip R xs [] → AllZip Q xs (y ∷ []) → ⊥
no_zip R Q [] y one two = two
no_zip R Q (x ∷ xs) y one two = one

-- trees that list the table of a log do not list nothing
not_nothing : (db : Trees) → IsSound log_schema db → IsSound no_schema db → ⊥
not_nothing db log none = no_zip _ _ _ _ none.lists.listed.tables log.lists.listed.tables

-- what trees hold as a log is told by the trees
pub same_lines : (db : Trees) (lines : List (List ℕ)) → IsSound log_schema db → (d : Database) → IsDatabase d → d.trees ≡ db → HoldsLines d lines → lines
    ≡ lines_in db
same_lines db lines log d sound is (inl table) = table.1 ∙ ap lines_in is
same_lines db lines log d sound is (inr none) = absurd (not_nothing db log (subst (IsSound no_schema) is (subst (λ s. IsSound s d.trees) none.0 sound)))

-- a log has these lines
pub keeps_has : (db : Trees) (lines : List (List ℕ)) → KeepsLines lines db → HasLines db lines
keeps_has db lines keeps = (log_schema, keeps.sound, inl (refl, sym keeps.are, keeps.sealed))

-- and no others
pub keeps_only : (db : Trees) (kept lines : List (List ℕ)) → KeepsLines kept db → HasLines db lines → kept ≡ lines
keeps_only db kept lines keeps has =
    sym keeps.are ∙ sym (same_lines db lines keeps.sound (record { schema = has.0; trees = db }) has.1 refl has.2)

module _ {S : Type 0} (g : traits.Ghosts S) where
  -- what may be held after a call was held before, or is what the call commits
  pub held_then : (old new : Held S) (Commits : Trees → Type 0) → Survives (state g old) (state g new) Commits → (lines : List (List ℕ))
      → MayHold g new lines → MayHold g old lines ⊎ ((db : Trees) × Commits db × HasLines db lines)
  held_then old new Commits survives lines may = elim (survives.crash may.0 may.1.0 may.1.1) [
    | inl was ↦ inl (let early = survives.clean in let first = may.0 in omega (arith, early, first), (may.1.0, was, may.1.2))
    | inr does ↦ inr (may.1.0, does, may.1.2)
  ]

only_these : (image : Image) (db : Trees) → IsSound log_schema db → ∥ HoldsDatabase image db ∥₁ → FindsOnly image (lines_in db)
only_these image db sound held found finds = ∥∥₁_elim held (lists_set found (lines_in db)) (λ h. let f = finds db h in same_lines db found sound _ f.1 refl f.2)

module _ {D : Type 0} {g : Ghosts D} (log : Held (FileStore D g)) where
  -- whether it is open or not
  pub found_such : (last : FileStore D g) → IsTrue (store.view last).is_numbered → AreDatabases (store.recovers last) → HasCleanDisk (file_state log)
      → ((db : Trees) → store.recovers last db → store.recovers log.store db) → FindsOnlySuch last (MayHold over_files log)
  found_such last numbered databases clean before image may lines finds =
      ∥∥₁_map (opens_again last numbered databases image may)
      (λ (held : (db : Trees) × store.recovers last db × HoldsDatabase image db).
      let it : MayHold over_files log lines = (clean, (held.0, before held.0 held.1, finds held.0 held.2)) in it)

module _ {D : Type 0} {g : Ghosts D} (log : Held (FileStore D g)) (is : IsLog over_files log) (live : IsOpen over_files log
    → IsDatabase (file_state log).committed) where
  sound_log : IsOpen over_files log → IsSound log_schema (file_state log).committed.trees
  sound_log up = subst (λ s. IsSound s (file_state log).committed.trees) (ap (λ (d : Database). d.schema) (is.idle.settled up) ∙ (is.holds up).table.schema_is)
      (live up)

  pub found_again : IsTrue (store.view log.store).is_numbered → ((db : Trees) → IsOpen over_files log → store.recovers log.store db → db
      ≡ (store.view log.store).committed) → IsFoundAgain log
  found_again numbered settled up image may =
      let sound = sound_log up in
      let databases : AreDatabases (store.recovers log.store) = λ t r. (log_schema, subst (IsSound log_schema) (sym (settled t up r)) sound) in
      only_these image (file_state log).committed.trees sound
      (∥∥₁_map (opens_again log.store numbered databases image may) (λ held. subst (HoldsDatabase image) (settled held.0 up held.1) held.2))

  alone : IsOpen over_files log → (image : Image) → HoldsAlone image (file_state log).committed.trees → FindsOnlyAlone image (lines_of over_files log)
  alone up image held = (only_these image _ (sound_log up) held.both, only_these (record image { log = [] }) _ (sound_log up) held.alone)

  pub kept_alone : (files : Files D) → IsCopied log files → IsKeptAlone log files
  kept_alone files copied = record {
    was_open = copied.was_open;
    seen = alone copied.was_open (image_of g files) copied.seen;
    left = λ image may. alone copied.was_open image (copied.left image may);
  }

module _ {D : Type 0} {g : Ghosts D} (log : Held (FileStore D g)) (last : FileStore D g) where
  by_cause : (cause : StoreError) → ExcusesClose log last cause → IsCloseFault log last (fault_of (store_error cause))
  by_cause OutOfMemory h = tt
  by_cause Io h = h
  by_cause Corrupt h = h
  by_cause Full h = h
  by_cause Broken h = h
  by_cause Unstorable h = absurd h

  pub close_fault : (e : Error) → FailsToClose log last e → IsCloseFault log last (fault_of e)
  close_fault e h = subst (λ x. IsCloseFault log last (fault_of x)) (sym h.1) (by_cause h.0 h.2)
