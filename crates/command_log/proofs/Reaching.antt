-- A log that reaches a number, or falls short of it.
use Rattle.std.proofs.Common.{◌≡◌, ◌∙◌, [], ◌-◌, ℕ, pos, Option, None, Some, Bool, true, false, true≢false, sym, subst, arith}
use Rattle.std.specs.Prelude.{IsTrue}
use Rattle.sqlite.specs.Store.{Ghosts}
use Rattle.sqlite.specs.Effect.{Database}
use Rattle.sqlite.specs.Held.{Held, state}
use Rattle.sqlite.specs.State.{HasCleanDisk, Survives}
use Rattle.sqlite.proofs.StateLemmas.{survives_then}
use Rattle.command_log.specs.Lines.{FallsShort, HoldsRows, IsMade, IsOpen, Reaches, committed_rows, lines_after}
use Rattle.command_log.proofs.States.{ShutsIfDirty, clean_of}

module _ {S : Type 0} (g : Ghosts S) where
  -- whether it does is a matter of what is committed
  reaches_too : (old new : Held S) (number : Option ℕ) → (state g new).committed ≡ (state g old).committed → Reaches g old number → Reaches g new number
  reaches_too old new None same reaches = tt
  reaches_too old new (Some n) same reaches =
      subst (λ (d : Database). ¬ (lines_after (Some (pos (n - 1))) d.trees ≡ [])) (sym same) reaches

  module _ (law : ShutsIfDirty g) (conn log last : Held S) (number : Option ℕ) (did : Bool) (read : Survives (state g log) (state g last) (λ _. ⊥))
      (same : IsOpen g last → (state g last).committed ≡ (state g log).committed)
      (tells : HasCleanDisk (state g last) → (IsTrue did → Reaches g log number) × (Reaches g log number → IsTrue did)) where
    pub reaches_after : IsTrue did → IsOpen g last → Reaches g last number
    reaches_after so up = reaches_too log last number (same up) ((tells (clean_of g law last up)).0 so)

    pub falls_short : did ≡ false → Survives (state g conn) (state g log) (IsMade g conn) → (IsOpen g log → HoldsRows (state g conn).now (committed_rows g log))
        → (HasCleanDisk (state g log) → IsOpen g conn → IsOpen g log) → (IsOpen g last → IsOpen g log)
        → (HasCleanDisk (state g last) → IsOpen g log → IsOpen g last) → FallsShort g conn number
    falls_short not_so made rows opens shut stays =
        let early : HasCleanDisk (state g last) → HasCleanDisk (state g log) = (λ clean. omega (arith, read.clean, clean)) in
        let opened : HasCleanDisk (state g last) → IsOpen g conn → IsOpen g last = (λ clean up. stays clean (opens (early clean) up)) in
        record {
          log = last;
          survives = survives_then (state g conn) (state g log) (state g last) _ _ (IsMade g conn) (λ _ db it. it) (λ _ db none. absurd none) made read;
          rows = λ up. subst (λ (d : Database). HoldsRows (state g conn).now (d.trees 0)) (sym (same up)) (rows (shut up));
          opened = opened;
          short = λ clean up reaches.
              let now = reaches_too last log number (sym (same (opened clean up))) reaches in
              true≢false (sym ((tells clean).1 now) ∙ not_so);
        }
