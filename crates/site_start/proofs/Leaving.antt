-- What a start or a shortening that failed may leave of the files.
use Rattle.std.proofs.Common.{◌≡◌, ◌⊎◌, ◌∙◌, inl, inr, ℕ, List, [], ◌∷◌, sym, subst}
use Rattle.sqlite.specs.Held.{Held, state}
use Rattle.sqlite.specs.Recovery.{Image}
use Rattle.sqlite.specs.State.{HasCleanDisk, Survives}
use Rattle.sqlite.specs.Store.{Ghosts}
use Rattle.command_log.specs.Found.{Finds}
use Rattle.command_log.specs.Lines.{IsOpen, KeepsLines, MayHold, lines_of}
use Rattle.command_log.proofs.Restart.{held_then, keeps_only}
use Rattle.site_serving.specs.declared.commands.Commands as commands
use Rattle.site_start.specs.Compacted.{IsShort, IsShortIn}
use Rattle.site_start.specs.Started.{IsLeftBy, IsTakenOver}
use Rattle.site_start.proofs.Replaying.{clean_before}

module _ (image : Image) (identity : List ℕ) where
  pub left_by : (held lines : List (List ℕ)) → Finds image held → IsTakenOver identity held lines → IsLeftBy image identity lines
  left_by [] lines finds taken = inr (finds, taken)
  left_by (first ∷ later) lines finds taken = inl (subst (Finds image) (sym taken.1) finds)

  module _ {S : Type 0} (g : Ghosts S) (old new : Held S) (opened : HasCleanDisk (state g old) → IsOpen g old)
      (only : IsOpen g old → (lines : List (List ℕ)) → MayHold g old lines → lines_of g old ≡ lines) where
    pub left_by_start : Survives (state g old) (state g new) (λ db. (lines_of g old ≡ []) × KeepsLines (identity ∷ []) db)
        → (IsOpen g old → Finds image (lines_of g old)) → (lines : List (List ℕ)) → MayHold g new lines
        → IsLeftBy image identity lines
    left_by_start survives finds lines may =
        let up = opened (clean_before g old new _ survives may.0) in
        elim (held_then g old new _ survives lines may) [
          | inl was ↦ inl (subst (Finds image) (only up lines was) (finds up))
          | inr made ↦ inr (subst (Finds image) made.1.0 (finds up), sym (keeps_only made.0 (identity ∷ []) lines made.1.1 made.2))
        ]

    module _ {C : Type 0} (c : commands.Ghosts C) (site after : C) (same : c.state after ≡ c.state site) where
      pub short_after : (lines : List (List ℕ)) → IsShortIn c identity site lines → IsShortIn c identity after lines
      short_after lines short = record { later = short.later; are = short.are; rebuild = subst (λ x. c.rebuilds x short.later) (sym same) short.rebuild }

      pub left_by_compact : Survives (state g old) (state g new)
          (λ db. (lines : List (List ℕ)) × KeepsLines lines db × IsShortIn c identity site lines)
          → (HasCleanDisk (state g old) → (held : List (List ℕ)) × Finds image held × IsTakenOver identity held (lines_of g old))
          → (lines : List (List ℕ)) → MayHold g new lines → IsLeftBy image identity lines ⊎ IsShortIn c identity after lines
      left_by_compact survives found lines may =
          let clean = clean_before g old new _ survives may.0 in
          let was = found clean in
          elim (held_then g old new _ survives lines may) [
            | inl before ↦ inl (subst (IsLeftBy image identity) (only (opened clean) lines before) (left_by was.0 (lines_of g old) was.1 was.2))
            | inr made ↦ inr (subst (IsShortIn c identity after) (keeps_only made.0 made.1.0 lines made.1.1 made.2)
                (short_after made.1.0 made.1.2))
          ]
