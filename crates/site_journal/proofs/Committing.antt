-- What a crash may leave of a log to which lines were appended.
use Rattle.std.proofs.Common.{◌≡◌, ◌⊎◌, ◌∙◌, ◌<◌, inl, inr, ℕ, List, [], ◌∷◌, ◌++◌, Option, Some, None, refl, sym, ap, append-nil, map, length, arith}
use Rattle.std.specs.Io.KnownBytes.{append_known}
use Rattle.std.specs.Prelude.{if◌then◌else◌}
use Rattle.byte_io.specs.Journal.{Grows}
use Rattle.sqlite.specs.Held.{Held, state}
use Rattle.sqlite.specs.State.{Survives}
use Rattle.sqlite.specs.Store.{Ghosts}
use Rattle.command_log.specs.Lines.{IsAppended, IsOpen, MayHold, lines_of}
use Rattle.command_log.proofs.Restart.{held_then, keeps_only}
use Rattle.site_journal.specs.Known.{IsOpenIfClean, known_lines}

module _ {S : Type 0} (g : Ghosts S) where
  -- what it held, or all that is known
  pub held_after : (old new : Held S) (more : List (List ℕ)) → Survives (state g old) (state g new) (IsAppended g old more) → (held : List (List ℕ))
      → MayHold g new held → MayHold g old held ⊎ (known_lines g old more ≡ Some held)
  held_after old new more survives held may = elim (held_then g old new (IsAppended g old more) survives held may) [
    | inl was ↦ inl was
    | inr does ↦ inr (ap (λ up. if up then Some (lines_of g old ++ more) else None) does.1.0
        ∙ ap Some (keeps_only does.0 (lines_of g old ++ more) held does.1.1 does.2))
  ]

  -- an open log with nothing that waits holds all that is known
  pub holds_known : (h : Held S) (waits : List (List ℕ)) → waits ≡ [] → IsOpenIfClean g h
      → (IsOpen g h → (lines : List (List ℕ)) → MayHold g h lines → lines_of g h ≡ lines)
      → (lines : List (List ℕ)) → MayHold g h lines → known_lines g h waits ≡ Some lines
  holds_known h waits none opened only lines may =
      let up = opened may.0 in
      ap (λ more. if (state g h).is_open then Some (lines_of g h ++ more) else None) none
      ∙ ap (λ b. if b then Some (lines_of g h ++ []) else None) up ∙ ap Some (append-nil (lines_of g h) ∙ only up lines may)

-- what is known has not grown
pub known_before : (before : Option (List (List ℕ))) (lines : List (List ℕ)) → Grows before (Some lines) [] → before ≡ Some lines
known_before None lines grows = absurd grows
known_before (Some old) lines grows = ap Some (sym (grows ∙ append-nil old))

-- no byte waits
pub nothing_more : (bytes : Option (List ℕ)) (waiting : List ℕ) → waiting ≡ [] → bytes ≡ append_known bytes waiting
nothing_more None waiting none = refl
nothing_more (Some x) waiting none = ap Some (sym (ap (λ l. x ++ l) none ∙ append-nil x))

pub no_lines : {X : Type 0} (f : X → List ℕ) (items : List X) → length items < 1 → map f items ≡ []
no_lines f [] few = refl
no_lines f (x ∷ items) few = absurd (omega arith)
