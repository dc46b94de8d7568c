-- From what a run says of its journal to what is found of its log, and of its files.
use Rattle.std.proofs.Common.{◌≡◌, ℕ, Bool, true, false, List, [], ◌++◌, Option, Some, None, Result, refl, ap, subst, subst₂, append-nil}
use Rattle.std.specs.Prelude.{IsTrue, if◌then◌else◌}
use Rattle.byte_io.specs.Journal.{Grows}
use Rattle.command_log.proofs.States.{ShutsIfDirty, clean_of}
use Rattle.command_log.specs.Found.{Finds}
use Rattle.command_log.specs.Lines.{IsOpen, lines_of}
use Rattle.http_tasks.specs.Lasting.{Lasts}
use Rattle.http_tasks.specs.Told.{HoldsTold}
use Rattle.site_journal.specs.Known.{known_lines}
use Rattle.site_replies.specs.Reply.{ReplyData}
use Rattle.site_serving.specs.Served.{Replied, history_of, state_after}
use Rattle.site_start.specs.Started.{IsTakenOver}
use Rattle.sqlite.specs.Held.{Held, state}
use Rattle.sqlite.specs.Recovery.{Image}
use Rattle.sqlite.specs.State.{HasCleanDisk}
use Rattle.sqlite.specs.Store as store

-- lines that are found after those of a log were known
known_open : (up : Bool) (lines found more : List (List ℕ)) → Grows (if up then Some (lines ++ []) else None) (Some found) more
    → IsTrue up × ((if up then Some (lines ++ []) else None) ≡ Some lines)
known_open true lines found more grows = (refl, ap Some (append-nil lines))
known_open false lines found more grows = absurd grows

module _ {X E S : Type 0} (replies : X → List ℕ → ReplyData → X → Type 0) (keeps : Replied → Bool) (g : store.Ghosts S) (log : Held S)
    (framed : Bool) (token : Option (List ℕ)) (first : X) (given left before after : Option (List ℕ)) (result : Result (Unit {0}) E) where
  -- what is found is known of a log that was open alone
  pub told_of_open : (noted : Option (List (List ℕ))) (held : List (List ℕ)) → noted ≡ known_lines g log []
      → HoldsTold replies keeps framed token first noted given left before after result held
      → IsOpen g log × HoldsTold replies keeps framed token first (Some (lines_of g log)) given left before after result held
  told_of_open noted held knew told =
      let known = subst (λ n. HoldsTold replies keeps framed token first n given left before after result held) knew told in
      let is = known_open (state g log).is_open (lines_of g log) held (history_of keeps (known.told_lines ++ known.more_lines)) known.edits in
      (is.0, subst (λ n. HoldsTold replies keeps framed token first n given left before after result held) is.1 known)

module _ {F X E S : Type 0} (steps : F → X → List ℕ → X × ReplyData) (replies : F → X → List ℕ → ReplyData → X → Type 0) (keeps : Replied → Bool)
    (g : store.Ghosts S) (law : ShutsIfDirty g) (log : Held S) (image : Image) (identity : List ℕ) (framed : Bool) (token : Option (List ℕ))
    (fixed still : F) (first started : X) (given left before after : Option (List ℕ)) (result : Result (Unit {0}) E) where
  -- a site that a start has made served the clients
  pub lasts : still ≡ fixed → (HasCleanDisk (state g log) → started ≡ state_after (steps fixed) first (lines_of g log))
      → (HasCleanDisk (state g log) → (held : List (List ℕ)) × Finds image held × IsTakenOver identity held (lines_of g log))
      → (found : List (List ℕ)) → IsOpen g log
      → HoldsTold (replies still) keeps framed token started (Some (lines_of g log)) given left before after result found
      → Lasts (steps fixed) (replies fixed) keeps image identity framed token first given left before after result found
  lasts same replayed held found up told =
      let clean = clean_of g law log up in
      let was = held clean in
      record {
        held = was.0;
        were_held = was.1;
        noted = lines_of g log;
        taken_over = was.2;
        told = subst₂ (λ f x. HoldsTold (replies f) keeps framed token x (Some (lines_of g log)) given left before after result found) same (replayed clean)
            told;
      }
