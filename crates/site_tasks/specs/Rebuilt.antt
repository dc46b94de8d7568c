-- A site that the lines of a log have made.
use Rattle.std.specs.Prelude.{◌≡◌, ◌-◌, ℕ, Bool, List, Result, IfOk, length}
use Rattle.command_log.specs.Digests.{digest_of}
use Rattle.command_log.specs.Found.{Finds}
use Rattle.command_log.specs.declared.fault.LogFault.{LogFault}
use Rattle.site_replies.specs.Reply.{ReplyData}
use Rattle.site_serving.specs.Served.{state_after}
use Rattle.site_start.specs.Started.{HasEdits, IsTakenOver}
use Rattle.site_tasks.specs.declared.summary.Summary.{Summary}
use Rattle.sqlite.specs.Recovery.{Image}

-- `steps` says what lines mean if nothing refuses them, and `edits` which of them are edits. A log in files with this image was
-- opened for a program of this identity and a site in the state `first`, which its lines brought into the state `last`. An open
-- finds these lines.
pub record IsRebuilt {X : Type 0} (steps : X → List ℕ → X × ReplyData) (edits : List ℕ → Bool) (image : Image) (identity : List ℕ) (first last : X)
    (summary : Result Summary LogFault) (found : List (List ℕ)) : Type 0 where
  -- the lines that the files held, the first of which is the identity; if they held none, it alone is found
  pub held : List (List ℕ)
  pub were_held : Finds image held
  pub taken_over : IsTakenOver identity held found
  pub has_edits : HasEdits edits identity found
  pub made : last ≡ state_after steps first found
  -- the edits that were counted are those after the first line, and the digest is that of all lines
  pub count : IfOk summary (λ it. it.edits ≡ length found - 1)
  pub digest : IfOk summary (λ it. it.digest ≡ digest_of found)
