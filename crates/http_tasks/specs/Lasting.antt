-- A site over HTTP lasts: what an open finds in its file after a run that served it, whatever ended the run.
use Rattle.std.specs.Prelude.{ℕ, Bool, List, Option, Some, Result}
use Rattle.command_log.specs.Found.{Finds}
use Rattle.http_tasks.specs.Told.{HoldsTold}
use Rattle.site_replies.specs.Reply.{ReplyData}
use Rattle.site_serving.specs.Served.{Replied, state_after}
use Rattle.site_start.specs.Started.{IsTakenOver}
use Rattle.sqlite.specs.Recovery.{Image}

-- What lines mean: `steps` if nothing refuses them, and `replies` which reply and which state may come of one; `keeps` says
-- which lines the history has.
module _ {X : Type 0} (steps : X → List ℕ → X × ReplyData) (replies : X → List ℕ → ReplyData → X → Type 0) (keeps : Replied → Bool) where
  -- A run opened files with this image for a program of this identity and a site in the state `first`, and served clients over HTTP.
  -- An open of the files that the run left finds these lines.
  pub record Lasts {E : Type 0} (image : Image) (identity : List ℕ) (framed : Bool) (token : Option (List ℕ)) (first : X)
      (given left before after : Option (List ℕ)) (result : Result (Unit {0}) E) (found : List (List ℕ)) : Type 0 where
    -- the lines that the files held as the run opened them
    pub held : List (List ℕ)
    pub were_held : Finds image held
    -- the lines that the run took over: those that were held, the first of which is the identity, or it alone
    pub noted : List (List ℕ)
    pub taken_over : IsTakenOver identity held noted
    -- what is found is these lines, and after them the edits of calls that the site which they make took
    pub told : HoldsTold replies keeps framed token (state_after steps first noted) (Some noted) given left before after result found
