-- A file is the site: what an open finds in it after a run that served it, whatever ended the run.
use Rattle.std.specs.Prelude.{◌≡◌, ℕ, Bool, List, [], ◌++◌, Option, Result, IfSome, OnOk}
use Rattle.std.specs.Io.KnownBytes.{Appends}
use Rattle.byte_io.specs.Known.{AppendsFront}
use Rattle.command_log.specs.Found.{Finds}
use Rattle.site_replies.specs.Reply.{ReplyData}
use Rattle.site_serving.specs.Lines.{lines_of as input_lines}
use Rattle.site_serving.specs.Served.{Replied, Serves, history_of, lines_in, state_after, written_for}
use Rattle.site_start.specs.Started.{IsTakenOver}
use Rattle.sqlite.specs.Recovery.{Image}

-- What lines mean: `steps` if nothing refuses them, and `replies` which reply and which state may come of one; `keeps` says
-- which lines the history has.
module _ {X : Type 0} (steps : X → List ℕ → X × ReplyData) (replies : X → List ℕ → ReplyData → X → Type 0) (keeps : Replied → Bool) where
  -- A run opened files with this image for a program of this identity and a site in the state `first`. It read an input, after
  -- which the site was in the state `last`, and what the client was sent grew from `before` to `after`; it ended with `result`.
  -- An open of the files that the run left finds these lines.
  pub record Lasts {E : Type 0} (image : Image) (identity : List ℕ) (first last : X) (input before after : Option (List ℕ)) (result : Result (Unit {0}) E)
      (found : List (List ℕ)) : Type 0 where
    -- the lines that the files held as the run opened them
    pub held : List (List ℕ)
    pub were_held : Finds image held
    -- the lines that the run took over: those that were held, the first of which is the identity, or it alone
    pub noted : List (List ℕ)
    pub taken_over : IsTakenOver identity held noted
    -- the lines of the input that the run served: those that last, and those after them
    pub front : List Replied
    pub back : List Replied
    pub served : IfSome input (λ bytes. (further : List (List ℕ)) × (input_lines bytes ≡ lines_in (front ++ back) ++ further))
    -- the state after the lines that last
    pub state : X
    -- the site that the lines taken over make served the lines that last, and then the others
    pub first_served : Serves replies (state_after steps first noted) front state
    pub then_served : Serves replies state back last
    -- what is found is the lines taken over, and after them the edits that were done at the lines that last
    pub is_found : found ≡ noted ++ history_of keeps front
    -- and what was sent to the client is the beginning of the replies to these very lines
    pub was_sent : AppendsFront before after (written_for front)
    -- a run that ended well served the whole input, all of it lasts, and the client was sent the replies to all of it
    pub all : OnOk result ((back ≡ []) × IfSome input (λ bytes. input_lines bytes ≡ lines_in front) × Appends before after (written_for front))
