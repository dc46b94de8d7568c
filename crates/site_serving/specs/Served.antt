-- Lines with their replies: what serving them means, and which of them the history keeps.
use Rattle.std.specs.Prelude.{◌≡◌, ◌≢◌, ℕ, Bool, List, [], ◌∷◌, All, map, filter, flat_map}
use Rattle.site_replies.specs.Reply.{ReplyData, bytes_of, refused}
use Rattle.site_replies.specs.declared.reply.Refusal.TheVariants.{OutOfMemory, Store}

-- a line, and the reply to it
pub record Replied : Type 0 where
  pub line : List ℕ
  pub reply : ReplyData

abbrev pub lines_in : List Replied → List (List ℕ)
lines_in replied = map (λ r. r.line) replied

-- what is written for the replies, one after another
abbrev pub written_for : List Replied → List ℕ
written_for replied = flat_map (λ r. bytes_of r.reply) replied

-- the lines that the history keeps, with their replies and without
abbrev pub kept_of : (Replied → Bool) → List Replied → List Replied
kept_of keeps replied = filter keeps replied

abbrev pub history_of : (Replied → Bool) → List Replied → List (List ℕ)
history_of keeps replied = lines_in (kept_of keeps replied)

-- memory and the database did not refuse the line that got this reply
abbrev pub IsCarriedOut : ReplyData → Type 0
IsCarriedOut reply = (reply ≢ refused OutOfMemory) × (reply ≢ refused Store)

-- nor any of these lines
abbrev pub AreCarriedOut : List Replied → Type 0
AreCarriedOut replied = All (λ r. IsCarriedOut r.reply) replied

-- ---- what lines leave: `replies` says which reply and which state may come of a line in a state

module _ {X : Type 0} (replies : X → List ℕ → ReplyData → X → Type 0) where
  -- the state after some lines, with these replies
  abbrev pub Serves : X → List Replied → X → Type 0
  Serves old [] new = new ≡ old
  Serves old (r ∷ later) new = (mid : X) × replies old r.line r.reply mid × Serves mid later new

-- ---- and if none is refused for memory or by the database: `steps` says which state and which reply come of a line

module _ {X : Type 0} (steps : X → List ℕ → X × ReplyData) where
  abbrev pub state_after : X → List (List ℕ) → X
  state_after x [] = x
  state_after x (line ∷ lines) = state_after (steps x line).0 lines

  abbrev pub replies_to : X → List (List ℕ) → List Replied
  replies_to x [] = []
  replies_to x (line ∷ lines) = record { line = line; reply = (steps x line).1 } ∷ replies_to (steps x line).0 lines
