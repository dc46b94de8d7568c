-- What serving an input does, and which replies the writer takes.
use Rattle.std.specs.Prelude.{◌≡◌, ◌⊎◌, ℕ, ◌<◌, ◌≤◌, List, [], ◌∷◌, ◌++◌, length, Option, Result, Ok, Err, Bool, true, false, IfSome, All, flat_map}
use Rattle.std.specs.Io.KnownBytes.{Appends, Consumes, IsAtEnd}
use Rattle.byte_io.specs.Known.{AppendsFront}
use Rattle.site_replies.specs.Reply.{ReplyData, bytes_of}
use Rattle.site_serving.specs.Lines.{lines_of, max_lines, max_line, IsLine, with_newline}
use Rattle.site_replies.specs.declared.fault.ServeFault.{ServeFault}
use Rattle.site_replies.specs.declared.fault.ServeFault.TheVariants as fault

-- whether reading failed, and whether writing did
abbrev pub is_read : Result (Unit {0}) ServeFault → Bool
is_read (Ok x) = false
is_read (Err fault.Read) = true
is_read (Err _) = false

abbrev pub is_write : Result (Unit {0}) ServeFault → Bool
is_write (Ok x) = false
is_write (Err fault.Write) = true
is_write (Err _) = false

-- the first of these lines is one too many, or too long
abbrev pub GoesPast : List (List ℕ) → List (List ℕ) → Type 0
GoesPast done [] = ⊥
GoesPast done (line ∷ lines) = (length done ≡ max_lines) ⊎ (max_line < length line)

-- Everything below is stated for any meaning of a line: `replies` says which reply and which state may come of it.
module _ {X : Type 0} (replies : X → List ℕ → ReplyData → X → Type 0) where
  -- the bytes of the replies to the lines, one after another, and the state after the last
  abbrev pub IsReplies : X → List (List ℕ) → List ℕ → X → Type 0
  IsReplies old [] out new = (out ≡ []) × (new ≡ old)
  IsReplies old (line ∷ lines) out new =
      (reply : ReplyData) × (mid : X) × (later : List ℕ)
      × replies old line reply mid × (out ≡ bytes_of reply ++ later) × IsReplies mid lines later new

  -- these lines, as many as there may be, were carried out, and their replies taken
  pub record RepliesToAll (old : X) (lines : List (List ℕ)) (before after : Option (List ℕ)) (new : X) : Type 0 where
    pub out : List ℕ
    pub replied : IsReplies old lines out new
    pub written : Appends before after out
    pub count : length lines ≤ max_lines
    pub each : All IsLine lines

  -- the line was carried out, and its reply taken in part
  pub record FailsAt (old : X) (line : List ℕ) (before after : Option (List ℕ)) (new : X) : Type 0 where
    pub reply : ReplyData
    pub replied : replies old line reply new
    pub part : AppendsFront before after (bytes_of reply)

  -- Serving stopped by the fault; `given` is what the source had, and `left` what it then has.
  abbrev pub Stops : X → (given left before after : Option (List ℕ)) → X → ServeFault → Type 0
  -- the lines that end in what was read were replied to, and what follows them is the front of one more line
  Stops old given left before after new fault.Read =
      (lines : List (List ℕ)) × (part : List ℕ) × RepliesToAll old lines before after new × IsLine part × (0 < length part → length lines < max_lines)
      × Consumes given left (flat_map with_newline lines ++ part)
  -- the lines before the one that goes past the limits were replied to
  Stops old given left before after new fault.TooMuchInput =
      (lines : List (List ℕ)) × RepliesToAll old lines before after new
      × IfSome given (λ input. (further : List (List ℕ)) × (lines_of input ≡ lines ++ further) × GoesPast lines further)
  -- the lines before the one at which memory ran out were replied to
  Stops old given left before after new fault.OutOfMemory =
      (lines : List (List ℕ)) × RepliesToAll old lines before after new
      × IfSome given (λ input. (further : List (List ℕ)) × (lines_of input ≡ lines ++ further) × (0 < length further))
  -- the lines before were replied to, and of the reply to one more, within the limits, a part was taken
  Stops old given left before after new fault.Write =
      (lines : List (List ℕ)) × (line : List ℕ) × (mid : X) × (between : Option (List ℕ))
      × RepliesToAll old lines before between mid × FailsAt mid line between after new × IsLine line × (length lines < max_lines)
      × IfSome given (λ input. (further : List (List ℕ)) × (lines_of input ≡ lines ++ line ∷ further))

  -- All the input was read, each of its lines within the limits, and what was taken is the replies to them.
  pub record ServesAll (old : X) (given left before after : Option (List ℕ)) (new : X) : Type 0 where
    pub lines : List (List ℕ)
    pub replied : RepliesToAll old lines before after new
    pub whole : IfSome given (λ input. lines_of input ≡ lines)
    pub end : IsAtEnd left
