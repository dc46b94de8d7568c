-- Frames on a stream.
use Rattle.std.specs.Prelude.{◌≡◌, ℕ, ◌<◌, ◌≤◌, ◌^◌, nat_lt, List, [], ◌∷◌, ◌++◌, length, take, drop, if◌then◌else◌}
use Rattle.std.specs.Int.{from_be_bytes, to_be_bytes, w32}
use Rattle.http_streams.specs.declared.frame.Front.{Front}
use Rattle.http_streams.specs.declared.frame.Front.TheVariants as front

-- a frame, wherever its bytes lie in memory
pub record FrameData : Type 0 where
  pub connection : ℕ
  pub bytes : List ℕ

-- the most bytes that a frame carries
abbrev pub most_bytes : ℕ
most_bytes = 65536

-- a frame that there may be
pub record IsFrame (frame : FrameData) : Type 0 where
  pub number : frame.connection < 2 ^ 32
  pub short : length frame.bytes ≤ most_bytes

-- the connection's number, the count of the bytes, and the bytes
abbrev pub frame_bytes : FrameData → List ℕ
frame_bytes frame = to_be_bytes w32 frame.connection ++ (to_be_bytes w32 (length frame.bytes) ++ frame.bytes)

-- what some bytes begin with
pub data FrontData : Type 0 where
  whole : FrameData → (rest : List ℕ) → FrontData
  part : FrontData
  too_long : FrontData

abbrev pub front_data : Front → FrontData
front_data (front.Whole frame rest) = whole (record { connection = frame.connection; bytes = frame.bytes.now }) rest.now
front_data front.Part = part
front_data front.TooLong = too_long

-- what follows a head with this number and this count
abbrev pub after_head : (connection len : ℕ) (rest : List ℕ) → FrontData
after_head connection len rest =
    if nat_lt most_bytes len then too_long
    else (if nat_lt (length rest) len then part
    else whole (record { connection = connection; bytes = take len rest }) (drop len rest))

-- eight bytes are a frame's head: the number and the count
abbrev pub front_of : List ℕ → FrontData
front_of input =
    if nat_lt (length input) 8 then part
    else after_head (from_be_bytes w32 (take 4 input)) (from_be_bytes w32 (take 4 (drop 4 input))) (drop 8 input)

-- bytes begin with these frames, one after another, and go on with the rest
abbrev pub ReadsAs : List ℕ → List FrameData → List ℕ → Type 0
ReadsAs input [] rest = input ≡ rest
ReadsAs input (frame ∷ frames) rest = (after : List ℕ) × (front_of input ≡ whole frame after) × ReadsAs after frames rest
