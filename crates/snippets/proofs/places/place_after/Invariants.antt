use Rattle.std.proofs.Common.{◌≡◌, drop}
use Rattle.snippets.specs.Places.{place_after, place_now}
use Rattle.snippets.proofs.places.place_after.Given as goal

-- what is left of the text leads from here to where the whole leads
abbrev pub invariant-loop-byte : goal.invariant-loop-byte
invariant-loop-byte l = place_after (place_now l.place) (drop l.byte-index l.text) ≡ place_after (place_now l.fn.place) l.text
