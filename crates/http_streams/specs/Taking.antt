-- Which frames are taken whole.
use Rattle.std.specs.Prelude.{◌≡◌, ◌⊎◌, ◌&&◌, ◌==◌, ⊤, ℕ, ◌<◌, ◌≤◌, Bool, false, nat_eq, List, [], ◌∷◌, ◌++◌, All, length}
use Rattle.std.specs.List.{list_any}
use Rattle.http_streams.specs.Deeds.{Deed}

-- the most connections that are open
abbrev pub most_open : ℕ
most_open = 1024

-- the client of this number has said that nothing more comes of it
abbrev pub has_ended : ℕ → List Deed → Bool
has_ended number deeds = list_any (λ d. nat_eq d.frame.connection number && length d.frame.bytes == 0) deeds

-- nothing of a frame is taken, and its client is told that nothing more comes
pub record IsRefused (before : List Deed) (d : Deed) : Type 0 where
  pub taken : d.taken ≡ []
  pub told : d.sent ≡ [] ∷ []
  -- a number above all before it is refused only if at least `most_open` frames came before
  pub full : 0 < d.frame.connection → All (λ e. e.frame.connection < d.frame.connection) before → most_open ≤ length before

-- after these deeds a frame is taken whole, unless its client had ended or it is refused
abbrev pub IsTakenAfter : List Deed → Deed → Type 0
IsTakenAfter before d = (has_ended d.frame.connection before ≡ false → d.taken ≡ d.frame.bytes) ⊎ IsRefused before d

-- so is each of these, one after another
abbrev pub AreTakenAfter : List Deed → List Deed → Type 0
AreTakenAfter before [] = ⊤
AreTakenAfter before (d ∷ deeds) = IsTakenAfter before d × AreTakenAfter (before ++ d ∷ []) deeds

-- so is each but perhaps the last
pub record AllButOne (deeds : List Deed) : Type 0 where
  pub first : List Deed
  pub last : List Deed
  pub whole : deeds ≡ first ++ last
  pub one : length last ≤ 1
  pub taken : AreTakenAfter [] first
