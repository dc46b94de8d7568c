-- What one more deed does to which clients have ended, and to which frames are taken.
use Rattle.std.proofs.Common.{arith, ◌≡◌, ◌∙◌, ℕ, Bool, true, false, List, [], ◌∷◌, ◌++◌, length, refl, sym, subst, append_assoc, append-nil}
use Rattle.std.specs.Prelude.{◌||◌, ◌&&◌, ◌==◌, All, Some, nat_eq}
use Rattle.std.proofs.lemmas.List.Elements.{All-pop}
use Rattle.std.proofs.lemmas.List.Folds.{list_any-append}
use Rattle.http_streams.specs.Deeds.{Deed}
use Rattle.http_streams.specs.Taking.{AllButOne, AreTakenAfter, IsTakenAfter, has_ended}

-- a client that has ended stays so
pub ended_then : (number : ℕ) (deeds : List Deed) (d : Deed) → has_ended number deeds ≡ true → has_ended number (deeds ++ d ∷ []) ≡ true
ended_then number deeds d is = list_any-append (λ (e : Deed). nat_eq e.frame.connection number && length e.frame.bytes == 0) deeds (d ∷ []) ∙ rw is refl

-- a frame without bytes ends its client
pub ended_now : (number : ℕ) (deeds : List Deed) (d : Deed) → nat_eq d.frame.connection number ≡ true → (length d.frame.bytes == 0) ≡ true
    → has_ended number (deeds ++ d ∷ []) ≡ true
ended_now number deeds d same none = list_any-append (λ (e : Deed). nat_eq e.frame.connection number && length e.frame.bytes == 0) deeds (d ∷ [])
    ∙ rw (same, none) (or_true (has_ended number deeds))
  where
    or_true : (b : Bool) → (b || true) ≡ true
    or_true true = refl
    or_true false = refl

-- one more is taken
pub taken_push : (before deeds : List Deed) (d : Deed) → AreTakenAfter before deeds → IsTakenAfter (before ++ deeds) d
    → AreTakenAfter before (deeds ++ d ∷ [])
taken_push before [] d are is = (subst (λ l. IsTakenAfter l d) (append-nil before) is, tt)
taken_push before (e ∷ deeds) d are is = (
  are.0,
  taken_push (before ++ e ∷ []) deeds d are.1 (subst (λ l. IsTakenAfter l d) (sym (append_assoc before (e ∷ []) deeds)) is),
)

-- all were taken, or all but the last
pub all_taken : (deeds : List Deed) → AreTakenAfter [] deeds → AllButOne deeds
all_taken deeds are = record { first = deeds; last = []; whole = sym (append-nil deeds); one = omega (arith); taken = are }

pub all_but_last : (deeds : List Deed) (d : Deed) → AreTakenAfter [] deeds → AllButOne (deeds ++ d ∷ [])
all_but_last deeds d are = record { first = deeds; last = d ∷ []; whole = refl; one = omega (arith); taken = are }

-- what holds of each of some deeds and of one more
pub of_push : (P : Deed → Type 0) (deeds : List Deed) (d : Deed) → All P (deeds ++ d ∷ []) → All P deeds × P d
of_push P deeds d all = All-pop P (deeds ++ d ∷ []) deeds (Some d) refl all
