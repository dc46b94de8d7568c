-- Lines that were carried out, and those that are left.
use Rattle.std.proofs.Common.{◌≡◌, ℕ, ◌+◌, ◌∙◌, List, [], ◌∷◌, ◌++◌, refl, sym, ap, map, take, drop, append-nil, length, ◌<◌}
use Rattle.std.proofs.Common.{Bool, get_or, subst, true, suc, inl, arith, ◌≤◌, Result, Ok, Err}
use Rattle.std.specs.Prelude.{OnOk, OnErr}
use Rattle.std.proofs.lemmas.List.{take_more, map-append}
use Rattle.std.proofs.lemmas.List.Elements.{All-append, All-cons, All-nil}
use Rattle.sqlite.specs.Held.{Held, state}
use Rattle.sqlite.specs.State.{State, HasCleanDisk, Survives}
use Rattle.sqlite.specs.Store.{Ghosts}
use Rattle.sqlite.specs.Tree.{Trees}
use Rattle.command_log.specs.Lines.{IsOpen}
use Rattle.command_log.proofs.States.{ShutsIfDirty, clean_of}
use Rattle.site_replies.specs.Reply.{ReplyData}
use Rattle.site_serving.specs.Served.{state_after}
use Rattle.site_serving.proofs.Histories.{state_after-append}
use Rattle.site_start.specs.Started.{AreEdits}

-- the texts of one item more
pub texts_more : {X : Type 0} (f : X → List ℕ) (lines : List X) (i : ℕ) (line : X) → i < length lines → line ≡ get_or lines i line
    → map f (take (i + 1) lines) ≡ map f (take i lines) ++ f line ∷ []
texts_more f lines i line inside is =
    let taken : take (i + 1) lines ≡ take i lines ++ line ∷ [] = take_more lines i line inside ∙ ap (λ x. take i lines ++ x ∷ []) (sym is) in
    ap (map f) taken ∙ map-append f (take i lines) (line ∷ [])

-- one line more is an edit
pub edits_more : {X : Type 0} (edits : List ℕ → Bool) (f : X → List ℕ) (lines : List X) (i : ℕ) (line : X) → i < length lines → line ≡ get_or lines i line
    → AreEdits edits (map f (take i lines)) → edits (f line) ≡ true → AreEdits edits (map f (take (i + 1) lines))
edits_more edits f lines i line inside is before one =
    let P : List ℕ → Type 0 = λ text. edits text ≡ true in
    subst (AreEdits edits) (sym (texts_more f lines i line inside is)) (All-append P (map f (take i lines)) (f line ∷ []) before
    (All-cons P (f line) [] one (All-nil P)))

module _ {S : Type 0} (steps : S → List ℕ → S × ReplyData) where
  -- one more line was carried out
  pub one_more : {X : Type 0} (f : X → List ℕ) (first mid new : S) (lines : List X) (i : ℕ) (line : X) → i < length lines → line ≡ get_or lines i line
      → mid ≡ state_after steps first (map f (take i lines)) → new ≡ (steps mid (f line)).0 → new ≡ state_after steps first (map f (take (i + 1) lines))
  one_more f first mid new lines i line inside is before done =
      done ∙ ap (λ site. (steps site (f line)).0) before ∙ sym (state_after-append steps first (map f (take i lines)) (f line ∷ []))
      ∙ ap (state_after steps first) (sym (texts_more f lines i line inside is))

-- an empty batch is the last one
pub nothing_left : {X : Type 0} (f : X → List ℕ) (items : List X) (whole lines left : List (List ℕ)) (n : ℕ) → whole ≡ lines ++ left
    → map f items ≡ take (suc n) left → length items < 1 → whole ≡ lines
nothing_left f [] whole lines [] n cut took none = cut ∙ append-nil lines
nothing_left f [] whole lines (l ∷ left) n cut took none = let no : [] ≡ l ∷ take n left = took in absurd (cc)
nothing_left f (x ∷ items) whole lines left n cut took none = absurd (omega arith)

-- ---- the first line of a log

-- no line was read
pub none_left : {X : Type 0} (f : X → List ℕ) (items : List X) (lines : List (List ℕ)) → map f items ≡ take 1 lines → length items < 1 → lines ≡ []
none_left f items [] took few = refl
none_left f [] (l ∷ lines) took few = let none : [] ≡ l ∷ [] = took in cc
none_left f (x ∷ items) (l ∷ lines) took few = absurd (omega arith)

-- a line was read
pub first_left : {X : Type 0} (f : X → List ℕ) (items : List X) (lines : List (List ℕ)) (line : X) → map f items ≡ take 1 lines → 1 ≤ length items
    → line ≡ get_or items 0 line → lines ≡ f line ∷ drop 1 lines
first_left f [] lines line took some is = absurd (omega arith)
first_left f (x ∷ items) [] line took some is = let none : f x ∷ map f items ≡ [] = took in cc
first_left f (x ∷ items) (l ∷ lines) line took some is =
    let one : f x ∷ map f items ≡ l ∷ [] = took in
    let head : f x ≡ l = cc in
    let same : line ≡ x = is in
    ap (λ first. first ∷ lines) (sym head ∙ ap f (sym same))

-- two facts on `Ok` give a third
pub on_ok_both : {E P Q R : Type 0} (r : Result (Unit {0}) E) → (P → Q → R) → OnOk r P → OnOk r Q → OnOk r R
on_ok_both (Ok x) f p q = f p q
on_ok_both (Err e) f p q = tt

-- what holds anyway holds on `Err`
pub on_every_err : {E P : Type 0} (r : Result (Unit {0}) E) → P → OnErr r P
on_every_err (Ok x) p = tt
on_every_err (Err e) p = p

module _ {S : Type 0} (g : Ghosts S) where
  -- a disk that is clean was clean before
  pub clean_before : (old new : Held S) (Commits : Trees → Type 0) → Survives (state g old) (state g new) Commits → HasCleanDisk (state g new)
      → HasCleanDisk (state g old)
  clean_before old new Commits s clean = let falls = s.clean in omega (arith, falls, clean)

  -- what was committed is the same after one more call
  pub same_then : ShutsIfDirty g → (first mid new : Held S) (Commits : Trees → Type 0)
      → (HasCleanDisk (state g mid) → (state g mid).committed ≡ (state g first).committed) → Survives (state g mid) (state g new) Commits
      → (IsOpen g new → (state g new).committed ≡ (state g mid).committed) → IsOpen g new → (state g new).committed ≡ (state g first).committed
  same_then law first mid new Commits before s now up = now up ∙ before (clean_before mid new Commits s (clean_of g law new up))

-- what stays as it is survives
pub survives_same : (s : State) → Survives s s (λ _. ⊥)
survives_same s = record {
  clean = omega arith;
  shield = λ shielded. shielded;
  counts = omega arith;
  limit = refl;
  closes = λ clean up. inl up;
  crash = λ clean db left. inl left;
}
