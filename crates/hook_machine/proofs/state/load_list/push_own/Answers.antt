use Rattle.std.proofs.Common.{arith, inl, inr, ◌≡◌, ◌∙◌, ℕ, zero, suc, List, [], ◌∷◌, Bool, true, false, take, drop, refl, sym}
use Rattle.std.specs.Prelude.{◌==◌, ◌&&◌, ◌||◌, bytes_eq}
use Rattle.std.specs.List.{list_any}
use Rattle.std.proofs.lemmas.Bool.{and_parts, or_cases}
use Rattle.std.proofs.lemmas.Grind.{common_steps}
use Rattle.plain_data.specs.Texts.{Text}
use Rattle.hook_changes.specs.declared.reply.Change.{Change}
use Rattle.hook_changes.specs.declared.reply.Change.TheVariants.{Add, Remove, RemoveAll, AddTag, RemoveTag, RemoveAllTags}
use Rattle.callback_store.specs.Shape.{Shape, has_callback, is_held_by, shapes_of}
use Rattle.hook_machine.specs.Loads.{has_active, is_active_among}
use Rattle.hook_machine.proofs.state.load_list.push_own.Goals as goal
use Rattle.hook_machine.proofs.state.load_list.push_own.Goals.{then-has_active, else-has_active}

or_right : (a b : Bool) → b ≡ true → (a || b) ≡ true
or_right true b is = refl
or_right false b is = is

-- what part of a list has, the list has
any_taken : {X : Type 0} (p : X → Bool) (n : ℕ) (xs : List X) → list_any p (take n xs) ≡ true → list_any p xs ≡ true
any_taken p zero xs is = absurd (let clash : false ≡ true = is in cc)
any_taken p (suc n) [] is = is
any_taken p (suc n) (x ∷ xs) is =
    elim (or_cases (p x) (list_any p (take n xs)) is) [ inl here ↦ rw here refl | inr later ↦ or_right (p x) _ (any_taken p n xs later) ]

any_dropped : {X : Type 0} (p : X → Bool) (n : ℕ) (xs : List X) → list_any p (drop n xs) ≡ true → list_any p xs ≡ true
any_dropped p zero xs is = is
any_dropped p (suc n) [] is = is
any_dropped p (suc n) (x ∷ xs) is = or_right (p x) _ (any_dropped p n xs is)

module _ (shapes : List Shape) (names : List Text) (m n : ℕ) where
  -- a plugin of some of the names is one of all of them
  held : (ss : List Shape) (callback : ℕ) → is_held_by ss (take m (drop n names)) callback ≡ true → is_held_by ss names callback ≡ true
  held [] callback is = is
  held (s ∷ ss) callback is =
      elim (or_cases (list_any (bytes_eq s.name) (take m (drop n names)) && has_callback callback s) (is_held_by ss (take m (drop n names)) callback) is) [
        | inl here ↦ let parts = and_parts _ _ here in
            let named = any_dropped (bytes_eq s.name) n names (any_taken (bytes_eq s.name) m (drop n names) (parts.0)) in rw (named, parts.1) refl
        | inr later ↦ or_right (list_any (bytes_eq s.name) names && has_callback callback s) _ (held ss callback later)
      ]

  among : (callback : ℕ) → is_active_among shapes (take m (drop n names)) callback ≡ true → is_active_among shapes names callback ≡ true
  among callback is = elim (or_cases (callback == 0) (is_held_by shapes (take m (drop n names)) callback) is) [ inl core ↦ rw core refl | inr is_held ↦ or_right _ _ (held shapes callback is_held) ]

  active : (c : Change) → has_active shapes (take m (drop n names)) c ≡ true → has_active shapes names c ≡ true
  active (Add hook priority callback accepted) is = among callback is
  active (Remove hook priority callback) is = is
  active (RemoveAll hook priority) is = is
  active (AddTag tag callback) is = among callback is
  active (RemoveTag tag) is = is
  active RemoveAllTags is = is

pub loop-change-preserved : goal.loop-change-preserved
loop-change-preserved g c =
    let shapes = shapes_of g.S.Stated.number c.args.plugins.now in
    let names = c.args.active.now in
    let is : c.if-has_active.is_active ≡ has_active shapes names c.change-item.result = elim c.if-has_active.branch [
      | then-has_active w ↦ w.is_active-is ∙ w.if-has_active.true ∙ sym (active shapes names _ _ c.change-item.result (sym c.has_active.ensures ∙ w.if-has_active.true))
      | else-has_active w ↦ w.is_active-is ∙ w.has_active-is_active.ensures
    ] in
    grind (arith, common_steps)
