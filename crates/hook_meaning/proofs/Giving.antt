-- An action has no result but empty text.
use Rattle.std.proofs.Common.{◌≡◌, ℕ, zero, suc, ℤ, Bool, true, false, List, [], ◌∷◌, ◌++◌, Option, None, Some}
use Rattle.plain_data.specs.Names.{is_hook_name}
use Rattle.hook_registry.specs.declared.registration.Entry.{Entry}
use Rattle.hook_registry.specs.Table.{group, after}
use Rattle.hook_meaning.specs.declared.fault.RunFault.{RunFault}
use Rattle.hook_meaning.specs.declared.pass_kind.PassKind.TheVariants.{Action}
use Rattle.plain_data.specs.Texts.{Text}
use Rattle.hook_meaning.specs.World.{World}
use Rattle.hook_meaning.specs.Trace.{Event, Trace, Done, Refused, Turn, and_then, work_if, Ended, outcome_of}
use Rattle.hook_meaning.specs.Meaning.{Invocation, group_pass, priorities_pass, pass, action_pass, with_firing}

-- if the work has a result, it is this one
pub data Gives {A : Type 0} (x : A) : Trace A → Type 0 where
  gives_done : {w : World} → Gives x (Done w x)
  gives_refused : {f : RunFault} → Gives x (Refused f)
  gives_turn : {e : Event} {t : Trace A} → Gives x t → Gives x (Turn e t)

gives_then : {A B : Type 0} (x : B) (t : Trace A) (f : World → A → Trace B) → ((w : World) (y : A) → Gives x (f w y)) → Gives x (and_then t f)
gives_then x (Done w y) f k = k w y
gives_then x (Refused r) f k = gives_refused
gives_then x (Turn w t) f k = gives_turn (gives_then x t f k)

gives_on : {A B : Type 0} (y : A) (x : B) {t : Trace A} (f : World → A → Trace B) → Gives y t → ((w : World) → Gives x (f w y)) → Gives x (and_then t f)
gives_on y x f (gives_done {w = w}) k = k w
gives_on y x f gives_refused k = gives_refused
gives_on y x f (gives_turn r) k = gives_turn (gives_on y x f r k)

module _ (inv : Invocation) (hook : Text) (args : List Text) (v : Text) where
  gives_group : (w : World) (es : List Entry) → Gives v (group_pass inv Action hook args w v es)
  unfolding group_pass
  gives_group w [] = gives_done
  gives_group w (e ∷ es) = gives_then v (inv w e.callback _) _ (λ later r. gives_group later es)

  gives_priorities : (k : ℕ) (w : World) (p : Option ℤ) → Gives v (priorities_pass inv Action hook args k w v p)
  unfolding priorities_pass
  gives_priorities k w None = gives_done
  gives_priorities zero w (Some p) = gives_refused
  gives_priorities (suc k) w (Some p) = gives_on v v _ (gives_group w (group w.table hook p)) (λ later. gives_priorities k later (after later.table hook p))

  gives_pass : (w : World) → Gives v (pass inv Action w hook v args)
  unfolding pass
  gives_pass w = gives_on v v _ (gives_priorities w.calls (record w { running = w.running ++ hook ∷ [] }) _) (λ later. gives_done)

-- an action's result is empty text
pub action_gives : (inv : Invocation) (w : World) (hook : Text) (args : List Text) → Gives [] (action_pass inv w hook args)
unfolding action_pass
action_gives inv w hook args = by_name (is_hook_name hook)
  where
    by_name : (b : Bool) → Gives [] (work_if b (λ v. pass inv Action (with_firing v hook) hook [] args) (λ v. Done v []) w)
    by_name true = gives_pass inv hook args [] (with_firing w hook)
    by_name false = gives_done

pub given_is : {A : Type 0} {x : A} {t : Trace A} (w : World) (y : A) → Gives x t → outcome_of t ≡ Ended w y → y ≡ x
given_is w y gives_done e = cc
given_is w y gives_refused e = cc
given_is w y (gives_turn r) e = given_is w y r e
