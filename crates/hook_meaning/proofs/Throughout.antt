-- What each step keeps holds in each world that a pass goes through.
use Rattle.std.proofs.Common.{◌≡◌, ℕ, ◌≤◌, true, List, length, arith}
use Rattle.std.proofs.lemmas.Bool.{ltb-true}
use Rattle.std.specs.List.{AllByRecursion}
use Rattle.hook_changes.specs.declared.reply.Change.{Change}
use Rattle.hook_changes.specs.declared.reply.Change.TheVariants.{Add, Remove, RemoveAll, AddTag, RemoveTag, RemoveAllTags}
use Rattle.callback_store.specs.Shape.{Shape}
use Rattle.plain_data.specs.Texts.{Text}
use Rattle.hook_meaning.specs.World.{World, world_after_change}
use Rattle.hook_meaning.specs.Trace.{Trace, turns_of}
use Rattle.hook_meaning.specs.Meaning.{Engine, filtered, acted, replaced}
use Rattle.hook_meaning.specs.Throughout.{worlds_of, names_active, KeepsOutInactive, IsWithinCalls, IsWithinDepth}
use Rattle.hook_meaning.proofs.Agree.{Agree, agree_done, agree_refused, agree_turn, Keeps}
use Rattle.hook_meaning.proofs.Agree.{agree_filtered, agree_acted, agree_replaced, Any, keeps_any, Every, itself}
use Rattle.hook_meaning.proofs.Registered.{keeps_names}

pub agree-worlds : {A : Type 0} {I : World → Type 0} {c : ℕ} {t u : Trace A} → Agree I c t u → AllByRecursion I (worlds_of t)
agree-worlds (agree_done h) = (h.1, tt)
agree-worlds agree_refused = tt
agree-worlds (agree_turn i r) = (i, agree-worlds r)

pub agree-turns : {A : Type 0} {I : World → Type 0} {c : ℕ} {t u : Trace A} → Agree I c t u → length (turns_of t) ≤ c
agree-turns (agree_done h) = omega arith
agree-turns agree_refused = omega arith
agree-turns (agree_turn i r) = omega (arith, agree-turns r)

module _ (engine : Engine) (I : World → Type 0) (keep : Keeps engine.plugins I) where
  pub kept-filtered : (w : World) (hook value : Text) (args : List Text) → I w
      → Agree I w.calls (filtered engine w hook value args) (filtered engine w hook value args)
  kept-filtered = agree_filtered engine engine I Every (itself engine I keep)

  pub kept-acted : (w : World) (hook : Text) (args : List Text) → I w → Agree I w.calls (acted engine w hook args) (acted engine w hook args)
  kept-acted = agree_acted engine engine I Every (itself engine I keep)

  pub kept-replaced : (w : World) (text : Text) → I w → Agree I w.calls (replaced engine w text) (replaced engine w text)
  kept-replaced = agree_replaced engine engine I Every (itself engine I keep)

abbrev pub IsShallow : World → Type 0
IsShallow w = w.depth ≤ 32

changed-shallow : (plugins : List Shape) (w : World) (c : Change) → IsShallow w → IsShallow (world_after_change plugins w c)
changed-shallow plugins w (Add hook priority callback accepted) i = i
changed-shallow plugins w (Remove hook priority callback) i = i
changed-shallow plugins w (RemoveAll hook priority) i = i
changed-shallow plugins w (AddTag tag callback) i = i
changed-shallow plugins w (RemoveTag tag) i = i
changed-shallow plugins w RemoveAllTags i = i

pub keeps_shallow : (plugins : List Shape) → Keeps plugins IsShallow
keeps_shallow plugins = record {
  calls = λ w n i. i;
  deeper = λ w e i. omega (arith, ltb-true w.depth 32 e);
  higher = λ w i. omega (arith, i);
  running = λ w hooks i. i;
  counts = λ w counts i. i;
  output = λ w text i. i;
  changed = changed-shallow plugins;
}

module _ (engine : Engine) where
  pub names-filtered : (w : World) (hook value : Text) (args : List Text) → names_active engine.plugins w ≡ true
      → KeepsOutInactive engine.plugins (filtered engine w hook value args)
  names-filtered w hook value args i = agree-worlds (kept-filtered engine _ (keeps_names engine.plugins) w hook value args i)

  pub names-acted : (w : World) (hook : Text) (args : List Text) → names_active engine.plugins w ≡ true
      → KeepsOutInactive engine.plugins (acted engine w hook args)
  names-acted w hook args i = agree-worlds (kept-acted engine _ (keeps_names engine.plugins) w hook args i)

  pub names-replaced : (w : World) (text : Text) → names_active engine.plugins w ≡ true → KeepsOutInactive engine.plugins (replaced engine w text)
  names-replaced w text i = agree-worlds (kept-replaced engine _ (keeps_names engine.plugins) w text i)

  pub calls-filtered : (w : World) (hook value : Text) (args : List Text) → IsWithinCalls w.calls (filtered engine w hook value args)
  calls-filtered w hook value args = agree-turns (kept-filtered engine Any (keeps_any engine.plugins) w hook value args tt)

  pub calls-acted : (w : World) (hook : Text) (args : List Text) → IsWithinCalls w.calls (acted engine w hook args)
  calls-acted w hook args = agree-turns (kept-acted engine Any (keeps_any engine.plugins) w hook args tt)

  pub calls-replaced : (w : World) (text : Text) → IsWithinCalls w.calls (replaced engine w text)
  calls-replaced w text = agree-turns (kept-replaced engine Any (keeps_any engine.plugins) w text tt)

  pub depth-filtered : (w : World) (hook value : Text) (args : List Text) → w.depth ≤ 32 → IsWithinDepth (filtered engine w hook value args)
  depth-filtered w hook value args i = agree-worlds (kept-filtered engine IsShallow (keeps_shallow engine.plugins) w hook value args i)

  pub depth-acted : (w : World) (hook : Text) (args : List Text) → w.depth ≤ 32 → IsWithinDepth (acted engine w hook args)
  depth-acted w hook args i = agree-worlds (kept-acted engine IsShallow (keeps_shallow engine.plugins) w hook args i)

  pub depth-replaced : (w : World) (text : Text) → w.depth ≤ 32 → IsWithinDepth (replaced engine w text)
  depth-replaced w text i = agree-worlds (kept-replaced engine IsShallow (keeps_shallow engine.plugins) w text i)
