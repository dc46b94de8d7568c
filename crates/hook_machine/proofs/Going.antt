-- How a run leads on: through invocations that it passes over, or by turns.
use Rattle.std.proofs.Common.{◌≡◌, ℕ, ◌≤◌, List, [], ◌∷◌, ◌++◌, length, Result, Ok, Err, refl, sym, ap, subst, ◌∙◌, arith}
use Rattle.std.specs.Prelude.{IfOk, IfErr}
use Rattle.hook_changes.specs.declared.reply.Call.{Call}
use Rattle.hook_meaning.specs.declared.fault.RunFault.{RunFault}
use Rattle.hook_meaning.specs.declared.fault.RunFault.TheVariants.{TooManyCalls, TooDeep, OutOfMemory}
use Rattle.hook_machine.specs.declared.run.frames.Frame.{Frame}
use Rattle.hook_machine.specs.declared.run.frames.Frame.TheVariants as frame
use Rattle.hook_machine.specs.declared.run.frames.Invoked.{Invoked}
use Rattle.hook_machine.specs.declared.run.frames.Move.{Move}
use Rattle.hook_machine.specs.declared.run.frames.Move.TheVariants.{Turned, Handed}
use Rattle.hook_machine.specs.declared.run.frames.Pace.{Pace}
use Rattle.hook_machine.specs.declared.run.frames.Pace.TheVariants.{ByTurns, Through}
use Rattle.hook_machine.specs.declared.run.jobs.Turn.{Turn}
use Rattle.plain_data.specs.Texts.{Text}
use Rattle.hook_meaning.specs.World.{World}
use Rattle.hook_meaning.specs.Trace.{Event, Trace, Done, Turn as turned_to, and_then, outcome_of, turns_of}
use Rattle.hook_meaning.specs.Meaning.{Engine, invoke}
use Rattle.hook_machine.specs.Outcomes.{RunsAs}
use Rattle.hook_machine.specs.Rest.{handed, pending_left, goes_on, rest, then_rest}
use Rattle.hook_machine.specs.Moves.{made_by, through, MayPass, Leads, LeadsOn, Moves, Turns, TurnsBy, Invokes}
use Rattle.hook_machine.proofs.Steps.{onto_frame, invoke_none}

-- ---- invocations that are passed

through_both : {A : Type 0} (xs ys : List Event) (t : Trace A) → through (xs ++ ys) t ≡ through xs (through ys t)
through_both [] ys t = refl
through_both (x ∷ xs) ys t = ap (turned_to x) (through_both xs ys t)

pub outcome_through : {A : Type 0} (xs : List Event) (t : Trace A) → outcome_of (through xs t) ≡ outcome_of t
outcome_through [] t = refl
outcome_through (x ∷ xs) t = outcome_through xs t

turns_through : {A : Type 0} (xs : List Event) (t : Trace A) → length (turns_of t) ≤ length (turns_of (through xs t))
turns_through [] t = omega arith
turns_through (x ∷ xs) t = omega (arith, turns_through xs t)

may_both : (pace : Pace) (xs ys : List Event) → MayPass pace xs → MayPass pace ys → MayPass pace (xs ++ ys)
may_both ByTurns xs ys p q = rw (p, q) refl
may_both Through xs ys p q = tt

pub may_none : (pace : Pace) → MayPass pace []
may_none ByTurns = refl
may_none Through = tt

may_any : {pace : Pace} → pace ≡ Through → (xs : List Event) → MayPass pace xs
may_any p xs = subst (λ q. MayPass q xs) (sym p) tt

module _ {pace : Pace} {A : Type 0} where
  pub leads_here : {t u : Trace A} → t ≡ u → Leads pace t u
  leads_here e = record { passed = []; may = may_none pace; is = e }

  pub leads_then : {t u v : Trace A} → Leads pace t u → Leads pace u v → Leads pace t v
  leads_then l m = record {
    passed = l.passed ++ m.passed;
    may = may_both pace l.passed m.passed l.may m.may;
    is = l.is ∙ ap (through l.passed) m.is ∙ sym (through_both l.passed m.passed _);
  }

  -- a run that doesn't stop passes an invocation over
  pub leads_over : {t : Trace A} (event : Event) (u : Trace A) → t ≡ turned_to event u → pace ≡ Through → Leads pace t u
  leads_over event u e p = record { passed = event ∷ []; may = may_any p (event ∷ []); is = e }

  -- what is passed over in a part is passed over in the whole
  pub leads_under : {B : Type 0} (f : Trace A → Trace B) → ((xs : List Event) (t : Trace A) → f (through xs t) ≡ through xs (f t)) → {t u : Trace A}
      → Leads pace t u → Leads pace (f t) (f u)
  leads_under f same {t} {u} l = record { passed = l.passed; may = l.may; is = ap f l.is ∙ same l.passed u }

  pub same_end : {t u : Trace A} → Leads pace t u → outcome_of u ≡ outcome_of t
  same_end l = sym (ap outcome_of l.is ∙ outcome_through l.passed _)

  pub fewer_turns : {t u : Trace A} → Leads pace t u → length (turns_of u) ≤ length (turns_of t)
  fewer_turns {t} {u} l = subst (λ (s : Trace A). length (turns_of u) ≤ length (turns_of s)) (sym l.is) (turns_through l.passed u)

pub on_then : {A B : Type 0} (pace : Pace) (t u : Trace A) (now : B → Trace A) (r : Result B RunFault) → Leads pace t u → LeadsOn pace u now r
    → LeadsOn pace t now r
on_then pace t u now (Ok x) l m = leads_then l m
on_then pace t u now (Err TooManyCalls) l m = leads_then l m
on_then pace t u now (Err TooDeep) l m = leads_then l m
on_then pace t u now (Err OutOfMemory) l m = tt

pub refused_then : {A B C : Type 0} (pace : Pace) (t u : Trace A) (now : B → Trace A) (later : C → Trace A) (f : RunFault) → Leads pace t u
    → LeadsOn pace u now (Err f) → LeadsOn pace t later (Err f)
refused_then pace t u now later TooManyCalls l m = leads_then l m
refused_then pace t u now later TooDeep l m = leads_then l m
refused_then pace t u now later OutOfMemory l m = tt

-- what leads to a fault ends with it
pub ends_refused : {B : Type 0} (pace : Pace) (t : Trace Text) (now : B → Trace Text) (f : RunFault) → LeadsOn pace t now (Err f) → (w : World)
    → RunsAs t (Err f) w
ends_refused pace t now TooManyCalls m w = sym (same_end m)
ends_refused pace t now TooDeep m w = sym (same_end m)
ends_refused pace t now OutOfMemory m w = tt

-- by turns nothing is passed over
pub leads_next : {A : Type 0} {t u : Trace A} → Leads ByTurns t u → t ≡ u
leads_next {A} {t} {u} l = l.is ∙ ap (λ (xs : List Event). through xs u) l.may

pub by_turns : (t : Trace Text) (r : Result Turn RunFault) (w : Event) (now : Trace Text) → TurnsBy ByTurns t r w now → Turns t r w now
by_turns t (Ok turn) w now m = leads_next m
by_turns t (Err TooManyCalls) w now m = leads_next m
by_turns t (Err TooDeep) w now m = leads_next m
by_turns t (Err OutOfMemory) w now m = tt

-- ---- from one invocation to the next

module _ (engine : Engine) where
  pub refused_invokes : (w : World) (k : ℕ) (call : Call) (f : RunFault) → w.calls ≡ 0 → f ≡ TooManyCalls → (v : World)
      → Invokes engine (invoke engine w k call) (Err f) v
  refused_invokes w k call f h e v = rw e (invoke_none engine w k call h)

  module _ {pace : Pace} where
    -- an invocation that is refused
    pub invoking_refused : (t : Trace Text) (f : RunFault) (v : World) (fs : List Frame) → Invokes engine t (Err f) v → (w : World) (gs : List Frame)
        → Moves pace engine (then_rest engine t fs) (Err f) w gs
    invoking_refused t TooManyCalls v fs e w gs = record { leads = leads_here (ap (λ (t : Trace Text). then_rest engine t fs) e) }
    invoking_refused t TooDeep v fs e w gs = record { leads = leads_here (ap (λ (t : Trace Text). then_rest engine t fs) e) }
    invoking_refused t OutOfMemory v fs e w gs = record { leads = tt }

    pub answer_handed : (t : Trace Text) (event : Event) (w : World) (x : Text) (fs : List Frame) → t ≡ turned_to event (Done w x) → pace ≡ Through
        → Moves pace engine (then_rest engine t fs) (Ok (Handed x)) w fs
    answer_handed t event w x fs e p = record { leads = leads_over event _ (ap (λ (t : Trace Text). then_rest engine t fs) e) p }

    pub invocation_waits : (t : Trace Text) (w : World) (i : Invoked) (fs fs' : List Frame)
        → t ≡ turned_to (made_by w i) (pending_left engine w i.callback i.call i.pending) → fs' ≡ frame.Invocation i ∷ fs
        → Moves pace engine (then_rest engine t fs) (Ok Turned) w fs'
    unfolding rest goes_on
    invocation_waits t w i fs fs' e f = record { leads = leads_here (rw f (ap (λ (t : Trace Text). then_rest engine t fs) e)) }

    pub moves_then : {trace other : Trace Text} (result : Result Move RunFault) (end : World) (left : List Frame) → Leads pace trace other
        → Moves pace engine other result end left
        → Moves pace engine trace result end left
    moves_then {trace} {other} result end left leading moves = record { leads = on_then pace trace other _ result leading moves.leads }

    -- work that waits at a frame, which was put before the others
    pub moves_onto : (trace inner : Trace Text) (top : Frame) (frames pushed : List Frame)
        → trace ≡ and_then inner (λ later given. handed engine later top given) → pushed ≡ top ∷ frames
        → (result : Result Move RunFault) (end : World) (left : List Frame) → Moves pace engine (then_rest engine inner pushed) result end left
        → Moves pace engine (then_rest engine trace frames) result end left
    moves_onto trace inner top frames pushed is_then pushed_is result end left moves =
        moves_then result end left
        (leads_here (ap (λ (trace : Trace Text). then_rest engine trace frames) is_then ∙ onto_frame engine inner top frames
        ∙ ap (λ (stack : List Frame). then_rest engine inner stack) (sym pushed_is))) moves

    -- work that is done at once
    pub moves_same : (trace other : Trace Text) (frames : List Frame) → trace ≡ other → (result : Result Move RunFault) (end : World) (left : List Frame)
        → Moves pace engine (then_rest engine other frames) result end left → Moves pace engine (then_rest engine trace frames) result end left
    moves_same trace other frames same result end left moves = moves_then result end left
        (leads_here (ap (λ (trace : Trace Text). then_rest engine trace frames) same)) moves

    -- frames that were put, unless memory ran out
    pub put_moves : (t : Trace Text) (r : Result Move RunFault) (w : World) (fs fs' : List Frame) → IfOk r (λ move. (move ≡ Turned) × (fs' ≡ fs))
        → IfErr r (λ fault. fault ≡ OutOfMemory) → Moves pace engine t (Ok Turned) w fs → Moves pace engine t r w fs'
    put_moves t (Ok move) w fs fs' ok err m = rw (ok.0, ok.1) m
    put_moves t (Err fault) w fs fs' ok err m = rw err (record { leads = tt })

    -- a pass goes from one invocation to the next: what was left when it was handed to led to some work of an invocation,
    -- whose result a frame waits for
    module _ (before t : Trace Text) (w : World) (k : ℕ) (call : Call) (f : Frame) (fs : List Frame)
        (goes : t ≡ and_then (invoke engine w k call) (λ later x. handed engine later f x)) (led : Leads pace before (then_rest engine t fs)) where
      onto : Leads pace before (then_rest engine (invoke engine w k call) (f ∷ fs))
      onto = leads_then led (leads_here (ap (λ (t : Trace Text). then_rest engine t fs) goes ∙ onto_frame engine (invoke engine w k call) f fs))

      pub goes_over : (event : Event) (later : World) (x : Text) (next : Trace Text) → invoke engine w k call ≡ turned_to event (Done later x) → pace ≡ Through
          → handed engine later f x ≡ next → Leads pace before (then_rest engine next fs)
      goes_over event later x next e p h =
          leads_then led (leads_over event (then_rest engine next fs)
          (ap (λ (t : Trace Text). then_rest engine t fs)
          (goes ∙ ap (λ (t : Trace Text). and_then t (λ later x. handed engine later f x)) e ∙ ap (turned_to event) h)) p)

      pub goes_waiting : (later : World) (i : Invoked) (fs' : List Frame)
          → invoke engine w k call ≡ turned_to (made_by later i) (pending_left engine later i.callback i.call i.pending) → fs' ≡ frame.Invocation i ∷ f ∷ fs
          → Moves pace engine before (Ok Turned) later fs'
      goes_waiting later i fs' e q = moves_then (Ok Turned) later fs' onto (invocation_waits (invoke engine w k call) later i (f ∷ fs) fs' e q)

      pub goes_refused : (r : RunFault) (v : World) → Invokes engine (invoke engine w k call) (Err r) v → (v' : World) (gs : List Frame)
          → Moves pace engine before (Err r) v' gs
      goes_refused r v e v' gs = moves_then (Err r) v' gs onto (invoking_refused (invoke engine w k call) r v (f ∷ fs) e v' gs)
