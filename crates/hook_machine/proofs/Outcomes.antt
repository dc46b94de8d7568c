-- How calls end, one after another.
use Rattle.std.proofs.Common.{◌≡◌, Result, Ok, Err, sym, ◌∙◌}
use Rattle.hook_meaning.specs.declared.fault.RunFault.{RunFault}
use Rattle.hook_meaning.specs.declared.fault.RunFault.TheVariants.{TooManyCalls, TooDeep, OutOfMemory}
use Rattle.hook_meaning.specs.World.{World}
use Rattle.hook_meaning.specs.Trace.{Trace, Done, and_then, outcome_of}
use Rattle.hook_machine.specs.Outcomes.{RunsAs}
use Rattle.hook_meaning.proofs.Ending.{fault_then}

-- if the first work has a fault, that is how the call ends
pub ends_err_then : {A B : Type 0} (t : Trace A) (k : World → A → Trace B) (f : RunFault) (w v : World) → RunsAs t (Err f) w → RunsAs (and_then t k) (Err f) v
ends_err_then t k TooManyCalls w v e = fault_then t k TooManyCalls e
ends_err_then t k TooDeep w v e = fault_then t k TooDeep e
ends_err_then t k OutOfMemory w v e = tt

-- what ends alike ends so too
pub ends_alike : {A : Type 0} (t u : Trace A) (r : Result A RunFault) (w : World) → outcome_of t ≡ outcome_of u → RunsAs t r w → RunsAs u r w
ends_alike t u (Ok x) w h e = sym h ∙ e
ends_alike t u (Err TooManyCalls) w h e = sym h ∙ e
ends_alike t u (Err TooDeep) w h e = sym h ∙ e
ends_alike t u (Err OutOfMemory) w h e = tt

-- a fault is handed on as it is
pub err_mapped : {A B : Type 0} (t : Trace A) (f : A → B) (g : RunFault) (w : World) → RunsAs t (Err g) w
    → RunsAs (and_then t (λ later y. Done later (f y))) (Err g) w
err_mapped t f g w e = ends_err_then t (λ later y. Done later (f y)) g w w e
