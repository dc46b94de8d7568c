use Rattle.std.proofs.Common.{arith, ◌≡◌, ℕ, List, ◌++◌, ◌≤◌, ◌-◌, length, take, drop}
use Rattle.std.proofs.lemmas.Grind.{common_steps}
use Rattle.std.proofs.KnownBytes.{Appends-trans}
use Rattle.page_trace.proofs.log.write_all.Goals as goal

-- what a write took goes from the front of the rest to the end of what was taken
moved : (taken rest bytes : List ℕ) (n : ℕ) → n ≤ length rest → taken ++ rest ≡ bytes → (taken ++ take n rest) ++ take (length rest - n) (drop n rest) ≡ bytes
moved taken rest bytes n h e = grind (arith, common_steps)

pub loop-rest-preserved : goal.loop-rest-preserved
loop-rest-preserved g c =
    let invariant = c.loop-rest.invariant in
    record {
      taken = invariant.taken ++ take c.in_ok-taken.taken c.loop-rest.rest.now;
      whole = moved invariant.taken c.loop-rest.rest.now c.args.bytes.now c.in_ok-taken.taken c.in_ok-taken.ensures.bound invariant.whole;
      appends = Appends-trans _ _ _ _ _ invariant.appends c.in_ok-taken.ensures.bytes;
    }
