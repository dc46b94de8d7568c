use Rattle.hook_registry.specs.Entries.{AreCallbacksOf}
use Rattle.hook_registry.proofs.CallbackSets.{pushed}
use Rattle.hook_registry.proofs.entries.with_callback.Goals.{in-Some, in-None-2+in_ok-more-in-None-2}
use Rattle.hook_registry.proofs.entries.with_callback.Goals as goal

pub returns : goal.returns
returns c =
    let were : AreCallbacksOf c.match-callbacks.more c.args.others.now = elim c.match-callbacks.branch [ in-Some w ↦ rw w.more-is (rw w.in-Some.is at c.requires) | in-None-2+in_ok-more-in-None-2 w ↦ rw w.more-is w.in_ok-more-in-None-2.ensures ] in
    pushed c.match-callbacks.more c.insert.new.self c.args.others.now c.args.new were c.in_ok-insert.ensures
