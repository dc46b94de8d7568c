use Rattle.std.proofs.Common.{◌∙◌, sym}
use Rattle.hook_registry.proofs.Adding.{entry-new}
use Rattle.hook_registry.proofs.CallbackSets.{recounted_all}
use Rattle.hook_registry.proofs.Hooks.{on_ok}
use Rattle.hook_registry.proofs.entries.GroupEntries.add.Goals as goal

pub returns-then-not-has-clause-added : goal.returns-then-not-has-clause-added
returns-then-not-has-clause-added c =
    on_ok c.push.result (λ e. e ∙ entry-new c.args.new c.args.self.now (sym c.has.ensures ∙ c.if-not-has.true)) c.push.ensures.ok

pub invariant_of-self : goal.invariant_of-self
invariant_of-self c = (
  rw (← c.as_slice-2.ensures.value) c.in_ok-shared.ensures,
  recounted_all c.self.inside.callbacks c.self.inside.own.items c.in_ok-changed.changed.items c.args.new c.self.invariant.1
      (rw c.self.view_is (sym c.has.ensures ∙ c.if-not-has.false)) (rw (← c.as_slice.ensures.value) c.in_ok-changed.ensures),
)
