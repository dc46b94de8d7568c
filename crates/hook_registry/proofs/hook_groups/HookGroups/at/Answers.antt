use Rattle.std.proofs.Common.{◌∙◌, arith, sym}
use Rattle.std.proofs.lemmas.Result.{IfOk-weaker}
use Rattle.hook_registry.proofs.Edits.{within}
use Rattle.hook_registry.proofs.Looks.{entries-there, entries-gap}
use Rattle.hook_registry.proofs.hook_groups.HookGroups.at.Goals as goal

pub index-requires : goal.index-requires
index-requires c = let k = within c.args.priority c.deref.result.now c.in-Ok.at c.in-Ok.ensures in omega (arith, k, c.deref.ensures.len)

pub returns-in-Ok : goal.returns-in-Ok
returns-in-Ok c =
    let at = rw c.deref.ensures.value at c.in-Ok.ensures in
    IfOk-weaker c.from_slice.result _ _
    (λ v e. rw (← c.self.view_is)
    (e ∙ c.as_slice.ensures ∙ sym (entries-there c.args.priority c.self.inside.groups.items c.in-Ok.at c.index.result.now c.self.invariant at c.index.ensures)))
    c.from_slice.ensures.items

pub returns-in-Err : goal.returns-in-Err
returns-in-Err c =
    let gap = rw c.deref.ensures.value at c.in-Err.ensures in
    rw (← c.self.view_is)
    (c.new.ensures.items ∙ sym (entries-gap c.args.priority c.self.inside.groups.items c.in-Err.field-0 c.self.invariant gap))
