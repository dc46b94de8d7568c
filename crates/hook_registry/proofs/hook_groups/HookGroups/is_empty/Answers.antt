use Rattle.std.proofs.Common.{vec_len, ◌∙◌, sym}
use Rattle.hook_registry.proofs.Looks.{no-groups}
use Rattle.hook_registry.proofs.hook_groups.HookGroups.is_empty.Goals as goal

pub returns : goal.returns
returns c =
    rw (← c.self.view_is)
    (c.is_empty.ensures ∙ no-groups c.self.inside.groups.items (vec_len c.self.inside.groups) c.self.invariant (sym c.self.inside.groups.ok.0))
