use Rattle.std.proofs.Common.{rules}
use Rattle.hook_registry.proofs.Alone.{other_groups}
use Rattle.hook_registry.proofs.hook_groups.HookGroups.only.Goals as goal

pub returns-then-len-ne1 : goal.returns-then-len-ne1
returns-then-len-ne1 c = rw (← c.self.view_is) (other_groups c.self.inside.groups.items c.self.invariant (search rules))
