use Rattle.std.proofs.Common.{rules}
use Rattle.hook_registry.proofs.registry.Registry.fire.Goals as goal

pub returns-clause-fired : goal.returns-clause-fired
returns-clause-fired c = search rules
