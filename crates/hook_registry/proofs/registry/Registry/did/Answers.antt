use Rattle.std.proofs.Common.{rules}
use Rattle.hook_registry.proofs.registry.Registry.did.Goals as goal

pub returns : goal.returns
returns c = search rules
