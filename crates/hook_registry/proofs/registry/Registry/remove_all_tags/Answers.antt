use Rattle.std.proofs.Common.{rules}
use Rattle.hook_registry.proofs.registry.Registry.remove_all_tags.Goals as goal

pub returns : goal.returns
returns c = search rules
