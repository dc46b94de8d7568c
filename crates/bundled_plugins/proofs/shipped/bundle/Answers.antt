use Rattle.std.proofs.Common.{rules}
use Rattle.bundled_plugins.proofs.shipped.bundle.Goals as goal

pub returns : goal.returns
returns g c = search rules
