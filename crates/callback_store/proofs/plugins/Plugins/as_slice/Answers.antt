use Rattle.std.proofs.Common.{rules}
use Rattle.callback_store.proofs.plugins.Plugins.as_slice.Goals as goal

pub returns : goal.returns
returns g c = search rules
