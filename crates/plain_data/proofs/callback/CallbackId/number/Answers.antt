use Rattle.std.proofs.Common.{rules}
use Rattle.plain_data.proofs.callback.CallbackId.number.Goals as goal

pub returns : goal.returns
returns c = search rules
