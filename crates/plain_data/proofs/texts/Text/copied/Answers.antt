use Rattle.std.proofs.Common.{rules}
use Rattle.plain_data.proofs.texts.Text.copied.Goals as goal

pub returns : goal.returns
returns c = search rules
