use Rattle.std.proofs.Common.{rules}
use Rattle.plain_data.proofs.texts.Text.new.Goals as goal

pub returns : goal.returns
returns c = search rules
