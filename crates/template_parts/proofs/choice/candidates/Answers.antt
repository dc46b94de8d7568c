use Rattle.std.proofs.Common.{rules}
use Rattle.template_parts.proofs.choice.candidates.Goals as goal

pub returns-in-Single : goal.returns-in-Single
returns-in-Single c = search rules
