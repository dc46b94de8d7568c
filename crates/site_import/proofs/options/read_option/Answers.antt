use Rattle.std.proofs.Common.{rules}
use Rattle.site_import.proofs.options.read_option.Goals as goal

pub returns : goal.returns
returns c = search rules
