use Rattle.std.proofs.Common.{rules}
use Rattle.site_commands.specs.Asked.{import_of}
use Rattle.site_commands.proofs.command.read_import.Goals as goal

pub returns-in_err-site : goal.returns-in_err-site
unfolding import_of
returns-in_err-site c = search rules
