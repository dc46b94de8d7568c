use Rattle.std.proofs.Common.{refl}
use Rattle.site_commands.proofs.command.read_put_of.Goals as goal

pub returns : goal.returns
returns c = rw (← c.in_ok-title.ensures) (rw (← c.in_ok-content.ensures) (rw (← c.in_ok-date.ensures) refl))
