use Rattle.std.proofs.Common.{refl}
use Rattle.site_commands.specs.Asked.{template_of}
use Rattle.site_commands.proofs.command.read_template.Goals as goal

pub returns : goal.returns
unfolding template_of
returns c = rw (← c.in_ok-name.ensures) (rw (← c.in_ok-body.ensures) refl)
