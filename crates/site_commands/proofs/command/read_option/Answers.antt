use Rattle.site_commands.specs.Asked.{option_of}
use Rattle.std.proofs.Common.{refl}
use Rattle.site_commands.proofs.command.read_option.Goals as goal

pub returns : goal.returns
unfolding option_of
returns c = rw (← c.in_ok-text_at.ensures) (rw (← c.in_ok-name.ensures) (rw (← c.in_ok-value.ensures) refl))
