use Rattle.site_commands.specs.Asked.{put_of}
use Rattle.site_commands.proofs.command.read_put.Goals as goal

pub returns : goal.returns
unfolding put_of
returns c =
    rw (← c.in_ok-text_or.ensures) (rw (← c.in_ok-kind.ensures) (rw (← c.in_ok-text_or-2.ensures) (rw (← c.in_ok-status.ensures) c.read_put_of.ensures)))
