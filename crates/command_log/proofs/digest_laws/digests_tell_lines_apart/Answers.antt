use Rattle.command_log.proofs.Digests.{front, same_digest}
use Rattle.command_log.proofs.digest_laws.digests_tell_lines_apart.Goals as goal

pub returns : goal.returns
returns c = record { whole = same_digest; fronts = front }
