use Rattle.std.proofs.Common.{refl}
use Rattle.sqlite_wal.specs.Recovery.{frames_len}
use Rattle.log_tails.proofs.bytes.frame_offset.Goals as goal

pub returns-clause-at : goal.returns-clause-at
unfolding frames_len
returns-clause-at c = refl
