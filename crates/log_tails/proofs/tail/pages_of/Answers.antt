use Rattle.std.proofs.Common.{◌≡◌, ◌+◌, length, ◌∙◌, rules, arith}
use Rattle.sqlite_disk.specs.Disk.{Holds}
use Rattle.sqlite_wal.specs.Recovery.{frame_at}
use Rattle.log_tails.proofs.Reading.{read_size}
use Rattle.log_tails.proofs.tail.pages_of.Goals as goal

pub returns-clause-pages : goal.returns-clause-pages
returns-clause-pages g c clean =
    let file = g.D.Disk.seen c.args.log.now in
    let at : c.frame_offset.result ≡ frame_at c.args.page_size c.args.i = c.frame_offset.ensures.at in
    let len : length c.read_at.new.buf ≡ 4 = search rules in
    let holds : Holds file (frame_at c.args.page_size c.args.i + 4) c.read_at.new.buf =
    rw (← at) (c.in_ok-read_at.ensures.read clean (omega arith)) in
    c.get_be32.ensures ∙ read_size c.args.page_size file c.args.i c.read_at.new.buf holds len
