use Rattle.std.proofs.Common.{◌≡◌, length, sym, rules, arith}
use Rattle.sqlite_wal.proofs.PartLemmas.{held_is_part}
use Rattle.log_tails.proofs.rows.read_page.Goals as goal

pub returns-clause-read : goal.returns-clause-read
returns-clause-read g c clean found =
    let file = g.D.Disk.seen c.args.db.now in
    let len : length c.read_at.new.buf ≡ length c.args.page.now = search rules in
    sym (held_is_part file c.read_at.new.buf _ _ (c.in_ok-read_at.ensures.read clean (omega arith)) len)
