use Rattle.std.proofs.Common.{refl, inl, inr, ap, ◌∙◌}
use Rattle.std.proofs.lemmas.Result.{IfErr-weaker}
use Rattle.log_tails.specs.Rows.{last_row_in}
use Rattle.sqlite.specs.Files.{image_of}
use Rattle.command_log.specs.Found.{EndsWhole, CoversFile}
use Rattle.command_log.specs.declared.fault.LogFault.{LogFault}
use Rattle.command_log.proofs.Files.{idle, orderly_if_open, finds_in, finds_over, reads_over, known_over, opened_over, fails_to_open, refuses_by, ends_whole, covers_file, last_clean, not_cut_by, overtaken, reaches_file, then_reads}
use Rattle.command_log.proofs.opening.CommandLog+FileStore+D.open_files.Goals as goal

pub returns-in-Err-clause-other : goal.returns-in-Err-clause-other
returns-in-Err-clause-other g c = fails_to_open (image_of g.D.Disk c.args.files) c.in-Err.error c.into.result c.in-Err.ensures.named c.into.ensures

pub taken-requires-clause-idle : goal.taken-requires-clause-idle
taken-requires-clause-idle g c = idle c.in-Ok.conn (image_of g.D.Disk c.args.files) c.in-Ok.ensures.fresh.autocommit c.in-Ok.ensures.opened

pub taken-requires-clause-orderly : goal.taken-requires-clause-orderly
taken-requires-clause-orderly g c = orderly_if_open c.in-Ok.conn (image_of g.D.Disk c.args.files) (λ clean. finds_in c.in-Ok.conn c.args.files (record { log = c.tail_of.new.log; db = c.last_row.new.db }) c.in_ok-tail.ensures.same
    (then_reads c.args.files.db c.outgrows.new.db c.last_row.new.db c.in_ok-is_older.ensures.same c.in_ok-number.ensures.same)
    (c.in-Ok.ensures.found clean)) c.in-Ok.ensures.opened

pub returns-clause-found : goal.returns-clause-found
returns-clause-found g c =
    finds_over c.in-Ok.conn (image_of g.D.Disk c.args.files) {E = LogFault} _ (λ clean. finds_in c.in-Ok.conn c.args.files (record { log = c.tail_of.new.log; db = c.last_row.new.db }) c.in_ok-tail.ensures.same
    (then_reads c.args.files.db c.outgrows.new.db c.last_row.new.db c.in_ok-is_older.ensures.same c.in_ok-number.ensures.same)
    (c.in-Ok.ensures.found clean)) c.in-Ok.ensures.opened c.taken.result
    c.taken.ensures.lines c.taken.ensures.survives

pub returns-clause-read : goal.returns-clause-read
returns-clause-read g c =
    reads_over c.in-Ok.conn (image_of g.D.Disk c.args.files) {E = LogFault} _ (λ clean. finds_in c.in-Ok.conn c.args.files (record { log = c.tail_of.new.log; db = c.last_row.new.db }) c.in_ok-tail.ensures.same
    (then_reads c.args.files.db c.outgrows.new.db c.last_row.new.db c.in_ok-is_older.ensures.same c.in_ok-number.ensures.same)
    (c.in-Ok.ensures.found clean)) c.in-Ok.ensures.opened c.taken.result
    c.taken.ensures.lines c.taken.ensures.survives

pub returns-clause-opened : goal.returns-clause-opened
returns-clause-opened g c = opened_over c.in-Ok.conn (image_of g.D.Disk c.args.files) {E = LogFault} _ c.in-Ok.ensures.opened c.taken.result
    c.taken.ensures.stays c.taken.ensures.survives

pub returns-clause-whole : goal.returns-clause-whole
returns-clause-whole g c =
    known_over c.in-Ok.conn (image_of g.D.Disk c.args.files) {E = LogFault} _ (EndsWhole (image_of g.D.Disk c.args.files))
    (λ clean. ends_whole g.D.Disk (image_of g.D.Disk c.args.files) (record { log = c.tail_of.new.log; db = c.last_row.new.db }) c.in_ok-tail.tail
    c.in_ok-tail.ensures.tail c.if-not-tail.false (c.in-Ok.ensures.found clean).honest)
    c.taken.result c.taken.ensures.survives

pub returns-clause-covers : goal.returns-clause-covers
returns-clause-covers g c =
    known_over c.in-Ok.conn (image_of g.D.Disk c.args.files) {E = LogFault} _ (CoversFile (image_of g.D.Disk c.args.files))
    (λ clean. covers_file g.D.Disk (image_of g.D.Disk c.args.files) (record { log = c.tail_of.new.log; db = c.last_row.new.db }) c.in_ok-tail.tail
    c.in_ok-is_older.is_older c.in_ok-tail.ensures.tail (λ clean. c.in_ok-is_older.ensures.longer (c.in_ok-number.ensures.same.clean clean)) c.if-is_older.false (c.in-Ok.ensures.found clean).honest)
    c.taken.result c.taken.ensures.survives

pub returns-clause-newest : goal.returns-clause-newest
returns-clause-newest g c =
    reaches_file c.in-Ok.conn (image_of g.D.Disk c.args.files) {E = LogFault} _ c.in_ok-number.number
    (λ clean. c.in_ok-number.ensures.last (last_clean g.D.Disk c.tail_of.new.log c.last_row.new.db (c.in-Ok.ensures.found clean).honest)
    ∙ ap last_row_in c.in_ok-is_older.ensures.same.seen)
    c.taken.result c.taken.ensures.survives c.taken.ensures.reaches

pub returns-clause-cut : goal.returns-clause-cut
returns-clause-cut g c =
    let image = image_of g.D.Disk c.args.files in
    let both = then_reads c.args.files.db c.outgrows.new.db c.last_row.new.db c.in_ok-is_older.ensures.same c.in_ok-number.ensures.same in
    not_cut_by g.D.Disk image c.taken.result
    (IfErr-weaker c.taken.result _ _ (λ f short older. (
      c.tail_of.new.log,
      c.last_row.new.db,
      record { before = c.args.files.log; held = refl; reads = c.in_ok-tail.ensures.same },
      record { before = c.args.files.db; held = refl; reads = both },
      inr (overtaken c.in-Ok.conn image c.last_row.new.db c.in_ok-number.number (λ clean. finds_in c.in-Ok.conn c.args.files
          (record { log = c.tail_of.new.log; db = c.last_row.new.db }) c.in_ok-tail.ensures.same both (c.in-Ok.ensures.found clean)) c.in-Ok.ensures.opened
          (λ clean. c.in_ok-number.ensures.last clean ∙ ap last_row_in c.in_ok-is_older.ensures.same.seen) (short older)),
    )) c.taken.ensures.older)
    c.taken.ensures.plain

pub returns-clause-other : goal.returns-clause-other
returns-clause-other g c =
    refuses_by c.in-Ok.conn (image_of g.D.Disk c.args.files) (λ clean. finds_in c.in-Ok.conn c.args.files (record { log = c.tail_of.new.log; db = c.last_row.new.db }) c.in_ok-tail.ensures.same
    (then_reads c.args.files.db c.outgrows.new.db c.last_row.new.db c.in_ok-is_older.ensures.same c.in_ok-number.ensures.same)
    (c.in-Ok.ensures.found clean)) c.taken.result c.taken.ensures.other

pub returns-then-is_older-clause-cut : goal.returns-then-is_older-clause-cut
returns-then-is_older-clause-cut g c = (
  c.tail_of.new.log,
  c.outgrows.new.db,
  record { before = c.args.files.log; held = refl; reads = c.in_ok-tail.ensures.same },
  record { before = c.args.files.db; held = refl; reads = c.in_ok-is_older.ensures.same },
  inl (λ log db. record { tail = c.in_ok-tail.tail; is = c.in_ok-tail.ensures.tail log; longer = (c.in_ok-is_older.ensures.longer db).0 c.if-is_older.true }),
)
