use Rattle.std.proofs.Common.{sym}
use Rattle.command_log.specs.Lines.{lines_of}
use Rattle.site_start.proofs.Leaving.{left_by_start}
use Rattle.site_start.proofs.Replaying.{clean_before}
use Rattle.site_tasks.proofs.Lasting.{lasts}
use Rattle.site_tasks.proofs.files.ServeLinesLogTask.run.Goals as goal

pub returns-in-Ok : goal.returns-in-Ok
returns-in-Ok g c =
    let commands = g.C.Commands in
    let log = c.args.log in
    let site = c.args.self.site in
    let started = c.start.new.log in
    let did = c.in-Ok.ensures in
    let serve = c.serve-result in
    λ image from lines held.
    lasts _ commands.steps commands.replies commands.keeps g.S.Store g.met.S.Store.shut_if_dirty started image c.args.self.identity.now
    (commands.fixed site) (commands.fixed c.start.new.site) (commands.state site) (commands.state c.start.new.site)
    (commands.state serve.new.commands) (g.R.Source.remaining c.args.self.reader) (g.W.Sink.contents c.args.self.sink)
    (g.W.Sink.contents c.into_parts-log.result.1) c.new-journal.result serve.new.writer
    did.fixed did.replayed
    (λ ok. let up = from.opened (clean_before g.S.Store log started _ c.start.ensures.survives ok) in (lines_of g.S.Store log, from.finds up, did.lines ok))
    c.new-journal.ensures.noted (sym c.into_parts-log.ensures.written) (c.new-journal.ensures.settled did.opened) c.new-journal.ensures.written
    serve.result serve.ensures.kept serve.ensures.settled (serve.ensures.ahead (c.new-journal.ensures.settled did.opened)) lines
    (c.into_parts-log.ensures.held lines held)

pub returns-in-Err : goal.returns-in-Err
returns-in-Err g c =
    λ image from lines held.
    left_by_start image c.args.self.identity.now g.S.Store c.args.log c.start.new.log from.opened c.law_left_by_a_crash.ensures.holds c.start.ensures.survives
    from.finds lines held
