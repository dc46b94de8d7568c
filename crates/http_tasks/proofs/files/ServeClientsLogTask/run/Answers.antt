use Rattle.command_log.specs.Lines.{lines_of}
use Rattle.site_start.proofs.Leaving.{left_by_start}
use Rattle.site_start.proofs.Replaying.{clean_before}
use Rattle.http_tasks.proofs.Lasting.{lasts, told_of_open}
use Rattle.http_tasks.proofs.files.ServeClientsLogTask.run.Goals as goal

pub returns-in-Ok : goal.returns-in-Ok
returns-in-Ok g c =
    let commands = g.C.Commands in
    let log = c.args.log in
    let site = c.args.self.site in
    let started = c.start.new.log in
    let did = c.in-Ok.ensures in
    λ image from lines held.
    let told = c.serve_pages-journal.ensures.holds (c.new-journal.ensures.settled did.opened) lines (c.into_parts-log.ensures.held lines held) in
    let known = told_of_open _ _ g.S.Store started _ _ _ _ _ _ _ _ _ lines c.new-journal.ensures.noted told in
    lasts commands.steps commands.replies commands.keeps g.S.Store g.met.S.Store.shut_if_dirty started image c.args.self.identity.now _ _
    (commands.fixed site) (commands.fixed c.start.new.site) (commands.state site) (commands.state c.start.new.site) _ _ _ _ _
    did.fixed did.replayed
    (λ ok. let was = from.opened (clean_before g.S.Store log started _ c.start.ensures.survives ok) in (lines_of g.S.Store log, from.finds was, did.lines ok))
    lines known.0 known.1

pub returns-in-Err : goal.returns-in-Err
returns-in-Err g c =
    λ image from lines held.
    left_by_start image c.args.self.identity.now g.S.Store c.args.log c.start.new.log from.opened c.law_left_by_a_crash.ensures.holds c.start.ensures.survives
    from.finds lines held
