use Rattle.std.proofs.Common.{arith, refl, ap, subst, ◌∙◌, w64}
use Rattle.std.proofs.lemmas.Int.{to_z-of_z}
use Rattle.std.proofs.lemmas.Result.{IfOk-weaker, IfErr-weaker}
use Rattle.sqlite.specs.Held.{state}
use Rattle.command_log.specs.Lines.{GivesRows, lines_left}
use Rattle.command_log.specs.Faults.{Nothing, Unreadable, fault_of}
use Rattle.command_log.proofs.States.{on_error, tabled}
use Rattle.command_log.proofs.QuerySteps.{lines_read, lines_unread, rows_are_lines, read_failed}
use Rattle.command_log.proofs.Causes.{caused_longer}
use Rattle.command_log.proofs.lines.read_after.Goals as goal

pub returns-clause-lines : goal.returns-clause-lines
returns-clause-lines g c clean =
    let old = c.args.conn.now in
    let gives = subst (λ k. GivesRows g.S.Store old c.args.place k c.in_ok-rows.rows.items) (to_z-of_z w64 c.args.limit c.ranges.limit)
    (c.in_ok-rows.ensures.rows clean) in
    IfOk-weaker c.lines_from.result _ _ (λ read are. are ∙ lines_read g.S.Store old (tabled g.S.Store old c.requires) c.args.place c.args.limit c.in_ok-rows.rows.items gives)
    (rw c.deref.ensures.value at c.lines_from.ensures.lines)

pub returns-clause-left : goal.returns-clause-left
returns-clause-left g c clean =
    let old = c.args.conn.now in
    let gives = subst (λ k. GivesRows g.S.Store old c.args.place k c.in_ok-rows.rows.items) (to_z-of_z w64 c.args.limit c.ranges.limit)
    (c.in_ok-rows.ensures.rows clean) in
    IfOk-weaker c.lines_from.result _ _
    (λ read next n is. ap (lines_left g.S.Store old) next ∙ lines_unread g.S.Store old (tabled g.S.Store old c.requires) c.args.place c.args.limit c.in_ok-rows.rows.items gives n is)
    (rw c.deref.ensures.value at c.lines_from.ensures.next)

pub returns-in_err-rows-clause-cause : goal.returns-in_err-rows-clause-cause
returns-in_err-rows-clause-cause g c clean up =
    let old = c.args.conn.now in
    let end = c.read_rows.new.conn in
    let e = c.in_err-rows.field-0.0 in
    on_error _ e (caused_longer (state g.S.Store old) (state g.S.Store old) (state g.S.Store end) (state g.S.Store end) Nothing
    (Unreadable (lines_left g.S.Store old c.args.place)) (λ f h. absurd h) (omega arith) (omega arith) refl (fault_of e) (c.in_err-rows.ensures.cause clean up))
    c.from_residual.result c.from_residual.ensures.1

pub returns-clause-cause : goal.returns-clause-cause
returns-clause-cause g c clean up =
    let old = c.args.conn.now in
    let end = c.read_rows.new.conn in
    let gives = subst (λ k. GivesRows g.S.Store old c.args.place k c.in_ok-rows.rows.items) (to_z-of_z w64 c.args.limit c.ranges.limit)
    (c.in_ok-rows.ensures.rows clean) in
    let each = rows_are_lines g.S.Store old (tabled g.S.Store old c.requires) c.args.place c.args.limit c.in_ok-rows.rows.items gives c.schema-schema.ensures.live in
    IfErr-weaker c.lines_from.result _ _ (λ e bad. read_failed g.S.Store old (tabled g.S.Store old c.requires) c.args.place c.args.limit c.in_ok-rows.rows.items gives end e bad)
    ((rw c.deref.ensures.value at c.lines_from.ensures.err) each)
