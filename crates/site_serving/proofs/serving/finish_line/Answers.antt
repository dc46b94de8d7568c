use Rattle.std.proofs.Common.{arith, ◌≡◌, ◌∙◌, [], sym}
use Rattle.std.proofs.lemmas.Bool.{eqb-true}
use Rattle.std.proofs.lemmas.List.{nil_from_length}
use Rattle.site_serving.proofs.Newlines.{on_every_ok, write_alone, write_is_no_memory, failed_by_write}
use Rattle.site_serving.proofs.serving.finish_line.Goals as goal

-- nothing was held, so the line is the part alone
pub returns-then-is_empty-clause-handled : goal.returns-then-is_empty-clause-handled
returns-then-is_empty-clause-handled g c =
    let counted = eqb-true _ _ (sym c.is_empty.ensures ∙ c.if-is_empty.true) in
    let same = c.args.held.now.ok.0 in
    let none : c.args.held.now.items ≡ [] = nil_from_length _ (omega (arith, same, counted)) in
    λ other. rw none c.reply_to.ensures.handled

pub returns-then-is_empty-clause-empty : goal.returns-then-is_empty-clause-empty
returns-then-is_empty-clause-empty g c =
    let counted = eqb-true _ _ (sym c.is_empty.ensures ∙ c.if-is_empty.true) in
    let same = c.args.held.now.ok.0 in
    let none : c.args.held.now.items ≡ [] = nil_from_length _ (omega (arith, same, counted)) in
    on_every_ok c.reply_to.result none

pub returns-then-is_empty-clause-memory : goal.returns-then-is_empty-clause-memory
returns-then-is_empty-clause-memory g c = λ is. write_is_no_memory c.reply_to.result c.reply_to.ensures.fault is

pub returns-then-is_empty-clause-only : goal.returns-then-is_empty-clause-only
returns-then-is_empty-clause-only g c = write_alone c.reply_to.result c.reply_to.ensures.fault

pub returns-then-is_empty-clause-failed : goal.returns-then-is_empty-clause-failed
returns-then-is_empty-clause-failed g c = failed_by_write c.reply_to.result _ c.reply_to.ensures.failed c.reply_to.ensures.fault
