use Rattle.std.proofs.Common.{rules, arith, ◌≡◌, ◌+◌, ◌∙◌, ap, length, subst, subst₂, true}
use Rattle.std.proofs.lemmas.List.Elements.{All-nil}
use Rattle.std.specs.String.{string_bytes}
use Rattle.command_log.proofs.States.{on_error}
use Rattle.site_start.specs.Started.{IsDone, IsNumber, StopsAt}
use Rattle.site_start.proofs.Replaying.{edits_more, one_more}
use Rattle.site_start.proofs.Stopping.{done_more, next_number, stops_here}
use Rattle.site_start.proofs.replay.redo_all.Goals as goal

pub loop-line-init : goal.loop-line-init
loop-line-init g c = record {
  fixed = search rules;
  done = search rules;
  edits = All-nil (λ line. g.C.Commands.edits line ≡ true);
  kept = tt;
  counted = λ n is low. let same = is (omega arith) in omega (arith, same);
}

pub loop-line-preserved : goal.loop-line-preserved
loop-line-preserved g c =
    let before = c.loop-line.invariant in
    let done = c.in_ok-redo.ensures in
    let steps = g.C.Commands.steps in
    let keeps = g.C.Commands.keeps in
    let first = g.C.Commands.state c.args.site.now in
    let mid = g.C.Commands.state c.loop-line.site in
    let fixed = g.C.Commands.fixed c.args.site.now in
    let line : c.as_str.result.now ≡ string_bytes c.line-item.result = c.as_str.ensures.value in
    let did = done.done ∙ ap (λ f. (steps f mid c.as_str.result.now).0) before.fixed ∙ ap (λ l. (steps fixed mid l).0) line in
    let one = subst₂ (λ f text. IsDone keeps text (steps f mid text).1) before.fixed line done.kept in
    record {
      fixed = done.fixed ∙ before.fixed;
      done = one_more (steps fixed) string_bytes first mid _ c.args.lines.now c.loop-line.line-index c.line-item.result c.loop-line-test.true c.line-item.is
          before.done did;
      edits = edits_more g.C.Commands.edits string_bytes c.args.lines.now c.loop-line.line-index c.line-item.result c.loop-line-test.true c.line-item.is before.edits
          (subst (λ text. g.C.Commands.edits text ≡ true) line done.edit);
      kept = done_more (steps fixed) (g.C.Commands.replies fixed) keeps string_bytes first mid c.args.lines.now c.loop-line.line-index c.line-item.result
          c.loop-line-test.true c.line-item.is before.done before.kept one;
      counted = λ n is. subst (λ m. IsNumber m c.saturating_add.result) (omega arith)
          (next_number (n + c.loop-line.line-index) _ c.saturating_add.result (before.counted n is) c.saturating_add.ensures);
    }

-- the line that was read last wasn't done
pub returns-in_err-redo-clause-cause : goal.returns-in_err-redo-clause-cause
returns-in_err-redo-clause-cause g c = λ n is.
    let before = c.loop-line.invariant in
    let keeps = g.C.Commands.keeps in
    let first = g.C.Commands.state c.args.site.now in
    let mid = g.C.Commands.state c.loop-line.site in
    let fixed = g.C.Commands.fixed c.args.site.now in
    let at = c.loop-line.line-index in
    let text = c.as_str.result.now in
    let number = next_number (n + at) _ _ (before.counted n is) c.saturating_add.ensures in
    let stops = subst (λ f. StopsAt (g.C.Commands.steps f) (g.C.Commands.replies f) keeps mid (n + at + 1) text (IsDone keeps text) c.in_err-redo.field-0.0) before.fixed
    (c.in_err-redo.ensures.cause (n + at + 1) number) in
    on_error _ _
    (stops_here (g.C.Commands.steps fixed) (g.C.Commands.replies fixed) keeps string_bytes first mid n c.args.lines.now at c.line-item.result text _
    c.loop-line-test.true c.line-item.is before.done before.kept c.as_str.ensures.value stops) c.from_residual.result c.from_residual.ensures.1

pub returns-clause-counted : goal.returns-clause-counted
returns-clause-counted g c = λ n is.
    let end : c.loop-line.line-index ≡ length c.args.lines.now = omega arith in
    subst (λ m. IsNumber (n + m) c.loop-line.count) end (c.loop-line.invariant.counted n is)
