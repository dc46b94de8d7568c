use Rattle.std.proofs.Common.{Some, ap, sym, ◌∙◌}
use Rattle.shortcode_scan.specs.declared.Piece.TheVariants.{Plain, Match}
use Rattle.hook_meaning.proofs.Ending.{none_of, piece_plain, piece_escaped, piece_unhandled}
use Rattle.hook_machine.proofs.Works.{match_is, shown_ends}
use Rattle.hook_machine.proofs.run.pieces.work_of_piece.Goals as goal

-- a stretch between matches
pub returns-in-Plain-clause-work : goal.returns-in-Plain-clause-work
returns-in-Plain-clause-work c =
    shown_ends c.args.text.now c.args.state.now c.args.piece.now (Plain c.in-Plain.span) c.in-Plain.is c.in-Plain.span
    (λ inv. piece_plain inv c.args.text.now c.args.state.now c.in-Plain.span)

-- an escaped match
pub returns-then-is_escaped-clause-work : goal.returns-then-is_escaped-clause-work
returns-then-is_escaped-clause-work c =
    shown_ends c.args.text.now c.args.state.now c.args.piece.now
    (Match c.in-Match.whole c.in-Match.name c.in-Match.atts c.in-Match.content c.in-Match.opening_extra c.in-Match.closing_extra) c.in-Match.is
    c.without_brackets.result
    (λ inv. rw c.without_brackets.ensures (piece_escaped inv c.args.text.now c.args.state.now c.in-Match.whole c.in-Match.name c.in-Match.atts
    c.in-Match.content c.in-Match.opening_extra c.in-Match.closing_extra (sym c.is_escaped.ensures ∙ c.if-is_escaped.true)))

-- a match whose tag has no handler
pub returns-in_default-clause-work : goal.returns-in_default-clause-work
returns-in_default-clause-work c =
    shown_ends c.args.text.now c.args.state.now c.args.piece.now
    (Match c.in-Match.whole c.in-Match.name c.in-Match.atts c.in-Match.content c.in-Match.opening_extra c.in-Match.closing_extra) c.in-Match.is
    c.in-Match.whole
    (λ inv. piece_unhandled inv c.args.text.now c.args.state.now c.in-Match.whole c.in-Match.name c.in-Match.atts c.in-Match.content c.in-Match.opening_extra
    c.in-Match.closing_extra (sym c.is_escaped.ensures ∙ c.if-is_escaped.false)
    (rw c.text_at.ensures at (sym (none_of _ c.in_default.not-Some) ∙ c.handler.ensures.handler)))

-- a match with a handler
pub returns-in_ok-invoked-in-Match-clause-work : goal.returns-in_ok-invoked-in-Match-clause-work
returns-in_ok-invoked-in-Match-clause-work c =
    λ inv. rw c.in-Match.is (match_is inv c.args.text.now c.args.state.now c.in-Match.whole c.in-Match.name c.in-Match.atts c.in-Match.content
    c.in-Match.opening_extra c.in-Match.closing_extra (sym c.is_escaped.ensures ∙ c.if-is_escaped.false) c.in_ok-invoked-in-Match.invoked.callback
    (ap Some c.in_ok-invoked-in-Match.ensures.callback ∙ (rw c.text_at.ensures at (sym c.in-Some.is ∙ c.handler.ensures.handler)))
    c.in_ok-invoked-in-Match.invoked.call c.in_ok-invoked-in-Match.ensures.call)
