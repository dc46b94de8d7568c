use Rattle.std.proofs.Common.{ap}
use Rattle.hook_changes.specs.declared.reply.Answer.TheVariants as answer
use Rattle.hook_machine.specs.Outcomes.{engine_over}
use Rattle.hook_machine.proofs.Moving.{did_moves, doing_moves, tag_moves, option_moves, has_moves, current_moves}
use Rattle.hook_machine.proofs.run.asks.ask_turn.Goals as goal

pub returns-in-Did-clause-moves : goal.returns-in-Did-clause-moves
returns-in-Did-clause-moves g c =
    rw c.in-Did.is (did_moves (engine_over g.S.Stated.says g.S.Stated.number c.args.plugins.now) c.args.state.now c.args.invoked.callback
    c.args.invoked.call c.in-Did.hook
    c.as_str.result.now c.did-answer.result c.args.stack.now c.as_str.ensures c.did-answer.ensures _ _ _ c.invoke_again.ensures.moves)

pub returns-in_ok-answer-in-Current-clause-moves : goal.returns-in_ok-answer-in-Current-clause-moves
returns-in_ok-answer-in-Current-clause-moves g c =
    rw c.in-Current.is (current_moves (engine_over g.S.Stated.says g.S.Stated.number c.args.plugins.now) c.args.state.now c.args.invoked.callback
    c.args.invoked.call
    c.in_ok-answer-in-Current.answer c.args.stack.now c.in_ok-answer-in-Current.ensures _ _ _ c.invoke_again-in-Current.ensures.moves)

pub returns-in-Doing-clause-moves : goal.returns-in-Doing-clause-moves
returns-in-Doing-clause-moves g c =
    rw c.in-Doing.is (doing_moves (engine_over g.S.Stated.says g.S.Stated.number c.args.plugins.now) c.args.state.now c.args.invoked.callback
    c.args.invoked.call
    c.in-Doing.hook c.as_str-in-Doing.result.now (answer.Flag c.doing.result) c.args.stack.now c.as_str-in-Doing.ensures (ap answer.Flag c.doing.ensures)
    _ _ _ c.invoke_again-in-Doing.ensures.moves)

pub returns-in-Has-clause-moves : goal.returns-in-Has-clause-moves
returns-in-Has-clause-moves g c =
    rw c.in-Has.is (has_moves (engine_over g.S.Stated.says g.S.Stated.number c.args.plugins.now) c.args.state.now c.args.invoked.callback
    c.args.invoked.call c.in-Has.hook
    c.as_str-in-Has.result.now c.in-Has.other c.has-answer.result c.args.stack.now c.as_str-in-Has.ensures c.has-answer.ensures _ _ _
    c.invoke_again-in-Has.ensures.moves)

pub returns-in-TagExists-clause-moves : goal.returns-in-TagExists-clause-moves
returns-in-TagExists-clause-moves g c =
    rw c.in-TagExists.is (tag_moves (engine_over g.S.Stated.says g.S.Stated.number c.args.plugins.now) c.args.state.now c.args.invoked.callback
    c.args.invoked.call
    c.in-TagExists.tag c.as_str-in-TagExists.result.now (answer.Flag c.tag_exists.result) c.args.stack.now c.as_str-in-TagExists.ensures
    (ap answer.Flag c.tag_exists.ensures) _ _ _ c.invoke_again-in-TagExists.ensures.moves)

pub returns-in_ok-answer-in-GetOption-clause-moves : goal.returns-in_ok-answer-in-GetOption-clause-moves
returns-in_ok-answer-in-GetOption-clause-moves g c =
    rw c.in-GetOption.is (option_moves (engine_over g.S.Stated.says g.S.Stated.number c.args.plugins.now) c.args.state.now c.args.invoked.callback
    c.args.invoked.call
    c.in-GetOption.name c.as_str-in-GetOption.result.now c.in_ok-answer-in-GetOption.answer c.args.stack.now c.as_str-in-GetOption.ensures
    c.in_ok-answer-in-GetOption.ensures _ _ _ c.invoke_again-in-GetOption.ensures.moves)
