use Rattle.std.proofs.Common.{arith}
use Rattle.bundled_plugins.specs.Replies.{says}
use Rattle.bundled_plugins.proofs.Tables.{rows_say, a_row}
use Rattle.bundled_plugins.proofs.replies.bundled_reply.Goals as goal

pub returns-in_default : goal.returns-in_default
unfolding says
returns-in_default c =
    let same =
    rows_say c.plain_rows.result.now c.plain_rows.ensures.stated c.number.result c.args.call.now
    (a_row c.number.result (omega arith) (omega arith) (omega arith) (omega arith) (omega arith) (omega arith) (omega arith))
    in
    rw (← c.number.ensures, ← same, c.row_of.ensures c.args.call.now) c.reply_of.ensures
