use Rattle.std.proofs.Common.{Some}
use Rattle.site_commands.specs.Asked.{asked_by}
use Rattle.site_replies.specs.Reply.{reply_data}
use Rattle.site_program.specs.Site.{engine_of, calls_of, seen_by}
use Rattle.site_program.proofs.Limits.{limit-stays}
use Rattle.site_program.proofs.Refusals.{carried_out-refused}
use Rattle.site_program.proofs.setup.Setup.command.Goals as goal

pub returns-after-edits-clause-refused : goal.returns-after-edits-clause-refused
returns-after-edits-clause-refused g c =
    let seen = seen_by g.S.Stated.says g.S.Stated.number c.args.self.now in
    λ r is. carried_out-refused (engine_of g.S.Stated.says g.S.Stated.number c.args.self.now) (calls_of c.args.self.now) (seen c.args.state.now)
    (seen c.carry_out.new.state) (Some (asked_by c.in-Some.command)) (reply_data c.in-Ok-carry_out.reply) r
    c.in-Ok-carry_out.ensures.carried.ok is

pub returns-after-edits-clause-limit : goal.returns-after-edits-clause-limit
returns-after-edits-clause-limit g c =
    let seen = seen_by g.S.Stated.says g.S.Stated.number c.args.self.now in
    limit-stays (engine_of g.S.Stated.says g.S.Stated.number c.args.self.now) (calls_of c.args.self.now) (seen c.args.state.now)
    (seen c.carry_out.new.state) (Some (asked_by c.in-Some.command)) (reply_data c.in-Ok-carry_out.reply)
    c.in-Ok-carry_out.ensures.carried.ok
