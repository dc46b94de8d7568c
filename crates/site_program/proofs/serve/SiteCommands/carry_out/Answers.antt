use Rattle.site_replies.specs.Reply.{reply_data}
use Rattle.site_program.specs.Site.{engine_of, calls_of, seen_by}
use Rattle.site_program.proofs.Looks.{look_same}
use Rattle.site_program.proofs.serve.SiteCommands.carry_out.Goals as goal

pub returns-clause-look : goal.returns-clause-look
returns-clause-look g c =
    let setup = c.args.self.now.setup in
    let seen = seen_by g.S.Stated.says g.S.Stated.number setup in
    λ looks. look_same (engine_of g.S.Stated.says g.S.Stated.number setup) (calls_of setup) (seen c.args.self.now.state) (seen c.command.new.state)
    c.args.line.now (reply_data c.command.result.reply) (c.command.ensures.look looks) c.command.ensures.replies
