use Rattle.std.proofs.Common.{◌≡◌, ◌∙◌, ap, sym}
use Rattle.site_replies.specs.Reply.{page, reply_data}
use Rattle.site_serving.proofs.Kept.{kept-after_put, repeats-as}
use Rattle.site_serving.proofs.pages.KeptPages.keep.Goals as goal

pub invariant_of-self : goal.invariant_of-self
invariant_of-self g c =
    let reply : page c.in-Page.status c.in-Ok-clone.body ≡ reply_data c.args.reply.now =
    ap (page c.in-Page.status) c.in-Ok-clone.ensures.cases ∙ sym (ap reply_data c.in-Page.is) in
    kept-after_put g.C.Commands c.self.inside.commands c.push.result c.push.new.self c.self.inside.pages c.in-Ok.key _ c.self.invariant
    (repeats-as g.C.Commands c.args.self.now c.self.inside.commands c.args.line.now c.in-Ok.key.items _ _ (cc) (c.in-Ok.ensures.items) reply c.requires)
    c.push.ensures.entries c.push.ensures.err

pub invariant_of-self-in_default-dropped : goal.invariant_of-self-in_default-dropped
invariant_of-self-in_default-dropped g c =
    let reply : page c.in-Page.status c.in-Ok-clone.body ≡ reply_data c.args.reply.now =
    ap (page c.in-Page.status) c.in-Ok-clone.ensures.cases ∙ sym (ap reply_data c.in-Page.is) in
    kept-after_put g.C.Commands c.self.inside.commands c.push.result c.push.new.self c.self.inside.pages c.in-Ok.key _ c.self.invariant
    (repeats-as g.C.Commands c.args.self.now c.self.inside.commands c.args.line.now c.in-Ok.key.items _ _ (cc) (c.in-Ok.ensures.items) reply c.requires)
    c.push.ensures.entries c.push.ensures.err
