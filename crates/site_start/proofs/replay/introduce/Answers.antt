use Rattle.std.proofs.Common.{rules, inr, refl, subst₂, ◌≡◌}
use Rattle.site_replies.specs.Reply.{reply_data, refused}
use Rattle.site_serving.specs.Served.{IsCarriedOut}
use Rattle.site_start.proofs.Stopping.{same_refusal}
use Rattle.site_start.proofs.replay.introduce.Goals as goal

pub returns-in-Refused-clause-cause : goal.returns-in-Refused-clause-cause
returns-in-Refused-clause-cause g c =
    let fixed = g.C.Commands.fixed c.args.site.now in
    let old = g.C.Commands.state c.args.site.now in
    let after = g.C.Commands.state c.carry_out.new.self in
    let did = c.carry_out.ensures in
    let same : c.args.line.now ≡ c.args.identity.now = search rules in
    inr (
      same,
      record {
        reply = refused c.in-Refused.refusal;
        after = after;
        replied = subst₂ (λ text r. g.C.Commands.replies fixed old text (reply_data r) after) c.as_bytes.ensures.value c.in-Refused.is did.replies;
        meant = subst₂ (λ text r. IsCarriedOut (reply_data r) → (after, reply_data r) ≡ g.C.Commands.steps fixed old text) c.as_bytes.ensures.value c.in-Refused.is
            did.carried;
        other = λ e. c.in_default-refusal.not-BadCommand (same_refusal c.in-Refused.refusal e);
        told = c.refused.ensures.told 1 (λ low. refl);
      },
    )
