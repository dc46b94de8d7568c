use Rattle.std.proofs.Common.{subst₂, ◌≡◌}
use Rattle.site_replies.specs.Reply.{reply_data, refused}
use Rattle.site_serving.specs.Served.{IsCarriedOut}
use Rattle.site_start.proofs.replay.redo.Goals as goal

-- a refusal is another reply than to an edit that was done
pub returns-in-Refused-clause-cause : goal.returns-in-Refused-clause-cause
returns-in-Refused-clause-cause g c = λ n is.
    let fixed = g.C.Commands.fixed c.args.site.now in
    let old = g.C.Commands.state c.args.site.now in
    let after = g.C.Commands.state c.carry_out-replied.new.self in
    let did = c.carry_out-replied.ensures in
    record {
      reply = refused c.in-Refused.refusal;
      after = after;
      replied = subst₂ (λ text r. g.C.Commands.replies fixed old text (reply_data r) after) c.as_bytes.ensures.value c.in-Refused.is did.replies;
      meant = subst₂ (λ text r. IsCarriedOut (reply_data r) → (after, reply_data r) ≡ g.C.Commands.steps fixed old text) c.as_bytes.ensures.value c.in-Refused.is
          did.carried;
      other = λ h. h.0;
      told = c.refused.ensures.told n is;
    }
