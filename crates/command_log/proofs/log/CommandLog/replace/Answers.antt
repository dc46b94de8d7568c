use Rattle.std.proofs.Common.{ap, sym, ◌∙◌}
use Rattle.command_log.specs.Digests.{digest_of}
use Rattle.command_log.proofs.log.CommandLog.replace.Goals as goal

pub invariant_of-self : goal.invariant_of-self
invariant_of-self g c =
    let it = c.in_err-replace_all.ensures in
    (it.log, λ up. c.self.invariant.1 (it.shut up) ∙ ap digest_of (sym (it.err up)))
