use Rattle.std.proofs.Common.{◌∙◌, ap, rules}
use Rattle.command_log.specs.Digests.{digest_of}
use Rattle.command_log.specs.Lines.{lines_in}
use Rattle.site_tasks.proofs.summary.summary_of.Goals as goal

pub returns-clause-digest : goal.returns-clause-digest
returns-clause-digest g c = λ clean.
    let read = c.in_ok-lines.ensures in
    c.digest.ensures (read.opened clean) ∙ ap (λ d. digest_of (lines_in d.trees)) (read.same clean)
