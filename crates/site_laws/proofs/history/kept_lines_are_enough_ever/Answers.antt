use Rattle.site_serving.proofs.Histories.{history-append, Serves-split}
use Rattle.site_laws.proofs.Histories.{rows-rebuilt, length-history}
use Rattle.site_laws.proofs.history.kept_lines_are_enough_ever.Goals as goal

pub returns-clause-rows : goal.returns-clause-rows
returns-clause-rows c = λ engine calls limit new before after served.
    let cut = Serves-split _ _ new before after served in
    (cut.0, cut.1, cut.2, rows-rebuilt engine calls limit cut.0 before cut.1)

pub returns-clause-grows : goal.returns-clause-grows
returns-clause-grows c = history-append _

pub returns-clause-short : goal.returns-clause-short
returns-clause-short c = length-history
