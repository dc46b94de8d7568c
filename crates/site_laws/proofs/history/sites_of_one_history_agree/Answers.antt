use Rattle.site_laws.proofs.Histories.{rows-agree, page-agrees}
use Rattle.site_laws.proofs.history.sites_of_one_history_agree.Goals as goal

pub returns-clause-rows : goal.returns-clause-rows
returns-clause-rows c = rows-agree

pub returns-clause-pages : goal.returns-clause-pages
returns-clause-pages c = λ engine calls limit one two first second served also same line path is.
    page-agrees engine calls limit one two line path (rows-agree engine calls limit one two first second served also same) is
