use Rattle.site_laws.proofs.Histories.{rows-rebuilt, replies-rebuilt}
use Rattle.site_laws.proofs.history.history_rebuilds_the_site.Goals as goal

pub returns-clause-rows : goal.returns-clause-rows
returns-clause-rows c = rows-rebuilt

pub returns-clause-replies : goal.returns-clause-replies
returns-clause-replies c = replies-rebuilt
