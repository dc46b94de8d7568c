use Rattle.site_laws.proofs.LogAndSite.{served-rows, rows-of-front}
use Rattle.site_laws.proofs.log_law.the_log_is_the_site.Goals as goal

pub returns-clause-served : goal.returns-clause-served
returns-clause-served c = served-rows

pub returns-clause-left : goal.returns-clause-left
returns-clause-left c = rows-of-front
