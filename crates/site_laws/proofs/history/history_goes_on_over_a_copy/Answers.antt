use Rattle.site_laws.proofs.Histories.{history-rebuilds}
use Rattle.site_laws.proofs.history.history_goes_on_over_a_copy.Goals as goal

pub returns-clause-rows : goal.returns-clause-rows
returns-clause-rows c = λ engine calls limit old new copy replied served same. (history-rebuilds engine calls limit old new copy replied served same).0

pub returns-clause-replies : goal.returns-clause-replies
returns-clause-replies c = λ engine calls limit old new copy replied served same. (history-rebuilds engine calls limit old new copy replied served same).1
