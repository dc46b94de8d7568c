use Rattle.log_tails.proofs.Leaving.{changed_log, cut_log}
use Rattle.log_tails.proofs.laws.law_of_damage.Goals as goal

pub returns-clause-changed : goal.returns-clause-changed
returns-clause-changed c = changed_log

pub returns-clause-cut : goal.returns-clause-cut
returns-clause-cut c = cut_log
