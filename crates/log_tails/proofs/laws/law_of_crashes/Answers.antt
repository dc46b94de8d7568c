use Rattle.log_tails.proofs.Leaving.{sound_log, shut_log, torn_log}
use Rattle.log_tails.proofs.laws.law_of_crashes.Goals as goal

pub returns-clause-sound : goal.returns-clause-sound
returns-clause-sound c = sound_log

pub returns-clause-shut : goal.returns-clause-shut
returns-clause-shut c = shut_log

pub returns-clause-torn : goal.returns-clause-torn
returns-clause-torn c = torn_log
