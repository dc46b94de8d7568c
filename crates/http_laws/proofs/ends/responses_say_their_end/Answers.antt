use Rattle.http_laws.proofs.Ended.{commands-end, fault-ends, reply-ends}
use Rattle.http_laws.proofs.ends.responses_say_their_end.Goals as goal

pub returns-clause-page : goal.returns-clause-page
returns-clause-page c = reply-ends

pub returns-clause-commands : goal.returns-clause-commands
returns-clause-commands c = commands-end

pub returns-clause-refusal : goal.returns-clause-refusal
returns-clause-refusal c = fault-ends
