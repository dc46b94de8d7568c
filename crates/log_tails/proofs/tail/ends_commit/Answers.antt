use Rattle.log_tails.proofs.Reading.{is_some}
use Rattle.log_tails.proofs.tail.ends_commit.Goals as goal

pub returns-clause-ends : goal.returns-clause-ends
returns-clause-ends g c clean = is_some _ _ (c.in_ok-pages_of.ensures.pages clean)
