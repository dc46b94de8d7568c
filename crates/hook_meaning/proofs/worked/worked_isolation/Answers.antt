use Rattle.hook_meaning.proofs.TwoBundles as pair
use Rattle.hook_meaning.proofs.worked.worked_isolation.Goals as goal

pub returns-clause-agree : goal.returns-clause-agree
returns-clause-agree c = pair.agree

pub returns-clause-apart : goal.returns-clause-apart
returns-clause-apart c = pair.apart

pub returns-clause-alone : goal.returns-clause-alone
returns-clause-alone c = pair.alone

pub returns-clause-alone_too : goal.returns-clause-alone_too
returns-clause-alone_too c = pair.alone_too

pub returns-clause-both : goal.returns-clause-both
returns-clause-both c = pair.both

pub returns-clause-both_too : goal.returns-clause-both_too
returns-clause-both_too c = pair.both_too
