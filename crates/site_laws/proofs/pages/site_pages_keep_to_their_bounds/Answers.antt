use Rattle.site_laws.proofs.Bounds.{begins, within_calls, within_depth, within_turns}
use Rattle.site_laws.proofs.pages.site_pages_keep_to_their_bounds.Goals as goal

pub returns-clause-begins : goal.returns-clause-begins
returns-clause-begins c = begins

pub returns-clause-calls : goal.returns-clause-calls
returns-clause-calls c = within_calls

pub returns-clause-depth : goal.returns-clause-depth
returns-clause-depth c = within_depth

pub returns-clause-turns : goal.returns-clause-turns
returns-clause-turns c = within_turns
