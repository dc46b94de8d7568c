use Rattle.std.proofs.Common.{ap, length}
use Rattle.hook_meaning.specs.Trace.{turns_of}
use Rattle.site_laws.proofs.Isolation.{page-same, requested-same, request-same}
use Rattle.site_laws.proofs.pages.inactive_plugins_have_no_say.Goals as goal

pub returns-clause-request : goal.returns-clause-request
returns-clause-request g c calls rows path agree = request-same _ _ calls rows path agree

pub returns-clause-invocations : goal.returns-clause-invocations
returns-clause-invocations g c calls rows path agree = ap (λ work. length (turns_of work)) (page-same _ _ calls _ _ _ _ agree)

pub returns-clause-requested : goal.returns-clause-requested
returns-clause-requested g c calls rows path agree = requested-same _ _ calls rows path agree
