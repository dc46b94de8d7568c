use Rattle.std.proofs.Common.{None}
use Rattle.site_program.specs.State.{empty_site}
use Rattle.site_laws.proofs.FurtherPlugins.{replies-same, request-same, through-same}
use Rattle.site_laws.proofs.Kept.{empty_stored}
use Rattle.site_laws.proofs.further.further_plugins_have_no_say.Goals as goal

pub returns-clause-request : goal.returns-clause-request
returns-clause-request c further one other calls rows path adds apart = request-same further one other adds calls rows path apart

pub returns-clause-lines : goal.returns-clause-lines
returns-clause-lines c further one other calls lines adds named =
    through-same further one other adds calls empty_site lines (empty_stored one calls None) named

pub returns-clause-replies : goal.returns-clause-replies
returns-clause-replies c further one other calls replied alike new after adds served also lines named out out' =
    replies-same further one other adds calls replied alike new after served also lines named out out'
