use Rattle.std.proofs.Common.{None, [], ◌∷◌, codes, refl, false, true}
use Rattle.site_program.specs.State.{empty_site}
use Rattle.site_laws.specs.Further.{AddsTo, program}
use Rattle.site_laws.proofs.FurtherPlugins.{request-same, through-same}
use Rattle.site_laws.proofs.Kept.{empty_stored}
use Rattle.site_laws.proofs.further.snippets_have_no_say.Goals as goal

adds : AddsTo (codes "snippets" ∷ []) (program false) (program true)
adds = record { plugins = refl; replies = λ callback call held. refl }

pub returns-clause-request : goal.returns-clause-request
returns-clause-request c calls rows path apart = request-same _ _ _ adds calls rows path apart

pub returns-clause-lines : goal.returns-clause-lines
returns-clause-lines c calls lines named = through-same _ _ _ adds calls empty_site lines (empty_stored (program false) calls None) named
