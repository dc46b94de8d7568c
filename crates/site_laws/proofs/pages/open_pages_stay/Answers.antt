use Rattle.site_program.proofs.Staying.{replies-stay}
use Rattle.site_laws.proofs.pages.open_pages_stay.Goals as goal

pub returns : goal.returns
returns c = λ engine calls old new lines out replied place page is_open alone. replies-stay place page engine calls old new lines out replied is_open alone
