use Rattle.site_laws.proofs.Kept.{rows-again}
use Rattle.site_laws.proofs.rebuilding.short_lines_make_the_same_rows.Goals as goal

pub returns : goal.returns
returns c engine calls limit lines short utf8 history = rows-again engine calls limit lines short utf8 history
