use Rattle.site_laws.proofs.Kept.{rows-stored}
use Rattle.site_laws.proofs.rebuilding.rows_are_stored.Goals as goal

pub returns : goal.returns
returns c engine calls limit lines = rows-stored engine calls limit lines
