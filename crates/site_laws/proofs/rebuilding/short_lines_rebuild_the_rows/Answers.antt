use Rattle.site_laws.proofs.Rebuilt.{rows-rebuilt}
use Rattle.site_laws.proofs.rebuilding.short_lines_rebuild_the_rows.Goals as goal

pub returns : goal.returns
returns c engine calls limit rows lines stored utf8 history = rows-rebuilt engine calls limit rows lines stored utf8 history
