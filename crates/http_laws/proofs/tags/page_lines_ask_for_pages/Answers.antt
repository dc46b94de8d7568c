use Rattle.http_laws.proofs.Unedited.{page-is}
use Rattle.http_laws.proofs.tags.page_lines_ask_for_pages.Goals as goal

pub returns : goal.returns
returns c = page-is
