use Rattle.std.proofs.Common.{refl}
use Rattle.example_pages.proofs.WorkedPages.{first_line, first_opened, first_page, first_page_bytes, missing_page, three_calls, two_calls}
use Rattle.example_pages.proofs.worked_pages.Goals as goal

pub returns : goal.returns
returns c = record {
  line = first_line;
  opens = first_opened;
  turns = refl;
  more = refl;
  last = refl;
  all = refl;
  first = first_page;
  bytes = first_page_bytes;
  missing = missing_page;
  enough = three_calls;
  too_few = two_calls;
}
