use Rattle.std.proofs.Common.{◌≡◌, ◌++◌, false, length, List}
use Rattle.site_serving.specs.Lines.{lines_of}
use Rattle.site_serving.specs.Served.{Replied, lines_in, written_for}
use Rattle.site_http.specs.Pages.{Follows}
use Rattle.site_http.proofs.site_pages.SitePagesPages.carry_out.Given as goal

-- the lines before what is left were carried out, and their replies appended
abbrev pub invariant-loop-end : goal.invariant-loop-end
invariant-loop-end g l = record {
  done : List Replied;
  follows : Follows g.C.Commands done l.fn.self l.self;
  whole : lines_of l.fn.lines ≡ lines_in done ++ lines_of l.rest;
  bytes : l.replies.bytes.items ≡ written_for done;
  sound : l.replies.has_failed ≡ false;
}

abbrev pub decreases-loop-end : goal.decreases-loop-end
decreases-loop-end g l = length l.rest
