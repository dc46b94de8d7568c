use Rattle.std.proofs.Common.{take}
use Rattle.std.specs.String.{string_bytes}
use Rattle.site_export.proofs.Texts.{one_more}
use Rattle.site_export.proofs.Batches.{first_alone, one_line}
use Rattle.site_export.proofs.posts.push_some.Goals as goal

pub returns-then-count-eq0-clause-lines : goal.returns-then-count-eq0-clause-lines
returns-then-count-eq0-clause-lines c =
    first_alone c.args.posts.now c.index-posts-0.result _ _ c.requires c.index-posts-0.is
    (c.fitting-count.ensures.none c.if-count-eq0.true) c.in_ok-push_apart.ensures

pub returns-clause-lines : goal.returns-clause-lines
returns-clause-lines c = one_line (take c.fitting-count.result c.args.posts.now) _ _ c.fitting-count.ensures.fits
    (one_more string_bytes _ _ _ _ c.in_ok-push.ensures.items c.in_ok-import_line.ensures)
