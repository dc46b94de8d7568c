use Rattle.std.proofs.Common.{rules}
use Rattle.site_edits.specs.Edits.{put}
use Rattle.site_edits.proofs.edits.put.Goals as goal

pub returns-then-title-gt-MAX_TITLE : goal.returns-then-title-gt-MAX_TITLE
unfolding put
returns-then-title-gt-MAX_TITLE c = search rules
