use Rattle.std.proofs.Common.{None, refl}
use Rattle.site_laws.proofs.Histories.{page-agrees}
use Rattle.site_laws.proofs.OtherPrograms.{edits-agree, rows-agree-too}
use Rattle.site_laws.proofs.programs.sites_given_the_same_edits_agree.Goals as goal

pub returns-clause-rows : goal.returns-clause-rows
returns-clause-rows c = λ one other calls more first second new after replied also same.
    rows-agree-too one other same calls more first second new after replied also

pub returns-clause-replies : goal.returns-clause-replies
returns-clause-replies c = λ one other calls more first second new after replied also same.
    edits-agree one other same calls more first second new after replied also

pub returns-clause-pages : goal.returns-clause-pages
returns-clause-pages c = λ engine calls first second new after replied also given line path is.
    page-agrees engine calls None new after line path
    (rows-agree-too engine engine refl calls calls first second new after replied also given) is
