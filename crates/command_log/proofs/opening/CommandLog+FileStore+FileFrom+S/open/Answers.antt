use Rattle.std.proofs.Common.{ℕ, ◌≡◌, Bool, cond, List, IfOk, ap₂, subst}
use Rattle.sqlite_disk.specs.Events.{Event, replay}
use Rattle.sqlite.specs.Recovery.{Image}
use Rattle.sqlite.specs.Files.{over_files}
use Rattle.command_log.specs.Lines.{IsOpen, lines_of}
use Rattle.command_log.specs.Found.{FindsLines, ReadsLines, ReachesFile, RefusesOther, IsCutShort}
use Rattle.command_log.proofs.opening.CommandLog+FileStore+FileFrom+S.open.Goals as goal

abbrev image : List ℕ → List ℕ → Image
image log db = record { log = log; db = db }

abbrev seen : List ℕ → List ℕ → Bool → List Event → List ℕ
seen log db is_log history = (replay (cond is_log log db) history).seen

pub returns-clause-found : goal.returns-clause-found
returns-clause-found g c =
    let (log, db) = c.in_ok-files.ensures.fresh in
    let same = ap₂ image (ap₂ (seen g.S.Start.log g.S.Start.db) log.0 log.1) (ap₂ (seen g.S.Start.log g.S.Start.db) db.0 db.1) in
    subst (λ i. IfOk c.open_files.result (λ log. IsOpen over_files log → FindsLines i (lines_of over_files log))) same c.open_files.ensures.found

pub returns-clause-read : goal.returns-clause-read
returns-clause-read g c =
    let (log, db) = c.in_ok-files.ensures.fresh in
    let same = ap₂ image (ap₂ (seen g.S.Start.log g.S.Start.db) log.0 log.1) (ap₂ (seen g.S.Start.log g.S.Start.db) db.0 db.1) in
    subst (λ i. IfOk c.open_files.result (λ log. IsOpen over_files log → ReadsLines i (lines_of over_files log))) same c.open_files.ensures.read

pub returns-clause-newest : goal.returns-clause-newest
returns-clause-newest g c =
    let (log, db) = c.in_ok-files.ensures.fresh in
    let same = ap₂ image (ap₂ (seen g.S.Start.log g.S.Start.db) log.0 log.1) (ap₂ (seen g.S.Start.log g.S.Start.db) db.0 db.1) in
    subst (λ i. IfOk c.open_files.result (λ log. IsOpen over_files log → ReachesFile i log)) same c.open_files.ensures.newest

pub returns-clause-cut : goal.returns-clause-cut
returns-clause-cut g c =
    let (log, db) = c.in_ok-files.ensures.fresh in
    let same = ap₂ image (ap₂ (seen g.S.Start.log g.S.Start.db) log.0 log.1) (ap₂ (seen g.S.Start.log g.S.Start.db) db.0 db.1) in
    subst (λ i. IsCutShort i c.open_files.result) same c.open_files.ensures.cut

pub returns-clause-other : goal.returns-clause-other
returns-clause-other g c =
    let (log, db) = c.in_ok-files.ensures.fresh in
    let same = ap₂ image (ap₂ (seen g.S.Start.log g.S.Start.db) log.0 log.1) (ap₂ (seen g.S.Start.log g.S.Start.db) db.0 db.1) in
    subst (λ i. RefusesOther i c.open_files.result) same c.open_files.ensures.other
