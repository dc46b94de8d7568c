use Rattle.std.proofs.Common.{arith, sym, subst}
use Rattle.std.specs.Prelude.{IsTrue}
use Rattle.sqlite.specs.Files.{file_state, over_files}
use Rattle.sqlite.specs.FileStore.{view}
use Rattle.sqlite.specs.State.{HasCleanDisk}
use Rattle.sqlite.specs.View.{IsClean}
use Rattle.sqlite_store.specs.Laws.{settled_at}
use Rattle.command_log.specs.Found.{FindsOnlySuch, IsFoundAgain}
use Rattle.command_log.specs.Lines.{MayHold}
use Rattle.command_log.proofs.Restart.{found_again, found_such}
use Rattle.command_log.proofs.log.CommandLog+FileStore+D.into_store.Goals as goal

pub returns-clause-found : goal.returns-clause-found
returns-clause-found g c =
    let h = c.args.self in
    let it = c.settled_store.ensures in
    subst (λ f. IsClean (view f) → FindsOnlySuch f (MayHold over_files h)) (sym c.new.ensures)
    (λ clean. let falls = it.quiet.clean in let early : HasCleanDisk (file_state h) = omega (arith, falls, clean) in
    found_such h c.settled_store.result (it.numbered clean) (it.sound clean) early it.quiet.outcomes)

pub returns-clause-again : goal.returns-clause-again
returns-clause-again g c =
    let h = c.args.self in
    let it = c.settled_store.ensures in
    subst (λ f. IsClean (view f) → IsFoundAgain h) (sym c.new.ensures)
    (λ clean. let numbered = subst IsTrue it.undone.numbered (it.numbered clean) in
    found_again h it.log it.live numbered (λ db up may. settled_at h.store g.met.D.Disk.seen_may_stay db up may))
