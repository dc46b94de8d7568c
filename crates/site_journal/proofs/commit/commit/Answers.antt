use Rattle.std.proofs.Common.{map, subst}
use Rattle.std.specs.String.{string_bytes}
use Rattle.sqlite.specs.Held.{state}
use Rattle.sqlite.specs.State.{Survives}
use Rattle.command_log.specs.Lines.{IsAppended}
use Rattle.site_journal.proofs.Committing.{held_after}
use Rattle.site_journal.proofs.commit.commit.Goals as goal

pub returns-in_err-append-clause-commits : goal.returns-in_err-append-clause-commits
returns-in_err-append-clause-commits g c =
    let old = c.args.log.now in
    let new = c.append.new.self in
    held_after g.S.Store old new (map string_bytes c.args.lines.now.items)
    (subst (λ lines. Survives (state g.S.Store old) (state g.S.Store new) (IsAppended g.S.Store old (map string_bytes lines))) c.deref.ensures.value
    c.append.ensures.survives)

pub returns-clause-commits : goal.returns-clause-commits
returns-clause-commits g c =
    let old = c.args.log.now in
    let new = c.append.new.self in
    held_after g.S.Store old new (map string_bytes c.args.lines.now.items)
    (subst (λ lines. Survives (state g.S.Store old) (state g.S.Store new) (IsAppended g.S.Store old (map string_bytes lines))) c.deref.ensures.value
    c.append.ensures.survives)
