use Rattle.std.proofs.Common.{[], ◌∷◌, ℤ, w64, subst}
use Rattle.std.specs.Prelude.{IsTrue}
use Rattle.std.proofs.lemmas.Int.{to_z-of_z}
use Rattle.sqlite.specs.Held.{state}
use Rattle.sqlite.specs.State.{ExecutesInside, HasCleanDisk}
use Rattle.sqlite_value.specs.declared.value.Value.TheVariants.{Int, Text, Blob}
use Rattle.command_log.proofs.Texts.{insert_at_text}
use Rattle.command_log.proofs.Putting.{fits, puts_at, put_at_failed}
use Rattle.command_log.proofs.Statements.{executed}
use Rattle.command_log.proofs.lines.put_sealed_at.Goals as goal

pub returns : goal.returns
returns g c before is =
    let old = c.args.tx.now in
    let new = c.execute.new.self in
    let number = c.args.number in
    let line = c.args.line.now in
    let digest = c.args.digest.now in
    let r = c.execute.result in
    let runs = subst (λ (n : ℤ). HasCleanDisk (state g.S.Store new.conn.now) → IsTrue old.conn.now.in_transaction → ExecutesInside 0 insert_at_text (Int n ∷ Text line ∷ Blob digest ∷ []) (state g.S.Store old.conn.now) (state g.S.Store new.conn.now) r)
    (to_z-of_z w64 number c.ranges.number)
    (rw (c.params-to_sql.ensures, c.params-to_sql-2.ensures, c.params-to_sql-3.ensures) at c.execute.ensures.runs) in
    executed g.S.Store old new c.requires.inside c.execute.ensures.same_reference c.execute.ensures.survives insert_at_text (Int number ∷ Text line ∷ Blob digest ∷ [])
    r runs
    (λ done. puts_at g.S.Store old.conn.now new.conn.now number line before c.requires.inside.holds c.requires.none r
    (subst (λ d. ExecutesInside 0 insert_at_text (Int number ∷ Text line ∷ Blob d ∷ []) (state g.S.Store old.conn.now) (state g.S.Store new.conn.now) r) is done))
    (λ up. put_at_failed g.S.Store old.conn.now new.conn.now line digest c.requires.digest up (c.requires.inside.holds up) number (fits number c.ranges.number) (c.requires.none up) r)
