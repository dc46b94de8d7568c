use Rattle.std.proofs.Common.{[], ◌∷◌, sym, ap, subst}
use Rattle.sqlite.specs.Order.{Row}
use Rattle.sqlite.specs.Held.{state}
use Rattle.sqlite.specs.State.{ExecutesInside}
use Rattle.sqlite_value.specs.declared.value.Value.TheVariants.{Text, Blob}
use Rattle.command_log.proofs.Texts.{insert_text}
use Rattle.command_log.proofs.Putting.{puts_line, put_failed}
use Rattle.command_log.proofs.Statements.{executed}
use Rattle.command_log.proofs.lines.put_sealed.Goals as goal

pub returns : goal.returns
returns g c before is =
    let old = c.args.tx.now in
    let new = c.execute.new.self in
    let line = c.args.line.now in
    let digest = c.args.digest.now in
    executed g.S.Store old new c.requires.inside c.execute.ensures.same_reference c.execute.ensures.survives insert_text (Text line ∷ Blob digest ∷ [])
    c.execute.result (rw (c.params-to_sql.ensures, c.params-to_sql-2.ensures) at c.execute.ensures.runs)
    (λ runs. puts_line g.S.Store old.conn.now new.conn.now line before c.requires.inside.holds c.execute.result
    (subst (λ d. ExecutesInside 0 insert_text (Text line ∷ Blob d ∷ []) (state g.S.Store old.conn.now) (state g.S.Store new.conn.now) c.execute.result) is runs))
    (λ up. put_failed g.S.Store old.conn.now new.conn.now line digest c.requires.digest up (c.requires.inside.holds up) c.execute.result)
