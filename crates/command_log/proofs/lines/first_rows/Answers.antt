use Rattle.std.proofs.Common.{[], ◌∷◌, ℤ, w64, subst}
use Rattle.std.proofs.lemmas.Int.{to_z-of_z}
use Rattle.sqlite_value.specs.declared.value.Value.TheVariants.{Int}
use Rattle.command_log.proofs.Texts.{first_text}
use Rattle.command_log.proofs.QuerySteps.{first_failed, reads_first_rows}
use Rattle.command_log.proofs.Statements.{IsAsked, asked}
use Rattle.command_log.proofs.lines.first_rows.Goals as goal

pub returns : goal.returns
returns g c =
    let old = c.args.tx.now in
    let new = c.query_all.new.self in
    let limit = c.args.limit in
    let r = c.query_all.result in
    let given : IsAsked g.S.Store old new first_text _ r = record { ok = c.query_all.ensures.ok; err = c.query_all.ensures.err } in
    let it = subst (λ (k : ℤ). IsAsked g.S.Store old new first_text (Int k ∷ []) r) (to_z-of_z w64 limit c.ranges.limit)
    (rw c.params-to_sql.ensures at given) in
    asked g.S.Store old new c.requires c.query_all.ensures.same_reference c.query_all.ensures.survives first_text (Int limit ∷ []) r it
    (λ inside. reads_first_rows g.S.Store old.conn.now new.conn.now inside c.requires.holds limit r)
    (λ inside up. first_failed g.S.Store old.conn.now new.conn.now inside up (c.requires.holds up) limit r)
