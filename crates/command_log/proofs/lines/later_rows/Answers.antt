use Rattle.std.proofs.Common.{[], ◌∷◌, ℤ, w64, subst₂}
use Rattle.std.proofs.lemmas.Int.{to_z-of_z}
use Rattle.sqlite_value.specs.declared.value.Value.TheVariants.{Int}
use Rattle.command_log.proofs.Texts.{later_text}
use Rattle.command_log.proofs.QuerySteps.{later_failed, reads_later_rows}
use Rattle.command_log.proofs.Statements.{IsAsked, asked}
use Rattle.command_log.proofs.lines.later_rows.Goals as goal

pub returns : goal.returns
returns g c =
    let old = c.args.tx.now in
    let new = c.query_all.new.self in
    let number = c.args.number in
    let limit = c.args.limit in
    let r = c.query_all.result in
    let given : IsAsked g.S.Store old new later_text _ r = record { ok = c.query_all.ensures.ok; err = c.query_all.ensures.err } in
    let it = subst₂ (λ (n k : ℤ). IsAsked g.S.Store old new later_text (Int n ∷ Int k ∷ []) r) (to_z-of_z w64 number c.ranges.number)
    (to_z-of_z w64 limit c.ranges.limit) (rw (c.params-to_sql.ensures, c.params-to_sql-2.ensures) at given) in
    asked g.S.Store old new c.requires c.query_all.ensures.same_reference c.query_all.ensures.survives later_text (Int number ∷ Int limit ∷ []) r it
    (λ inside. reads_later_rows g.S.Store old.conn.now new.conn.now inside c.requires.holds number limit r)
    (λ inside up. later_failed g.S.Store old.conn.now new.conn.now inside up (c.requires.holds up) number limit r)
