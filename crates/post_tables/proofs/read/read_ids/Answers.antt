use Rattle.std.proofs.Common.{sym, subst}
use Rattle.std.proofs.lemmas.List.Elements.{All-get_or}
use Rattle.sqlite_value.specs.Order.{Row, column}
use Rattle.post_tables.specs.Reading.{IsId}
use Rattle.post_tables.proofs.read.read_ids.Goals as goal

pub read_id-requires : goal.read_id-requires
read_id-requires c =
    let row : Row = c.row-item.result in
    subst (λ (r : Row). IsId (column r 0)) (sym c.row-item.is) (All-get_or (λ (r : Row). IsId (column r 0)) c.args.rows.now c.loop-row.row-index row
    c.loop-row-test.true c.requires)
