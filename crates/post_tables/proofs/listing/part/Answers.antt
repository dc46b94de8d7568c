use Rattle.std.proofs.Common.{◌≤◌, ◌^◌, ◌∙◌, sym, arith}
use Rattle.post_tables.proofs.Beyond.{beyond}
use Rattle.post_tables.proofs.listing.part.Goals as goal

pub returns-in_default-clause-posts : goal.returns-in_default-clause-posts
returns-in_default-clause-posts c =
    let far : 2 ^ 32 ≤ c.args.offset = omega (arith, c.in_default.ensures) in
    c.new.ensures.items ∙ sym (beyond c.args.conn.now c.requires.site c.args.kind c.args.from.now c.args.to.now c.args.limit c.args.offset far)
