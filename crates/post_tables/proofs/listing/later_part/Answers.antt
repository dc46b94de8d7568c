use Rattle.std.proofs.Common.{◌<◌, ◌∙◌, sym, arith}
use Rattle.post_tables.specs.Stored.{rows_of}
use Rattle.post_tables.proofs.Beyond.{beyond_given}
use Rattle.post_tables.proofs.listing.later_part.Goals as goal

pub returns-then-largest-offset-clause-posts : goal.returns-then-largest-offset-clause-posts
returns-then-largest-offset-clause-posts c =
    let far : (rows_of c.args.conn.now).largest < c.args.offset = omega (arith, c.in_ok-largest.ensures.largest, c.if-largest-offset.true) in
    c.new.ensures.items ∙ sym (beyond_given c.args.conn.now c.requires.site c.args.kind c.args.from.now c.args.to.now c.args.limit c.args.offset far)
