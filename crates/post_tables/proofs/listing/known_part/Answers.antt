use Rattle.post_tables.proofs.PartIds.{part_given}
use Rattle.post_tables.proofs.listing.known_part.Goals as goal

pub returns-clause-posts : goal.returns-clause-posts
returns-clause-posts c =
    part_given c.args.conn.now c.requires.site c.args.kind c.args.from.now c.args.to.now c.args.limit c.args.offset c.args.ids.now
    c.requires.ids c.posts_with.result c.posts_with.ensures.posts
