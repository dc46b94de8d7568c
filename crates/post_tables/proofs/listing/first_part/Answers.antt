use Rattle.std.proofs.Common.{◌≡◌, ◌∙◌, ap, map}
use Rattle.post_tables.specs.Reading.{post_from}
use Rattle.post_tables.specs.Page.{page_of}
use Rattle.post_tables.specs.Stored.{rows_of}
use Rattle.post_tables.proofs.Keeping.{part_stored}
use Rattle.post_tables.proofs.listing.first_part.Goals as goal

pub returns-clause-stored : goal.returns-clause-stored
returns-clause-stored c =
    let old = c.args.conn.now in
    let are : c.deref-2.result.now ≡ page_of c.args.kind c.args.from.now c.args.to.now c.args.limit 0 (rows_of old).posts =
    c.deref-2.ensures.value ∙ c.in_ok-posts.ensures.ok ∙ ap (map post_from) c.deref.ensures.value ∙ c.in_ok-rows.ensures.rows in
    c.keep_all.ensures (rows_of old).posts
    (part_stored old c.requires.site c.args.kind c.args.from.now c.args.to.now c.args.limit 0 c.deref-2.result.now are) c.requires.stored
