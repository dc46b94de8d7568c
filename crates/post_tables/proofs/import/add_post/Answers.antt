use Rattle.std.proofs.Common.{◌≡◌, ◌∙◌, ap}
use Rattle.site_records.specs.declared.post.Post.{Post}
use Rattle.post_tables.specs.Rows.{with_new}
use Rattle.post_tables.specs.Stored.{rows_of}
use Rattle.post_tables.proofs.import.add_post.Goals as goal

pub returns : goal.returns
returns c =
    let post : Post = c.args.post.now in
    let new : Post = record post { title = c.as_str.result.now; content = c.as_str-2.result.now } in
    let same : new ≡ post = λ i. record post { title = c.as_str.ensures i; content = c.as_str-2.ensures i } in
    let made = c.in_ok-insert_post_in.ensures in
    record {
      same_reference = made.same_reference;
      is_open = made.is_open;
      rows = made.rows ∙ ap (λ p. with_new p (rows_of c.args.tx.now.conn.now)) same;
      committed = made.committed;
      limit = made.limit;
    }
