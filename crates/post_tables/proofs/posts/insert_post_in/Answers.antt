use Rattle.std.proofs.Common.{arith}
use Rattle.sqlite.proofs.Callers.{memory_is_clean}
use Rattle.site_records.specs.declared.post.Post.{Post}
use Rattle.post_tables.specs.Rows.{with_new}
use Rattle.post_tables.specs.Reading.{post_with_id}
use Rattle.post_tables.specs.Stored.{IsReadable}
use Rattle.post_tables.proofs.Statements.{makes_inside}
use Rattle.post_tables.proofs.Inserting.{insert_text}
use Rattle.post_tables.proofs.PostSteps.{puts_post, given}
use Rattle.post_tables.proofs.posts.insert_post_in.Goals as goal

pub returns : goal.returns
returns c =
    let begin = c.args.tx.now in
    let end = c.execute.new.self in
    let post : Post = post_with_id c.args.post.now in
    let good : IsReadable post = record {
      id = omega arith;
      title = c.as_text.ensures.utf8;
      content = c.as_text-2.ensures.utf8;
      date = rw
          c.as_str.ensures.text at c.as_str.utf8;
      dated = rw c.as_str.ensures.text at c.as_str.ensures.date;
    } in
    makes_inside (with_new post) begin end insert_text (given post) c.requires c.execute.ensures.same_reference c.execute.ensures.survives.limit
    (λ count. puts_post begin.conn.now end.conn.now c.requires.holds count post good) c.execute.result
    (rw (
      c.params-to_sql.ensures,
      c.params-to_sql-2.ensures,
      c.params-to_sql-3.ensures,
      c.params-to_sql-4.ensures,
      c.params-to_sql-5.ensures,
      c.params-to_sql-6.ensures,
      c.kind_text.ensures,
      c.status_text.ensures,
      c.as_str.ensures.text,
      c.as_text.ensures.same,
      c.as_text-2.ensures.same,
    ) at
    (c.execute.ensures.runs (memory_is_clean end.conn.now) c.requires.inside))
