use Rattle.sqlite.proofs.Callers.{memory_is_clean}
use Rattle.post_tables.specs.Rows.{PostEdit, edit_by, edited_posts}
use Rattle.post_tables.proofs.Statements.{makes}
use Rattle.post_tables.proofs.Updating.{update_text, given, edits_post, edited_count, lent_text}
use Rattle.post_tables.proofs.posts.edit_post.Goals as goal

pub returns-clause-makes : goal.returns-clause-makes
returns-clause-makes c =
    let end = c.execute.new.self in
    let edit : PostEdit = edit_by c.args.status c.args.title c.args.content c.args.date in
    makes (λ s. record s { posts = edited_posts c.args.id edit s.posts }) c.args.conn.now end update_text (given c.args.id edit) c.requires
    c.execute.ensures.survives.limit
    (edits_post c.args.conn.now end c.requires.holds c.args.id edit
    (record {
      title = c.given_text.ensures.utf8;
      content = c.given_text-2.ensures.utf8;
      date = c.given_date.ensures.utf8;
      dated =
          c.given_date.ensures.dated;
    })) c.execute.result
    (rw (
      c.params-to_sql.ensures,
      c.params-to_sql-2.ensures,
      c.params-to_sql-3.ensures,
      c.params-to_sql-4.ensures,
      c.params-to_sql-5.ensures,
      lent_text
          c.given_status.result,
      lent_text c.given_text.result,
      lent_text c.given_text-2.result,
      lent_text c.given_date.result,
      c.given_status.ensures,
      c.given_text.ensures.value,
      c.given_text-2.ensures.value,
      c.given_date.ensures.value,
    ) at (c.execute.ensures.runs (memory_is_clean end)))

pub returns-clause-found : goal.returns-clause-found
returns-clause-found c =
    let end = c.execute.new.self in
    let edit : PostEdit = edit_by c.args.status c.args.title c.args.content c.args.date in
    edited_count c.args.conn.now end c.requires.holds c.args.id edit
    (record {
      title = c.given_text.ensures.utf8;
      content = c.given_text-2.ensures.utf8;
      date = c.given_date.ensures.utf8;
      dated =
          c.given_date.ensures.dated;
    }) c.execute.result
    (rw (
      c.params-to_sql.ensures,
      c.params-to_sql-2.ensures,
      c.params-to_sql-3.ensures,
      c.params-to_sql-4.ensures,
      c.params-to_sql-5.ensures,
      lent_text
          c.given_status.result,
      lent_text c.given_text.result,
      lent_text c.given_text-2.result,
      lent_text c.given_date.result,
      c.given_status.ensures,
      c.given_text.ensures.value,
      c.given_text-2.ensures.value,
      c.given_date.ensures.value,
    ) at (c.execute.ensures.runs (memory_is_clean end)))
