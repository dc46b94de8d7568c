use Rattle.std.proofs.Common.{rules, ◌≡◌, false, ap, ◌∙◌}
use Rattle.post_tables.specs.Rows.{has_post}
use Rattle.post_tables.specs.Stored.{rows_of}
use Rattle.post_tables.proofs.PostRows.{absent_without}
use Rattle.post_tables.proofs.Keeping.{delete_kept, stored_within}
use Rattle.post_tables.proofs.tables.Tables.delete_post.Goals as goal

-- no post has the ID, so leaving it out changes nothing
pub returns-in-Ok-eq0-clause-err : goal.returns-in-Ok-eq0-clause-err
returns-in-Ok-eq0-clause-err c =
    let rows = rows_of c.self.inside.conn in
    let absent : has_post c.args.id rows.posts ≡ false = search rules in
    c.in-Ok-eq0.ensures.makes.ok ∙ ap (λ posts. record rows { posts = posts }) (absent_without c.args.id rows.posts absent) ∙ c.self.view_is

-- the post is forgotten first, and so are all parts
pub invariant_of-self : goal.invariant_of-self
invariant_of-self c = (
  c.delete_post.ensures.makes.site,
  delete_kept c.forget.new.self c.self.inside.conn c.delete_post.new.conn
      (stored_within c.self.inside.kept c.forget.new.self _ c.forget.ensures.within c.self.invariant.1) c.args.id c.forget.ensures.gone
      c.delete_post.result c.delete_post.ensures.makes,
  c.clear.ensures _,
)

pub invariant_of-self-in-Ok : goal.invariant_of-self-in-Ok
invariant_of-self-in-Ok c = (
  c.delete_post.ensures.makes.site,
  delete_kept c.forget.new.self c.self.inside.conn c.delete_post.new.conn
      (stored_within c.self.inside.kept c.forget.new.self _ c.forget.ensures.within c.self.invariant.1) c.args.id c.forget.ensures.gone
      c.delete_post.result c.delete_post.ensures.makes,
  c.clear.ensures _,
)
