use Rattle.std.proofs.Common.{rules, ◌≡◌, false, refl, ap, ◌∙◌}
use Rattle.post_tables.specs.Rows.{has_post, edit_by}
use Rattle.post_tables.specs.Stored.{rows_of}
use Rattle.post_tables.proofs.PostRows.{absent_edited}
use Rattle.post_tables.proofs.ListedParts.{edit_listed}
use Rattle.post_tables.proofs.Keeping.{absent_kept, edit_kept}
use Rattle.post_tables.proofs.tables.Tables.edit_post.Goals as goal

-- no post has the ID, so all stay
pub returns-in-Ok-eq0-clause-err : goal.returns-in-Ok-eq0-clause-err
returns-in-Ok-eq0-clause-err c =
    let rows = rows_of c.self.inside.conn in
    let absent : has_post c.args.id rows.posts ≡ false = search rules in
    let edit = edit_by c.args.status c.args.title c.args.content c.args.date in
    c.in-Ok-eq0.ensures.makes.ok ∙ ap (λ posts. record rows { posts = posts }) (absent_edited c.args.id edit rows.posts absent) ∙ c.self.view_is

-- what is kept of the posts stays, and so do the parts, unless the edit may change them
pub invariant_of-self : goal.invariant_of-self
invariant_of-self c =
    let old = c.self.inside.conn in
    let absent : has_post c.args.id (rows_of old).posts ≡ false = search rules in
    let edit = edit_by c.args.status c.args.title c.args.content c.args.date in (
      c.edit_post.ensures.makes.site,
      absent_kept c.self.inside.kept old c.edit_post.new.conn c.self.invariant.1 c.args.id edit _ absent c.in-Ok-eq0.ensures.makes,
      edit_listed c.before_edit.new.self old c.edit_post.new.conn c.args.id edit c.edit_post.result c.edit_post.ensures.makes
          (c.before_edit.ensures.same _ c.self.invariant.2) (c.before_edit.ensures.edited _ c.args.id edit refl refl c.self.invariant.2),
    )

-- what is kept of the post is edited too
pub invariant_of-self-in-Ok : goal.invariant_of-self-in-Ok
invariant_of-self-in-Ok c =
    let old = c.self.inside.conn in
    let edit = edit_by c.args.status c.args.title c.args.content c.args.date in (
      c.edit_post.ensures.makes.site,
      edit_kept c.self.inside.kept old c.edit_post.new.conn c.self.invariant.1 c.args.id edit c.edit.new.self _ c.edit.ensures c.in-Ok.ensures.makes,
      edit_listed c.before_edit.new.self old c.edit_post.new.conn c.args.id edit c.edit_post.result c.edit_post.ensures.makes
          (c.before_edit.ensures.same _ c.self.invariant.2) (c.before_edit.ensures.edited _ c.args.id edit refl refl c.self.invariant.2),
    )
