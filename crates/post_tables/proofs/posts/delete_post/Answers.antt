use Rattle.std.proofs.Common.{pos, [], ◌∷◌}
use Rattle.sqlite_value.specs.declared.value.Value.TheVariants.{Int}
use Rattle.sqlite.proofs.Callers.{memory_is_clean}
use Rattle.post_tables.specs.Rows.{without_post}
use Rattle.post_tables.proofs.Statements.{makes}
use Rattle.post_tables.proofs.DeleteSteps.{delete_text, deletes_post, deleted_count}
use Rattle.post_tables.proofs.posts.delete_post.Goals as goal

pub returns-clause-makes : goal.returns-clause-makes
returns-clause-makes c =
    let end = c.execute.new.self in
    makes (λ s. record s { posts = without_post c.args.id s.posts }) c.args.conn.now end delete_text (Int (pos c.args.id) ∷ []) c.requires
    c.execute.ensures.survives.limit
    (deletes_post c.args.conn.now end c.requires.holds c.args.id) c.execute.result
    (rw (c.params-to_sql.ensures) at (c.execute.ensures.runs (memory_is_clean end)))

pub returns-clause-found : goal.returns-clause-found
returns-clause-found c =
    let end = c.execute.new.self in
    deleted_count c.args.conn.now end c.requires.holds c.args.id c.execute.result
    (rw (c.params-to_sql.ensures) at (c.execute.ensures.runs (memory_is_clean end)))
