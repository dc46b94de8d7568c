use Rattle.std.proofs.Common.{rules, ◌≡◌, ◌+◌, ◌∙◌, false, ap, sym, subst}
use Rattle.post_tables.specs.Rows.{Rows, has_post}
use Rattle.post_tables.proofs.Keeping.{put_kept, stored_same}
use Rattle.post_tables.specs.Stored.{rows_of}
use Rattle.post_tables.proofs.PartLemmas.{site_free}
use Rattle.post_tables.proofs.tables.Tables.put_post.Goals as goal

pub returns-clause-id : goal.returns-clause-id
returns-clause-id c = search rules

pub returns-clause-fresh : goal.returns-clause-fresh
returns-clause-fresh c =
    let free = site_free c.self.inside.conn c.self.invariant.0 in
    subst (λ n. has_post n c.args.self.now.posts ≡ false) (sym (c.in_ok-id.ensures.id))
    (subst (λ s. has_post ((rows_of c.self.inside.conn).largest + 1) s.posts ≡ false) c.self.view_is free)

-- the post that comes has an ID of its own, and all parts are forgotten
pub invariant_of-self-2 : goal.invariant_of-self-2
invariant_of-self-2 c =
    let mid = c.next_id.new.conn in
    let reads = c.in_ok-id.ensures.reads in
    let kept = c.self.inside.kept in
    let stored = stored_same kept _ _ (ap (λ (s : Rows). s.posts) reads.same) c.self.invariant.1 in
    let id = c.in_ok-id.ensures.id ∙ ap (λ (s : Rows). s.largest + 1) (sym reads.same) in
    let free = subst (λ n. has_post n (rows_of mid).posts ≡ false) (sym id) (site_free mid reads.site) in
    (c.insert_post.ensures.site, put_kept kept mid c.insert_post.new.conn stored _ c.insert_post.result c.insert_post.ensures free, c.clear.ensures _)
