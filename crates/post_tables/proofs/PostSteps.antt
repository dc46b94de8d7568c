-- What a post that is put in makes of the site.
use Rattle.std.proofs.Common.{◌≡◌, ◌<◌, ◌^◌, ℕ, map, None, Ok, sym, ap, subst, ◌∙◌, max, arith}
use Rattle.sqlite_schema.specs.declared.schema.Keys.TheVariants.{Enforced}
use Rattle.sqlite.specs.Order.{Row}
use Rattle.sqlite.specs.Tree.{Trees, put_row}
use Rattle.sqlite_trees.specs.declared.memory.MemStore.{MemStore}
use Rattle.sqlite.specs.Held.{Held, state}
use Rattle.sqlite.specs.Steps.{over_memory}
use Rattle.sqlite.specs.Effect.{Database}
use Rattle.sqlite.specs.Does.{Tally, Does}
use Rattle.sqlite.specs.Listing.{understood}
use Rattle.sqlite.specs.State.{mode_of, Executes}
use Rattle.sqlite.proofs.Callers.{statement_of, runs_as}
use Rattle.site_records.specs.declared.post.Post.{Post}
use Rattle.post_tables.specs.Schema.{site_schema}
use Rattle.post_tables.specs.Rows.{with_post, with_new}
use Rattle.post_tables.specs.Stored.{HoldsSite, IsReadable, ArePosts, IsCounter, row_of, post_in, top_in}
use Rattle.table_rows.proofs.Steps.{went, same_value}
use Rattle.post_tables.proofs.Memory.{wrote}
use Rattle.post_tables.proofs.GivenIds.{more_given}
use Rattle.post_tables.proofs.Parts.{posts_now}
use Rattle.post_tables.proofs.PostRows.{same_posts, still_posts}
use Rattle.post_tables.proofs.Statements.{IsDone}
use Rattle.post_tables.proofs.Inserting.{insert_text, insert_command, insert_is, insert_plain, params, inserted}

abbrev pub given : Post → Row
given p = params None Enforced p

pub puts_post : (old new : Held MemStore) (holds : HoldsSite (state over_memory old).now) (count : ℕ) (p : Post) → IsReadable p
    → Executes insert_text (given p) (state over_memory old) (state over_memory new) (Ok count) → IsDone (with_new p) old new
puts_post old new holds count p readable h =
    let s = state over_memory old in
    let t = state over_memory new in
    let text = statement_of insert_text (understood site_schema insert_text) in
    let w = runs_as insert_text (given p) s t site_schema holds.schema_is insert_command insert_is insert_plain count h in
    let done = went (subst (λ x. Does s.step_limit (mode_of s) (given p) (record s.now { schema = x }) text None insert_command (Ok (w.tally, t.now)))
    holds.schema_is w.changed) in
    let now = ap (λ (x : Tally × Database). x.1) (same_value (went (went done.2).2).2) in
    let db = s.now.trees in
    let made = inserted s.step_limit Enforced p db done.0 holds.sound.counter done.1 in
    let trees : t.now.trees ≡ done.0.trees = ap (λ (d : Database). d.trees) now in
    let posts : t.now.trees 0 ≡ put_row (row_of p) (db 0) = ap (λ (x : Trees). x 0) trees ∙ made.posts in
    let shown : map post_in (t.now.trees 0) ≡ with_post p (map post_in (db 0)) = ap (map post_in) posts
    ∙ same_posts p (db 0) holds.sound.posts.each made.free in
    let top : top_in (t.now.trees 1) ≡ max (top_in (db 1)) p.id = ap (λ (x : Trees). top_in (x 1)) trees ∙ made.top in
    let before = holds.sound.bounded in
    let own = readable.id in
    let low : max (top_in (db 1)) p.id < 2 ^ 32 = omega arith in
    let it = posts_now old.step_limit db t.now.trees holds.sound
    (ap (λ (x : Trees). x 2) trees ∙ made.others.0, ap (λ (x : Trees). x 4) trees ∙ made.others.1, ap (λ (x : Trees). x 6) trees ∙ made.others.2)
    (subst ArePosts (sym posts) (still_posts p readable (db 0) holds.sound.posts)) (subst (λ (x : Trees). IsCounter (x 1)) (sym trees) made.counter) _ shown _
    low top (more_given p (map post_in (db 0)) (top_in (db 1)) holds.sound.given) in
    record {
      holds = record { schema_is = ap (λ (d : Database). d.schema) now; sound = it.sound };
      rows = it.are;
      idle = λ idle. wrote old new idle _ _ _ _ _ w;
    }
