use Rattle.std.proofs.Common.{◌≡◌, ◌&&◌, ◌∷◌, ◌+◌, ◌∙◌, false, suc, drop, ap, sym, refl, rules, List, arith}
use Rattle.std.proofs.Math.Seq.{drop-cons}
use Rattle.site_records.specs.declared.post.Post.{Post}
use Rattle.post_tables.specs.Rows.{are_new, has_post}
use Rattle.post_tables.specs.Stored.{is_met, rows_of}
use Rattle.post_tables.proofs.NewIds.{none_met, nothing_met, next_new}
use Rattle.post_tables.proofs.import.are_new.Goals as goal

pub loop-post-init : goal.loop-post-init
loop-post-init c =
    let posts : List Post = c.args.posts.now in
    let stored : List Post = (rows_of c.args.conn.now).posts in
    record {
      reads = record { site = c.requires; same = refl };
      rest = ap (λ k. none_met k posts && are_new posts stored) c.new-met.ensures.empty ∙ ap (λ b. b && are_new posts stored) (nothing_met posts);
    }

pub loop-post-preserved : goal.loop-post-preserved
loop-post-preserved c =
    let posts : List Post = c.args.posts.now in
    let stored : List Post = (rows_of c.args.conn.now).posts in
    let met = c.loop-post.met.keys in
    let i = c.loop-post.post-index in
    let post : Post = c.post-item.result in
    let left : List Post = drop (suc i) posts in
    let this : drop i posts ≡ post ∷ left = drop-cons posts i post c.loop-post-test.true ∙ ap (λ x. x ∷ left) (sym c.post-item.is) in
    let next : i + 1 ≡ suc i = omega arith in
    let reads = c.in_ok-has_post.ensures.reads in
    let before = c.loop-post.invariant in
    let fresh : is_met met post.id ≡ false = search rules in
    let unlike : has_post post.id (rows_of c.loop-post.conn).posts ≡ false = search rules in
    let free : has_post post.id stored ≡ false = sym (ap (λ s. has_post post.id s.posts) before.reads.same) ∙ unlike in
    record {
      reads = record { site = reads.site; same = reads.same ∙ before.reads.same };
      rest = ap (λ n. none_met c.meet.new.met.keys (drop n posts) && are_new (drop n posts) stored) next
          ∙ ap (λ k. none_met k left && are_new left stored) c.in_ok-meet.ensures.keys
          ∙ sym (next_new met post left stored fresh free) ∙ ap (λ l. none_met met l && are_new l stored) (sym this) ∙ before.rest;
    }
