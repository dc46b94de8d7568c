use Rattle.std.proofs.Common.{◌≡◌, ◌<◌, ◌-◌, ◌∙◌, length, filter, map, Some, None, sym, ap, subst, subst₂}
use Rattle.std.specs.Prelude.{slice_get}
use Rattle.std.specs.String.{string_bytes}
use Rattle.post_tables.specs.Rows.{Rows, posts_after}
use Rattle.site_export.specs.Lines.{AppendsPosts}
use Rattle.site_export.proofs.Steps.{after, rising_from, fewer, reads_on, all_read}
use Rattle.site_export.proofs.history.push_all_posts.Goals as goal

pub loop-posts-smaller : goal.loop-posts-smaller
loop-posts-smaller c =
    let all = c.args.tables.now.posts in
    let from = c.loop-posts.last in
    let post = c.in-Some.post.now in
    let same = c.loop-posts.invariant.same in
    let read : c.as_slice.result.now ≡ posts_after from 100 all = c.as_slice.ensures ∙ c.in_ok-posts.ensures.ok ∙ ap (λ s. posts_after from 100 s.posts) same in
    let got : slice_get (posts_after from 100 all) (length (posts_after from 100 all) - 1) ≡ Some post
    = subst (λ l. slice_get l (length l - 1) ≡ Some post) read (sym c.in-Some.ensures.value) in
    subst₂ (λ (s t : Rows). length (filter (after post.id) s.posts) < length (filter (after from) t.posts)) (sym (c.in_ok-posts.ensures.same ∙ same)) (sym same)
    (fewer from 100 all post (rising_from all c.ids_occur_once.ensures.once) got)

pub loop-posts-preserved : goal.loop-posts-preserved
loop-posts-preserved c =
    let all = c.args.tables.now.posts in
    let from = c.loop-posts.last in
    let post = c.in-Some.post.now in
    let same = c.loop-posts.invariant.same in
    let are : c.in_ok-posts.posts ≡ posts_after from 100 all = c.in_ok-posts.ensures.ok ∙ ap (λ s. posts_after from 100 s.posts) same in
    let got : slice_get (posts_after from 100 all) (length (posts_after from 100 all) - 1) ≡ Some post
    = subst (λ l. slice_get l (length l - 1) ≡ Some post) (c.as_slice.ensures ∙ are) (sym c.in-Some.ensures.value) in
    let old = map string_bytes c.args.lines.now.items in
    let mid = map string_bytes c.loop-posts.lines.items in
    let new = map string_bytes c.push_posts.new.lines.items in
    record {
      same = c.in_ok-posts.ensures.same ∙ same;
      read = reads_on all (rising_from all c.ids_occur_once.ensures.once) from 100 post old mid new c.loop-posts.invariant.read got
          (subst (λ l. AppendsPosts l mid new) (c.as_slice-in-loop-posts.ensures ∙ are) c.in_ok-push_posts.ensures);
    }

pub returns-in-None-clause-lines : goal.returns-in-None-clause-lines
returns-in-None-clause-lines c =
    let all = c.args.tables.now.posts in
    let from = c.loop-posts.last in
    let are : c.in_ok-posts.posts ≡ posts_after from 100 all = c.in_ok-posts.ensures.ok ∙ ap (λ s. posts_after from 100 s.posts) c.loop-posts.invariant.same in
    let none : slice_get (posts_after from 100 all) (length (posts_after from 100 all) - 1) ≡ None
    = subst (λ l. slice_get l (length l - 1) ≡ None) (c.as_slice.ensures ∙ are) (sym c.in-None.ensures.value) in
    all_read all from 99 _ _ c.loop-posts.invariant.read none
