use Rattle.std.proofs.Common.{◌≡◌, ◌-◌, List, length, map, take, drop, ap, subst, arith, length-drop}
use Rattle.std.specs.String.{string_bytes}
use Rattle.std.proofs.lemmas.List.{take_rest}
use Rattle.site_records.specs.declared.post.Post.{Post}
use Rattle.site_export.specs.Lines.{AppendsPosts}
use Rattle.site_export.proofs.Batches.{more_taken}
use Rattle.site_export.proofs.posts.push_posts.Goals as goal

pub loop-done-preserved : goal.loop-done-preserved
loop-done-preserved c =
    let posts = c.args.posts.now in
    let done = c.loop-done.done in
    let count = c.in_ok-done.field-0 in
    let old = map string_bytes c.args.lines.now.items in
    let mid = map string_bytes c.loop-done.lines.items in
    let new = map string_bytes c.push_some.new.lines.items in
    let left : List Post = drop done posts in
    let size : length left ≡ length posts - done = length-drop done posts in
    let rest : take (length posts - done) left ≡ left = take_rest posts done in
    let within = ap length rest in
    record {
      within = omega (arith, size, within, c.in_ok-done.ensures.some.1, c.loop-done-test.true);
      lines = more_taken done count posts old mid new c.loop-done.invariant.lines
          (subst (λ l. AppendsPosts (take count l) mid new) rest c.in_ok-done.ensures.lines);
    }
