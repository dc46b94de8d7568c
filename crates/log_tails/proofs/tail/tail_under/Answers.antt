use Rattle.std.proofs.Common.{rules, ◌≡◌, ◌∙◌, sym, ap, List, ℕ, slice_index}
use Rattle.log_tails.proofs.Reading.{salt_in}
use Rattle.log_tails.proofs.tail.tail_under.Goals as goal

pub ends_whole-requires-clause-key : goal.ends_whole-requires-clause-key
ends_whole-requires-clause-key g c clean =
    let file = g.D.Disk.seen c.args.log.now in
    let same : g.D.Disk.seen c.commits_of.new.log ≡ file = c.commits_of.ensures.same.seen ∙ c.frames_of.ensures.same.seen in
    let head = c.requires.head (c.frames_of.ensures.same.clean (c.commits_of.ensures.same.clean clean)) in
    salt_in c.args.head.now file head ∙ ap (λ (f : List ℕ). slice_index f 16) (sym same)
