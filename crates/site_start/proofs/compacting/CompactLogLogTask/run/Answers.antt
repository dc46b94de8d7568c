use Rattle.std.proofs.Common.{◌≡◌, ◌∙◌, inl, subst, sym}
use Rattle.command_log.specs.Lines.{lines_of}
use Rattle.site_serving.specs.Served.{state_after}
use Rattle.site_start.specs.Compacted.{IsShort}
use Rattle.site_start.proofs.Leaving.{left_by, left_by_compact, left_by_start}
use Rattle.site_start.proofs.Replaying.{clean_before}
use Rattle.site_start.proofs.compacting.CompactLogLogTask.run.Goals as goal

-- the lines of the log were carried out, and short ones took their place
pub returns-in-Ok-compact : goal.returns-in-Ok-compact
returns-in-Ok-compact g c =
    let commands = g.C.Commands in
    let store = g.S.Store in
    let task = c.args.self in
    let log = c.args.log in
    let started = c.start.new.log in
    let short = c.compact.new.log in
    let did = c.in-Ok.ensures in
    let then = c.in-Ok-compact.ensures in
    λ image from lines held.
    let clean = clean_before store started short _ c.compact.ensures.survives held.0 in
    let up = from.opened (clean_before store log started _ c.start.ensures.survives clean) in
    let are = c.law_left_by_a_crash-in-Ok-compact.ensures.holds (then.opened held.0) lines held in
    let it = subst (IsShort commands task.identity.now c.start.new.site c.compact.new.copy) are (then.short held.0) in
    record {
      noted = lines_of store started;
      were = left_by image task.identity.now (lines_of store log) (lines_of store started) (from.finds up) (did.lines clean);
      made = c.compact.ensures.same ∙ did.replayed clean;
      short = record {
        short = record {
          later = it.short.later;
          are = it.short.are;
          rebuild = subst (λ x. commands.rebuilds x it.short.later) (sym c.compact.ensures.same) it.short.rebuild;
        };
        again = it.again;
      };
      replayed = subst (λ l. commands.state c.compact.new.copy ≡ state_after (commands.steps (commands.fixed task.copy)) (commands.state task.copy) l)
          are (then.replayed held.0);
    }

pub returns-in-Err-compact : goal.returns-in-Err-compact
returns-in-Err-compact g c =
    let store = g.S.Store in
    let task = c.args.self in
    let log = c.args.log in
    let started = c.start.new.log in
    λ image from lines held.
    left_by_compact image task.identity.now store started c.compact.new.log c.in-Ok.ensures.opened c.law_left_by_a_crash-in-Ok.ensures.holds
    g.C.Commands c.start.new.site c.compact.new.site c.compact.ensures.same c.compact.ensures.survives
    (λ clean. let up = from.opened (clean_before store log started _ c.start.ensures.survives clean) in (lines_of store log, from.finds up, c.in-Ok.ensures.lines clean))
    lines held

-- they weren't
pub returns-in-Err : goal.returns-in-Err
returns-in-Err g c =
    λ image from lines held.
    inl (left_by_start image c.args.self.identity.now g.S.Store c.args.log c.start.new.log from.opened c.law_left_by_a_crash.ensures.holds
    c.start.ensures.survives from.finds lines held)
