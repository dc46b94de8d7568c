use Rattle.std.proofs.Common.{◌∙◌, Err, sym, subst}
use Rattle.hook_meaning.specs.Meaning.{Engine}
use Rattle.std.proofs.lemmas.Result.{err_from_is_err_and}
use Rattle.hook_machine.specs.declared.run.frames.Pace.TheVariants.{Through}
use Rattle.hook_machine.specs.Runs.{engine_of, last_event}
use Rattle.hook_machine.proofs.Going.{same_end, fewer_turns}
use Rattle.template_parts.specs.Page.{page_left, run_in, Goes}
use Rattle.template_parts.proofs.Moving.{print_refused, print_done}
use Rattle.template_parts.proofs.page.Page.print.Goals as goal

pub returns-in_err-turned-clause-err : goal.returns-in_err-turned-clause-err
returns-in_err-turned-clause-err g c =
    let engine = engine_of g.S.Stated.says g.S.Stated.number (run_in c.args.self.now) in
    let p = err_from_is_err_and c.from_residual.result c.from_residual.ensures.1 in
    λ sound. rw (p.1, p.2) (print_refused Through (page_left engine c.turns.self) (page_left engine c.advance.new.self) (page_left engine c.args.self.now)
    c.in_err-turned.field-0.0 (last_event (run_in c.advance.new.self)) c.turns.invariant.ends
    (subst (λ (e : Engine). Goes Through (page_left e c.turns.self) (Err c.in_err-turned.field-0.0) (last_event (run_in c.advance.new.self))
    (page_left e c.advance.new.self)) c.turns.invariant.engine (c.in_err-turned.ensures.goes c.turns.invariant.sound)))

pub returns-in-Done-clause-bytes : goal.returns-in-Done-clause-bytes
returns-in-Done-clause-bytes g c =
    let engine = engine_of g.S.Stated.says g.S.Stated.number (run_in c.args.self.now) in
    λ sound. print_done (page_left engine c.args.self.now) c.in-Done.bytes.items c.turns.invariant.ends
    (rw (c.in-Done.is, c.turns.invariant.engine) at (c.in_ok-turned.ensures.goes c.turns.invariant.sound))

pub turns-smaller : goal.turns-smaller
turns-smaller g c =
    let goes = rw (c.in-More.is, c.turns.invariant.engine) at (c.in_ok-turned.ensures.goes c.turns.invariant.sound) in
    fewer_turns goes

pub turns-preserved : goal.turns-preserved
turns-preserved g c =
    let goes = rw (c.in-More.is, c.turns.invariant.engine) at (c.in_ok-turned.ensures.goes c.turns.invariant.sound) in
    record {
      ends = c.turns.invariant.ends ∙ sym (same_end goes);
      ready = c.advance.ensures.ready;
      sound = c.in_ok-turned.ensures.sound;
      same = (c.advance.ensures.same.0 ∙ c.turns.invariant.same.0, c.advance.ensures.same.1 ∙ c.turns.invariant.same.1);
      engine = c.advance.ensures.engine ∙ c.turns.invariant.engine;
      cache = c.advance.ensures.cache ∙ c.turns.invariant.cache;
    }
