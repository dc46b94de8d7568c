use Rattle.std.proofs.Common.{[], Some, subst}
use Rattle.std.proofs.lemmas.Result.{err_from_is_err_and}
use Rattle.site_program.specs.Serving.{Stops}
use Rattle.site_program.specs.Site.{setup_of, state_of}
use Rattle.site_program.specs.Step.{steps_of}
use Rattle.example_pages.proofs.serving.serve_bytes.Goals as goal

-- the source began with the input, and the sink with nothing
pub returns-in_err-serve-clause-stopped : goal.returns-in_err-serve-clause-stopped
returns-in_err-serve-clause-stopped g c =
    let steps = steps_of g.S.Stated.says g.S.Stated.number (setup_of c.args.site.now) in
    let old = state_of g.S.Stated.says g.S.Stated.number c.args.site.now in
    let new = state_of g.S.Stated.says g.S.Stated.number c.serve.new.self in
    let left = Some c.serve.new.reader.inner.now in
    let after = Some c.serve.new.writer.bytes.items in
    let fault = c.in_err-serve.field-0.0 in
    let p = err_from_is_err_and c.from_residual.result c.from_residual.ensures.1 in
    let from_nothing = subst (λ before. Stops steps old (Some c.new-reader.result.inner.now) left (Some before) after new fault) c.new.ensures.items
    c.in_err-serve.ensures.served.stopped in
    let from_input = subst (λ given. Stops steps old given left (Some []) after new fault) c.new-reader.ensures.told from_nothing in
    rw (p.1, p.2) (_, _, from_input)
