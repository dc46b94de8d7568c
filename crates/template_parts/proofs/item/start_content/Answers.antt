use Rattle.std.proofs.Common.{[], codes, refl}
use Rattle.hook_machine.specs.Runs.{engine_of, world_of}
use Rattle.hook_machine.proofs.Going.{leads_here}
use Rattle.page_escapes.specs.Escapes.{ends_escaped}
use Rattle.template_parts.specs.Pages.{print_text, content_pass, shown_pass}
use Rattle.template_parts.proofs.Moving.{begins_after, shown_passed_over}
use Rattle.template_parts.proofs.item.start_content.Goals as goal

-- the filter was passed over
pub returns-then-branch : goal.returns-then-branch
returns-then-branch g c =
    let engine = engine_of g.S.Stated.says g.S.Stated.number c.args.run.now in
    let settings = c.args.settings.now in
    let post = c.args.post.now in
    let content = post.content in
    let later = c.pass_over.new.self in
    begins_after c.args.run.now later c.print_ends_escaped.result c.print_ends_escaped.new.run (λ engine world. content_pass engine settings post world)
    (λ engine world. print_text world (ends_escaped content)) c.in_ok-pass_over.ensures.keeps.engine
    (shown_passed_over engine settings (world_of c.args.run.now) (world_of later) ends_escaped (codes "the_content") content []
    (rw c.as_str.ensures at (c.in_ok-pass_over.ensures.passed c.requires.0 c.if-branch.true [])))
    (rw c.as_str-then-branch.ensures at c.print_ends_escaped.ensures)

pub returns : goal.returns
returns g c =
    let settings = c.args.settings.now in
    let post = c.args.post.now in
    begins_after c.args.run.now c.pass_over.new.self c.start_filter.result c.start_filter.new.run (λ engine world. content_pass engine settings post world)
    (λ engine world. shown_pass engine settings ends_escaped world (codes "the_content") c.in_ok-content.content c.empty-args.result)
    c.in_ok-pass_over.ensures.keeps.engine
    (leads_here (rw (
      c.in_ok-pass_over.ensures.keeps.engine,
      c.in_ok-pass_over.ensures.stays c.requires.0 c.if-branch.false,
      c.in_ok-content.ensures,
      c.empty-args.ensures,
    ) refl))
    c.start_filter.ensures
