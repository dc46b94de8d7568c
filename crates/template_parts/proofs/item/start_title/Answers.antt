use Rattle.std.proofs.Common.{◌∷◌, [], ◌∙◌, sym, subst, codes}
use Rattle.std.specs.Prelude.{IfOk, decimal}
use Rattle.hook_machine.specs.Runs.{engine_of, world_of}
use Rattle.template_parts.specs.Left.{IsBegun, shown_as}
use Rattle.template_parts.proofs.Moving.{shown_unfiltered}
use Rattle.template_parts.proofs.item.start_title.Goals as goal

-- nothing is registered on it
pub returns-then-not-is_hooked : goal.returns-then-not-is_hooked
returns-then-not-is_hooked g c =
    let engine = engine_of g.S.Stated.says g.S.Stated.number c.args.run.now in
    let begins = c.print_unfiltered.ensures in
    let same = shown_unfiltered engine c.args.settings.now (world_of c.args.run.now) (shown_as c.args.shown) (codes "the_title") c.args.post.now.title
    (decimal c.args.post.now.id ∷ []) (sym c.is_hooked.ensures ∙ c.if-not-is_hooked.true) in
    record {
      begun = subst (λ work. IfOk c.print_unfiltered.result (IsBegun engine work c.print_unfiltered.new.run)) (sym same)
          (rw c.as_str.ensures at begins.begun);
      memory = begins.memory;
      engine = begins.engine;
    }
