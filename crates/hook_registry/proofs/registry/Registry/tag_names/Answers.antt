use Rattle.std.proofs.Common.{◌∙◌, ap, sym, Err, true≢false, ◌++◌, ◌∷◌, []}
use Rattle.hook_registry.proofs.TagNames.{is_tag-at, names-more}
use Rattle.hook_registry.proofs.registry.Registry.tag_names.Goals as goal

pub unreachable-requires : goal.unreachable-requires
unreachable-requires c =
    true≢false
    (sym (is_tag-at c.self.inside.tags c.loop-at.at c.name_at.result.now c.self.invariant c.name_at.ensures)
    ∙ c.read.ensures.bad_name.0 (c.in-Err-BadName.is ∙ ap Err c.in-Err-BadName.field-0-is))

pub loop-at-preserved : goal.loop-at-preserved
loop-at-preserved c =
    c.in_ok-push-in-Ok.ensures.items
    ∙ (λ i. (c.loop-at.invariant i) ++ (c.in-Ok.ensures.ok i) ∷ [])
    ∙ names-more c.args.self.now.tags c.loop-at.at c.name_at.result.now (rw (← c.self.view_is) c.name_at.ensures)
