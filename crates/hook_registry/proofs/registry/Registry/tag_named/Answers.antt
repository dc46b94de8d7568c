use Rattle.std.proofs.Common.{◌≡◌, true, ◌∙◌, ap, sym, Err, true≢false, rules}
use Rattle.std.specs.Prelude.{is_some}
use Rattle.hook_registry.specs.Named.{value_of}
use Rattle.hook_registry.proofs.TagNames.{is_tag-named}
use Rattle.hook_registry.proofs.registry.Registry.tag_named.Goals as goal

pub unreachable-requires : goal.unreachable-requires
unreachable-requires c =
    let there : is_some (value_of c.self.inside.tags c.args.name.now) ≡ true = search rules in
    true≢false
    (sym (is_tag-named c.self.inside.tags c.args.name.now c.self.invariant there)
    ∙ c.read.ensures.bad_name.0 (c.in-Err-BadName.is ∙ ap Err c.in-Err-BadName.field-0-is))
