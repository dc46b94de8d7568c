use Rattle.std.proofs.Common.{◌≡◌, not, drop}
use Rattle.std.specs.List.{list_any}
use Rattle.plain_data.specs.Names.{is_tag_name}
use Rattle.callback_store.proofs.plugins.has_bad_name.Given as goal

-- the list has such a plugin exactly if the rest of it has one
abbrev pub invariant-loop-plugin : goal.invariant-loop-plugin
invariant-loop-plugin g l = list_any (λ p. not (is_tag_name p.name)) l.list ≡ list_any (λ p. not (is_tag_name p.name)) (drop l.plugin-index l.list)
