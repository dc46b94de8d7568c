use Rattle.std.proofs.Common.{rules, not}
use Rattle.std.proofs.lemmas.Fn.{filter_same}
use Rattle.hook_registry.specs.Entries.{is_by}
use Rattle.hook_registry.proofs.entries.remove_from.Goals as goal

pub returns : goal.returns
returns c = filter_same _ (λ e. not (is_by c.args.callback e)) _ (λ e b f' t. search rules) _ _ c.retain.ensures.filtered
