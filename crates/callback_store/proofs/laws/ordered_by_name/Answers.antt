use Rattle.std.proofs.lemmas.Cmp.{nat_list_cmp_total}
use Rattle.std.proofs.lemmas.List.Sorted.{ranks_by}
use Rattle.callback_store.specs.Shape.{Shape, comes_before}
use Rattle.callback_store.proofs.Sorting.{sorted_itself}
use Rattle.callback_store.proofs.laws.ordered_by_name.Goals as goal

pub returns : goal.returns
returns c = sorted_itself comes_before (ranks_by nat_list_cmp_total (λ (s : Shape). s.name))
