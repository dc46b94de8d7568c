use Rattle.std.proofs.Common.{◌∙◌, refl, sym, map}
use Rattle.std.proofs.lemmas.Cmp.{nat_list_cmp_total}
use Rattle.std.proofs.lemmas.List.Sorted.{ranks_by}
use Rattle.std.specs.Ordering.{nat_cmp}
use Rattle.std.specs.Cmp.Lexicographic.{slice_cmp}
use Rattle.callback_store.specs.Shape.{Shape, shape_of, comes_before}
use Rattle.callback_store.proofs.InOrder.{in_order-map}
use Rattle.callback_store.proofs.Sorting.{sorted_itself}
use Rattle.callback_store.proofs.plugins.Plugins.by_name.Goals as goal

-- the plugins are in order, so ordering them changes nothing
pub returns : goal.returns
returns g c =
    let shape = shape_of g.S.Stated.number in
    let order = ranks_by nat_list_cmp_total (λ (s : Shape). s.name) in
    let same = c.in_order.ensures.same in
    let up = in_order-map shape (λ s. s.name) (slice_cmp nat_cmp) _ c.in_order.ensures.sorted in
    sym (sorted_itself comes_before order (map shape c.in_order.result.now) up) ∙ rw same refl
