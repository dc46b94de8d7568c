use Rattle.std.proofs.Common.{nat_cmp, ◌≡◌, map, None, IsPermutation}
use Rattle.std.specs.Cmp.Lexicographic.{slice_cmp}
use Rattle.std.proofs.lemmas.List.Sorted.{IsPermutation-map}
use Rattle.callback_store.specs.Shape.{shape_of, AreInOrder}
use Rattle.callback_store.specs.Faults.{fault_of}
use Rattle.callback_store.proofs.InOrder.{in_order-map}
use Rattle.callback_store.proofs.Owners.{kept}
use Rattle.callback_store.proofs.plugins.Plugins.new.Goals as goal

pub returns-in-Ok-clause-permutation : goal.returns-in-Ok-clause-permutation
returns-in-Ok-clause-permutation g c =
    kept g.S.Stated.number (λ ps. IsPermutation (map (shape_of g.S.Stated.number) c.args.list) (map (shape_of g.S.Stated.number) ps)) _ _
    c.with_places.ensures.ok
    (IsPermutation-map (shape_of g.S.Stated.number) _ _ c.sorted_by_name.ensures.permutation)

pub returns-in-Ok-clause-in_order : goal.returns-in-Ok-clause-in_order
returns-in-Ok-clause-in_order g c =
    kept g.S.Stated.number (λ ps. AreInOrder (map (shape_of g.S.Stated.number) ps)) _ _ c.with_places.ensures.ok
    (in_order-map (shape_of g.S.Stated.number) (λ s. s.name) (slice_cmp nat_cmp) _ c.sorted_by_name.ensures.in_order)

pub returns-in-Ok-clause-no_fault : goal.returns-in-Ok-clause-no_fault
returns-in-Ok-clause-no_fault g c =
    kept g.S.Stated.number (λ ps. fault_of (map (shape_of g.S.Stated.number) c.args.list) ≡ None) _ _ c.with_places.ensures.ok
    (rw c.as_slice.ensures at c.in-Ok.ensures.no_fault)

pub returns-in-Err-clause-fault : goal.returns-in-Err-clause-fault
returns-in-Err-clause-fault g c = rw c.as_slice.ensures at c.in-Err.ensures.fault
