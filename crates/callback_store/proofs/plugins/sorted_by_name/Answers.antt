use Rattle.std.proofs.Common.{rules, is_lt, nat_cmp}
use Rattle.std.specs.Cmp.Lexicographic.{slice_cmp}
use Rattle.std.proofs.lemmas.Cmp.{nat_list_cmp_total}
use Rattle.std.proofs.lemmas.List.Sorted.{answers_always, ranks_by}
use Rattle.callback_store.proofs.plugins.sorted_by_name.Goals as goal

pub invariant_of-result : goal.invariant_of-result
invariant_of-result g c =
    rw c.new.ensures
    (c.sort_unstable_by.ensures.sorted (λ p q. is_lt (slice_cmp nat_cmp p.name q.name)) (ranks_by nat_list_cmp_total (λ p. p.name))
    (answers_always _ _ _ (λ f a r h k. search rules)))

pub returns-clause-in_order : goal.returns-clause-in_order
returns-clause-in_order g c =
    rw c.new.ensures
    (c.sort_unstable_by.ensures.sorted (λ p q. is_lt (slice_cmp nat_cmp p.name q.name)) (ranks_by nat_list_cmp_total (λ p. p.name))
    (answers_always _ _ _ (λ f a r h k. search rules)))
