use Rattle.std.proofs.Common.{◌∙◌, sym}
use Rattle.callback_store.proofs.Choosing.{too_many, bad_name, same_name, same_callback, no_fault}
use Rattle.callback_store.proofs.plugins.without_fault.Goals as goal

pub returns-then-are_too_many-clause-fault : goal.returns-then-are_too_many-clause-fault
returns-then-are_too_many-clause-fault g c = λ _. too_many g.S.Stated.number c.args.list.now (sym c.are_too_many.ensures ∙ c.if-are_too_many.true)

pub returns-then-has_bad_name-clause-fault : goal.returns-then-has_bad_name-clause-fault
returns-then-has_bad_name-clause-fault g c = λ _. bad_name g.S.Stated.number c.args.list.now (sym c.are_too_many.ensures ∙ c.if-are_too_many.false)
    (sym c.has_bad_name.ensures ∙ c.if-has_bad_name.true)

pub returns-then-has_same_name-clause-fault : goal.returns-then-has_same_name-clause-fault
returns-then-has_same_name-clause-fault g c =
    λ _. same_name g.S.Stated.number c.args.list.now (sym c.are_too_many.ensures ∙ c.if-are_too_many.false)
    (sym c.has_bad_name.ensures ∙ c.if-has_bad_name.false) (sym c.has_same_name.ensures ∙ c.if-has_same_name.true)

pub returns-in-Ok-true-clause-fault : goal.returns-in-Ok-true-clause-fault
returns-in-Ok-true-clause-fault g c =
    λ _. same_callback g.S.Stated.number c.args.list.now (sym c.are_too_many.ensures ∙ c.if-are_too_many.false)
    (sym c.has_bad_name.ensures ∙ c.if-has_bad_name.false) (sym c.has_same_name.ensures ∙ c.if-has_same_name.false)
    (sym c.in-Ok-true.ensures ∙ c.in-Ok-true.field-0-test)

pub returns-in-Ok-false-clause-no_fault : goal.returns-in-Ok-false-clause-no_fault
returns-in-Ok-false-clause-no_fault g c =
    no_fault g.S.Stated.number c.args.list.now (sym c.are_too_many.ensures ∙ c.if-are_too_many.false) (sym c.has_bad_name.ensures ∙ c.if-has_bad_name.false)
    (sym c.has_same_name.ensures ∙ c.if-has_same_name.false)
    (sym c.in-Ok-false.ensures ∙ c.in-Ok-false.field-0-test)
