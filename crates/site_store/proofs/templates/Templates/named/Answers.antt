use Rattle.std.proofs.Common.{◌∙◌, sym, ap}
use Rattle.std.specs.Prelude.{option_map}
use Rattle.std.proofs.lemmas.Result.{IfOk-weaker}
use Rattle.site_store.specs.Stored.{template_named}
use Rattle.site_store.proofs.UnderNames.{kept_is}
use Rattle.site_store.proofs.templates.Templates.named.Goals as goal

-- what is kept under a name is the template of that name
pub returns-in-Some-clause-template : goal.returns-in-Some-clause-template
returns-in-Some-clause-template c =
    let found = sym (ap (option_map (λ tree. tree.now)) c.in-Some.is) ∙ c.tree_named.ensures in
    let kept = kept_is (λ name. template_named name c.self.inside.texts) c.self.inside.trees c.args.name.now c.in-Some.tree.now
    c.self.invariant.1 (rw (← c.as_slice.ensures) found) in
    IfOk-weaker c.shared.result _ _ (λ template is. is ∙ rw (← c.self.view_is) kept) c.shared.ensures
