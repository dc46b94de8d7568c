use Rattle.std.proofs.Common.{◌≡◌, subst}
use Rattle.std.specs.Bool.{IsTrue}
use Rattle.serde_json.specs.Errors.{IsMemory}
use Rattle.site_import.specs.Walks.{whole}
use Rattle.site_import.specs.declared.fault.Section.TheVariants.{Text}
use Rattle.site_import.proofs.Texts.{of_tree, of_no_tree}
use Rattle.site_import.proofs.site.read_tree.Goals as goal

pub returns-in-Ok-clause-ok : goal.returns-in-Ok-clause-ok
returns-in-Ok-clause-ok c = let ok = c.in-Ok.ensures.ok in of_tree c.args.bytes.now _ ok.0 ok.1

pub returns-in-Err-2-clause-err : goal.returns-in-Err-2-clause-err
returns-in-Err-2-clause-err c _ =
    let same : c.in-Err.e ≡ c.in-Err-2.field-0 = cc (c.in-Err.is, c.in-Err-2.is) in
    let no_memory : IsMemory c.in-Err.e → ⊥ = λ m. let t : IsTrue c.is_memory.result = c.is_memory.ensures.1 m in let f = c.if-is_memory.false in cc in
    let place : c.whole.result ≡ whole Text = c.whole.ensures in
    rw place (of_no_tree c.args.bytes.now (c.in-Err-2.ensures.err (subst (λ e. IsMemory e → ⊥) same no_memory)))
