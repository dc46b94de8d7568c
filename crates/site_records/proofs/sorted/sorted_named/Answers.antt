use Rattle.std.proofs.Common.{rules, Ok, Err}
use Rattle.std.proofs.lemmas.Fn.{always_returns_same}
use Rattle.std.specs.Ordering.{nat_cmp}
use Rattle.std.specs.Cmp.Lexicographic.{slice_cmp}
use Rattle.site_records.proofs.SortedTexts.{searched}
use Rattle.site_records.proofs.sorted.sorted_named.Goals as goal

-- each call of the closure compares the name of a text with the name that is looked for
pub returns-in-Ok : goal.returns-in-Ok
returns-in-Ok c =
    let position = c.in-Ok.ensures.position (λ t. slice_cmp nat_cmp t.0 c.args.name.now) (always_returns_same _ _ _ (λ t r f called. search rules)) in
    let found = searched c.args.name.now c.args.texts.now (Ok c.in-Ok.place) c.requires c.in-Ok.ensures.bound position c.index-texts-place.result in
    search (rules, found)

pub returns-in-Err : goal.returns-in-Err
returns-in-Err c =
    let position = c.in-Err.ensures.position (λ t. slice_cmp nat_cmp t.0 c.args.name.now) (always_returns_same _ _ _ (λ t r f called. search rules)) in
    search (rules, searched c.args.name.now c.args.texts.now (Err c.in-Err.field-0) c.requires c.in-Err.ensures.bound position)
