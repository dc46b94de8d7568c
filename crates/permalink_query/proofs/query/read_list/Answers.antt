use Rattle.std.proofs.Common.{◌≡◌, ◌∙◌, List, ℕ, Option, Some, option_map, codes, ap, sym}
use Rattle.std.specs.Cow.{cow_str_bytes}
use Rattle.std.specs.Str.Lossy.{utf8_lossy}
use Rattle.form_urlencoded.specs.Form.{parse}
use Rattle.permalink_query.specs.Numbers.{year_and_month}
use Rattle.permalink_query.specs.Paths.{last_value, part_of, asks}
use Rattle.permalink_query.specs.declared.query.Query.{Query}
use Rattle.permalink_query.specs.declared.query.Query.TheVariants.{Month}
use Rattle.permalink_query.proofs.LossyLemmas.{there, lossy-year_and_month}
use Rattle.permalink_query.proofs.query.read_list.Goals as goal

abbrev month : Option ℕ → List ℕ → Query
month part text = asks (λ m. asks (Month m.0 m.1) part) (year_and_month text)

pub returns-in-Some : goal.returns-in-Some
returns-in-Some c =
    let pairs = parse c.args.form.now in
    let is : Some (cow_str_bytes c.in-Some.text) ≡ option_map utf8_lossy (last_value (codes "m") pairs) =
    ap (option_map cow_str_bytes) (sym c.in-Some.is) ∙ c.in_ok-text.ensures in
    let part = part_of (last_value (codes "paged") pairs) in
    c.month.ensures ∙ ap (λ n. month n c.as_str.result.now) c.in_ok-part.ensures ∙ ap (month part) c.as_str.ensures.value
    ∙ sym (there (last_value (codes "m") pairs) _ (month part) _ is (λ v. ap (asks (λ m. asks (Month m.0 m.1) part)) (lossy-year_and_month v)))
