use Rattle.std.proofs.Common.{◌≡◌, ◌∙◌, List, ℕ, Some, None, option_map, codes, ap, sym}
use Rattle.std.specs.Cow.{cow_str_bytes}
use Rattle.std.specs.Str.Lossy.{utf8_lossy}
use Rattle.form_urlencoded.specs.Form.{parse}
use Rattle.permalink_query.specs.Numbers.{whole_number}
use Rattle.permalink_query.specs.Paths.{last_value, asks}
use Rattle.permalink_query.specs.declared.query.Query.{Query}
use Rattle.permalink_query.specs.declared.query.Query.TheVariants.{Single, Page}
use Rattle.permalink_query.proofs.LossyLemmas.{there, missing, lossy-whole_number}
use Rattle.permalink_query.proofs.query.read_form.Goals as goal

abbrev single : List ℕ → Query
single id = asks Single (whole_number id)

abbrev page : List ℕ → Query
page id = asks Page (whole_number id)

pub returns-in-Some : goal.returns-in-Some
returns-in-Some c =
    let pairs = parse c.args.form.now in
    let is : Some (cow_str_bytes c.in-Some.id) ≡ option_map utf8_lossy (last_value (codes "p") pairs) =
    ap (option_map cow_str_bytes) (sym c.in-Some.is) ∙ c.in_ok-id.ensures in
    c.single.ensures ∙ ap single c.as_str.ensures.value
    ∙ sym (there (last_value (codes "p") pairs) _ single _ is (λ v. ap (asks Single) (lossy-whole_number v)))

pub returns-in-Some-2 : goal.returns-in-Some-2
returns-in-Some-2 c =
    let pairs = parse c.args.form.now in
    let no_p : None ≡ option_map utf8_lossy (last_value (codes "p") pairs) =
    ap (option_map cow_str_bytes) (sym c.in_default.is) ∙ c.in_ok-id.ensures in
    let is : Some (cow_str_bytes c.in-Some-2.id) ≡ option_map utf8_lossy (last_value (codes "page_id") pairs) =
    ap (option_map cow_str_bytes) (sym c.in-Some-2.is) ∙ c.in_ok-id-2.ensures in
    c.page.ensures ∙ ap page c.as_str-in-Some-2.ensures.value
    ∙ sym (there (last_value (codes "page_id") pairs) _ page _ is (λ v. ap (asks Page) (lossy-whole_number v)))
    ∙ sym (missing (last_value (codes "p") pairs) single _ no_p)
