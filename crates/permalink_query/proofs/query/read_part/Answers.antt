use Rattle.std.proofs.Common.{◌≡◌, ◌∙◌, Some, option_map, codes, max, ap, sym}
use Rattle.std.specs.Cow.{cow_str_bytes}
use Rattle.std.specs.Str.Lossy.{utf8_lossy}
use Rattle.form_urlencoded.specs.Form.{parse}
use Rattle.permalink_query.specs.Paths.{last_value, part_number}
use Rattle.permalink_query.proofs.LossyLemmas.{there, lossy-whole_number}
use Rattle.permalink_query.proofs.query.read_part.Goals as goal

pub returns-in-Some : goal.returns-in-Some
returns-in-Some c =
    let value = last_value (codes "paged") (parse c.args.form.now) in
    let is : Some (cow_str_bytes c.in-Some.text) ≡ option_map utf8_lossy value = ap (option_map cow_str_bytes) (sym c.in-Some.is) ∙ c.in_ok-text.ensures in
    c.part_number.ensures ∙ ap part_number c.as_str.ensures.value
    ∙ sym (there value _ part_number (Some 1) is (λ v. ap (option_map (λ n. max n 1)) (lossy-whole_number v)))
