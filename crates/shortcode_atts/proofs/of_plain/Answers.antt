use Rattle.std.proofs.Common.{sym, ◌∙◌, ap}
use Rattle.std.specs.Prelude.{fold, chars}
use Rattle.shortcode_atts.specs.Items.{item_at, items_of}
use Rattle.shortcode_atts.specs.Attributes.{add}
use Rattle.shortcode_atts.specs.Found.{item_now, item_spelling}
use Rattle.shortcode_atts.proofs.AttsLemmas.{attributes-more, attributes-end}
use Rattle.shortcode_atts.proofs.SpellsLemmas.{next-found, next-none}
use Rattle.shortcode_atts.proofs.of_plain.Goals as goal

pub add-requires : goal.add-requires
add-requires c =
    let found = sym (c.in-Some.ensures.value ∙ ap item_at c.skip_white.ensures.value) in
    (next-found c.items.rest.now c.items.invariant.text (item_now c.in-Some.found) found).0

pub items-preserved : goal.items-preserved
items-preserved c =
    let it = item_now c.in-Some.found in
    let rest = c.items.rest.now in
    let found = sym (c.in-Some.ensures.value ∙ ap item_at c.skip_white.ensures.value) in
    let next = next-found rest c.items.invariant.text it found in
    record {
      text = next.0.rest;
      same = ap (λ a. fold add a (items_of (chars it.rest))) c.in_ok-add.ensures ∙ sym (attributes-more c.items.atts (chars rest) (item_spelling it) next.1)
          ∙ c.items.invariant.same;
    }

pub returns : goal.returns
returns c =
    let rest = c.items.rest.now in
    let none = sym (c.in_default.ensures.value ∙ ap item_at c.skip_white.ensures.value) in
    sym (attributes-end c.items.atts (chars rest) (next-none rest c.items.invariant.text none)) ∙ c.items.invariant.same
