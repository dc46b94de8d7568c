use Rattle.std.proofs.Common.{◌≡◌, length}
use Rattle.std.specs.Prelude.{fold, chars}
use Rattle.std.specs.Str.{IsUtf8}
use Rattle.shortcode_atts.specs.Items.{items_of}
use Rattle.shortcode_atts.specs.Attributes.{add, no_attributes}
use Rattle.shortcode_atts.proofs.of_plain.Given as goal

abbrev pub invariant-items : goal.invariant-items
invariant-items l = record {
  text : IsUtf8 l.rest;
  same : fold add l.atts (items_of (chars l.rest)) ≡ fold add no_attributes (items_of (chars l.text));
}

abbrev pub decreases-items : goal.decreases-items
decreases-items l = length l.rest
