use Rattle.std.proofs.Common.{refl}
use Rattle.snippets.specs.Templates.{printed, pieces_of, parts_of, part_at}
use Rattle.snippets.proofs.laws.worked_templates.Goals as goal

pub returns : goal.returns
unfolding printed pieces_of parts_of part_at
returns c = record {
  default = refl;
  escaped = refl;
  script = refl;
  section = refl;
  inverted = refl;
  no_part = refl;
  doctype = refl;
  comment = refl;
}
