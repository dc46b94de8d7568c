use Rattle.std.proofs.Common.{rules, arith}
use Rattle.std.proofs.lemmas.Grind.{common_steps}
use Rattle.shortcode_scan.specs.Matches.{core_of}
use Rattle.shortcode_scan.proofs.matches.core_of.Goals as goal

pub returns-in-Some-clause-value : goal.returns-in-Some-clause-value
unfolding core_of
returns-in-Some-clause-value c = grind (arith, common_steps)

pub returns-in-None-clause-value : goal.returns-in-None-clause-value
unfolding core_of
returns-in-None-clause-value c = search rules
