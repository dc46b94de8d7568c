use Rattle.shortcode_atts.proofs.ValueLemmas as lemmas
use Rattle.shortcode_atts.proofs.a_run_of_blanks_is_one_space.Goals as goal

pub returns-clause-run : goal.returns-clause-run
returns-clause-run c = lemmas.spaced-run

pub returns-clause-other : goal.returns-clause-other
returns-clause-other c = lemmas.spaced-other
