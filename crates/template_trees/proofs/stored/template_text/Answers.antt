use Rattle.std.proofs.Common.{arith, ◌∙◌}
use Rattle.serde_json.specs.View.{view}
use Rattle.template_trees.proofs.Shallow.{template_shallow, stored_template-read}
use Rattle.template_trees.proofs.stored.template_text.Goals as goal

pub returns-clause-compact : goal.returns-clause-compact
returns-clause-compact c name template is =
    let small = template_shallow name (view c.args.value.now) template is in
    c.new.ensures ∙ c.in_ok-to_string.ensures.text small.whole

pub returns-clause-reads_back : goal.returns-clause-reads_back
returns-clause-reads_back c name template is =
    let small = template_shallow name (view c.args.value.now) template is in
    let deep = small.deep in
    rw c.new.ensures (stored_template-read name _ (view c.args.value.now) template (c.in_ok-to_string.ensures.reads_back (omega arith)) is)
