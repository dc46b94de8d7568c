use Rattle.std.proofs.Common.{◌∙◌}
use Rattle.std.proofs.lemmas.Result.{IfOk-weaker}
use Rattle.permalink_query.proofs.Spans.{front_span}
use Rattle.permalink_query.proofs.lookup.front_part.Goals as goal

pub returns-clause-ok : goal.returns-clause-ok
returns-clause-ok c =
    IfOk-weaker c.part_of.result _ _
    (λ posts is. is ∙ front_span c.args.size c.args.part c.args.tables.now.posts c.part_of.ensures.dated)
    (rw (c.all_dates-from.ensures.from, c.all_dates-from.ensures.to) at (c.part_of.ensures.ok))
