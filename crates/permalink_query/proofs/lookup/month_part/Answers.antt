use Rattle.std.proofs.Common.{rules, ◌≡◌, ◌∙◌, true}
use Rattle.permalink_query.specs.Months.{is_month, month_start, month_end}
use Rattle.permalink_query.proofs.Spans.{month_span}
use Rattle.permalink_query.proofs.lookup.month_part.Goals as goal

pub returns-clause-posts : goal.returns-clause-posts
returns-clause-posts c =
    let is : is_month c.args.year c.args.month ≡ true = search rules in
    let from : c.in-Some.from ≡ month_start c.args.year c.args.month = search rules in
    let to : c.in-Some.to ≡ month_end c.args.year c.args.month = search rules in
    rw (from, to) at (c.in_ok-posts.ensures.ok) ∙ month_span c.args.year c.args.month c.args.size c.args.part c.args.tables.now.posts is
    c.in_ok-posts.ensures.dated
