use Rattle.std.proofs.Common.{inr, ◌∙◌, ap, sym, string_bytes}
use Rattle.site_args.specs.Answers.{suits}
use Rattle.site_args.proofs.Suiting.{bad_for, none_mapped}
use Rattle.site_args.proofs.answer.answer.Goals as goal

-- the options ask for a task that doesn't suit them
pub returns-in-Some-2-clause-read : goal.returns-in-Some-2-clause-read
returns-in-Some-2-clause-read c =
    let o = c.args.options in
    let task = c.in-Some.task in
    let none = none_mapped string_bytes o.token_file c.is_none.result (sym c.is_none.ensures) in
    bad_for o c.bad.result c.bad.ensures
    (inr (task, c.in-Some.ensures, ap (λ n. suits o.flags.http o.flags.framed n task) none ∙ sym c.suits.ensures ∙ c.if-suits.false))
