use Rattle.std.proofs.Common.{◌≡◌, ◌∙◌, ◌++◌, codes, pos, refl, ap, sym}
use Rattle.site_records.specs.Dates.{is_post_date}
use Rattle.jiff.specs.Words.{date_text, days_in_month}
use Rattle.permalink_query.specs.Months.{day_text}
use Rattle.permalink_query.proofs.MonthLemmas.{first_day_dated, last_day_dated}
use Rattle.permalink_query.proofs.month.month_span.Goals as goal

pub moment-requires : goal.moment-requires
moment-requires c =
    let (y, m, d) = c.in-Some.ensures.day in
    let month : c.in-Some.first.month ≡ c.args.month = cc in
    let day : c.in-Some.first.day ≡ 1 = cc in
    let text : date_text c.in-Some.first ≡ day_text c.args.year c.args.month 1 = rw (y, month, day) refl in
    ap (λ t. is_post_date (t ++ codes " " ++ codes "00:00:00")) text ∙ first_day_dated c.args.year c.args.month (sym c.in-Some.ensures.there)

pub moment-requires-2 : goal.moment-requires-2
moment-requires-2 c =
    let (y, m, d) = c.in-Some.ensures.day in
    let (y', m', d') = c.last_of_month.ensures in
    let year : c.last_of_month.result.year ≡ pos c.args.year = cc in
    let month : c.last_of_month.result.month ≡ c.args.month = cc in
    let first_month : c.in-Some.first.month ≡ c.args.month = cc in
    let length : days_in_month c.in-Some.first.year c.in-Some.first.month ≡ days_in_month (pos c.args.year) c.args.month = rw (y, first_month) refl in
    let day : c.last_of_month.result.day ≡ days_in_month (pos c.args.year) c.args.month = cc in
    let text : date_text c.last_of_month.result ≡ day_text c.args.year c.args.month (days_in_month (pos c.args.year) c.args.month) = rw (year, month, day)
    refl in
    ap (λ t. is_post_date (t ++ codes " " ++ codes "23:59:59")) text ∙ last_day_dated c.args.year c.args.month (sym c.in-Some.ensures.there)
