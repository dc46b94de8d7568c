use Rattle.std.proofs.Common.{◌∙◌, sym, ap}
use Rattle.site_http.specs.Pages.{page_line}
use Rattle.site_laws.proofs.Histories.{done-whole, page-agrees, reply-unkept}
use Rattle.http_laws.proofs.Unedited.{page-is, page_unkept, rows-stay}
use Rattle.http_laws.proofs.tags.one_tag_one_page.Goals as goal

pub returns : goal.returns
returns c = λ engine calls one mid two after path first second between asked served again none utf8 done done_too.
    let limit = one.rows.step_limit in
    let line = page_line path in
    let gets = page-is path utf8 in
    let before = reply-unkept engine calls limit one mid (record { line = line; reply = first }) asked (page_unkept line path first gets) in
    let rows = rows-stay engine calls mid two between served none ∙ before in
    let one_is = done-whole engine calls limit one mid (record { line = line; reply = first }) asked done in
    let two_is = done-whole engine calls limit two after (record { line = line; reply = second }) again done_too in
    ap (λ p. p.1) two_is ∙ page-agrees engine calls limit two one line path rows gets ∙ sym (ap (λ p. p.1) one_is)
