use Rattle.std.proofs.Common.{rules, ◌≡◌, ◌-◌, None, Some, Ok, refl, subst, ap, ◌∙◌}
use Rattle.std.specs.Prelude.{slice_set}
use Rattle.site_replies.specs.declared.reply.SiteReply.TheVariants as reply
use Rattle.template_parts.specs.declared.open_page.Turned.{Turned}
use Rattle.template_parts.specs.declared.open_page.Turned.TheVariants.{Open, Closed}
use Rattle.template_parts.specs.Open.{GoesOn}
use Rattle.site_program.specs.Site.{engine_of, opened_as, seen_by}
use Rattle.site_program.proofs.Carrying.{turned-on, turned-closed, turned-failed}
use Rattle.site_program.proofs.Places.{turned-open, turned-printed, taken_from, taken_seen, put_back_seen}
use Rattle.site_program.proofs.setup.Setup.turns.Goals as goal

pub returns-in-Ok-Open-clause-carried : goal.returns-in-Ok-Open-clause-carried
returns-in-Ok-Open-clause-carried g c =
    let engine = engine_of g.S.Stated.says g.S.Stated.number c.args.self.now in
    let site = seen_by g.S.Stated.says g.S.Stated.number c.args.self.now c.args.state.now in
    let at : c.saturating_sub-place.result ≡ c.args.number - 1 = c.saturating_sub-place.ensures in
    let there = taken_from engine c.args.state.now.pages _ _ c.take.result c.in-Some.page at c.take.ensures.page c.in-Some.is in
    let is = put_back_seen engine c.args.state.now.stored c.args.state.now.stored c.args.state.now.pages c.put.new.self (c.args.number - 1) refl
    c.take.new.self c.in-Ok-Open.page (c.take.ensures.left ∙ ap (λ k. slice_set c.args.state.now.pages k None) at)
    (c.put.ensures ∙ ap (λ k. slice_set c.take.new.self k (Some c.in-Ok-Open.page)) at) in
    let open_is : c.in-Ok-Open.field-0 ≡ Open c.in-Ok-Open.page = first_of (search rules, cc) in
    let on = subst (λ (r : Turned). GoesOn engine c.args.count c.in-Some.page (Ok r)) open_is c.in-Ok-Open.ensures.turns in
    turned-on site c.args.number c.args.count _ (opened_as engine c.in-Some.page) (Some (opened_as engine c.in-Ok-Open.page)) reply.Ok there
    (turned-open engine c.args.count c.in-Some.page c.in-Ok-Open.page on) is

pub returns-in-Ok-Closed-clause-carried : goal.returns-in-Ok-Closed-clause-carried
returns-in-Ok-Closed-clause-carried g c =
    let engine = engine_of g.S.Stated.says g.S.Stated.number c.args.self.now in
    let site = seen_by g.S.Stated.says g.S.Stated.number c.args.self.now c.args.state.now in
    let at : c.saturating_sub-place.result ≡ c.args.number - 1 = c.saturating_sub-place.ensures in
    let there = taken_from engine c.args.state.now.pages _ _ c.take.result c.in-Some.page at c.take.ensures.page c.in-Some.is in
    let is = taken_seen engine c.args.state.now.stored c.args.state.now.stored c.args.state.now.pages c.take.new.self (c.args.number - 1) refl
    (c.take.ensures.left ∙ ap (λ k. slice_set c.args.state.now.pages k None) at) in
    let closed_is : c.in-Ok-Closed.field-0 ≡ Closed c.in-Ok-Closed.status c.in-Ok-Closed.body = first_of (search rules, cc) in
    let how = subst (λ (r : Turned). GoesOn engine c.args.count c.in-Some.page (Ok r)) closed_is c.in-Ok-Closed.ensures.turns in
    turned-closed site c.args.number c.args.count _ (opened_as engine c.in-Some.page) _ c.printed.result there
    (turned-printed engine c.args.count c.in-Some.page c.in-Ok-Closed.status c.in-Ok-Closed.body.items how.0 how.1 how.2) is c.printed.ensures.ok
    c.printed.ensures.memory

pub returns-in-Err-clause-carried : goal.returns-in-Err-clause-carried
returns-in-Err-clause-carried g c =
    let engine = engine_of g.S.Stated.says g.S.Stated.number c.args.self.now in
    let site = seen_by g.S.Stated.says g.S.Stated.number c.args.self.now c.args.state.now in
    let at : c.saturating_sub-place.result ≡ c.args.number - 1 = c.saturating_sub-place.ensures in
    let there = taken_from engine c.args.state.now.pages _ _ c.take.result c.in-Some.page at c.take.ensures.page c.in-Some.is in
    let is = taken_seen engine c.args.state.now.stored c.args.state.now.stored c.args.state.now.pages c.take.new.self (c.args.number - 1) refl
    (c.take.ensures.left ∙ ap (λ k. slice_set c.args.state.now.pages k None) at) in
    turned-failed site c.args.number c.args.count _ engine c.in-Some.page c.in-Err.fault c.refused_by.result there is c.in-Err.ensures.turns
    c.refused_by.ensures.ok c.refused_by.ensures.memory
