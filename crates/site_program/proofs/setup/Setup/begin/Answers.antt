use Rattle.std.proofs.Common.{◌∙◌, sym}
use Rattle.std.proofs.lemmas.Result.{err_from_is_err_and}
use Rattle.site_program.specs.Requests.{requested}
use Rattle.site_program.specs.Site.{engine_of, calls_of, seen_by, places_of}
use Rattle.site_program.proofs.Carrying.{begun-full, begun-stopped, begun-in}
use Rattle.site_program.proofs.Places.{position-places_of, put_seen, rows_seen, none_of}
use Rattle.site_program.proofs.setup.Setup.begin.Goals as goal

pub returns-in_default-clause-carried : goal.returns-in_default-clause-carried
returns-in_default-clause-carried g c =
    let engine = engine_of g.S.Stated.says g.S.Stated.number c.args.self.now in
    let full = position-places_of engine c.args.state.now.pages ∙ sym c.free_place.ensures.place ∙ none_of c.free_place.result c.in_default.not-Some in
    begun-full engine (calls_of c.args.self.now) (seen_by g.S.Stated.says g.S.Stated.number c.args.self.now c.args.state.now) c.args.path.now
    c.if-path-gt-MAX_PATH.false full

pub returns-in_err-page-clause-carried : goal.returns-in_err-page-clause-carried
returns-in_err-page-clause-carried g c =
    let engine = engine_of g.S.Stated.says g.S.Stated.number c.args.self.now in
    let free = position-places_of engine c.args.state.now.pages ∙ sym c.free_place.ensures.place ∙ c.in-Some.is in
    let p = err_from_is_err_and c.from_residual.result c.from_residual.ensures.1 in
    rw (p.1, p.2) (begun-stopped engine (calls_of c.args.self.now) (seen_by g.S.Stated.says g.S.Stated.number c.args.self.now c.args.state.now) c.args.path.now
    c.if-path-gt-MAX_PATH.false
    c.in-Some.place _ _ free (rows_seen _ _ (places_of engine c.args.state.now.pages) c.page_at.ensures.same) c.in_err-page.ensures.stopped)

pub returns-clause-carried : goal.returns-clause-carried
returns-clause-carried g c =
    let engine = engine_of g.S.Stated.says g.S.Stated.number c.args.self.now in
    let calls = calls_of c.args.self.now in
    let free = position-places_of engine c.args.state.now.pages ∙ sym c.free_place.ensures.place ∙ c.in-Some.is in
    let is = put_seen engine c.args.state.now.stored c.page_at.new.stored c.args.state.now.pages c.put.new.self c.in-Some.place
    c.page_at.ensures.same c.in_ok-page.page (requested engine calls c.args.state.now.stored c.args.path.now) c.put.ensures c.in_ok-page.ensures.ok in
    begun-in engine calls (seen_by g.S.Stated.says g.S.Stated.number c.args.self.now c.args.state.now) c.args.path.now c.if-path-gt-MAX_PATH.false
    c.in-Some.place _ free is
