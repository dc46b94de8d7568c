use Rattle.std.proofs.Common.{rules, ◌≡◌}
use Rattle.std.specs.FinMap.{entries_sorted}
use Rattle.site_records.specs.Sorted.{AreSorted}
use Rattle.site_store.specs.Stored.{options_of, templates_of, active_of, found_by}
use Rattle.site_program.specs.Requests.{settings_for}
use Rattle.site_program.specs.Site.{engine_of, calls_of, opened_as}
use Rattle.site_program.proofs.Pages.{opened-page, requested-is}
use Rattle.site_program.proofs.setup.Setup.page_at.Goals as goal

-- the rows hold the options in ascending order of their names
pub settings_for-settings-requires : goal.settings_for-settings-requires
settings_for-settings-requires g c =
    let rows = c.args.stored.now in
    let is : c.in_ok-options.options ≡ options_of rows = search rules in
    let sorted : AreSorted c.in_ok-options.options = rw is (entries_sorted rows.options) in
    search (rules, sorted)

-- the page is that of what was found, and what was read is what the rows hold
pub returns-clause-ok : goal.returns-clause-ok
returns-clause-ok g c =
    let engine = engine_of g.S.Stated.says g.S.Stated.number c.args.self.now in
    let calls = calls_of c.args.self.now in
    let rows = c.args.stored.now in
    let o : c.in_ok-options.options ≡ options_of rows = search rules in
    let t : c.in_ok-templates.templates ≡ templates_of rows = search rules in
    let a : c.in_ok-active.active ≡ active_of rows = search rules in
    let f : c.in_ok-found.found ≡ found_by rows c.args.path.now = search rules in
    let settings : c.in_ok-settings.settings ≡ settings_for c.in_ok-found.found.kind c.in_ok-options.options c.in_ok-templates.templates = search rules in
    let page = opened-page engine calls c.in_ok-found.found c.in_ok-options.options c.in_ok-templates.templates c.in_ok-active.active c.begin.result
    c.in_ok-settings.settings _ settings c.in_ok-run.ensures.world (c.begin.ensures.left engine) c.begin.ensures.status in
    requested-is engine calls rows c.args.path.now (opened_as engine c.begin.result) c.in_ok-found.found c.in_ok-options.options
    c.in_ok-templates.templates c.in_ok-active.active f o t a page
