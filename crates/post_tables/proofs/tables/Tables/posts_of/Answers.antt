use Rattle.std.proofs.Common.{◌≡◌, ◌∙◌, true, sym, subst}
use Rattle.std.specs.Prelude.{All}
use Rattle.std.specs.List.{list_all}
use Rattle.std.specs.List.Sorted.{IsStrictlySortedBy}
use Rattle.site_records.specs.Dates.{is_post_date}
use Rattle.post_tables.specs.Page.{newest}
use Rattle.post_tables.proofs.PartLemmas.{IsOf, site_rises, site_dated, part_rises, part_is_of}
use Rattle.post_tables.proofs.tables.Tables.posts_of.Goals as goal

pub returns-in_err-posts-clause-dated : goal.returns-in_err-posts-clause-dated
returns-in_err-posts-clause-dated c = subst (λ s. list_all (λ p. is_post_date p.date) s.posts ≡ true) c.self.view_is
    (site_dated c.self.inside.conn c.self.invariant.0)

pub returns-clause-in_order : goal.returns-clause-in_order
returns-clause-in_order c =
    let rises = part_rises c.args.kind c.args.from.now c.args.to.now c.args.limit c.args.offset _ (site_rises c.self.inside.conn c.self.invariant.0) in
    subst (IsStrictlySortedBy newest) (sym (c.new.ensures ∙ c.in_ok-posts.ensures.posts)) rises

pub returns-clause-stored : goal.returns-clause-stored
returns-clause-stored c =
    let each = part_is_of c.args.kind c.args.from.now c.args.to.now c.args.limit c.args.offset _ (site_rises c.self.inside.conn c.self.invariant.0) in
    subst (λ s. All (IsOf c.args.kind c.args.from.now c.args.to.now s.posts) c.new.result) c.self.view_is
    (subst (All (IsOf c.args.kind c.args.from.now c.args.to.now _)) (sym (c.new.ensures ∙ c.in_ok-posts.ensures.posts)) each)

pub returns-clause-dated : goal.returns-clause-dated
returns-clause-dated c = subst (λ s. list_all (λ p. is_post_date p.date) s.posts ≡ true) c.self.view_is (site_dated c.self.inside.conn c.self.invariant.0)
