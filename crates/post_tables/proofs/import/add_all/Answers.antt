use Rattle.std.proofs.Common.{◌≡◌, ◌∙◌, rules, subst, ap}
use Rattle.sqlite.specs.Held.{state}
use Rattle.sqlite.specs.Steps.{over_memory}
use Rattle.sqlite.proofs.Callers.{memory_is_clean}
use Rattle.post_tables.specs.Rows.{with_records}
use Rattle.post_tables.specs.Stored.{IsSite, rows_of}
use Rattle.post_tables.proofs.Statements.{back_site, committed_site, uncommitted_site, on_err}
use Rattle.post_tables.proofs.import.add_all.Goals as goal

pub returns-in_err-add_records-clause-site : goal.returns-in_err-add_records-clause-site
returns-in_err-add_records-clause-site c =
    let end = c.drop-tx.new.self.0 in
    let limit : end.step_limit ≡ c.args.conn.now.step_limit = c.drop-tx.ensures.survives.limit ∙ c.in_err-add_records.ensures.made.limit
    ∙ ap (λ h. h.step_limit) c.transaction-tx.ensures.begun in
    let back = back_site c.args.conn.now c.add_records.new.tx.conn.now end c.requires limit
    (c.in_err-add_records.ensures.made.committed ∙ ap (λ h. (state over_memory h).committed) c.transaction-tx.ensures.begun ∙ c.requires.idle.settled)
    (c.drop-tx.ensures.undone (memory_is_clean end)) in
    let same : end ≡ c.conn-1.given.0 = search rules in
    subst IsSite same back.site

pub returns-in_err-add_records-clause-err : goal.returns-in_err-add_records-clause-err
returns-in_err-add_records-clause-err c =
    let end = c.drop-tx.new.self.0 in
    let limit : end.step_limit ≡ c.args.conn.now.step_limit = c.drop-tx.ensures.survives.limit ∙ c.in_err-add_records.ensures.made.limit
    ∙ ap (λ h. h.step_limit) c.transaction-tx.ensures.begun in
    let back = back_site c.args.conn.now c.add_records.new.tx.conn.now end c.requires limit
    (c.in_err-add_records.ensures.made.committed ∙ ap (λ h. (state over_memory h).committed) c.transaction-tx.ensures.begun ∙ c.requires.idle.settled)
    (c.drop-tx.ensures.undone (memory_is_clean end)) in
    let same : end ≡ c.conn-1.given.0 = search rules in
    on_err c.from_residual.result (subst (λ h. rows_of h ≡ rows_of c.args.conn.now) same back.same)

pub returns-in_err-commit-clause-site : goal.returns-in_err-commit-clause-site
returns-in_err-commit-clause-site c =
    let end = c.commit.new.self.0 in
    let made = c.in_ok-add_records.ensures.made in
    let limit : end.step_limit ≡ c.args.conn.now.step_limit = c.commit.ensures.survives.limit ∙ made.limit
    ∙ ap (λ h. h.step_limit) c.transaction-tx.ensures.begun in
    let back = uncommitted_site c.args.conn.now c.add_records.new.tx.conn.now end c.in_err-commit.field-0.0 c.requires limit made.is_open.inside
    (made.committed ∙ ap (λ h. (state over_memory h).committed) c.transaction-tx.ensures.begun ∙ c.requires.idle.settled)
    (c.in_err-commit.ensures.err (memory_is_clean end)) in
    let same : end ≡ c.conn-2-1.given.0 = search rules in
    subst IsSite same back.site

pub returns-in_err-commit-clause-err : goal.returns-in_err-commit-clause-err
returns-in_err-commit-clause-err c =
    let end = c.commit.new.self.0 in
    let made = c.in_ok-add_records.ensures.made in
    let limit : end.step_limit ≡ c.args.conn.now.step_limit = c.commit.ensures.survives.limit ∙ made.limit
    ∙ ap (λ h. h.step_limit) c.transaction-tx.ensures.begun in
    let back = uncommitted_site c.args.conn.now c.add_records.new.tx.conn.now end c.in_err-commit.field-0.0 c.requires limit made.is_open.inside
    (made.committed ∙ ap (λ h. (state over_memory h).committed) c.transaction-tx.ensures.begun ∙ c.requires.idle.settled)
    (c.in_err-commit.ensures.err (memory_is_clean end)) in
    let same : end ≡ c.conn-2-1.given.0 = search rules in
    on_err c.from_residual-in_err-commit.result (subst (λ h. rows_of h ≡ rows_of c.args.conn.now) same back.same)

pub returns-clause-site : goal.returns-clause-site
returns-clause-site c =
    let end = c.commit.new.self.0 in
    let both = committed_site c.add_records.new.tx.conn.now end c.in_ok-add_records.ensures.made.is_open.holds c.commit.ensures.survives.limit
    (c.in_ok-commit.ensures.ok (memory_is_clean end)).1 in
    let same : end ≡ c.conn-2-1.given.0 = search rules in
    subst IsSite same both.0

pub returns-clause-ok : goal.returns-clause-ok
returns-clause-ok c =
    let end = c.commit.new.self.0 in
    let made = c.in_ok-add_records.ensures.made in
    let both = committed_site c.add_records.new.tx.conn.now end made.is_open.holds c.commit.ensures.survives.limit
    (c.in_ok-commit.ensures.ok (memory_is_clean end)).1
    in
    let same : end ≡ c.conn-2-1.given.0 = search rules in
    subst (λ h. rows_of h ≡ with_records c.args.records.now (rows_of c.args.conn.now)) same
    (both.1 ∙ made.rows ∙ ap (λ h. with_records c.args.records.now (rows_of h)) c.transaction-tx.ensures.begun)
