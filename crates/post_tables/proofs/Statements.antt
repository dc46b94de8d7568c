-- What a statement leaves, whatever it does of its own.
use Rattle.std.proofs.Common.{◌≡◌, inl, inr, ℕ, List, true, false, Ok, Err, Result, IfOk, IfErr, OnErr, Vec, refl, sym, ap, subst, ◌∙◌}
use Rattle.std.specs.declared.alloc.Global.{Global}
use Rattle.sqlite.specs.Order.{Row}
use Rattle.sqlite_trees.specs.declared.memory.MemStore.{MemStore}
use Rattle.sqlite.specs.declared.error.Error.{Error}
use Rattle.sqlite.specs.Held.{Held, state}
use Rattle.sqlite.specs.declared.transaction.Transaction.{Transaction}
use Rattle.sqlite.specs.Steps.{over_memory, FailsToCommit}
use Rattle.sqlite.specs.Listing.{understood}
use Rattle.sqlite.specs.State.{Executes, ExecutesInside, IsRolledBack, Shows, Shown, FailsToQuery}
use Rattle.sqlite.proofs.Callers.{IsPlain}
use Rattle.post_tables.specs.Rows.{Rows}
use Rattle.post_tables.specs.Schema.{site_schema}
use Rattle.post_tables.specs.Stored.{IsIdle, IsKept, IsSite, IsOpen, HoldsSite, trees_of, rows_of, rows_in, Makes, MakesInside, Reads}
use Rattle.post_tables.proofs.Memory.{refused, answered, unanswered}

-- the rows in the trees, if the limit is as it was
limited : (old new : Held MemStore) → new.step_limit ≡ old.step_limit → rows_of new ≡ rows_in old.step_limit (trees_of new)
limited old new limit = ap (λ l. rows_in l (trees_of new)) limit

-- what a call that changes nothing leaves of the site
pub kept_site : (old new : Held MemStore) → IsSite old → new.step_limit ≡ old.step_limit → IsKept old new → Reads old new
kept_site old new is limit kept = record {
  site = record { holds = subst HoldsSite (sym kept.now) is.holds; idle = kept.idle };
  same = limited old new limit
      ∙ ap (λ d. rows_in old.step_limit d.trees) kept.now;
}

-- what a write has done, the limit aside
pub record IsDone (f : Rows → Rows) (old new : Held MemStore) : Type 0 where
  pub holds : HoldsSite (state over_memory new).now
  pub rows : rows_in old.step_limit (trees_of new) ≡ f (rows_of old)
  pub idle : IsIdle old → IsIdle new

module _ (f : Rows → Rows) (old new : Held MemStore) (sql : List ℕ) (params : Row) (holds : HoldsSite (state over_memory old).now)
    (limit : new.step_limit ≡ old.step_limit)
    (does : (count : ℕ) → Executes sql params (state over_memory old) (state over_memory new) (Ok count) → IsDone f old new) where
  makes_from : IsIdle old → (r : Result ℕ Error) → Executes sql params (state over_memory old) (state over_memory new) r → Makes f old new r
  makes_from idle (Ok count) h = let done = does count h in record
      { site = record { holds = done.holds; idle = done.idle idle }; ok = limited old new limit ∙ done.rows; err = tt }
  makes_from idle (Err e) h = let kept = kept_site old new (record { holds = holds; idle = idle }) limit (refused old new idle sql params e h) in record
      { site = kept.site; ok = tt; err = kept.same }

  refused_inside : (e : Error) → ExecutesInside 0 sql params (state over_memory old) (state over_memory new) (Err e)
      → (state over_memory new).committed ≡ (state over_memory old).committed
  refused_inside e (inl ran) = elim ran.1 [ inl same ↦ same.0.committed_is | inr back ↦ (back.undone refl).1 ]
  refused_inside e (inr ends) = ends.2.0.committed_is

pub makes : (f : Rows → Rows) (old new : Held MemStore) (sql : List ℕ) (params : Row) (is : IsSite old) → new.step_limit ≡ old.step_limit
    → ((count : ℕ) → Executes sql params (state over_memory old) (state over_memory new) (Ok count) → IsDone f old new)
    → (r : Result ℕ Error) → Executes sql params (state over_memory old) (state over_memory new) r → Makes f old new r
makes f old new sql params is limit does r h = makes_from f old new sql params is.holds limit does is.idle r h

module _ (f : Rows → Rows) (old new : Transaction MemStore) (sql : List ℕ) (params : Row) (is : IsOpen old)
    (same_reference : new.conn.ghost_name ≡ old.conn.ghost_name) (limit : new.conn.now.step_limit ≡ old.conn.now.step_limit)
    (does : (count : ℕ) → Executes sql params (state over_memory old.conn.now) (state over_memory new.conn.now) (Ok count)
    → IsDone f old.conn.now new.conn.now) where
  pub makes_inside : (r : Result ℕ Error) → ExecutesInside 0 sql params (state over_memory old.conn.now) (state over_memory new.conn.now) r
      → MakesInside f old new r
  makes_inside (Ok count) h = let done = does count h.0 in record {
    same_reference = same_reference;
    is_open = record { holds = done.holds; inside = h.1.mode };
    rows = limited old.conn.now new.conn.now limit ∙ done.rows;
    committed = h.1.committed_is;
    limit = limit;
  }
  makes_inside (Err e) h = record {
    same_reference = same_reference;
    is_open = tt;
    rows = tt;
    committed = refused_inside f old.conn.now new.conn.now sql params is.holds limit does e h;
    limit = limit;
  }

-- ---- queries

module _ (sql : List ℕ) (plain : IsPlain (understood site_schema sql)) (given : Row) (old new : Held MemStore) (is : IsSite old)
    (limit : new.step_limit ≡ old.step_limit) where
  query_kept : (r : Result (Vec Row Global) Error) → IfOk r (λ rows. Shown sql given (state over_memory old) (state over_memory new) rows.items)
      → IfErr r (FailsToQuery sql given (state over_memory old) (state over_memory new)) → IsKept old new
  query_kept (Ok rows) ok err = answered old new is.idle sql given rows.items (subst (λ s. IsPlain (understood s sql)) (sym is.holds.schema_is) plain) ok
  query_kept (Err e) ok err = unanswered old new is.idle sql given e err

  pub reads : (r : Result (Vec Row Global) Error) → IfOk r (λ rows. Shown sql given (state over_memory old) (state over_memory new) rows.items)
      → IfErr r (FailsToQuery sql given (state over_memory old) (state over_memory new)) → Reads old new
  reads r ok err = kept_site old new is limit (query_kept r ok err)

-- ---- how a transaction ends

pub back_site : (old last end : Held MemStore) → IsSite old → end.step_limit ≡ old.step_limit
    → (state over_memory last).committed ≡ (state over_memory old).now → IsRolledBack (state over_memory last) (state over_memory end) → Reads old end
back_site old last end is limit committed back =
    let undone = back.undone refl in
    let now : (state over_memory end).now ≡ (state over_memory old).now = undone.0 ∙ committed in
    kept_site old end is limit (record { now = now; idle = record { autocommit = back.autocommit; settled = undone.1 ∙ sym undone.0 } })

pub committed_site : (last end : Held MemStore) → HoldsSite (state over_memory last).now → end.step_limit ≡ last.step_limit
    → Shows (state over_memory last) (state over_memory end) (state over_memory last).now (state over_memory last).now false
    → IsSite end × (rows_of end ≡ rows_of last)
committed_site last end holds limit shows = (
  record { holds = subst HoldsSite (sym shows.now_is) holds; idle = record { autocommit = shows.mode; settled = shows.committed_is ∙ sym shows.now_is } },
  limited last end limit ∙ ap (λ d. rows_in last.step_limit d.trees) shows.now_is,
)

pub uncommitted_site : (old last end : Held MemStore) (e : Error) → IsSite old → end.step_limit ≡ old.step_limit → last.in_transaction ≡ true
    → (state over_memory last).committed ≡ (state over_memory old).now
    → FailsToCommit (state over_memory last) (state over_memory end) e → Reads old end
uncommitted_site old last end e is limit inside committed (inl broke) = back_site old last end is limit committed broke.3
uncommitted_site old last end e is limit inside committed (inr late) = absurd (let no_more = late.1 in cc)

pub on_err : {A E P : Type 0} (r : Result A E) → P → OnErr r P
on_err (Ok a) p = tt
on_err (Err e) p = p
