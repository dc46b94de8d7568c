-- What a query on one table returns, if ORDER BY leaves no tie.
use Rattle.std.proofs.Common.{◌≡◌, inl, inr, ℕ, List, [], ◌∷◌, ◌++◌, map, flat_map, filter, Bool, true, false, cond, None, refl, ap, subst, ◌∙◌}
use Rattle.std.specs.List.{list_all, IsDistinct}
use Rattle.std.specs.List.Sorted.{IsPermutation}
use Rattle.std.specs.Ordering.{eq_by_cmp}
use Rattle.sqlite.specs.Order.{Row}
use Rattle.sqlite.specs.Term.{Term, Env, holds}
use Rattle.sqlite.specs.Tree.{Trees}
use Rattle.sqlite.specs.Query.{Query, inner, end, IsAnswer, output, output_cmp, page, Output}
use Rattle.sqlite_value.specs.declared.keys.Collation.{Collation}
use Rattle.sqlite_value.specs.declared.keys.Key.{Key}
use Rattle.sqlite_sql.proofs.QueryLemmas.{output_cmp_total}
use Rattle.sqlite_sql.specs.Program.{QueryOverflows}
use Rattle.table_rows.specs.Sorting.{in_order}
use Rattle.table_rows.proofs.SortLemmas.{one_in_order}

module _ (t : ℕ) (where_ : List Term) (project : List Term) (collations : List Collation) (order : List (Term × Key)) (limit offset : Term) where
  abbrev pub query : Query
  query = record {
    from = inner t end;
    filter = where_;
    group = None;
    project = project;
    distinct = false;
    collations = collations;
    order = order;
    limit =
        limit;
    offset = offset;
  }

  module _ (db : Trees) (params : Row) where
    abbrev pub passes : Row → Bool
    passes r = list_all (holds (params ∷ r ∷ [])) where_

    abbrev pub outputs : List Output
    outputs = map (λ r. output query (params ∷ r ∷ [])) (filter passes (db t))

    abbrev env : Row → Env
    env r = params ∷ r ∷ []

    -- it adds nothing up
    pub never_sums : ¬ QueryOverflows query db params
    never_sums (inl group) = group
    never_sums (inr fold) = fold.4

    all_matches : (rows : List Row) → flat_map (λ r. cond (passes r) (env r ∷ []) []) rows ≡ map env (filter passes rows)
    all_matches [] = refl
    all_matches (r ∷ rows) = elim (passes r) as (λ b. cond b (env r ∷ []) [] ++ flat_map (λ x. cond (passes x) (env x ∷ []) []) rows
        ≡ map env (cond b (r ∷ filter passes rows) (filter passes rows)))
        [ true ↦ ap (λ l. env r ∷ l) (all_matches rows) | false ↦ all_matches rows ]

    shown_all : (rows : List Row) → map (output query) (map env rows) ≡ map (λ r. output query (env r)) rows
    shown_all [] = refl
    shown_all (r ∷ rows) = ap (λ l. output query (env r) ∷ l) (shown_all rows)

    module _ (rows : List Row) (a : IsAnswer query db params rows) where
      kept_is : a.kept ≡ outputs
      kept_is = a.distinct ∙ ap (map (output query)) (a.grouped ∙ all_matches (db t)) ∙ shown_all (filter passes (db t))

      -- the rows of the result, whatever the order
      pub some_order : IsPermutation outputs a.ordered
      some_order = subst (λ k. IsPermutation k a.ordered) kept_is a.same

      -- and if no two tie, in the one order
      pub answer_is : IsDistinct (eq_by_cmp (output_cmp query)) outputs → rows ≡ page query params (map (λ o. o.1) (in_order (output_cmp query) outputs))
      answer_is apart = a.shown ∙ ap (λ os. page query params (map (λ (o : Output). o.1) os))
          (one_in_order (output_cmp query) (output_cmp_total query) outputs a.ordered some_order apart a.sorted)
