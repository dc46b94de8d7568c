-- What holds of each entry of a map, after one more is set and after one is removed.
use Rattle.std.proofs.Common.{◌≡◌, List, [], ◌∷◌, ◌++◌, map, Bool, true, false, cond, Option, None, Some, Less, Equal, Greater, refl, sym, ap, ◌∙◌, subst}
use Rattle.std.specs.declared.cmp.Ordering.{Ordering}
use Rattle.std.specs.List.{AllByRecursion}
use Rattle.std.specs.Ordering.{is_eq, eq_by_cmp}
use Rattle.std.specs.Cmp.{tied_itself}
use Rattle.std.specs.Cmp.Lexicographic.{nat_list_cmp_total}
use Rattle.std.specs.FinMap.{FinMap, empty, get, get-empty, insert, remove, entries, keys, entries_sorted, get-entries, get-insert, get-remove, slice_cmp-IsAntisymmetric, nat_cmp-IsAntisymmetric}
use Rattle.std.specs.FinMap.Entries.{find, is_sorted}
use Rattle.std.proofs.lemmas.Bool.{and_parts}
use Rattle.std.proofs.lemmas.List.{append_assoc}
use Rattle.plain_data.specs.Texts.{Text}
use Rattle.post_tables.specs.Rows.{by_bytes, Named, Names, set_all, put_all}
use Rattle.site_laws.proofs.Maps.{is_true, greater, below_later}

tied : (k l : Text) → eq_by_cmp by_bytes k l ≡ true → k ≡ l
tied k l is = slice_cmp-IsAntisymmetric nat_cmp-IsAntisymmetric k l (by (by_bytes k l) is)
  where
    by : (o : Ordering) → is_eq o ≡ true → o ≡ Equal
    by Less h = absurd (let clash : false ≡ true = h in cc)
    by Equal h = refl
    by Greater h = absurd (let clash : false ≡ true = h in cc)

module _ {X : Type 0} (P : Text × X → Type 0) where
  found_is : (q : Text) (v : X) (es : List (Text × X)) → AllByRecursion P es → find by_bytes q es ≡ Some v → P (q, v)
  found_is q v [] all is = absurd (let clash : ◌≡◌ {A = Option X} None (Some v) = is in cc)
  found_is q v (e ∷ es) all is = at (found_is q v es all.1) (eq_by_cmp by_bytes q e.0) refl is
    where
      at : (find by_bytes q es ≡ Some v → P (q, v)) → (b : Bool) → eq_by_cmp by_bytes q e.0 ≡ b → cond b (Some e.1) (find by_bytes q es) ≡ Some v → P (q, v)
      at more true same here =
          let value : e.1 ≡ v = let some : ◌≡◌ {A = Option X} (Some e.1) (Some v) = here in cc in
          subst (λ k. P (k, v)) (sym (tied q e.0 same)) (subst (λ x. P (e.0, x)) value all.0)
      at more false other later = more later

  -- an entry of a sorted list is found at its key
  there : (xs ys : List (Text × X)) (e : Text × X) → is_sorted by_bytes (xs ++ e ∷ ys) ≡ true → find by_bytes e.0 (xs ++ e ∷ ys) ≡ Some e.1
  there [] ys e h = ap (λ o. cond (is_eq o) (Some e.1) (find by_bytes e.0 ys)) (tied_itself nat_list_cmp_total e.0)
  there (x ∷ xs) ys e h =
      ap (λ b. cond b (Some x.1) (find by_bytes e.0 (xs ++ e ∷ ys))) (greater x.0 e.0 (below_later x.0 xs ys e ((and_parts _ _ h).0)))
      ∙ there xs ys e ((and_parts _ _ h).1)

  all_found : (xs ys : List (Text × X)) → is_sorted by_bytes (xs ++ ys) ≡ true → ((q : Text) (v : X) → find by_bytes q (xs ++ ys) ≡ Some v → P (q, v))
      → AllByRecursion P ys
  all_found xs [] h each = tt
  all_found xs (e ∷ ys) h each =
      let regroup = append_assoc xs (e ∷ []) ys in (
        each e.0 e.1 (there xs ys e h),
        all_found (xs ++ e ∷ []) ys (ap (is_sorted by_bytes) regroup ∙ h) (λ q v is. each q v (ap (find by_bytes q) (sym regroup) ∙ is)),
      )

  of_entries : (m : FinMap by_bytes X) → AllByRecursion P (entries m) → (q : Text) (v : X) → get m q ≡ Some v → P (q, v)
  of_entries m all q v is = found_is q v (entries m) all (sym (get-entries m q) ∙ is)

  to_entries : (m : FinMap by_bytes X) → ((q : Text) (v : X) → get m q ≡ Some v → P (q, v)) → AllByRecursion P (entries m)
  to_entries m each = all_found [] (entries m) (is_true _ (entries_sorted m)) (λ q v is. each q v (get-entries m q ∙ is))

  pub all_inserted : (m : FinMap by_bytes X) (k : Text) (v : X) → AllByRecursion P (entries m) → P (k, v) → AllByRecursion P (entries (insert m k v))
  all_inserted m k v all is = to_entries (insert m k v) (λ q x found. at q x (eq_by_cmp by_bytes q k) refl (sym (get-insert nat_list_cmp_total m k v q) ∙ found))
    where
      at : (q : Text) (x : X) (b : Bool) → eq_by_cmp by_bytes q k ≡ b → cond b (Some v) (get m q) ≡ Some x → P (q, x)
      at q x true same here =
          let value : v ≡ x = let some : ◌≡◌ {A = Option X} (Some v) (Some x) = here in cc in
          subst (λ l. P (l, x)) (sym (tied q k same)) (subst (λ y. P (k, y)) value is)
      at q x false other later = of_entries m all q x later

  pub all_removed : (m : FinMap by_bytes X) (k : Text) → AllByRecursion P (entries m) → AllByRecursion P (entries (remove m k))
  all_removed m k all = to_entries (remove m k) (λ q x found. at q x (eq_by_cmp by_bytes q k) (sym (get-remove nat_list_cmp_total m k q) ∙ found))
    where
      at : (q : Text) (x : X) (b : Bool) → cond b None (get m q) ≡ Some x → P (q, x)
      at q x true here = absurd (let clash : ◌≡◌ {A = Option X} None (Some x) = here in cc)
      at q x false later = of_entries m all q x later

  pub none_set : AllByRecursion P (entries (empty {X = X} {R = by_bytes}))
  none_set = to_entries empty (λ q x found. absurd (let clash : ◌≡◌ {A = Option X} None (Some x) = sym (get-empty by_bytes q) ∙ found in cc))

pub all_set : (P : Text × Text → Type 0) (pairs : List (Text × Text)) (m : Named) → AllByRecursion P pairs → AllByRecursion P (entries m)
    → AllByRecursion P (entries (set_all pairs m))
all_set P [] m pairs all = all
all_set P (p ∷ ps) m pairs all = all_set P ps (insert m p.0 p.1) pairs.1 (all_inserted P m p.0 p.1 all pairs.0)

-- ---- names

module _ (P : Text → Type 0) where
  abbrev OfName : Text × (Unit {0}) → Type 0
  OfName e = P e.0

  of_map : (es : List (Text × (Unit {0}))) → AllByRecursion P (map (λ e. e.0) es) → AllByRecursion OfName es
  of_map [] all = tt
  of_map (e ∷ es) all = (all.0, of_map es all.1)

  to_map : (es : List (Text × (Unit {0}))) → AllByRecursion OfName es → AllByRecursion P (map (λ e. e.0) es)
  to_map [] all = tt
  to_map (e ∷ es) all = (all.0, to_map es all.1)

  pub name_added : (m : Names) (k : Text) → AllByRecursion P (keys m) → P k → AllByRecursion P (keys (insert m k tt))
  name_added m k all is = to_map (entries (insert m k tt)) (all_inserted OfName m k tt (of_map (entries m) all) is)

  pub name_removed : (m : Names) (k : Text) → AllByRecursion P (keys m) → AllByRecursion P (keys (remove m k))
  name_removed m k all = to_map (entries (remove m k)) (all_removed OfName m k (of_map (entries m) all))

  pub names_put : (names : List Text) (m : Names) → AllByRecursion P names → AllByRecursion P (keys m) → AllByRecursion P (keys (put_all names m))
  names_put [] m names all = all
  names_put (n ∷ ns) m names all = names_put ns (insert m n tt) names.1 (name_added m n all names.0)

  pub none_named : AllByRecursion P (keys (empty {X = Unit {0}} {R = by_bytes}))
  none_named = to_map (entries empty) (none_set OfName)
