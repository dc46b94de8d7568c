-- What a change at one priority leaves at the priorities above it.
use Rattle.std.proofs.Common.{◌≡◌, ℕ, ℤ, true, false, Bool, cond, not, ◌&&◌, true≢false, List, [], ◌∷◌, map, filter, refl, ap, sym, subst, ◌∙◌, Some, None}
use Rattle.std.proofs.Common.{arith}
use Rattle.std.specs.Prelude.{◌==◌, bytes_eq, int_lt, ◌<ℤ◌, ◌≤ℤ◌}
use Rattle.std.specs.Ordering.{int_eq}
use Rattle.std.proofs.lemmas.Bool.Decides.{Decides-int_eq}
use Rattle.std.proofs.lemmas.Int.{ints}
use Rattle.hook_registry.specs.declared.registration.Registration.{Registration}
use Rattle.hook_registry.specs.Table as table
use Rattle.hook_registry.specs.Table.{Table, registrations, is_at, is_of, is_other, with_added, keeping, entry_of, least, group, after}
use Rattle.hook_registry.specs.OneList.{TableChange, Added, Removed, RemovedAll, with_change, priority_changed}
use Rattle.hook_registry.proofs.OneList.{same_name, registrations-set, registrations-set_other, registrations-keeping, registrations-keeping_other}

-- a test of priorities
module _ (test : ℤ → Bool) where
  -- those whose priority passes
  abbrev passing : List Registration → List Registration
  passing rs = filter (λ r. test r.priority) rs

  -- a priority that is at one that fails fails too
  fails_at : (q : ℤ) (r : Registration) → test q ≡ false → is_at q r ≡ true → test r.priority ≡ false
  fails_at q r f e = subst (λ z. test z ≡ false) (sym ((Decides-int_eq r.priority q).0 e)) f

  -- before r, or after it
  passing-placed : (new r : Registration) (rs following : List Registration) → test new.priority ≡ false → passing following ≡ passing rs
      → passing (cond (int_lt new.priority r.priority) (new ∷ r ∷ rs) (r ∷ following)) ≡ passing (r ∷ rs)
  passing-placed new r rs following f e =
      elim (int_lt new.priority r.priority) as (λ b. passing (cond b (new ∷ r ∷ rs) (r ∷ following)) ≡ passing (r ∷ rs))
      [ true ↦ rw f refl | false ↦ ap (λ rest. cond (test r.priority) (r ∷ rest) rest) e ]

  passing-with_added : (rs : List Registration) (new : Registration) → test new.priority ≡ false → passing (with_added rs new) ≡ passing rs
  passing-with_added [] new f = rw f refl
  passing-with_added (r ∷ rs) new f =
      let further = passing-placed new r rs (with_added rs new) f (passing-with_added rs new f) in
      elim (is_at new.priority r) as (λ b. is_at new.priority r ≡ b
      → passing (cond (b && (r.callback == new.callback)) (record r { accepted = new.accepted } ∷ rs)
      (cond (int_lt new.priority r.priority) (new ∷ r ∷ rs) (r ∷ with_added rs new))) ≡ passing (r ∷ rs)) [
        | true ↦ λ e.
            elim (r.callback == new.callback) as (λ b. passing (cond b (record r { accepted = new.accepted } ∷ rs)
            (cond (int_lt new.priority r.priority) (new ∷ r ∷ rs) (r ∷ with_added rs new))) ≡ passing (r ∷ rs))
            [ true ↦ rw (fails_at new.priority r f e) refl | false ↦ further ]
        | false ↦ λ e. further
      ] refl

  passing-filter : (passes : Registration → Bool) → ((r : Registration) → test r.priority ≡ true → passes r ≡ true) → (rs : List Registration)
      → passing (filter passes rs) ≡ passing rs
  passing-filter passes stays [] = refl
  passing-filter passes stays (r ∷ rs) =
      elim (test r.priority) as (λ b. test r.priority ≡ b → passing (filter passes (r ∷ rs)) ≡ cond b (r ∷ passing rs) (passing rs)) [
        | true ↦ λ e. rw (stays r e, e) (ap (λ rest. r ∷ rest) (passing-filter passes stays rs))
        | false ↦ λ e.
            elim (passes r) as (λ b. passing (cond b (r ∷ filter passes rs) (filter passes rs)) ≡ passing rs)
            [ true ↦ rw e (passing-filter passes stays rs) | false ↦ passing-filter passes stays rs ]
      ] refl

  -- what is at a priority that fails doesn't pass
  not_at : (q : ℤ) (r : Registration) → test q ≡ false → test r.priority ≡ true → is_at q r ≡ false
  not_at q r f t =
      elim (is_at q r) as (λ b. is_at q r ≡ b → b ≡ false) [ true ↦ λ e. absurd (true≢false (sym t ∙ fails_at q r f e)) | false ↦ λ e. refl ] refl

  in_keeping : (passes : Registration → Bool) → ((r : Registration) → test r.priority ≡ true → passes r ≡ true) → (t : Table) (hook other : List ℕ)
      → passing (registrations (keeping passes t hook) other) ≡ passing (registrations t other)
  in_keeping passes stays t hook other =
      elim (bytes_eq other hook) as (λ b. bytes_eq other hook ≡ b → passing (registrations (keeping passes t hook) other) ≡ passing (registrations t other)) [
        | true ↦ λ e.
            subst (λ k. passing (registrations (keeping passes t hook) k) ≡ passing (registrations t k)) (sym (same_name other hook e))
            (ap passing (registrations-keeping passes t hook) ∙ passing-filter passes stays (registrations t hook))
        | false ↦ λ n. ap passing (registrations-keeping_other passes t hook other n)
      ] refl

  in_add : (t : Table) (hook other : List ℕ) (new : Registration) → test new.priority ≡ false
      → passing (registrations (table.add t hook new) other) ≡ passing (registrations t other)
  in_add t hook other new f =
      elim (bytes_eq other hook) as (λ b. bytes_eq other hook ≡ b → passing (registrations (table.add t hook new) other) ≡ passing (registrations t other)) [
        | true ↦ λ e.
            subst (λ k. passing (registrations (table.add t hook new) k) ≡ passing (registrations t k)) (sym (same_name other hook e))
            (ap passing (registrations-set t hook (with_added (registrations t hook) new)) ∙ passing-with_added (registrations t hook) new f)
        | false ↦ λ n. ap passing (registrations-set_other t hook other (with_added (registrations t hook) new) n)
      ] refl

  -- a change at a priority that fails leaves those that pass
  pub passing-changed : (t : Table) (change : TableChange) (hook : List ℕ) (q : ℤ) → priority_changed change ≡ Some q → test q ≡ false
      → passing (registrations (with_change t change) hook) ≡ passing (registrations t hook)
  passing-changed t (Added at new) hook q e f = let same : new.priority ≡ q = cc in in_add t at hook new (rw same f)
  passing-changed t (Removed at p callback) hook q e f =
      let same : p ≡ q = cc in
      in_keeping (λ r. not (is_of p callback r)) (λ r s. rw (not_at p r (rw same f) s) refl) t at hook
  passing-changed t (RemovedAll at None) hook q e f = cc
  passing-changed t (RemovedAll at (Some p)) hook q e f =
      let same : p ≡ q = cc in
      in_keeping (is_other (Some p)) (λ r s. rw (not_at p r (rw same f) s) refl) t at hook

not_equal : (q r : ℤ) → q <ℤ r → int_eq q r ≡ false
not_equal q r h = elim (int_eq q r) as (λ b. int_eq q r ≡ b → b ≡ false)
    [ true ↦ λ e. let same : q ≡ r = (Decides-int_eq q r).0 e in absurd (omega (arith, ints)) | false ↦ λ e. refl ] refl

not_less : (q r : ℤ) → q ≤ℤ r → int_lt r q ≡ false
not_less q r h = grind (arith, ints)

pub group-changed : (t : Table) (change : TableChange) (hook : List ℕ) (q r : ℤ) → priority_changed change ≡ Some q → q <ℤ r
    → group (with_change t change) hook r ≡ group t hook r
group-changed t change hook q r e h = ap (map entry_of) (passing-changed (λ z. int_eq z r) t change hook q e (not_equal q r h))

pub after-changed : (t : Table) (change : TableChange) (hook : List ℕ) (q r : ℤ) → priority_changed change ≡ Some q → q ≤ℤ r
    → after (with_change t change) hook r ≡ after t hook r
after-changed t change hook q r e h = ap (λ rs. least (map (λ x. x.priority) rs)) (passing-changed (λ z. int_lt r z) t change hook q e (not_less q r h))
