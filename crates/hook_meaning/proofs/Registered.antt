-- Changes register active callbacks alone.
use Rattle.std.proofs.Common.{◌≡◌, ℕ, true, false, Bool, cond, ◌&&◌, ◌||◌, ◌==◌, List, [], ◌∷◌, ◌++◌, refl, Some}
use Rattle.std.specs.Prelude.{unwrap_or, filter, not, bytes_eq, nat_le, int_lt, if◌then◌else◌}
use Rattle.std.specs.List.{list_all}
use Rattle.plain_data.specs.Names.{is_hook_name, is_tag_name}
use Rattle.hook_changes.specs.declared.reply.Change.{Change}
use Rattle.hook_changes.specs.declared.reply.Change.TheVariants.{Add, Remove, RemoveAll, AddTag, RemoveTag, RemoveAllTags}
use Rattle.callback_store.specs.Shape.{Shape, is_held_by}
use Rattle.hook_registry.specs.declared.registration.Registration.{Registration}
use Rattle.hook_registry.specs.Named.{value_of, set_value, remove_value}
use Rattle.hook_registry.specs.Table.{Table, registrations, with_added, keeping, is_of, is_other, add, remove, remove_all}
use Rattle.plain_data.specs.Texts.{Text}
use Rattle.hook_meaning.specs.World.{World, is_active, world_after_change, core_changes, load_changes, fresh, loaded}
use Rattle.hook_meaning.specs.Throughout.{names_active}
use Rattle.hook_meaning.proofs.Agree.{Keeps, keeps_all}

pub and_left : (a b : Bool) → (a && b) ≡ true → a ≡ true
and_left true b e = refl
and_left false b e = e

pub and_right : (a b : Bool) → (a && b) ≡ true → b ≡ true
and_right true b e = e
and_right false b e = cc

and_both : (a b : Bool) → a ≡ true → b ≡ true → (a && b) ≡ true
and_both a b e f = rw (e, f) refl

module _ {X : Type 0} (test : X → Bool) where
  abbrev all_values : List (List ℕ × X) → Bool
  all_values pairs = list_all (λ p. test p.1) pairs

  all-set : (pairs : List (List ℕ × X)) (name : List ℕ) (v : X) → all_values pairs ≡ true → test v ≡ true → all_values (set_value pairs name v) ≡ true
  all-set [] name v h t = and_both (test v) true t refl
  all-set (p ∷ ps) name v h t =
      elim (bytes_eq name p.0) as (λ b. all_values (if b then (p.0, v) ∷ ps else p ∷ set_value ps name v) ≡ true) [
        | true ↦ and_both (test v) (all_values ps) t (and_right (test p.1) (all_values ps) h)
        | false ↦ and_both (test p.1) (all_values (set_value ps name v)) (and_left (test p.1) (all_values ps) h)
            (all-set ps name v (and_right (test p.1) (all_values ps) h) t)
      ]

  all-remove : (pairs : List (List ℕ × X)) (name : List ℕ) → all_values pairs ≡ true → all_values (remove_value pairs name) ≡ true
  all-remove [] name h = h
  all-remove (p ∷ ps) name h =
      elim (bytes_eq name p.0) as (λ b. all_values (cond b ps (p ∷ remove_value ps name)) ≡ true) [
        | true ↦ and_right (test p.1) (all_values ps) h
        | false ↦ and_both (test p.1) (all_values (remove_value ps name)) (and_left (test p.1) (all_values ps) h)
            (all-remove ps name (and_right (test p.1) (all_values ps) h))
      ]

  pub all-value : (pairs : List (List ℕ × X)) (name : List ℕ) (d : X) → test d ≡ true → all_values pairs ≡ true → test (unwrap_or (value_of pairs name) d)
      ≡ true
  all-value [] name d t h = t
  all-value (p ∷ ps) name d t h =
      elim (bytes_eq name p.0) as (λ b. test (unwrap_or (cond b (Some p.1) (value_of ps name)) d) ≡ true) [
        | true ↦ and_left (test p.1) (all_values ps) h
        | false ↦ all-value ps name d t (and_right (test p.1) (all_values ps) h)
      ]

  all-filter : (passes : X → Bool) (xs : List X) → list_all test xs ≡ true → list_all test (filter passes xs) ≡ true
  all-filter passes [] h = h
  all-filter passes (x ∷ xs) h =
      elim (passes x) as (λ b. list_all test (cond b (x ∷ filter passes xs) (filter passes xs)) ≡ true) [
        | true ↦ and_both (test x) (list_all test (filter passes xs)) (and_left (test x) (list_all test xs) h)
            (all-filter passes xs (and_right (test x) (list_all test xs) h))
        | false ↦ all-filter passes xs (and_right (test x) (list_all test xs) h)
      ]

module _ (test : ℕ → Bool) where
  abbrev passing : Registration → Bool
  passing r = test r.callback

  abbrev all_passing : List Registration → Bool
  all_passing rs = list_all passing rs

  all-added : (rs : List Registration) (new : Registration) → all_passing rs ≡ true → test new.callback ≡ true → all_passing (with_added rs new) ≡ true
  all-added [] new h t = and_both (test new.callback) true t refl
  all-added (r ∷ rs) new h t =
      elim (is_of new.priority new.callback r) as (λ b. all_passing
      (if b then record r { accepted = new.accepted } ∷ rs else if int_lt new.priority r.priority then new ∷ r ∷ rs else r ∷ with_added rs new) ≡ true) [
        | true ↦ h
        | false ↦ elim (int_lt new.priority r.priority) as (λ b. all_passing (if b then new ∷ r ∷ rs else r ∷ with_added rs new) ≡ true) [
          | true ↦ and_both (test new.callback) (all_passing (r ∷ rs)) t h
          | false ↦ and_both (test r.callback) (all_passing (with_added rs new)) (and_left (test r.callback) (all_passing rs) h)
              (all-added rs new (and_right (test r.callback) (all_passing rs) h) t)
        ]
      ]

  abbrev all_in : Table → Bool
  all_in table = all_values all_passing table

  all-add : (table : Table) (hook : Text) (new : Registration) → all_in table ≡ true → test new.callback ≡ true → all_in (add table hook new) ≡ true
  all-add table hook new h t = all-set all_passing table hook _ h (all-added (registrations table hook) new (all-value all_passing table hook [] refl h) t)

  all-keeping : (passes : Registration → Bool) (table : Table) (hook : Text) → all_in table ≡ true → all_in (keeping passes table hook) ≡ true
  all-keeping passes [] hook h = h
  all-keeping passes (p ∷ ps) hook h =
      elim (bytes_eq hook p.0) as (λ b. all_in (if b then (p.0, filter passes p.1) ∷ ps else p ∷ keeping passes ps hook) ≡ true) [
        | true ↦ and_both (all_passing (filter passes p.1)) (all_in ps) (all-filter passing passes p.1 (and_left (all_passing p.1) (all_in ps) h))
            (and_right (all_passing p.1) (all_in ps) h)
        | false ↦ and_both (all_passing p.1) (all_in (keeping passes ps hook)) (and_left (all_passing p.1) (all_in ps) h)
            (all-keeping passes ps hook (and_right (all_passing p.1) (all_in ps) h))
      ]

-- what holds of both holds of what is chosen
either : {X : Type 0} (test : X → Bool) (b : Bool) (x y : X) → (b ≡ true → test x ≡ true) → test y ≡ true → test (if b then x else y) ≡ true
either test true x y f g = f refl
either test false x y f g = g

module _ (plugins : List Shape) where
  abbrev table_ok : World → Table → Bool
  table_ok w table = all_in (is_active plugins w) table

  abbrev tags_ok : World → List (Text × ℕ) → Bool
  tags_ok w tags = all_values (is_held_by plugins w.active) tags

  old_table : (w : World) → names_active plugins w ≡ true → table_ok w w.table ≡ true
  old_table w i = and_left (table_ok w w.table) (tags_ok w w.tags) i

  old_tags : (w : World) → names_active plugins w ≡ true → tags_ok w w.tags ≡ true
  old_tags w i = and_right (table_ok w w.table) (tags_ok w w.tags) i

  with_table : (w : World) (b : Bool) (table : Table) → names_active plugins w ≡ true → (b ≡ true → table_ok w table ≡ true)
      → names_active plugins (record w { table = if b then table else w.table }) ≡ true
  with_table w b table i h =
      and_both (table_ok w (if b then table else w.table)) (tags_ok w w.tags) (either (table_ok w) b table w.table h (old_table w i)) (old_tags w i)

  with_tags : (w : World) (tags : List (Text × ℕ)) → names_active plugins w ≡ true → tags_ok w tags ≡ true
      → names_active plugins (record w { tags = tags }) ≡ true
  with_tags w tags i h = and_both (table_ok w w.table) (tags_ok w tags) (old_table w i) h

  of_three : (a b c : Bool) → (a && b && c) ≡ true → b ≡ true
  of_three true true c e = refl
  of_three true false c e = cc
  of_three false b c e = cc

  of_tag : (a zero held : Bool) → (a && (zero || held) && not zero) ≡ true → held ≡ true
  of_tag a zero true e = refl
  of_tag true true false e = cc
  of_tag true false false e = cc
  of_tag false zero false e = cc

  names_changed : (w : World) (c : Change) → names_active plugins w ≡ true → names_active plugins (world_after_change plugins w c) ≡ true
  names_changed w (Add hook priority callback accepted) i =
      let new : Registration = record { priority = priority; callback = callback; accepted = accepted } in
      with_table w (is_hook_name hook && is_active plugins w callback && nat_le accepted 16) (add w.table hook new) i
      (λ e. all-add (is_active plugins w) w.table hook new (old_table w i) (of_three (is_hook_name hook) (is_active plugins w callback) (nat_le accepted 16) e))
  names_changed w (Remove hook priority callback) i =
      with_table w (is_hook_name hook) (remove w.table hook priority callback) i
      (λ e. all-keeping (is_active plugins w) (λ r. not (is_of priority callback r)) w.table hook (old_table w i))
  names_changed w (RemoveAll hook priority) i =
      with_table w (is_hook_name hook) (remove_all w.table hook priority) i
      (λ e. all-keeping (is_active plugins w) (is_other priority) w.table hook (old_table w i))
  names_changed w (AddTag tag callback) i =
      let b = is_tag_name tag && is_active plugins w callback && not (callback == 0) in
      with_tags w (if b then set_value w.tags tag callback else w.tags) i
      (either (tags_ok w) b (set_value w.tags tag callback) w.tags
      (λ e. all-set (is_held_by plugins w.active) w.tags tag callback (old_tags w i)
      (of_tag (is_tag_name tag) (callback == 0) (is_held_by plugins w.active callback) e))
      (old_tags w i))
  names_changed w (RemoveTag tag) i = with_tags w (remove_value w.tags tag) i (all-remove (is_held_by plugins w.active) w.tags tag (old_tags w i))
  names_changed w RemoveAllTags i = with_tags w [] i refl

  pub keeps_names : Keeps plugins (λ w. names_active plugins w ≡ true)
  keeps_names = record {
    calls = λ w n i. i;
    deeper = λ w e i. i;
    higher = λ w i. i;
    running = λ w hooks i. i;
    counts = λ w counts i. i;
    output = λ w text i. i;
    changed = names_changed;
  }

  -- once everything has loaded
  pub names-loaded : (calls : ℕ) (options : List (Text × Text)) (active : List Text) → names_active plugins (loaded plugins (fresh calls options active)) ≡ true
  unfolding loaded
  names-loaded calls options active = keeps_all plugins (λ w. names_active plugins w ≡ true) keeps_names (fresh calls options active)
      (core_changes ++ load_changes plugins active) refl
