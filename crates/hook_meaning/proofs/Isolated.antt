-- Bundles that agree on the active plugins do the same in each world in which only these are registered.
use Rattle.std.proofs.Common.{◌≡◌, ℕ, ℤ, Bool, true, false, cond, ◌&&◌, ◌||◌, ◌==◌, List, [], ◌∷◌, ◌++◌, map, Some, refl, sym, ap, subst, ◌∙◌, nat_le}
use Rattle.std.specs.Prelude.{filter, not, bytes_eq, if◌then◌else◌}
use Rattle.std.specs.List.{list_all, AllByRecursion}
use Rattle.plain_data.specs.Names.{is_hook_name, is_tag_name}
use Rattle.hook_changes.specs.declared.reply.Call.{Call}
use Rattle.hook_changes.specs.declared.reply.Change.{Change}
use Rattle.hook_changes.specs.declared.reply.Change.TheVariants.{Add, Remove, RemoveAll, AddTag, RemoveTag, RemoveAllTags}
use Rattle.callback_store.specs.Shape.{is_held, is_held_by}
use Rattle.hook_registry.specs.declared.registration.Registration.{Registration}
use Rattle.hook_registry.specs.Named.{value_of, set_value}
use Rattle.hook_registry.specs.Table.{registrations, is_at, entry_of, add}
use Rattle.plain_data.specs.Texts.{Text}
use Rattle.hook_meaning.specs.World.{World, is_active, world_after_change, world_after_changes, core_changes, load_changes, fresh, loaded}
use Rattle.hook_meaning.specs.Meaning.{Engine, reply_to_call, silence, filtered, acted, replaced}
use Rattle.hook_meaning.specs.Throughout.{names_active}
use Rattle.hook_meaning.proofs.Agree.{agree-same, Keeps, keeps_all}
use Rattle.hook_meaning.proofs.Registered.{and_left, and_right, all-value, keeps_names}
use Rattle.hook_meaning.specs.Agreement.{AgreeOn}
use Rattle.hook_meaning.proofs.Agree.{Alike, changed_all-agree, agree_filtered, agree_acted, agree_replaced}
use Rattle.hook_meaning.proofs.Seen.{load-same, held-same, held_by-some}

or_right : (a b : Bool) → a ≡ false → (a || b) ≡ true → b ≡ true
or_right true b f e = absurd (let clash = f in cc)
or_right false b f e = e

or_true : (a : Bool) → (a || true) ≡ true
or_true true = refl
or_true false = refl

-- ---- what a table and a list of tags name

module _ (test : ℕ → Bool) where
  all_entries : (rs : List Registration) (priority : ℤ) → list_all (λ r. test r.callback) rs ≡ true
      → AllByRecursion (λ e. test e.callback ≡ true) (map entry_of (filter (is_at priority) rs))
  all_entries [] priority h = tt
  all_entries (r ∷ rs) priority h =
      elim (is_at priority r) as (λ b. AllByRecursion (λ e. test e.callback ≡ true) (map entry_of (cond b (r ∷ filter (is_at priority) rs)
      (filter (is_at priority) rs)))) [
        | true ↦ (
          and_left (test r.callback) (list_all (λ r. test r.callback) rs) h,
          all_entries rs priority (and_right (test r.callback) (list_all (λ r. test r.callback) rs) h),
        )
        | false ↦ all_entries rs priority (and_right (test r.callback) (list_all (λ r. test r.callback) rs) h)
      ]

some_valued : {X : Type 0} (test : X → Bool) (pairs : List (List ℕ × X)) (name : List ℕ) (x : X) → list_all (λ p. test p.1) pairs ≡ true
    → value_of pairs name ≡ Some x
    → test x ≡ true
some_valued test [] name x h e = absurd (let clash = e in cc)
some_valued test (p ∷ ps) name x h e =
    elim (bytes_eq name p.0) as (λ b. cond b (Some p.1) (value_of ps name) ≡ Some x → test x ≡ true) [
      | true ↦ λ is. let same : p.1 ≡ x = cc in subst (λ y. test y ≡ true) same (and_left (test p.1) (list_all (λ p. test p.1) ps) h)
      | false ↦ λ is. some_valued test ps name x (and_right (test p.1) (list_all (λ p. test p.1) ps) h) is
    ] e

-- ---- bundles that agree on the active plugins

module _ (names : List Text) (one other : Engine) (agree : AgreeOn names one other) where
  -- only plugins of these names are active, and only active callbacks are registered
  abbrev pub OnlyThese : World → Type 0
  OnlyThese w = (w.active ≡ names) × (names_active one.plugins w ≡ true)

  -- core's callback, or one of a plugin of these names
  abbrev pub OfThese : ℕ → Type 0
  OfThese k = (k == 0 || is_held_by one.plugins names k) ≡ true

  changed-active : (w : World) (c : Change) → (world_after_change one.plugins w c).active ≡ w.active
  changed-active w (Add hook priority callback accepted) = refl
  changed-active w (Remove hook priority callback) = refl
  changed-active w (RemoveAll hook priority) = refl
  changed-active w (AddTag tag callback) = refl
  changed-active w (RemoveTag tag) = refl
  changed-active w RemoveAllTags = refl

  keeps_these : Keeps one.plugins OnlyThese
  keeps_these = record {
    calls = λ w n i. i;
    deeper = λ w e i. i;
    higher = λ w i. i;
    running = λ w hooks i. i;
    counts = λ w counts i. i;
    output = λ w text i. i;
    changed = λ w c i. (changed-active w c ∙ i.0, (keeps_names one.plugins).changed w c i.1);
  }

  held-in : (w : World) (k : ℕ) → w.active ≡ names → is_held_by one.plugins w.active k ≡ is_held_by other.plugins w.active k
  held-in w k e = subst (λ active. is_held_by one.plugins active k ≡ is_held_by other.plugins active k) (sym e) (held-same names one other agree k)

  changed-same : (w : World) (c : Change) → w.active ≡ names → world_after_change one.plugins w c ≡ world_after_change other.plugins w c
  changed-same w (Add hook priority callback accepted) e =
      ap (λ held. record w {
        table = if is_hook_name hook && (callback == 0 || held) && nat_le accepted 16
            then add w.table hook (record { priority = priority; callback = callback; accepted = accepted })
            else w.table;
      }) (held-in w callback e)
  changed-same w (Remove hook priority callback) e = refl
  changed-same w (RemoveAll hook priority) e = refl
  changed-same w (AddTag tag callback) e =
      ap (λ held. record w {
        tags = if is_tag_name tag && (callback == 0 || held) && not (callback == 0)
            then set_value w.tags tag callback
            else w.tags;
      }) (held-in w callback e)
  changed-same w (RemoveTag tag) e = refl
  changed-same w RemoveAllTags e = refl

  said-same : (k : ℕ) (call : Call) → OfThese k → (k == 0) ≡ false → reply_to_call one k call ≡ reply_to_call other k call
  said-same k call n e =
      let held : is_held_by one.plugins names k ≡ true = or_right (k == 0) (is_held_by one.plugins names k) e n in
      let here : is_held one.plugins k ≡ true = held_by-some names k one.plugins held in
      let there : is_held other.plugins k ≡ true = held_by-some names k other.plugins (sym (held-same names one other agree k) ∙ held) in
      ap (λ b. if b then one.says k call else silence) here ∙ agree.replies k call held ∙ ap (λ b. if b then other.says k call else silence) (sym there)

  pub these_alike : Alike OnlyThese OfThese one other
  these_alike = record {
    keep = keeps_these;
    entries = λ w hook priority i. all_entries (λ k. k == 0 || is_held_by one.plugins names k) (registrations w.table hook) priority
        (subst (λ active. list_all (λ r. r.callback == 0 || is_held_by one.plugins active r.callback) (registrations w.table hook) ≡ true) i.0
        (all-value (λ rs. list_all (λ r. is_active one.plugins w r.callback) rs) w.table hook [] refl
        (and_left (list_all (λ p. list_all (λ r. is_active one.plugins w r.callback) p.1) w.table) (list_all (λ p. is_held_by one.plugins w.active p.1) w.tags)
        i.1)));
    handler = λ w tag k i at. let held : is_held_by one.plugins w.active k ≡ true = some_valued (is_held_by one.plugins w.active) w.tags tag k
        (and_right (list_all (λ p. list_all (λ r. is_active one.plugins w r.callback) p.1) w.table) (list_all (λ p. is_held_by one.plugins w.active p.1) w.tags)
        i.1) at in
        ap (λ b. k == 0 || b) (subst (λ active. is_held_by one.plugins active k ≡ true) i.0 held) ∙ or_true (k == 0);
    said = said-same;
    changed = λ w c i. changed-same w c i.0;
  }

  -- what the active plugins load
  pub loaded-same : (calls : ℕ) (options : List (Text × Text)) → loaded one.plugins (fresh calls options names)
      ≡ loaded other.plugins (fresh calls options names)
  unfolding loaded
  loaded-same calls options =
      changed_all-agree one other OnlyThese OfThese these_alike (fresh calls options names)
      (core_changes ++ load_changes one.plugins names) (refl, refl)
      ∙ ap (λ l. world_after_changes other.plugins (fresh calls options names) (core_changes ++ l)) (load-same names one other agree)

  pub loaded-these : (calls : ℕ) (options : List (Text × Text)) → OnlyThese (loaded one.plugins (fresh calls options names))
  unfolding loaded
  loaded-these calls options = keeps_all one.plugins OnlyThese keeps_these (fresh calls options names) (core_changes ++ load_changes one.plugins names)
      (refl, refl)

  pub these-filtered : (w : World) (hook value : Text) (args : List Text) → OnlyThese w → filtered one w hook value args ≡ filtered other w hook value args
  these-filtered w hook value args i = agree-same (agree_filtered one other OnlyThese OfThese these_alike w hook value args i)

  pub these-acted : (w : World) (hook : Text) (args : List Text) → OnlyThese w → acted one w hook args ≡ acted other w hook args
  these-acted w hook args i = agree-same (agree_acted one other OnlyThese OfThese these_alike w hook args i)

  pub these-replaced : (w : World) (text : Text) → OnlyThese w → replaced one w text ≡ replaced other w text
  these-replaced w text i = agree-same (agree_replaced one other OnlyThese OfThese these_alike w text i)
