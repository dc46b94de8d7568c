-- The table has the registrations of the one list.
use Rattle.std.proofs.Common.{◌≡◌, ℕ, ℤ, true, false, Bool, cond, not, ◌&&◌, ◌||◌, List, [], ◌∷◌, map, filter, refl, ap, sym, subst, ◌∙◌, Option, Some}
use Rattle.std.specs.Prelude.{◌==◌, bytes_eq, fold, unwrap_or}
use Rattle.std.specs.List.{list_any}
use Rattle.std.specs.Map.{lookup}
use Rattle.std.proofs.lemmas.Slice.Eq.{bytes_eq-Decides}
use Rattle.hook_registry.specs.declared.registration.Registration.{Registration}
use Rattle.hook_registry.specs.Named.{set_value}
use Rattle.hook_registry.specs.Table as table
use Rattle.hook_registry.specs.Order.{by_priority}
use Rattle.hook_registry.specs.Table.{Table, registrations, is_at, is_of, is_other, is_above, entry_of, with_added, keeping, group, has, next_priority}
use Rattle.hook_registry.specs.Table.{priority_of, least_priority}
use Rattle.hook_registry.proofs.RunOrder.{appended, added-by_priority, filter-by_priority, group-by_priority, least_priority-by_priority, any-by_priority}
use Rattle.hook_registry.specs.OneList.{Listed, is_in, is_same, add, remove, registrations_in, TableChange, Added, Removed, RemovedAll, with_change}
use Rattle.hook_registry.specs.OneList.{list_with_change, table_after, list_after}

pub same_name : (a b : List ℕ) → bytes_eq a b ≡ true → a ≡ b
same_name a b e = (bytes_eq-Decides a b).0 e

own_name : (a : List ℕ) → bytes_eq a a ≡ true
own_name a = (bytes_eq-Decides a a).1 refl

-- a name that isn't one of two that are the same isn't the other
pub not_name : (other hook name : List ℕ) → bytes_eq other hook ≡ false → bytes_eq hook name ≡ true → bytes_eq other name ≡ false
not_name other hook name n e = subst (λ k. bytes_eq other k ≡ false) (same_name hook name e) n

-- the registrations of a hook, at a list of its own
abbrev taken : Option (List Registration) → List Registration
taken o = unwrap_or o []

pub registrations-set : (t : Table) (hook : List ℕ) (rs : List Registration) → registrations (set_value t hook rs) hook ≡ rs
registrations-set [] hook rs = rw (own_name hook) refl
registrations-set (p ∷ ps) hook rs =
    elim (bytes_eq hook p.0) as (λ b. bytes_eq hook p.0 ≡ b → taken (lookup (bytes_eq hook) (cond b ((p.0, rs) ∷ ps) (p ∷ set_value ps hook rs))) ≡ rs)
    [ true ↦ λ e. rw e refl | false ↦ λ e. rw e (registrations-set ps hook rs) ] refl

pub registrations-set_other : (t : Table) (hook other : List ℕ) (rs : List Registration) → bytes_eq other hook ≡ false
    → registrations (set_value t hook rs) other ≡ registrations t other
registrations-set_other [] hook other rs n = rw n refl
registrations-set_other (p ∷ ps) hook other rs n =
    elim (bytes_eq hook p.0) as (λ b. bytes_eq hook p.0 ≡ b → taken (lookup (bytes_eq other) (cond b ((p.0, rs) ∷ ps) (p ∷ set_value ps hook rs)))
    ≡ registrations (p ∷ ps) other) [
      | true ↦ λ e. rw (not_name other hook p.0 n e) refl
      | false ↦ λ e.
          elim (bytes_eq other p.0) as (λ b. taken (cond b (Some p.1) (lookup (bytes_eq other) (set_value ps hook rs)))
          ≡ taken (cond b (Some p.1) (lookup (bytes_eq other) ps)))
          [ true ↦ refl | false ↦ registrations-set_other ps hook other rs n ]
    ] refl

pub registrations-keeping : (passes : Registration → Bool) (t : Table) (hook : List ℕ)
    → registrations (keeping passes t hook) hook ≡ filter passes (registrations t hook)
registrations-keeping passes [] hook = refl
registrations-keeping passes (p ∷ ps) hook =
    elim (bytes_eq hook p.0) as (λ b. bytes_eq hook p.0 ≡ b → taken
    (lookup (bytes_eq hook) (cond b ((p.0, filter passes p.1) ∷ ps) (p ∷ keeping passes ps hook)))
    ≡ filter passes (taken (cond b (Some p.1) (lookup (bytes_eq hook) ps))))
    [ true ↦ λ e. rw e refl | false ↦ λ e. rw e (registrations-keeping passes ps hook) ] refl

pub registrations-keeping_other : (passes : Registration → Bool) (t : Table) (hook other : List ℕ) → bytes_eq other hook ≡ false
    → registrations (keeping passes t hook) other ≡ registrations t other
registrations-keeping_other passes [] hook other n = refl
registrations-keeping_other passes (p ∷ ps) hook other n =
    elim (bytes_eq hook p.0) as (λ b. bytes_eq hook p.0 ≡ b → taken
    (lookup (bytes_eq other) (cond b ((p.0, filter passes p.1) ∷ ps) (p ∷ keeping passes ps hook))) ≡ registrations (p ∷ ps) other) [
      | true ↦ λ e. rw (not_name other hook p.0 n e) refl
      | false ↦ λ e.
          elim (bytes_eq other p.0) as (λ b. taken (cond b (Some p.1) (lookup (bytes_eq other) (keeping passes ps hook)))
          ≡ taken (cond b (Some p.1) (lookup (bytes_eq other) ps)))
          [ true ↦ refl | false ↦ registrations-keeping_other passes ps hook other n ]
    ] refl

-- the hook's part of a list, one registration longer if that is the hook's
abbrev with_first : Bool → Registration → List Registration → List Registration
with_first b r rs = cond b (r ∷ rs) rs

first_in : (l : Listed) (ls : List Listed) (hook : List ℕ) → registrations_in (l ∷ ls) hook
    ≡ with_first (is_in hook l) l.registration (registrations_in ls hook)
first_in l ls hook = elim (is_in hook l) as (λ b. map (λ m. m.registration) (cond b (l ∷ filter (is_in hook) ls) (filter (is_in hook) ls))
    ≡ with_first b l.registration (registrations_in ls hook)) [ true ↦ refl | false ↦ refl ]

registrations_in-add : (list : List Listed) (hook : List ℕ) (new : Registration)
    → registrations_in (add list hook new) hook ≡ appended (registrations_in list hook) new
registrations_in-add [] hook new = rw (own_name hook) refl
registrations_in-add (l ∷ ls) hook new =
    elim (is_in hook l) as (λ b. is_in hook l ≡ b → registrations_in
    (cond (b && is_of new.priority new.callback l.registration) (record l { registration = record l.registration { accepted = new.accepted } } ∷ ls)
    (l ∷ add ls hook new)) hook
    ≡ appended (map (λ m. m.registration) (cond b (l ∷ filter (is_in hook) ls) (filter (is_in hook) ls))) new) [
      | true ↦ λ e.
          elim (is_of new.priority new.callback l.registration) as (λ b. registrations_in
          (cond b (record l { registration = record l.registration { accepted = new.accepted } } ∷ ls) (l ∷ add ls hook new)) hook
          ≡ cond b (record l.registration { accepted = new.accepted } ∷ registrations_in ls hook) (l.registration ∷ appended (registrations_in ls hook) new))
          [ true ↦ rw e refl | false ↦ rw e (ap (λ rs. l.registration ∷ rs) (registrations_in-add ls hook new)) ]
      | false ↦ λ e. rw e (registrations_in-add ls hook new)
    ] refl

registrations_in-add_other : (list : List Listed) (hook other : List ℕ) (new : Registration) → bytes_eq other hook ≡ false
    → registrations_in (add list hook new) other ≡ registrations_in list other
registrations_in-add_other [] hook other new n = rw n refl
registrations_in-add_other (l ∷ ls) hook other new n =
    elim (is_in hook l) as (λ b. is_in hook l ≡ b → registrations_in
    (cond (b && is_of new.priority new.callback l.registration) (record l { registration = record l.registration { accepted = new.accepted } } ∷ ls)
    (l ∷ add ls hook new)) other
    ≡ registrations_in (l ∷ ls) other) [
      | true ↦ λ e.
          let away : bytes_eq other l.hook ≡ false = not_name other hook l.hook n e in
          elim (is_of new.priority new.callback l.registration) as (λ b. registrations_in
          (cond b (record l { registration = record l.registration { accepted = new.accepted } } ∷ ls) (l ∷ add ls hook new)) other
          ≡ registrations_in (l ∷ ls) other)
          [ true ↦ rw away refl | false ↦ rw away (registrations_in-add_other ls hook other new n) ]
      | false ↦ λ e.
          first_in l (add ls hook new) other ∙ ap (with_first (is_in other l) l.registration) (registrations_in-add_other ls hook other new n)
          ∙ sym (first_in l ls other)
    ] refl

-- those of the hook that pass, and those of other hooks
abbrev kept : (Registration → Bool) → List Listed → List ℕ → List Listed
kept passes list hook = filter (λ l. not (is_in hook l) || passes l.registration) list

registrations_in-kept : (passes : Registration → Bool) (list : List Listed) (hook : List ℕ)
    → registrations_in (kept passes list hook) hook ≡ filter passes (registrations_in list hook)
registrations_in-kept passes [] hook = refl
registrations_in-kept passes (l ∷ ls) hook =
    elim (is_in hook l) as (λ b. is_in hook l ≡ b → registrations_in (cond (not b || passes l.registration) (l ∷ kept passes ls hook) (kept passes ls hook))
    hook
    ≡ filter passes (map (λ m. m.registration) (cond b (l ∷ filter (is_in hook) ls) (filter (is_in hook) ls)))) [
      | true ↦ λ e.
          elim (passes l.registration) as (λ b. registrations_in (cond b (l ∷ kept passes ls hook) (kept passes ls hook)) hook
          ≡ cond b (l.registration ∷ filter passes (registrations_in ls hook)) (filter passes (registrations_in ls hook)))
          [ true ↦ rw e (ap (λ rs. l.registration ∷ rs) (registrations_in-kept passes ls hook)) | false ↦ registrations_in-kept passes ls hook ]
      | false ↦ λ e. rw e (registrations_in-kept passes ls hook)
    ] refl

registrations_in-kept_other : (passes : Registration → Bool) (list : List Listed) (hook other : List ℕ) → bytes_eq other hook ≡ false
    → registrations_in (kept passes list hook) other ≡ registrations_in list other
registrations_in-kept_other passes [] hook other n = refl
registrations_in-kept_other passes (l ∷ ls) hook other n =
    elim (is_in hook l) as (λ b. is_in hook l ≡ b → registrations_in (cond (not b || passes l.registration) (l ∷ kept passes ls hook) (kept passes ls hook))
    other ≡ registrations_in (l ∷ ls) other) [
      | true ↦ λ e.
          let away : bytes_eq other l.hook ≡ false = not_name other hook l.hook n e in
          elim (passes l.registration) as (λ b. registrations_in (cond b (l ∷ kept passes ls hook) (kept passes ls hook)) other
          ≡ registrations_in (l ∷ ls) other)
          [ true ↦ rw away (registrations_in-kept_other passes ls hook other n) | false ↦ rw away (registrations_in-kept_other passes ls hook other n) ]
      | false ↦ λ e.
          first_in l (kept passes ls hook) other ∙ ap (with_first (is_in other l) l.registration) (registrations_in-kept_other passes ls hook other n)
          ∙ sym (first_in l ls other)
    ] refl

remove-kept : (list : List Listed) (hook : List ℕ) (priority : ℤ) (callback : ℕ)
    → remove list hook priority callback ≡ kept (λ r. not (is_of priority callback r)) list hook
remove-kept [] hook priority callback = refl
remove-kept (l ∷ ls) hook priority callback =
    elim (is_in hook l) as (λ b. cond (not (b && is_of priority callback l.registration)) (l ∷ remove ls hook priority callback)
    (remove ls hook priority callback)
    ≡ cond (not b || not (is_of priority callback l.registration)) (l ∷ kept (λ r. not (is_of priority callback r)) ls hook)
    (kept (λ r. not (is_of priority callback r)) ls hook)) [
      | true ↦ ap (λ rest. cond (not (is_of priority callback l.registration)) (l ∷ rest) rest) (remove-kept ls hook priority callback)
      | false ↦ ap (λ rest. l ∷ rest) (remove-kept ls hook priority callback)
    ]

-- the same registrations of each hook, which the table has in the order in which they run
abbrev Agree : Table → List Listed → Type 0
Agree t list = (hook : List ℕ) → registrations t hook ≡ by_priority (registrations_in list hook)

agree-add : (t : Table) (list : List Listed) (hook : List ℕ) (new : Registration) → Agree t list → Agree (table.add t hook new) (add list hook new)
agree-add t list hook new a other =
    elim (bytes_eq other hook) as (λ b. bytes_eq other hook ≡ b → registrations (table.add t hook new) other
    ≡ by_priority (registrations_in (add list hook new) other)) [
      | true ↦ λ e.
          subst (λ k. registrations (table.add t hook new) k ≡ by_priority (registrations_in (add list hook new) k)) (sym (same_name other hook e))
          (registrations-set t hook (with_added (registrations t hook) new)
          ∙ ap (λ rs. with_added rs new) (a hook)
          ∙ added-by_priority new (registrations_in list hook)
          ∙ ap by_priority (sym (registrations_in-add list hook new)))
      | false ↦ λ n.
          registrations-set_other t hook other (with_added (registrations t hook) new) n ∙ a other
          ∙ ap by_priority (sym (registrations_in-add_other list hook other new n))
    ] refl

agree-kept : (passes : Registration → Bool) (t : Table) (list : List Listed) (hook : List ℕ) → Agree t list
    → Agree (keeping passes t hook) (kept passes list hook)
agree-kept passes t list hook a other =
    elim (bytes_eq other hook) as (λ b. bytes_eq other hook ≡ b → registrations (keeping passes t hook) other
    ≡ by_priority (registrations_in (kept passes list hook) other)) [
      | true ↦ λ e.
          subst (λ k. registrations (keeping passes t hook) k ≡ by_priority (registrations_in (kept passes list hook) k)) (sym (same_name other hook e))
          (registrations-keeping passes t hook
          ∙ ap (filter passes) (a hook)
          ∙ filter-by_priority passes (registrations_in list hook)
          ∙ ap by_priority (sym (registrations_in-kept passes list hook)))
      | false ↦ λ n.
          registrations-keeping_other passes t hook other n ∙ a other ∙ ap by_priority (sym (registrations_in-kept_other passes list hook other n))
    ] refl

agree-changed : (t : Table) (list : List Listed) (change : TableChange) → Agree t list → Agree (with_change t change) (list_with_change list change)
agree-changed t list (Added hook new) a = agree-add t list hook new a
agree-changed t list (Removed hook priority callback) a = λ other.
    agree-kept (λ r. not (is_of priority callback r)) t list hook a other
    ∙ ap (λ ls. by_priority (registrations_in ls other)) (sym (remove-kept list hook priority callback))
agree-changed t list (RemovedAll hook priority) a = agree-kept (is_other priority) t list hook a

agree-after : (t : Table) (list : List Listed) (changes : List TableChange) → Agree t list → Agree (fold with_change t changes)
    (fold list_with_change list changes)
agree-after t list [] a = a
agree-after t list (c ∷ cs) a = agree-after (with_change t c) (list_with_change list c) cs (agree-changed t list c a)

pub registrations-after : (changes : List TableChange) (hook : List ℕ)
    → registrations (table_after changes) hook ≡ by_priority (registrations_in (list_after changes) hook)
registrations-after changes = agree-after [] [] changes (λ hook. refl)

pub group-after : (changes : List TableChange) (hook : List ℕ) (priority : ℤ)
    → group (table_after changes) hook priority ≡ map entry_of (filter (is_at priority) (registrations_in (list_after changes) hook))
group-after changes hook priority =
    ap (λ rs. map entry_of (filter (is_at priority) rs)) (registrations-after changes hook)
    ∙ ap (map entry_of) (group-by_priority priority (registrations_in (list_after changes) hook))

pub next-after : (changes : List TableChange) (hook : List ℕ) (above : Option ℤ)
    → next_priority (table_after changes) hook above ≡ least_priority (is_above above) (registrations_in (list_after changes) hook)
next-after changes hook above =
    ap (least_priority (is_above above)) (registrations-after changes hook)
    ∙ least_priority-by_priority (is_above above) (registrations_in (list_after changes) hook)

pub priority_of-after : (changes : List TableChange) (hook : List ℕ) (callback : ℕ)
    → priority_of (table_after changes) hook callback ≡ least_priority (λ r. r.callback == callback) (registrations_in (list_after changes) hook)
priority_of-after changes hook callback =
    ap (least_priority (λ r. r.callback == callback)) (registrations-after changes hook)
    ∙ least_priority-by_priority (λ r. r.callback == callback) (registrations_in (list_after changes) hook)

any_in : (passes : Registration → Bool) (list : List Listed) (hook : List ℕ)
    → list_any passes (registrations_in list hook) ≡ list_any (λ l. is_in hook l && passes l.registration) list
any_in passes [] hook = refl
any_in passes (l ∷ ls) hook =
    elim (is_in hook l) as (λ b. list_any passes (map (λ m. m.registration) (cond b (l ∷ filter (is_in hook) ls) (filter (is_in hook) ls)))
    ≡ ((b && passes l.registration) || list_any (λ m. is_in hook m && passes m.registration) ls))
    [ true ↦ ap (λ b. passes l.registration || b) (any_in passes ls hook) | false ↦ any_in passes ls hook ]

pub there-after : (changes : List TableChange) (hook : List ℕ) (priority : ℤ) (callback : ℕ)
    → list_any (is_of priority callback) (registrations (table_after changes) hook) ≡ list_any (is_same hook priority callback) (list_after changes)
there-after changes hook priority callback =
    ap (list_any (is_of priority callback)) (registrations-after changes hook)
    ∙ any-by_priority (is_of priority callback) (registrations_in (list_after changes) hook)
    ∙ any_in (is_of priority callback) (list_after changes) hook

has-any : (t : Table) (hook : List ℕ) (rs : List Registration) → registrations t hook ≡ rs → has t hook ≡ list_any (λ r. true) rs
has-any t hook [] e = rw e refl
has-any t hook (r ∷ rs) e = rw e refl

any_there : (list : List Listed) (hook : List ℕ) → list_any (λ r. true) (registrations_in list hook) ≡ list_any (is_in hook) list
any_there [] hook = refl
any_there (l ∷ ls) hook =
    elim (is_in hook l) as (λ b. list_any (λ r. true) (map (λ m. m.registration) (cond b (l ∷ filter (is_in hook) ls) (filter (is_in hook) ls)))
    ≡ (b || list_any (is_in hook) ls))
    [ true ↦ refl | false ↦ any_there ls hook ]

pub has-after : (changes : List TableChange) (hook : List ℕ) → has (table_after changes) hook ≡ list_any (is_in hook) (list_after changes)
has-after changes hook =
    has-any (table_after changes) hook (by_priority (registrations_in (list_after changes) hook)) (registrations-after changes hook)
    ∙ any-by_priority (λ r. true) (registrations_in (list_after changes) hook)
    ∙ any_there (list_after changes) hook
