-- Plain callbacks fold their answers.
use Rattle.std.proofs.Common.{◌≡◌, ℕ, zero, suc, ◌+◌, ◌-◌, ◌≤◌, ◌<◌, ℤ, Bool, true, false, cond, List, [], ◌∷◌, ◌++◌, map, filter, length, take, Option}
use Rattle.std.proofs.Common.{None, Some, refl, sym, ap, subst, ◌∙◌, arith}
use Rattle.std.specs.Prelude.{fold, int_lt, ◌⊎◌}
use mathlib.Core.Logic.{inl, inr, ⊎_elim}
use Rattle.std.specs.Int.{int_min}
use Rattle.std.specs.Ordering.{int_eq}
use Rattle.std.specs.List.{AllByRecursion}
use Rattle.std.proofs.lemmas.Int.{ints}
use Rattle.std.proofs.lemmas.Bool.Decides.{Decides-int_eq}
use Rattle.std.proofs.lemmas.List.Sums.{fold-append}
use Rattle.hook_changes.specs.declared.reply.Call.{Call}
use Rattle.hook_changes.specs.declared.reply.Then.{Then}
use Rattle.hook_changes.specs.declared.reply.Then.TheVariants as next
use Rattle.hook_registry.specs.declared.registration.Registration.{Registration}
use Rattle.hook_registry.specs.Order.{with_placed, by_priority}
use Rattle.hook_registry.specs.Table.{registrations, is_at, is_above, entry_of, least, group, after}
use Rattle.hook_meaning.specs.declared.pass_kind.PassKind.TheVariants.{Filter}
use Rattle.plain_data.specs.Texts.{Text}
use Rattle.hook_meaning.specs.World.{World, world_after_changes}
use Rattle.hook_meaning.specs.Trace.{Trace, Done, Ended, outcome_of}
use Rattle.hook_meaning.specs.Meaning.{Engine, hook_call, group_pass, priorities_pass, pass, filtered, follow, reply_to_call, invoke, world_after_reply}
use Rattle.hook_meaning.specs.Meaning.{without_last}
use Rattle.hook_meaning.specs.Folding.{is_answer, answer_in, IsPlain, answer_to, value_after_callbacks, result_of, PlainFold}
use Rattle.hook_meaning.proofs.Ending.{end_then, invoke_on, follow_answer, priorities_none, priorities_some, filter_named}

-- ---- lists of registrations

-- not below a priority
abbrev AtLeast : ℤ → Registration → Type 0
AtLeast p r = int_lt r.priority p ≡ false

abbrev Below : ℤ → Registration → Type 0
Below p r = int_lt r.priority p ≡ true

abbrev Each : (Registration → Type 0) → List Registration → Type 0
Each = AllByRecursion

placed_first : (r : Registration) (ss : List Registration) → Each (AtLeast r.priority) ss → with_placed r ss ≡ r ∷ ss
placed_first r [] h = refl
placed_first r (s ∷ ss) h = rw h.0 refl

placed_after : (r : Registration) (xs ys : List Registration) → Each (Below r.priority) xs → with_placed r (xs ++ ys) ≡ xs ++ with_placed r ys
placed_after r [] ys h = refl
placed_after r (x ∷ xs) ys h = rw h.0 (ap (λ rest. x ∷ rest) (placed_after r xs ys h.1))

module _ (P : Registration → Type 0) where
  each_placed : (r : Registration) (ss : List Registration) → P r → Each P ss → Each P (with_placed r ss)
  each_placed r [] p h = (p, tt)
  each_placed r (s ∷ ss) p h =
      elim (int_lt s.priority r.priority) as (λ b. Each P (cond b (s ∷ with_placed r ss) (r ∷ s ∷ ss)))
      [ true ↦ (h.0, each_placed r ss p h.1) | false ↦ (p, h) ]

  each_by_priority : (rs : List Registration) → Each P rs → Each P (by_priority rs)
  each_by_priority [] h = tt
  each_by_priority (r ∷ rs) h = each_placed r (by_priority rs) h.0 (each_by_priority rs h.1)

  each_filter : (test : Registration → Bool) (rs : List Registration) → Each P rs → Each P (filter test rs)
  each_filter test [] h = tt
  each_filter test (r ∷ rs) h =
      elim (test r) as (λ b. Each P (cond b (r ∷ filter test rs) (filter test rs)))
      [ true ↦ (h.0, each_filter test rs h.1) | false ↦ each_filter test rs h.1 ]

-- those at a priority
abbrev at : ℤ → List Registration → List Registration
at p = filter (is_at p)

-- those above one
abbrev above : Option ℤ → List Registration → List Registration
above p = filter (is_above p)

not_at_above : (p z : ℤ) → int_lt p z ≡ true → int_eq z p ≡ false
not_at_above p z h = elim (int_eq z p) as (λ b. int_eq z p ≡ b → b ≡ false)
    [ true ↦ λ e. let same : z ≡ p = (Decides-int_eq z p).0 e in grind (arith, ints) | false ↦ λ e. refl ] refl

at_least : (p z : ℤ) → int_lt p z ≡ false → int_lt z p ≡ false → z ≡ p
at_least p z h k = grind (arith, ints)

is_equal : (p z : ℤ) → z ≡ p → int_eq z p ≡ true
is_equal p z e = (Decides-int_eq z p).1 e

each_at_below : (p q : ℤ) → int_lt p q ≡ true → (rs : List Registration) → Each (Below q) (at p rs)
each_at_below p q h [] = tt
each_at_below p q h (r ∷ rs) =
    elim (is_at p r) as (λ b. is_at p r ≡ b → Each (Below q) (cond b (r ∷ at p rs) (at p rs))) [
      | true ↦ λ e. let same : r.priority ≡ p = (Decides-int_eq r.priority p).0 e in (subst (λ z. int_lt z q ≡ true) (sym same) h, each_at_below p q h rs)
      | false ↦ λ e. each_at_below p q h rs
    ] refl

-- if no priority is below a given one, the entries at it come first
sorted_from : (p : ℤ) (rs : List Registration) → Each (AtLeast p) rs → by_priority rs ≡ at p rs ++ by_priority (above (Some p) rs)
sorted_from p [] h = refl
sorted_from p (r ∷ rs) h =
    elim (int_lt p r.priority) as (λ b. int_lt p r.priority ≡ b → with_placed r (by_priority rs)
    ≡ at p (r ∷ rs) ++ by_priority (cond b (r ∷ above (Some p) rs) (above (Some p) rs))) [
      | true ↦ λ e.
          rw (not_at_above p r.priority e)
          (ap (with_placed r) (sorted_from p rs h.1) ∙ placed_after r (at p rs) (by_priority (above (Some p) rs)) (each_at_below p r.priority e rs))
      | false ↦ λ e.
          let same : r.priority ≡ p = at_least p r.priority e h.0 in
          rw (is_equal p r.priority same)
          (placed_first r (by_priority rs) (each_by_priority (AtLeast r.priority) rs (subst (λ z. Each (AtLeast z) rs) (sym same) h.1))
          ∙ ap (λ rest. r ∷ rest) (sorted_from p rs h.1))
    ] refl

length_from : (p : ℤ) (rs : List Registration) → Each (AtLeast p) rs → length rs ≡ length (at p rs) + length (above (Some p) rs)
length_from p [] h = refl
length_from p (r ∷ rs) h =
    elim (int_lt p r.priority) as (λ b. int_lt p r.priority ≡ b → length (r ∷ rs)
    ≡ length (at p (r ∷ rs)) + length (cond b (r ∷ above (Some p) rs) (above (Some p) rs))) [
      | true ↦ λ e. rw (not_at_above p r.priority e) (omega (arith, length_from p rs h.1))
      | false ↦ λ e. rw (is_equal p r.priority (at_least p r.priority e h.0)) (omega (arith, length_from p rs h.1))
    ] refl

-- a filter within another one that lets through all that it does
filter_within : (f g : Registration → Bool) → ((r : Registration) → f r ≡ true → g r ≡ true) → (rs : List Registration) → filter f (filter g rs) ≡ filter f rs
filter_within f g h [] = refl
filter_within f g h (r ∷ rs) =
    elim (f r) as (λ b. f r ≡ b → filter f (filter g (r ∷ rs)) ≡ cond b (r ∷ filter f rs) (filter f rs)) [
      | true ↦ λ e. rw (h r e, e) (ap (λ rest. r ∷ rest) (filter_within f g h rs))
      | false ↦ λ e.
          elim (g r) as (λ b. filter f (cond b (r ∷ filter g rs) (filter g rs)) ≡ filter f rs)
          [ true ↦ rw e (filter_within f g h rs) | false ↦ filter_within f g h rs ]
    ] refl

above_none : (rs : List Registration) → above None rs ≡ rs
above_none [] = refl
above_none (r ∷ rs) = ap (λ rest. r ∷ rest) (above_none rs)

-- ---- the smallest priority

abbrev priorities : List Registration → List ℤ
priorities rs = map (λ r. r.priority) rs

least_low : (a : ℤ) (rs : List Registration) (m : ℤ) → m ≡ fold int_min a (priorities rs) → (int_lt a m ≡ false) × Each (AtLeast m) rs
least_low a [] m e = (grind (arith, ints), tt)
least_low a (r ∷ rs) m e =
    let h = least_low (int_min a r.priority) rs m e in
    let low = h.0 in
    elim (int_lt r.priority a) as (λ b. int_lt r.priority a ≡ b → int_lt (cond b r.priority a) m ≡ false
    → (int_lt a m ≡ false) × ((int_lt r.priority m ≡ false) × Each (AtLeast m) rs))
    [ true ↦ λ t k. (grind (arith, ints), (k, h.1)) | false ↦ λ t k. (k, (grind (arith, ints), h.1)) ] refl low

abbrev IsThere : ℤ → List Registration → Type 0
IsThere p rs = 0 < length (at p rs)

there_first : (r : Registration) (rs : List Registration) (p : ℤ) → p ≡ r.priority → IsThere p (r ∷ rs)
there_first r rs p e = rw (is_equal p r.priority (sym e)) (omega arith)

there_later : (r : Registration) (rs : List Registration) (p : ℤ) → IsThere p rs → IsThere p (r ∷ rs)
there_later r rs p h = elim (is_at p r) as (λ b. 0 < length (cond b (r ∷ at p rs) (at p rs))) [ true ↦ omega arith | false ↦ h ]

least_there : (a : ℤ) (rs : List Registration) (m : ℤ) → m ≡ fold int_min a (priorities rs) → (m ≡ a) ⊎ IsThere m rs
least_there a [] m e = inl e
least_there a (r ∷ rs) m e =
    elim (int_lt r.priority a) as (λ b. (m ≡ cond b r.priority a) ⊎ IsThere m rs → (m ≡ a) ⊎ IsThere m (r ∷ rs)) [
      | true ↦ λ h. ⊎_elim (λ k. inr (there_first r rs m k)) (λ k. inr (there_later r rs m k)) h
      | false ↦ λ h. ⊎_elim inl (λ k. inr (there_later r rs m k)) h
    ] (least_there (int_min a r.priority) rs m e)

-- the smallest priority of a list that has one: no other is below it, and it is there
least_is : (rs : List Registration) (p : ℤ) → least (priorities rs) ≡ Some p → Each (AtLeast p) rs × IsThere p rs
least_is [] p e = cc
least_is (r ∷ rs) p e =
    let m : p ≡ fold int_min r.priority (priorities rs) = cc in
    let low = least_low r.priority rs p m in
    (low, ⊎_elim (λ k. there_first r rs p k) (λ k. there_later r rs p k) (least_there r.priority rs p m))

least_none : (rs : List Registration) → least (priorities rs) ≡ None → rs ≡ []
least_none [] e = refl
least_none (r ∷ rs) e = cc

-- whether a priority is above another one, if that is given
abbrev beyond : Option ℤ → ℤ → Bool
beyond None p = true
beyond (Some q) p = int_lt q p

above_beyond : (q : Option ℤ) (r : Registration) → is_above q r ≡ beyond q r.priority
above_beyond None r = refl
above_beyond (Some q) r = refl

-- a priority that is there among those above another one is above it
beyond_there : (q : Option ℤ) (p : ℤ) (rs : List Registration) → IsThere p (above q rs) → beyond q p ≡ true
beyond_there q p [] h = absurd (omega (arith, h))
beyond_there q p (r ∷ rs) h =
    elim (is_above q r) as (λ b. is_above q r ≡ b → IsThere p (cond b (r ∷ above q rs) (above q rs)) → beyond q p ≡ true) [
      | true ↦ λ e k.
          elim (is_at p r) as (λ b. is_at p r ≡ b → 0 < length (cond b (r ∷ at p (above q rs)) (at p (above q rs))) → beyond q p ≡ true) [
            | true ↦ λ t j. subst (λ z. beyond q z ≡ true) ((Decides-int_eq r.priority p).0 t) (sym (above_beyond q r) ∙ e)
            | false ↦ λ t j. beyond_there q p rs j
          ] refl k
      | false ↦ λ e k. beyond_there q p rs k
    ] refl h

beyond_later : (q : Option ℤ) (p z : ℤ) → beyond q p ≡ true → int_lt p z ≡ true → beyond q z ≡ true
beyond_later None p z h k = refl
beyond_later (Some q) p z h k = grind (arith, ints)

at_within : (q : Option ℤ) (p : ℤ) (rs : List Registration) → beyond q p ≡ true → at p (above q rs) ≡ at p rs
at_within q p rs h = filter_within (is_at p) (is_above q) (λ r e. above_beyond q r
    ∙ subst (λ z. beyond q z ≡ true) (sym ((Decides-int_eq r.priority p).0 e)) h) rs

above_within : (q : Option ℤ) (p : ℤ) (rs : List Registration) → beyond q p ≡ true → above (Some p) (above q rs) ≡ above (Some p) rs
above_within q p rs h = filter_within (is_above (Some p)) (is_above q) (λ r e. above_beyond q r ∙ beyond_later q p r.priority h e) rs

-- ---- plain callbacks

-- the work ends by a value, in a world with the same table and that many calls fewer
record Goes (work : Trace Text) (world : World) (n : ℕ) (value : Text) : Type 0 where
  later : World
  ends : outcome_of work ≡ Ended later value
  table : later.table ≡ world.table
  calls : later.calls + n ≡ world.calls

answered_plain : (t : Then) → is_answer t ≡ true → t ≡ next.Answer (answer_in t)
answered_plain (next.Answer text) h = refl
answered_plain (next.Ask ask) h = cc

module _ (engine : Engine) (hook : Text) (args : List Text) where
  goes_one : (r : Registration) → IsPlain engine r → (w : World) (call : Call) → 0 < w.calls
      → Goes (invoke engine w r.callback call) w 1 (answer_in (reply_to_call engine r.callback call).next)
  goes_one r plain w call h =
      let reply = reply_to_call engine r.callback call in
      let taken : World = record w { calls = w.calls - 1 } in
      let echoed : World = record taken { output = taken.output ++ reply.echo } in
      let same : world_after_reply engine taken reply ≡ echoed = ap (world_after_changes engine.plugins echoed) (plain.no_change call) in
      record {
        later = echoed;
        ends =
            invoke_on engine w taken r.callback call reply (world_after_reply engine taken reply) h plain.of_plugin refl refl refl
            ∙ ap (λ (v : World). outcome_of (follow (invoke engine) v r.callback call reply.next)) same
            ∙ ap (λ t. outcome_of (follow (invoke engine) echoed r.callback call t)) (answered_plain reply.next (plain.no_ask call))
            ∙ follow_answer (invoke engine) echoed r.callback call (answer_in reply.next);
        table = refl;
        calls = omega arith;
      }

  goes_group : (rs : List Registration) → Each (IsPlain engine) rs → (w : World) (v : Text) → length rs ≤ w.calls
      → Goes (group_pass (invoke engine) Filter hook args w v (map entry_of rs)) w (length rs) (value_after_callbacks engine hook args v rs)
  unfolding group_pass
  goes_group [] plain w v h = record { later = w; ends = refl; table = refl; calls = omega arith }
  goes_group (r ∷ rs) plain w v h =
      let call : Call = hook_call hook (take r.accepted (v ∷ args)) in
      let one = goes_one r plain.0 w call (omega arith) in
      let left = one.calls in
      let rest = goes_group rs plain.1 one.later (answer_to engine hook args v r) (omega (arith, left)) in
      let last = rest.calls in
      record {
        later = rest.later;
        ends = end_then (invoke engine w r.callback call) (λ later result. group_pass (invoke engine) Filter hook args later result (map entry_of rs))
            one.later (answer_to engine hook args v r) one.ends ∙ rest.ends;
        table = rest.table ∙ one.table;
        calls = omega (arith, left, last);
      }

  -- the work of the priorities above one ends by the fold over their registrations
  abbrev Folds : ℕ → World → Text → Option ℤ → List Registration → Type 0
  Folds left w v next rs = (later : World) × (outcome_of (priorities_pass (invoke engine) Filter hook args left w v next)
      ≡ Ended later (value_after_callbacks engine hook args v (by_priority rs)))

  folds_none : (left : ℕ) (w : World) (v : Text) (rs : List Registration) → rs ≡ [] → Folds left w v None rs
  folds_none left w v rs e = (
    w,
    ap outcome_of (priorities_none (invoke engine) Filter hook args left w v)
        ∙ ap (λ l. Ended w (value_after_callbacks engine hook args v (by_priority l))) (sym e),
  )

  folds_some : (left : ℕ) (w : World) (v : Text) (p : ℤ) (rs : List Registration) → Each (IsPlain engine) rs → length (at p rs) ≤ w.calls
      → registrations w.table hook ≡ rs
      → ((u : World) (x : Text) → u.table ≡ w.table → u.calls + length (at p rs) ≡ w.calls → Folds left u x (after u.table hook p) (above (Some p) rs))
      → (later : World) × (outcome_of (priorities_pass (invoke engine) Filter hook args (suc left) w v (Some p))
      ≡ Ended later (value_after_callbacks engine hook args v (at p rs ++ by_priority (above (Some p) rs))))
  folds_some left w v p rs plain h e rest =
      let one = goes_group (at p rs) (each_filter (IsPlain engine) (is_at p) rs plain) w v h in
      let x = value_after_callbacks engine hook args v (at p rs) in
      let go = rest one.later x one.table one.calls in
      let same : group w.table hook p ≡ map entry_of (at p rs) = ap (λ l. map entry_of (at p l)) e in
      let goes : outcome_of (group_pass (invoke engine) Filter hook args w v (group w.table hook p)) ≡ Ended one.later x =
      ap (λ es. outcome_of (group_pass (invoke engine) Filter hook args w v es)) same ∙ one.ends in (
        go.0,
        ap outcome_of (priorities_some (invoke engine) Filter hook args left w v p)
            ∙ end_then (group_pass (invoke engine) Filter hook args w v (group w.table hook p))
            (λ later kept. priorities_pass (invoke engine) Filter hook args left later kept (after later.table hook p)) one.later x goes
            ∙ go.1
            ∙ ap (Ended go.0) (sym (fold-append (answer_to engine hook args) v (at p rs) (by_priority (above (Some p) rs)))),
      )

  folds : (rs : List Registration) → Each (IsPlain engine) rs → (left : ℕ) (w : World) (v : Text) (q : Option ℤ) → registrations w.table hook ≡ rs
      → length (above q rs) ≤ w.calls → length (above q rs) ≤ left
      → Folds left w v (least (priorities (above q rs))) (above q rs)
  folds rs plain zero w v q e h k =
      elim (least (priorities (above q rs))) as (λ n. least (priorities (above q rs)) ≡ n → Folds zero w v n (above q rs)) [
        | None ↦ λ none. folds_none zero w v (above q rs) (least_none (above q rs) none)
        | Some p ↦ λ some.
            let low = least_is (above q rs) p some in
            let size = length_from p (above q rs) low.0 in
            let there = low.1 in
            absurd (omega (arith, size, there, k))
      ] refl
  folds rs plain (suc left) w v q e h k =
      elim (least (priorities (above q rs))) as (λ n. least (priorities (above q rs)) ≡ n → Folds (suc left) w v n (above q rs)) [
        | None ↦ λ none. folds_none (suc left) w v (above q rs) (least_none (above q rs) none)
        | Some p ↦ λ some.
            let low = least_is (above q rs) p some in
            let over : beyond q p ≡ true = beyond_there q p rs low.1 in
            let here : at p (above q rs) ≡ at p rs = at_within q p rs over in
            let next : above (Some p) (above q rs) ≡ above (Some p) rs = above_within q p rs over in
            let size : length (above q rs) ≡ length (at p rs) + length (above (Some p) rs) = length_from p (above q rs) low.0
            ∙ (λ i. length (here i) + length (next i)) in
            let there : 0 < length (at p rs) = subst (λ l. 0 < length l) here low.1 in
            let go = folds_some left w v p rs plain (omega (arith, size, h)) e
            (λ u x same calls. subst (λ n. Folds left u x n (above (Some p) rs))
            (ap (λ l. least (priorities (above (Some p) l))) (sym (ap (λ t. registrations t hook) same ∙ e)))
            (folds rs plain left u x (Some p) (ap (λ t. registrations t hook) same ∙ e) (omega (arith, size, calls, h)) (omega (arith, size, there, k)))) in (
              go.0,
              go.1 ∙ ap (λ l. Ended go.0 (value_after_callbacks engine hook args v l))
                  (sym (sorted_from p (above q rs) low.0 ∙ (λ i. here i ++ by_priority (next i)))),
            )
      ] refl

pub plain-fold : (engine : Engine) (world : World) (hook value : Text) (args : List Text) → PlainFold engine world hook value args
unfolding filtered pass
plain-fold engine world hook value args named plain h =
    let rs = registrations world.table hook in
    let entered : World = record world { running = world.running ++ hook ∷ [] } in
    let all : above None rs ≡ rs = above_none rs in
    let size : length (above None rs) ≤ world.calls = subst (λ l. length l ≤ world.calls) (sym all) h in
    let go = folds engine hook args rs plain world.calls entered value None refl size size in
    ap (λ t. result_of (outcome_of t)) (filter_named (invoke engine) world hook value args named)
    ∙ ap result_of (end_then (priorities_pass (invoke engine) Filter hook args world.calls entered value (least (priorities (above None rs))))
    (λ later result. Done (record later { running = without_last later.running }) result) go.0
    (value_after_callbacks engine hook args value (by_priority (above None rs))) go.1)
    ∙ ap (λ l. Some (value_after_callbacks engine hook args value (by_priority l))) all
