-- A pass, without the bound by which it is defined: each priority that is reached has an entry, so a call is taken there.
use Rattle.std.proofs.Common.{◌≡◌, ◌≢◌, ℕ, zero, suc, ◌-◌, ◌≤◌, ℤ, Bool, true, false, ◌||◌, ◌==◌, ◌++◌, cond, List, [], ◌∷◌, map, filter, Option, None}
use Rattle.std.proofs.Common.{Some, refl, sym, ap, subst, arith}
use Rattle.std.specs.Prelude.{fold, int_lt}
use Rattle.std.specs.Int.{int_min}
use Rattle.std.specs.Ordering.{int_eq}
use Rattle.std.specs.Cmp.{int_eq_equiv}
use Rattle.std.specs.List.{list_any, reduce}
use Rattle.hook_changes.specs.declared.reply.Call.{Call}
use Rattle.hook_registry.specs.declared.registration.Entry.{Entry}
use Rattle.hook_registry.specs.declared.registration.Registration.{Registration}
use Rattle.hook_registry.specs.Table.{Table, registrations, is_at, is_above, entry_of, group, next_priority, after}
use Rattle.hook_meaning.specs.declared.fault.RunFault.{RunFault}
use Rattle.hook_meaning.specs.declared.fault.RunFault.TheVariants.{TooManyCalls}
use Rattle.hook_meaning.specs.declared.pass_kind.PassKind.{PassKind}
use Rattle.plain_data.specs.Texts.{Text}
use Rattle.hook_meaning.specs.World.{World}
use Rattle.hook_meaning.specs.Trace.{Event, Trace, Done, Refused, Turn, and_then, work_if}
use Rattle.hook_meaning.specs.Meaning.{Engine, hook_call, group_pass, priorities_pass, reply_to_call, invoked, invoked_with, invoke}
use Rattle.hook_meaning.proofs.Agree.{Agree, SameBelow, agree_done, agree_refused, agree_turn, agree_group, agree_deeper, agree_shortcodes, agree_follow}
use Rattle.hook_meaning.proofs.Agree.{changed_all-calls, invoke-agree, Any, keeps_any, Every, every, plain, invoke-step}

pub then_then : {A B C : Type 0} (t : Trace A) (f : World → A → Trace B) (g : World → B → Trace C)
    → and_then (and_then t f) g ≡ and_then t (λ w x. and_then (f w x) g)
then_then (Done w x) f g = refl
then_then (Refused r) f g = refl
then_then (Turn w t) f g = ap (Turn w) (then_then t f g)

-- what follows may be written another way
pub then_under : {A B : Type 0} (t : Trace A) (f g : World → A → Trace B) → ((w : World) (x : A) → f w x ≡ g w x) → and_then t f ≡ and_then t g
then_under (Done w x) f g h = h w x
then_under (Refused r) f g h = refl
then_under (Turn w t) f g h = ap (Turn w) (then_under t f g h)

-- the work ends with no more calls than the bound
pub data Leaves {A : Type 0} (c : ℕ) : Trace A → Type 0 where
  leaves_done : {w : World} {x : A} → w.calls ≤ c → Leaves c (Done w x)
  leaves_refused : {f : RunFault} → Leaves c (Refused f)
  leaves_turn : {e : Event} {t : Trace A} → Leaves c t → Leaves c (Turn e t)

leaves_more : {A : Type 0} {c : ℕ} (d : ℕ) {t : Trace A} → c ≤ d → Leaves c t → Leaves d t
leaves_more d h (leaves_done k) = leaves_done (omega (arith, h, k))
leaves_more d h leaves_refused = leaves_refused
leaves_more d h (leaves_turn r) = leaves_turn (leaves_more d h r)

leaves_agree : {A : Type 0} {I : World → Type 0} {c : ℕ} {t u : Trace A} → Agree I c t u → Leaves c t
leaves_agree (agree_done h) = leaves_done h.0
leaves_agree agree_refused = leaves_refused
leaves_agree (agree_turn {c = c} i r) = leaves_turn (leaves_more (suc c) (omega arith) (leaves_agree r))

leaves_then : {A B : Type 0} {c : ℕ} {t : Trace A} (f : World → A → Trace B) → Leaves c t → ((w : World) (x : A) → w.calls ≤ c → Leaves c (f w x))
    → Leaves c (and_then t f)
leaves_then f (leaves_done {w = w} {x = x} h) k = k w x h
leaves_then f leaves_refused k = leaves_refused
leaves_then f (leaves_turn r) k = leaves_turn (leaves_then f r k)

leaves_chosen : {A : Type 0} {c : ℕ} (b : Bool) (w : World) (f g : World → Trace A) → Leaves c (f w) → Leaves c (g w) → Leaves c (work_if b f g w)
leaves_chosen true w f g h k = h
leaves_chosen false w f g h k = k

-- if the first work ends with no more calls than the bound, what follows may be changed beyond it
pub then_same : {A B : Type 0} {c : ℕ} {t : Trace A} (f g : World → A → Trace B) → Leaves c t → ((w : World) (x : A) → w.calls ≤ c → f w x ≡ g w x)
    → and_then t f ≡ and_then t g
then_same f g (leaves_done {w = w} {x = x} h) k = k w x h
then_same f g leaves_refused k = refl
then_same f g (leaves_turn {e = e} r) k = ap (Turn e) (then_same f g r k)

module _ (engine : Engine) where
  -- an invocation brings no call back
  own_way : (c : ℕ) → SameBelow Any Every c (invoke engine) (invoke engine)
  own_way c = invoke-agree engine engine Any Every (plain engine) c

  less_invoked : (c : ℕ) (w : World) (n : ℕ) (call : Call) → w.calls ≤ c → Leaves c (invoked engine (invoke engine) w n call)
  unfolding invoked
  less_invoked c w n call h =
      leaves_chosen (n == 0) w _ _
      (leaves_turn (leaves_agree (agree_deeper engine.plugins Any (keeps_any engine.plugins) c w _ _ (h, tt)
      (λ v e. agree_shortcodes engine engine Any Every (plain engine) c (invoke engine) (invoke engine) (own_way c) c (omega arith) v _ e))))
      (leaves_turn (leaves_agree (agree_follow engine engine Any Every (plain engine) c (invoke engine) (invoke engine) (own_way c) c (omega arith) _ n
      call _ tt (
        subst (λ k. k ≤ c) (sym (changed_all-calls engine.plugins (record w { output = w.output ++ (reply_to_call engine n call).echo })
            (reply_to_call engine n call).changes))
            h,
        tt,
      ))))

  less_with : (c left : ℕ) → left ≤ suc c → (w : World) (k : ℕ) (call : Call) → Leaves c (invoked_with engine (invoke engine) left w k call)
  unfolding invoked_with
  less_with c zero h w k call = leaves_refused
  less_with c (suc left) h w k call = leaves_more c (omega (arith, h)) (less_invoked left (record w { calls = left }) k call (omega arith))

  -- and it takes one
  less_way : (c : ℕ) (w : World) (k : ℕ) (call : Call) → w.calls ≤ suc c → Leaves c (invoke engine w k call)
  less_way c w k call h = rw (invoke-step engine w k call) (less_with c w.calls h w k call)

  module _ (kind : PassKind) (hook : Text) (args : List Text) where
    less_group : (c : ℕ) (w : World) (v : Text) (e : Entry) (es : List Entry) → w.calls ≤ suc c
        → Leaves c (group_pass (invoke engine) kind hook args w v (e ∷ es))
    unfolding group_pass
    less_group c w v e es h = leaves_then _ (less_way c w e.callback _ h)
        (λ w' r k. leaves_agree (agree_group engine engine Any Every (plain engine) c (invoke engine) (invoke engine) (own_way c) c (omega arith) kind
        hook args w' _ es (every es) (k, tt)))

    none_group : (w : World) (v : Text) (e : Entry) (es : List Entry) → w.calls ≡ 0
        → group_pass (invoke engine) kind hook args w v (e ∷ es) ≡ Refused TooManyCalls
    unfolding group_pass invoked_with
    none_group w v e es h = rw (invoke-step engine w e.callback (hook_call hook _), h) refl

    -- a priority that is reached has an entry
    abbrev IsReached : World → Option ℤ → Type 0
    IsReached w next = (p : ℤ) → next ≡ Some p → group w.table hook p ≢ []

    less_entries : (c : ℕ) (w : World) (v : Text) (es : List Entry) → es ≢ [] → w.calls ≤ suc c → Leaves c (group_pass (invoke engine) kind hook args w v es)
    less_entries c w v [] n h = absurd (n refl)
    less_entries c w v (e ∷ es) n h = less_group c w v e es h

    none_entries : (w : World) (v : Text) (es : List Entry) → es ≢ [] → w.calls ≡ 0 → group_pass (invoke engine) kind hook args w v es ≡ Refused TooManyCalls
    none_entries w v [] n h = absurd (n refl)
    none_entries w v (e ∷ es) n h = none_group w v e es h

    same_walk : (n m : ℕ) (w : World) (v : Text) (next : Option ℤ) → w.calls ≤ n → w.calls ≤ m → IsReached w next
        → ((w : World) (p : ℤ) → IsReached w (after w.table hook p))
        → priorities_pass (invoke engine) kind hook args n w v next ≡ priorities_pass (invoke engine) kind hook args m w v next
    unfolding priorities_pass
    same_walk n m w v None h k r s = refl
    same_walk zero zero w v (Some p) h k r s = refl
    same_walk zero (suc m) w v (Some p) h k r s =
        rw (none_entries w v (group w.table hook p) (r p refl) (omega arith)) refl
    same_walk (suc n) zero w v (Some p) h k r s =
        rw (none_entries w v (group w.table hook p) (r p refl) (omega arith)) refl
    same_walk (suc n) (suc m) w v (Some p) h k r s =
        then_same (λ later kept. priorities_pass (invoke engine) kind hook args n later kept (after later.table hook p))
        (λ later kept. priorities_pass (invoke engine) kind hook args m later kept (after later.table hook p))
        (less_entries (w.calls - 1) w v (group w.table hook p) (r p refl) (omega arith))
        (λ later kept e. same_walk n m later kept (after later.table hook p) (omega (arith, e)) (omega (arith, e)) (s later p) s)

-- the smallest priority above another is some registration's
same_int : (x y : ℤ) → x ≡ y → int_eq x y ≡ true
same_int x y e = rw e (int_eq_equiv.refl y)

or_right : (a b : Bool) → b ≡ true → (a || b) ≡ true
or_right true b h = refl
or_right false b h = h

or_left : (a b : Bool) → a ≡ true → (a || b) ≡ true
or_left true b h = refl
or_left false b h = absurd (cc)

or_last : (a b c : Bool) → (a || c) ≡ true → (a || (b || c)) ≡ true
or_last true b c h = refl
or_last false b c h = or_right b c h

lesser_is : (b : Bool) (x a q : ℤ) (any : Bool) → (int_eq (cond b x a) q || any) ≡ true → (int_eq a q || (int_eq x q || any)) ≡ true
lesser_is true x a q any h = or_right (int_eq a q) (int_eq x q || any) h
lesser_is false x a q any h = or_last (int_eq a q) (int_eq x q) any h

reached_fold : (a : ℤ) (xs : List Registration) (q : ℤ) → fold int_min a (map (λ r. r.priority) xs) ≡ q
    → (int_eq a q || list_any (λ r. int_eq r.priority q) xs) ≡ true
reached_fold a [] q e = or_left (int_eq a q) false (same_int a q e)
reached_fold a (x ∷ xs) q e = lesser_is (int_lt x.priority a) x.priority a q (list_any (λ r. int_eq r.priority q) xs)
    (reached_fold (int_min a x.priority) xs q e)

some_is : {X : Type 0} (a b : X) → Some a ≡ Some b → a ≡ b
some_is a b e = cc

reached_any : (xs : List Registration) (q : ℤ) → reduce int_min (map (λ r. r.priority) xs) ≡ Some q → list_any (λ r. int_eq r.priority q) xs ≡ true
reached_any [] q e = absurd (cc)
reached_any (x ∷ xs) q e = reached_fold x.priority xs q (some_is _ _ e)

-- one registration more
found_more : (a : Bool) (r : Registration) (xs ys : List Registration) (q : ℤ) → (list_any (λ r. int_eq r.priority q) xs ≡ true → ys ≢ [])
    → list_any (λ r. int_eq r.priority q) (cond a (r ∷ xs) xs) ≡ true → cond (int_eq r.priority q) (r ∷ ys) ys ≢ []
found_more a r xs ys q k h = with_test (int_eq r.priority q) refl a h
  where
    with_test : (i : Bool) → int_eq r.priority q ≡ i → (a : Bool) → list_any (λ r. int_eq r.priority q) (cond a (r ∷ xs) xs) ≡ true → cond i (r ∷ ys) ys ≢ []
    with_test true e a h = λ n. cc
    with_test false e true h = k (subst (λ b. (b || list_any (λ r. int_eq r.priority q) xs) ≡ true) e h)
    with_test false e false h = k h

found : (passes : Registration → Bool) (rs : List Registration) (q : ℤ) → list_any (λ r. int_eq r.priority q) (filter passes rs) ≡ true
    → filter (is_at q) rs ≢ []
found passes [] q h = absurd (cc)
found passes (r ∷ rs) q h = found_more (passes r) r (filter passes rs) (filter (is_at q) rs) q (found passes rs q) h

mapped : {X Y : Type 0} (f : X → Y) (xs : List X) → xs ≢ [] → map f xs ≢ []
mapped f [] h = λ n. h refl
mapped f (x ∷ xs) h = λ n. cc

-- the next priority of a hook has an entry
pub reached : (table : Table) (hook : List ℕ) (above : Option ℤ) (q : ℤ) → next_priority table hook above ≡ Some q → group table hook q ≢ []
reached table hook above q e =
    mapped entry_of (filter (is_at q) (registrations table hook))
    (found (is_above above) (registrations table hook) q (reached_any (filter (is_above above) (registrations table hook)) q e))

module _ (engine : Engine) (kind : PassKind) (hook : Text) (args : List Text) where
  -- the priorities from one on, with as many calls as are left
  unfoldable pub walk : World → Text → Option ℤ → Trace Text
  walk w v next = priorities_pass (invoke engine) kind hook args w.calls w v next

  walk_on : (n : ℕ) (w : World) (v : Text) (p : ℤ) → w.calls ≡ n → group w.table hook p ≢ []
      → priorities_pass (invoke engine) kind hook args n w v (Some p)
      ≡ and_then (group_pass (invoke engine) kind hook args w v (group w.table hook p)) (λ later kept. walk later kept (after later.table hook p))
  unfolding priorities_pass walk
  walk_on zero w v p e g = sym (rw (none_entries engine kind hook args w v (group w.table hook p) g e) refl)
  walk_on (suc n) w v p e g =
      then_same (λ later kept. priorities_pass (invoke engine) kind hook args n later kept (after later.table hook p))
      (λ later kept. priorities_pass (invoke engine) kind hook args later.calls later kept (after later.table hook p))
      (less_entries engine kind hook args n w v (group w.table hook p) g (omega (arith, e)))
      (λ later kept h. same_walk engine kind hook args n later.calls later kept (after later.table hook p) h (omega arith)
      (λ q. reached later.table hook (Some p) q) (λ v q r. reached v.table hook (Some q) r))

  -- a pass at a priority that was reached, by its own equation
  pub walk-some : (w : World) (v : Text) (p : ℤ) (above : Option ℤ) → next_priority w.table hook above ≡ Some p
      → walk w v (Some p) ≡ and_then (group_pass (invoke engine) kind hook args w v (group w.table hook p))
      (λ later kept. walk later kept (after later.table hook p))
  unfolding walk
  walk-some w v p above e = walk_on w.calls w v p refl (reached w.table hook above p e)

  pub walk-none : (w : World) (v : Text) → walk w v None ≡ Done w v
  unfolding walk priorities_pass
  walk-none w v = refl
