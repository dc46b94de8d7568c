-- The one induction over what is meant: two engines that do the same from each world of a fact, which each step keeps, go the
-- same way, and the fact holds in each world that a piece of work goes through. It says too that an invocation doesn't depend
-- on the bound by which it is defined, and that each takes a call.
use Rattle.std.proofs.Common.{◌≡◌, ℕ, zero, suc, ◌+◌, ◌-◌, ◌≤◌, ℤ, Bool, true, false, ◌&&◌, ◌==◌, List, [], ◌∷◌, ◌++◌, Option, None, Some, refl, sym, ap}
use Rattle.std.proofs.Common.{subst, ◌∙◌, arith, nat_lt}
use Rattle.std.specs.List.{AllByRecursion}
use Rattle.plain_data.specs.Names.{is_hook_name}
use Rattle.hook_changes.specs.declared.reply.Call.{Call}
use Rattle.hook_changes.specs.declared.reply.Reply.{Reply}
use Rattle.hook_changes.specs.declared.reply.Change.{Change}
use Rattle.hook_changes.specs.declared.reply.Change.TheVariants.{Add, Remove, RemoveAll, AddTag, RemoveTag, RemoveAllTags}
use Rattle.hook_changes.specs.declared.reply.Ask.{Ask}
use Rattle.hook_changes.specs.declared.reply.Ask.TheVariants.{Apply, Act, Shortcodes, Did, Current, Doing, Has, TagExists, GetOption}
use Rattle.hook_changes.specs.declared.reply.Then.{Then}
use Rattle.hook_changes.specs.declared.reply.Then.TheVariants as next
use Rattle.hook_registry.specs.declared.registration.Entry.{Entry}
use Rattle.hook_registry.specs.Named.{value_of}
use Rattle.hook_registry.specs.Table.{group, after}
use Rattle.hook_meaning.specs.declared.fault.RunFault.{RunFault}
use Rattle.hook_meaning.specs.declared.fault.RunFault.TheVariants.{TooManyCalls}
use Rattle.hook_meaning.specs.declared.pass_kind.PassKind.{PassKind}
use Rattle.shortcode_scan.specs.declared.Piece.{Piece}
use Rattle.shortcode_scan.specs.declared.Piece.TheVariants.{Plain, Match}
use Rattle.callback_store.specs.Shape.{Shape}
use Rattle.plain_data.specs.Texts.{Text}
use Rattle.hook_meaning.specs.World.{World, world_after_change, world_after_changes}
use Rattle.hook_meaning.specs.Trace.{Event, Trace, Done, Refused, Turn, and_then, work_if}
use Rattle.hook_meaning.specs.Meaning.{Engine, Invocation, deeper, group_pass, priorities_pass, pass, filter_pass, action_pass, shortcode_filter, handled}
use Rattle.hook_meaning.specs.Meaning.{piece_pass, pieces_pass, shortcodes_pass, answered, follow, reply_to_call, world_after_reply, invoked, invoked_with}
use Rattle.hook_meaning.specs.Meaning.{invoke_within, invoke}
use Rattle.hook_meaning.specs.Meaning.{filtered, acted, replaced, text_at}

-- the fact holds of a world in which no more calls are left than the bound
abbrev pub Within : (World → Type 0) → ℕ → World → Type 0
Within I c w = (w.calls ≤ c) × I w

-- two pieces of work go the same way: the fact holds in each world, and there are at most as many invocations as calls
-- are used up
pub data Agree {A : Type 0} (I : World → Type 0) : ℕ → Trace A → Trace A → Type 0 where
  agree_done : {c : ℕ} {w : World} {x : A} → Within I c w → Agree I c (Done w x) (Done w x)
  agree_refused : {c : ℕ} {f : RunFault} → Agree I c (Refused f) (Refused f)
  agree_turn : {c : ℕ} {e : Event} {t u : Trace A} → I e.world → Agree I c t u → Agree I (suc c) (Turn e t) (Turn e u)

pub agree-same : {A : Type 0} {I : World → Type 0} {c : ℕ} {t u : Trace A} → Agree I c t u → t ≡ u
agree-same (agree_done h) = refl
agree-same agree_refused = refl
agree-same (agree_turn {e = e} i r) = ap (Turn e) (agree-same r)

pub agree_more : {A : Type 0} {I : World → Type 0} {c : ℕ} (d : ℕ) {t u : Trace A} → c ≤ d → Agree I c t u → Agree I d t u
agree_more d h (agree_done k) = agree_done (omega (arith, h, k.0), k.1)
agree_more d h agree_refused = agree_refused
agree_more zero h (agree_turn i r) = absurd (omega (arith, h))
agree_more (suc d) h (agree_turn i r) = agree_turn i (agree_more d (omega (arith, h)) r)

-- two continuations go the same way from each world of the fact, whatever the bound
abbrev pub AgreeFrom : {A B : Type 0} → (World → Type 0) → ℕ → (World → A → Trace B) → (World → A → Trace B) → Type 0
AgreeFrom {A} I c f g = (d : ℕ) → d ≤ c → (w : World) (x : A) → Within I d w → Agree I d (f w x) (g w x)

pub agree_then : {A B : Type 0} {I : World → Type 0} {c : ℕ} {t u : Trace A} (f g : World → A → Trace B) → Agree I c t u → AgreeFrom I c f g
    → Agree I c (and_then t f) (and_then u g)
agree_then f g (agree_done {c = c} {w = w} {x = x} h) k = k c (omega arith) w x h
agree_then f g agree_refused k = agree_refused
agree_then f g (agree_turn i r) k = agree_turn i (agree_then f g r (λ d l. k d (omega (arith, l))))

pub agree_chosen : {A : Type 0} {I : World → Type 0} {c : ℕ} (b : Bool) (w : World) (f f' g g' : World → Trace A) → (b ≡ true → Agree I c (f w) (f' w))
    → (b ≡ false → Agree I c (g w) (g' w))
    → Agree I c (work_if b f g w) (work_if b f' g' w)
agree_chosen true w f f' g g' h k = h refl
agree_chosen false w f f' g g' h k = k refl

-- a fact of worlds that each step of a run keeps
pub record Keeps (plugins : List Shape) (I : World → Type 0) : Type 0 where
  pub calls : (w : World) (n : ℕ) → I w → I (record w { calls = n })
  pub deeper : (w : World) → nat_lt w.depth 32 ≡ true → I w → I (record w { depth = w.depth + 1 })
  pub higher : (w : World) → I w → I (record w { depth = w.depth - 1 })
  pub running : (w : World) (hooks : List Text) → I w → I (record w { running = hooks })
  pub counts : (w : World) (counts : List (Text × ℕ)) → I w → I (record w { counts = counts })
  pub output : (w : World) (text : Text) → I w → I (record w { output = text })
  pub changed : (w : World) (c : Change) → I w → I (world_after_change plugins w c)

pub keeps_all : (plugins : List Shape) (I : World → Type 0) → Keeps plugins I → (w : World) (cs : List Change) → I w → I (world_after_changes plugins w cs)
keeps_all plugins I k w [] i = i
keeps_all plugins I k w (c ∷ cs) i = keeps_all plugins I k (world_after_change plugins w c) cs (k.changed w c i)

pub changed-calls : (plugins : List Shape) (w : World) (c : Change) → (world_after_change plugins w c).calls ≡ w.calls
changed-calls plugins w (Add hook priority callback accepted) = refl
changed-calls plugins w (Remove hook priority callback) = refl
changed-calls plugins w (RemoveAll hook priority) = refl
changed-calls plugins w (AddTag tag callback) = refl
changed-calls plugins w (RemoveTag tag) = refl
changed-calls plugins w RemoveAllTags = refl

pub changed_all-calls : (plugins : List Shape) (w : World) (cs : List Change) → (world_after_changes plugins w cs).calls ≡ w.calls
changed_all-calls plugins w [] = refl
changed_all-calls plugins w (c ∷ cs) = changed_all-calls plugins (world_after_change plugins w c) cs ∙ changed-calls plugins w c

-- Two engines that do the same from each world of a fact. Each step keeps the fact of worlds; what such a world registers is a
-- callback of the other fact; for such a callback both engines have the same reply; and from such a world both carry out a
-- change alike.
pub record Alike (I : World → Type 0) (P : ℕ → Type 0) (one other : Engine) : Type 0 where
  pub keep : Keeps one.plugins I
  pub entries : (w : World) (hook : Text) (priority : ℤ) → I w → AllByRecursion (λ e. P e.callback) (group w.table hook priority)
  pub handler : (w : World) (tag : Text) (k : ℕ) → I w → value_of w.tags tag ≡ Some k → P k
  pub said : (k : ℕ) (call : Call) → P k → (k == 0) ≡ false → reply_to_call one k call ≡ reply_to_call other k call
  pub changed : (w : World) (c : Change) → I w → world_after_change one.plugins w c ≡ world_after_change other.plugins w c

-- two invocations go the same way for each callback of the fact, from each world of the fact with no more calls than the bound
abbrev pub SameBelow : (World → Type 0) → (ℕ → Type 0) → ℕ → Invocation → Invocation → Type 0
SameBelow I P c i j = (d : ℕ) → d ≤ c → (w : World) (k : ℕ) (call : Call) → P k → Within I d w → Agree I d (i w k call) (j w k call)

module _ (plugins : List Shape) (I : World → Type 0) (keep : Keeps plugins I) where
  pub agree_deeper : {A : Type 0} (c : ℕ) (w : World) (f g : World → Trace A) → Within I c w → ((v : World) → Within I c v → Agree I c (f v) (g v))
      → Agree I c (deeper w f) (deeper w g)
  unfolding deeper
  agree_deeper c w f g h k =
      agree_chosen (nat_lt w.depth 32) w _ _ _ _
      (λ e. agree_then _ _ (k (record w { depth = w.depth + 1 }) (h.0, keep.deeper w e h.1)) (λ d l v x e. agree_done (e.0, keep.higher v e.1)))
      (λ e. agree_refused)

module _ (one other : Engine) (I : World → Type 0) (P : ℕ → Type 0) (both : Alike I P one other) where
  module _ (c : ℕ) (i j : Invocation) (s : SameBelow I P c i j) where
    pub agree_group : (d : ℕ) → d ≤ c → (kind : PassKind) (hook : Text) (args : List Text) (w : World) (v : Text) (es : List Entry)
        → AllByRecursion (λ e. P e.callback) es
        → Within I d w
        → Agree I d (group_pass i kind hook args w v es) (group_pass j kind hook args w v es)
    unfolding group_pass
    agree_group d l kind hook args w v [] n h = agree_done h
    agree_group d l kind hook args w v (e ∷ es) n h = agree_then _ _ (s d l w e.callback _ n.0 h)
        (λ b m w' r k. agree_group b (omega (arith, l, m)) kind hook args w' _ es n.1 k)

    pub agree_priorities : (d : ℕ) → d ≤ c → (kind : PassKind) (hook : Text) (args : List Text) (k : ℕ) (w : World) (v : Text) (p : Option ℤ) → Within I d w
        → Agree I d (priorities_pass i kind hook args k w v p) (priorities_pass j kind hook args k w v p)
    unfolding priorities_pass
    agree_priorities d l kind hook args k w v None h = agree_done h
    agree_priorities d l kind hook args zero w v (Some p) h = agree_refused
    agree_priorities d l kind hook args (suc k) w v (Some p) h =
        agree_then _ _ (agree_group d l kind hook args w v (group w.table hook p) (both.entries w hook p h.1) h)
        (λ b m w' r e. agree_priorities b (omega (arith, l, m)) kind hook args k w' r (after w'.table hook p) e)

    pub agree_pass : (d : ℕ) → d ≤ c → (kind : PassKind) (w : World) (hook v : Text) (args : List Text) → Within I d w
        → Agree I d (pass i kind w hook v args) (pass j kind w hook v args)
    unfolding pass
    agree_pass d l kind w hook v args h =
        agree_then _ _ (agree_priorities d l kind hook args w.calls (record w { running = w.running ++ hook ∷ [] }) v _ (h.0, both.keep.running w _ h.1))
        (λ b m w' r e. agree_done (e.0, both.keep.running w' _ e.1))

    pub agree_filter : (d : ℕ) → d ≤ c → (w : World) (hook v : Text) (args : List Text) → Within I d w
        → Agree I d (filter_pass i w hook v args) (filter_pass j w hook v args)
    unfolding filter_pass
    agree_filter d l w hook v args h = agree_chosen (is_hook_name hook) w _ _ _ _ (λ e. agree_pass d l _ w hook v args h) (λ e. agree_done h)

    pub agree_action : (d : ℕ) → d ≤ c → (w : World) (hook : Text) (args : List Text) → Within I d w
        → Agree I d (action_pass i w hook args) (action_pass j w hook args)
    unfolding action_pass
    agree_action d l w hook args h = agree_chosen (is_hook_name hook) w _ _ _ _ (λ e. agree_pass d l _ _ hook [] args (h.0, both.keep.counts w _ h.1))
        (λ e. agree_done h)

    pub agree_handled : (d : ℕ) → d ≤ c → (w : World) (handler : Option ℕ) (call : Call) (whole before following : Text) → ((k : ℕ) → handler ≡ Some k → P k)
        → Within I d w
        → Agree I d (handled i w handler call whole before following) (handled j w handler call whole before following)
    unfolding handled
    agree_handled d l w None call whole before following n h = agree_done h
    agree_handled d l w (Some k) call whole before following n h = agree_then _ _ (s d l w k call (n k refl) h)
        (λ b m w' r e. agree_filter b (omega (arith, l, m)) w' shortcode_filter _ _ e)

    pub agree_piece : (d : ℕ) → d ≤ c → (text : Text) (w : World) (p : Piece) → Within I d w → Agree I d (piece_pass i text w p) (piece_pass j text w p)
    unfolding piece_pass
    agree_piece d l text w (Plain span) h = agree_done h
    agree_piece d l text w (Match whole name atts content opening closing) h = agree_chosen (opening && closing) w _ _ _ _ (λ e. agree_done h)
        (λ e. agree_handled d l w _ _ _ _ _ (λ k at. both.handler w (text_at text name) k h.1 at) h)

    pub agree_pieces : (d : ℕ) → d ≤ c → (text : Text) (w : World) (so_far : Text) (ps : List Piece) → Within I d w
        → Agree I d (pieces_pass i text w so_far ps) (pieces_pass j text w so_far ps)
    unfolding pieces_pass
    agree_pieces d l text w so_far [] h = agree_done h
    agree_pieces d l text w so_far (p ∷ ps) h = agree_then _ _ (agree_piece d l text w p h) (λ b m w' r e. agree_pieces b (omega (arith, l, m)) text w' _ ps e)

    pub agree_shortcodes : (d : ℕ) → d ≤ c → (w : World) (text : Text) → Within I d w → Agree I d (shortcodes_pass i w text) (shortcodes_pass j w text)
    unfolding shortcodes_pass
    agree_shortcodes d l w text h = agree_pieces d l text w [] _ h

    pub agree_answered : (d : ℕ) → d ≤ c → (w : World) (ask : Ask) → Within I d w → Agree I d (answered i w ask) (answered j w ask)
    unfolding answered
    agree_answered d l w (Apply hook value args) h = agree_deeper one.plugins I both.keep d w _ _ h
        (λ v e. agree_then _ _ (agree_filter d l v hook value args e) (λ b m v' r e'. agree_done e'))
    agree_answered d l w (Act hook args) h = agree_deeper one.plugins I both.keep d w _ _ h
        (λ v e. agree_then _ _ (agree_action d l v hook args e) (λ b m v' r e'. agree_done e'))
    agree_answered d l w (Shortcodes text) h = agree_deeper one.plugins I both.keep d w _ _ h
        (λ v e. agree_then _ _ (agree_shortcodes d l v text e) (λ b m v' r e'. agree_done e'))
    agree_answered d l w (Did hook) h = agree_done h
    agree_answered d l w Current h = agree_done h
    agree_answered d l w (Doing hook) h = agree_done h
    agree_answered d l w (Has hook callback) h = agree_done h
    agree_answered d l w (TagExists tag) h = agree_done h
    agree_answered d l w (GetOption name) h = agree_done h

    pub agree_follow : (d : ℕ) → d ≤ c → (w : World) (k : ℕ) (call : Call) (t : Then) → P k → Within I d w
        → Agree I d (follow i w k call t) (follow j w k call t)
    unfolding follow
    agree_follow d l w k call (next.Answer text) n h = agree_done h
    agree_follow d l w k call (next.Ask ask) n h = agree_then _ _ (agree_answered d l w ask h) (λ b m w' r e. s b (omega (arith, l, m)) w' k _ n e)

none_left : (engine : Engine) (i : Invocation) (left : ℕ) → left ≤ 0 → (w : World) (k : ℕ) (call : Call) → invoked_with engine i left w k call
    ≡ Refused TooManyCalls
unfolding invoked_with
none_left engine i zero h w k call = refl
none_left engine i (suc left) h w k call = absurd (omega arith)

module _ (one other : Engine) (I : World → Type 0) (P : ℕ → Type 0) (both : Alike I P one other) where
  pub changed_all-agree : (w : World) (cs : List Change) → I w → world_after_changes one.plugins w cs ≡ world_after_changes other.plugins w cs
  changed_all-agree w [] i = refl
  changed_all-agree w (c ∷ cs) i =
      changed_all-agree (world_after_change one.plugins w c) cs (both.keep.changed w c i)
      ∙ ap (λ v. world_after_changes other.plugins v cs) (both.changed w c i)

  agree_invoked : (c : ℕ) (i j : Invocation) → SameBelow I P c i j → (w : World) (k : ℕ) (call : Call) → P k → Within I c w
      → Agree I (suc c) (invoked one i w k call) (invoked other j w k call)
  unfolding invoked
  agree_invoked c i j s w k call n h =
      agree_chosen (k == 0) w _ _ _ _
      (λ e. agree_turn h.1 (agree_deeper one.plugins I both.keep c w _ _ h (λ v e. agree_shortcodes one other I P both c i j s c (omega arith) v _ e)))
      own
    where
      reply : Reply
      reply = reply_to_call one k call

      printed : World
      printed = record w { output = w.output ++ reply.echo }

      later : World
      later = world_after_changes one.plugins printed reply.changes

      kept : I later
      kept = keeps_all one.plugins I both.keep printed reply.changes (both.keep.output w _ h.1)

      follows : Agree I c (follow i later k call reply.next) (follow j later k call reply.next)
      follows = agree_follow one other I P both c i j s c (omega arith) later k call reply.next n
          (subst (λ m. m ≤ c) (sym (changed_all-calls one.plugins printed reply.changes)) h.0, kept)

      made : World → Event
      made v = record { callback = k; call = call; world = v }

      own : (k == 0) ≡ false → Agree I (suc c) (Turn (made later) (follow i later k call reply.next))
          (Turn (made (world_after_reply other w (reply_to_call other k call))) (follow j (world_after_reply other w (reply_to_call other k call)) k call
          (reply_to_call other k call).next))
      own e =
          subst (λ r. Agree I (suc c) (Turn (made later) (follow i later k call reply.next))
          (Turn (made (world_after_reply other w r)) (follow j (world_after_reply other w r) k call r.next)))
          (both.said k call n e)
          (subst (λ v. Agree I (suc c) (Turn (made later) (follow i later k call reply.next)) (Turn (made v) (follow j v k call reply.next)))
          (changed_all-agree printed reply.changes (both.keep.output w _ h.1)) (agree_turn kept follows))

  agree_with : (c : ℕ) (i j : Invocation) → ((d : ℕ) → suc d ≤ c → SameBelow I P d i j) → (left : ℕ) → left ≤ c → (w : World) (k : ℕ) (call : Call) → P k → I w
      → Agree I c (invoked_with one i left w k call) (invoked_with other j left w k call)
  unfolding invoked_with
  agree_with c i j s zero h w k call n g = agree_refused
  agree_with c i j s (suc left) h w k call n g = agree_more c h (agree_invoked left i j (s left h) (record w { calls = left }) k call n
      (omega arith, both.keep.calls w left g))

  -- whichever bounds the invocations are defined by
  agree_within : (n m c : ℕ) → c ≤ n → c ≤ m → SameBelow I P c (invoke_within one n) (invoke_within other m)
  unfolding invoke_within
  agree_within zero zero c under under_other left bounded world callback call named within = agree_refused
  agree_within zero (suc m) c under under_other left bounded world callback call named within = rw
      (none_left other (invoke_within other m) world.calls (omega (arith, bounded, under, within.0)) world callback call) agree_refused
  agree_within (suc n) zero c under under_other left bounded world callback call named within = rw
      (none_left one (invoke_within one n) world.calls (omega (arith, bounded, under_other, within.0)) world callback call) agree_refused
  agree_within (suc n) (suc m) c under under_other left bounded world callback call named within =
      agree_with left (invoke_within one n) (invoke_within other m)
      (λ bound below. agree_within n m bound (omega (arith, below, bounded, under)) (omega (arith, below, bounded, under_other))) world.calls within.0
      world callback call named within.1

  -- invocations of the two engines go the same way
  pub invoke-agree : (n : ℕ) → SameBelow I P n (invoke one) (invoke other)
  unfolding invoke
  invoke-agree n d l w k call named h = agree_more d h.0 (agree_within w.calls w.calls w.calls (omega arith) (omega arith) w.calls (omega arith) w k call named
      (omega arith, h.1))

  pub agree_filtered : (w : World) (hook value : Text) (args : List Text) → I w
      → Agree I w.calls (filtered one w hook value args) (filtered other w hook value args)
  unfolding filtered
  agree_filtered w hook value args i = agree_filter one other I P both w.calls (invoke one) (invoke other) (invoke-agree w.calls) w.calls (omega arith) w hook
      value args (omega arith, i)

  pub agree_acted : (w : World) (hook : Text) (args : List Text) → I w → Agree I w.calls (acted one w hook args) (acted other w hook args)
  unfolding acted
  agree_acted w hook args i =
      agree_then _ _ (agree_action one other I P both w.calls (invoke one) (invoke other) (invoke-agree w.calls) w.calls (omega arith) w hook args
      (omega arith, i)) (λ d l v x e. agree_done e)

  pub agree_replaced : (w : World) (text : Text) → I w → Agree I w.calls (replaced one w text) (replaced other w text)
  unfolding replaced
  agree_replaced w text i = agree_shortcodes one other I P both w.calls (invoke one) (invoke other) (invoke-agree w.calls) w.calls (omega arith) w text
      (omega arith, i)

-- ---- one engine

-- nothing is asked of a callback
abbrev pub Every : ℕ → Type 0
Every k = Unit {0}

pub every : (es : List Entry) → AllByRecursion (λ e. Every e.callback) es
every [] = tt
every (e ∷ es) = (tt, every es)

-- an engine does what it does itself
pub itself : (engine : Engine) (I : World → Type 0) → Keeps engine.plugins I → Alike I Every engine engine
itself engine I keep = record {
  keep = keep;
  entries = λ w hook priority i. every (group w.table hook priority);
  handler = λ w tag k i at. tt;
  said = λ k call n e. refl;
  changed = λ w c i. refl;
}

-- nothing is asked of a world
abbrev pub Any : World → Type 0
Any w = Unit {0}

pub keeps_any : (plugins : List Shape) → Keeps plugins Any
keeps_any plugins = record {
  calls = λ w n i. tt;
  deeper = λ w e i. tt;
  higher = λ w i. tt;
  running = λ w hooks i. tt;
  counts = λ w counts i. tt;
  output = λ w text i. tt;
  changed = λ w c i. tt;
}

module _ (engine : Engine) where
  -- the engine, of which nothing is asked
  pub plain : Alike Any Every engine engine
  plain = itself engine Any (keeps_any engine.plugins)

  -- the bound may be left out
  same_within : (n : ℕ) → SameBelow Any Every n (invoke_within engine n) (invoke engine)
  unfolding invoke
  same_within n d l w k call named h = agree_more d h.0 (agree_within engine engine Any Every plain n w.calls w.calls (omega (arith, l, h.0)) (omega arith)
      w.calls (omega arith) w k call tt (omega arith, tt))

  step_at : (c : ℕ) (w : World) (k : ℕ) (call : Call) → w.calls ≡ c → invoke_within engine c w k call ≡ invoked_with engine (invoke engine) c w k call
  unfolding invoke_within invoked_with
  step_at zero w k call e = refl
  step_at (suc c) w k call e =
      rw e
      (agree-same (agree_invoked engine engine Any Every plain c (invoke_within engine c) (invoke engine) (same_within c) (record w { calls = c }) k call tt
      (omega arith, tt)))

  -- an invocation, by its own equation
  pub invoke-step : (w : World) (k : ℕ) (call : Call) → invoke engine w k call ≡ invoked_with engine (invoke engine) w.calls w k call
  unfolding invoke
  invoke-step w k call = step_at w.calls w k call refl
