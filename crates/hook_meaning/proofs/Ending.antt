-- How pieces of work end, one after another.
use Rattle.std.proofs.Common.{◌≡◌, ℕ, zero, suc, ◌+◌, ◌-◌, ◌≤◌, ◌<◌, ℤ, Bool, true, false, ◌==◌, ◌&&◌, List, [], ◌∷◌, ◌++◌, length, take, drop, get_or}
use Rattle.std.proofs.Common.{Option, None, Some, Ok, Err, refl, sym, ap, ◌∙◌, arith, add-one, drop-cons, sub-one}
use Rattle.std.proofs.lemmas.Bool.{lt-ltb, le-ltb}
use Rattle.std.proofs.Math.Seq.{take-length}
use Rattle.std.proofs.lemmas.List.{take_at, length-append}
use Rattle.std.specs.Prelude.{slice_range, slice_index_or}
use Rattle.plain_data.specs.Names.{is_hook_name}
use Rattle.hook_changes.specs.declared.reply.Call.{Call}
use Rattle.hook_changes.specs.declared.reply.Reply.{Reply}
use Rattle.hook_changes.specs.declared.reply.Then.TheVariants as next
use Rattle.hook_registry.specs.declared.registration.Registration.{Registration}
use Rattle.hook_registry.specs.Table.{Table, registrations, group, has, after, first}
use Rattle.hook_registry.specs.Named.{value_of}
use Rattle.shortcode_scan.specs.declared.Span.{Span}
use Rattle.shortcode_scan.specs.declared.Piece.{Piece}
use Rattle.shortcode_scan.specs.declared.Piece.TheVariants.{Plain, Match}
use Rattle.shortcode_scan.specs.Spans.{inner_span}
use Rattle.hook_meaning.specs.declared.fault.RunFault.{RunFault}
use Rattle.hook_meaning.specs.declared.fault.RunFault.TheVariants.{TooDeep}
use Rattle.hook_meaning.specs.declared.pass_kind.PassKind.{PassKind}
use Rattle.hook_meaning.specs.declared.pass_kind.PassKind.TheVariants.{Filter, Action}
use Rattle.plain_data.specs.Texts.{Text}
use Rattle.hook_meaning.specs.World.{World}
use Rattle.hook_meaning.specs.Trace.{Trace, Done, Refused, Turn, and_then, work_if, Ended, Fault, outcome_of}
use Rattle.hook_meaning.specs.Meaning.{Engine, Invocation, handler_call, bracket, text_at, with_firing, deeper, without_last, group_pass, priorities_pass, pass}
use Rattle.hook_meaning.specs.Meaning.{filter_pass, action_pass, shortcode_filter, handled, piece_pass, pieces_pass, follow, reply_to_call, invoked}
use Rattle.hook_meaning.specs.Meaning.{invoked_with}
use Rattle.hook_meaning.specs.Meaning.{invoke, world_after_reply}
use Rattle.hook_meaning.proofs.Agree.{invoke-step}

-- if the first work has a result, the end is that of the second
pub end_then : {A B : Type 0} (t : Trace A) (k : World → A → Trace B) (w : World) (x : A) → outcome_of t ≡ Ended w x
    → outcome_of (and_then t k) ≡ outcome_of (k w x)
end_then (Done v y) k w x e = go v y e
  where
    go : (v : World) (y : _) → Ended v y ≡ Ended w x → outcome_of (k v y) ≡ outcome_of (k w x)
    go v y e = cc
end_then (Refused f) k w x e = cc
end_then (Turn v t) k w x e = end_then t k w x e

-- if it has a fault, that is the end
pub fault_then : {A B : Type 0} (t : Trace A) (k : World → A → Trace B) (f : RunFault) → outcome_of t ≡ Fault f → outcome_of (and_then t k) ≡ Fault f
fault_then (Done v y) k f e = cc
fault_then (Refused g) k f e = cc
fault_then (Turn v t) k f e = fault_then t k f e

pub drop_at : {A : Type 0} (xs : List A) (i : ℕ) (x d : A) → i < length xs → x ≡ get_or xs i d → drop i xs ≡ x ∷ drop (i + 1) xs
drop_at xs i x d h e = rw add-one (drop-cons xs i d h ∙ ap (λ y. y ∷ drop (suc i) xs) (sym e))

module _ (inv : Invocation) (kind : PassKind) (hook : Text) (args : List Text) where
  pub priorities_none : (left : ℕ) (w : World) (v : Text) → priorities_pass inv kind hook args left w v None ≡ Done w v
  unfolding priorities_pass
  priorities_none left w v = refl

  pub priorities_some : (left : ℕ) (w : World) (v : Text) (p : ℤ) → priorities_pass inv kind hook args (suc left) w v (Some p)
      ≡ and_then (group_pass inv kind hook args w v (group w.table hook p))
      (λ later kept. priorities_pass inv kind hook args left later kept (after later.table hook p))
  unfolding priorities_pass
  priorities_some left w v p = refl

pub filter_named : (inv : Invocation) (w : World) (hook v : Text) (args : List Text) → is_hook_name hook ≡ true
    → filter_pass inv w hook v args ≡ pass inv Filter w hook v args
unfolding filter_pass
filter_named inv w hook v args h = rw h refl

pub filter_unnamed : (inv : Invocation) (w : World) (hook v : Text) (args : List Text) → is_hook_name hook ≡ false → filter_pass inv w hook v args ≡ Done w v
unfolding filter_pass
filter_unnamed inv w hook v args h = rw h refl

-- a pass over a hook on which nothing is registered
no_first : (table : Table) (hook : Text) → has table hook ≡ false → first table hook ≡ None
no_first table hook h = by_list (registrations table hook) refl
  where
    by_list : (rs : List Registration) → registrations table hook ≡ rs → first table hook ≡ None
    by_list [] e = rw e refl
    by_list (r ∷ rs) e = let there : has table hook ≡ true = rw e refl in absurd (cc)

pub left_again : (running : List Text) (hook : Text) → take (length (running ++ hook ∷ []) - 1) (running ++ hook ∷ []) ≡ running
left_again running hook = take_at running (hook ∷ []) (length (running ++ hook ∷ []) - 1) (omega (arith, length-append running (hook ∷ [])))

pub unhooked : (inv : Invocation) (kind : PassKind) (w : World) (hook v : Text) (args : List Text) → has w.table hook ≡ false
    → pass inv kind w hook v args ≡ Done w v
unfolding pass priorities_pass
unhooked inv kind w hook v args h =
    ap (λ (next : Option ℤ). and_then (priorities_pass inv kind hook args w.calls (record w { running = w.running ++ hook ∷ [] }) v next)
    (λ after x. Done (record after { running = without_last after.running }) x)) (no_first w.table hook h)
    ∙ ap (λ (hooks : List Text). Done (record w { running = hooks }) v) (left_again w.running hook)

pub filter_unhooked : (inv : Invocation) (w : World) (hook v : Text) (args : List Text) → has w.table hook ≡ false → filter_pass inv w hook v args ≡ Done w v
unfolding filter_pass
filter_unhooked inv w hook v args h =
    elim (is_hook_name hook) as (λ b. work_if b (λ w. pass inv Filter w hook v args) (λ w. Done w v) w ≡ Done w v)
    [ true ↦ unhooked inv Filter w hook v args h | false ↦ refl ]

pub deeper_within : {A : Type 0} (w : World) (work : World → Trace A) → w.depth < 32
    → deeper w work ≡ and_then (work (record w { depth = w.depth + 1 })) (λ later x. Done (record later { depth = later.depth - 1 }) x)
unfolding deeper
deeper_within w work h = rw (lt-ltb w.depth 32 h) refl

pub deeper_beyond : {A : Type 0} (w : World) (work : World → Trace A) → 32 ≤ w.depth → deeper w work ≡ Refused TooDeep
unfolding deeper
deeper_beyond w work h = rw (le-ltb w.depth 32 h) refl

invoked_one : (engine : Engine) (inv : Invocation) (w : World) (k : ℕ) (call : Call) (n : ℕ) → 0 < n
    → invoked_with engine inv n w k call ≡ invoked engine inv (record w { calls = n - 1 }) k call
unfolding invoked_with
invoked_one engine inv w k call zero h = absurd (omega arith)
invoked_one engine inv w k call (suc n) h = rw sub-one refl

pub invoke_some : (engine : Engine) (w : World) (k : ℕ) (call : Call) → 0 < w.calls
    → invoke engine w k call ≡ invoked engine (invoke engine) (record w { calls = w.calls - 1 }) k call
invoke_some engine w k call h = invoke-step engine w k call ∙ invoked_one engine (invoke engine) w k call w.calls h

pub invoked_stated : (engine : Engine) (inv : Invocation) (w : World) (k : ℕ) (call : Call) → (k == 0) ≡ false
    → outcome_of (invoked engine inv w k call) ≡ outcome_of (follow inv (world_after_reply engine w (reply_to_call engine k call)) k call
    (reply_to_call engine k call).next)
unfolding invoked
invoked_stated engine inv w k call h = rw h refl

module _ (inv : Invocation) where
  -- how a callback goes on
  pub follow_answer : (w : World) (k : ℕ) (call : Call) (text : Text) → outcome_of (follow inv w k call (next.Answer text)) ≡ Ended w text
  unfolding follow
  follow_answer w k call text = refl

module _ (engine : Engine) where
  pub invoke_on : (w taken : World) (k : ℕ) (call : Call) (reply : Reply) (w' : World) → 0 < w.calls → (k == 0) ≡ false
      → taken ≡ record w { calls = w.calls - 1 } → reply ≡ reply_to_call engine k call → w' ≡ world_after_reply engine taken reply
      → outcome_of (invoke engine w k call) ≡ outcome_of (follow (invoke engine) w' k call reply.next)
  invoke_on w taken k call reply w' h n t r e =
      ap outcome_of (invoke_some engine w k call h) ∙ invoked_stated engine (invoke engine) (record w { calls = w.calls - 1 }) k call n
      ∙ ap (λ (q : Reply). outcome_of (follow (invoke engine) (world_after_reply engine (record w { calls = w.calls - 1 }) q) k call q.next)) (sym r)
      ∙ ap (λ (u : World). outcome_of (follow (invoke engine) (world_after_reply engine u reply) k call reply.next)) (sym t)
      ∙ ap (λ (u : World). outcome_of (follow (invoke engine) u k call reply.next)) (sym e)

-- a test that is not false
pub not_false : (b : Bool) → (b ≡ false → ⊥) → b ≡ true
not_false true h = refl
not_false false h = absurd (h refl)

pub ok_not_err : {T E : Type 0} (x : T) (e : E) → Ok x ≡ Err e → ⊥
ok_not_err x e h = cc

pub none_of : {T : Type 0} (o : Option T) → ((x : T) → o ≡ Some x → ⊥) → o ≡ None
none_of None h = refl
none_of (Some x) h = absurd (h x refl)

-- a result that is handed on otherwise
pub end_mapped : {A B : Type 0} (t : Trace A) (f : A → B) (w : World) (x : A) → outcome_of t ≡ Ended w x
    → outcome_of (and_then t (λ later y. Done later (f y))) ≡ Ended w (f x)
end_mapped t f w x e = end_then t (λ later y. Done later (f y)) w x e

module _ (inv : Invocation) where
  pub action_named : (w : World) (hook : Text) (args : List Text) → is_hook_name hook ≡ true
      → action_pass inv w hook args ≡ pass inv Action (with_firing w hook) hook [] args
  unfolding action_pass
  action_named w hook args h = rw h refl

  pub action_unnamed : (w : World) (hook : Text) (args : List Text) → is_hook_name hook ≡ false → action_pass inv w hook args ≡ Done w []
  unfolding action_pass
  action_unnamed w hook args h = rw h refl

  -- a text that is one stretch
  pub one_stretch : (text : Text) (w : World) (ps : List Piece) (first : Piece) (s : Span) → length ps ≡ 1 → slice_index_or ps 0 first ≡ Plain s → s.start ≡ 0
      → s.end ≡ length text
      → pieces_pass inv text w [] ps ≡ Done w text
  unfolding pieces_pass piece_pass
  one_stretch text w [] first s one is starts ends = absurd (omega (arith, one))
  one_stretch text w (p ∷ []) first s one is starts ends =
      let all : length text - 0 ≡ length text = omega arith in
      ap (λ (q : Piece). pieces_pass inv text w [] (q ∷ [])) is ∙ (λ i. Done w (slice_range text (starts i) (ends i))) ∙ ap (λ n. Done w (take n text)) all
      ∙ ap (Done w) (take-length text)
  one_stretch text w (p ∷ q ∷ ps) first s one is starts ends = absurd (omega (arith, one))

  -- pieces of a text
  pub piece_plain : (text : Text) (w : World) (s : Span) → piece_pass inv text w (Plain s) ≡ Done w (text_at text s)
  unfolding piece_pass
  piece_plain text w s = refl

  pub piece_escaped : (text : Text) (w : World) (whole name atts content : Span) (opening closing : Bool) → (opening && closing) ≡ true
      → piece_pass inv text w (Match whole name atts content opening closing) ≡ Done w (text_at text (inner_span whole))
  unfolding piece_pass
  piece_escaped text w whole name atts content opening closing o = rw o refl

  pub piece_handled : (text : Text) (w : World) (whole name atts content : Span) (opening closing : Bool) → (opening && closing) ≡ false
      → piece_pass inv text w (Match whole name atts content opening closing)
      ≡ handled inv w (value_of w.tags (text_at text name)) (handler_call text name atts content) (text_at text whole) (bracket opening 91) (bracket closing 93)
  unfolding piece_pass
  piece_handled text w whole name atts content opening closing o = rw o refl

  handled_none : (w : World) (call : Call) (whole before following : Text) → handled inv w None call whole before following ≡ Done w whole
  unfolding handled
  handled_none w call whole before following = refl

  pub handled_some : (w : World) (handler : ℕ) (call : Call) (whole before following : Text)
      → handled inv w (Some handler) call whole before following
      ≡ and_then (inv w handler call) (λ later result. filter_pass inv later shortcode_filter (before ++ result ++ following) (call.tag ∷ []))
  unfolding handled
  handled_some w handler call whole before following = refl

  pub piece_unhandled : (text : Text) (w : World) (whole name atts content : Span) (opening closing : Bool) → (opening && closing) ≡ false
      → None ≡ value_of w.tags (text_at text name)
      → piece_pass inv text w (Match whole name atts content opening closing) ≡ Done w (text_at text whole)
  piece_unhandled text w whole name atts content opening closing o n =
      piece_handled text w whole name atts content opening closing o
      ∙ ap (λ (h : Option ℕ). handled inv w h (handler_call text name atts content) (text_at text whole) (bracket opening 91) (bracket closing 93)) (sym n)
      ∙ handled_none w (handler_call text name atts content) (text_at text whole) (bracket opening 91) (bracket closing 93)
