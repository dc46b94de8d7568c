-- How a stopped run moves along what is left of it: each law is one step of the frames.
use Rattle.std.proofs.Common.{◌≡◌, ℕ, ◌+◌, ◌-◌, ◌≤◌, ◌<◌, ℤ, Bool, true, false, cond, ◌==◌, List, [], ◌∷◌, ◌++◌, take, Option, None, Some}
use Rattle.std.proofs.Common.{refl, sym, ap, ◌∙◌}
use Rattle.std.specs.Prelude.{map}
use Rattle.hook_changes.specs.declared.reply.Call.{Call}
use Rattle.hook_changes.specs.declared.reply.Answer.{Answer}
use Rattle.hook_changes.specs.declared.reply.Answer.TheVariants as answer
use Rattle.hook_changes.specs.declared.reply.Ask.{Ask}
use Rattle.hook_changes.specs.declared.reply.Ask.TheVariants.{Apply, Act, Shortcodes}
use Rattle.hook_changes.specs.declared.reply.Then.TheVariants as next
use Rattle.hook_registry.specs.declared.registration.Entry.{Entry}
use Rattle.hook_registry.specs.Table.{group, next_priority}
use Rattle.shortcode_scan.specs.declared.Piece.{Piece}
use Rattle.shortcode_scan.specs.declared.Span.{Span}
use Rattle.shortcode_scan.specs.Pieces.{pieces_of}
use Rattle.shortcode_scan.specs.Live.{live}
use Rattle.hook_meaning.specs.declared.fault.RunFault.{RunFault}
use Rattle.hook_meaning.specs.declared.fault.RunFault.TheVariants.{TooManyCalls, TooDeep}
use Rattle.hook_meaning.specs.declared.pass_kind.PassKind.{PassKind}
use Rattle.call_plans.specs.declared.position.Position.{Position}
use Rattle.hook_machine.specs.declared.run.pieces.Matched.{Matched}
use Rattle.hook_machine.specs.declared.run.frames.HookPass.{HookPass}
use Rattle.hook_machine.specs.declared.run.frames.Invoked.{Invoked}
use Rattle.hook_machine.specs.declared.run.frames.Pending.{Pending}
use Rattle.hook_machine.specs.declared.run.frames.Pending.TheVariants.{Next, Core, ForText, ForNothing, ForCore}
use Rattle.hook_machine.specs.declared.run.frames.Frame.{Frame}
use Rattle.hook_machine.specs.declared.run.frames.Frame.TheVariants as frame
use Rattle.hook_machine.specs.declared.run.pieces.Work.{Work}
use Rattle.hook_machine.specs.declared.run.pieces.Work.TheVariants as work
use Rattle.plain_data.specs.Texts.{Text}
use Rattle.hook_meaning.specs.World.{World}
use Rattle.hook_meaning.specs.Trace.{Event, Trace, Done, Refused, Turn, and_then}
use Rattle.hook_meaning.specs.Meaning.{Engine, Invocation, hook_call, arguments, value_after, group_pass, priorities_pass, pass, filter_pass, action_pass}
use Rattle.hook_meaning.specs.Meaning.{piece_pass, pieces_pass, shortcodes_pass, answered, deeper, follow, reply_to_call, invoked, invoked_with, invoke}
use Rattle.hook_meaning.specs.Meaning.{world_after_reply}
use Rattle.hook_meaning.specs.Meaning.{first_or_empty, text_at}
use Rattle.hook_machine.specs.Works.{work_pass, answer_shown}
use Rattle.call_plans.specs.Position.{first_of, reach, next_entry}
use Rattle.hook_machine.specs.Rest.{after_call, left_hook, one_level_up, with_answer, above_left, pass_from, pass_left, pending_left, pending_handed, handed}
use Rattle.hook_machine.specs.Rest.{rest_with, then_rest}
use Rattle.hook_meaning.proofs.Agree.{invoke-step}
use Rattle.hook_meaning.proofs.Ending.{invoke_some, deeper_within, deeper_beyond}
use Rattle.hook_meaning.proofs.Walk.{then_then, walk, walk-some, reached}

some_is : {X : Type 0} (a b : X) → Some a ≡ Some b → a ≡ b
some_is a b e = cc

-- ---- the pieces of a text

module _ (inv : Invocation) where
  piece_first : (w : World) (text so_far : Text) (p : Piece) (ps : List Piece)
      → pieces_pass inv text w so_far (p ∷ ps) ≡ and_then (piece_pass inv text w p) (λ later result. pieces_pass inv text later (so_far ++ result) ps)
  unfolding pieces_pass
  piece_first w text so_far p ps = refl

  -- a piece by its work
  piece_by : (w : World) (text so_far : Text) (p : Piece) (ps : List Piece) (t : Trace Text) → piece_pass inv text w p ≡ t
      → pieces_pass inv text w so_far (p ∷ ps) ≡ and_then t (λ later result. pieces_pass inv text later (so_far ++ result) ps)
  piece_by w text so_far p ps t h = piece_first w text so_far p ps
      ∙ ap (λ (t : Trace Text). and_then t (λ later result. pieces_pass inv text later (so_far ++ result) ps)) h

  -- a piece that stays as it is
  pub piece_shown : (w : World) (text cut so_far : Text) (all ps : List Piece) (p : Piece) (todo : Work) (span : Span) (more : Text) → cut ≡ text
      → all ≡ p ∷ ps → piece_pass inv cut w p ≡ work_pass inv cut w todo → todo ≡ work.Shown span → more ≡ so_far ++ text_at cut span
      → pieces_pass inv text w so_far all ≡ pieces_pass inv text w more ps
  piece_shown w text cut so_far all ps p todo span more c a h k m =
      ap (λ (l : List Piece). pieces_pass inv text w so_far l) a
      ∙ piece_by w text so_far p ps (Done w (text_at cut span)) (ap (λ (t : Text). piece_pass inv t w p) (sym c) ∙ h
      ∙ ap (λ (x : Work). work_pass inv cut w x) k)
      ∙ ap (λ (t : Text). pieces_pass inv text w t ps) (sym m)

  -- a piece whose handler is invoked
  pub piece_handled : (w : World) (text cut so_far : Text) (all ps : List Piece) (p : Piece) (todo : Work) (i : Invoked) (matched : Matched)
      → cut ≡ text → all ≡ p ∷ ps → piece_pass inv cut w p ≡ work_pass inv cut w todo → todo ≡ work.Handled i matched
      → pieces_pass inv text w so_far all ≡ and_then (inv w i.callback i.call)
      (λ later result. and_then (answer_shown inv text later matched result) (λ last shown. pieces_pass inv text last (so_far ++ shown) ps))
  piece_handled w text cut so_far all ps p todo i matched c a h k =
      ap (λ (l : List Piece). pieces_pass inv text w so_far l) a
      ∙ piece_by w text so_far p ps (work_pass inv text w (work.Handled i matched))
      (ap (λ (t : Text). piece_pass inv t w p) (sym c) ∙ h ∙ ap (λ (x : Work). work_pass inv cut w x) k
      ∙ ap (λ (t : Text). work_pass inv t w (work.Handled i matched)) c)
      ∙ then_then (inv w i.callback i.call) (λ later result. answer_shown inv text later matched result)
      (λ later result. pieces_pass inv text later (so_far ++ result) ps)

  -- no piece is left
  pub pieces_end : (w : World) (text so_far : Text) (all : List Piece) → all ≡ [] → pieces_pass inv text w so_far all ≡ Done w so_far
  unfolding pieces_pass
  pieces_end w text so_far all e = rw e refl

module _ (engine : Engine) where
  -- work whose result is handed to a frame, and then to the others
  pub onto_frame : (t : Trace Text) (f : Frame) (fs : List Frame)
      → then_rest engine (and_then t (λ later x. handed engine later f x)) fs ≡ then_rest engine t (f ∷ fs)
  unfolding rest_with
  onto_frame t f fs = then_then t (λ later x. handed engine later f x) (λ later x. rest_with engine later fs x)

  -- ---- passes

  pub pass_cons : (w : World) (kind : PassKind) (hook : Text) (args : List Text) (v : Text) (at : Option ℤ) (e : Entry) (es : List Entry)
      → pass_from engine w kind hook args v at (e ∷ es)
      ≡ and_then (invoke engine w e.callback (hook_call hook (take e.accepted (arguments kind v args))))
      (λ later r. pass_from engine later kind hook args (value_after kind v r) at es)
  unfolding pass_from group_pass
  pass_cons w kind hook args v at e es =
      then_then (invoke engine w e.callback (hook_call hook (take e.accepted (arguments kind v args))))
      (λ later r. group_pass (invoke engine) kind hook args later (value_after kind v r) es) (λ later kept. above_left engine later kind hook args kept at)

  pub pass_above : (w : World) (kind : PassKind) (hook : Text) (args : List Text) (v : Text) (at : Option ℤ) (p : ℤ) → next_priority w.table hook at ≡ Some p
      → pass_from engine w kind hook args v at [] ≡ pass_from engine w kind hook args v (Some p) (group w.table hook p)
  unfolding pass_from group_pass above_left walk
  pass_above w kind hook args v at p h =
      ap (λ (o : Option ℤ). and_then (priorities_pass (invoke engine) kind hook args w.calls w v o) (λ last x. Done (left_hook last) x)) h
      ∙ ap (λ (t : Trace Text). and_then t (λ last x. Done (left_hook last) x)) (walk-some engine kind hook args w v p at h)
      ∙ then_then (group_pass (invoke engine) kind hook args w v (group w.table hook p))
      (λ later kept. priorities_pass (invoke engine) kind hook args later.calls later kept (next_priority later.table hook (Some p)))
      (λ last x. Done (left_hook last) x)

  pub pass_none : (w : World) (kind : PassKind) (hook : Text) (args : List Text) (v : Text) (at : Option ℤ) → next_priority w.table hook at ≡ None
      → pass_from engine w kind hook args v at [] ≡ Done (left_hook w) v
  unfolding pass_from group_pass above_left priorities_pass
  pass_none w kind hook args v at h = rw h refl

  -- the pass goes on with an entry, if it has one
  abbrev GoesTo : World → PassKind → Text → List Text → Text → Option ℤ → List Entry → Option Entry × Position → Type 0
  GoesTo w kind hook args v at es found =
      (e : Entry) → Some e ≡ found.0
      → pass_from engine w kind hook args v at es
      ≡ and_then (invoke engine w e.callback (hook_call hook (take e.accepted (arguments kind v args))))
      (λ later r. pass_from engine later kind found.1.hook args (value_after kind v r) found.1.reached found.1.entries)

  goes_cons : (w : World) (kind : PassKind) (hook : Text) (args : List Text) (v : Text) (at : Option ℤ) (x : Entry) (es : List Entry)
      → GoesTo w kind hook args v at (x ∷ es) (Some x, record { hook = hook; reached = at; entries = es })
  goes_cons w kind hook args v at x es e h = rw (some_is e x h) (pass_cons w kind hook args v at x es)

  goes_group : (w : World) (kind : PassKind) (hook : Text) (args : List Text) (v : Text) (at : Option ℤ) (p : ℤ) (es : List Entry)
      → GoesTo w kind hook args v (Some p) es (first_of (record { hook = hook; reached = Some p; entries = [] }) es)
  goes_group w kind hook args v at p [] e h = absurd (cc)
  goes_group w kind hook args v at p (x ∷ es) e h = goes_cons w kind hook args v (Some p) x es e h

  goes_reach : (w : World) (kind : PassKind) (hook : Text) (args : List Text) (v : Text) (at : Option ℤ) (o : Option ℤ) → next_priority w.table hook at ≡ o
      → GoesTo w kind hook args v at [] (reach w.table (record { hook = hook; reached = at; entries = [] }) o)
  goes_reach w kind hook args v at None h e k = absurd (cc)
  goes_reach w kind hook args v at (Some p) h e k = pass_above w kind hook args v at p h ∙ goes_group w kind hook args v at p (group w.table hook p) e k

  goes_from : (w : World) (kind : PassKind) (hook : Text) (args : List Text) (v : Text) (at : Option ℤ) (es : List Entry)
      → GoesTo w kind hook args v at es (next_entry w.table (record { hook = hook; reached = at; entries = es }))
  goes_from w kind hook args v at [] e h = goes_reach w kind hook args v at (next_priority w.table hook at) refl e h
  goes_from w kind hook args v at (x ∷ es) e h = goes_cons w kind hook args v at x es e h

  -- a pass invokes its next entry, and waits for the result
  pub pass_goes : (w : World) (p : HookPass) (e : Entry) → Some e ≡ (next_entry w.table p.position).0
      → pass_left engine w p ≡ and_then (invoke engine w e.callback (hook_call p.position.hook (take e.accepted (arguments p.kind p.value p.args))))
      (λ later r. handed engine later (frame.Pass (record p { position = (next_entry w.table p.position).1 })) r)
  unfolding handed
  pass_goes w p e h = goes_from w p.kind p.position.hook p.args p.value p.position.reached p.position.entries e h

  -- and leaves its hook if it has none
  abbrev EndsAt : World → PassKind → Text → List Text → Text → Option ℤ → List Entry → Option Entry × Position → Type 0
  EndsAt w kind hook args v at es found = None ≡ found.0 → pass_from engine w kind hook args v at es ≡ Done (left_hook w) v

  ends_reach : (w : World) (kind : PassKind) (hook : Text) (args : List Text) (v : Text) (at : Option ℤ) (o : Option ℤ) → next_priority w.table hook at ≡ o
      → EndsAt w kind hook args v at [] (reach w.table (record { hook = hook; reached = at; entries = [] }) o)
  ends_reach w kind hook args v at None h k = pass_none w kind hook args v at h
  ends_reach w kind hook args v at (Some p) h k = absurd (ends_group (group w.table hook p) (reached w.table hook at p h) k)
    where
      ends_group : (es : List Entry) → (es ≡ [] → ⊥) → None ≡ (first_of (record { hook = hook; reached = Some p; entries = [] }) es).0 → ⊥
      ends_group [] n k = n refl
      ends_group (x ∷ es) n k = cc

  ends_from : (w : World) (kind : PassKind) (hook : Text) (args : List Text) (v : Text) (at : Option ℤ) (es : List Entry)
      → EndsAt w kind hook args v at es (next_entry w.table (record { hook = hook; reached = at; entries = es }))
  ends_from w kind hook args v at [] k = ends_reach w kind hook args v at (next_priority w.table hook at) refl k
  ends_from w kind hook args v at (x ∷ es) k = absurd (cc)

  pub pass_ends : (w : World) (p : HookPass) → None ≡ (next_entry w.table p.position).0 → pass_left engine w p ≡ Done (left_hook w) p.value
  pass_ends w p h = ends_from w p.kind p.position.hook p.args p.value p.position.reached p.position.entries h

  -- a pass begins before its first priority
  pub pass_begins : (w : World) (kind : PassKind) (hook : Text) (v : Text) (args : List Text)
      → pass (invoke engine) kind w hook v args ≡ pass_from engine (record w { running = w.running ++ hook ∷ [] }) kind hook args v None []
  unfolding pass pass_from group_pass above_left
  pass_begins w kind hook v args = refl

  -- ---- invocations

  abbrev made : ℕ → Call → World → Event
  made k call w = record { callback = k; call = call; world = w }

  pub invoke_none : (w : World) (k : ℕ) (call : Call) → w.calls ≡ 0 → invoke engine w k call ≡ Refused TooManyCalls
  unfolding invoked_with
  invoke_none w k call h = invoke-step engine w k call ∙ ap (λ n. invoked_with engine (invoke engine) n w k call) h

  invoked_core : (w : World) (k : ℕ) (call : Call) → (k == 0) ≡ true
      → invoked engine (invoke engine) w k call ≡ Turn (made k call w) (deeper w (λ inside. shortcodes_pass (invoke engine) inside (first_or_empty call.args)))
  unfolding invoked
  invoked_core w k call h = rw h refl

  -- core's callback takes a turn, and its shortcode pass is left
  pub turn_core : (w taken : World) (k : ℕ) (call : Call) → 0 < w.calls → (k == 0) ≡ true → taken ≡ record w { calls = w.calls - 1 }
      → invoke engine w k call ≡ Turn (made k call taken) (pending_left engine taken k call Core)
  unfolding pending_left
  turn_core w taken k call h n t = rw t (invoke_some engine w k call h ∙ invoked_core (record w { calls = w.calls - 1 }) k call n)

  invoked_other : (w : World) (k : ℕ) (call : Call) → (k == 0) ≡ false → invoked engine (invoke engine) w k call
      ≡ Turn (made k call (world_after_reply engine w (reply_to_call engine k call)))
      (follow (invoke engine) (world_after_reply engine w (reply_to_call engine k call)) k call (reply_to_call engine k call).next)
  unfolding invoked
  invoked_other w k call h = rw h refl

  -- a plugin's callback takes a turn: its echo and its changes are carried out, and how it goes on is left
  turn_other : (w taken : World) (k : ℕ) (call : Call) → 0 < w.calls → (k == 0) ≡ false → taken ≡ record w { calls = w.calls - 1 }
      → invoke engine w k call
      ≡ Turn (made k call (world_after_reply engine taken (reply_to_call engine k call)))
      (pending_left engine (world_after_reply engine taken (reply_to_call engine k call)) k call (Next (reply_to_call engine k call).next))
  unfolding pending_left
  turn_other w taken k call h n t = rw t (invoke_some engine w k call h ∙ invoked_other (record w { calls = w.calls - 1 }) k call n)

  -- a callback takes a turn, whichever it is, and what its invocation is to do next is left
  turn_by : (b : Bool) (w taken : World) (k : ℕ) (call : Call) (found : World × Pending) → (k == 0) ≡ b → 0 < w.calls
      → taken ≡ record w { calls = w.calls - 1 }
      → found ≡ cond b (taken, Core) (world_after_reply engine taken (reply_to_call engine k call), Next (reply_to_call engine k call).next)
      → invoke engine w k call ≡ Turn (made k call found.0) (pending_left engine found.0 k call found.1)
  turn_by true w taken k call found n h t e = rw e (turn_core w taken k call h n t)
  turn_by false w taken k call found n h t e = rw e (turn_other w taken k call h n t)

  pub turn_begun : (w taken : World) (k : ℕ) (call : Call) (found : World × Pending) → 0 < w.calls → taken ≡ record w { calls = w.calls - 1 }
      → found ≡ after_call engine taken k call → invoke engine w k call ≡ Turn (made k call found.0) (pending_left engine found.0 k call found.1)
  turn_begun w taken k call found h t e = turn_by (k == 0) w taken k call found refl h t e

  -- a callback's answer is handed on
  pub answer_goes : (w : World) (k : ℕ) (call : Call) (text : Text) → pending_left engine w k call (Next (next.Answer text)) ≡ Done w text
  unfolding pending_left follow
  answer_goes w k call text = refl

  -- ---- asks

  -- what a callback asked, and then the callback again
  again : World → ℕ → Call → Answer → Trace Text
  again later k call reply = invoke engine later k (with_answer call reply)

  ask_is : (w : World) (k : ℕ) (call : Call) (ask : Ask) → pending_left engine w k call (Next (next.Ask ask))
      ≡ and_then (answered (invoke engine) w ask) (λ later reply. invoke engine later k (with_answer call reply))
  unfolding pending_left follow
  ask_is w k call ask = refl

  -- an ask that takes no call
  pub ask_plain : (w : World) (k : ℕ) (call : Call) (ask : Ask) (reply : Answer) → answered (invoke engine) w ask ≡ Done w reply
      → pending_left engine w k call (Next (next.Ask ask)) ≡ invoke engine w k (with_answer call reply)
  ask_plain w k call ask reply h = ask_is w k call ask ∙ ap (λ (t : Trace Answer). and_then t (λ later r. invoke engine later k (with_answer call r))) h

  -- an ask that is refused
  ask_refused : (w : World) (k : ℕ) (call : Call) (ask : Ask) (f : RunFault) → answered (invoke engine) w ask ≡ Refused f
      → pending_left engine w k call (Next (next.Ask ask)) ≡ Refused f
  ask_refused w k call ask f h = ask_is w k call ask ∙ ap (λ (t : Trace Answer). and_then t (λ later r. invoke engine later k (with_answer call r))) h

  -- work that is done one level deeper, its result made an answer, and then the callback again
  deep_ask : (w : World) (k : ℕ) (call : Call) (made : World → Trace Text) (to : Text → Answer) → w.depth < 32
      → and_then (deeper w (λ inside. and_then (made inside) (λ later x. Done later (to x)))) (λ later reply. invoke engine later k (with_answer call reply))
      ≡ and_then (made (record w { depth = w.depth + 1 })) (λ later x. invoke engine (one_level_up later) k (with_answer call (to x)))
  deep_ask w k call made to h =
      ap (λ (t : Trace Answer). and_then t (λ later reply. invoke engine later k (with_answer call reply)))
      (deeper_within w (λ inside. and_then (made inside) (λ later x. Done later (to x))) h
      ∙ then_then (made (record w { depth = w.depth + 1 })) (λ later x. Done later (to x)) (λ later x. Done (one_level_up later) x))
      ∙ then_then (made (record w { depth = w.depth + 1 })) (λ later x. Done (one_level_up later) (to x))
      (λ later reply. invoke engine later k (with_answer call reply))

  pub ask_apply : (w : World) (k : ℕ) (call : Call) (hook v : Text) (args : List Text) → w.depth < 32
      → pending_left engine w k call (Next (next.Ask (Apply hook v args)))
      ≡ and_then (filter_pass (invoke engine) (record w { depth = w.depth + 1 }) hook v args)
      (λ later x. handed engine later (frame.Invocation (record { callback = k; call = call; pending = ForText })) x)
  unfolding answered handed pending_handed
  ask_apply w k call hook v args h = ask_is w k call (Apply hook v args)
      ∙ deep_ask w k call (λ inside. filter_pass (invoke engine) inside hook v args) answer.Text h

  pub ask_act : (w : World) (k : ℕ) (call : Call) (hook : Text) (args : List Text) → w.depth < 32
      → pending_left engine w k call (Next (next.Ask (Act hook args)))
      ≡ and_then (action_pass (invoke engine) (record w { depth = w.depth + 1 }) hook args)
      (λ later x. handed engine later (frame.Invocation (record { callback = k; call = call; pending = ForNothing })) x)
  unfolding answered handed pending_handed
  ask_act w k call hook args h = ask_is w k call (Act hook args)
      ∙ deep_ask w k call (λ inside. action_pass (invoke engine) inside hook args) (λ text. answer.Nothing) h

  pub ask_shortcodes : (w : World) (k : ℕ) (call : Call) (text : Text) → w.depth < 32
      → pending_left engine w k call (Next (next.Ask (Shortcodes text)))
      ≡ and_then (shortcodes_pass (invoke engine) (record w { depth = w.depth + 1 }) text)
      (λ later x. handed engine later (frame.Invocation (record { callback = k; call = call; pending = ForText })) x)
  unfolding answered handed pending_handed
  ask_shortcodes w k call text h = ask_is w k call (Shortcodes text) ∙ deep_ask w k call (λ inside. shortcodes_pass (invoke engine) inside text) answer.Text h

  pub apply_deep : (w : World) (k : ℕ) (call : Call) (hook v : Text) (args : List Text) → 32 ≤ w.depth
      → pending_left engine w k call (Next (next.Ask (Apply hook v args))) ≡ Refused TooDeep
  unfolding answered
  apply_deep w k call hook v args h = ask_refused w k call (Apply hook v args) TooDeep (deeper_beyond w _ h)

  pub act_deep : (w : World) (k : ℕ) (call : Call) (hook : Text) (args : List Text) → 32 ≤ w.depth
      → pending_left engine w k call (Next (next.Ask (Act hook args))) ≡ Refused TooDeep
  unfolding answered
  act_deep w k call hook args h = ask_refused w k call (Act hook args) TooDeep (deeper_beyond w _ h)

  pub shortcodes_deep : (w : World) (k : ℕ) (call : Call) (text : Text) → 32 ≤ w.depth
      → pending_left engine w k call (Next (next.Ask (Shortcodes text))) ≡ Refused TooDeep
  unfolding answered
  shortcodes_deep w k call text h = ask_refused w k call (Shortcodes text) TooDeep (deeper_beyond w _ h)

  -- core's callback: what its call keeps is not read
  pub core_goes : (w : World) (k : ℕ) (call kept : Call) → w.depth < 32
      → pending_left engine w k call Core
      ≡ and_then (shortcodes_pass (invoke engine) (record w { depth = w.depth + 1 }) (first_or_empty call.args))
      (λ later x. handed engine later (frame.Invocation (record { callback = k; call = kept; pending = ForCore })) x)
  unfolding pending_left handed pending_handed
  core_goes w k call kept h = deeper_within w (λ inside. shortcodes_pass (invoke engine) inside (first_or_empty call.args)) h

  pub core_deep : (w : World) (k : ℕ) (call : Call) → 32 ≤ w.depth → pending_left engine w k call Core ≡ Refused TooDeep
  unfolding pending_left
  core_deep w k call h = deeper_beyond w (λ inside. shortcodes_pass (invoke engine) inside (first_or_empty call.args)) h

  -- ---- shortcodes

  pub text_begins : (w : World) (text : Text) → shortcodes_pass (invoke engine) w text
      ≡ pieces_pass (invoke engine) text w [] (pieces_of (live (map (λ p. p.0) w.tags) text) text)
  unfolding shortcodes_pass
  text_begins w text = refl

  pub text_ends : (w : World) (text so_far : Text) → pieces_pass (invoke engine) text w so_far [] ≡ Done w so_far
  unfolding pieces_pass
  text_ends w text so_far = refl

  -- ---- from turn to turn

  pub then_done : (t : Trace Text) → then_rest engine t [] ≡ t
  unfolding rest_with
  then_done (Done w x) = refl
  then_done (Refused f) = refl
  then_done (Turn w t) = ap (Turn w) (then_done t)
