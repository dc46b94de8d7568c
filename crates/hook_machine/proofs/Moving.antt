-- How the calls of the stepping machine move along what is left.
use Rattle.std.proofs.Common.{◌≡◌, ◌⊎◌, inl, inr, ℕ, ◌+◌, ◌≤◌, ◌<◌, ℤ, true, false, List, [], ◌∷◌, ◌++◌, ◌-◌, take, Option, None, Some, IsSome, Result, Ok, Err}
use Rattle.std.proofs.Common.{refl, sym, ap, ◌∙◌}
use Rattle.std.specs.Prelude.{map, pos, is_some, bytes_eq}
use Rattle.std.specs.List.{list_any}
use Rattle.plain_data.specs.Names.{is_hook_name}
use Rattle.hook_changes.specs.declared.reply.Call.{Call}
use Rattle.hook_changes.specs.declared.reply.Answer.{Answer}
use Rattle.hook_changes.specs.declared.reply.Answer.TheVariants as answer
use Rattle.hook_changes.specs.declared.reply.Ask.{Ask}
use Rattle.hook_changes.specs.declared.reply.Ask.TheVariants.{Apply, Act, Shortcodes, Did, Current, Doing, Has, TagExists, GetOption}
use Rattle.hook_changes.specs.declared.reply.Then.{Then}
use Rattle.hook_changes.specs.declared.reply.Then.TheVariants as next
use Rattle.hook_registry.specs.declared.registration.Entry.{Entry}
use Rattle.hook_registry.specs.Table.{Table, group, next_priority, has, times_fired}
use Rattle.hook_registry.specs.Named.{value_of}
use Rattle.shortcode_scan.specs.declared.Piece.{Piece}
use Rattle.shortcode_scan.specs.Pieces.{pieces_of}
use Rattle.shortcode_scan.specs.Live.{live}
use Rattle.hook_meaning.specs.declared.fault.RunFault.{RunFault}
use Rattle.hook_meaning.specs.declared.fault.RunFault.TheVariants.{TooDeep, OutOfMemory}
use Rattle.hook_meaning.specs.declared.pass_kind.PassKind.{PassKind}
use Rattle.hook_meaning.specs.declared.pass_kind.PassKind.TheVariants.{Filter, Action}
use Rattle.call_plans.specs.declared.position.Position.{Position}
use Rattle.hook_machine.specs.declared.run.pieces.Matched.{Matched}
use Rattle.hook_machine.specs.declared.run.frames.HookPass.{HookPass}
use Rattle.hook_machine.specs.declared.run.frames.Invoked.{Invoked}
use Rattle.hook_machine.specs.declared.run.frames.Pending.{Pending}
use Rattle.hook_machine.specs.declared.run.frames.Pending.TheVariants.{Next, Core, ForText, ForNothing, ForCore}
use Rattle.hook_machine.specs.declared.run.frames.Frame.{Frame}
use Rattle.hook_machine.specs.declared.run.frames.Frame.TheVariants as frame
use Rattle.hook_machine.specs.declared.run.frames.Move.{Move}
use Rattle.hook_machine.specs.declared.run.frames.Move.TheVariants.{Handed}
use Rattle.hook_machine.specs.declared.run.texts.Handling.{Handling}
use Rattle.hook_machine.specs.Cuts.{CutText, PassOverText}
use Rattle.hook_machine.specs.Handling.{handling_pass}
use Rattle.plain_data.specs.Texts.{Text}
use Rattle.hook_meaning.specs.World.{World}
use Rattle.hook_meaning.specs.Trace.{Trace, Done, Refused, and_then}
use Rattle.hook_meaning.specs.Meaning.{Engine, Invocation, hook_call, arguments, value_after, pass, filter_pass, action_pass, filtered, acted, with_firing, text_at}
use Rattle.hook_meaning.specs.Meaning.{shortcode_filter, pieces_pass, shortcodes_pass, answered, invoke, first_or_empty, last_or_empty, has_answer}
use Rattle.hook_meaning.specs.Meaning.{text_or_false}
use Rattle.call_plans.specs.Position.{first_of, reach, next_entry}
use Rattle.hook_machine.specs.Works.{between_brackets, answer_shown}
use Rattle.hook_machine.specs.Rest.{in_place, left_hook, one_level_up, with_answer, pass_left, text_left, text_handed, pending_left, pending_handed, goes_on}
use Rattle.hook_machine.specs.Rest.{handed, rest_with, then_rest, rest}
use Rattle.hook_machine.specs.declared.run.jobs.Job.{Job}
use Rattle.hook_machine.specs.Jobs.{job_left, left_from}
use Rattle.hook_machine.specs.declared.run.frames.Pace.{Pace}
use Rattle.hook_machine.specs.declared.run.frames.Pace.TheVariants.{Through}
use Rattle.hook_machine.specs.Moves.{Moves, Leads}
use Rattle.hook_machine.specs.PassedOver.{left_by_core}
use Rattle.hook_machine.proofs.Going.{leads_here, leads_over, moves_onto, moves_same}
use Rattle.hook_meaning.proofs.Walk.{then_under}
use Rattle.hook_meaning.proofs.Ending.{filter_named, filter_unnamed, filter_unhooked, unhooked, action_named, action_unnamed}
use Rattle.hook_machine.proofs.Steps.{pass_goes, pass_ends, pass_begins, ask_plain, ask_apply, ask_act, ask_shortcodes, core_goes}
use Rattle.hook_machine.proofs.Steps.{text_begins, then_done}

-- the position stays in its hook
next_hook : (table : Table) (hook : Text) (at : Option ℤ) (entries : List Entry)
    → (next_entry table (record { hook = hook; reached = at; entries = entries })).1.hook ≡ hook
next_hook table hook at [] = from_next (next_priority table hook at)
  where
    from_group : (p : ℤ) (entries : List Entry) → (first_of (record { hook = hook; reached = Some p; entries = [] }) entries).1.hook ≡ hook
    from_group p [] = refl
    from_group p (x ∷ entries) = refl

    from_next : (o : Option ℤ) → (reach table (record { hook = hook; reached = at; entries = [] }) o).1.hook ≡ hook
    from_next None = refl
    from_next (Some p) = from_group p (group table hook p)
next_hook table hook at (x ∷ entries) = refl

module _ (engine : Engine) where
  -- a frame that ends hands its result on
  pub handed_moves : {pace : Pace} (trace : Trace Text) (world : World) (given : Text) (frames : List Frame) → trace ≡ Done world given
      → Moves pace engine (then_rest engine trace frames)
      (Ok (Handed given)) world frames
  handed_moves trace world given frames is_done = record { leads = leads_here (ap (λ (trace : Trace Text). then_rest engine trace frames) is_done) }

  -- a run that is refused, unless memory ran out
  pub deep_moves : {pace : Pace} (trace : Trace Text) (depth : ℕ) (fault : RunFault) (frames : List Frame) → (32 ≤ depth → trace ≡ Refused TooDeep)
      → (fault ≡ OutOfMemory) ⊎ ((fault ≡ TooDeep) × (32 ≤ depth)) → (world : World) (left : List Frame)
      → Moves pace engine (then_rest engine trace frames) (Err fault) world left
  deep_moves trace depth fault frames too_deep (inl is_fault) world left = rw is_fault (record { leads = tt })
  deep_moves trace depth fault frames too_deep (inr is_fault) world left = rw is_fault.0
      (record { leads = leads_here (ap (λ (trace : Trace Text). then_rest engine trace frames) (too_deep is_fault.1)) })

  -- ---- passes

  kept_alike : (later : World) (hook_pass : HookPass) (moved : Position) (kept given : Text)
      → value_after hook_pass.kind kept given ≡ value_after hook_pass.kind hook_pass.value given
      → handed engine later (frame.Pass (record hook_pass { position = moved })) given
      ≡ handed engine later (frame.Pass (record hook_pass { value = kept; position = moved })) given
  unfolding handed
  kept_alike later hook_pass moved kept given alike = ap (λ (v : Text). pass_left engine later (record hook_pass { value = v; position = moved })) (sym alike)

  pass_by : (world : World) (hook_pass : HookPass) (entry : Entry) (moved : Position) (kept : Text) (call : Call)
      → Some entry ≡ (next_entry world.table hook_pass.position).0
      → moved ≡ (next_entry world.table hook_pass.position).1
      → call ≡ hook_call moved.hook (take entry.accepted (arguments hook_pass.kind hook_pass.value hook_pass.args))
      → ((given : Text) → value_after hook_pass.kind kept given ≡ value_after hook_pass.kind hook_pass.value given)
      → pass_left engine world hook_pass
      ≡ and_then (invoke engine world entry.callback call)
      (λ later given. handed engine later (frame.Pass (record hook_pass { value = kept; position = moved })) given)
  pass_by world hook_pass entry moved kept call is_next is_moved is_call keeps =
      pass_goes engine world hook_pass entry is_next
      ∙ ap (λ (z : Position). and_then (invoke engine world entry.callback
      (hook_call hook_pass.position.hook (take entry.accepted (arguments hook_pass.kind hook_pass.value hook_pass.args))))
      (λ later given. handed engine later (frame.Pass (record hook_pass { position = z })) given)) (sym is_moved)
      ∙ ap (λ (z : Call). and_then (invoke engine world entry.callback z)
      (λ later given. handed engine later (frame.Pass (record hook_pass { position = moved })) given))
      (ap (λ (z : Text). hook_call z (take entry.accepted (arguments hook_pass.kind hook_pass.value hook_pass.args)))
      (sym (ap (λ (z : Position). z.hook) is_moved ∙ next_hook world.table hook_pass.position.hook hook_pass.position.reached hook_pass.position.entries))
      ∙ sym is_call)
      ∙ then_under (invoke engine world entry.callback call) (λ later given. handed engine later (frame.Pass (record hook_pass { position = moved })) given)
      (λ later given. handed engine later (frame.Pass (record hook_pass { value = kept; position = moved })) given)
      (λ later given. kept_alike later hook_pass moved kept given (keeps given))

  -- a pass invokes its next entry, by the pass and the invocation as they are then
  pub pass_invokes : (world : World) (hook_pass moved now : HookPass) (entry : Entry) (invoked : Invoked)
      → Some entry ≡ (next_entry world.table hook_pass.position).0
      → moved ≡ record hook_pass { position = (next_entry world.table hook_pass.position).1 } → invoked.callback ≡ entry.callback
      → invoked.call ≡ hook_call moved.position.hook (take entry.accepted (arguments moved.kind moved.value moved.args))
      → ((given : Text) → value_after moved.kind now.value given ≡ value_after moved.kind moved.value given) → now ≡ record moved { value = now.value }
      → pass_left engine world hook_pass ≡ and_then (invoke engine world invoked.callback invoked.call)
      (λ later given. handed engine later (frame.Pass now) given)
  pass_invokes world hook_pass moved now entry invoked is_next is_moved same_callback is_call keeps now_is =
      pass_by world hook_pass entry (next_entry world.table hook_pass.position).1 now.value invoked.call is_next refl (rw is_moved at is_call)
      (rw is_moved at keeps)
      ∙ ap (λ (z : ℕ). and_then (invoke engine world z invoked.call) (λ later given. handed engine later (frame.Pass (record hook_pass {
        value = now.value;
        position = (next_entry world.table hook_pass.position).1;
      })) given)) (sym same_callback)
      ∙ ap (λ (z : HookPass). and_then (invoke engine world invoked.callback invoked.call) (λ later given. handed engine later (frame.Pass z) given))
      (sym (now_is ∙ ap (λ (z : HookPass). record z { value = now.value }) is_moved))

  -- a pass that is handed an answer
  pub pass_handed : (world : World) (hook_pass after : HookPass) (given : Text)
      → after ≡ record hook_pass { value = value_after hook_pass.kind hook_pass.value given }
      → handed engine world (frame.Pass hook_pass) given ≡ pass_left engine world after
  unfolding handed
  pass_handed world hook_pass after given after_is = ap (λ (z : HookPass). pass_left engine world z) (sym after_is)

  pub leave_moves : {pace : Pace} (world outside : World) (hook_pass : HookPass) (frames : List Frame) → None ≡ (next_entry world.table hook_pass.position).0
      → outside ≡ left_hook world
      → Moves pace engine (then_rest engine (pass_left engine world hook_pass) frames) (Ok (Handed hook_pass.value)) outside frames
  leave_moves world outside hook_pass frames is_last outside_is = handed_moves (pass_left engine world hook_pass) outside hook_pass.value frames
      (pass_ends engine world hook_pass is_last ∙ ap (λ (v : World). Done v hook_pass.value) (sym outside_is))

  pub begin_moves : {pace : Pace} (world entered : World) (kind : PassKind) (hook value : Text) (args : List Text) (at : Position) (frames : List Frame)
      → entered ≡ record world { running = world.running ++ hook ∷ [] } → at ≡ record { hook = hook; reached = None; entries = [] }
      → (result : Result Move RunFault) (end : World) (left : List Frame) → Moves pace engine
      (then_rest engine (pass_left engine entered (record { kind = kind; args = args; value = value; position = at })) frames) result end left
      → Moves pace engine (then_rest engine (pass (invoke engine) kind world hook value args) frames) result end left
  begin_moves world entered kind hook value args at frames entered_is at_is result end left moves =
      moves_same engine (pass (invoke engine) kind world hook value args)
      (pass_left engine entered (record { kind = kind; args = args; value = value; position = at }))
      frames (rw (entered_is, at_is) (pass_begins engine world kind hook value args)) result end left moves

  pub filter_moves : {pace : Pace} (world : World) (hook name value : Text) (args : List Text) (frames : List Frame) → name ≡ hook → is_hook_name hook ≡ true
      → (result : Result Move RunFault) (end : World) (left : List Frame)
      → Moves pace engine (then_rest engine (pass (invoke engine) Filter world name value args) frames) result end left
      → Moves pace engine (then_rest engine (filter_pass (invoke engine) world hook value args) frames) result end left
  filter_moves world hook name value args frames same_name is_hook result end left moves =
      moves_same engine (filter_pass (invoke engine) world hook value args) (pass (invoke engine) Filter world name value args) frames
      (filter_named (invoke engine) world hook value args is_hook
      ∙ ap (λ (n : Text). pass (invoke engine) Filter world n value args) (sym same_name)) result end left moves

  pub filter_back : {pace : Pace} (world : World) (hook value : Text) (args : List Text) (frames : List Frame) → is_hook_name hook ≡ false
      → Moves pace engine (then_rest engine (filter_pass (invoke engine) world hook value args) frames) (Ok (Handed value)) world frames
  filter_back world hook value args frames no_hook = handed_moves (filter_pass (invoke engine) world hook value args) world value frames
      (filter_unnamed (invoke engine) world hook value args no_hook)

  pub action_moves : {pace : Pace} (world counted : World) (hook name nothing : Text) (args : List Text) (frames : List Frame) → name ≡ hook
      → is_hook_name hook ≡ true
      → counted ≡ with_firing world name → nothing ≡ []
      → (result : Result Move RunFault) (end : World) (left : List Frame)
      → Moves pace engine (then_rest engine (pass (invoke engine) Action counted name nothing args) frames)
      result end left → Moves pace engine (then_rest engine (action_pass (invoke engine) world hook args) frames) result end left
  action_moves world counted hook name nothing args frames same_name is_hook counted_is is_empty result end left moves =
      moves_same engine (action_pass (invoke engine) world hook args) (pass (invoke engine) Action counted name nothing args) frames
      (rw (counted_is, is_empty, same_name) (action_named (invoke engine) world hook args is_hook)) result end left moves

  pub action_back : {pace : Pace} (world : World) (hook nothing : Text) (args : List Text) (frames : List Frame) → is_hook_name hook ≡ false → nothing ≡ []
      → Moves pace engine (then_rest engine (action_pass (invoke engine) world hook args) frames) (Ok (Handed nothing)) world frames
  action_back world hook nothing args frames no_hook is_empty = rw is_empty
      (handed_moves (action_pass (invoke engine) world hook args) world [] frames (action_unnamed (invoke engine) world hook args no_hook))

  -- a hook on which nothing is registered

  pub filter_away : {pace : Pace} (world : World) (hook value : Text) (args : List Text) (frames : List Frame) → has world.table hook ≡ false
      → Moves pace engine (then_rest engine (filter_pass (invoke engine) world hook value args) frames) (Ok (Handed value)) world frames
  filter_away world hook value args frames unhooked_is = handed_moves (filter_pass (invoke engine) world hook value args) world value frames
      (filter_unhooked (invoke engine) world hook value args unhooked_is)

  pub action_away : {pace : Pace} (world counted : World) (hook name nothing : Text) (args : List Text) (frames : List Frame) → name ≡ hook
      → is_hook_name hook ≡ true
      → counted ≡ with_firing world name → nothing ≡ [] → has counted.table name ≡ false
      → Moves pace engine (then_rest engine (action_pass (invoke engine) world hook args) frames) (Ok (Handed nothing)) counted frames
  action_away world counted hook name nothing args frames same_name is_hook counted_is is_empty none =
      action_moves world counted hook name nothing args frames same_name is_hook counted_is is_empty _ _ _
      (handed_moves (pass (invoke engine) Action counted name nothing args) counted nothing frames
      (unhooked (invoke engine) Action counted name nothing args none))

  -- what an action does on which nothing is registered
  pub acted_alone : (world counted : World) (hook name : Text) (args : List Text) → name ≡ hook → is_hook_name hook ≡ true
      → counted ≡ with_firing world name → has world.table hook ≡ false → acted engine world hook args ≡ Done counted tt
  unfolding acted
  acted_alone world counted hook name args same_name is_hook counted_is none = rw (counted_is, same_name)
      (ap (λ (t : Trace Text). and_then t (λ later nothing. Done later tt))
      (action_named (invoke engine) world hook args is_hook ∙ unhooked (invoke engine) Action (with_firing world hook) hook [] args none))

  pub acted_unnamed : (world : World) (hook : Text) (args : List Text) → is_hook_name hook ≡ false → acted engine world hook args ≡ Done world tt
  unfolding acted
  acted_unnamed world hook args no_hook =
      ap (λ (t : Trace Text). and_then t (λ later nothing. Done later tt)) (action_unnamed (invoke engine) world hook args no_hook)

  -- core's callback alone, over a text without shortcodes, is passed over
  pub passed_over : {pace : Pace} (world spent : World) (hook value : Text) (args : List Text)
      → (call : Call) × (filter_pass (invoke engine) world hook value args ≡ left_by_core world hook call value)
      → pace ≡ Through → spent ≡ record world { calls = world.calls - 1 } → Leads pace (filtered engine world hook value args) (Done spent value)
  unfolding filtered
  passed_over world spent hook value args is_left through spent_is = rw spent_is (leads_over _ _ is_left.1 through)

  pub core_passed_over : {pace : Pace} (world spent : World) (hook value : Text) (args : List Text) (frames : List Frame)
      → (call : Call) × (filter_pass (invoke engine) world hook value args ≡ left_by_core world hook call value)
      → pace ≡ Through → spent ≡ record world { calls = world.calls - 1 }
      → Moves pace engine (then_rest engine (filter_pass (invoke engine) world hook value args) frames) (Ok (Handed value)) spent frames
  core_passed_over world spent hook value args frames is_left through spent_is =
      rw spent_is (record { leads = leads_over _ _ (ap (λ (t : Trace Text). then_rest engine t frames) is_left.1) through })

  -- ---- asks

  pub apply_moves : {pace : Pace} (world inside : World) (callback_id : ℕ) (call : Call) (hook name value : Text) (args : List Text)
      (frames pushed : List Frame) → world.depth < 32
      → inside ≡ record world { depth = world.depth + 1 } → name ≡ hook
      → pushed ≡ frame.Invocation (record { callback = callback_id; call = call; pending = ForText }) ∷ frames
      → (result : Result Move RunFault) (end : World) (left : List Frame)
      → Moves pace engine (then_rest engine (filter_pass (invoke engine) inside name value args) pushed) result end
      left
      → Moves pace engine (then_rest engine (pending_left engine world callback_id call (Next (next.Ask (Apply hook value args)))) frames) result end left
  apply_moves world inside callback_id call hook name value args frames pushed has_room inside_is same_name pushed_is result end left moves =
      moves_onto engine (pending_left engine world callback_id call (Next (next.Ask (Apply hook value args))))
      (filter_pass (invoke engine) inside name value args)
      (frame.Invocation (record { callback = callback_id; call = call; pending = ForText })) frames pushed
      (rw (inside_is, same_name) (ask_apply engine world callback_id call hook value args has_room)) pushed_is result end left moves

  pub act_moves : {pace : Pace} (world inside : World) (callback_id : ℕ) (call : Call) (hook name : Text) (args : List Text) (frames pushed : List Frame)
      → world.depth < 32
      → inside ≡ record world { depth = world.depth + 1 } → name ≡ hook
      → pushed ≡ frame.Invocation (record { callback = callback_id; call = call; pending = ForNothing }) ∷ frames
      → (result : Result Move RunFault) (end : World) (left : List Frame)
      → Moves pace engine (then_rest engine (action_pass (invoke engine) inside name args) pushed) result end
      left
      → Moves pace engine (then_rest engine (pending_left engine world callback_id call (Next (next.Ask (Act hook args)))) frames) result end left
  act_moves world inside callback_id call hook name args frames pushed has_room inside_is same_name pushed_is result end left moves =
      moves_onto engine (pending_left engine world callback_id call (Next (next.Ask (Act hook args)))) (action_pass (invoke engine) inside name args)
      (frame.Invocation (record { callback = callback_id; call = call; pending = ForNothing })) frames pushed
      (rw (inside_is, same_name) (ask_act engine world callback_id call hook args has_room)) pushed_is result end left moves

  pub shortcodes_moves : {pace : Pace} (world inside : World) (callback_id : ℕ) (call : Call) (text : Text) (frames pushed : List Frame) → world.depth < 32
      → inside ≡ record world { depth = world.depth + 1 }
      → pushed ≡ frame.Invocation (record { callback = callback_id; call = call; pending = ForText }) ∷ frames
      → (result : Result Move RunFault) (end : World) (left : List Frame)
      → Moves pace engine (then_rest engine (shortcodes_pass (invoke engine) inside text) pushed) result end left
      → Moves pace engine (then_rest engine (pending_left engine world callback_id call (Next (next.Ask (Shortcodes text)))) frames) result end left
  shortcodes_moves world inside callback_id call text frames pushed has_room inside_is pushed_is result end left moves =
      moves_onto engine (pending_left engine world callback_id call (Next (next.Ask (Shortcodes text)))) (shortcodes_pass (invoke engine) inside text)
      (frame.Invocation (record { callback = callback_id; call = call; pending = ForText })) frames pushed
      (rw inside_is (ask_shortcodes engine world callback_id call text has_room)) pushed_is result end left moves

  pub core_moves : {pace : Pace} (world inside : World) (callback_id : ℕ) (call kept : Call) (text : Text) (frames pushed : List Frame) → world.depth < 32
      → inside ≡ record world { depth = world.depth + 1 } → text ≡ first_or_empty call.args
      → pushed ≡ frame.Invocation (record { callback = callback_id; call = kept; pending = ForCore }) ∷ frames
      → (result : Result Move RunFault) (end : World) (left : List Frame)
      → Moves pace engine (then_rest engine (shortcodes_pass (invoke engine) inside text) pushed) result end left
      → Moves pace engine (then_rest engine (pending_left engine world callback_id call Core) frames) result end left
  core_moves world inside callback_id call kept text frames pushed has_room inside_is text_is pushed_is result end left moves =
      moves_onto engine (pending_left engine world callback_id call Core) (shortcodes_pass (invoke engine) inside text)
      (frame.Invocation (record { callback = callback_id; call = kept; pending = ForCore })) frames pushed
      (rw (inside_is, text_is) (core_goes engine world callback_id call kept has_room)) pushed_is result end left moves

  pub plain_moves : {pace : Pace} (world : World) (callback_id : ℕ) (call : Call) (ask : Ask) (reply : Answer) (frames : List Frame)
      → answered (invoke engine) world ask
      ≡ Done world reply
      → (result : Result Move RunFault) (end : World) (left : List Frame)
      → Moves pace engine (then_rest engine (invoke engine world callback_id (with_answer call reply)) frames) result end left
      → Moves pace engine (then_rest engine (pending_left engine world callback_id call (Next (next.Ask ask))) frames) result end left
  plain_moves world callback_id call ask reply frames is_reply result end left moves =
      moves_same engine (pending_left engine world callback_id call (Next (next.Ask ask))) (invoke engine world callback_id (with_answer call reply)) frames
      (ask_plain engine world callback_id call ask reply is_reply) result end left moves

  pub did_is : (world : World) (hook : Text) → answered (invoke engine) world (Did hook) ≡ Done world (answer.Number (pos (times_fired world.counts hook)))
  unfolding answered
  did_is world hook = refl

  pub current_is : (world : World) → answered (invoke engine) world Current ≡ Done world (answer.Text (last_or_empty world.running))
  unfolding answered
  current_is world = refl

  pub doing_is : (world : World) (hook : Text) → answered (invoke engine) world (Doing hook) ≡ Done world (answer.Flag (list_any (bytes_eq hook) world.running))
  unfolding answered
  doing_is world hook = refl

  pub has_is : (world : World) (hook : Text) (callback : Option ℕ)
      → answered (invoke engine) world (Has hook callback) ≡ Done world (has_answer world hook callback)
  unfolding answered
  has_is world hook callback = refl

  pub tag_is : (world : World) (tag : Text) → answered (invoke engine) world (TagExists tag) ≡ Done world (answer.Flag (is_some (value_of world.tags tag)))
  unfolding answered
  tag_is world tag = refl

  pub option_is : (world : World) (name : Text) → answered (invoke engine) world (GetOption name) ≡ Done world (text_or_false (value_of world.options name))
  unfolding answered
  option_is world name = refl

  -- ---- the answers that take no call

  pub did_moves : {pace : Pace} (world : World) (callback_id : ℕ) (call : Call) (hook name : Text) (reply : Answer) (frames : List Frame) → name ≡ hook
      → reply ≡ answer.Number (pos (times_fired world.counts name))
      → (result : Result Move RunFault) (end : World) (left : List Frame)
      → Moves pace engine (then_rest engine (invoke engine world callback_id (with_answer call reply)) frames) result end left
      → Moves pace engine (then_rest engine (pending_left engine world callback_id call (Next (next.Ask (Did hook)))) frames) result end left
  did_moves world callback_id call hook name reply frames same_name is_reply result end left moves = plain_moves world callback_id call
      (Did hook) reply frames (rw (is_reply, same_name) (did_is world hook)) result end left moves

  pub doing_moves : {pace : Pace} (world : World) (callback_id : ℕ) (call : Call) (hook name : Text) (reply : Answer) (frames : List Frame) → name ≡ hook
      → reply ≡ answer.Flag (list_any (bytes_eq name) world.running)
      → (result : Result Move RunFault) (end : World) (left : List Frame)
      → Moves pace engine (then_rest engine (invoke engine world callback_id (with_answer call reply)) frames) result end left
      → Moves pace engine (then_rest engine (pending_left engine world callback_id call (Next (next.Ask (Doing hook)))) frames) result end left
  doing_moves world callback_id call hook name reply frames same_name is_reply result end left moves = plain_moves world callback_id call
      (Doing hook) reply frames (rw (is_reply, same_name) (doing_is world hook)) result end left moves

  pub tag_moves : {pace : Pace} (world : World) (callback_id : ℕ) (call : Call) (hook name : Text) (reply : Answer) (frames : List Frame) → name ≡ hook
      → reply ≡ answer.Flag (is_some (value_of world.tags name))
      → (result : Result Move RunFault) (end : World) (left : List Frame)
      → Moves pace engine (then_rest engine (invoke engine world callback_id (with_answer call reply)) frames) result end left
      → Moves pace engine (then_rest engine (pending_left engine world callback_id call (Next (next.Ask (TagExists hook)))) frames) result end left
  tag_moves world callback_id call hook name reply frames same_name is_reply result end left moves = plain_moves world callback_id call
      (TagExists hook) reply frames (rw (is_reply, same_name) (tag_is world hook)) result end left moves

  pub option_moves : {pace : Pace} (world : World) (callback_id : ℕ) (call : Call) (hook name : Text) (reply : Answer) (frames : List Frame) → name ≡ hook
      → reply ≡ text_or_false (value_of world.options name)
      → (result : Result Move RunFault) (end : World) (left : List Frame)
      → Moves pace engine (then_rest engine (invoke engine world callback_id (with_answer call reply)) frames) result end left
      → Moves pace engine (then_rest engine (pending_left engine world callback_id call (Next (next.Ask (GetOption hook)))) frames) result end left
  option_moves world callback_id call hook name reply frames same_name is_reply result end left moves = plain_moves world callback_id call
      (GetOption hook) reply frames (rw (is_reply, same_name) (option_is world hook)) result end left moves

  pub has_moves : {pace : Pace} (world : World) (callback_id : ℕ) (call : Call) (hook name : Text) (other : Option ℕ) (reply : Answer) (frames : List Frame)
      → name ≡ hook
      → reply ≡ has_answer world name other
      → (result : Result Move RunFault) (end : World) (left : List Frame)
      → Moves pace engine (then_rest engine (invoke engine world callback_id (with_answer call reply)) frames) result end left
      → Moves pace engine (then_rest engine (pending_left engine world callback_id call (Next (next.Ask (Has hook other)))) frames) result end left
  has_moves world callback_id call hook name other reply frames same_name is_reply result end left moves = plain_moves world callback_id call
      (Has hook other) reply frames (rw (is_reply, same_name) (has_is world hook other)) result end left moves

  pub current_moves : {pace : Pace} (world : World) (callback_id : ℕ) (call : Call) (reply : Answer) (frames : List Frame)
      → reply ≡ answer.Text (last_or_empty world.running)
      → (result : Result Move RunFault) (end : World) (left : List Frame)
      → Moves pace engine (then_rest engine (invoke engine world callback_id (with_answer call reply)) frames) result end left
      → Moves pace engine (then_rest engine (pending_left engine world callback_id call (Next (next.Ask Current))) frames) result end left
  current_moves world callback_id call reply frames is_reply result end left moves = plain_moves world callback_id call Current reply frames
      (rw is_reply (current_is world)) result end left moves

  -- ---- by the pending step

  pub waits_moves : {pace : Pace} (world : World) (callback_id : ℕ) (call : Call) (nothing : Text) (frames : List Frame) (pending : Pending)
      → pending_left engine world callback_id call pending ≡ Done world [] → nothing ≡ []
      → Moves pace engine (then_rest engine (pending_left engine world callback_id call pending) frames) (Ok (Handed nothing)) world frames
  waits_moves world callback_id call nothing frames pending is_done is_empty = rw is_empty
      (handed_moves (pending_left engine world callback_id call pending) world [] frames is_done)

  -- an invocation that waits, to which nothing is handed
  pub others_wait : (world : World) (callback_id : ℕ) (call : Call) (pending : Pending) → ((following : Then) → pending ≡ Next following → ⊥)
      → (pending ≡ Core → ⊥)
      → pending_left engine world callback_id call pending ≡ Done world []
  unfolding pending_left
  others_wait world callback_id call (Next following) not_next not_core = absurd (not_next following refl)
  others_wait world callback_id call Core not_next not_core = absurd (not_core refl)
  others_wait world callback_id call ForText not_next not_core = refl
  others_wait world callback_id call ForNothing not_next not_core = refl
  others_wait world callback_id call ForCore not_next not_core = refl

  -- a result that is handed to an invocation
  pub text_answered : {pace : Pace} (world up : World) (callback_id : ℕ) (call : Call) (text : Text) (frames : List Frame) → up ≡ one_level_up world
      → (result : Result Move RunFault) (end : World) (left : List Frame) → Moves pace engine
      (then_rest engine (invoke engine up callback_id (with_answer call (answer.Text text))) frames) result end left
      → Moves pace engine (then_rest engine (pending_handed engine world callback_id call ForText text) frames) result end left
  unfolding pending_handed
  text_answered world up callback_id call text frames up_is result end left moves = moves_same engine
      (invoke engine (one_level_up world) callback_id (with_answer call (answer.Text text)))
      (invoke engine up callback_id (with_answer call (answer.Text text))) frames
      (ap (λ (other : World). invoke engine other callback_id (with_answer call (answer.Text text))) (sym up_is)) result end
      left moves

  pub nothing_handed : {pace : Pace} (world up : World) (callback_id : ℕ) (call : Call) (text : Text) (frames : List Frame) → up ≡ one_level_up world
      → (result : Result Move RunFault) (end : World) (left : List Frame)
      → Moves pace engine (then_rest engine (invoke engine up callback_id (with_answer call answer.Nothing)) frames) result
      end left → Moves pace engine (then_rest engine (pending_handed engine world callback_id call ForNothing text) frames) result end left
  unfolding pending_handed
  nothing_handed world up callback_id call text frames up_is result end left moves = moves_same engine
      (invoke engine (one_level_up world) callback_id (with_answer call answer.Nothing))
      (invoke engine up callback_id (with_answer call answer.Nothing)) frames
      (ap (λ (other : World). invoke engine other callback_id (with_answer call answer.Nothing)) (sym up_is)) result end left moves

  pub core_handed : {pace : Pace} (world up : World) (callback_id : ℕ) (call : Call) (text : Text) (frames : List Frame) → up ≡ one_level_up world
      → Moves pace engine (then_rest engine (pending_handed engine world callback_id call ForCore text) frames) (Ok (Handed text)) up frames
  unfolding pending_handed
  core_handed world up callback_id call text frames up_is = handed_moves (Done (one_level_up world) text) up text frames
      (ap (λ (other : World). Done other text) (sym up_is))

  -- one that waits for nothing hands the result on
  others_hand : (world : World) (callback_id : ℕ) (call : Call) (pending : Pending) (text : Text) → (pending ≡ ForText → ⊥) → (pending ≡ ForNothing → ⊥)
      → (pending ≡ ForCore → ⊥) → pending_handed engine world callback_id call pending text ≡ Done world text
  unfolding pending_handed
  others_hand world callback_id call (Next following) text not_text not_nothing not_core = refl
  others_hand world callback_id call Core text not_text not_nothing not_core = refl
  others_hand world callback_id call ForText text not_text not_nothing not_core = absurd (not_text refl)
  others_hand world callback_id call ForNothing text not_text not_nothing not_core = absurd (not_nothing refl)
  others_hand world callback_id call ForCore text not_text not_nothing not_core = absurd (not_core refl)

  pub others_handed : {pace : Pace} (world : World) (callback_id : ℕ) (call : Call) (pending : Pending) (text : Text) (frames : List Frame)
      → (pending ≡ ForText → ⊥)
      → (pending ≡ ForNothing → ⊥) → (pending ≡ ForCore → ⊥)
      → Moves pace engine (then_rest engine (pending_handed engine world callback_id call pending text) frames) (Ok (Handed text)) world frames
  others_handed world callback_id call pending text frames not_text not_nothing not_core =
      handed_moves (pending_handed engine world callback_id call pending text) world text frames
      (others_hand world callback_id call pending text not_text not_nothing not_core)

  -- ---- shortcodes

  -- a shortcode pass invokes its next handler, by the pass and the invocation as they are then
  pub text_invokes : (world : World) (text_pass now : PassOverText) (found : Option Handling) (handler : Handling)
      → ((inv : Invocation) → pieces_pass inv text_pass.cut.text world text_pass.so_far text_pass.cut.pieces
      ≡ handling_pass inv text_pass.cut.text world found now.so_far now.cut.pieces)
      → found ≡ Some handler → now.cut.text ≡ text_pass.cut.text → now.hand ≡ Some handler.matched
      → text_left engine world text_pass ≡ and_then (invoke engine world handler.invoked.callback handler.invoked.call)
      (λ later given. handed engine later (frame.Shortcodes now) given)
  unfolding handed text_handed
  text_invokes world text_pass now found handler same_pieces found_is same_text matched_is =
      same_pieces (invoke engine)
      ∙ ap (λ (some : Option Handling). handling_pass (invoke engine) text_pass.cut.text world some now.so_far now.cut.pieces) found_is
      ∙ ap (λ (over : Text). and_then (invoke engine world handler.invoked.callback handler.invoked.call)
      (λ later given. and_then (answer_shown (invoke engine) over later handler.matched given)
      (λ last shown. pieces_pass (invoke engine) over last (now.so_far ++ shown) now.cut.pieces))) (sym same_text)
      ∙ ap (λ (some : Option Matched). and_then (invoke engine world handler.invoked.callback handler.invoked.call)
      (λ later given. handed engine later (frame.Shortcodes (record { cut = now.cut; so_far = now.so_far; hand = some })) given)) (sym matched_is)

  pub text_begin : {pace : Pace} (world : World) (text shown so_far : Text) (cut_pieces : List Piece) (cut : CutText) (frames : List Frame) → shown ≡ text
      → cut_pieces ≡ pieces_of (live (map (λ pair. pair.0) world.tags) shown) shown → cut ≡ record { text = text; pieces = cut_pieces } → so_far ≡ []
      → (result : Result Move RunFault) (end : World) (left : List Frame) → Moves pace engine
      (then_rest engine (text_left engine world (record { cut = cut; so_far = so_far; hand = None })) frames) result end left
      → Moves pace engine (then_rest engine (shortcodes_pass (invoke engine) world text) frames) result end left
  text_begin world text shown so_far cut_pieces cut frames shown_is pieces_are cut_is is_empty result end left moves =
      moves_same engine (shortcodes_pass (invoke engine) world text) (text_left engine world (record { cut = cut; so_far = so_far; hand = None })) frames
      (rw (cut_is, is_empty, pieces_are, shown_is) (text_begins engine world text)) result end left moves

  -- a handler's answer goes through the filter, whose value the pass waits for
  pub filter_begins : {pace : Pace} (world : World) (text_pass : PassOverText) (match : Matched) (given name shown : Text) (args : List Text)
      (frames pushed : List Frame)
      → name ≡ shortcode_filter → shown ≡ between_brackets match given → args ≡ text_at text_pass.cut.text match.name ∷ []
      → pushed ≡ frame.Shortcodes (record text_pass { hand = None }) ∷ frames
      → (result : Result Move RunFault) (end : World) (left : List Frame)
      → Moves pace engine (then_rest engine (filter_pass (invoke engine) world name shown args) pushed) result end
      left
      → Moves pace engine (then_rest engine (text_handed engine world text_pass (Some match) given) frames) result end left
  unfolding handed text_handed
  filter_begins world text_pass match given name shown args frames pushed name_is shown_is args_are pushed_is result end left moves =
      moves_onto engine (text_handed engine world text_pass (Some match) given) (filter_pass (invoke engine) world name shown args)
      (frame.Shortcodes (record text_pass { hand = None })) frames pushed
      (rw (name_is, shown_is, args_are) refl) pushed_is result end left moves

  -- a text that replaces a match as it is: the filter's value, or a handler's answer if nothing is registered on the
  -- filter
  placed : (world : World) (text_pass : PassOverText) (given : Text) (hand : Option Matched) → (IsSome hand → has world.table shortcode_filter ≡ false)
      → text_handed engine world text_pass hand given ≡ text_left engine world (record text_pass { so_far = text_pass.so_far ++ in_place hand given })
  unfolding text_handed
  placed world text_pass given None unhooked = refl
  placed world text_pass given (Some match) unhooked =
      ap (λ (filtering : Trace Text). and_then filtering
      (λ later shown. pieces_pass (invoke engine) text_pass.cut.text later (text_pass.so_far ++ shown) text_pass.cut.pieces))
      (filter_unhooked (invoke engine) world shortcode_filter (between_brackets match given) (text_at text_pass.cut.text match.name ∷ []) (unhooked refl))

  -- the same, of a pass that is handed a handler's answer
  pub answer_placed : (world : World) (text_pass after : PassOverText) (given : Text) → has world.table shortcode_filter ≡ false
      → after ≡ record text_pass { so_far = text_pass.so_far ++ in_place text_pass.hand given }
      → handed engine world (frame.Shortcodes text_pass) given ≡ text_left engine world after
  unfolding handed
  answer_placed world text_pass after given unhooked after_is = placed world text_pass given text_pass.hand (λ some. unhooked)
      ∙ ap (λ (other : PassOverText). text_left engine world other) (sym after_is)

  pub text_placed : {pace : Pace} (world : World) (text_pass after : PassOverText) (given : Text) (frames : List Frame)
      → (IsSome text_pass.hand → has world.table shortcode_filter ≡ false)
      → after ≡ record text_pass { so_far = text_pass.so_far ++ in_place text_pass.hand given }
      → (result : Result Move RunFault) (end : World) (left : List Frame)
      → Moves pace engine (then_rest engine (text_left engine world after) frames) result end left
      → Moves pace engine (then_rest engine (text_handed engine world text_pass text_pass.hand given) frames) result end left
  text_placed world text_pass after given frames unhooked after_is result end left moves =
      moves_same engine (text_handed engine world text_pass text_pass.hand given) (text_left engine world after) frames
      (placed world text_pass given text_pass.hand unhooked ∙ ap (λ (other : PassOverText). text_left engine world other) (sym after_is)) result end left moves

  -- a text without shortcodes
  pub text_back : {pace : Pace} (world : World) (text shown : Text) (cut_pieces : List Piece) (frames : List Frame) → shown ≡ text
      → cut_pieces ≡ pieces_of (live (map (λ pair. pair.0) world.tags) shown) shown → pieces_pass (invoke engine) text world [] cut_pieces ≡ Done world text
      → Moves pace engine (then_rest engine (shortcodes_pass (invoke engine) world text) frames) (Ok (Handed text)) world frames
  text_back world text shown cut_pieces frames shown_is pieces_are is_done = handed_moves (shortcodes_pass (invoke engine) world text) world text frames
      (text_begins engine world text ∙ (rw (pieces_are, shown_is) at is_done))

  -- ---- the innermost frame

  pub pass_first : {pace : Pace} (world : World) (hook_pass : HookPass) (frames : List Frame) (result : Result Move RunFault) (end : World) (left : List Frame)
      → Moves pace engine (then_rest engine (pass_left engine world hook_pass) frames) result end left
      → Moves pace engine (rest engine world (frame.Pass hook_pass ∷ frames)) result end left
  unfolding rest goes_on
  pass_first world hook_pass frames result end left moves = moves

  pub invocation_first : {pace : Pace} (world : World) (invoked : Invoked) (frames : List Frame) (result : Result Move RunFault) (end : World)
      (left : List Frame)
      → Moves pace engine (then_rest engine (pending_left engine world invoked.callback invoked.call invoked.pending) frames) result end left
      → Moves pace engine (rest engine world (frame.Invocation invoked ∷ frames)) result end left
  unfolding rest goes_on
  invocation_first world invoked frames result end left moves = moves

  pub text_first : {pace : Pace} (world : World) (text_pass : PassOverText) (frames : List Frame) (result : Result Move RunFault) (end : World)
      (left : List Frame)
      → Moves pace engine (then_rest engine (text_left engine world text_pass) frames) result end left
      → Moves pace engine (rest engine world (frame.Shortcodes text_pass ∷ frames)) result end left
  unfolding rest goes_on
  text_first world text_pass frames result end left moves = moves

  -- once it is handed a result

  pub pass_next : {pace : Pace} (world : World) (hook_pass after : HookPass) (given : Text) (frames : List Frame)
      → after ≡ record hook_pass { value = value_after hook_pass.kind hook_pass.value given }
      → (result : Result Move RunFault) (end : World) (left : List Frame)
      → Moves pace engine (then_rest engine (pass_left engine world after) frames) result end left
      → Moves pace engine (rest_with engine world (frame.Pass hook_pass ∷ frames) given) result end left
  unfolding rest_with handed
  pass_next world hook_pass after given frames after_is result end left moves = moves_same engine
      (pass_left engine world (record hook_pass { value = value_after hook_pass.kind hook_pass.value given })) (pass_left engine world after) frames
      (ap (λ (other : HookPass). pass_left engine world other) (sym after_is)) result end left moves

  pub invocation_next : {pace : Pace} (world : World) (invoked : Invoked) (given : Text) (frames : List Frame) (result : Result Move RunFault) (end : World)
      (left : List Frame)
      → Moves pace engine (then_rest engine (pending_handed engine world invoked.callback invoked.call invoked.pending given) frames) result end left
      → Moves pace engine (rest_with engine world (frame.Invocation invoked ∷ frames) given) result end left
  unfolding rest_with handed
  invocation_next world invoked given frames result end left moves = moves

  pub text_next : {pace : Pace} (world : World) (text_pass : PassOverText) (given : Text) (frames : List Frame) (result : Result Move RunFault) (end : World)
      (left : List Frame)
      → Moves pace engine (then_rest engine (text_handed engine world text_pass text_pass.hand given) frames) result end left
      → Moves pace engine (rest_with engine world (frame.Shortcodes text_pass ∷ frames) given) result
      end left
  unfolding rest_with handed
  text_next world text_pass given frames result end left moves = moves

  -- ---- no frame

  pub none_next : (world : World) (frames : List Frame) (given : Text) → frames ≡ [] → rest_with engine world frames given ≡ Done world given
  unfolding rest_with
  none_next world frames given are_none = rw are_none refl

  pub nothing_left : (world : World) (job : Option Job) (frames none : List Frame) (given : Text) → job ≡ None → frames ≡ [] → none ≡ [] → given ≡ []
      → left_from engine world job frames ≡ rest_with engine world none given
  unfolding rest rest_with
  nothing_left world job frames none given job_is are_none left_is is_empty = rw (job_is, are_none, left_is, is_empty) refl

  pub job_alone : (w : World) (job : Job) (fs : List Frame) → fs ≡ [] → left_from engine w (Some job) fs ≡ job_left engine w job
  job_alone w job fs e = rw e (then_done engine (job_left engine w job))
