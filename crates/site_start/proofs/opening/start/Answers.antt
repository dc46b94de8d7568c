use Rattle.std.proofs.Common.{◌≡◌, ◌∙◌, ap, sym, subst, subst₂, refl, inl, inr, [], drop, take, length, get_or, true, ◌<◌, ◌≤◌}
use Rattle.std.specs.Prelude.{◌∷◌, ◌++◌, OnOk}
use Rattle.std.specs.String.{string_bytes}
use Rattle.std.proofs.lemmas.Result.{err_from_is_err_and, on_ok_weaker, on_err_weaker, IfErr-weaker}
use Rattle.std.proofs.lemmas.List.Elements.{All-nil}
use Rattle.sqlite.specs.Held.{state}
use Rattle.sqlite.specs.State.{HasCleanDisk}
use Rattle.sqlite.proofs.StateLemmas.{survives_then}
use Rattle.command_log.proofs.States.{clean_of, on_error}
use Rattle.command_log.specs.Faults.{IsCaused, Unreadable, Unstorable}
use Rattle.command_log.specs.Lines.{IsOpen, KeepsLines, lines_after, lines_in, lines_left, lines_of, rows_of}
use Rattle.site_serving.specs.Served.{state_after}
use Rattle.site_start.specs.Started.{AreEdits, IsOfAnother, IsReplayFault, IsStartFault, IsTakenOver, Unread, Untaken}
use Rattle.site_start.proofs.Replaying.{clean_before, first_left, none_left, on_every_err, on_ok_both, survives_same}
use Rattle.site_start.proofs.Stopping.{caused_later, first_stops, later_stops, unread_back, unread_rest}
use Rattle.site_start.proofs.opening.start.Given.{Over}
use Rattle.site_start.proofs.opening.start.Goals as goal
use Rattle.site_start.proofs.opening.start.Goals.{After-drop-first-in-empty, After-drop-first-in_err-introduce-in-len1-up, After-drop-first-2}

-- ---- the log has no line

-- it had none as it was read
none_read : (g : Over) (c : After-drop-first-in-empty g) → HasCleanDisk (state g.S.Store c.read_batch.new.self) → lines_of g.S.Store c.args.log.now ≡ []
none_read g c clean =
    let read = c.in_ok-first.ensures in
    let took = read.ok clean ∙ ap (λ place. take 1 (lines_left g.S.Store c.args.log.now place)) c.start.ensures in
    let few : length c.in_ok-first.first.lines.items < 1 = subst (λ items. length items < 1) c.as_slice.ensures.value c.in-empty.len_below in
    none_left string_bytes c.in_ok-first.first.lines.items (lines_of g.S.Store c.args.log.now) took few

-- and after that
none_after : (g : Over) (c : After-drop-first-in-empty g) → HasCleanDisk (state g.S.Store c.read_batch.new.self)
    → lines_of g.S.Store c.read_batch.new.self ≡ []
none_after g c clean = let read = c.in_ok-first.ensures in read.same (read.stays clean) ∙ none_read g c clean

-- the identity is its only line then
alone : (g : Over) (c : After-drop-first-in-empty g) → HasCleanDisk (state g.S.Store c.append_first.new.log)
    → OnOk c.append_first.result (lines_of g.S.Store c.append_first.new.log ≡ c.args.identity.now ∷ [])
alone g c clean =
    let early = clean_before g.S.Store c.read_batch.new.self c.append_first.new.log _ c.append_first.ensures.survives clean in
    on_ok_weaker c.append_first.result (λ more. more ∙ ap (λ lines. lines ++ c.args.identity.now ∷ []) (none_after g c early)) (c.append_first.ensures.ok clean)

pub returns-in-empty-clause-replayed : goal.returns-in-empty-clause-replayed
returns-in-empty-clause-replayed g c = λ clean.
    let steps = g.C.Commands.steps (g.C.Commands.fixed c.args.site.now) in
    let old = g.C.Commands.state c.args.site.now in
    on_ok_weaker c.append_first.result (λ one. c.in_ok-introduce-in-empty.ensures.done ∙ ap (state_after steps old) (sym one)) (alone g c clean)

pub returns-in-empty-clause-lines : goal.returns-in-empty-clause-lines
returns-in-empty-clause-lines g c = λ clean.
    let early = clean_before g.S.Store c.read_batch.new.self c.append_first.new.log _ c.append_first.ensures.survives clean in
    on_ok_weaker c.append_first.result
    (λ one. subst (λ old. IsTakenOver c.args.identity.now old (lines_of g.S.Store c.append_first.new.log)) (sym (none_read g c early)) one) (alone g c clean)

pub returns-in-empty-clause-err : goal.returns-in-empty-clause-err
returns-in-empty-clause-err g c = λ up.
    let clean = clean_of g.S.Store g.met.S.Store.shut_if_dirty c.append_first.new.log up in
    let early = clean_before g.S.Store c.read_batch.new.self c.append_first.new.log _ c.append_first.ensures.survives clean in
    let read = c.in_ok-first.ensures in
    on_err_weaker c.append_first.result (λ same. same ∙ read.same (read.stays early)) (c.append_first.ensures.err up)

-- a crash leaves what it could leave before, or the identity alone
pub returns-in-empty-clause-survives : goal.returns-in-empty-clause-survives
returns-in-empty-clause-survives g c =
    survives_then (state g.S.Store c.args.log.now) (state g.S.Store c.read_batch.new.self) (state g.S.Store c.append_first.new.log) _ _
    (λ db. (lines_of g.S.Store c.args.log.now ≡ []) × KeepsLines (c.args.identity.now ∷ []) db)
    (λ clean db none. absurd none)
    (λ clean db appended.
    let early = clean_before g.S.Store c.read_batch.new.self c.append_first.new.log _ c.append_first.ensures.survives clean in
    (none_read g c early, subst (λ lines. KeepsLines (lines ++ c.args.identity.now ∷ []) db) (none_after g c early) appended.1))
    c.in_ok-first.ensures.survives c.append_first.ensures.survives

-- ---- the log has a first line

-- the lines of the log are the first one, which is the identity, and those that are left after it
first_read : (g : Over) (c : After-drop-first-2 g) → HasCleanDisk (state g.S.Store c.read_batch.new.self)
    → lines_of g.S.Store c.args.log.now ≡ c.as_str.result.now ∷ drop 1 (lines_of g.S.Store c.args.log.now)
first_read g c clean =
    let read = c.in_ok-first.ensures in
    let items = c.in_ok-first.first.lines.items in
    let line = c.line-item.result in
    let took = read.ok clean ∙ ap (λ place. take 1 (lines_left g.S.Store c.args.log.now place)) c.start.ensures in
    let some : 1 ≤ length items = subst (λ items. 1 ≤ length items) c.as_slice.ensures.value c.in-len1-up.len_at_least in
    let at : line ≡ get_or items 0 line = c.line-item.is ∙ ap (λ items. get_or items 0 line) c.as_slice.ensures.value in
    first_left string_bytes items (lines_of g.S.Store c.args.log.now) line took some at
    ∙ ap (λ text. text ∷ drop 1 (lines_of g.S.Store c.args.log.now)) (sym c.as_str.ensures.value)

-- and the log still has them
still : (g : Over) (c : After-drop-first-2 g) → IsOpen g.S.Store c.replay.new.log → HasCleanDisk (state g.S.Store c.read_batch.new.self)
    → lines_of g.S.Store c.replay.new.log ≡ lines_of g.S.Store c.args.log.now
still g c up early =
    let read = c.in_ok-first.ensures in ap (λ d. lines_in d.trees) (c.replay.ensures.same up) ∙ read.same (read.stays early)

-- what is left of it after the first line
left_after : (g : Over) (c : After-drop-first-2 g) → HasCleanDisk (state g.S.Store c.read_batch.new.self)
    → lines_left g.S.Store c.read_batch.new.self c.in_ok-first.first.next ≡ drop 1 (lines_of g.S.Store c.args.log.now)
left_after g c early =
    let read = c.in_ok-first.ensures in
    ap (λ d. lines_after c.in_ok-first.first.next d.trees) (read.committed (read.stays early)) ∙ read.left early
    ∙ ap (λ place. drop 1 (lines_left g.S.Store c.args.log.now place)) c.start.ensures

pub returns-clause-replayed : goal.returns-clause-replayed
returns-clause-replayed g c = λ clean.
    let store = g.S.Store in
    let seen = g.C.Commands.state in
    let old = seen c.args.site.now in
    let early = clean_before store c.read_batch.new.self c.replay.new.log _ c.replay.ensures.survives clean in
    let intro = c.in_ok-introduce-in-len1-up.ensures in
    let left = left_after g c early in
    on_ok_both c.replay.result
    (λ done up.
    done ∙ ap (λ fixed. state_after (g.C.Commands.steps fixed) (seen c.introduce-in-len1-up.new.site)
    (lines_left store c.read_batch.new.self c.in_ok-first.first.next)) intro.fixed
    ∙ ap (λ site. state_after (g.C.Commands.steps (g.C.Commands.fixed c.args.site.now)) site
    (lines_left store c.read_batch.new.self c.in_ok-first.first.next)) intro.done
    ∙ ap (state_after (g.C.Commands.steps (g.C.Commands.fixed c.args.site.now))
    (g.C.Commands.steps (g.C.Commands.fixed c.args.site.now) old c.as_str.result.now).0)
    left
    ∙ ap (state_after (g.C.Commands.steps (g.C.Commands.fixed c.args.site.now)) old) (sym (still g c up early ∙ first_read g c early)))
    (c.replay.ensures.done clean) (c.replay.ensures.opened clean)

pub returns-clause-lines : goal.returns-clause-lines
returns-clause-lines g c = λ clean.
    let early = clean_before g.S.Store c.read_batch.new.self c.replay.new.log _ c.replay.ensures.survives clean in
    let intro = c.in_ok-introduce-in-len1-up.ensures in
    on_ok_weaker c.replay.result
    (λ up.
    subst (λ old. IsTakenOver c.args.identity.now old (lines_of g.S.Store c.replay.new.log)) (sym (first_read g c early))
    (intro.same, still g c up early ∙ first_read g c early)) (c.replay.ensures.opened clean)

pub returns-clause-err : goal.returns-clause-err
returns-clause-err g c = λ up.
    let clean = clean_of g.S.Store g.met.S.Store.shut_if_dirty c.replay.new.log up in
    let early = clean_before g.S.Store c.read_batch.new.self c.replay.new.log _ c.replay.ensures.survives clean in
    on_every_err c.replay.result (still g c up early)

-- ---- the lines after the first are edits

pub returns-in-empty-clause-edits : goal.returns-in-empty-clause-edits
returns-in-empty-clause-edits g c = λ clean.
    on_ok_weaker c.append_first.result (λ one. ([], one, All-nil (λ line. g.C.Commands.edits line ≡ true))) (alone g c clean)

pub returns-clause-edits : goal.returns-clause-edits
returns-clause-edits g c = λ clean.
    let early = clean_before g.S.Store c.read_batch.new.self c.replay.new.log _ c.replay.ensures.survives clean in
    let lines = lines_of g.S.Store c.args.log.now in
    on_ok_both c.replay.result
    (λ edits up. (
      drop 1 lines,
      still g c up early ∙ first_read g c early ∙ ap (λ text. text ∷ drop 1 lines) c.in_ok-introduce-in-len1-up.ensures.same,
      subst (AreEdits g.C.Commands.edits) (left_after g c early) edits,
    )) (c.replay.ensures.edits clean) (c.replay.ensures.opened clean)

-- ---- another program's log has another first line

-- the lines of the log as it was read, where the first one was refused
first_refused : (g : Over) (c : After-drop-first-in_err-introduce-in-len1-up g) → HasCleanDisk (state g.S.Store c.read_batch.new.self)
    → lines_of g.S.Store c.args.log.now ≡ c.as_str.result.now ∷ drop 1 (lines_of g.S.Store c.args.log.now)
first_refused g c clean =
    let items = c.in_ok-first.first.lines.items in
    let line = c.line-item.result in
    let lines = lines_of g.S.Store c.args.log.now in
    let took = c.in_ok-first.ensures.ok clean ∙ ap (λ place. take 1 (lines_left g.S.Store c.args.log.now place)) c.start.ensures in
    let some : 1 ≤ length items = subst (λ items. 1 ≤ length items) c.as_slice.ensures.value c.in-len1-up.len_at_least in
    let at : line ≡ get_or items 0 line = c.line-item.is ∙ ap (λ items. get_or items 0 line) c.as_slice.ensures.value in
    first_left string_bytes items lines line took some at ∙ ap (λ text. text ∷ drop 1 lines) (sym c.as_str.ensures.value)

pub returns-in_err-introduce-in-len1-up-clause-other : goal.returns-in_err-introduce-in-len1-up-clause-other
returns-in_err-introduce-in-len1-up-clause-other g c = λ clean.
    let p = err_from_is_err_and c.from_residual-in_err-introduce-in-len1-up.result c.from_residual-in_err-introduce-in-len1-up.ensures.1 in
    rw (p.1, p.2)
    (λ is. subst (IsOfAnother c.args.identity.now) (sym (first_refused g c clean)) (c.in_err-introduce-in-len1-up.ensures.other is))

-- ---- why it failed

pub returns-in_err-first-clause-cause : goal.returns-in_err-first-clause-cause
returns-in_err-first-clause-cause g c = λ clean up.
    let store = g.S.Store in
    let lines = lines_of store c.args.log.now in
    let left = lines_left store c.args.log.now c.start.result in
    let same : lines ≡ left = ap (lines_left store c.args.log.now) (sym c.start.ensures) in
    on_error _ _
    (caused_later (state store c.args.log.now) (state store c.args.log.now) (state store c.read_batch.new.self) _ (Unreadable left)
    (Untaken c.args.identity.now lines) (λ f h. inl (unread_back 0 lines [] left same f h)) (survives_same _) _ (c.in_err-first.ensures.cause clean up))
    c.from_residual.result c.from_residual.ensures.1

pub returns-in_err-introduce-in-empty-clause-cause : goal.returns-in_err-introduce-in-empty-clause-cause
returns-in_err-introduce-in-empty-clause-cause g c = λ clean up.
    let store = g.S.Store in
    let lines = lines_of store c.args.log.now in
    let identity = c.args.identity.now in
    let items = c.in_ok-first.first.lines.items in
    let took = c.in_ok-first.ensures.ok clean ∙ ap (λ place. take 1 (lines_left store c.args.log.now place)) c.start.ensures in
    let few : length items < 1 = subst (λ xs. length xs < 1) c.as_slice.ensures.value c.in-empty.len_below in
    let none = none_left string_bytes items lines took few in
    on_error _ _
    (first_stops (g.C.Commands.steps (g.C.Commands.fixed c.args.site.now)) (g.C.Commands.replies (g.C.Commands.fixed c.args.site.now)) g.C.Commands.keeps _
    (g.C.Commands.state c.args.site.now) identity identity lines [] _ (λ other. absurd (other refl))
    (λ is. subst (λ old. IsTakenOver identity old (identity ∷ [])) (sym none) refl) c.in_err-introduce-in-empty.ensures.cause)
    c.from_residual-in_err-introduce-in-empty.result c.from_residual-in_err-introduce-in-empty.ensures.1

pub returns-in-empty-clause-cause : goal.returns-in-empty-clause-cause
returns-in-empty-clause-cause g c = λ clean up.
    let store = g.S.Store in
    let lines = lines_of store c.args.log.now in
    let read = c.in_ok-first.ensures in
    let early = clean_before store c.read_batch.new.self c.append_first.new.log _ c.append_first.ensures.survives clean in
    IfErr-weaker c.append_first.result _ _
    (λ fault it. subst
    (IsStartFault (g.C.Commands.steps (g.C.Commands.fixed c.args.site.now)) (g.C.Commands.replies (g.C.Commands.fixed c.args.site.now)) g.C.Commands.keeps
    (IsCaused (state store c.args.log.now) (state store c.append_first.new.log) (Untaken c.args.identity.now lines)) (g.C.Commands.state c.args.site.now)
    c.args.identity.now lines) (sym it.1)
    (caused_later (state store c.args.log.now) (state store c.read_batch.new.self) (state store c.append_first.new.log) _
    (Unstorable (rows_of store c.read_batch.new.self) (c.args.identity.now ∷ []))
    (Untaken c.args.identity.now lines) (λ f h. inr (none_read g c early, (rows_of store c.read_batch.new.self, h))) read.survives it.0 it.2))
    (c.append_first.ensures.cause clean (read.stays early))

pub returns-in_err-introduce-in-len1-up-clause-cause : goal.returns-in_err-introduce-in-len1-up-clause-cause
returns-in_err-introduce-in-len1-up-clause-cause g c = λ clean up.
    let lines = lines_of g.S.Store c.args.log.now in
    let identity = c.args.identity.now in
    let first = c.as_str.result.now in
    let split = first_refused g c clean in
    on_error _ _
    (first_stops (g.C.Commands.steps (g.C.Commands.fixed c.args.site.now)) (g.C.Commands.replies (g.C.Commands.fixed c.args.site.now)) g.C.Commands.keeps _
    (g.C.Commands.state c.args.site.now) identity first lines (drop 1 lines) _ (λ other. subst (IsOfAnother identity) (sym split) other)
    (λ is. subst (λ old. IsTakenOver identity old (identity ∷ drop 1 lines)) (sym split) (is, ap (λ text. text ∷ drop 1 lines) (sym is)))
    c.in_err-introduce-in-len1-up.ensures.cause)
    c.from_residual-in_err-introduce-in-len1-up.result c.from_residual-in_err-introduce-in-len1-up.ensures.1

pub returns-clause-cause : goal.returns-clause-cause
returns-clause-cause g c = λ clean up.
    let store = g.S.Store in
    let seen = g.C.Commands.state in
    let steps = g.C.Commands.steps in
    let replies = g.C.Commands.replies in
    let fixed = g.C.Commands.fixed c.args.site.now in
    let lines = lines_of store c.args.log.now in
    let identity = c.args.identity.now in
    let first = state store c.args.log.now in
    let mid = state store c.read_batch.new.self in
    let new = state store c.replay.new.log in
    let read = c.in_ok-first.ensures in
    let intro = c.in_ok-introduce-in-len1-up.ensures in
    let early = clean_before store c.read_batch.new.self c.replay.new.log _ c.replay.ensures.survives clean in
    let split = first_read g c early in
    let taken = subst (λ old. IsTakenOver identity old (identity ∷ drop 1 lines)) (sym split) (intro.same, ap (λ text. text ∷ drop 1 lines) (sym intro.same)) in
    let made = intro.done ∙ ap (λ text. (steps fixed (seen c.args.site.now) text).0) intro.same in
    IfErr-weaker c.replay.result _ _
    (λ fault h. later_stops (steps fixed) (replies fixed) g.C.Commands.keeps (IsCaused first new (Untaken identity lines))
    (IsCaused mid new (Unread 1 (drop 1 lines))) (seen c.args.site.now) (seen c.introduce-in-len1-up.new.site) identity lines (drop 1 lines) fault
    (caused_later first mid new _ (Unread 1 (drop 1 lines)) (Untaken identity lines)
    (λ f h. inl (unread_rest lines (drop 1 lines) c.as_str.result.now split f h)) read.survives) taken made
    (subst₂ (λ f left. IsReplayFault (steps f) (replies f) g.C.Commands.keeps (IsCaused mid new (Unread 1 left)) (seen c.introduce-in-len1-up.new.site) left fault)
    intro.fixed (left_after g c early) h))
    (c.replay.ensures.cause clean (read.stays early))
