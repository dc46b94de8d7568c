use Rattle.std.proofs.Common.{rules, arith, ◌≡◌, ◌⊎◌, ◌-◌, ◌<◌, ◌≤◌, [], ◌∷◌, ◌++◌, refl, inl, inr, sym, ap, ◌∙◌, Err, length, length-append, take}
use Rattle.std.proofs.lemmas.Grind.{common_steps}
use Rattle.std.proofs.lemmas.Result.{err_from_is_err_and, IfOk-weaker, IfErr-weaker}
use Rattle.site_serving.specs.Lines.{IsLine, max_line}
use Rattle.site_serving.specs.Stretches.{IsTooLong}
use Rattle.site_serving.proofs.Newlines.{on_every_ok, sound_without_memory, IsLine-nil, IsLine-before, IsLine-whole}
use Rattle.site_serving.proofs.Newlines.{cut_at, other_than_write, write_not_memory}
use Rattle.site_serving.proofs.Newlines.{IsTooLong-before, IsTooLong-whole, whole_line, some_of, no_newline_found}
use Rattle.site_serving.proofs.Stretches.{Handles-from, Records-nil, Records-line, Records-held, Fails-line}
use Rattle.site_serving.proofs.Endings.{halts_here}
use Rattle.site_serving.proofs.serving.take_lines.Goals as goal
use Rattle.site_serving.proofs.serving.take_lines.Goals.{then-left-eq0-via-then-left-eq0, then-left-eq0-via-else-left-eq0+then-end-len}
use Rattle.site_serving.proofs.serving.take_lines.Goals.{then-left-eq0-2-via-then-left-eq0-2, then-left-eq0-2-via-else-left-eq0-2+then-rest-len}

-- nothing was taken yet
pub loop-end-init : goal.loop-end-init
loop-end-init g c = record {
  stretch = c.args.held.now.items;
  whole = refl;
  recorded = Records-nil _ _ _ _ _ _ _;
  line = c.requires.line;
  room = c.requires.room;
  sound = c.requires.sound;
  fixed = refl;
  idle = λ e. refl;
}

-- the line is carried out, and its newline goes
pub loop-end-preserved : goal.loop-end-preserved
loop-end-preserved g c =
    let i = c.loop-end.invariant in
    let held = c.loop-end.held.items in
    let rest = c.loop-end.rest.now in
    let end = c.in-Some.end in
    let found = c.in-Some.ensures in
    let ok = c.in_ok-finish_line.ensures in
    let same = c.loop-end.held.ok.0 in
    let fits : end ≤ max_line - length held = omega (arith, same) in
    let room : 0 < c.loop-end.left = omega arith in
    let line : IsLine (held ++ take end rest) = IsLine-before held rest (take end rest) end refl i.line found fits in
    let handled = Handles-from g.W.Journal g.C.Commands.keeps g.C.Commands.replies _ _ i.fixed _ _ _ _ _ _ (ok.handled (λ e. absurd (cc))) in
    record {
      stretch = i.stretch ++ (take end rest ++ 10 ∷ []);
      whole = whole_line i.stretch rest _ (take end rest) _ end refl (grind (arith, common_steps)) found i.whole;
      recorded = rw ok.empty (Records-line _ _ _ _ _ _ _ _ _ _ _ _ _ _ _ i.recorded room line handled);
      line = rw ok.empty IsLine-nil;
      room = rw ok.empty (λ h. absurd (omega arith));
      sound = search rules;
      fixed = ok.fixed ∙ i.fixed;
      idle = λ e. absurd (let count = i.recorded.count in omega (arith, count, e));
    }

pub loop-end-smaller : goal.loop-end-smaller
loop-end-smaller g c = grind (arith, common_steps)

-- a line too many, or one too long
pub returns-then-left-eq0-clause-halts : goal.returns-then-left-eq0-clause-halts
returns-then-left-eq0-clause-halts g c =
    let i = c.loop-end.invariant in
    let held = c.loop-end.held.items in
    let rest = c.loop-end.rest.now in
    let found = c.in-Some.ensures in
    let some : 0 < length (held ++ rest) = let high = found.0.high in simp length-append (omega arith) in
    let past : (c.loop-end.left ≡ 0) ⊎ IsTooLong (held ++ rest) =
    elim c.then-left-eq0.branch [
      | then-left-eq0-via-then-left-eq0 w ↦ inl (search rules)
      | then-left-eq0-via-else-left-eq0+then-end-len w ↦ let same = c.loop-end.held.ok.0 in inr
          (IsTooLong-before held rest c.in-Some.end i.line found (omega (arith, same)))
    ] in
    λ other. (held ++ rest, Records-held _ _ _ _ _ _ _ _ _ _ _ _ _ i.recorded i.whole, (some, past))

pub returns-then-left-eq0-2-clause-halts : goal.returns-then-left-eq0-2-clause-halts
returns-then-left-eq0-2-clause-halts g c =
    let i = c.loop-end.invariant in
    let held = c.loop-end.held.items in
    let rest = c.loop-end.rest.now in
    let more : 0 < length rest = some_of (length rest) (sym c.is_empty.ensures ∙ c.if-is_empty.false) in
    let some : 0 < length (held ++ rest) = simp length-append (omega arith) in
    let none = no_newline_found rest c.memchr.result c.memchr.ensures c.in_default.not-Some in
    let past : (c.loop-end.left ≡ 0) ⊎ IsTooLong (held ++ rest) =
    elim c.then-left-eq0-2.branch [
      | then-left-eq0-2-via-then-left-eq0-2 w ↦ inl (search rules)
      | then-left-eq0-2-via-else-left-eq0-2+then-rest-len w ↦ let same = c.loop-end.held.ok.0 in inr
          (IsTooLong-whole held rest i.line none (omega (arith, same)))
    ] in
    λ other. (held ++ rest, Records-held _ _ _ _ _ _ _ _ _ _ _ _ _ i.recorded i.whole, (some, past))

-- memory ran out at the line, or its reply was not written
pub returns-in_err-finish_line-clause-halts : goal.returns-in_err-finish_line-clause-halts
returns-in_err-finish_line-clause-halts g c =
    let i = c.loop-end.invariant in
    let held = c.loop-end.held.items in
    let rest = c.loop-end.rest.now in
    let found = c.in-Some.ensures in
    let some : 0 < length (held ++ rest) = let high = found.0.high in simp length-append (omega arith) in
    let err = c.in_err-finish_line.ensures in
    let p = err_from_is_err_and c.from_residual.result c.from_residual.ensures.1 in
    rw (p.1, p.2) (λ other.
    let memory = other_than_write err.only other in
    let kept = err.memory (ap Err memory) in
    let recorded = Records-held _ _ _ _ _ _ _ _ _ _ _ _ _ i.recorded i.whole in
    halts_here _ _ _ _ _ _ _ _ _ _ _ _ _ _ (ap g.C.Commands.state kept.0) kept.1 recorded memory some)

pub returns-in_err-finish_line-clause-idle : goal.returns-in_err-finish_line-clause-idle
returns-in_err-finish_line-clause-idle g c =
    let err = c.in_err-finish_line.ensures in
    let p = err_from_is_err_and c.from_residual.result c.from_residual.ensures.1 in
    rw (p.1, p.2) (λ e other.
    let memory = other_than_write err.only (λ is. other (ap Err is)) in
    (err.memory (ap Err memory)).1 ∙ c.loop-end.invariant.idle e)

pub returns-in_err-finish_line-clause-fails : goal.returns-in_err-finish_line-clause-fails
returns-in_err-finish_line-clause-fails g c =
    let i = c.loop-end.invariant in
    let held = c.loop-end.held.items in
    let rest = c.loop-end.rest.now in
    let end = c.in-Some.end in
    let found = c.in-Some.ensures in
    let same = c.loop-end.held.ok.0 in
    let fits : end ≤ max_line - length held = omega (arith, same) in
    let line : IsLine (held ++ take end rest) = IsLine-before held rest (take end rest) end refl i.line found fits in
    let room : 0 < c.loop-end.left = omega arith in
    let err = c.in_err-finish_line.ensures in
    let p = err_from_is_err_and c.from_residual.result c.from_residual.ensures.1 in
    rw (p.1, p.2) (λ is.
    let handled = Handles-from g.W.Journal g.C.Commands.keeps g.C.Commands.replies _ _ i.fixed _ _ _ _ _ _ (err.handled (write_not_memory _ is)) in
    Fails-line _ _ _ _ _ _ _ _ _ _ _ _ _ _ _ _ _ i.recorded room line handled
    (ap (λ l. c.loop-end.invariant.stretch ++ l) (sym (cut_at rest end found)) ∙ i.whole))

-- what follows the last newline is held, or memory for it ran out
pub returns-clause-records : goal.returns-clause-records
returns-clause-records g c =
    let i = c.loop-end.invariant in
    IfOk-weaker c.hold.result _ _ (λ nothing e. rw e (Records-held _ _ _ _ _ _ _ _ _ _ _ _ _ i.recorded i.whole)) c.hold.ensures.ok

pub returns-clause-halts : goal.returns-clause-halts
returns-clause-halts g c =
    let i = c.loop-end.invariant in
    let held = c.loop-end.held.items in
    let rest = c.loop-end.rest.now in
    let more : 0 < length rest = some_of (length rest) (sym c.is_empty.ensures ∙ c.if-is_empty.false) in
    let some : 0 < length (held ++ rest) = simp length-append (omega arith) in
    IfErr-weaker c.hold.result _ _ (λ fault is other. rw is (held ++ rest, Records-held _ _ _ _ _ _ _ _ _ _ _ _ _ i.recorded i.whole, some)) c.hold.ensures.err

pub returns-clause-idle : goal.returns-clause-idle
returns-clause-idle g c = λ e other. c.loop-end.invariant.idle e

pub returns-clause-line : goal.returns-clause-line
returns-clause-line g c =
    let i = c.loop-end.invariant in
    let same = c.loop-end.held.ok.0 in
    let none = no_newline_found c.loop-end.rest.now c.memchr.result c.memchr.ensures c.in_default.not-Some in
    let whole = IsLine-whole c.loop-end.held.items c.loop-end.rest.now i.line none (omega (arith, same)) in
    IfOk-weaker c.hold.result _ _ (λ nothing e. rw e whole) c.hold.ensures.ok

pub returns-clause-room : goal.returns-clause-room
returns-clause-room g c = on_every_ok c.hold.result (λ some. omega arith)

pub returns-clause-failed : goal.returns-clause-failed
returns-clause-failed g c = sound_without_memory c.hold.result _ c.loop-end.invariant.sound c.hold.ensures.err

-- what is held leaves room within a line
pub overflow_sub-len : goal.overflow_sub-len
overflow_sub-len g c =
    let short = c.loop-end.invariant.line.short in
    let same = c.loop-end.held.ok.0 in
    omega (arith, short, same)

pub overflow_sub-len-else-left-eq0-2 : goal.overflow_sub-len-else-left-eq0-2
overflow_sub-len-else-left-eq0-2 g c =
    let short = c.loop-end.invariant.line.short in
    let same = c.loop-end.held.ok.0 in
    omega (arith, short, same)

pub finish_line-requires-clause-short : goal.finish_line-requires-clause-short
finish_line-requires-clause-short g c =
    let held = c.loop-end.held.items in
    let rest = c.loop-end.rest.now in
    let end = c.in-Some.end in
    let same = c.loop-end.held.ok.0 in
    let fits : end ≤ max_line - length held = omega (arith, same) in
    let line : IsLine (held ++ take end rest) = IsLine-before held rest (take end rest) end refl c.loop-end.invariant.line c.in-Some.ensures fits in
    line.short
