use Rattle.std.proofs.Common.{arith, rules, ◌≡◌, ◌∙◌, ◌<◌, [], take, drop, length, refl, sym, ap, append-nil}
use Rattle.std.proofs.lemmas.Bool.{eqb-true}
use Rattle.std.proofs.lemmas.Grind.{common_steps}
use Rattle.std.proofs.lemmas.List.{take_rest}
use Rattle.site_serving.proofs.Newlines.{no_newline_found, some_of}
use Rattle.site_serving.specs.Lines.{lines_of}
use Rattle.site_http.proofs.Following.{Follows-nil, Follows-then, lines_end, lines_last, lines_step, on_any_err, written_step}
use Rattle.site_http.proofs.site_pages.SitePagesPages.carry_out.Goals.{then-not-is_empty+in_ok-reply_to-2, else-not-is_empty}
use Rattle.site_http.proofs.site_pages.SitePagesPages.carry_out.Goals as goal

pub loop-end-init : goal.loop-end-init
loop-end-init g c = record {
  done = [];
  follows = Follows-nil g.C.Commands c.args.self.now;
  whole = refl;
  bytes = search rules;
  sound = c.new-replies.ensures.sound;
}

pub loop-end-smaller : goal.loop-end-smaller
loop-end-smaller g c = grind (arith, common_steps)

pub loop-end-preserved : goal.loop-end-preserved
loop-end-preserved g c =
    let i = c.loop-end.invariant in
    let one = c.in_ok-reply_to.ensures in
    let rest = c.loop-end.rest.now in
    let end = c.in-Some.end in
    record {
      done = _;
      follows = Follows-then g.C.Commands i.done _ c.args.self.now c.loop-end.self c.reply_to.new.self i.follows one.follows.1;
      whole = simp take_rest (lines_step c.args.lines.now rest i.done end one.follows.0 c.in-Some.ensures i.whole);
      bytes = written_step i.done (take end rest) one.follows.0 _ _ i.bytes one.follows.2;
      sound = one.sound;
    }

-- no memory for a reply
pub returns-in_err-reply_to-clause-err : goal.returns-in_err-reply_to-clause-err
returns-in_err-reply_to-clause-err g c =
    let i = c.loop-end.invariant in
    let one = c.reply_to.ensures.follows in
    let rest = c.loop-end.rest.now in
    let end = c.in-Some.end in
    on_any_err c.from_residual.result (record {
      replied = _;
      further = lines_of (drop 1 (drop end rest));
      follows = Follows-then g.C.Commands i.done _ c.args.self.now c.loop-end.self c.reply_to.new.self i.follows one.1;
      first = lines_step c.args.lines.now rest i.done end one.0 c.in-Some.ensures i.whole;
    })

pub returns-in_err-reply_to-clause-sound : goal.returns-in_err-reply_to-clause-sound
returns-in_err-reply_to-clause-sound g c = λ sound.
    ap g.J.Journal.has_failed (c.reply_to.ensures.follows.1.journal ∙ c.loop-end.invariant.follows.journal) ∙ sound

pub returns-in_err-reply_to-2-clause-err : goal.returns-in_err-reply_to-2-clause-err
returns-in_err-reply_to-2-clause-err g c =
    let i = c.loop-end.invariant in
    let one = c.reply_to-then-not-is_empty.ensures.follows in
    let rest = c.loop-end.rest.now in
    let none = no_newline_found rest c.memchr.result c.memchr.ensures c.in_default.not-Some in
    let some : 0 < length rest = some_of _ (sym c.is_empty.ensures ∙ c.if-not-is_empty.true) in
    on_any_err c.from_residual-in_err-reply_to-2.result (record {
      replied = _;
      further = [];
      follows = Follows-then g.C.Commands i.done _ c.args.self.now c.loop-end.self c.reply_to-then-not-is_empty.new.self i.follows one.1;
      first = lines_last c.args.lines.now rest i.done one.0 none some i.whole ∙ sym (append-nil _);
    })

pub returns-in_err-reply_to-2-clause-sound : goal.returns-in_err-reply_to-2-clause-sound
returns-in_err-reply_to-2-clause-sound g c = λ sound.
    ap g.J.Journal.has_failed (c.reply_to-then-not-is_empty.ensures.follows.1.journal ∙ c.loop-end.invariant.follows.journal) ∙ sound

pub returns-clause-ok : goal.returns-clause-ok
returns-clause-ok g c =
    let i = c.loop-end.invariant in
    let rest = c.loop-end.rest.now in
    let none = no_newline_found rest c.memchr.result c.memchr.ensures c.in_default.not-Some in
    elim c.if-not-is_empty.branch [
      | then-not-is_empty+in_ok-reply_to-2 w ↦
          let one = w.in_ok-reply_to-2.ensures in
          let some : 0 < length rest = some_of _ (sym c.is_empty.ensures ∙ w.if-not-is_empty.true) in
          rw w.self-is (record {
            replied = _;
            follows = Follows-then g.C.Commands i.done _ c.args.self.now c.loop-end.self w.reply_to-then-not-is_empty.new.self i.follows one.follows.1;
            whole = lines_last c.args.lines.now rest i.done one.follows.0 none some i.whole;
            bytes = written_step i.done rest one.follows.0 _ _ i.bytes (search rules);
          })
      | else-not-is_empty w ↦
          let empty : length rest ≡ 0 = eqb-true _ _ (sym c.is_empty.ensures ∙ w.if-not-is_empty.false) in
          rw w.self-is (record {
            replied = i.done;
            follows = i.follows;
            whole = lines_end c.args.lines.now rest i.done empty i.whole;
            bytes = search rules;
          })
    ]

pub returns-clause-sound : goal.returns-clause-sound
returns-clause-sound g c = λ sound. elim c.if-not-is_empty.branch [
  | then-not-is_empty+in_ok-reply_to-2 w ↦ rw w.self-is
      (ap g.J.Journal.has_failed (w.reply_to-then-not-is_empty.ensures.follows.1.journal ∙ c.loop-end.invariant.follows.journal) ∙ sound)
  | else-not-is_empty w ↦ rw w.self-is (ap g.J.Journal.has_failed c.loop-end.invariant.follows.journal ∙ sound)
]
