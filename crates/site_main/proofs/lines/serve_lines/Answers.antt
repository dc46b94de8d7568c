use Rattle.std.proofs.Common.{◌≡◌, ◌∙◌, ◌++◌, ℕ, List, Some, ap, subst, subst₂}
use Rattle.std.specs.Prelude.{IfSome, OnOk}
use Rattle.std.specs.Result.{MatchResult}
use Rattle.callback_store.specs.Shape.{shapes_of}
use Rattle.command_log.specs.Found.{FindsOnlySuch, store_of}
use Rattle.site_program.specs.History.{is_kept}
use Rattle.site_program.specs.Serving.{IsReplies}
use Rattle.site_program.specs.Site.{setup_of, state_of}
use Rattle.site_program.specs.State.{State}
use Rattle.site_program.specs.Step.{IsReply, steps_of}
use Rattle.site_serving.specs.Lines.{lines_of}
use Rattle.site_start.specs.Identity.{identity_line}
use Rattle.site_start.specs.Started.{IsLeftBy}
use Rattle.site_tasks.specs.Lasting.{Lasts}
use Rattle.sqlite.specs.WalFiles.{image_at}
use Rattle.site_main.proofs.Telling.{served_from, steps_are, told}
use Rattle.site_main.proofs.lines.serve_lines.Goals as goal

pub returns-in_default-clause-replied : goal.returns-in_default-clause-replied
returns-in_default-clause-replied g c =
    let says = g.S.Stated.says in
    let number = g.S.Stated.number in
    let made = c.in_ok-site.ensures in
    let kept = c.in_ok-site-2.site in
    let steps = steps_are says number c.args.plugins.now c.args.limits.calls kept c.in_ok-site.site c.in_ok-site-2.ensures made.engine made.calls in
    let empty = ap (state_of says number) c.in_ok-site-2.ensures ∙ made.empty in
    subst₂ (λ s x. OnOk c.serve-result.result (IfSome (g.R.Source.remaining c.args.reader) (λ input. IfSome (g.W.Sink.contents c.args.sink) (λ before.
    (out : List ℕ) × (last : State) × IsReplies s x (lines_of input) out last × (g.W.Sink.contents c.serve-result.new.writer ≡ Some (before ++ out))))))
    steps empty (told (IsReply (steps_of says number (setup_of kept))) (state_of says number kept) _ _ _ _ _ c.serve-result.ensures.replied)

pub returns-in_default-clause-served : goal.returns-in_default-clause-served
returns-in_default-clause-served g c =
    let says = g.S.Stated.says in
    let number = g.S.Stated.number in
    let made = c.in_ok-site.ensures in
    let kept = c.in_ok-site-2.site in
    let steps = steps_are says number c.args.plugins.now c.args.limits.calls kept c.in_ok-site.site c.in_ok-site-2.ensures made.engine made.calls in
    let empty = ap (state_of says number) c.in_ok-site-2.ensures ∙ made.empty in
    let serve = c.serve-result.ensures in
    served_from _ _ _ _ _ _ _ _ _ _ _ _ steps empty (record {
      ok = serve.ok;
      stopped = serve.stopped;
      read = serve.read;
      write = serve.write;
      kept = serve.kept;
      settled = serve.settled;
      front = serve.front;
      ahead = serve.ahead;
      limit = ap (λ f. f.limit) serve.fixed;
    })

pub returns-clause-lasts : goal.returns-clause-lasts
returns-clause-lasts g c =
    let says = g.S.Stated.says in
    let number = g.S.Stated.number in
    let made = c.in_ok-site.ensures in
    let kept = c.in_ok-site-2.site in
    let files = store_of c.in_ok-left.files in
    let image = image_at g.F.Start in
    let input = g.R.Source.remaining c.args.reader in
    let before = g.W.Sink.contents c.args.sink in
    let served = c.in_ok-left-2.field-0 in
    let identity = c.as_str.result.now in
    let steps = steps_are says number c.args.plugins.now c.args.limits.calls kept c.in_ok-site.site c.in_ok-site-2.ensures made.engine made.calls in
    let empty = ap (state_of says number) c.in_ok-site-2.ensures ∙ made.empty in
    λ clean.
    let left = subst (λ it. FindsOnlySuch files (λ lines. MatchResult it
    (λ s. Lasts (steps_of says number (setup_of kept)) (IsReply (steps_of says number (setup_of kept))) is_kept image identity (state_of says number kept)
    (state_of says number s.site) input before (g.W.Sink.contents s.sink) s.result lines)
    (λ fault. IsLeftBy image identity lines))) c.in_ok-left-2.was (c.in_ok-left.ensures clean) in
    let named = subst (λ line. FindsOnlySuch files (Lasts (steps_of says number (setup_of kept)) (IsReply (steps_of says number (setup_of kept))) is_kept image line
    (state_of says number kept) (state_of says number served.site) input before (g.W.Sink.contents served.sink) served.result))
    (c.as_str.ensures.value ∙ c.in_ok-identity.ensures) left in
    subst₂ (λ s x. FindsOnlySuch files (Lasts s (IsReply s) is_kept image (identity_line (shapes_of number c.args.plugins.now)) x (state_of says number served.site)
    input before (g.W.Sink.contents served.sink) served.result)) steps empty named
