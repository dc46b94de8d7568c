use Rattle.std.proofs.Common.{◌≡◌, ◌<◌, ◌∷◌, ◌++◌, ◌+◌, [], ℕ, List, inr, length, map, take, sym, ap, subst, ◌∙◌}
use Rattle.std.proofs.lemmas.List.{take_more, take-map, length-map}
use Rattle.std.specs.String.{string_bytes}
use Rattle.sha2.specs.Sha256.{sha256}
use Rattle.command_log.specs.Digests.{digest_after}
use Rattle.command_log.proofs.Digests.{after_more}
use Rattle.command_log.specs.Lines.{Puts, PutsAny, rows_of}
use Rattle.command_log.specs.Faults.{Unstorable}
use Rattle.command_log.proofs.Numbers.{map_last}
use Rattle.command_log.proofs.States.{puts_more, puts_open, more_stops, contains_at}
use Rattle.command_log.proofs.Ending.{stays_inside, then_ok, then_err, passed_on}
use Rattle.command_log.proofs.lines.put_lines.Goals as goal

pub put_line-requires : goal.put_line-requires
put_line-requires g c =
    stays_inside g.S.Store g.met.S.Store.shut_if_dirty c.args.tx.now c.loop-line.tx c.args.digest.now _ (tt {0}) c.requires c.loop-line.invariant.puts

pub loop-line-preserved : goal.loop-line-preserved
loop-line-preserved g c =
    let first = c.args.tx.now in
    let mid = c.loop-line.tx in
    let new = c.put_line.new.tx in
    let begun = c.args.digest.now in
    let i = c.loop-line.line-index in
    let lines = c.args.lines.now in
    let line = c.line-item.result in
    let taken : take (i + 1) lines ≡ take i lines ++ line ∷ [] = take_more lines i line c.loop-line-test.true
    ∙ ap (λ x. take i lines ++ x ∷ []) (sym c.line-item.is) in
    let texts : map string_bytes (take (i + 1) lines) ≡ map string_bytes (take i lines) ++ string_bytes line ∷ [] = ap (map string_bytes) taken
    ∙ map_last string_bytes (take i lines) line in
    record {
      puts = then_ok g.S.Store first mid new (tt {0}) c.in_ok-put_line.field-0 (tt {0}) c.loop-line.invariant.puts c.in_ok-put_line.ensures.puts
          (λ before one.
          let last = subst (λ t. Puts g.S.Store mid.conn.now new.conn.now c.loop-line.digest (t ∷ [])) c.as_str.ensures.value one in
          let at = subst (λ (d : List ℕ). Puts g.S.Store mid.conn.now new.conn.now d (string_bytes line ∷ [])) c.loop-line.invariant.digest last in
          inr (subst (Puts g.S.Store first.conn.now new.conn.now begun) (sym texts) (puts_more g.S.Store first.conn.now mid.conn.now new.conn.now begun
          (map string_bytes (take i lines)) (string_bytes line) before at)));
      digest = c.in_ok-put_line.ensures.digest
          ∙ ap (λ t. sha256 (c.loop-line.digest ++ t)) c.as_str.ensures.value
          ∙ ap (λ (d : List ℕ). sha256 (d ++ string_bytes line)) c.loop-line.invariant.digest
          ∙ sym (after_more begun (map string_bytes (take i lines)) (string_bytes line)) ∙ ap (digest_after begun) (sym texts);
    }

pub returns-in_err-put_line-clause-puts : goal.returns-in_err-put_line-clause-puts
returns-in_err-put_line-clause-puts g c =
    let first = c.args.tx.now in
    let mid = c.loop-line.tx in
    let new = c.put_line.new.tx in
    let begun = c.args.digest.now in
    let i = c.loop-line.line-index in
    let lines = map string_bytes c.args.lines.now in
    let line = c.line-item.result in
    let low : i < length lines = subst (λ n. i < n) (sym (length-map c.args.lines.now string_bytes)) c.loop-line-test.true in
    let there = contains_at c.args.lines.now string_bytes i line c.loop-line-test.true c.line-item.is in
    let e = c.in_err-put_line.field-0.0 in
    passed_on g.S.Store first new e
    (then_err g.S.Store first mid new (tt {0}) e c.loop-line.invariant.puts c.in_err-put_line.ensures.puts
    (puts_open g.S.Store first.conn.now mid.conn.now begun _)
    (λ before f stops.
    more_stops g.S.Store first.conn.now mid.conn.now begun lines i low (string_bytes line) there
    (subst (PutsAny g.S.Store first.conn.now mid.conn.now begun) (sym (take-map string_bytes i c.args.lines.now)) before) f
    (subst (λ t. Unstorable (rows_of g.S.Store mid.conn.now) (t ∷ []) f) c.as_str.ensures.value stops)))
    (λ f h. h) c.from_residual.result c.from_residual.ensures.1
