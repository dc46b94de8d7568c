use Rattle.std.proofs.Common.{arith, ◌≡◌, ◌∙◌, ◌<◌, ◌++◌, [], ◌∷◌, List, ℕ, flat_map, length, take, refl, sym, ap, subst, append-nil}
use Rattle.std.proofs.lemmas.List.{length-drop, length-take-le}
use Rattle.http_server.specs.Connection.{history}
use Rattle.http_server.specs.History.{History}
use Rattle.http_streams.specs.Deeds.{pieces_bytes}
use Rattle.http_streams.proofs.Pieces.{after_more, front_piece, output_more, pieces_more}
use Rattle.http_streams.proofs.part.drain.Goals as goal

pub loop-connection-init : goal.loop-connection-init
loop-connection-init c = record {
  pieces = [];
  sent = sym (append-nil _);
  output = sym (append-nil _);
  received = refl;
  ended = refl;
  calls = refl;
  config = refl;
}

pub loop-connection-smaller : goal.loop-connection-smaller
loop-connection-smaller c =
    let chunk = c.output-pending.result.now in
    let pending = (history c.loop-connection.connection).pending in
    let some : 0 < length pending = c.wants_write.ensures.0 c.loop-connection-test.true in
    let first : 0 < length chunk = c.output-pending.ensures.some some in
    let fits = c.output-pending.ensures.fits in
    let m = c.min.ensures in
    let count : length (take c.min.result chunk) ≡ c.min.result = length-take-le c.min.result chunk (omega (arith, m)) in
    let left = length-drop (length (take c.min.result chunk)) pending in
    subst (λ (h : History). length h.pending < length pending) (sym c.sent.ensures.history) (omega (arith, left, count, m, some, first, fits))

pub loop-connection-preserved : goal.loop-connection-preserved
loop-connection-preserved c =
    let i = c.loop-connection.invariant in
    let is = c.sent.ensures.history in
    let old = history c.args.connection.now in
    let mid = history c.loop-connection.connection in
    let chunk = c.output-pending.result.now in
    let m = c.min.ensures in
    let piece : List ℕ = take c.min.result chunk in
    let went = front_piece c.min.result chunk mid.pending c.output-pending.ensures.front (omega (arith, m)) in
    record {
      pieces = i.pieces ++ piece ∷ [];
      sent = after_more old.sent mid.sent _ (flat_map (λ p. p) i.pieces) piece i.sent (ap (λ (h : History). h.sent) is ∙ ap (λ l. mid.sent ++ l) went)
          ∙ ap (λ l. old.sent ++ l) (sym (pieces_more i.pieces piece));
      output = after_more c.args.out.now.items c.loop-connection.out.items _ (pieces_bytes c.args.number i.pieces) _ i.output c.in_ok-push_frame.ensures.ok
          ∙ ap (λ l. c.args.out.now.items ++ l) (sym (output_more c.args.number i.pieces piece));
      received = ap (λ (h : History). h.received) is ∙ i.received;
      ended = ap (λ (h : History). h.ended) is ∙ i.ended;
      calls = ap (λ (h : History). h.calls) is ∙ i.calls;
      config = c.sent.ensures.config ∙ i.config;
    }
