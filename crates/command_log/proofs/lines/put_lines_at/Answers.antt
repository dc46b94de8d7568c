use Rattle.std.proofs.Common.{◌≡◌, [], ◌∷◌, ◌++◌, ℕ, ℤ, List, inr, w64, to_z, of_z, length, map, ap, sym, subst, subst₂, ◌∙◌}
use Rattle.std.proofs.lemmas.List.{length-map}
use Rattle.std.proofs.lemmas.Int.{to_z-of_z}
use Rattle.std.specs.String.{string_bytes}
use Rattle.sha2.specs.Sha256.{sha256}
use Rattle.command_log.specs.Lines.{HasRoom, PutsAt, PutsAny}
use Rattle.command_log.specs.Faults.{Unstorable}
use Rattle.command_log.proofs.States.{clean_of, first_and_rest, first_stops, rest_of, puts_rest, rest_stops}
use Rattle.command_log.proofs.Ending.{then_any, passed_on}
use Rattle.command_log.proofs.lines.put_lines_at.Goals as goal

pub put_lines-requires : goal.put_lines-requires
put_lines-requires g c = record {
  inside = λ clean. (c.in_ok-put_line_at.ensures.puts.does clean).inside;
  holds = λ up. (c.in_ok-put_line_at.ensures.puts.does (clean_of g.S.Store g.met.S.Store.shut_if_dirty c.put_line_at.new.tx.conn.now up)).holds;
}

pub returns-in_err-put_line_at-clause-puts : goal.returns-in_err-put_line_at-clause-puts
returns-in_err-put_line_at-clause-puts g c =
    let lines = c.args.lines.now in
    let item = c.first-item.result in
    let rest = map string_bytes (rest_of lines) in
    let are : map string_bytes lines ≡ string_bytes item ∷ rest = first_and_rest string_bytes lines item c.in-len1-up.len_at_least c.first-item.is in
    passed_on g.S.Store c.args.tx.now c.put_line_at.new.tx c.in_err-put_line_at.field-0.0 c.in_err-put_line_at.ensures.puts
    (λ f h. subst (λ l. Unstorable [] l f) (sym are)
    (first_stops g.S.Store (string_bytes item) rest f (subst (λ (t : List ℕ). Unstorable [] (t ∷ []) f) c.as_str.ensures.value h)))
    c.from_residual.result c.from_residual.ensures.1

pub returns-clause-puts : goal.returns-clause-puts
returns-clause-puts g c =
    let first = c.args.tx.now in
    let mid = c.put_line_at.new.tx in
    let last = c.put_lines.new.tx in
    let begun = c.args.digest.now in
    let lines = c.args.lines.now in
    let item = c.first-item.result in
    let rest = map string_bytes (rest_of lines) in
    let are : map string_bytes lines ≡ string_bytes item ∷ rest = first_and_rest string_bytes lines item c.in-len1-up.len_at_least c.first-item.is in
    let number = to_z-of_z w64 c.args.number c.ranges.number in
    let after : c.put_line_at.new.digest ≡ sha256 (begun ++ string_bytes item) = c.in_ok-put_line_at.ensures.digest ∙ ap (λ (t : List ℕ). sha256 (begun ++ t)) c.as_str.ensures.value in
    let room : HasRoom c.args.number (length (string_bytes item ∷ rest)) = subst (HasRoom c.args.number) (sym (length-map lines string_bytes) ∙ ap length are) c.requires.room in
    let at : PutsAt g.S.Store (to_z w64 (of_z w64 c.args.number)) first.conn.now mid.conn.now begun (c.as_str.result.now ∷ []) → PutsAt g.S.Store c.args.number first.conn.now mid.conn.now begun (string_bytes item ∷ []) =
    (λ one. subst₂ (λ (n : ℤ) (t : List ℕ). PutsAt g.S.Store n first.conn.now mid.conn.now begun (t ∷ [])) number c.as_str.ensures.value one) in
    then_any g.S.Store first mid last c.in_ok-put_line_at.field-0 c.put_lines.result c.in_ok-put_line_at.ensures.puts c.put_lines.ensures.puts
    (λ up before. before.is_open)
    (λ one u more.
    let line = at one in
    let rested = subst (λ (d : List ℕ). PutsAny g.S.Store mid.conn.now last.conn.now d rest) after more in
    inr (subst (PutsAt g.S.Store c.args.number first.conn.now last.conn.now begun) (sym are)
    (puts_rest g.S.Store first.conn.now mid.conn.now last.conn.now c.args.number begun (string_bytes item) rest line rested)))
    (λ one f h. subst (λ l. Unstorable [] l f) (sym are)
    (rest_stops g.S.Store first.conn.now mid.conn.now c.args.number begun (string_bytes item) rest room (at one) f h))
