use Rattle.std.proofs.Common.{◌≡◌, ◌∙◌, ℕ, List, ap, map, rules, subst, sym, true}
use Rattle.std.specs.String.{string_bytes}
use Rattle.site_start.proofs.compacting.compact.Goals as goal

pub returns-clause-short : goal.returns-clause-short
returns-clause-short g c = λ clean.
    let lines = map string_bytes c.in_ok-lines.lines.items in
    let again = map string_bytes c.in_ok-short_history.field-0.items in
    let equal : c.are_equal.result ≡ true = search rules in
    let same : again ≡ lines = ap (map string_bytes) (sym c.deref-2.ensures.value) ∙ c.are_equal.ensures.0 equal
    ∙ ap (map string_bytes) c.deref-3.ensures.value in
    let done = c.in_ok-replace.ensures in
    record {
      short = record {
        later = lines;
        are = done.ok (done.stays clean) ∙ ap (map string_bytes) c.deref-4.ensures.value ∙ c.in_ok-lines-2.ensures;
        rebuild = c.in_ok-lines.ensures.lines;
      };
      again = subst (λ x. g.C.Commands.rebuilds x lines) (sym c.in_ok-short_history.ensures.same)
          (subst (g.C.Commands.rebuilds (g.C.Commands.state c.redo_all.new.site)) same c.in_ok-short_history.ensures.lines);
    }
