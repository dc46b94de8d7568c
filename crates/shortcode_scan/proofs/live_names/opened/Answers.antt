use Rattle.std.proofs.Common.{◌≡◌, ◌+◌, ◌≤◌, length, Some, None, sym, arith, rules}
use Rattle.std.specs.Prelude.{◌==◌, slice_index}
use Rattle.std.proofs.lemmas.Bool.{eqb-true}
use Rattle.shortcode_scan.specs.Places.{first_place}
use Rattle.shortcode_scan.proofs.PlaceLemmas.{first_place-some, first_place-none_is}
use Rattle.shortcode_scan.proofs.OpenedLemmas.{AreOpenedBefore-none, AreOpenedBefore-skip, AreOpenedBefore-more}
use Rattle.shortcode_scan.proofs.live_names.opened.Goals as goal
use Rattle.shortcode_scan.proofs.live_names.opened.Goals.{in-Some-name_opened+in_ok-insert, in_default-name_opened}

pub name_opened-requires-clause-bracket : goal.name_opened-requires-clause-bracket
name_opened-requires-clause-bracket c =
    let text = c.args.text.now in
    let at = c.in-Some.open in
    let first : first_place (λ k. slice_index text k == 91) c.search.at (length text) ≡ Some at = search rules in
    eqb-true (slice_index text at) 91 (first_place-some (λ k. slice_index text k == 91) c.search.at (length text) at first).here

pub search-preserved : goal.search-preserved
search-preserved c =
    let text = c.args.text.now in
    let at = c.in-Some.open in
    let found : first_place (λ k. slice_index text k == 91) c.search.at (length text) ≡ Some at = search rules in
    let first = first_place-some (λ k. slice_index text k == 91) c.search.at (length text) at found in
    let before = AreOpenedBefore-none text c.search.names.keys c.search.at at c.search.invariant.1 first.before in
    let within : at + 1 ≤ length text = omega (arith, first.below) in
    elim c.match-name_opened.branch [
      | in-Some-name_opened+in_ok-insert w ↦ (
        within,
        rw (w.names-is, w.in_ok-insert.ensures.keys)
            (AreOpenedBefore-more text c.search.names.keys at w.in-Some-name_opened.name before first.below (eqb-true _ _ first.here)
            (sym w.in-Some-name_opened.ensures)),
      )
      | in_default-name_opened w ↦ (within, rw w.names-is (AreOpenedBefore-skip text c.search.names.keys at before (sym w.in_default-name_opened.ensures)))
    ]

pub returns : goal.returns
returns c =
    let text = c.args.text.now in
    let none : first_place (λ k. slice_index text k == 91) c.search.at (length text) ≡ None = search rules in
    AreOpenedBefore-none text c.search.names.keys c.search.at (length text) c.search.invariant.1
    (first_place-none_is (λ k. slice_index text k == 91) c.search.at (length text) none)
