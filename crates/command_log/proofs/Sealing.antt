-- The rows that were tested, and those that follow.
use Rattle.std.proofs.Common.{◌≡◌, ◌≢◌, ℕ, ℤ, Option, Some, zero, suc, ◌<◌, ◌+◌, List, [], ◌∷◌, ◌++◌, length, map, take, drop, get_or, refl, sym, ap, subst, ◌∙◌, arith, append-nil}
use Rattle.std.proofs.Common.{length-append}
use Rattle.std.proofs.lemmas.List.{append_assoc, map-append, take-append-drop, take-map, length-map, length-take-le, take_more, get_or-map, get_or-append-add}
use Rattle.std.proofs.lemmas.List.{get_or_append_left, get_or_default, take-append-le}
use Rattle.std.proofs.Math.Seq.{take-append-add, take-length}
use Rattle.sha2.specs.Sha256.{sha256}
use Rattle.command_log.specs.Digests.{digest_after, digest_of, digests_after, digests_of}
use Rattle.command_log.proofs.Digests.{after_both, after_more, digests_more}
use Rattle.sqlite.specs.Order.{Row}
use Rattle.sqlite_value.specs.Order.{column}
use Rattle.sqlite_rules.specs.Edit.{id_in}
use Rattle.command_log.specs.declared.testing.Tested.{Tested}
use Rattle.command_log.specs.Faults.{IsAltered}
use Rattle.command_log.specs.Lines.{AreSealed, IsRising, digest_in, line_in, place_after, row_of_query, rows_after, sum_in, text_in}
use Rattle.command_log.specs.Testing.{IsTested, Misses, Tests}
use Rattle.command_log.proofs.Batches.{left_rows, sums_of, texts_of}

-- sealed rows, and rows with the digests that follow
sealed_more : (front more : List Row) → AreSealed front → map digest_in more ≡ digests_after (digest_of (map line_in front)) (map line_in more)
    → AreSealed (front ++ more)
sealed_more front more sealed fit =
    map-append digest_in front more ∙ ap (λ ds. ds ++ map digest_in more) sealed ∙ ap (λ ds. digests_of (map line_in front) ++ ds) fit
    ∙ sym (digests_more (sha256 []) (map line_in front) (map line_in more)) ∙ ap digests_of (sym (map-append line_in front more))

module _ (rows : List Row) (up : IsRising rows) (old : Tested) (n : ℕ) (shown : List Row)
    (is : shown ≡ take n (map row_of_query (rows_after old.place rows))) (tested : IsTested rows old) where
  abbrev rest : List Row
  rest = rows_after old.place rows

  abbrev kept : List Row
  kept = take n rest

  shown_are : shown ≡ map row_of_query kept
  shown_are = is ∙ take-map row_of_query n rest

  split : rows ≡ tested.front ++ (kept ++ drop n rest)
  split = tested.are ∙ ap (λ l. tested.front ++ l) (sym (take-append-drop n rest))

  lines_are : (k : ℕ) → map text_in (take k shown) ≡ map line_in (take k kept)
  lines_are k = ap (λ l. map text_in (take k l)) shown_are ∙ ap (map text_in) (take-map row_of_query k kept) ∙ texts_of (take k kept)

  sums_are : (k : ℕ) → map sum_in (take k shown) ≡ map digest_in (take k kept)
  sums_are k = ap (λ l. map sum_in (take k l)) shown_are ∙ ap (map sum_in) (take-map row_of_query k kept) ∙ sums_of (take k kept)

  fits : (k : ℕ) → map sum_in (take k shown) ≡ digests_after old.digest (map text_in (take k shown)) → AreSealed (tested.front ++ take k kept)
  fits k fit =
      sealed_more tested.front (take k kept) tested.sealed
      (sym (sums_are k) ∙ fit ∙ ap (digests_after old.digest) (lines_are k)
      ∙ ap (λ (d : List ℕ). digests_after d (map line_in (take k kept))) tested.digest)

  -- the digest after more of them
  digest_at : (k : ℕ) → digest_after old.digest (map text_in (take k shown)) ≡ digest_of (map line_in (tested.front ++ take k kept))
  digest_at k =
      ap (digest_after old.digest) (lines_are k) ∙ ap (λ (d : List ℕ). digest_after d (map line_in (take k kept))) tested.digest
      ∙ sym (after_both (sha256 []) (map line_in tested.front) (map line_in (take k kept))) ∙ ap digest_of (sym (map-append line_in tested.front (take k kept)))

  pub go_on : (new : Tested) → Tests old shown new → IsTested rows new
  go_on new tests =
      let all : take (length shown) shown ≡ shown = take-length shown in
      let long : length shown ≡ length kept = ap length shown_are ∙ length-map kept row_of_query in
      let whole : take (length shown) kept ≡ kept = ap (λ k. take k kept) long ∙ take-length kept in
      record {
        front = tested.front ++ kept;
        are = split ∙ sym (append_assoc tested.front kept (drop n rest)) ∙ ap (λ l. (tested.front ++ kept) ++ l)
            (sym (left_rows old.place rows up n) ∙ ap (λ q. rows_after q rows) (ap (place_after old.place) (sym is) ∙ sym tests.place));
        sealed = subst (λ l. AreSealed (tested.front ++ l)) whole (fits (length shown) (ap (map sum_in) all ∙ tests.fit
            ∙ ap (λ l. digests_after old.digest (map text_in l)) (sym all)));
        digest = tests.digest ∙ ap (λ l. digest_after old.digest (map text_in l)) (sym all) ∙ digest_at (length shown)
            ∙ ap (λ l. digest_of (map line_in (tested.front ++ l))) whole;
        count = tests.count ∙ ap (λ k. k + length shown) tested.count ∙ ap (λ k. length tested.front + k) long ∙ sym (length-append tested.front kept);
      }

  -- a row that misses its digest
  pub misses : (m : ℕ) → Misses old shown m → (at : ℕ) × (m ≡ at + 1) × IsAltered rows at
  misses m it =
      let at = it.at in
      let low : at < length kept = subst (λ k. at < k) (ap length shown_are ∙ length-map kept row_of_query) it.within in
      let row : Row = get_or kept at [] in
      let shows : row_of_query row ≡ it.row = sym (get_or-map row_of_query kept at [] it.row low)
      ∙ ap (λ l. get_or l at it.row) (sym shown_are) ∙ sym it.is in
      let number : m ≡ length tested.front + at + 1 = it.number ∙ ap (λ k. k + at + 1) tested.count in
      let here : (d : Row) → get_or rows (length tested.front + at) d ≡ row = λ d. ap (λ l. get_or l (length tested.front + at) d) split
      ∙ get_or-append-add tested.front (kept ++ drop n rest) at d ∙ get_or_append_left kept (drop n rest) d at low ∙ get_or_default kept at d [] low in
      let first : take (length tested.front + at) rows ≡ tested.front ++ take at kept = ap (take (length tested.front + at)) split
      ∙ take-append-add tested.front (kept ++ drop n rest) at ∙ ap (λ l. tested.front ++ l) (take-append-le at kept (drop n rest) (omega (arith, low))) in
      let long : length rows ≡ length tested.front + (length kept + length (drop n rest)) = ap length split ∙ length-append tested.front (kept ++ drop n rest)
      ∙ ap (λ k. length tested.front + k) (length-append kept (drop n rest)) in (
        length tested.front + at,
        number,
        record {
          row = row;
          within = omega (arith, low, long);
          is = sym (here row);
          before = subst AreSealed (sym first) (fits at it.before);
          differs = λ same. it.differs (ap sum_in (sym shows) ∙ same ∙ ap (λ l. sha256 (digest_of (map line_in l) ++ line_in row)) first
              ∙ ap (λ d. sha256 (d ++ line_in row)) (sym (digest_at at)) ∙ ap (λ t. sha256 (digest_after old.digest (map text_in (take at shown)) ++ t))
              (ap text_in shows));
        },
      )

-- all rows were tested
pub tested_all : (rows : List Row) (t : Tested) → rows_after t.place rows ≡ [] → IsTested rows t → AreSealed rows
tested_all rows t none tested = let same : rows ≡ tested.front = tested.are ∙ ap (λ l. tested.front ++ l) none ∙ append-nil tested.front in
    subst AreSealed (sym same) tested.sealed

pub last_digest : (rows : List Row) (t : Tested) → rows_after t.place rows ≡ [] → IsTested rows t → t.digest ≡ digest_of (map line_in rows)
last_digest rows t none tested = let same : rows ≡ tested.front = tested.are ∙ ap (λ l. tested.front ++ l) none ∙ append-nil tested.front in
    tested.digest ∙ ap (λ l. digest_of (map line_in l)) (sym same)

-- one more row of a query
pub tests_more : (old mid new : Tested) (shown : List Row) (r : Row) → Tests old shown mid → sum_in r ≡ sha256 (mid.digest ++ text_in r)
    → new.digest ≡ sha256 (mid.digest ++ text_in r) → new.place ≡ Some (id_in (column r 0)) → new.lines ≡ mid.lines + 1
    → Tests old (shown ++ r ∷ []) new
tests_more old mid new shown r tests fit digest place count = record {
  fit = map-append sum_in shown (r ∷ []) ∙ ap (λ ds. ds ++ sum_in r ∷ []) tests.fit
      ∙ ap (λ d. digests_after old.digest (map text_in shown) ++ d ∷ []) (fit ∙ ap (λ (d : List ℕ). sha256 (d ++ text_in r)) tests.digest)
      ∙ sym (digests_more old.digest (map text_in shown) (text_in r ∷ [])) ∙ ap (digests_after old.digest) (sym (map-append text_in shown (r ∷ [])));
  digest = digest ∙ ap (λ (d : List ℕ). sha256 (d ++ text_in r)) tests.digest ∙ sym (after_more old.digest (map text_in shown) (text_in r))
      ∙ ap (digest_after old.digest) (sym (map-append text_in shown (r ∷ [])));
  place = place ∙ sym (last_place old.place shown);
  count = count ∙ ap (λ k. k + 1) tests.count ∙ omega (arith, length-append shown (r ∷ []));
}
  where
    last_place : (before : Option ℤ) (xs : List Row) → place_after before (xs ++ r ∷ []) ≡ Some (id_in (column r 0))
    last_place before [] = refl
    last_place before (x ∷ xs) = last_place (Some (id_in (column x 0))) xs

pub tests_next : (old mid new : Tested) (rows : List Row) (i : ℕ) (r : Row) → i < length rows → r ≡ get_or rows i r → Tests old (take i rows) mid
    → sum_in r ≡ sha256 (mid.digest ++ text_in r) → new.digest ≡ sha256 (mid.digest ++ text_in r) → new.place ≡ Some (id_in (column r 0))
    → new.lines ≡ mid.lines + 1 → Tests old (take (i + 1) rows) new
tests_next old mid new rows i r low is tests fit digest place count =
    subst (λ l. Tests old l new) (sym (take_more rows i r low ∙ ap (λ x. take i rows ++ x ∷ []) (sym is)))
    (tests_more old mid new (take i rows) r tests fit digest place count)
