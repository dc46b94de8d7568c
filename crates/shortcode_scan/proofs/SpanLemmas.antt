-- Each span of a piece lies between two characters of the text.
use Rattle.std.proofs.Common.{◌≡◌, ℕ, zero, suc, ◌+◌, ◌-◌, ◌<◌, ◌≤◌, Bool, true, false, List, [], ◌∷◌, ◌++◌, length, drop, Option, Some, None, refl, sym}
use Rattle.std.proofs.Common.{ap, ◌∙◌, subst, arith, inl, inr, get_or, get_or-drop, length-append, add-zero}
use Rattle.std.specs.Prelude.{◌==◌, ◌&&◌, slice_index, take_while, nat_lt, codes, IsUtf8, IsCharBoundary, if◌then◌else◌}
use Rattle.std.specs.List.{prefix_len, AllByRecursion}
use Rattle.std.proofs.lemmas.List.{get_or_past, get_or_push}
use Rattle.std.proofs.lemmas.List.Folds.{length-prefix_len}
use Rattle.std.proofs.lemmas.Bool.{cases_lt, cases_Bool, cond-true, cond-false, cond_both, eqb-true, ltb-true, and_parts, false≢true}
use Rattle.std.proofs.lemmas.Bool.Decides.{nat_tests}
use Rattle.std.proofs.lemmas.Option.{same_Some}
use Rattle.std.proofs.lemmas.Str.{IsCharBoundary-before_ascii, IsCharBoundary-after_ascii, IsCharBoundary-end, IsCharBoundary-start}
use Rattle.memchr.specs.Find.{occurs_at}
use Rattle.memchr.proofs.lemmas.MatchLemmas.{OccursAt-true}
use Rattle.plain_data.specs.NameByte.{is_name_byte}
use Rattle.shortcode_scan.specs.declared.Span.{Span}
use Rattle.shortcode_scan.specs.declared.matches.Core.{Core}
use Rattle.shortcode_scan.specs.declared.Piece.{Piece}
use Rattle.shortcode_scan.specs.declared.Piece.TheVariants.{Plain, Match}
use Rattle.shortcode_scan.specs.Spans.{IsSpanOf, HasSpansOf, inner_span}
use Rattle.shortcode_scan.specs.Matches.{span, name_start, name_at, is_doubled, closing_tag, closing_from, bracket_from, core_of, without_content}
use Rattle.shortcode_scan.specs.Matches.{with_closing, with_extras, match_at}
use Rattle.shortcode_scan.specs.Pieces.{PiecesFrom, IsPieces, BeginsNotPlain}
use Rattle.shortcode_scan.proofs.PlaceLemmas.{first_place-some}
use Rattle.plain_data.proofs.StepLemmas.{bind_some, only_if-some}
use Rattle.shortcode_scan.proofs.MatchLemmas.{match_at-lies, core_ends, name_start-after}

name_byte_ascii : (c : ℕ) → is_name_byte c ≡ true → c < 128
name_byte_ascii c h = grind (arith, nat_tests)

first_passes : (p : ℕ → Bool) (x : ℕ) (xs : List ℕ) → 0 < prefix_len p (x ∷ xs) → p x ≡ true
first_passes p x xs lt = elim (cases_Bool (p x)) [
  | inl passes ↦ passes
  | inr fails ↦ absurd (omega (arith, lt, cond-false (p x) (1 + prefix_len p xs) 0 fails))
]

more_passes : (p : ℕ → Bool) (x : ℕ) (xs : List ℕ) (k : ℕ) → suc k < prefix_len p (x ∷ xs) → k < prefix_len p xs
more_passes p x xs k lt = elim (cases_Bool (p x)) [
  | inl passes ↦ omega (arith, lt, cond-true (p x) (1 + prefix_len p xs) 0 passes)
  | inr fails ↦ absurd (omega (arith, lt, cond-false (p x) (1 + prefix_len p xs) 0 fails))
]

run_passes : (p : ℕ → Bool) (xs : List ℕ) (k : ℕ) → k < prefix_len p xs → p (get_or xs k 0) ≡ true
run_passes p [] k lt = absurd (omega arith)
run_passes p (x ∷ xs) zero lt = first_passes p x xs lt
run_passes p (x ∷ xs) (suc k) lt = run_passes p xs k (more_passes p x xs k lt)

module _ (text : List ℕ) (utf8 : IsUtf8 text) where
  -- a byte above 0 lies in the text
  inside : (i b : ℕ) → (slice_index text i == b) ≡ true → 0 < b → i < length text
  inside i b e some =
      elim (cases_lt i (length text)) [
        | inl lt ↦ lt
        | inr past ↦ absurd (omega (arith, eqb-true (slice_index text i) b e, get_or_past text i 0 past))
      ]

  before : (i b : ℕ) → (slice_index text i == b) ≡ true → 0 < b → b < 128 → IsCharBoundary text i
  before i b e some ascii = IsCharBoundary-before_ascii text i (inside i b e some) (omega (arith, eqb-true (slice_index text i) b e))

  after : (i b : ℕ) → (slice_index text i == b) ≡ true → 0 < b → b < 128 → IsCharBoundary text (i + 1)
  after i b e some ascii = IsCharBoundary-after_ascii text i utf8 (inside i b e some) (omega (arith, eqb-true (slice_index text i) b e))

  nothing_at : (i : ℕ) → IsCharBoundary text i → IsSpanOf text (span i i)
  nothing_at i b = record { ordered = omega arith; first = b; last = b }

  -- the end of a run of name bytes
  after_name : (start : ℕ) → IsCharBoundary text start → (n : ℕ) → n ≡ prefix_len is_name_byte (drop start text) → IsCharBoundary text (start + n)
  after_name start b zero e = subst (IsCharBoundary text) (sym (add-zero start)) b
  after_name start b (suc n) e =
      let passes = run_passes is_name_byte (drop start text) n (omega (arith, e)) in
      let ascii = name_byte_ascii (get_or (drop start text) n 0) passes in
      let at : get_or (drop start text) n 0 ≡ slice_index text (start + n) = get_or-drop start text n 0 in
      let within : start + n < length text = elim (cases_lt (start + n) (length text)) [
        | inl lt ↦ lt
        | inr past ↦ absurd (false≢true (ap is_name_byte (sym (at ∙ get_or_past text (start + n) 0 past)) ∙ passes))
      ] in
      let same : start + n + 1 ≡ start + suc n = omega arith in
      subst (IsCharBoundary text) same (IsCharBoundary-after_ascii text (start + n) utf8 within (omega (arith, ascii, at)))

  -- the spans of a core
  abbrev HasCoreSpans : Core → Type 0
  HasCoreSpans core = IsSpanOf text core.atts × IsSpanOf text core.content × IsCharBoundary text core.end

  module _ (name : List ℕ) (e r : ℕ) (named : IsCharBoundary text e) (le : e ≤ r) (closing : (slice_index text r == 93) ≡ true) where
    attributes_span : IsSpanOf text (span e r)
    attributes_span = record { ordered = le; first = named; last = before r 93 closing (omega arith) (omega arith) }

    following : IsCharBoundary text (r + 1)
    following = after r 93 closing (omega arith) (omega arith)

    closing_spans : (o : Option ℕ) → closing_from text name (r + 1) ≡ o → HasCoreSpans (with_closing name e r o)
    closing_spans None eq = (attributes_span, nothing_at (r + 1) following, following)
    closing_spans (Some k) eq =
        let h = first_place-some (occurs_at text (closing_tag name)) (r + 1) (length text) k eq in
        let there = OccursAt-true text (closing_tag name) k h.here in
        let long : length (closing_tag name) ≡ length name + 3 = omega
        (arith, length-append (codes "[/") name, length-append (codes "[/" ++ name) (codes "]")) in
        let opens : slice_index text k ≡ 91 = ap (slice_index text) (sym (add-zero k)) ∙ there.reads 0 (omega (arith, long)) in
        let last : slice_index text (k + (length name + 2)) ≡ 93 =
        there.reads (length name + 2) (omega (arith, long)) ∙ get_or_push (codes "[/" ++ name) 93 0 (length name + 2)
        (omega (arith, length-append (codes "[/") name)) in
        let same : k + (length name + 2) + 1 ≡ k + length (closing_tag name) = omega (arith, long) in (
          attributes_span,
          record { ordered = h.low_le; first = following; last = before k 91 (rw opens refl) (omega arith) (omega arith) },
          subst (IsCharBoundary text) same (after (k + (length name + 2)) 93 (rw last refl) (omega arith) (omega arith)),
        )

    core_spans : HasCoreSpans (core_of text name e r)
    unfolding core_of
    core_spans =
        cond_both (nat_lt e r && slice_index text (r - 1) == 47) (without_content (span e (r - 1)) (r + 1))
        (with_closing name e r (closing_from text name (r + 1)))
        HasCoreSpans
        (λ slash.
        let parts = and_parts (nat_lt e r) (slice_index text (r - 1) == 47) slash in (
          record { ordered = omega (arith, ltb-true e r parts.0); first = named; last = before (r - 1) 47 parts.1 (omega arith) (omega arith) },
          nothing_at (r + 1) following,
          following,
        ))
        (λ _. closing_spans (closing_from text name (r + 1)) refl)

  -- without the brackets round it, if a further one closes it
  unescaped_span : (i : ℕ) (core : Core) (closing : Bool) → i < core.end → IsCharBoundary text (i + 1) → IsCharBoundary text core.end → closing ≡ true
      → IsSpanOf text (inner_span (span i (if closing then core.end + 1 else core.end)))
  unescaped_span i core true lt b last e =
      let same : core.end + 1 - 1 ≡ core.end = omega arith in
      subst (λ n. IsSpanOf text (span (i + 1) n)) (sym same) (record { ordered = omega arith; first = b; last = last })
  unescaped_span i core false lt b last e = absurd (false≢true e)

  extras_spans : (i : ℕ) (name : Span) (core : Core) → i < core.end → IsCharBoundary text i → IsCharBoundary text (i + 1) → IsSpanOf text name
      → HasCoreSpans core → HasSpansOf text (with_extras text i name core)
  unfolding with_extras
  extras_spans i name core lt b inner named h = (
    cond_both (slice_index text core.end == 93) (core.end + 1) core.end (λ n. IsSpanOf text (span i n))
        (λ closing. record { ordered = omega arith; first = b; last = after core.end 93 closing (omega arith) (omega arith) })
        (λ _. record { ordered = omega arith; first = b; last = h.2 }),
    named,
    h.0,
    h.1,
    unescaped_span i core (slice_index text core.end == 93) lt inner h.2,
  )

  after_opening : (i : ℕ) → (slice_index text i == 91) ≡ true → IsCharBoundary text (i + 1)
  after_opening i opens = after i 91 opens (omega arith) (omega arith)

  start_follows : (i : ℕ) → (slice_index text i == 91) ≡ true → IsCharBoundary text (if is_doubled text i then i + 2 else i + 1)
  start_follows i opens =
      cond_both (is_doubled text i) (i + 2) (i + 1) (IsCharBoundary text)
      (λ doubled. let same : i + 1 + 1 ≡ i + 2 = omega arith in subst (IsCharBoundary text) same (after (i + 1) 91 doubled (omega arith) (omega arith)))
      (λ _. after i 91 opens (omega arith) (omega arith))

  module _ (names : List (List ℕ)) where
    match_spans : (i : ℕ) (p : Piece) → match_at names text i ≡ Some p → HasSpansOf text p
    unfolding match_at name_start name_at
    match_spans i p e =
        let a = bind_some (name_start text i) _ p e in
        let start = a.0 in
        let b = bind_some (name_at names text start) _ p a.2 in
        let name = b.0 in
        let c = bind_some (bracket_from text (start + length name)) _ p b.2 in
        let r = c.0 in
        let begun = only_if-some (slice_index text i == 91) _ start a.1 in
        let first : IsCharBoundary text i = before i 91 begun.0 (omega arith) (omega arith) in
        let inner : IsCharBoundary text (i + 1) = after_opening i begun.0 in
        let started : IsCharBoundary text start = subst (IsCharBoundary text) begun.1 (start_follows i begun.0) in
        let run = (only_if-some _ (take_while is_name_byte (drop start text)) name b.1).1 in
        let long : length name ≡ prefix_len is_name_byte (drop start text) = ap length (sym run) ∙ length-prefix_len is_name_byte (drop start text) in
        let named : IsCharBoundary text (start + length name) = after_name start started (length name) long in
        let h = first_place-some (λ k. slice_index text k == 93) (start + length name) (length text) r c.1 in
        let core = core_of text name (start + length name) r in
        let after = name_start-after text i start a.1 in
        let ends = core_ends text name (start + length name) r h.below in
        subst (HasSpansOf text) (same_Some _ p c.2)
        (extras_spans i (span start (start + length name)) core (omega (arith, after, h.low_le, ends.0)) first inner
        (record { ordered = omega arith; first = started; last = named }) (core_spans name (start + length name) r named h.low_le h.here))

    -- a piece that follows begins between two characters
    next_boundary : (j : ℕ) (ps : List Piece) → BeginsNotPlain ps → PiecesFrom names text j ps → IsCharBoundary text j
    next_boundary j [] other h = subst (IsCharBoundary text) (sym h) (IsCharBoundary-end text)
    next_boundary j (Plain s ∷ ps) other h = absurd other
    next_boundary j (Match whole n a c o x ∷ ps) other h =
        let lies = match_at-lies names text j _ h.0 in
        subst (IsCharBoundary text) lies.0 (match_spans j _ h.0).0.first

    pub pieces_from_spans : (i : ℕ) (ps : List Piece) → IsCharBoundary text i → PiecesFrom names text i ps → AllByRecursion (HasSpansOf text) ps
    pieces_from_spans i [] b h = tt
    pieces_from_spans i (Plain s ∷ ps) b h =
        let next = next_boundary s.end ps h.3 h.4 in
        (record { ordered = omega (arith, h.0, h.1); first = subst (IsCharBoundary text) (sym h.0) b; last = next }, pieces_from_spans s.end ps next h.4)
    pieces_from_spans i (Match whole n a c o x ∷ ps) b h =
        let spans = match_spans i _ h.0 in
        (spans, pieces_from_spans whole.end ps spans.0.last h.1)

    pub pieces_spans : (ps : List Piece) → IsPieces names text ps → AllByRecursion (HasSpansOf text) ps
    pieces_spans ps h = pieces_from_spans 0 ps (IsCharBoundary-start text utf8) h
