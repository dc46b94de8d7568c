-- Where a match lies: from its place on, within the text.
use Rattle.std.proofs.Common.{◌≡◌, ℕ, ◌+◌, ◌<◌, ◌≤◌, false, List, [], length, Option, Some, None, refl, sym, ap, ◌∙◌, subst, arith, inl, inr, take_while, drop}
use Rattle.std.specs.Prelude.{◌==◌, slice_index, nat_lt, ◌&&◌, ◌-◌, bytes_eq}
use Rattle.std.specs.List.{list_any}
use Rattle.std.proofs.lemmas.Bool.Decides.{same_from_decides}
use Rattle.std.proofs.lemmas.Slice.Eq.{bytes_eq-Decides}
use Rattle.std.proofs.lemmas.List.{get_or_past}
use Rattle.std.proofs.lemmas.Bool.{cases_lt, cond_both, false≢true}
use Rattle.std.proofs.lemmas.Option.{none-some, same_Some}
use Rattle.memchr.specs.Find.{occurs_at}
use Rattle.memchr.proofs.lemmas.MatchLemmas.{OccursAt-true}
use Rattle.shortcode_scan.specs.declared.Span.{Span}
use Rattle.shortcode_scan.specs.declared.matches.Core.{Core}
use Rattle.shortcode_scan.specs.declared.Piece.{Piece}
use Rattle.shortcode_scan.specs.declared.Piece.TheVariants.{Plain, Match}
use Rattle.plain_data.specs.Steps.{◌>>=◌, only_if}
use Rattle.plain_data.specs.NameByte.{is_name_byte}
use Rattle.plain_data.proofs.StepLemmas.{bind_some, only_if-some}
use Rattle.shortcode_scan.specs.Matches.{closing_tag, closing_from, is_doubled, core_of, without_content, with_closing, name_start, name_at, bracket_from}
use Rattle.shortcode_scan.specs.Matches.{with_extras, match_at, span}
use Rattle.shortcode_scan.specs.Live.{AreSameNames}
use Rattle.shortcode_scan.specs.Pieces.{start_of, end_of}
use Rattle.shortcode_scan.proofs.PlaceLemmas.{first_place-some, first_place-none_later}

-- a piece that is a match
abbrev IsMatch : Piece → Type 0
IsMatch (Plain s) = ⊥
IsMatch (Match _ _ _ _ _ _) = Unit {0}

-- what holds of each result of the last step holds of the whole
after_step : {A B : Type 0} (P : B → Type 0) (o : Option A) (f : A → Option B) → ((x : A) (y : B) → f x ≡ Some y → P y) → (y : B) → (o >>= f) ≡ Some y → P y
after_step P None f h y e = absurd (none-some y e)
after_step P (Some x) f h y e = h x y e

is_match : (text : List ℕ) (i : ℕ) (name : Span) (core : Core) (p : Piece) → Some (with_extras text i name core) ≡ Some p → IsMatch p
unfolding with_extras
is_match text i name core p e = subst IsMatch (same_Some _ _ e) tt

module _ (names : List (List ℕ)) (text : List ℕ) where
  -- no match begins if there is no `[`
  pub match_at-elsewhere : (i : ℕ) → (slice_index text i == 91) ≡ false → match_at names text i ≡ None
  unfolding match_at name_start
  match_at-elsewhere i e = rw e refl

  pub match_at-within : (i : ℕ) (p : Piece) → match_at names text i ≡ Some p → i < length text
  match_at-within i p e =
      elim (cases_lt i (length text)) [
        | inl lt ↦ lt
        | inr le ↦ absurd (none-some p (sym (match_at-elsewhere i (rw (get_or_past text i 0 le) refl)) ∙ e))
      ]

  -- a match is no plain piece
  pub match_at-not_plain : (i : ℕ) (s : Span) → match_at names text i ≡ Some (Plain s) → ⊥
  unfolding match_at
  match_at-not_plain i s e =
      after_step IsMatch (name_start text i) _
      (λ start. after_step IsMatch (name_at names text start) _
      (λ name. after_step IsMatch (bracket_from text (start + length name)) _ (λ r. is_match text i _ _)))
      (Plain s) e

-- from i on, and not empty, within the text
abbrev pub LiesAt : List ℕ → ℕ → Piece → Type 0
LiesAt text i p = (start_of p ≡ i) × (i < end_of p) × (end_of p ≤ length text)

-- a core ends after the first `]`, within the text
abbrev pub EndsWithin : List ℕ → ℕ → Core → Type 0
EndsWithin text r core = (r < core.end) × (core.end ≤ length text)

closing_ends : (text name : List ℕ) (e r : ℕ) (o : Option ℕ) → closing_from text name (r + 1) ≡ o → r < length text
    → EndsWithin text r (with_closing name e r o)
closing_ends text name e r None eq lt = (omega arith, omega arith)
closing_ends text name e r (Some k) eq lt =
    let h = first_place-some (occurs_at text (closing_tag name)) (r + 1) (length text) k eq in
    let there = OccursAt-true text (closing_tag name) k h.here in
    (omega (arith, h.low_le), there.fits)

pub core_ends : (text name : List ℕ) (e r : ℕ) → r < length text → EndsWithin text r (core_of text name e r)
unfolding core_of
core_ends text name e r lt =
    cond_both (nat_lt e r && slice_index text (r - 1) == 47) (without_content (span e (r - 1)) (r + 1)) (with_closing name e r (closing_from text name (r + 1)))
    (EndsWithin text r) (λ _. (omega arith, omega arith)) (λ _. closing_ends text name e r _ refl lt)

with_extras-lies : (text : List ℕ) (i : ℕ) (name : Span) (core : Core) → i < core.end → core.end ≤ length text → LiesAt text i (with_extras text i name core)
unfolding with_extras
with_extras-lies text i name core lt le = (
  refl,
  cond_both (slice_index text core.end == 93) (core.end + 1) core.end (λ n. i < n) (λ _. omega arith) (λ _. lt),
  cond_both (slice_index text core.end == 93) (core.end + 1) core.end (λ n. n ≤ length text)
      (λ closing. elim (cases_lt core.end (length text)) [
        | inl inside ↦ omega arith
        | inr past ↦ absurd (false≢true (sym (rw (get_or_past text core.end 0 past) refl) ∙ closing))
      ])
      (λ _. le),
)

pub name_start-after : (text : List ℕ) (i start : ℕ) → name_start text i ≡ Some start → i < start
unfolding name_start
name_start-after text i start e =
    let begun = only_if-some (slice_index text i == 91) _ start e in
    subst (λ n. i < n) begun.1 (cond_both (is_doubled text i) (i + 2) (i + 1) (λ n. i < n) (λ _. omega arith) (λ _. omega arith))

module _ (names : List (List ℕ)) (text : List ℕ) where
  pub match_at-lies : (i : ℕ) (p : Piece) → match_at names text i ≡ Some p → LiesAt text i p
  unfolding match_at
  match_at-lies i p e =
      let a = bind_some (name_start text i) _ p e in
      let start = a.0 in
      let b = bind_some (name_at names text start) _ p a.2 in
      let name = b.0 in
      let c = bind_some (bracket_from text (start + length name)) _ p b.2 in
      let r = c.0 in
      let after = name_start-after text i start a.1 in
      let h = first_place-some (λ k. slice_index text k == 93) (start + length name) (length text) r c.1 in
      let ends = core_ends text name (start + length name) r h.below in
      subst (LiesAt text i) (same_Some _ p c.2)
      (with_extras-lies text i (span start (start + length name)) (core_of text name (start + length name) r) (omega (arith, after, h.low_le, ends.0)) ends.1)

-- no name is at a place if there are no names
name_at-unnamed : (text : List ℕ) (j : ℕ) → name_at [] text j ≡ None
unfolding name_at
name_at-unnamed text j = refl

no_step : {A B : Type 0} (o : Option A) (f : A → Option B) → ((x : A) → f x ≡ None) → (o >>= f) ≡ None
no_step None f h = refl
no_step (Some x) f h = h x

pub match_at-unnamed : (text : List ℕ) (i : ℕ) → match_at [] text i ≡ None
unfolding match_at
match_at-unnamed text i = no_step (name_start text i) _ (λ start. rw (name_at-unnamed text start) refl)

module _ (names : List (List ℕ)) (text : List ℕ) where
  -- no match begins if no `]` follows
  pub match_at-unended : (first i : ℕ) → first ≤ i → bracket_from text first ≡ None → (o : Option Piece) → match_at names text i ≡ o → o ≡ None
  unfolding match_at
  match_at-unended first i le none None e = refl
  match_at-unended first i le none (Some p) e =
      let a = bind_some (name_start text i) _ p e in
      let b = bind_some (name_at names text a.0) _ p a.2 in
      let c = bind_some (bracket_from text (a.0 + length b.0)) _ p b.2 in
      let after = name_start-after text i a.0 a.1 in
      absurd (none-some c.0 (sym (first_place-none_later (λ k. slice_index text k == 93) first (a.0 + length b.0) (length text) (omega (arith, after)) none)
      ∙ c.1))

bytes_eq-swap : (a b : List ℕ) → bytes_eq a b ≡ bytes_eq b a
bytes_eq-swap a b =
    let there = bytes_eq-Decides a b in
    let back = bytes_eq-Decides b a in
    same_from_decides (bytes_eq a b) (bytes_eq b a) there (λ e. sym (back.0 e), λ e. back.1 (sym e))

-- the same names match alike
module _ (names others : List (List ℕ)) (text : List ℕ) (same : AreSameNames names others) where
  name_at-alike : (j : ℕ) → name_at names text j ≡ name_at others text j
  unfolding name_at
  name_at-alike j =
      let run = take_while is_name_byte (drop j text) in
      let test : (λ (n : List ℕ). bytes_eq n run) ≡ bytes_eq run = λ k n. bytes_eq-swap n run k in
      ap (λ b. only_if b run) (ap (λ t. list_any t names) test ∙ same run ∙ sym (ap (λ t. list_any t others) test))

  pub match_at-alike : (i : ℕ) → match_at names text i ≡ match_at others text i
  unfolding match_at
  match_at-alike i = simp name_at-alike
