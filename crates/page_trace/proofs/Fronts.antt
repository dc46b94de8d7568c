-- The first bytes of a text, cut between two characters.
use Rattle.std.proofs.Common.{◌≡◌, ◌≤◌, ◌<◌, inl, inr, ℕ, zero, suc, true, false, List, length, take, cond, refl, sym, ap, subst, ◌∙◌, arith}
use Rattle.std.specs.Str.{IsCharBoundary}
use Rattle.std.specs.Fmt.{is_char_start}
use Rattle.std.specs.Fmt.Cut.{floor_char_boundary}
use Rattle.std.proofs.lemmas.Bool.{lt-ltb, le-ltb, le-leb, lt-leb, cases_lt}
use Rattle.std.proofs.lemmas.List.{get_or_past, take_all}
use Rattle.page_trace.specs.Line.{front}

-- the last place between two characters, up to a place
abbrev IsLast : List ℕ → ℕ → ℕ → Type 0
IsLast text i kept = (kept ≤ i) × IsCharBoundary text kept × ((j : ℕ) → kept < j → j ≤ i → ¬ (IsCharBoundary text j))

starts : (b : ℕ) → (128 ≤ b → 192 ≤ b) → is_char_start b ≡ true
starts b h =
    elim (cases_lt b 128) [
      | inl low ↦ rw (lt-ltb b 128 low) refl
      | inr high ↦ rw (le-ltb b 128 high, le-leb 192 b (h high)) refl
    ]

continues : (b : ℕ) → ¬ (128 ≤ b → 192 ≤ b) → is_char_start b ≡ false
continues b h =
    elim (cases_lt b 128) [
      | inl low ↦ absurd (h (λ high. absurd (omega arith)))
      | inr high ↦ elim (cases_lt b 192) [ inl mid ↦ rw (le-ltb b 128 high, lt-leb 192 b mid) refl | inr top ↦ absurd (h (λ _. top)) ]
    ]

cut_is : (text : List ℕ) (i kept : ℕ) → i < length text → IsLast text i kept → floor_char_boundary text i ≡ kept
unfolding floor_char_boundary
cut_is text zero kept within last = omega (arith, last.0)
cut_is text (suc i) kept within last =
    elim (cases_lt kept (suc i)) [
      | inl below ↦ ap (λ t. cond t (suc i) (floor_char_boundary text i)) (continues _ (λ h. last.2 (suc i) below (omega arith) (omega arith, λ _. h)))
          ∙ cut_is text i kept (omega arith) (omega arith, last.1, λ j p q. last.2 j p (omega arith))
      | inr above ↦ let same : kept ≡ suc i = omega (arith, last.0) in
          ap (λ t. cond t (suc i) (floor_char_boundary text i)) (starts _ ((subst (IsCharBoundary text) same last.1).1 within)) ∙ sym same
    ]

-- a text that ends before a place is cut there
past : (text : List ℕ) (i : ℕ) → length text ≤ suc i → floor_char_boundary text (suc i) ≡ suc i
unfolding floor_char_boundary
past text i h = ap (λ b. cond (is_char_start b) (suc i) (floor_char_boundary text i)) (get_or_past text (suc i) 0 h)

whole : (text : List ℕ) (i kept : ℕ) → length text ≤ suc i → IsLast text (suc i) kept → take kept text ≡ take (floor_char_boundary text (suc i)) text
whole text i kept h last =
    elim (cases_lt kept (length text)) [
      | inl below ↦ absurd (last.2 (length text) below h (omega arith, λ b. absurd (omega arith)))
      | inr all ↦ take_all kept text all ∙ sym (ap (λ n. take n text) (past text i h) ∙ take_all (suc i) text h)
    ]

pub front_is : (text : List ℕ) (kept : ℕ) → kept ≤ 200 → IsCharBoundary text kept → ((j : ℕ) → kept < j → j ≤ 200 → ¬ (IsCharBoundary text j))
    → take kept text ≡ front text
unfolding front
front_is text kept low boundary last =
    elim (cases_lt 200 (length text)) [
      | inl long ↦ ap (λ n. take n text) (sym (cut_is text 200 kept long (low, boundary, last)))
      | inr short ↦ whole text 199 kept short (low, boundary, last)
    ]
