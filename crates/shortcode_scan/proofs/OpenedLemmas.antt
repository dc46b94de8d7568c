-- The names that a text opens, as one walk over its `[` collects them, are those that are live.
use Rattle.std.proofs.Common.{◌≡◌, ℕ, zero, suc, ◌+◌, ◌<◌, Bool, true, false, List, [], ◌∷◌, ◌++◌, length, take, drop, Option, Some, None, refl, sym, ap}
use Rattle.std.proofs.Common.{◌∙◌, subst, arith, inl, inr, cond, get_or, length-drop, get_or-drop}
use Rattle.std.specs.Prelude.{◌==◌, ◌&&◌, slice_index, nat_lt, is_some, IsTrue, bytes_eq, ◌||◌, ◌⊎◌, if◌then◌else◌}
use Rattle.std.specs.List.{list_all, prefix_len}
use Rattle.std.specs.Borrow.{Bor}
use Rattle.std.proofs.lemmas.Bool.{false≢true, cases_Bool, cases_lt, and_parts, and_from, false_from_ne_true, cond_both, ltb-true, lt-ltb, lt-leb}
use Rattle.std.proofs.lemmas.List.{append-nil, get_or-take}
use Rattle.std.proofs.lemmas.List.Elements.{filter_more}
use Rattle.std.proofs.lemmas.List.Folds.{length-prefix_len, list_any-append}
use Rattle.std.proofs.lemmas.List.Sums.{AllPass-from_list_all, prefix_len-le-length, prefix_len_is}
use Rattle.std.proofs.lemmas.Grind.{common_steps}
use Rattle.std.proofs.lemmas.Option.{none-some, same_Some}
use Rattle.std.proofs.lemmas.Slice.Eq.{bytes_eq-Decides}
use Rattle.memchr.specs.Find.{OccursAt}
use Rattle.memchr.proofs.lemmas.MatchLemmas.{occurs_at-true, OccursAt-true}
use Rattle.plain_data.specs.Steps.{only_if}
use Rattle.plain_data.specs.NameByte.{is_name_byte}
use Rattle.plain_data.proofs.StepLemmas.{only_if-some}
use Rattle.plain_data.specs.Names.{is_tag_name}
use Rattle.shortcode_scan.specs.Places.{first_place}
use Rattle.shortcode_scan.specs.Live.{ends_name, is_name_end, opening_of, opens_at, has_opening, is_live, live}
use Rattle.shortcode_scan.specs.Opened.{name_opened, is_among, AreOpenedBefore, AreOpened}
use Rattle.shortcode_scan.proofs.PlaceLemmas.{NonePasses, first_place-none, first_place-none_is}

-- a byte that ends a name is no byte of a name
ends_is_none : (b : ℕ) → ends_name b ≡ true → is_name_byte b ≡ false
ends_is_none b e = grind (arith, common_steps)

module _ (text name : List ℕ) (k : ℕ) where
  -- a name that a `[` opens is opened there
  pub opened-opens : slice_index text k ≡ 91 → name_opened text k ≡ Some name → opens_at text (opening_of name) k ≡ true
  unfolding name_opened
  opened-opens bracket e =
      let rest = drop (k + 1) text in
      let n = prefix_len is_name_byte rest in
      let parts = only_if-some (nat_lt 0 n && is_name_end text (k + 1 + n)) (take n rest) name e in
      let tests = and_parts _ _ parts.0 in
      let some = ltb-true 0 n tests.0 in
      let len : length name ≡ n = ap length (sym parts.1) ∙ length-prefix_len is_name_byte rest in
      let within = prefix_len-le-length is_name_byte rest in
      let reads : (j : ℕ) → j < length (opening_of name) → slice_index text (k + j)
      ≡ slice_index (opening_of name) j = λ j l. reads_at bracket n parts.1 len j l in
      and_from _ _
      (occurs_at-true text (opening_of name) k (record { fits = omega (arith, length-drop (k + 1) text, some, within, len); reads = reads }))
      (ap (is_name_end text) (omega (arith, len)) ∙ tests.1)
    where
      reads_at : slice_index text k ≡ 91 → (n : ℕ) → take n (drop (k + 1) text) ≡ name → length name ≡ n → (j : ℕ) → j < length (opening_of name)
          → slice_index text (k + j) ≡ slice_index (opening_of name) j
      reads_at bracket n is len zero l = ap (slice_index text) (omega arith) ∙ bracket
      reads_at bracket n is len (suc j) l =
          ap (slice_index text) (omega arith) ∙ sym (get_or-drop (k + 1) text j 0) ∙ sym (get_or-take n (drop (k + 1) text) j 0 (omega (arith, len, l)))
          ∙ ap (λ xs. slice_index xs j) is

only_if-true : {X : Type 0} (b : Bool) (x : X) → b ≡ true → only_if b x ≡ Some x
only_if-true b x e = rw e refl

-- the place after a name, within the text, has a byte that ends it
ended : (text : List ℕ) (e : ℕ) → is_name_end text e ≡ true → e < length text → ends_name (slice_index text e) ≡ true
ended text e h lt = rw (lt-leb (length text) e lt) at h

module _ (text name : List ℕ) (k : ℕ) (named : list_all is_name_byte name ≡ true) (some : 0 < length name) where
  opened_len : OccursAt text (opening_of name) k → is_name_end text (k + 1 + length name) ≡ true → prefix_len is_name_byte (drop (k + 1) text) ≡ length name
  opened_len at ends =
      prefix_len_is is_name_byte (drop (k + 1) text) (length name) 0
      (omega (arith, length-drop (k + 1) text, at.fits))
      (λ j l. ap is_name_byte (get_or-drop (k + 1) text j 0 ∙ ap (slice_index text) (omega arith) ∙ at.reads (suc j) (omega arith))
      ∙ AllPass-from_list_all is_name_byte name named j 0 l)
      (λ l. ap is_name_byte (get_or-drop (k + 1) text (length name) 0)
      ∙ ends_is_none (slice_index text (k + 1 + length name)) (ended text (k + 1 + length name) ends (omega (arith, length-drop (k + 1) text, l))))

  -- what is opened at a place is what its `[` opens
  pub opens-opened : opens_at text (opening_of name) k ≡ true → (slice_index text k ≡ 91) × (name_opened text k ≡ Some name)
  unfolding name_opened
  opens-opened h =
      let parts = and_parts _ _ h in
      let at = OccursAt-true text (opening_of name) k parts.0 in
      let ends : is_name_end text (k + 1 + length name) ≡ true = ap (is_name_end text) (omega arith) ∙ parts.1 in
      let bracket : slice_index text k ≡ 91 = ap (slice_index text) (omega arith) ∙ at.reads 0 (omega arith) in
      let len = opened_len at ends in
      let following = occurs_at-true text name (k + 1) (record {
        fits = omega (arith, at.fits);
        reads = λ j l. ap (slice_index text) (omega arith) ∙ at.reads (suc j) (omega arith);
      }) in
      let taken : take (length name) (drop (k + 1) text) ≡ name = (bytes_eq-Decides _ name).0 (and_parts _ _ following).1 in (
        bracket,
        only_if-true _ _ (and_from _ _ (ap (nat_lt 0) len ∙ lt-ltb 0 (length name) some) (ap (λ n. is_name_end text (k + 1 + n)) len ∙ ends)) ∙
            ap (λ n. Some (take n (drop (k + 1) text))) len ∙ ap Some taken,
      )

-- the names, with one more unless it is among them
abbrev pub with_name : List (Bor (List ℕ)) → Bor (List ℕ) → List (Bor (List ℕ))
with_name names n = if is_among n.now names then names else names ++ n ∷ []

same_name : (name : List ℕ) → bytes_eq name name ≡ true
same_name name = (bytes_eq-Decides name name).1 refl

among_more : (name : List ℕ) (names : List (Bor (List ℕ))) (n : Bor (List ℕ))
    → is_among name (names ++ n ∷ []) ≡ (is_among name names || (bytes_eq name n.now || false))
among_more name names n = list_any-append (λ n. bytes_eq name n.now) names (n ∷ [])

among_kept : (name : List ℕ) (names : List (Bor (List ℕ))) (n : Bor (List ℕ)) → is_among name names ≡ true → is_among name (with_name names n) ≡ true
among_kept name names n h =
    cond_both (is_among n.now names) names (names ++ n ∷ []) (λ ns. is_among name ns ≡ true) (λ _. h) (λ _. among_more name names n ∙ rw h refl)

among_new : (names : List (Bor (List ℕ))) (n : Bor (List ℕ)) → is_among n.now (with_name names n) ≡ true
among_new names n =
    cond_both (is_among n.now names) names (names ++ n ∷ []) (λ ns. is_among n.now ns ≡ true) (λ h. h)
    (λ not_there. among_more n.now names n ∙ rw (not_there, same_name n.now) refl)

among_only : (name : List ℕ) (names : List (Bor (List ℕ))) (n : Bor (List ℕ)) → is_among name (with_name names n) ≡ true
    → (is_among name names ≡ true) ⊎ (name ≡ n.now)
among_only name names n =
    cond_both (is_among n.now names) names (names ++ n ∷ []) (λ ns. is_among name ns ≡ true → (is_among name names ≡ true) ⊎ (name ≡ n.now))
    (λ _ h. inl h)
    (λ _ h. elim (cases_Bool (is_among name names)) [
      | inl there ↦ inl there
      | inr not_there ↦ (let e = sym (among_more name names n) ∙ h in inr ((bytes_eq-Decides name n.now).0 (by_or (bytes_eq name n.now) (rw not_there at e))))
    ])
  where
    by_or : (b : Bool) → (b || false) ≡ true → b ≡ true
    by_or true e = refl
    by_or false e = e

module _ (text : List ℕ) (names : List (Bor (List ℕ))) where
  -- nothing is opened if there is no `[`
  pub AreOpenedBefore-none : (at n : ℕ) → AreOpenedBefore text at names → NonePasses (λ j. slice_index text j == 91) at n → AreOpenedBefore text n names
  AreOpenedBefore-none at n before none = record {
    every = λ name k lt bracket e. elim (cases_lt k at) [
      | inl less ↦ before.every name k less bracket e
      | inr le ↦ absurd (false≢true (sym (none k le lt) ∙ ap (λ b. b == 91) bracket))
    ];
    only = before.only;
  }

  -- nor if what a `[` opens is no name
  pub AreOpenedBefore-skip : (at : ℕ) → AreOpenedBefore text at names → name_opened text at ≡ None → AreOpenedBefore text (at + 1) names
  AreOpenedBefore-skip at before not_there = record {
    every = λ name k lt bracket e. elim (cases_lt k at) [
      | inl less ↦ before.every name k less bracket e
      | inr le ↦ (let same : k ≡ at = omega arith in absurd (none-some name (sym (ap (name_opened text) same ∙ not_there) ∙ e)))
    ];
    only = before.only;
  }

  pub AreOpenedBefore-more : (at : ℕ) (n : Bor (List ℕ)) → AreOpenedBefore text at names → at < length text → slice_index text at ≡ 91
      → name_opened text at ≡ Some n.now
      → AreOpenedBefore text (at + 1) (with_name names n)
  AreOpenedBefore-more at n before within bracket there = record {
    every = λ name k lt b e. elim (cases_lt k at) [
      | inl less ↦ among_kept name names n (before.every name k less b e)
      | inr le ↦ (
          let same : k ≡ at = omega arith in
          let is : name ≡ n.now = same_Some name n.now (sym e ∙ ap (name_opened text) same ∙ there) in
          subst (λ m. is_among m (with_name names n) ≡ true) (sym is) (among_new names n))
    ];
    only = λ name h. elim (among_only name names n h) [
      | inl old ↦ before.only name old
      | inr is ↦ (at, within, bracket, there ∙ ap Some (sym is))
    ];
  }

-- a tag name has bytes, and all of them are bytes of names
pub tag_name-bytes : (name : List ℕ) → IsTrue (is_tag_name name) → list_all is_name_byte name ≡ true
tag_name-bytes name h = (and_parts _ _ h).1

pub tag_name-length : (name : List ℕ) → IsTrue (is_tag_name name) → 0 < length name
tag_name-length [] h = absurd (false≢true h)
tag_name-length (x ∷ xs) h = omega arith

is_some-true : {A : Type 0} (o : Option A) → (o ≡ None → ⊥) → is_some o ≡ true
is_some-true None h = absurd (h refl)
is_some-true (Some x) h = refl

-- a name is live if it is among those that the text opens
pub is_live-among : (text : List ℕ) (names : List (Bor (List ℕ))) (name : List ℕ) → AreOpened text names → list_all is_name_byte name ≡ true → 0 < length name
    → is_live text name ≡ is_among name names
unfolding has_opening
is_live-among text names name are named some =
    elim (cases_Bool (is_among name names)) [
      | inl there ↦ (
          let place = are.only name there in
          let opens = opened-opens text name place.0 place.2 place.3 in
          is_some-true _ (λ none. false≢true (sym (first_place-none_is (opens_at text (opening_of name)) 0 (length text) none place.0 (omega arith) place.1)
          ∙ opens)) ∙ sym there)
      | inr not_there ↦
          ap is_some (first_place-none (opens_at text (opening_of name)) 0 (length text) (λ k a lt. false_from_ne_true _ (λ there.
          let opened = opens-opened text name k named some there in
          false≢true (sym not_there ∙ are.every name k lt opened.0 opened.1)))) ∙ sym not_there
    ]

-- no name is live in a text without `[`
no_opening : (text name : List ℕ) → first_place (λ k. slice_index text k == 91) 0 (length text) ≡ None → is_live text name ≡ false
unfolding has_opening
no_opening text name none =
    ap is_some (first_place-none (opens_at text (opening_of name)) 0 (length text) (λ k a lt. false_from_ne_true _ (λ there.
    let at = OccursAt-true text (opening_of name) k (and_parts _ _ there).0 in
    let bracket : slice_index text k ≡ 91 = ap (slice_index text) (omega arith) ∙ at.reads 0 (omega arith) in
    false≢true (sym (first_place-none_is (λ k. slice_index text k == 91) 0 (length text) none k a lt) ∙ ap (λ b. b == 91) bracket))))

pub live-unopened : (names : List (List ℕ)) (text : List ℕ) → first_place (λ k. slice_index text k == 91) 0 (length text) ≡ None → live names text ≡ []
live-unopened [] text none = refl
live-unopened (name ∷ names) text none = rw (no_opening text name none) (live-unopened names text none)

-- the live names among one more
module _ (names : List (List ℕ)) (text name : List ℕ) (i : ℕ) (within : i < length names) (is : name ≡ get_or names i name) where
  live-more : live (take (i + 1) names) text ≡ live (take i names) text ++ cond (is_live text name) (name ∷ []) []
  live-more = filter_more (is_live text) names i name within ∙ ap (λ n. live (take i names) text ++ cond (is_live text n) (n ∷ []) []) (sym is)

  pub live-one : is_live text name ≡ true → live (take (i + 1) names) text ≡ live (take i names) text ++ name ∷ []
  live-one h = live-more ∙ ap (λ b. live (take i names) text ++ cond b (name ∷ []) []) h

  pub live-none : is_live text name ≡ false → live (take (i + 1) names) text ≡ live (take i names) text
  live-none h = live-more ∙ ap (λ b. live (take i names) text ++ cond b (name ∷ []) []) h ∙ append-nil (live (take i names) text)
