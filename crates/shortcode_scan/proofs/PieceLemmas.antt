-- The pieces that the matches cut a text into: exactly one list.
use Rattle.std.proofs.Common.{◌≡◌, ℕ, zero, suc, ◌+◌, ◌<◌, ◌≤◌, Bool, true, false, List, [], ◌∷◌, ◌++◌, length, Option, Some, None, refl, sym, ◌∙◌, ap}
use Rattle.std.proofs.Common.{subst, drop, arith, inl, inr, append_assoc}
use Rattle.std.specs.Prelude.{◌==◌, slice_index, slice_range, nat_lt, is_some}
use Rattle.std.specs.Option.{option_map_or}
use Rattle.std.proofs.Math.Seq.{drop-length}
use Rattle.std.proofs.lemmas.List.{append-nil}
use Rattle.std.proofs.lemmas.List.Folds.{drop_split}
use Rattle.std.proofs.lemmas.Bool.{cases_lt, cases_order, cond_both, ltb-true, ltb-false, false≢true}
use Rattle.std.proofs.lemmas.Option.{none-some}
use Rattle.shortcode_scan.specs.declared.Piece.{Piece}
use Rattle.shortcode_scan.specs.declared.Piece.TheVariants.{Plain, Match}
use Rattle.plain_data.specs.Steps.{◌>>=◌}
use Rattle.plain_data.proofs.StepLemmas.{bind_some}
use Rattle.shortcode_scan.specs.Places.{first_place}
use Rattle.shortcode_scan.specs.Matches.{bracket_from, match_at, span}
use Rattle.shortcode_scan.specs.Live.{AreSameNames}
use Rattle.shortcode_scan.specs.Pieces.{plain_between, NoMatch, PiecesFrom, IsPieces, match_from, pieces_within, pieces_of, BeginsNotPlain, start_of}
use Rattle.shortcode_scan.specs.Pieces.{end_of, pieces_text}
use Rattle.shortcode_scan.proofs.PlaceLemmas.{first_place-some, first_place-none_is}
use Rattle.shortcode_scan.proofs.MatchLemmas.{match_at-elsewhere, match_at-unended, match_at-unnamed, match_at-within, match_at-not_plain, match_at-lies}
use Rattle.shortcode_scan.proofs.MatchLemmas.{match_at-alike}

module _ (names : List (List ℕ)) (text : List ℕ) where
  pub NoMatch-join : (i j k : ℕ) → NoMatch names text i j → NoMatch names text j k → NoMatch names text i k
  NoMatch-join i j k g h = λ p a b. elim (cases_lt p j) [ inl lt ↦ g p a lt | inr le ↦ h p le b ]

  pub NoMatch-one : (i : ℕ) → match_at names text i ≡ None → NoMatch names text i (i + 1)
  NoMatch-one i e = λ k a b. let same : k ≡ i = omega arith in rw same e

  -- nor does one begin before the first `[`
  pub NoMatch-before : (i n k : ℕ) → first_place (λ j. slice_index text j == 91) i n ≡ Some k → NoMatch names text i k
  NoMatch-before i n k e = λ j a b. match_at-elsewhere names text j ((first_place-some (λ j. slice_index text j == 91) i n k e).before j a b)

  pub NoMatch-without : (i n : ℕ) → first_place (λ j. slice_index text j == 91) i n ≡ None → NoMatch names text i n
  NoMatch-without i n e = λ j a b. match_at-elsewhere names text j (first_place-none_is (λ j. slice_index text j == 91) i n e j a b)

  -- nor from a place on that no `]` follows
  pub NoMatch-unended : (i first n : ℕ) → first_place (λ j. slice_index text j == 91) i (length text) ≡ Some first → bracket_from text first ≡ None
      → NoMatch names text i n
  NoMatch-unended i first n e none =
      λ j a b. elim (cases_lt j first) [ inl lt ↦ NoMatch-before i (length text) first e j a lt | inr le ↦ match_at-unended names text first j le none _ refl ]

  -- one more match
  pub PiecesFrom-match : (i : ℕ) (p : Piece) (ps : List Piece) → match_at names text i ≡ Some p → PiecesFrom names text (end_of p) ps
      → PiecesFrom names text i (p ∷ ps)
  PiecesFrom-match i (Plain s) ps e h = absurd (match_at-not_plain names text i s e)
  PiecesFrom-match i (Match _ _ _ _ _ _) ps e h = (e, h)

  match_first : (i : ℕ) (p : Piece) (ps : List Piece) → match_at names text i ≡ Some p → BeginsNotPlain (p ∷ ps)
  match_first i (Plain s) ps e = match_at-not_plain names text i s e
  match_first i (Match _ _ _ _ _ _) ps e = tt

  -- one more plain piece, unless it is empty
  PiecesFrom-plain : (i j : ℕ) (ps : List Piece) → i ≤ j → NoMatch names text i j → BeginsNotPlain ps → PiecesFrom names text j ps
      → PiecesFrom names text i (plain_between i j ++ ps)
  PiecesFrom-plain i j ps le none other h =
      cond_both (nat_lt i j) (Plain (span i j) ∷ []) [] (λ qs. PiecesFrom names text i (qs ++ ps))
      (λ lt. (refl, ltb-true i j lt, none, other, h))
      (λ ge. let e : j ≡ i = omega (arith, ltb-false i j ge) in subst (λ k. PiecesFrom names text k ps) e h)

  -- ps, and whatever cuts the text from place i on
  abbrev pub ArePiecesUpTo : ℕ → List Piece → Type 0
  ArePiecesUpTo i ps = (rest : List Piece) → PiecesFrom names text i rest → IsPieces names text (ps ++ rest)

  pub ArePiecesUpTo-match : (ps : List Piece) (i j : ℕ) (p : Piece) → i ≤ j → NoMatch names text i j → match_at names text j ≡ Some p
      → ArePiecesUpTo i ps → ArePiecesUpTo (end_of p) (ps ++ plain_between i j ++ p ∷ [])
  ArePiecesUpTo-match ps i j p le none e up rest h =
      simp append_assoc (up (plain_between i j ++ (p ∷ rest)) (PiecesFrom-plain i j (p ∷ rest) le none (match_first j p rest e)
      (PiecesFrom-match j p rest e h)))

  pub IsPieces-end : (ps : List Piece) (i : ℕ) → i ≤ length text → NoMatch names text i (length text) → ArePiecesUpTo i ps
      → IsPieces names text (ps ++ plain_between i (length text))
  IsPieces-end ps i le none up =
      subst (λ qs. IsPieces names text (ps ++ qs)) (append-nil (plain_between i (length text)))
      (up (plain_between i (length text) ++ []) (PiecesFrom-plain i (length text) [] le none tt refl))

  PiecesFrom-le : (i : ℕ) (ps : List Piece) → PiecesFrom names text i ps → i ≤ length text
  PiecesFrom-le i [] h = omega (arith, h)
  PiecesFrom-le i (Plain s ∷ ps) h = omega (arith, h.1, PiecesFrom-le s.end ps h.4)
  PiecesFrom-le i (Match whole n a c o x ∷ ps) h = omega (arith, match_at-within names text i _ h.0)

  -- what follows a plain piece begins at its end with a match, or is the end
  follows_plain : (i j : ℕ) (ps : List Piece) → BeginsNotPlain ps → PiecesFrom names text i ps → NoMatch names text i j → i < j → j ≤ length text → ⊥
  follows_plain i j [] other h none lt le = omega (arith, h)
  follows_plain i j (Plain s ∷ ps) other h none lt le = other
  follows_plain i j (Match whole n a c o x ∷ ps) other h none lt le = none-some _ (sym (none i (omega arith) lt) ∙ h.0)

  -- only one list of pieces is the cut of a text
  pub one_list : (i : ℕ) (ps qs : List Piece) → PiecesFrom names text i ps → PiecesFrom names text i qs → ps ≡ qs
  one_list i [] [] g h = refl
  one_list i [] (Plain s ∷ qs) g h = absurd (omega (arith, g, h.1, PiecesFrom-le s.end qs h.4))
  one_list i [] (Match whole n a c o x ∷ qs) g h = absurd (omega (arith, g, match_at-within names text i _ h.0))
  one_list i (Plain s ∷ ps) [] g h = absurd (omega (arith, h, g.1, PiecesFrom-le s.end ps g.4))
  one_list i (Match whole n a c o x ∷ ps) [] g h = absurd (omega (arith, h, match_at-within names text i _ g.0))
  one_list i (Plain s ∷ ps) (Match whole n a c o x ∷ qs) g h = absurd (none-some _ (sym (g.2 i (omega arith) g.1) ∙ h.0))
  one_list i (Match whole n a c o x ∷ ps) (Plain s ∷ qs) g h = absurd (none-some _ (sym (h.2 i (omega arith) h.1) ∙ g.0))
  one_list i (Match whole n a c o x ∷ ps) (Match whole' n' a' c' o' x' ∷ qs) g h =
      let same : Match whole n a c o x ≡ Match whole' n' a' c' o' x' = let e = sym g.0 ∙ h.0 in cc in
      let wholes : whole ≡ whole' = cc in
      let rest = one_list whole.end ps qs g.1 (subst (λ w. PiecesFrom names text w.end qs) (sym wholes) h.1) in
      cc
  one_list i (Plain s ∷ ps) (Plain t ∷ qs) g h =
      let ends : s.end ≡ t.end = elim (cases_order s.end t.end) [
        | inl e ↦ e
        | inr (inl lt) ↦ absurd (follows_plain s.end t.end ps g.3 g.4 (λ j a b. h.2 j (omega (arith, g.1)) b) lt (PiecesFrom-le t.end qs h.4))
        | inr (inr lt) ↦ absurd (follows_plain t.end s.end qs h.3 h.4 (λ j a b. g.2 j (omega (arith, h.1)) b) lt (PiecesFrom-le s.end ps g.4))
      ] in
      let starts : s.start ≡ t.start = g.0 ∙ sym h.0 in
      let rest = one_list s.end ps qs g.4 (subst (λ e. PiecesFrom names text e qs) (sym ends) h.4) in
      λ k. Plain (record { start = starts k; end = ends k }) ∷ rest k

-- a text is one plain piece if there are no names
pub IsPieces-unnamed : (text : List ℕ) → IsPieces [] text (plain_between 0 (length text))
IsPieces-unnamed text = IsPieces-end [] text [] 0 (omega arith) (λ k a b. match_at-unnamed text k) (λ rest h. h)

no_value : {A : Type 0} (o : Option A) → is_some o ≡ false → o ≡ None
no_value None e = refl
no_value (Some x) e = absurd (false≢true (sym e))

some_value : {A : Type 0} (o : Option A) → is_some o ≡ true → o ≡ None → ⊥
some_value None e n = false≢true e
some_value (Some x) e n = none-some x (sym n)

module _ (names : List (List ℕ)) (text : List ℕ) where
  abbrev has_match : ℕ → Bool
  has_match k = is_some (match_at names text k)

  -- where the first match begins, and that there is none
  match_from-some : (i : ℕ) (p : Piece) → match_from names text i ≡ Some p → (k : ℕ) × (i ≤ k) × NoMatch names text i k × (match_at names text k ≡ Some p)
  unfolding match_from
  match_from-some i p e =
      let a = bind_some (first_place has_match i (length text)) _ p e in
      let h = first_place-some has_match i (length text) a.0 a.1 in
      (a.0, h.low_le, λ j b c. no_value (match_at names text j) (h.before j b c), a.2)

  none_found : (i : ℕ) (o : Option ℕ) → first_place has_match i (length text) ≡ o → (o >>= match_at names text) ≡ None → NoMatch names text i (length text)
  none_found i None f e = λ j b c. no_value (match_at names text j) (first_place-none_is has_match i (length text) f j b c)
  none_found i (Some k) f e = absurd (some_value (match_at names text k) (first_place-some has_match i (length text) k f).here e)

  match_from-none : (i : ℕ) → match_from names text i ≡ None → NoMatch names text i (length text)
  unfolding match_from
  match_from-none i e = none_found i (first_place has_match i (length text)) refl e

  pieces_next : (i : ℕ) (later : ℕ → List Piece) (o : Option Piece) → match_from names text i ≡ o → i ≤ length text
      → ((j : ℕ) → i < j → j ≤ length text → PiecesFrom names text j (later j))
      → PiecesFrom names text i (option_map_or (λ p. plain_between i (start_of p) ++ (p ∷ later (end_of p))) o (plain_between i (length text)))
  pieces_next i later None e le h =
      subst (PiecesFrom names text i) (append-nil (plain_between i (length text)))
      (PiecesFrom-plain names text i (length text) [] le (match_from-none i e) tt refl)
  pieces_next i later (Some p) e le h =
      let m = match_from-some i p e in
      let k = m.0 in
      let lies = match_at-lies names text k p m.3 in
      let rest = h (end_of p) (omega (arith, m.1, lies.1)) lies.2 in
      subst (λ s. PiecesFrom names text i (plain_between i s ++ (p ∷ later (end_of p)))) (sym lies.0)
      (PiecesFrom-plain names text i k (p ∷ later (end_of p)) m.1 m.2 (match_first names text k p _ m.3) (PiecesFrom-match names text k p _ m.3 rest))

  pieces_within-are : (n i : ℕ) → i ≤ length text → length text < i + n → PiecesFrom names text i (pieces_within names text n i)
  unfolding pieces_within
  pieces_within-are zero i le enough = absurd (omega arith)
  pieces_within-are (suc n) i le enough =
      pieces_next i (pieces_within names text n) (match_from names text i) refl le (λ j lt within. pieces_within-are n j within (omega arith))

  -- the pieces cut the text, and no others do
  pub pieces_of-are : IsPieces names text (pieces_of names text)
  pieces_of-are = pieces_within-are (length text + 1) 0 (omega arith) (omega arith)

  pub pieces_of-only : (ps : List Piece) → IsPieces names text ps → ps ≡ pieces_of names text
  pieces_of-only ps h = one_list names text 0 ps (pieces_of names text) h pieces_of-are

  -- a text in which no match begins is one plain piece
  pub pieces_of-plain : NoMatch names text 0 (length text) → pieces_of names text ≡ plain_between 0 (length text)
  pieces_of-plain none = sym (pieces_of-only (plain_between 0 (length text)) (IsPieces-end names text [] 0 (omega arith) none (λ rest h. h)))

-- the same names cut a text alike
module _ (names others : List (List ℕ)) (text : List ℕ) (same : AreSameNames names others) where
  NoMatch-alike : (i j : ℕ) → NoMatch names text i j → NoMatch others text i j
  NoMatch-alike i j none = λ k a b. sym (match_at-alike names others text same k) ∙ none k a b

  PiecesFrom-alike : (i : ℕ) (ps : List Piece) → PiecesFrom names text i ps → PiecesFrom others text i ps
  PiecesFrom-alike i [] h = h
  PiecesFrom-alike i (Plain s ∷ ps) h = (h.0, h.1, NoMatch-alike i s.end h.2, h.3, PiecesFrom-alike s.end ps h.4)
  PiecesFrom-alike i (Match whole n a c o x ∷ ps) h = (sym (match_at-alike names others text same i) ∙ h.0, PiecesFrom-alike whole.end ps h.1)

  pub pieces_of-alike : pieces_of names text ≡ pieces_of others text
  pieces_of-alike = pieces_of-only others text (pieces_of names text) (PiecesFrom-alike 0 (pieces_of names text) (pieces_of-are names text))

-- the pieces from place i on show what the text has from there on
joined-from : (names : List (List ℕ)) (text : List ℕ) (i : ℕ) (ps : List Piece) → PiecesFrom names text i ps → pieces_text text ps ≡ drop i text
joined-from names text i [] h = sym (ap (λ n. drop n text) h ∙ drop-length text)
joined-from names text i (Plain s ∷ ps) h =
    ap (λ n. slice_range text n s.end ++ pieces_text text ps) h.0 ∙
    ap (λ rest. slice_range text i s.end ++ rest) (joined-from names text s.end ps h.4) ∙
    sym (drop_split text i s.end (omega (arith, h.1)))
joined-from names text i (Match whole n a c o x ∷ ps) h =
    let lies = match_at-lies names text i _ h.0 in
    ap (λ n. slice_range text n whole.end ++ pieces_text text ps) lies.0 ∙
    ap (λ rest. slice_range text i whole.end ++ rest) (joined-from names text whole.end ps h.1) ∙
    sym (drop_split text i whole.end (omega (arith, lies.1)))

pub joined-pieces : (names : List (List ℕ)) (text : List ℕ) (ps : List Piece) → IsPieces names text ps → pieces_text text ps ≡ text
joined-pieces names text ps h = joined-from names text 0 ps h
