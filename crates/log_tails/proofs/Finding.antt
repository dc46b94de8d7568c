-- What the tests that are made of a row, a page and a file say of its last row.
use Rattle.std.proofs.Common.{◌≡◌, ◌≢◌, ℕ, zero, suc, ◌+◌, ◌-◌, ◌*◌, ◌^◌, ◌<◌, ◌≤◌, true, false, List, length, slice_index, drop, length-drop, Some, None, inl, inr, ◌⊎◌, refl, sym, ap, ap₂, ◌∙◌, arith}
use Rattle.std.proofs.lemmas.Bool.{cond-true, cond-false, or_left, or_right, or_from, not_from_true, not_from_false, lt-ltb, le-ltb, le-leb, lt-leb, eq-eqb, ne_eqb}
use Rattle.std.proofs.lemmas.List.{drop-drop}
use Rattle.sqlite_format.specs.Varint.{varint_len, varint_value}
use Rattle.sqlite_format.proofs.VarintLemmas.{varint_len_pos}
use Rattle.sqlite_format.specs.Bytes.{u16_at, u32_at}
use Rattle.sqlite_format.specs.Page.{cell_count, cell_offset, right_child}
use Rattle.log_tails.specs.Rows.{has_page, page_of, number_in, last_in, last_under}

-- ---- a row

-- what follows the first varint
second : (page : List ℕ) (at len : ℕ) → len ≡ varint_len (drop at page)
    → drop (varint_len (drop at page)) (drop at page) ≡ drop (at + len) page
second page at len is = ap (λ (n : ℕ). drop n (drop at page)) (sym is) ∙ drop-drop len at page

-- a row that is cut within its first varint
pub cut_in_first : (page : List ℕ) (at : ℕ) → length page < at + varint_len (drop at page) → number_in (drop at page) ≡ None
unfolding number_in
cut_in_first page at short =
    let row = drop at page in
    let rest = drop (varint_len row) row in
    let low : length row < varint_len row + varint_len rest =
    omega (arith, length-drop at page, varint_len_pos rest, varint_len_pos row) in
    cond-true _ _ _ (or_left _ _ (or_left _ _ (lt-ltb _ _ low)))

-- and within its second
pub cut_in_second : (page : List ℕ) (at len : ℕ) → len ≡ varint_len (drop at page) → at + len ≤ length page
    → length page < at + len + varint_len (drop (at + len) page) → number_in (drop at page) ≡ None
unfolding number_in
cut_in_second page at len is within short =
    let row = drop at page in
    let low : length row < varint_len row + varint_len (drop (varint_len row) row) =
    omega (arith, length-drop at page, ap varint_len (second page at len is)) in
    cond-true _ _ _ (or_left _ _ (or_left _ _ (lt-ltb _ _ low)))

-- a number that isn't above 0
pub no_number : (page : List ℕ) (at len number : ℕ) → len ≡ varint_len (drop at page) → number ≡ varint_value (drop (at + len) page)
    → (number ≡ 0) ⊎ (2 ^ 63 ≤ number) → None ≡ number_in (drop at page)
unfolding number_in
no_number page at len number is value which =
    let row = drop at page in
    let here : number ≡ varint_value (drop (varint_len row) row) = value ∙ ap varint_value (sym (second page at len is)) in
    elim which [
      | inl none ↦ sym (cond-true _ _ _ (or_left _ _ (or_right _ _ (eq-eqb _ _ (sym here ∙ none)))))
      | inr high ↦
          let high' : 2 ^ 63 ≤ varint_value (drop (varint_len row) row) = omega (arith, here, high) in
          sym (cond-true _ _ _ (or_right _ _ (le-leb _ _ high')))
    ]

pub a_number : (page : List ℕ) (at len number next : ℕ) → len ≡ varint_len (drop at page) → number ≡ varint_value (drop (at + len) page)
    → next ≡ varint_len (drop (at + len) page) → at + len + next ≤ length page → number ≢ 0 → number < 2 ^ 63
    → Some number ≡ number_in (drop at page)
unfolding number_in
a_number page at len number next is value more within some low =
    let row = drop at page in
    let here : number ≡ varint_value (drop (varint_len row) row) = value ∙ ap varint_value (sym (second page at len is)) in
    let whole : varint_len row + varint_len (drop (varint_len row) row) ≤ length row =
    omega (arith, length-drop at page, ap varint_len (second page at len is)) in
    let low' : varint_value (drop (varint_len row) row) < 2 ^ 63 = omega (arith, here, low) in
    let above = ne_eqb _ 0 (λ none. some (here ∙ none)) in
    ap Some here ∙ sym (cond-false _ _ _ (or_from _ _ (or_from _ _ (le-ltb _ _ whole) above) (lt-leb _ _ low')))

-- ---- a page

pub no_leaf : (page : List ℕ) → slice_index page 0 ≢ 13 → None ≡ last_in page
unfolding last_in
no_leaf page other = sym (cond-true _ _ _ (or_left _ _ (or_left _ _ (not_from_false _ (ne_eqb _ _ other)))))

pub no_rows : (page : List ℕ) → u16_at page 3 ≡ 0 → None ≡ last_in page
unfolding last_in cell_count
no_rows page none = sym (cond-true _ _ _ (or_left _ _ (or_right _ _ (eq-eqb _ _ none))))

-- it ends within the pointers to its cells
pub no_pointers : (page : List ℕ) (count : ℕ) → count ≡ u16_at page 3 → length page < 8 + 2 * count → None ≡ last_in page
unfolding last_in cell_count
no_pointers page count is short =
    let short' : length page < 8 + 2 * u16_at page 3 = omega (arith, is, short) in
    sym (cond-true _ _ _ (or_right _ _ (lt-ltb _ _ short')))

pub last_row_of : (page : List ℕ) (count at : ℕ) → slice_index page 0 ≡ 13 → count ≡ u16_at page 3 → count ≢ 0
    → 8 + 2 * count ≤ length page → at ≡ u16_at page (8 + 2 * (count - 1)) → number_in (drop at page) ≡ last_in page
unfolding last_in cell_count cell_offset
last_row_of page count at leaf is some room place =
    let room' : 8 + 2 * u16_at page 3 ≤ length page = omega (arith, is, room) in
    let here : at ≡ u16_at page (8 + 2 * (u16_at page 3 - 1)) = place ∙ ap (λ (n : ℕ). u16_at page (8 + 2 * (n - 1))) is in
    let above = ne_eqb _ 0 (λ none. some (is ∙ none)) in
    ap (λ (n : ℕ). number_in (drop n page)) here
    ∙ sym (cond-false _ _ _ (or_from _ _ (or_from _ _ (not_from_true _ (eq-eqb _ _ leaf)) above) (le-ltb _ _ room')))

-- ---- the way down

-- it ends at depth 0
pub ends_below : (depth size : ℕ) (file : List ℕ) (n : ℕ) → depth ≡ 0 → None ≡ last_under depth size file n
unfolding last_under
ends_below zero size file n none = refl
ends_below (suc depth) size file n none = absurd (omega arith)

-- at a page that the file doesn't have
pub ends_outside : (depth size : ℕ) (file : List ℕ) (n : ℕ) → has_page size file n ≡ false → None ≡ last_under depth size file n
unfolding last_under
ends_outside zero size file n out = refl
ends_outside (suc depth) size file n out = sym (cond-true _ _ _ (not_from_false _ out))

-- and at one that is no interior page of a table
pub ends_there : (depth size : ℕ) (file : List ℕ) (n : ℕ) (page : List ℕ) → 0 < depth → has_page size file n ≡ true
    → page ≡ page_of size file n → slice_index page 0 ≢ 5 → last_in page ≡ last_under depth size file n
unfolding last_under
ends_there zero size file n page some has is other = absurd (omega arith)
ends_there (suc depth) size file n page some has is other =
    let other' : slice_index (page_of size file n) 0 ≢ 5 = λ five. other (ap (λ (p : List ℕ). slice_index p 0) is ∙ five) in
    ap last_in is ∙ sym (cond-false _ _ _ (not_from_true _ has) ∙ cond-false _ _ _ (ne_eqb _ _ other'))

-- from an interior page it goes on at the right-most child
pub goes_on : (depth size : ℕ) (file : List ℕ) (n : ℕ) (page : List ℕ) → 0 < depth → has_page size file n ≡ true
    → page ≡ page_of size file n → slice_index page 0 ≡ 5
    → last_under depth size file n ≡ last_under (depth - 1) size file (u32_at page 8)
unfolding last_under right_child
goes_on zero size file n page some has is five = absurd (omega arith)
goes_on (suc depth) size file n page some has is five =
    let five' : slice_index (page_of size file n) 0 ≡ 5 = ap (λ (p : List ℕ). slice_index p 0) (sym is) ∙ five in
    let less : depth ≡ suc depth - 1 = omega arith in
    cond-false _ _ _ (not_from_true _ has) ∙ cond-true _ _ _ (eq-eqb _ _ five')
    ∙ ap₂ (λ (d : ℕ) (p : List ℕ). last_under d size file (u32_at p 8)) less (sym is)
