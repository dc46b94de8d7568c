-- Maps of texts, seen as pairs of bytes, and the fold over the items.
use Rattle.std.proofs.Common.{◌≡◌, ℕ, suc, ◌<◌, arith, Bool, true, false, cond, List, [], ◌∷◌, ◌++◌, length, get_or, Some, None, String, string_bytes}
use Rattle.std.proofs.Common.{refl, ap, sym, ◌∙◌}
use Rattle.std.specs.Prelude.{map, option_map, bytes_eq, string_eq, fold, ◌==◌, ◌||◌, encode_utf8_all}
use Rattle.std.specs.Str.{IsUtf8, IsAscii, chars}
use Rattle.std.specs.List.{AllZip, list_any}
use Rattle.std.specs.Map.{lookup}
use Rattle.indexmap.specs.IndexMap.{insert_entry}
use Rattle.shortcode_atts.specs.Items.{Item, items_of, item_at, skip_white, is_blank, begins_blank, single_spaced}
use Rattle.std.proofs.lemmas.Bool.{eqb-false, eqb-true, false≢true, or_from, or_parts, false_from_ne_true, cond_both, and_parts, and_from}
use Rattle.std.proofs.lemmas.Bool.Decides.{nat_tests}
use Rattle.std.proofs.lemmas.List.{get_or_default}
use Rattle.std.proofs.lemmas.List.Folds.{list_any_none, list_any-append}
use Rattle.std.proofs.lemmas.Str.{encodes-chars, chars-encodes, scalars-chars, chars-IsAscii, chars-nil}
use lib.Utf8.{scalar, scalars, encode}
use Rattle.shortcode_atts.specs.Values.{meaning}
use Rattle.shortcode_atts.specs.Attributes.{Attributes, add, push_value, pair_bytes, attributes, no_attributes, plain_chars}
use Rattle.shortcode_atts.proofs.ValueLemmas.{spaced-same}
use Rattle.shortcode_atts.proofs.SpellsLemmas.{meaning-text}
use Rattle.shortcode_atts.proofs.ItemLemmas.{items_of-some, items_of-none}

-- a copy, text by text, is seen as the same list
pub map-copies : {Y : Type 0} (xs ys : List (String Y)) → AllZip (λ x y. string_bytes y ≡ string_bytes x) xs ys → map string_bytes ys ≡ map string_bytes xs
map-copies [] [] h = refl
map-copies [] (y ∷ ys) h = absurd h
map-copies (x ∷ xs) [] h = absurd h
map-copies (x ∷ xs) (y ∷ ys) h = let rest = map-copies xs ys h.1 in let first = h.0 in cc (first, rest)

module _ {Y Z : Type 0} where
  pub map-pair_copies : (xs ys : List (String Y × String Z))
      → AllZip (λ p q. (string_bytes q.0 ≡ string_bytes p.0) × (string_bytes q.1 ≡ string_bytes p.1)) xs ys → map pair_bytes ys ≡ map pair_bytes xs
  map-pair_copies [] [] h = refl
  map-pair_copies [] (y ∷ ys) h = absurd h
  map-pair_copies (x ∷ xs) [] h = absurd h
  map-pair_copies (x ∷ xs) (y ∷ ys) h =
      let rest = map-pair_copies xs ys h.1 in
      λ i. ((h.0).0 i, (h.0).1 i) ∷ rest i

  pub map-insert_entry : (es : List (String Y × String Z)) (k : String Y) (v : String Z)
      → map pair_bytes (insert_entry string_eq es k v) ≡ insert_entry bytes_eq (map pair_bytes es) (string_bytes k) (string_bytes v)
  map-insert_entry [] k v = refl
  map-insert_entry (e ∷ es) k v =
      elim (bytes_eq (string_bytes k) (string_bytes e.0)) as (λ b. map pair_bytes (cond b ((e.0, v) ∷ es) (e ∷ insert_entry string_eq es k v))
      ≡ cond b ((string_bytes e.0, string_bytes v) ∷ map pair_bytes es)
      (pair_bytes e ∷ insert_entry bytes_eq (map pair_bytes es) (string_bytes k) (string_bytes v)))
      [ true ↦ refl | false ↦ ap (λ ps. pair_bytes e ∷ ps) (map-insert_entry es k v) ]

  pub lookup-pair_bytes : (name : List ℕ) (es : List (String Y × String Z))
      → option_map string_bytes (lookup (λ k. bytes_eq name (string_bytes k)) es) ≡ lookup (bytes_eq name) (map pair_bytes es)
  lookup-pair_bytes name [] = refl
  lookup-pair_bytes name (e ∷ es) =
      elim (bytes_eq name (string_bytes e.0)) as (λ b. option_map string_bytes (cond b (Some e.1) (lookup (λ k. bytes_eq name (string_bytes k)) es))
      ≡ cond b (Some (string_bytes e.1)) (lookup (bytes_eq name) (map pair_bytes es)))
      [ true ↦ refl | false ↦ lookup-pair_bytes name es ]

-- a value of bytes, added if it is not empty
push_value-chars : (values : List (List ℕ)) (bs cs : List ℕ) → encode_utf8_all cs ≡ bs → (length bs == 0) ≡ false
    → push_value values cs ≡ values ++ encode_utf8_all (meaning cs) ∷ []
push_value-chars values bs [] e some = absurd (eqb-false (length bs) 0 some (ap length (sym e)))
push_value-chars values bs (c ∷ cs) e some = refl

pub push_value-some : (values : List (List ℕ)) (bs : List ℕ) → IsUtf8 bs → (length bs == 0) ≡ false
    → push_value values (chars bs) ≡ values ++ meaning bs ∷ []
push_value-some values bs u some =
    push_value-chars values bs (chars bs) (encodes-chars bs u) some ∙ ap (λ m. values ++ m ∷ []) (sym (meaning-text bs u))

pub push_value-none : (values : List (List ℕ)) (bs : List ℕ) → (length bs == 0) ≡ true → push_value values (chars bs) ≡ values
push_value-none values [] none = ap (push_value values) chars-nil
push_value-none values (b ∷ bs) none = absurd (omega (arith, eqb-true (suc (length bs)) 0 none))

-- a text without blanks, and the characters of one whose blanks are spaces
is_blank-ascii : (c : ℕ) → c < 128 → is_blank c ≡ false
is_blank-ascii c h = grind (arith, nat_tests)

pub plain-ascii : (text : List ℕ) → IsAscii text → chars text ≡ plain_chars text
plain-ascii text ascii =
    sym (spaced-same (chars text) (ap (list_any is_blank) (chars-IsAscii text ascii)
    ∙ list_any_none is_blank text (λ k d lt. is_blank-ascii (get_or text k d) (omega (arith, ascii k, get_or_default text k d 0 lt)))))

-- the bytes with which U+00A0 and U+200B begin
abbrev pub is_blank_lead : ℕ → Bool
is_blank_lead b = b == 194 || b == 226

is_blank-lead : (c : ℕ) → list_any is_blank_lead (encode c) ≡ false → is_blank c ≡ false
unfolding encode
is_blank-lead c none =
    or_from (c == 160) (c == 8203)
    (false_from_ne_true (c == 160) (λ is. false≢true (sym none ∙ ap (λ c. list_any is_blank_lead (encode c)) (eqb-true c 160 is))))
    (false_from_ne_true (c == 8203) (λ is. false≢true (sym none ∙ ap (λ c. list_any is_blank_lead (encode c)) (eqb-true c 8203 is))))

blanks-none : (cs : List ℕ) → list_any is_blank_lead (encode_utf8_all cs) ≡ false → list_any is_blank cs ≡ false
blanks-none [] none = refl
blanks-none (c ∷ cs) none =
    let parts = or_parts (list_any is_blank_lead (encode c)) (list_any is_blank_lead (encode_utf8_all cs))
    (sym (list_any-append is_blank_lead (encode c) (encode_utf8_all cs)) ∙ none) in
    or_from (is_blank c) (list_any is_blank cs) (is_blank-lead c parts.0) (blanks-none cs parts.1)

pub plain-leads : (text : List ℕ) → IsUtf8 text → list_any is_blank_lead text ≡ false → chars text ≡ plain_chars text
plain-leads text u none = sym (spaced-same (chars text) (blanks-none (chars text) (ap (list_any is_blank_lead) (encodes-chars text u) ∙ none)))

scalars-spaced : (cs : List ℕ) → scalars cs ≡ true → scalars (single_spaced cs) ≡ true
scalars-spaced [] h = refl
scalars-spaced (c ∷ cs) h =
    let parts = and_parts (scalar c) (scalars cs) h in
    let rest = scalars-spaced cs parts.1 in
    cond_both (is_blank c) _ _ (λ xs. scalars xs ≡ true)
    (λ _. cond_both (begins_blank cs) _ _ (λ xs. scalars xs ≡ true) (λ _. rest) (λ _. rest))
    (λ _. and_from (scalar c) (scalars (single_spaced cs)) parts.0 rest)

pub plain-spelled : (text bs : List ℕ) → IsUtf8 text → bs ≡ encode_utf8_all (plain_chars text) → chars bs ≡ plain_chars text
plain-spelled text bs u e = ap chars e ∙ chars-encodes (plain_chars text) (scalars-spaced (chars text) (scalars-chars text u))

-- the attributes of a text, by the characters of it without blanks
pub attributes-is : (text cs : List ℕ) → cs ≡ plain_chars text → fold add no_attributes (items_of cs) ≡ attributes text
unfolding attributes
attributes-is text cs e = ap (λ cs. fold add no_attributes (items_of cs)) e

-- the attributes so far, with those of the rest
pub attributes-more : (a : Attributes) (cs : List ℕ) (it : Item) → item_at (skip_white cs) ≡ Some it
    → fold add a (items_of cs) ≡ fold add (add a it) (items_of it.rest)
attributes-more a cs it e = ap (fold add a) (items_of-some cs it e)

pub attributes-end : (a : Attributes) (cs : List ℕ) → item_at (skip_white cs) ≡ None → fold add a (items_of cs) ≡ a
attributes-end a cs e = ap (fold add a) (items_of-none cs e)
