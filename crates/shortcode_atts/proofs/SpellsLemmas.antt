-- What the bytes of a text spell, its characters spell: each byte that a form or a value asks for is ASCII, and no byte
-- of any other character is.
use Rattle.std.proofs.Common.{◌≡◌, ℕ, zero, suc, ◌+◌, ◌<◌, ◌≤◌, Bool, true, false, not, cond, ◌||◌, List, [], ◌∷◌, ◌++◌, length, take, drop, map, Option}
use Rattle.std.proofs.Common.{Some, None, refl, sym, ap, ◌∙◌, subst, arith, inl, inr}
use Rattle.std.specs.Prelude.{◌==◌, if◌then◌else◌, nat_lt, take_while, option_map, IfSome, ◌⊎◌}
use Rattle.std.specs.List.{prefix_len}
use Rattle.std.specs.Option.{option_or, option_map_or}
use Rattle.std.specs.Char.{to_ascii_lowercase}
use Rattle.std.specs.Str.{IsUtf8, chars}
use lib.Utf8.{scalar, scalars, encode, encodes, low_scalar}
use Rattle.std.proofs.lemmas.Bool.{cond_both, cond-true, cond-false, cases_lt, and_parts, and_from, lt-ltb, ltb-true, false≢true, ne_eqb, eqb-true}
use Rattle.std.proofs.lemmas.Option.{none-some, same_Some}
use Rattle.std.proofs.lemmas.Str.Ascii.{lowercase_ascii}
use Rattle.std.proofs.lemmas.Bool.Decides.{nat_tests}
use Rattle.std.proofs.lemmas.List.{take-append-drop}
use Rattle.std.proofs.lemmas.List.Folds.{length-prefix_len}
use Rattle.std.proofs.lemmas.List.Sums.{take_while-cons}
use Rattle.std.proofs.lemmas.Str.{encode_ascii, length-encode, len_utf8_bounds, encodes-append, encodes-chars, scalars-chars, chars-encodes}
use Rattle.shortcode_atts.specs.declared.items.Form.{Form}
use Rattle.shortcode_atts.specs.declared.items.Form.TheVariants.{Quoted, Bare, Word}
use Rattle.plain_data.specs.Steps.{◌>>=◌, only_if}
use Rattle.plain_data.specs.NameByte.{is_name_byte}
use Rattle.shortcode_atts.specs.Items.{is_white, is_word_char, is_bare_char, after_run, skip_white, after_char, is_ended, run_at, quoted_at, spelled_at}
use Rattle.shortcode_atts.specs.Items.{value_at, Item, named_at, single_at, item_at}
use Rattle.shortcode_atts.specs.Values.{escape_meaning, without_escapes, after_last_opening, has_closing, has_open_tag, meaning}
use Rattle.shortcode_atts.specs.Found.{IsText, item_spelling}

-- the bytes are these characters in UTF-8
pub record Spells (bs cs : List ℕ) : Type 0 where
  pub scalar : scalars cs ≡ true
  pub same : encodes cs ≡ bs

-- no byte is ASCII
abbrev AreHigh : List ℕ → Type 0
AreHigh [] = Unit {0}
AreHigh (b ∷ bs) = (128 ≤ b) × AreHigh bs

-- the bytes of a character that is not ASCII
record IsHigh (bs : List ℕ) : Type 0 where
  pub first : ℕ
  pub more : List ℕ
  pub is : bs ≡ first ∷ more
  pub high : 128 ≤ first
  pub others : AreHigh more

encode-high : (c : ℕ) → 128 ≤ c → IsHigh (encode c)
unfolding encode
encode-high c h =
    cond_both (nat_lt c 128) _ _ IsHigh (λ low. absurd (omega (arith, ltb-true c 128 low)))
    (λ _. cond_both (nat_lt c 2048) _ _ IsHigh
    (λ _. record { first = _; more = _; is = refl; high = omega arith; others = (omega arith, tt) })
    (λ _. cond_both (nat_lt c 65536) _ _ IsHigh
    (λ _. record { first = _; more = _; is = refl; high = omega arith; others = (omega arith, (omega arith, tt)) })
    (λ _. record { first = _; more = _; is = refl; high = omega arith; others = (omega arith, (omega arith, (omega arith, tt))) })))

-- a test that says the same of all that is not ASCII
abbrev IsAsciiTest : (ℕ → Bool) → Type 0
IsAsciiTest p = (c : ℕ) → 128 ≤ c → p c ≡ p 128

white-test : IsAsciiTest is_white
white-test c h = grind (arith, nat_tests)

name-test : IsAsciiTest is_name_byte
name-test c h = grind (arith, nat_tests)

bare-test : IsAsciiTest is_bare_char
bare-test c h = grind (arith, nat_tests)

word-test : IsAsciiTest is_word_char
word-test c h = ap not (white-test c h)

until-test : (q : ℕ) → q < 128 → IsAsciiTest (λ c. not (c == q))
until-test q l c h = ap not (ne_eqb c q (λ e. omega arith) ∙ sym (ne_eqb 128 q (λ e. omega arith)))

-- runs
prefix_len-high : (p : ℕ → Bool) → IsAsciiTest p → p 128 ≡ true → (xs ys : List ℕ) → AreHigh xs → prefix_len p (xs ++ ys) ≡ length xs + prefix_len p ys
prefix_len-high p t pass [] ys h = omega arith
prefix_len-high p t pass (x ∷ xs) ys h =
    cond-true (p x) (1 + prefix_len p (xs ++ ys)) 0 (t x h.0 ∙ pass) ∙ omega (arith, prefix_len-high p t pass xs ys h.1)

length-append : (xs ys : List ℕ) → length (xs ++ ys) ≡ length xs + length ys
length-append [] ys = omega arith
length-append (x ∷ xs) ys = omega (arith, length-append xs ys)

are-high : (bs : List ℕ) → IsHigh bs → AreHigh bs
are-high bs v = subst AreHigh (sym v.is) (v.high, v.others)

module _ (p : ℕ → Bool) (t : IsAsciiTest p) (c : ℕ) (cs : List ℕ) (ih : prefix_len p (encodes cs) ≡ length (encodes (take_while p cs))) where
  run-low : (b : Bool) → encode c ≡ c ∷ [] → cond b (1 + prefix_len p (encodes cs)) 0 ≡ length (encodes (cond b (c ∷ take_while p cs) []))
  run-low true e = omega (arith, ih, ap (λ xs. length (xs ++ encodes (take_while p cs))) e)
  run-low false e = refl

  run-high : (b : Bool) → p 128 ≡ b → IsHigh (encode c) → prefix_len p (encode c ++ encodes cs) ≡ length (encodes (cond b (c ∷ take_while p cs) []))
  run-high true pass v =
      prefix_len-high p t pass (encode c) (encodes cs) (are-high (encode c) v)
      ∙ omega (arith, ih, length-append (encode c) (encodes (take_while p cs)))
  run-high false stop v = ap (λ xs. prefix_len p (xs ++ encodes cs)) v.is ∙ cond-false (p v.first) _ 0 (t v.first v.high ∙ stop)

  run-step : (c < 128) ⊎ (128 ≤ c) → prefix_len p (encode c ++ encodes cs) ≡ length (encodes (cond (p c) (c ∷ take_while p cs) []))
  run-step (inl low) = ap (λ xs. prefix_len p (xs ++ encodes cs)) (encode_ascii c low) ∙ run-low (p c) (encode_ascii c low)
  run-step (inr high) = run-high (p c) (sym (t c high)) (encode-high c high)

prefix_len-encodes : (p : ℕ → Bool) → IsAsciiTest p → (cs : List ℕ) → prefix_len p (encodes cs) ≡ length (encodes (take_while p cs))
prefix_len-encodes p t [] = refl
prefix_len-encodes p t (c ∷ cs) =
    run-step p t c cs (prefix_len-encodes p t cs) (cases_lt c 128) ∙ ap (λ xs. length (encodes xs)) (sym (take_while-cons p c cs))

length-some : (xs : List ℕ) → nat_lt 0 (length (encodes xs)) ≡ nat_lt 0 (length xs)
length-some [] = refl
length-some (c ∷ cs) = lt-ltb 0 (length (encode c ++ encodes cs)) (omega (arith, length-append (encode c) (encodes cs), length-encode c, len_utf8_bounds c))
    ∙ sym (lt-ltb 0 (suc (length cs)) (omega arith))

run-some : (p : ℕ → Bool) → IsAsciiTest p → (cs : List ℕ) → nat_lt 0 (prefix_len p (encodes cs)) ≡ nat_lt 0 (prefix_len p cs)
run-some p t cs = ap (nat_lt 0) (prefix_len-encodes p t cs) ∙ length-some (take_while p cs) ∙ ap (nat_lt 0) (length-prefix_len p cs)

take-length : (xs ys : List ℕ) → take (length xs) (xs ++ ys) ≡ xs
take-length [] ys = refl
take-length (x ∷ xs) ys = ap (λ zs. x ∷ zs) (take-length xs ys)

drop-length : (xs ys : List ℕ) → drop (length xs) (xs ++ ys) ≡ ys
drop-length [] ys = refl
drop-length (x ∷ xs) ys = drop-length xs ys

-- the text, cut after a number of its characters
cut : (n : ℕ) (cs : List ℕ) → encodes cs ≡ encodes (take n cs) ++ encodes (drop n cs)
cut n cs = ap encodes (sym (take-append-drop n cs)) ∙ encodes-append (take n cs) (drop n cs)

scalars-take : (n : ℕ) (cs : List ℕ) → scalars cs ≡ true → scalars (take n cs) ≡ true
scalars-take zero cs h = refl
scalars-take (suc n) [] h = refl
scalars-take (suc n) (c ∷ cs) h = let parts = and_parts (scalar c) (scalars cs) h in and_from _ _ parts.0 (scalars-take n cs parts.1)

scalars-drop : (n : ℕ) (cs : List ℕ) → scalars cs ≡ true → scalars (drop n cs) ≡ true
scalars-drop zero cs h = h
scalars-drop (suc n) [] h = refl
scalars-drop (suc n) (c ∷ cs) h = scalars-drop n cs (and_parts (scalar c) (scalars cs) h).1

module _ (p : ℕ → Bool) (t : IsAsciiTest p) (bs cs : List ℕ) (s : Spells bs cs) where
  take_while-spells : Spells (take_while p bs) (take_while p cs)
  take_while-spells = record {
    scalar = scalars-take (prefix_len p cs) cs s.scalar;
    same = subst (λ xs. encodes (take_while p cs) ≡ take_while p xs) s.same
        (sym (ap (λ n. take n (encodes cs)) (prefix_len-encodes p t cs) ∙ ap (take (length (encodes (take_while p cs)))) (cut (prefix_len p cs) cs)
        ∙ take-length (encodes (take_while p cs)) (encodes (after_run p cs))));
  }

  after_run-spells : Spells (after_run p bs) (after_run p cs)
  after_run-spells = record {
    scalar = scalars-drop (prefix_len p cs) cs s.scalar;
    same = subst (λ xs. encodes (after_run p cs) ≡ after_run p xs) s.same
        (sym (ap (λ n. drop n (encodes cs)) (prefix_len-encodes p t cs) ∙ ap (drop (length (encodes (take_while p cs)))) (cut (prefix_len p cs) cs)
        ∙ drop-length (encodes (take_while p cs)) (encodes (after_run p cs))));
  }

  some-spells : nat_lt 0 (prefix_len p bs) ≡ nat_lt 0 (prefix_len p cs)
  some-spells = subst (λ xs. nat_lt 0 (prefix_len p xs) ≡ nat_lt 0 (prefix_len p cs)) s.same (run-some p t cs)

-- both are nothing, or both are something
abbrev pub Both : {A B : Type 0} → (A → B → Type 0) → Option A → Option B → Type 0
Both R None None = Unit {0}
Both R None (Some y) = ⊥
Both R (Some x) None = ⊥
Both R (Some x) (Some y) = R x y

both-bind : {A B C D : Type 0} (R : A → B → Type 0) (S : C → D → Type 0) (o : Option A) (u : Option B) (f : A → Option C) (g : B → Option D)
    → Both R o u → ((x : A) (y : B) → R x y → Both S (f x) (g y)) → Both S (o >>= f) (u >>= g)
both-bind R S None None f g h k = tt
both-bind R S None (Some y) f g h k = absurd h
both-bind R S (Some x) None f g h k = absurd h
both-bind R S (Some x) (Some y) f g h k = k x y h

both-only_if : {A B : Type 0} (R : A → B → Type 0) (b d : Bool) (x : A) (y : B) → b ≡ d → R x y → Both R (only_if b x) (only_if d y)
both-only_if R true true x y e r = r
both-only_if R true false x y e r = absurd (false≢true (sym e))
both-only_if R false true x y e r = absurd (false≢true e)
both-only_if R false false x y e r = tt

both-or : {A B : Type 0} (R : A → B → Type 0) (o p : Option A) (u v : Option B) → Both R o u → Both R p v → Both R (option_or o p) (option_or u v)
both-or R None p None v h k = k
both-or R None p (Some y) v h k = absurd h
both-or R (Some x) p None v h k = absurd h
both-or R (Some x) p (Some y) v h k = h

abbrev SpellBoth : List ℕ × List ℕ → List ℕ × List ℕ → Type 0
SpellBoth x y = Spells x.0 y.0 × Spells x.1 y.1

-- the parts of an item of bytes are those of an item of characters
pub record SpellsItem (b c : Item) : Type 0 where
  pub name : Both Spells b.name c.name
  pub value : Spells b.value c.value
  pub rest : Spells b.rest c.rest

neither : {A B : Type 0} (R : A → B → Type 0) (a b : Bool) (x : A) (y : B) → a ≡ false → b ≡ false → Both R (only_if a x) (only_if b y)
neither R true b x y e f = absurd (false≢true (sym e))
neither R false true x y e f = absurd (false≢true (sym f))
neither R false false x y e f = tt

module _ (c : ℕ) (cs : List ℕ) (h : scalars cs ≡ true) where
  after_char-encodes : (q : ℕ) → q < 128 → (c < 128) ⊎ (128 ≤ c) → Both Spells (after_char q (encode c ++ encodes cs)) (only_if (c == q) cs)
  after_char-encodes q l (inl low) =
      subst (λ xs. Both Spells (after_char q (xs ++ encodes cs)) (only_if (c == q) cs)) (sym (encode_ascii c low))
      (both-only_if Spells (c == q) (c == q) (encodes cs) cs refl (record { scalar = h; same = refl }))
  after_char-encodes q l (inr high) =
      let v = encode-high c high in
      subst (λ xs. Both Spells (after_char q (xs ++ encodes cs)) (only_if (c == q) cs)) (sym v.is)
      (neither Spells (v.first == q) (c == q) (v.more ++ encodes cs) cs (ne_eqb v.first q (λ e. omega (arith, v.high))) (ne_eqb c q (λ e. omega arith)))

  is_ended-encodes : (c < 128) ⊎ (128 ≤ c) → is_ended (encode c ++ encodes cs) ≡ is_white c
  is_ended-encodes (inl low) = ap (λ xs. is_ended (xs ++ encodes cs)) (encode_ascii c low)
  is_ended-encodes (inr high) =
      let v = encode-high c high in
      ap (λ xs. is_ended (xs ++ encodes cs)) v.is ∙ white-test v.first v.high ∙ sym (white-test c high)

after_char-all : (q : ℕ) → q < 128 → (cs : List ℕ) → scalars cs ≡ true → Both Spells (after_char q (encodes cs)) (after_char q cs)
after_char-all q l [] h = tt
after_char-all q l (c ∷ cs) h = after_char-encodes c cs (and_parts (scalar c) (scalars cs) h).1 q l (cases_lt c 128)

is_ended-all : (cs : List ℕ) → scalars cs ≡ true → is_ended (encodes cs) ≡ is_ended cs
is_ended-all [] h = refl
is_ended-all (c ∷ cs) h = is_ended-encodes c cs (and_parts (scalar c) (scalars cs) h).1 (cases_lt c 128)

-- a form whose quote is ASCII
abbrev IsAsciiForm : Form → Type 0
IsAsciiForm (Quoted q) = q < 128
IsAsciiForm Bare = Unit {0}
IsAsciiForm Word = Unit {0}

module _ (bs cs : List ℕ) (s : Spells bs cs) where
  after_char-spells : (q : ℕ) → q < 128 → Both Spells (after_char q bs) (after_char q cs)
  after_char-spells q l = subst (λ xs. Both Spells (after_char q xs) (after_char q cs)) s.same (after_char-all q l cs s.scalar)

  is_ended-spells : is_ended bs ≡ is_ended cs
  is_ended-spells = subst (λ xs. is_ended xs ≡ is_ended cs) s.same (is_ended-all cs s.scalar)

  run_at-spells : (p : ℕ → Bool) → IsAsciiTest p → Both SpellBoth (run_at p bs) (run_at p cs)
  unfolding run_at
  run_at-spells p t =
      both-only_if SpellBoth _ _ _ _ (some-spells p t bs cs s) (take_while-spells p t bs cs s, after_run-spells p t bs cs s)

  pub skip_white-spells : Spells (skip_white bs) (skip_white cs)
  skip_white-spells = after_run-spells is_white white-test bs cs s

module _ (bs cs : List ℕ) (s : Spells bs cs) where
  quoted_at-spells : (q : ℕ) → q < 128 → Both SpellBoth (quoted_at q bs) (quoted_at q cs)
  unfolding quoted_at
  quoted_at-spells q l =
      both-bind Spells SpellBoth (after_char q bs) (after_char q cs) _ _ (after_char-spells bs cs s q l)
      (λ x y r. both-bind Spells SpellBoth _ _ _ _
      (after_char-spells (after_run (λ c. not (c == q)) x) (after_run (λ c. not (c == q)) y) (after_run-spells _ (until-test q l) x y r) q l)
      (λ v w t. (take_while-spells _ (until-test q l) x y r, t)))

  spelled_at-spells : (form : Form) → IsAsciiForm form → Both SpellBoth (spelled_at form bs) (spelled_at form cs)
  spelled_at-spells (Quoted q) l = quoted_at-spells q l
  spelled_at-spells Bare l = run_at-spells bs cs s is_bare_char bare-test
  spelled_at-spells Word l = run_at-spells bs cs s is_word_char word-test

  value_at-spells : (form : Form) → IsAsciiForm form → Both SpellBoth (value_at form bs) (value_at form cs)
  unfolding value_at
  value_at-spells form l =
      both-bind SpellBoth SpellBoth (spelled_at form bs) (spelled_at form cs) _ _ (spelled_at-spells form l)
      (λ v w r. both-only_if SpellBoth _ _ v w (is_ended-spells v.1 w.1 r.1) r)

module _ (bs cs : List ℕ) (s : Spells bs cs) where
  single_at-spells : (form : Form) → IsAsciiForm form → Both SpellsItem (single_at form bs) (single_at form cs)
  unfolding single_at
  single_at-spells form l =
      both-bind SpellBoth SpellsItem (value_at form bs) (value_at form cs) _ _ (value_at-spells bs cs s form l)
      (λ v w r. record { name = tt; value = r.0; rest = r.1 })

  named_at-spells : (form : Form) → IsAsciiForm form → Both SpellsItem (named_at form bs) (named_at form cs)
  unfolding named_at
  named_at-spells form l =
      both-bind SpellBoth SpellsItem (run_at is_name_byte bs) (run_at is_name_byte cs) _ _ (run_at-spells bs cs s is_name_byte name-test)
      (λ n m r. both-bind Spells SpellsItem (after_char 61 (skip_white n.1)) (after_char 61 (skip_white m.1)) _ _
      (after_char-spells (skip_white n.1) (skip_white m.1) (skip_white-spells n.1 m.1 r.1) 61 (omega arith))
      (λ x y t. both-bind SpellBoth SpellsItem (value_at form (skip_white x)) (value_at form (skip_white y)) _ _
      (value_at-spells (skip_white x) (skip_white y) (skip_white-spells x y t) form l)
      (λ v w u. record { name = r.0; value = u.0; rest = u.1 })))

  pub item_at-spells : Both SpellsItem (item_at bs) (item_at cs)
  unfolding item_at
  item_at-spells =
      both-or SpellsItem _ _ _ _ (named_at-spells (Quoted 34) (omega arith))
      (both-or SpellsItem _ _ _ _ (named_at-spells (Quoted 39) (omega arith))
      (both-or SpellsItem _ _ _ _ (named_at-spells Bare tt)
      (both-or SpellsItem _ _ _ _ (single_at-spells (Quoted 34) (omega arith))
      (both-or SpellsItem _ _ _ _ (single_at-spells (Quoted 39) (omega arith)) (single_at-spells Word tt)))))

-- values
lower-high : (c : ℕ) → 128 ≤ c → to_ascii_lowercase c ≡ c
lower-high c h = grind (arith, nat_tests)

map_lower-high : (xs ys : List ℕ) → AreHigh xs → map to_ascii_lowercase (xs ++ ys) ≡ xs ++ map to_ascii_lowercase ys
map_lower-high [] ys h = refl
map_lower-high (x ∷ xs) ys h = λ i. lower-high x h.0 i ∷ map_lower-high xs ys h.1 i

unescaped-other : (c : ℕ) (cs : List ℕ) → (c == 92) ≡ false → without_escapes (c ∷ cs) ≡ c ∷ without_escapes cs
unescaped-other c [] e = refl
unescaped-other c (d ∷ cs) e = cond-false (c == 92) _ _ e

unescaped-high : (xs ys : List ℕ) → AreHigh xs → without_escapes (xs ++ ys) ≡ xs ++ without_escapes ys
unescaped-high [] ys h = refl
unescaped-high (x ∷ xs) ys h =
    unescaped-other x (xs ++ ys) (ne_eqb x 92 (λ e. omega (arith, h.0))) ∙ ap (λ zs. x ∷ zs) (unescaped-high xs ys h.1)

escaped-high : (c : ℕ) → 128 ≤ c → escape_meaning c ≡ c
escaped-high c h = grind (arith, nat_tests)

escaped-low : (c : ℕ) → c < 128 → escape_meaning c < 128
escaped-low c h = grind (arith, nat_tests)

with-char : (c : ℕ) → scalar c ≡ true → (bs cs : List ℕ) → Spells bs cs → Spells (encode c ++ bs) (c ∷ cs)
with-char c h bs cs s = record { scalar = and_from (scalar c) (scalars cs) h s.scalar; same = ap (λ xs. encode c ++ xs) s.same }

-- a backslash, and any other character
unescaped-char : (c : ℕ) → (c == 92) ≡ false → (c < 128) ⊎ (128 ≤ c) → (bs : List ℕ) → without_escapes (encode c ++ bs) ≡ encode c ++ without_escapes bs
unescaped-char c e (inl low) bs =
    ap (λ xs. without_escapes (xs ++ bs)) (encode_ascii c low) ∙ unescaped-other c bs e ∙ ap (λ xs. xs ++ without_escapes bs) (sym (encode_ascii c low))
unescaped-char c e (inr high) bs = unescaped-high (encode c) bs (are-high (encode c) (encode-high c high))

unescaped-backslash : (d : ℕ) → (d < 128) ⊎ (128 ≤ d) → (bs : List ℕ) → without_escapes (92 ∷ (encode d ++ bs)) ≡ encode (escape_meaning d)
    ++ without_escapes bs
unescaped-backslash d (inl low) bs =
    ap (λ xs. without_escapes (92 ∷ (xs ++ bs))) (encode_ascii d low) ∙ ap (λ xs. xs ++ without_escapes bs)
    (sym (encode_ascii (escape_meaning d) (escaped-low d low)))
unescaped-backslash d (inr high) bs =
    let v = encode-high d high in
    ap (λ xs. without_escapes (92 ∷ (xs ++ bs))) v.is
    ∙ (λ i. escaped-high v.first v.high i ∷ unescaped-high v.more bs v.others i)
    ∙ ap (λ xs. xs ++ without_escapes bs) (sym v.is)
    ∙ ap (λ e. encode e ++ without_escapes bs) (sym (escaped-high d high))

escaped-scalar : (d : ℕ) → scalar d ≡ true → (d < 128) ⊎ (128 ≤ d) → scalar (escape_meaning d) ≡ true
escaped-scalar d h (inl low) = low_scalar (escape_meaning d) (omega (arith, escaped-low d low))
escaped-scalar d h (inr high) = ap scalar (escaped-high d high) ∙ h

-- the choice by whether c is a backslash
unescaped-last : (c : ℕ) → scalar c ≡ true → (b : Bool) → (c == 92) ≡ b → Spells (without_escapes (encode c ++ [])) (c ∷ [])
unescaped-last c h true e =
    subst (λ c. Spells (without_escapes (encode c ++ [])) (c ∷ [])) (sym (eqb-true c 92 e))
    (subst (λ xs. Spells (without_escapes (xs ++ [])) (92 ∷ [])) (sym (encode_ascii 92 (omega arith)))
    (record { scalar = refl; same = ap (λ xs. xs ++ []) (encode_ascii 92 (omega arith)) }))
unescaped-last c h false e =
    subst (λ xs. Spells xs (c ∷ [])) (sym (unescaped-char c e (cases_lt c 128) [])) (with-char c h [] [] (record { scalar = refl; same = refl }))

unescaped-more : (c d : ℕ) (cs : List ℕ) → scalar c ≡ true → scalar d ≡ true → Spells (without_escapes (encodes cs)) (without_escapes cs)
    → Spells (without_escapes (encodes (d ∷ cs))) (without_escapes (d ∷ cs)) → (b : Bool) → (c == 92) ≡ b
    → Spells (without_escapes (encode c ++ encodes (d ∷ cs))) (cond b (escape_meaning d ∷ without_escapes cs) (c ∷ without_escapes (d ∷ cs)))
unescaped-more c d cs h k s t true e =
    subst (λ c. Spells (without_escapes (encode c ++ encodes (d ∷ cs))) (escape_meaning d ∷ without_escapes cs)) (sym (eqb-true c 92 e))
    (subst (λ xs. Spells (without_escapes (xs ++ encodes (d ∷ cs))) (escape_meaning d ∷ without_escapes cs)) (sym (encode_ascii 92 (omega arith)))
    (subst (λ xs. Spells xs (escape_meaning d ∷ without_escapes cs)) (sym (unescaped-backslash d (cases_lt d 128) (encodes cs)))
    (with-char (escape_meaning d) (escaped-scalar d k (cases_lt d 128)) _ _ s)))
unescaped-more c d cs h k s t false e =
    subst (λ xs. Spells xs (c ∷ without_escapes (d ∷ cs))) (sym (unescaped-char c e (cases_lt c 128) (encodes (d ∷ cs)))) (with-char c h _ _ t)

unescaped-all : (cs : List ℕ) → scalars cs ≡ true → Spells (without_escapes (encodes cs)) (without_escapes cs)
unescaped-all [] h = record { scalar = refl; same = refl }
unescaped-all (c ∷ []) h = unescaped-last c (and_parts (scalar c) true h).0 (c == 92) refl
unescaped-all (c ∷ d ∷ cs) h =
    let a = and_parts (scalar c) (scalars (d ∷ cs)) h in
    let b = and_parts (scalar d) (scalars cs) a.1 in
    unescaped-more c d cs a.0 b.0 (unescaped-all cs b.1) (unescaped-all (d ∷ cs) a.1) (c == 92) refl

-- tags that stay open
or-none : {A : Type 0} (o : Option A) → option_or o None ≡ o
or-none None = refl
or-none (Some x) = refl

only_if-false : {A : Type 0} (b : Bool) (x : A) → b ≡ false → only_if b x ≡ None
only_if-false true x e = absurd (false≢true (sym e))
only_if-false false x e = refl

opening-none : (c : ℕ) (o : Option (List ℕ)) (xs : List ℕ) → 128 ≤ c → option_or o (only_if (c == 60) xs) ≡ o
opening-none c o xs h = ap (option_or o) (only_if-false (c == 60) xs (ne_eqb c 60 (λ e. omega arith))) ∙ or-none o

opening-high : (xs ys : List ℕ) → AreHigh xs → after_last_opening (xs ++ ys) ≡ after_last_opening ys
opening-high [] ys h = refl
opening-high (x ∷ xs) ys h = opening-none x (after_last_opening (xs ++ ys)) (xs ++ ys) h.0 ∙ opening-high xs ys h.1

closing-high : (xs ys : List ℕ) → AreHigh xs → has_closing (xs ++ ys) ≡ has_closing ys
closing-high [] ys h = refl
closing-high (x ∷ xs) ys h = ap (λ b. b || has_closing (xs ++ ys)) (ne_eqb x 62 (λ e. omega (arith, h.0))) ∙ closing-high xs ys h.1

module _ (c : ℕ) (cs : List ℕ) where
  opening-step : Spells (encodes cs) cs → Both Spells (after_last_opening (encodes cs)) (after_last_opening cs) → (c < 128) ⊎ (128 ≤ c)
      → Both Spells (after_last_opening (encode c ++ encodes cs)) (after_last_opening (c ∷ cs))
  opening-step s ih (inl low) =
      subst (λ xs. Both Spells (after_last_opening (xs ++ encodes cs)) (after_last_opening (c ∷ cs))) (sym (encode_ascii c low))
      (both-or Spells _ _ _ _ ih (both-only_if Spells (c == 60) (c == 60) _ _ refl s))
  opening-step s ih (inr high) =
      subst (λ o. Both Spells o (after_last_opening (c ∷ cs))) (sym (opening-high (encode c) (encodes cs) (are-high (encode c) (encode-high c high))))
      (subst (λ o. Both Spells (after_last_opening (encodes cs)) o) (sym (opening-none c (after_last_opening cs) cs high)) ih)

  closing-step : has_closing (encodes cs) ≡ has_closing cs → (c < 128) ⊎ (128 ≤ c) → has_closing (encode c ++ encodes cs) ≡ has_closing (c ∷ cs)
  closing-step ih (inl low) = ap (λ xs. has_closing (xs ++ encodes cs)) (encode_ascii c low) ∙ ap (λ b. (c == 62) || b) ih
  closing-step ih (inr high) =
      closing-high (encode c) (encodes cs) (are-high (encode c) (encode-high c high)) ∙ ih
      ∙ ap (λ b. b || has_closing cs) (sym (ne_eqb c 62 (λ e. omega arith)))

opening-all : (cs : List ℕ) → scalars cs ≡ true → Both Spells (after_last_opening (encodes cs)) (after_last_opening cs)
opening-all [] h = tt
opening-all (c ∷ cs) h =
    let rest = (and_parts (scalar c) (scalars cs) h).1 in
    opening-step c cs (record { scalar = rest; same = refl }) (opening-all cs rest) (cases_lt c 128)

closing-all : (cs : List ℕ) → has_closing (encodes cs) ≡ has_closing cs
closing-all [] = refl
closing-all (c ∷ cs) = closing-step c cs (closing-all cs) (cases_lt c 128)

open-both : (o u : Option (List ℕ)) → Both Spells o u
    → option_map_or (λ rest. not (has_closing rest)) o false ≡ option_map_or (λ rest. not (has_closing rest)) u false
open-both None None h = refl
open-both None (Some y) h = absurd h
open-both (Some x) None h = absurd h
open-both (Some x) (Some y) h = ap (λ xs. not (has_closing xs)) (sym h.same) ∙ ap not (closing-all y)

open-spells : (bs cs : List ℕ) → Spells bs cs → has_open_tag bs ≡ has_open_tag cs
open-spells bs cs s =
    ap has_open_tag (sym s.same) ∙ open-both (after_last_opening (encodes cs)) (after_last_opening cs) (opening-all cs s.scalar)

unescaped-spells : (bs cs : List ℕ) → Spells bs cs → Spells (without_escapes bs) (without_escapes cs)
unescaped-spells bs cs s = subst (λ xs. Spells (without_escapes xs) (without_escapes cs)) s.same (unescaped-all cs s.scalar)

emptied : (a b : Bool) (bs cs : List ℕ) → a ≡ b → Spells bs cs → Spells (if a then [] else bs) (if b then [] else cs)
emptied true true bs cs e s = record { scalar = refl; same = refl }
emptied true false bs cs e s = absurd (false≢true (sym e))
emptied false true bs cs e s = absurd (false≢true e)
emptied false false bs cs e s = s

meaning-spells : (bs cs : List ℕ) → Spells bs cs → Spells (meaning bs) (meaning cs)
unfolding meaning
meaning-spells bs cs s =
    let t = unescaped-spells bs cs s in
    emptied (has_open_tag (without_escapes bs)) (has_open_tag (without_escapes cs)) _ _ (open-spells (without_escapes bs) (without_escapes cs) t) t

-- names
lower-char : (c : ℕ) (bs : List ℕ) → (c < 128) ⊎ (128 ≤ c)
    → map to_ascii_lowercase (encode c ++ bs) ≡ encode (to_ascii_lowercase c) ++ map to_ascii_lowercase bs
lower-char c bs (inl low) =
    ap (λ xs. map to_ascii_lowercase (xs ++ bs)) (encode_ascii c low)
    ∙ ap (λ xs. xs ++ map to_ascii_lowercase bs) (sym (encode_ascii (to_ascii_lowercase c) (lowercase_ascii c low)))
lower-char c bs (inr high) =
    map_lower-high (encode c) bs (are-high (encode c) (encode-high c high))
    ∙ ap (λ d. encode d ++ map to_ascii_lowercase bs) (sym (lower-high c high))

lower-all : (cs : List ℕ) → map to_ascii_lowercase (encodes cs) ≡ encodes (map to_ascii_lowercase cs)
lower-all [] = refl
lower-all (c ∷ cs) = lower-char c (encodes cs) (cases_lt c 128) ∙ ap (λ xs. encode (to_ascii_lowercase c) ++ xs) (lower-all cs)

-- of texts
spells-chars : (bs : List ℕ) → IsUtf8 bs → Spells bs (chars bs)
spells-chars bs u = record { scalar = scalars-chars bs u; same = encodes-chars bs u }

text-spells : (bs cs : List ℕ) → Spells bs cs → IsUtf8 bs
text-spells bs cs s = (cs, (s.scalar, s.same))

chars-spells : (bs cs : List ℕ) → Spells bs cs → chars bs ≡ cs
chars-spells bs cs s = ap chars (sym s.same) ∙ chars-encodes cs s.scalar

pub unescaped-text : (bs : List ℕ) → IsUtf8 bs → IsUtf8 (without_escapes bs)
unescaped-text bs u = text-spells (without_escapes bs) (without_escapes (chars bs)) (unescaped-spells bs (chars bs) (spells-chars bs u))

pub meaning-text : (bs : List ℕ) → IsUtf8 bs → meaning bs ≡ encodes (meaning (chars bs))
meaning-text bs u = sym (meaning-spells bs (chars bs) (spells-chars bs u)).same

pub lower-text : (bs : List ℕ) → IsUtf8 bs → map to_ascii_lowercase bs ≡ encodes (map to_ascii_lowercase (chars bs))
lower-text bs u = ap (map to_ascii_lowercase) (sym (encodes-chars bs u)) ∙ lower-all (chars bs)

name-spelled : (o u : Option (List ℕ)) → Both Spells o u → IfSome o IsUtf8 × (option_map chars o ≡ u)
name-spelled None None h = (tt, refl)
name-spelled None (Some y) h = absurd h
name-spelled (Some x) None h = absurd h
name-spelled (Some x) (Some y) h = (text-spells x y h, ap Some (chars-spells x y h))

item-spelled : (b c : Item) → SpellsItem b c → IsText b × (item_spelling b ≡ c)
item-spelled b c s =
    let name = name-spelled b.name c.name s.name in (
      record { name = name.0; value = text-spells b.value c.value s.value; rest = text-spells b.rest c.rest s.rest },
      λ i. record { name = name.1 i; value = chars-spells b.value c.value s.value i; rest = chars-spells b.rest c.rest s.rest i },
    )

found-both : (o u : Option Item) → Both SpellsItem o u → (it : Item) → o ≡ Some it → IsText it × (u ≡ Some (item_spelling it))
found-both None u h it e = absurd (none-some it e)
found-both (Some x) None h it e = absurd h
found-both (Some x) (Some y) h it e =
    let found = item-spelled x y h in
    subst (λ z. IsText z × (Some y ≡ Some (item_spelling z))) (same_Some x it e) (found.0, ap Some (sym found.1))

none-both : (o u : Option Item) → Both SpellsItem o u → o ≡ None → u ≡ None
none-both None None h e = refl
none-both None (Some y) h e = absurd h
none-both (Some x) u h e = absurd (none-some x (sym e))

next-both : (bs : List ℕ) → IsUtf8 bs → Both SpellsItem (item_at (skip_white bs)) (item_at (skip_white (chars bs)))
next-both bs u = item_at-spells (skip_white bs) (skip_white (chars bs)) (skip_white-spells bs (chars bs) (spells-chars bs u))

-- the item at the front of a text is that of its characters
pub next-found : (bs : List ℕ) → IsUtf8 bs → (it : Item) → item_at (skip_white bs) ≡ Some it → IsText it
    × (item_at (skip_white (chars bs)) ≡ Some (item_spelling it))
next-found bs u = found-both (item_at (skip_white bs)) (item_at (skip_white (chars bs))) (next-both bs u)

pub next-none : (bs : List ℕ) → IsUtf8 bs → item_at (skip_white bs) ≡ None → item_at (skip_white (chars bs)) ≡ None
next-none bs u = none-both (item_at (skip_white bs)) (item_at (skip_white (chars bs))) (next-both bs u)
