-- A text with U+FFFD for what is not UTF-8 has the name or the number of the bytes, since names and numbers are ASCII.
use Rattle.std.proofs.Common.{◌≡◌, inl, inr, Bool, true, false, List, [], ◌∷◌, ◌++◌, ℕ, zero, suc, ◌+◌, ◌-◌, ◌*◌, ◌/◌, ◌%◌, length, take, None, Some}
use Rattle.std.proofs.Common.{Option, option_and_then, option_map, map, if◌then◌else◌, nat_lt, nat_le, nat_eq, ◌≤◌, lit<, refl, sym, ap, arith, ◌∙◌, ◌&&◌}
use Rattle.std.proofs.Common.{eq-eqb}
use Rattle.std.proofs.lemmas.Bool.{cases_Bool, and_parts, and_right, ltb-true, leb-true, lt-ltb}
use Rattle.std.proofs.lemmas.Str.{IsUtf8-from_ascii, utf8_lossy-IsUtf8, utf8_lossy_step}
use Rattle.std.proofs.lemmas.List.Folds.{list_all-append, find-append}
use Rattle.std.proofs.lemmas.List.{reverse-append}
use Rattle.std.specs.Prelude.{find, reverse}
use Rattle.std.proofs.lemmas.Slice.Eq.{bytes_eq-Decides}
use Rattle.std.specs.List.{list_all}
use Rattle.std.specs.Str.{IsAscii, bytes_eq}
use Rattle.std.specs.Str.Lossy.{utf8_lossy, utf8_lossy_within, utf8_valid_len}
use Rattle.std.specs.Option.{option_or, option_map_or}
use Rattle.form_urlencoded.specs.Form.{decode, DecodesTo}
use Rattle.permalink_query.specs.Numbers.{is_within, whole_number, year_and_month}
use Rattle.permalink_query.specs.Paths.{last_value}
use Rattle.site_records.specs.Digits.{number, number_from, is_digit}
use Rattle.site_records.specs.Ids.{max_id}

abbrev pub is_ascii : List ℕ → Bool
is_ascii = list_all (λ b. nat_lt b 128)

is_ascii-IsAscii : (bs : List ℕ) → is_ascii bs ≡ true → IsAscii bs
is_ascii-IsAscii [] h zero = lit< tt
is_ascii-IsAscii [] h (suc i) = lit< tt
is_ascii-IsAscii (b ∷ bs) h zero = ltb-true b 128 (and_parts (nat_lt b 128) (is_ascii bs) h).0
is_ascii-IsAscii (b ∷ bs) h (suc i) = is_ascii-IsAscii bs (and_parts (nat_lt b 128) (is_ascii bs) h).1 i

-- ASCII stays as it is
lossy-ascii : (bs : List ℕ) → is_ascii bs ≡ true → utf8_lossy bs ≡ bs
lossy-ascii bs h = utf8_lossy-IsUtf8 bs (IsUtf8-from_ascii bs (is_ascii-IsAscii bs h))

within-valid : (k : ℕ) (bs : List ℕ) → nat_eq (utf8_valid_len bs) (length bs) ≡ true → utf8_lossy_within k bs ≡ bs
within-valid zero bs h = refl
within-valid (suc k) bs h = rw h refl

lossy-valid : (bs : List ℕ) → nat_eq (utf8_valid_len bs) (length bs) ≡ true → utf8_lossy bs ≡ bs
unfolding utf8_lossy
lossy-valid bs h = within-valid (length bs) bs h

not_ascii_after : (front rest : List ℕ) → is_ascii (front ++ (0xEF ∷ rest)) ≡ false
not_ascii_after front rest = list_all-append (λ b. nat_lt b 128) front (0xEF ∷ rest) ∙ and_right (is_ascii front) false refl

-- U+FFFD is not ASCII, so what becomes ASCII was so
lossy-not_ascii : (bs : List ℕ) → is_ascii bs ≡ false → is_ascii (utf8_lossy bs) ≡ false
lossy-not_ascii bs h =
    elim (cases_Bool (nat_eq (utf8_valid_len bs) (length bs))) [
      | inl holds ↦ rw (lossy-valid bs holds) h
      | inr fails ↦
          let cut : utf8_valid_len bs ≡ length bs → ⊥ = λ e. let holds = eq-eqb _ _ e in cc in
          rw (utf8_lossy_step bs cut) (not_ascii_after (take (utf8_valid_len bs) bs) _)
    ]

digit_ascii : (b : ℕ) → is_digit b ≡ true → nat_lt b 128 ≡ true
digit_ascii b h = let at_most : b ≤ 57 = leb-true b 57 (and_parts (nat_le 48 b) (nat_le b 57) h).1 in lt-ltb b 128 (omega arith)

-- digits are ASCII
number-not_ascii : (n : ℕ) (bs : List ℕ) → is_ascii bs ≡ false → number_from n bs ≡ None
number-not_ascii n [] h = cc
number-not_ascii n (b ∷ bs) h =
    elim (cases_Bool (is_digit b)) [
      | inl holds ↦ let rest : is_ascii bs ≡ false = rw (digit_ascii b holds) at h in rw holds (number-not_ascii (10 * n + (b - 48)) bs rest)
      | inr fails ↦ rw fails refl
    ]

-- what is read of a number is the same
lossy_number : {A : Type 0} (f : List ℕ → ℕ → Option A) (bs : List ℕ)
    → option_and_then (f (utf8_lossy bs)) (number (utf8_lossy bs)) ≡ option_and_then (f bs) (number bs)
lossy_number f bs =
    elim (cases_Bool (is_ascii bs)) [
      | inl holds ↦ rw (lossy-ascii bs holds) refl
      | inr fails ↦ rw (number-not_ascii 0 bs fails, number-not_ascii 0 (utf8_lossy bs) (lossy-not_ascii bs fails)) refl
    ]

differ : (bs name : List ℕ) → is_ascii bs ≡ false → is_ascii name ≡ true → bytes_eq bs name ≡ false
differ bs name fails holds =
    elim (cases_Bool (bytes_eq bs name)) [
      | inl same ↦ let e = (bytes_eq-Decides bs name).0 same in let f = ap is_ascii e in cc
      | inr other ↦ other
    ]

pub lossy-whole_number : (bs : List ℕ) → whole_number (utf8_lossy bs) ≡ whole_number bs
lossy-whole_number bs = lossy_number (λ text n. if is_within 1 10 (length text) && nat_le n max_id then Some n else None) bs

pub lossy-year_and_month : (bs : List ℕ) → year_and_month (utf8_lossy bs) ≡ year_and_month bs
lossy-year_and_month bs =
    lossy_number
    (λ text n. if nat_eq (length text) 6 && (nat_le 1 (n / 100) && is_within 1 12 (n % 100)) then Some (n / 100, n % 100) else None) bs

-- an ASCII name is the same
pub lossy_name : (bs name : List ℕ) → is_ascii name ≡ true → bytes_eq (utf8_lossy bs) name ≡ bytes_eq bs name
lossy_name bs name h =
    elim (cases_Bool (is_ascii bs)) [
      | inl holds ↦ rw (lossy-ascii bs holds) refl
      | inr fails ↦ differ (utf8_lossy bs) name (lossy-not_ascii bs fails) h ∙ sym (differ bs name fails h)
    ]

-- ---- the last value of a name, as a walk over the pairs finds it

-- the last value under the name among the pairs, or else the one that was found before
abbrev pub latest : List ℕ → Option (List ℕ) → List (List ℕ × List ℕ) → Option (List ℕ)
latest name before [] = before
latest name before (p ∷ ps) = latest name (if bytes_eq (decode p.0) name then Some (utf8_lossy (decode p.1)) else before) ps

or_none : {A : Type 0} (o : Option A) → option_or o None ≡ o
or_none None = refl
or_none (Some x) = refl

-- one more pair, in front of the others
one_more : (later : Option (List ℕ × List ℕ)) (p : List ℕ × List ℕ) (test : Bool) (before : Option (List ℕ))
    → option_or (option_map utf8_lossy (option_map (λ q. q.1) later)) (if test then Some (utf8_lossy p.1) else before)
    ≡ option_or (option_map utf8_lossy (option_map (λ q. q.1) (option_or later (if test then Some p else None)))) before
one_more None p true before = refl
one_more None p false before = refl
one_more (Some q) p test before = refl

last_value-cons : (name : List ℕ) (p : List ℕ × List ℕ) (ps : List (List ℕ × List ℕ))
    → last_value name (p ∷ ps)
    ≡ option_map (λ q. q.1) (option_or (find (λ q. bytes_eq q.0 name) (reverse ps)) (if bytes_eq p.0 name then Some p else None))
last_value-cons name p ps =
    ap (λ qs. option_map (λ q. q.1) (find (λ q. bytes_eq q.0 name) qs)) (reverse-append (p ∷ []) ps)
    ∙ ap (option_map (λ q. q.1)) (find-append (λ q. bytes_eq q.0 name) (reverse ps) (p ∷ []))

abbrev decoded : List (List ℕ × List ℕ) → List (List ℕ × List ℕ)
decoded = map (λ (n, v). (decode n, decode v))

pub latest-last_value : (name : List ℕ) (before : Option (List ℕ)) (pairs : List (List ℕ × List ℕ))
    → latest name before pairs ≡ option_or (option_map utf8_lossy (last_value name (map (λ (n, v). (decode n, decode v)) pairs))) before
latest-last_value name before [] = refl
latest-last_value name before (p ∷ ps) =
    latest-last_value name (if bytes_eq (decode p.0) name then Some (utf8_lossy (decode p.1)) else before) ps
    ∙ one_more (find (λ q. bytes_eq q.0 name) (reverse (decoded ps))) (decode p.0, decode p.1) (bytes_eq (decode p.0) name) before
    ∙ ap (λ value. option_or (option_map utf8_lossy value) before) (sym (last_value-cons name (decode p.0, decode p.1) (decoded ps)))

pub latest-whole : (name : List ℕ) (pairs : List (List ℕ × List ℕ))
    → latest name None pairs ≡ option_map utf8_lossy (last_value name (map (λ (n, v). (decode n, decode v)) pairs))
latest-whole name pairs = latest-last_value name None pairs ∙ or_none _

-- one step of the walk
pub latest-step : (name : List ℕ) (before after goal : Option (List ℕ)) (left rest : List (List ℕ × List ℕ)) (n v other value : List ℕ) (test : Bool)
    → left ≡ (n, v) ∷ rest → DecodesTo n other → DecodesTo v value → is_ascii name ≡ true → test ≡ bytes_eq other name
    → after ≡ (if test then Some value else before) → latest name before left ≡ goal → latest name after rest ≡ goal
latest-step name before after goal left rest n v other value test yields o u ascii tested kept invariant =
    let same : bytes_eq other name ≡ bytes_eq (decode n) name = ap (λ t. bytes_eq t name) o.2 ∙ lossy_name (decode n) name ascii in
    let read : (if test then Some value else before) ≡ (if bytes_eq (decode n) name then Some (utf8_lossy (decode v)) else before) =
    rw (tested, same, u.2) refl in
    let here : latest name before ((n, v) ∷ rest) ≡ goal = ap (latest name before) (sym yields) ∙ invariant in
    ap (λ found. latest name found rest) (kept ∙ read) ∙ here

-- a value that is there, and one that isn't
pub there : {A : Type 0} (value : Option (List ℕ)) (text : List ℕ) (f : List ℕ → A) (g : A) → Some text ≡ option_map utf8_lossy value
    → ((v : List ℕ) → f (utf8_lossy v) ≡ f v) → option_map_or f value g ≡ f text
there None text f g is agrees = cc
there (Some v) text f g is agrees = let e : text ≡ utf8_lossy v = cc in rw e (sym (agrees v))

pub missing : {A : Type 0} (value : Option (List ℕ)) (f : List ℕ → A) (g : A) → None ≡ option_map utf8_lossy value → option_map_or f value g ≡ g
missing None f g is = refl
missing (Some v) f g is = cc
