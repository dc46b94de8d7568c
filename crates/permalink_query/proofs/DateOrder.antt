-- Of two dates the earlier one is the smaller text.
use Rattle.std.proofs.Common.{◌≡◌, inl, inr, ◌<◌, ◌≤◌, ℕ, zero, suc, ◌+◌, ◌-◌, ◌*◌, ◌==◌, ◌&&◌, Bool, true, List, [], ◌∷◌, length, take, drop, codes, pos}
use Rattle.std.proofs.Common.{Option, Some, None, nat_lt, nat_le, Ordering, Less, Equal, Greater, refl, sym, ap, ◌∙◌, arith, true≢false}
use Rattle.std.specs.Prelude.{slice_index, slice_range}
use Rattle.std.specs.Ordering.{nat_cmp, ordering_then, is_ge, is_le}
use Rattle.std.proofs.lemmas.Bool.{and_parts, cases_Bool, leb-true, ltb-true}
use Rattle.std.proofs.lemmas.Bool.Decides.{nat_tests}
use Rattle.std.proofs.lemmas.List.{drop-drop, length-take-le, length-drop}
use Rattle.std.proofs.Math.ListN.{drop_of_length-le}
use Rattle.std.proofs.Math.Seq.{drop-cons}
use Rattle.jiff.specs.Words.{days_in_month}
use Rattle.site_records.specs.Digits.{number, number_from, is_digit}
use Rattle.site_records.specs.Dates.{is_day, is_clock, is_moment, has_marks, is_post_date}
use Rattle.post_tables.specs.Rows.{by_bytes}
use Rattle.permalink_query.proofs.MonthLemmas.{days_bounds}

-- ---- what comes later decides if all before is equal

pub then_joined : (o p r : Ordering) → ordering_then (ordering_then o p) r ≡ ordering_then o (ordering_then p r)
then_joined Less p r = refl
then_joined Equal p r = refl
then_joined Greater p r = refl

pub then_equal : (o : Ordering) → ordering_then o Equal ≡ o
then_equal Less = refl
then_equal Equal = refl
then_equal Greater = refl

-- two lists are ordered by their first n elements, and then by the others
cut : (n : ℕ) (xs ys : List ℕ) → n ≤ length xs → n ≤ length ys
    → by_bytes xs ys ≡ ordering_then (by_bytes (take n xs) (take n ys)) (by_bytes (drop n xs) (drop n ys))
cut zero xs ys h g = refl
cut (suc n) [] ys h g = absurd (omega arith)
cut (suc n) (x ∷ xs) [] h g = absurd (omega arith)
cut (suc n) (x ∷ xs) (y ∷ ys) h g =
    ap (ordering_then (nat_cmp x y)) (cut n xs ys (omega arith) (omega arith))
    ∙ sym (then_joined (nat_cmp x y) (by_bytes (take n xs) (take n ys)) (by_bytes (drop n xs) (drop n ys)))

-- ---- texts of as many digits are ordered as their numbers

-- one digit more
one_more : (a b x y : ℕ) → is_digit x ≡ true → is_digit y ≡ true → nat_cmp (10 * a + (x - 48)) (10 * b + (y - 48)) ≡ ordering_then (nat_cmp a b) (nat_cmp x y)
one_more a b x y p q =
    let (x1, x2) = and_parts (nat_le 48 x) (nat_le x 57) p in
    let (y1, y2) = and_parts (nat_le 48 y) (nat_le y 57) q in
    elim (cases_Bool (nat_lt a b)) [
      | inl less ↦ rw less (below (10 * a + (x - 48)) (10 * b + (y - 48)) (grind (arith, nat_tests)))
      | inr more ↦ elim (cases_Bool (a == b)) [
        | inl same ↦ rw (more, same) (by_last (grind (arith, nat_tests)) x1 y1)
        | inr other ↦ rw (more, other) (above (10 * a + (x - 48)) (10 * b + (y - 48)) (grind (arith, nat_tests)))
      ]
    ]
  where
    below : (m n : ℕ) → m < n → nat_cmp m n ≡ Less
    below m n h = grind (arith, nat_tests)

    above : (m n : ℕ) → n < m → nat_cmp m n ≡ Greater
    above m n h = grind (arith, nat_tests)

    by_last : a ≡ b → nat_le 48 x ≡ true → nat_le 48 y ≡ true → nat_cmp (10 * a + (x - 48)) (10 * b + (y - 48)) ≡ nat_cmp x y
    by_last same low low' = grind (arith, nat_tests)

digits : (a b m n : ℕ) (xs ys : List ℕ) → length xs ≡ length ys → number_from a xs ≡ Some m → number_from b ys ≡ Some n
    → ordering_then (nat_cmp a b) (by_bytes xs ys) ≡ nat_cmp m n
digits a b m n [] [] e f g = let x : a ≡ m = some_is f in let y : b ≡ n = some_is g in rw (x, y) (then_equal (nat_cmp m n))
  where
    some_is : {i j : ℕ} → ◌≡◌ {A = Option ℕ} (Some i) (Some j) → i ≡ j
    some_is s = cc
digits a b m n [] (y ∷ ys) e f g = absurd (omega (arith, e))
digits a b m n (x ∷ xs) [] e f g = absurd (omega (arith, e))
digits a b m n (x ∷ xs) (y ∷ ys) e f g =
    elim (cases_Bool (is_digit x)) [
      | inl dx ↦ elim (cases_Bool (is_digit y)) [
        | inl dy ↦
            sym (then_joined (nat_cmp a b) (nat_cmp x y) (by_bytes xs ys)) ∙ ap (λ o. ordering_then o (by_bytes xs ys)) (sym (one_more a b x y dx dy))
            ∙ digits (10 * a + (x - 48)) (10 * b + (y - 48)) m n xs ys (omega (arith, e)) (rw dx at f) (rw dy at g)
        | inr other ↦ absurd (none_is (rw other at g))
      ]
      | inr other ↦ absurd (none_is (rw other at f))
    ]
  where
    none_is : {j : ℕ} → ◌≡◌ {A = Option ℕ} None (Some j) → ⊥
    none_is s = cc

-- ---- the fields of a date

pub record Moment : Type 0 where
  pub year : ℕ
  pub month : ℕ
  pub day : ℕ
  pub hour : ℕ
  pub minute : ℕ
  pub second : ℕ

-- the text is written `YYYY-MM-DD HH:MM:SS`, with these numbers
pub record IsWritten (t : List ℕ) (m : Moment) : Type 0 where
  pub long : length t ≡ 19
  pub dash : slice_index t 4 ≡ 45
  pub dash_2 : slice_index t 7 ≡ 45
  pub space : slice_index t 10 ≡ 32
  pub colon : slice_index t 13 ≡ 58
  pub colon_2 : slice_index t 16 ≡ 58
  pub year : number (slice_range t 0 4) ≡ Some m.year
  pub month : number (slice_range t 5 7) ≡ Some m.month
  pub day : number (slice_range t 8 10) ≡ Some m.day
  pub hour : number (slice_range t 11 13) ≡ Some m.hour
  pub minute : number (slice_range t 14 16) ≡ Some m.minute
  pub second : number (slice_range t 17 19) ≡ Some m.second

-- numbers of a day and a time
abbrev pub IsReal : Moment → Type 0
IsReal m = (is_day m.year m.month m.day ≡ true) × (is_clock m.hour m.minute m.second ≡ true)

abbrev NumbersOf : (a b c d e f : Option ℕ) → Type 0
NumbersOf a b c d e f = (m : Moment) × (a ≡ Some m.year) × (b ≡ Some m.month) × (c ≡ Some m.day) × (d ≡ Some m.hour) × (e ≡ Some m.minute)
    × (f ≡ Some m.second) × IsReal m

numbers : (a b c d e f : Option ℕ) → is_moment a b c d e f ≡ true → NumbersOf a b c d e f
numbers (Some y) (Some m) (Some d) (Some h) (Some i) (Some s) real = (
  record { year = y; month = m; day = d; hour = h; minute = i; second = s },
  refl,
  refl,
  refl,
  refl,
  refl,
  refl,
  and_parts (is_day y m d) (is_clock h i s)
      real,
)
numbers (Some y) (Some m) (Some d) (Some h) (Some i) None real = absurd (true≢false (sym real))
numbers (Some y) (Some m) (Some d) (Some h) None f real = absurd (true≢false (sym real))
numbers (Some y) (Some m) (Some d) None e f real = absurd (true≢false (sym real))
numbers (Some y) (Some m) None d e f real = absurd (true≢false (sym real))
numbers (Some y) None c d e f real = absurd (true≢false (sym real))
numbers None b c d e f real = absurd (true≢false (sym real))

pub is_number : (m n : ℕ) → (m == n) ≡ true → m ≡ n
is_number m n h = grind (arith, nat_tests)

pub written : (t : List ℕ) → is_post_date t ≡ true → (m : Moment) × IsWritten t m × IsReal m
unfolding is_post_date
written t h =
    let (long, rest) = and_parts (length t == 19) _ h in
    let (marks, numbered) = and_parts (has_marks t) _ rest in
    let (dash, marks_2) = and_parts (slice_index t 4 == 45) _ marks in
    let (dash_2, marks_3) = and_parts (slice_index t 7 == 45) _ marks_2 in
    let (space, marks_4) = and_parts (slice_index t 10 == 32) _ marks_3 in
    let (colon, colon_2) = and_parts (slice_index t 13 == 58) _ marks_4 in
    let n = numbers (number (slice_range t 0 4)) (number (slice_range t 5 7)) (number (slice_range t 8 10)) (number (slice_range t 11 13))
    (number (slice_range t 14 16)) (number (slice_range t 17 19)) numbered in (
      n.0,
      record {
        long = is_number _ _ long;
        dash = is_number _ _ dash;
        dash_2 = is_number _ _ dash_2;
        space = is_number _ _ space;
        colon = is_number _ _ colon;
        colon_2 = is_number _ _ colon_2;
        year = n.1;
        month = n.2;
        day = n.3;
        hour = n.4;
        minute = n.5;
        second = n.6;
      },
      n.7,
    )

-- ---- two texts from a place on

-- a number of n digits is there in both
pub field : (from count : ℕ) (date other : List ℕ) (part other_part : ℕ) → from + count ≤ length date → from + count ≤ length other
    → number (take count (drop from date)) ≡ Some part → number (take count (drop from other)) ≡ Some other_part
    → by_bytes (drop from date) (drop from other) ≡ ordering_then (nat_cmp part other_part) (by_bytes (drop (from + count) date) (drop (from + count) other))
field from count date other part other_part within within_other part_is other_part_is =
    let at = length-drop from date in
    let bt = length-drop from other in
    let long : length (take count (drop from date)) ≡ length (take count (drop from other)) = length-take-le count (drop from date) (omega (arith, at))
    ∙ sym (length-take-le count (drop from other) (omega (arith, bt))) in
    cut count (drop from date) (drop from other) (omega (arith, at)) (omega (arith, bt))
    ∙ ap (λ o. ordering_then o (by_bytes (drop count (drop from date)) (drop count (drop from other))))
    (digits 0 0 part other_part (take count (drop from date)) (take count (drop from other)) long part_is other_part_is)
    ∙ ap (λ l. ordering_then (nat_cmp part other_part) (by_bytes l (drop count (drop from other)))) (drop-drop count from date)
    ∙ ap (λ l. ordering_then (nat_cmp part other_part) (by_bytes (drop (from + count) date) l)) (drop-drop count from other)

same_itself : (n : ℕ) → nat_cmp n n ≡ Equal
same_itself n = grind (arith, nat_tests)

-- a mark is there in both
pub mark : (at byte : ℕ) (date other : List ℕ) → at < length date → at < length other → slice_index date at ≡ byte → slice_index other at ≡ byte
    → by_bytes (drop at date) (drop at other) ≡ by_bytes (drop (suc at) date) (drop (suc at) other)
mark at byte date other within within_other is_byte is_byte_of_other =
    let one : drop at date ≡ byte ∷ drop (suc at) date = drop-cons date at 0 within ∙ ap (λ b. b ∷ drop (suc at) date) is_byte in
    let two : drop at other ≡ byte ∷ drop (suc at) other = drop-cons other at 0 within_other ∙ ap (λ b. b ∷ drop (suc at) other) is_byte_of_other in
    rw (one, two, same_itself byte) refl

abbrev pub by_moment : Moment → Moment → Ordering
by_moment a b =
    ordering_then (nat_cmp a.year b.year) (ordering_then (nat_cmp a.month b.month) (ordering_then (nat_cmp a.day b.day)
    (ordering_then (nat_cmp a.hour b.hour) (ordering_then (nat_cmp a.minute b.minute) (nat_cmp a.second b.second)))))

pub in_time : (t u : List ℕ) (a b : Moment) → IsWritten t a → IsWritten u b → by_bytes t u ≡ by_moment a b
in_time t u a b v w =
    let x = v.long in
    let y = w.long in
    field 0 4 t u a.year b.year (omega (arith, x)) (omega (arith, y)) v.year w.year
    ∙ ap (ordering_then (nat_cmp a.year b.year)) (mark 4 45 t u (omega (arith, x)) (omega (arith, y)) v.dash w.dash
    ∙ field 5 2 t u a.month b.month (omega (arith, x)) (omega (arith, y)) v.month w.month
    ∙ ap (ordering_then (nat_cmp a.month b.month)) (mark 7 45 t u (omega (arith, x)) (omega (arith, y)) v.dash_2 w.dash_2
    ∙ field 8 2 t u a.day b.day (omega (arith, x)) (omega (arith, y)) v.day w.day
    ∙ ap (ordering_then (nat_cmp a.day b.day)) (mark 10 32 t u (omega (arith, x)) (omega (arith, y)) v.space w.space
    ∙ field 11 2 t u a.hour b.hour (omega (arith, x)) (omega (arith, y)) v.hour w.hour
    ∙ ap (ordering_then (nat_cmp a.hour b.hour)) (mark 13 58 t u (omega (arith, x)) (omega (arith, y)) v.colon w.colon
    ∙ field 14 2 t u a.minute b.minute (omega (arith, x)) (omega (arith, y)) v.minute w.minute
    ∙ ap (ordering_then (nat_cmp a.minute b.minute)) (mark 16 58 t u (omega (arith, x)) (omega (arith, y)) v.colon_2 w.colon_2
    ∙ field 17 2 t u a.second b.second (omega (arith, x)) (omega (arith, y)) v.second w.second
    ∙ ap (ordering_then (nat_cmp a.second b.second)) (ended t x)
    ∙ then_equal (nat_cmp a.second b.second))))))
  where
    nothing_left : (s : List ℕ) → length s ≡ 19 → drop 19 s ≡ []
    nothing_left s e = let all : length s ≤ 19 = omega (arith, e) in drop_of_length-le s all

    ended : (s : List ℕ) → length s ≡ 19 → by_bytes (drop 19 s) (drop 19 u) ≡ Equal
    ended s e = rw (nothing_left s e, nothing_left u w.long) refl

-- ---- before and after

pub ge_then : (o r : Ordering) → is_ge r ≡ true → is_ge (ordering_then o r) ≡ is_ge o
ge_then Less r h = refl
ge_then Equal r h = h
ge_then Greater r h = refl

pub le_then : (o r : Ordering) → (o ≡ Equal → is_le r ≡ true) → is_le (ordering_then o r) ≡ is_le o
le_then Less r h = refl
le_then Equal r h = h refl
le_then Greater r h = refl

ge : (m n : ℕ) → n ≤ m → is_ge (nat_cmp m n) ≡ true
ge m n h = grind (arith, nat_tests)

le : (m n : ℕ) → m ≤ n → is_le (nat_cmp m n) ≡ true
le m n h = grind (arith, nat_tests)

-- from the first moment of a day on
abbrev pub from_day : Moment → ℕ → Ordering
from_day a day = ordering_then (nat_cmp a.day day) (ordering_then (nat_cmp a.hour 0) (ordering_then (nat_cmp a.minute 0) (nat_cmp a.second 0)))

-- up to its last second
abbrev pub to_day : Moment → ℕ → Ordering
to_day a day = ordering_then (nat_cmp a.day day) (ordering_then (nat_cmp a.hour 23) (ordering_then (nat_cmp a.minute 59) (nat_cmp a.second 59)))

ge_all : (o r : Ordering) → is_ge o ≡ true → is_ge r ≡ true → is_ge (ordering_then o r) ≡ true
ge_all o r h g = ge_then o r g ∙ h

le_all : (o r : Ordering) → is_le o ≡ true → is_le r ≡ true → is_le (ordering_then o r) ≡ true
le_all o r h g = le_then o r (λ e. g) ∙ h

pub after_day : (a : Moment) (day : ℕ) → day ≤ a.day → is_ge (from_day a day) ≡ true
after_day a day h = ge_all _ _ (ge a.day day h) (ge_all _ _ (ge a.hour 0 (omega arith))
    (ge_all _ _ (ge a.minute 0 (omega arith)) (ge a.second 0 (omega arith))))

pub before_day : (a : Moment) (day : ℕ) → a.day ≤ day → a.hour ≤ 23 → a.minute ≤ 59 → a.second ≤ 59 → is_le (to_day a day) ≡ true
before_day a day d h m s = le_all _ _ (le a.day day d) (le_all _ _ (le a.hour 23 h) (le_all _ _ (le a.minute 59 m) (le a.second 59 s)))

-- the bounds of a real day and time
pub record IsBound (m : Moment) : Type 0 where
  pub year : 1 ≤ m.year
  pub year_high : m.year ≤ 9999
  pub month : 1 ≤ m.month
  pub month_high : m.month ≤ 12
  pub day : 1 ≤ m.day
  pub day_high : m.day ≤ days_in_month (pos m.year) m.month
  pub hour : m.hour ≤ 23
  pub minute : m.minute ≤ 59
  pub second : m.second ≤ 59

-- ten times as much for each digit
times_ten : ℕ → ℕ → ℕ
times_ten zero b = b
times_ten (suc n) b = times_ten n (10 * b)

few_digits : (n a b m : ℕ) (xs : List ℕ) → length xs ≡ n → a < b → number_from a xs ≡ Some m → m < times_ten n b
unfolding times_ten
few_digits zero a b m [] e h f = let x : a ≡ m = some_is f in omega arith
  where
    some_is : {i j : ℕ} → ◌≡◌ {A = Option ℕ} (Some i) (Some j) → i ≡ j
    some_is s = cc
few_digits zero a b m (x ∷ xs) e h f = absurd (omega (arith, e))
few_digits (suc n) a b m [] e h f = absurd (omega (arith, e))
few_digits (suc n) a b m (x ∷ xs) e h f =
    elim (cases_Bool (is_digit x)) [
      | inl dx ↦
          let (low, high) = and_parts (nat_le 48 x) (nat_le x 57) dx in
          let less : 10 * a + (x - 48) < 10 * b = grind (arith, nat_tests) in
          few_digits n (10 * a + (x - 48)) (10 * b) m xs (omega (arith, e)) less (rw dx at f)
      | inr other ↦ absurd (none_is (rw other at f))
    ]
  where
    none_is : {j : ℕ} → ◌≡◌ {A = Option ℕ} None (Some j) → ⊥
    none_is s = cc

four_digits : (t : List ℕ) (m : ℕ) → length t ≡ 19 → number (slice_range t 0 4) ≡ Some m → m ≤ 9999
unfolding times_ten
four_digits t m long h =
    let four : length (take 4 t) ≡ 4 = length-take-le 4 t (omega (arith, long)) in
    let less : m < 10000 = few_digits 4 0 1 m (take 4 t) four (omega arith) h in
    omega arith

pub bound : (t : List ℕ) (m : Moment) → IsWritten t m → IsReal m → IsBound m
bound t m w real =
    let (y, rest) = and_parts (nat_le 1 m.year) _ real.0 in
    let (months, days) = and_parts (nat_le 1 m.month && nat_le m.month 12) _ rest in
    let (month, month_high) = and_parts (nat_le 1 m.month) _ months in
    let (day, day_high) = and_parts (nat_le 1 m.day) _ days in
    let (h, clock) = and_parts (nat_lt m.hour 24) _ real.1 in
    let (i, s) = and_parts (nat_lt m.minute 60) _ clock in
    record {
      year = leb-true _ _ y;
      year_high = four_digits t m.year w.long w.year;
      month = leb-true _ _ month;
      month_high = leb-true _ _ month_high;
      day = leb-true _ _ day;
      day_high = leb-true _ _ day_high;
      hour = let less = ltb-true _ _ h in omega arith;
      minute = let less = ltb-true _ _ i in omega arith;
      second = let less = ltb-true _ _ s in omega arith;
    }

-- ---- all dates

abbrev pub first : List ℕ
first = codes "0001-01-01 00:00:00"

abbrev pub last : List ℕ
last = codes "9999-12-31 23:59:59"

first_written : IsWritten first (record { year = 1; month = 1; day = 1; hour = 0; minute = 0; second = 0 })
first_written = record {
  long = refl;
  dash = refl;
  dash_2 = refl;
  space = refl;
  colon = refl;
  colon_2 = refl;
  year = refl;
  month = refl;
  day = refl;
  hour =
      refl;
  minute = refl;
  second = refl;
}

last_written : IsWritten last (record { year = 9999; month = 12; day = 31; hour = 23; minute = 59; second = 59 })
last_written = record {
  long = refl;
  dash = refl;
  dash_2 = refl;
  space = refl;
  colon = refl;
  colon_2 = refl;
  year = refl;
  month = refl;
  day = refl;
  hour =
      refl;
  minute = refl;
  second = refl;
}

both_true : (a b : Bool) → a ≡ true → b ≡ true → (a && b) ≡ true
both_true a b h g = rw (h, g) refl

-- each date lies between the first and the last
pub any_date : (t : List ℕ) → is_post_date t ≡ true → (is_ge (by_bytes t first) && is_le (by_bytes t last)) ≡ true
any_date t h =
    let (m, w, real) = written t h in
    let b = bound t m w real in
    let days = days_bounds (pos m.year) m.month in
    both_true _ _
    (ap is_ge (in_time t first m _ w first_written) ∙ ge_all _ _ (ge m.year 1 b.year) (ge_all _ _ (ge m.month 1 b.month) (after_day m 1 b.day)))
    (ap is_le (in_time t last m _ w last_written) ∙ le_all _ _ (le m.year 9999 b.year_high)
    (le_all _ _ (le m.month 12 b.month_high) (before_day m 31 (omega (arith, b.day_high, days.1)) b.hour b.minute b.second)))
