-- The first and the last moment of a month are dates of posts.
use Rattle.std.proofs.Common.{◌≡◌, ◌<◌, ◌≤◌, Bool, true, ◌&&◌, List, [], ◌∷◌, ◌++◌, ℕ, ◌+◌, ◌-◌, ◌*◌, ◌/◌, ◌%◌, ◌==◌, ◌||◌, ℤ, pos, false, lit≤}
use Rattle.std.proofs.Common.{if◌then◌else◌, Some, codes, nat_le, refl, ap, arith, ◌∙◌}
use Rattle.std.proofs.lemmas.Bool.{le-leb, leb-true, and_parts}
use Rattle.jiff.specs.Words.{days_in_month, is_leap_year}
use Rattle.site_records.specs.Digits.{number, number_from, is_digit}
use Rattle.site_records.specs.Dates.{is_day, is_post_date}
use Rattle.permalink_query.specs.Months.{is_month, two_digits, day_text}

digit : (d : ℕ) → d < 10 → is_digit (48 + d) ≡ true
digit d h = let low = le-leb 48 (48 + d) (omega arith) in let high = le-leb (48 + d) 57 (omega arith) in rw (low, high) refl

one_digit : (n d : ℕ) (rest : List ℕ) → d < 10 → number_from n ((48 + d) ∷ rest) ≡ number_from (10 * n + d) rest
one_digit n d rest h = let less : (48 + d) - 48 ≡ d = omega arith in rw (digit d h, less) refl

digits-two : (n m : ℕ) (rest : List ℕ) → m < 100 → number_from n (two_digits m ++ rest) ≡ number_from (100 * n + m) rest
digits-two n m rest h =
    let sum : 10 * (10 * n + m / 10) + m % 10 ≡ 100 * n + m = omega arith in
    one_digit n (m / 10) ((48 + m % 10) ∷ rest) (omega arith)
    ∙ one_digit (10 * n + m / 10) (m % 10) rest (omega arith)
    ∙ ap (λ k. number_from k rest) sum

pub number-two : (m : ℕ) → m < 100 → number (two_digits m) ≡ Some m
number-two m h = let sum : 100 * 0 + m ≡ m = omega arith in digits-two 0 m [] h ∙ ap (λ k. number_from k []) sum

pub number-four : (m : ℕ) → m < 10000 → number (two_digits (m / 100) ++ two_digits (m % 100)) ≡ Some m
number-four m h =
    let sum : 100 * (100 * 0 + m / 100) + m % 100 ≡ m = omega arith in
    digits-two 0 (m / 100) (two_digits (m % 100)) (omega arith)
    ∙ digits-two (100 * 0 + m / 100) (m % 100) [] (omega arith)
    ∙ ap (λ k. number_from k []) sum

pub first_moment : (year month day : ℕ) → year < 10000 → month < 100 → day < 100 → is_day year month day ≡ true
    → is_post_date (day_text year month day ++ codes " 00:00:00") ≡ true
unfolding is_post_date
first_moment year month day y m d h = rw (number-four year y, number-two month m, number-two day d, h) refl

pub last_moment : (year month day : ℕ) → year < 10000 → month < 100 → day < 100 → is_day year month day ≡ true
    → is_post_date (day_text year month day ++ codes " 23:59:59") ≡ true
unfolding is_post_date
last_moment year month day y m d h = rw (number-four year y, number-two month m, number-two day d, h) refl

-- a month has 28 to 31 days
length_of : (february leap short : Bool)
    → let n : ℕ = if february then (if leap then 29 else 28) else (if short then 30 else 31) in (28 ≤ n) × (n ≤ 31)
length_of true true short = (lit≤ tt, lit≤ tt)
length_of true false short = (lit≤ tt, lit≤ tt)
length_of false leap true = (lit≤ tt, lit≤ tt)
length_of false leap false = (lit≤ tt, lit≤ tt)

pub days_bounds : (year : ℤ) (month : ℕ) → (28 ≤ days_in_month year month) × (days_in_month year month ≤ 31)
days_bounds year month = length_of (month == 2) (is_leap_year year) ((month == 4) || (month == 6) || (month == 9) || (month == 11))

-- a month's bounds
pub record IsMonth (year month : ℕ) : Type 0 where
  pub year_low : 1 ≤ year
  pub year_high : year ≤ 9999
  pub month_low : 1 ≤ month
  pub month_high : month ≤ 12

pub month_bounds : (year month : ℕ) → is_month year month ≡ true → IsMonth year month
month_bounds year month h =
    let (y, m) = and_parts (nat_le 1 year && nat_le year 9999) (nat_le 1 month && nat_le month 12) h in
    let (y1, y2) = and_parts (nat_le 1 year) (nat_le year 9999) y in
    let (m1, m2) = and_parts (nat_le 1 month) (nat_le month 12) m in
    record { year_low = leb-true _ _ y1; year_high = leb-true _ _ y2; month_low = leb-true _ _ m1; month_high = leb-true _ _ m2 }

real_day : (year month day : ℕ) → IsMonth year month → 1 ≤ day → day ≤ days_in_month (pos year) month → is_day year month day ≡ true
real_day year month day b low high =
    rw (le-leb _ _ b.year_low, le-leb _ _ b.month_low, le-leb _ _ b.month_high, le-leb _ _ low, le-leb _ _ high) refl

pub first_day_dated : (year month : ℕ) → is_month year month ≡ true → is_post_date (day_text year month 1 ++ codes " 00:00:00") ≡ true
first_day_dated year month h =
    let b = month_bounds year month h in
    let days = days_bounds (pos year) month in
    first_moment year month 1 (omega arith) (omega arith) (omega arith) (real_day year month 1 b (omega arith) (omega arith))

pub last_day_dated : (year month : ℕ) → is_month year month ≡ true
    → is_post_date (day_text year month (days_in_month (pos year) month) ++ codes " 23:59:59") ≡ true
last_day_dated year month h =
    let b = month_bounds year month h in
    let days = days_bounds (pos year) month in
    let same : days_in_month (pos year) month ≤ days_in_month (pos year) month = omega arith in
    last_moment year month (days_in_month (pos year) month) (omega arith) (omega arith) (omega arith) (real_day year month _ b (omega arith) same)
