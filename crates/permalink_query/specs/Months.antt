-- The dates of a month.
use Rattle.std.specs.Prelude.{ℕ, pos, take, ◌+◌, ◌/◌, ◌%◌, ◌&&◌, Bool, [], ◌∷◌, ◌++◌, codes}
use Rattle.std.specs.Str.{bytes_eq}
use Rattle.jiff.specs.Words.{days_in_month}
use Rattle.plain_data.specs.Texts.{Text}
use Rattle.permalink_query.specs.Numbers.{is_within}

-- a month of a year from 1 to 9999
abbrev pub is_month : (year month : ℕ) → Bool
is_month year month = is_within 1 9999 year && is_within 1 12 month

-- a number from 0 to 99 in two digits
abbrev pub two_digits : ℕ → Text
two_digits n = (48 + n / 10) ∷ (48 + n % 10) ∷ []

-- a month, as in `2024-06`
abbrev pub month_text : (year month : ℕ) → Text
month_text year month = two_digits (year / 100) ++ two_digits (year % 100) ++ codes "-" ++ two_digits month

-- a date of that month begins with it (class WP_Query, m)
abbrev pub is_in_month : (year month : ℕ) → Text → Bool
is_in_month year month date = bytes_eq (take 7 date) (month_text year month)

-- a day, as in `2024-06-19`
abbrev pub day_text : (year month day : ℕ) → Text
day_text year month day =
    two_digits (year / 100) ++ two_digits (year % 100) ++ codes "-" ++ two_digits month ++ codes "-" ++ two_digits day

-- the first moment of a month
abbrev pub month_start : (year month : ℕ) → Text
month_start year month = day_text year month 1 ++ codes " 00:00:00"

-- and its last second
abbrev pub month_end : (year month : ℕ) → Text
month_end year month = day_text year month (days_in_month (pos year) month) ++ codes " 23:59:59"
