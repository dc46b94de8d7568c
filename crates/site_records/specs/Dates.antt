-- Which texts are dates of posts.
use Rattle.std.specs.Prelude.{ℕ, pos, ◌==◌, nat_le, nat_lt, ◌&&◌, Bool, false, List, length, slice_index, slice_range, Option, Some}
use Rattle.jiff.specs.Words.{days_in_month}
use Rattle.site_records.specs.Digits.{number}

-- a day of the Gregorian calendar, from year 1 on
abbrev pub is_day : (year month day : ℕ) → Bool
is_day year month day =
    nat_le 1 year && ((nat_le 1 month && nat_le month 12) && (nat_le 1 day && nat_le day (days_in_month (pos year) month)))

-- a time that a clock shows
abbrev pub is_clock : (hour minute second : ℕ) → Bool
is_clock hour minute second = nat_lt hour 24 && (nat_lt minute 60 && nat_lt second 60)

-- all are numbers, of a day and of a time
abbrev pub is_moment : (year month day hour minute second : Option ℕ) → Bool
is_moment (Some year) (Some month) (Some day) (Some hour) (Some minute) (Some second) = is_day year month day && is_clock hour minute second
is_moment _ _ _ _ _ _ = false

-- the marks of `YYYY-MM-DD HH:MM:SS`
abbrev pub has_marks : List ℕ → Bool
has_marks t =
    (slice_index t 4 == 45) && ((slice_index t 7 == 45) && ((slice_index t 10 == 32) && ((slice_index t 13 == 58) && (slice_index t 16 == 58))))

-- a post's date (WordPress, wp_insert_post, post_date)
unfoldable pub is_post_date : List ℕ → Bool
is_post_date t =
    (length t == 19) && (has_marks t && is_moment
    (number (slice_range t 0 4)) (number (slice_range t 5 7)) (number (slice_range t 8 10))
    (number (slice_range t 11 13)) (number (slice_range t 14 16)) (number (slice_range t 17 19)))
