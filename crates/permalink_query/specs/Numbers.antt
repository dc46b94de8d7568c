-- The numbers that queries and options are made of.
use Rattle.std.specs.Prelude.{ℕ, ◌/◌, ◌%◌, ◌==◌, ◌&&◌, Bool, nat_le, if◌then◌else◌, List, length, Option, Some, None, option_and_then}
use Rattle.site_records.specs.Digits.{number}
use Rattle.site_records.specs.Ids.{max_id}

-- n lies between these, both included
abbrev pub is_within : (low high n : ℕ) → Bool
is_within low high n = nat_le low n && nat_le n high

-- a number of one to ten digits, and at most the largest ID
abbrev pub whole_number : List ℕ → Option ℕ
whole_number text =
    option_and_then (λ n. if is_within 1 10 (length text) && nat_le n max_id then Some n else None) (number text)

-- a year from 0001 to 9999 and a month from 01 to 12 in six digits (class WP_Query, m)
abbrev pub year_and_month : List ℕ → Option (ℕ × ℕ)
year_and_month text =
    option_and_then
    (λ n. if (length text == 6) && (nat_le 1 (n / 100) && is_within 1 12 (n % 100)) then Some (n / 100, n % 100) else None)
    (number text)
