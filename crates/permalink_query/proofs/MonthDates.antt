-- The dates of a month are those between its first and its last second.
use Rattle.std.proofs.Common.{◌≡◌, ◌≤◌, ℕ, ◌&&◌, true, List, [], length, take, drop, pos, Some, Ordering, Less, Equal, Greater, refl, sym, ap, subst, ◌∙◌}
use Rattle.std.proofs.Common.{arith}
use Rattle.std.specs.Prelude.{slice_index}
use Rattle.std.specs.Ordering.{nat_cmp, ordering_then, is_eq, is_ge, is_le}
use Rattle.std.proofs.lemmas.Bool.Decides.{nat_tests}
use Rattle.std.proofs.lemmas.List.{length-take-le, take-take, drop-take, get_or-take}
use Rattle.std.proofs.Math.ListN.{drop_of_length-le}
use Rattle.std.proofs.lemmas.Map.Text.{is_eq-slice_cmp}
use Rattle.jiff.specs.Words.{days_in_month}
use Rattle.site_records.specs.Digits.{number}
use Rattle.site_records.specs.Dates.{is_post_date}
use Rattle.post_tables.specs.Rows.{by_bytes}
use Rattle.permalink_query.specs.Months.{is_month, month_text, month_start, month_end, is_in_month}
use Rattle.permalink_query.proofs.MonthLemmas.{IsMonth, month_bounds, number-two, number-four, days_bounds}
use Rattle.permalink_query.proofs.DateOrder.{Moment, IsWritten, IsBound, written, bound, in_time, from_day, to_day, after_day, before_day}
use Rattle.permalink_query.proofs.DateOrder.{then_joined, ge_then, le_then, then_equal, field, mark}

module _ (year month : ℕ) (is : is_month year month ≡ true) where
  is_bound : IsMonth year month
  is_bound = month_bounds year month is

  start_written : IsWritten (month_start year month) (record { year = year; month = month; day = 1; hour = 0; minute = 0; second = 0 })
  start_written = let b = is_bound in record {
    long = refl;
    dash = refl;
    dash_2 = refl;
    space = refl;
    colon = refl;
    colon_2 = refl;
    year = number-four year (omega (arith, b.year_high));
    month = number-two month (omega (arith, b.month_high));
    day = number-two 1 (omega arith);
    hour = refl;
    minute = refl;
    second = refl;
  }

  end_written : IsWritten (month_end year month) (record {
    year = year;
    month = month;
    day = days_in_month (pos year) month;
    hour = 23;
    minute = 59;
    second =
        59;
  })
  end_written = let b = is_bound in let d = days_bounds (pos year) month in record {
    long = refl;
    dash = refl;
    dash_2 = refl;
    space = refl;
    colon = refl;
    colon_2 = refl;
    year = number-four year (omega (arith, b.year_high));
    month = number-two month (omega (arith, b.month_high));
    day = number-two _ (omega (arith, d.1));
    hour = refl;
    minute = refl;
    second = refl;
  }

  by_month : Moment → Ordering
  by_month m = ordering_then (nat_cmp m.year year) (nat_cmp m.month month)

  module _ (t : List ℕ) (m : Moment) (w : IsWritten t m) (b : IsBound m) where
    from_start : is_ge (by_bytes t (month_start year month)) ≡ is_ge (by_month m)
    unfolding by_month
    from_start =
        ap is_ge (in_time t (month_start year month) m _ w start_written ∙ sym (then_joined (nat_cmp m.year year) (nat_cmp m.month month) (from_day m 1)))
        ∙ ge_then (by_month m) (from_day m 1) (after_day m 1 b.day)

    same_month : by_month m ≡ Equal → (m.year ≡ year) × (m.month ≡ month)
    unfolding by_month
    same_month e = (grind (arith, nat_tests), grind (arith, nat_tests))

    to_end : is_le (by_bytes t (month_end year month)) ≡ is_le (by_month m)
    unfolding by_month
    to_end =
        ap is_le (in_time t (month_end year month) m _ w end_written
        ∙ sym (then_joined (nat_cmp m.year year) (nat_cmp m.month month) (to_day m (days_in_month (pos year) month))))
        ∙ le_then (by_month m) (to_day m (days_in_month (pos year) month)) (λ e.
        let (y, mo) = same_month e in
        let high : m.day ≤ days_in_month (pos year) month = subst (λ n. m.day ≤ days_in_month (pos n) month) y
        (subst (λ n. m.day ≤ days_in_month (pos m.year) n) mo b.day_high) in
        before_day m _ high b.hour b.minute b.second)

    -- the first seven bytes of the date
    begins : by_bytes (take 7 t) (month_text year month) ≡ by_month m
    unfolding by_month
    begins =
        let l = w.long in
        let seven : length (take 7 t) ≡ 7 = length-take-le 7 t (omega (arith, l)) in
        let y : number (take 4 (drop 0 (take 7 t))) ≡ Some m.year = ap number (take-take 4 7 t (omega arith)) ∙ w.year in
        let d : slice_index (take 7 t) 4 ≡ 45 = get_or-take 7 t 4 0 (omega arith) ∙ w.dash in
        let mo : number (take 2 (drop 5 (take 7 t))) ≡ Some m.month = ap (λ l. number (take 2 l)) (drop-take 5 2 t)
        ∙ ap number (take-take 2 2 (drop 5 t) (omega arith)) ∙ w.month in
        let s = start_written in
        field 0 4 (take 7 t) (month_text year month) m.year year (omega (arith, seven)) (omega arith) y s.year
        ∙ ap (ordering_then (nat_cmp m.year year)) (mark 4 45 (take 7 t) (month_text year month) (omega (arith, seven)) (omega arith) d refl
        ∙ field 5 2 (take 7 t) (month_text year month) m.month month (omega (arith, seven)) (omega arith) mo s.month
        ∙ ap (ordering_then (nat_cmp m.month month)) (nothing_left (take 7 t) seven)
        ∙ then_equal (nat_cmp m.month month))
      where
        nothing_left : (s : List ℕ) → length s ≡ 7 → by_bytes (drop 7 s) [] ≡ Equal
        nothing_left s e = let all : length s ≤ 7 = omega (arith, e) in rw (drop_of_length-le s all) refl

    between : (o : Ordering) → (is_ge o && is_le o) ≡ is_eq o
    between Less = refl
    between Equal = refl
    between Greater = refl

    within : (is_ge (by_bytes t (month_start year month)) && is_le (by_bytes t (month_end year month))) ≡ is_in_month year month t
    within = rw (from_start, to_end) (between (by_month m) ∙ ap is_eq (sym begins) ∙ is_eq-slice_cmp (take 7 t) (month_text year month))

  pub month_dates : (t : List ℕ) → is_post_date t ≡ true → (is_ge (by_bytes t (month_start year month)) && is_le (by_bytes t (month_end year month)))
      ≡ is_in_month year month t
  month_dates t h = let (m, w, real) = written t h in within t m w (bound t m w real)
