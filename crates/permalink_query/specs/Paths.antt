-- What a path asks for.
use Rattle.std.specs.Prelude.{ℕ, ◌==◌, ◌||◌, Bool, if◌then◌else◌, List, find, max, codes, reverse, Option, Some, option_map}
use Rattle.std.specs.List.{before_first, after_first}
use Rattle.std.specs.Option.{option_map_or}
use Rattle.std.specs.Str.{bytes_eq}
use Rattle.form_urlencoded.specs.Form.{parse}
use Rattle.plain_data.specs.Texts.{Text}
use Rattle.permalink_query.specs.Numbers.{whole_number, year_and_month}
use Rattle.permalink_query.specs.declared.query.Query.{Query}
use Rattle.permalink_query.specs.declared.query.Query.TheVariants.{Front, Single, Page, Month, Nothing}

-- whether a byte is `?`
abbrev pub is_question_mark : ℕ → Bool
is_question_mark b = b == 63

-- the two paths of the site's only script (Customize Permalinks, plain permalinks)
abbrev pub is_script : Text → Bool
is_script path = bytes_eq path (codes "/") || bytes_eq path (codes "/index.php")

-- the last value under a name counts (PHP, parse_str)
abbrev pub last_value : Text → List (Text × Text) → Option Text
last_value name pairs = option_map (λ p. p.1) (find (λ p. bytes_eq p.0 name) (reverse pairs))

-- 0 is the first part too (class WP_Query, paged)
abbrev pub part_number : Text → Option ℕ
part_number text = option_map (λ n. max n 1) (whole_number text)

-- without `paged` it is the first part; there is no part if `paged` isn't a number
abbrev pub part_of : Option Text → Option ℕ
part_of paged = option_map_or part_number paged (Some 1)

-- a value that doesn't have its form asks for nothing
abbrev pub asks : {A : Type 0} → (A → Query) → Option A → Query
asks query value = option_map_or query value Nothing

-- the first of `p`, `page_id` and `m` that is there decides alone, and without them it is the front (class WP, parse_request)
abbrev pub query_by : List (Text × Text) → Query
query_by pairs =
    let part = part_of (last_value (codes "paged") pairs) in
    option_map_or (λ id. asks Single (whole_number id)) (last_value (codes "p") pairs)
    (option_map_or (λ id. asks Page (whole_number id)) (last_value (codes "page_id") pairs)
    (option_map_or (λ month. asks (λ m. asks (Month m.0 m.1) part) (year_and_month month)) (last_value (codes "m") pairs)
    (Front part)))

-- a path is the script's up to its first `?`, and a form's pairs after it (URL Standard, application/x-www-form-urlencoded parsing)
abbrev pub query_of : Text → Query
query_of path =
    if is_script (before_first is_question_mark path) then query_by (parse (after_first is_question_mark path)) else Nothing
