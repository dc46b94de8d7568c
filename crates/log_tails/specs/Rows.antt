-- The number of the last row of a table, as a database file alone has it.
use Rattle.std.specs.Prelude.{◌<◌, ℕ, zero, suc, ◌+◌, ◌-◌, ◌*◌, ◌^◌, ◌==◌, ◌&&◌, ◌||◌, not, nat_le, nat_lt, bit_and, Bool, true, if◌then◌else◌, List, length, slice_index, drop, Option, Some, None}
use Rattle.sqlite_format.specs.declared.kind.Tree.TheVariants.{Table}
use Rattle.sqlite_format.specs.Cell.{head_len}
use Rattle.sqlite_format.specs.Page.{header_end, cell_count, cell_offset, right_child}
use Rattle.sqlite_format.specs.Varint.{varint_len, varint_value}
use Rattle.sqlite_wal.specs.Format.{part}
use Rattle.sqlite_wal.specs.PageSize.{size_in_file}

-- a power of two from 512 on; the two bytes of a file's header name none above 65536
abbrev pub is_page_size : ℕ → Bool
is_page_size size = nat_le 512 size && (bit_and size (size - 1) == 0)

-- the file has all of page n, where the first is page 1
abbrev pub has_page : ℕ → List ℕ → ℕ → Bool
has_page size file n = not (n == 0) && nat_le (n * size) (length file)

-- the bytes of page n
abbrev pub page_of : ℕ → List ℕ → ℕ → List ℕ
page_of size file n = part file ((n - 1) * size) size

-- the number of a line is above 0, and has 64 bits with its sign
abbrev pub IsNumber : ℕ → Type 0
IsNumber number = (0 < number) × (number < 2 ^ 63)

-- the number of the row that begins here: the second of its two varints, if these bytes have both and it is above 0, as a signed number
unfoldable pub number_in : List ℕ → Option ℕ
number_in row =
    let number = varint_value (drop (varint_len row) row) in
    if nat_lt (length row) (head_len Table row) || (number == 0) || nat_le (2 ^ 63) number then None else Some number

-- the number of the last row in a page, if that is a leaf of a table and has rows
unfoldable pub last_in : List ℕ → Option ℕ
last_in page =
    let count = cell_count page 0 in
    if not (slice_index page 0 == 13) || (count == 0) || nat_lt (length page) (header_end true 0 + 2 * count) then None
    else number_in (drop (cell_offset true page 0 (count - 1)) page)

-- the number of the last row under page n: from it down the right-most children of interior pages to a leaf, through at most `depth` pages
unfoldable pub last_under : ℕ → ℕ → List ℕ → ℕ → Option ℕ
last_under zero size file n = None
last_under (suc depth) size file n =
    let page = page_of size file n in
    if not (has_page size file n) then None
    else (if slice_index page 0 == 5 then last_under depth size file (right_child page 0) else last_in page)

-- the number of the last row of the table whose root is page 2, through at most 20 pages, as in sqlite3
abbrev pub last_row_in : List ℕ → Option ℕ
last_row_in file =
    let size = size_in_file file in
    if nat_lt (length file) 100 || not (is_page_size size) then None else last_under 20 size file 2
