-- Text that is safe in its place: after the closing mark of a CDATA section, and in HTML.
use Rattle.std.specs.Prelude.{ℕ, ◌==◌, ◌&&◌, List, [], ◌∷◌, ◌++◌, codes, flat_map, if◌then◌else◌}

-- a text after these two bytes, in which each `>` after `]]` is `&gt;`
abbrev pub ends_escaped_after : ℕ → ℕ → List ℕ → List ℕ
ends_escaped_after before last [] = []
ends_escaped_after before last (b ∷ rest) =
    (if before == 93 && last == 93 && b == 62 then codes "&gt;" else b ∷ []) ++ ends_escaped_after last b rest

-- each `]]>` as `]]&gt;`
abbrev pub ends_escaped : List ℕ → List ℕ
ends_escaped text = ends_escaped_after 0 0 text

-- & &amp;  < &lt;  > &gt;  " &quot;  ' &#039;
abbrev pub entity : ℕ → List ℕ
entity b =
    if b == 38 then codes "&amp;"
    else (if b == 60 then codes "&lt;"
    else (if b == 62 then codes "&gt;"
    else (if b == 34 then codes "&quot;"
    else (if b == 39 then codes "&#039;"
    else b ∷ []))))

-- a text with `& < > " '` as entities
abbrev pub html_escaped : List ℕ → List ℕ
html_escaped text = flat_map entity text
