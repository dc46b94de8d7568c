-- What a site file says about the front.
use Rattle.std.specs.Prelude.{ℕ, List, [], ◌∷◌, codes, decimal, Option, None, Some, option_map, option_and_then, if◌then◌else◌}
use Rattle.std.specs.Str.{bytes_eq}
use Rattle.serde_json.specs.Data.{Data}
use Rattle.site_values.specs.Tree.{text_at}
use Rattle.site_values.specs.Named.{id_at}
use Rattle.site_import.specs.Walks.{Read, whole, of_form}
use Rattle.site_import.specs.declared.fault.Section.TheVariants.{Front}
use Rattle.site_import.specs.declared.front.FrontShown.{FrontShown}
use Rattle.site_import.specs.declared.front.FrontShown.TheVariants.{Posts, Page}

-- `{"show":"posts"}`, or `{"show":"page","page":ID}`
abbrev pub shown_named : Data → List ℕ → Option FrontShown
shown_named tree name =
    if bytes_eq name (codes "posts") then Some Posts
    else (if bytes_eq name (codes "page") then option_map Page (id_at (codes "page") tree) else None)

-- the part of a site file that says what the front shows
abbrev pub shown_in : Data → Option FrontShown
shown_in tree = option_and_then (shown_named tree) (text_at (codes "show") tree)

-- the options that say so (options show_on_front and page_on_front)
abbrev pub options_for : FrontShown → List (List ℕ × List ℕ)
options_for Posts = (codes "show_on_front", codes "posts") ∷ []
options_for (Page id) = (codes "show_on_front", codes "page") ∷ (codes "page_on_front", decimal id) ∷ []

-- the options that the section sets
unfoldable pub front_of : Data → Read (List (List ℕ × List ℕ))
front_of tree = of_form (whole Front) (option_map options_for (shown_in tree))
