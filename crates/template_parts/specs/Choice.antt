-- Which template a page is printed by.
use Rattle.std.specs.Prelude.{ℕ, List, [], ◌∷◌, find, codes, unwrap_or}
use Rattle.std.specs.List.{list_any}
use Rattle.std.specs.Str.{bytes_eq}
use Rattle.site_records.specs.declared.found.FoundKind.{FoundKind}
use Rattle.site_records.specs.declared.found.FoundKind.TheVariants as kind

-- the templates for what was found, before `index` (Theme Handbook, Template Hierarchy)
abbrev pub candidates : FoundKind → List (List ℕ)
candidates kind.Front = codes "front-page" ∷ codes "home" ∷ []
candidates kind.FrontPage = codes "front-page" ∷ codes "page" ∷ codes "singular" ∷ []
candidates kind.Home = codes "home" ∷ []
candidates kind.Single = codes "single" ∷ codes "singular" ∷ []
candidates kind.Page = codes "page" ∷ codes "singular" ∷ []
candidates kind.Month = codes "date" ∷ codes "archive" ∷ []
candidates kind.NotFound = codes "404" ∷ []

-- the first of them that is stored, or `index` if none is
abbrev pub template_choice : FoundKind → List (List ℕ) → List ℕ
template_choice kind stored = unwrap_or (find (λ name. list_any (bytes_eq name) stored) (candidates kind)) (codes "index")
