-- For worked cases.
use Rattle.std.specs.Prelude.{List, [], ◌∷◌, codes}
use Rattle.plain_data.specs.Texts.{Text}

-- the two options that say what the front shows
abbrev pub fronting : Text → Text → List (Text × Text)
fronting show page = (codes "show_on_front", show) ∷ (codes "page_on_front", page) ∷ []
