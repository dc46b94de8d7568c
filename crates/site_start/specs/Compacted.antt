-- The short lines that take the place of a log.
use Rattle.std.specs.Prelude.{◌≡◌, ℕ, List, ◌∷◌}
use Rattle.sqlite.specs.Recovery.{Image}
use Rattle.site_serving.specs.Served.{state_after}
use Rattle.site_serving.specs.declared.commands.Commands.{Ghosts}
use Rattle.site_start.specs.Started.{IsLeftBy}

module _ {C : Type 0} (c : Ghosts C) where
  -- after the first line, which names the program, these are short lines of the site
  pub record IsShortIn (identity : List ℕ) (site : C) (lines : List (List ℕ)) : Type 0 where
    pub later : List (List ℕ)
    pub are : lines ≡ identity ∷ later
    pub rebuild : c.rebuilds (c.state site) later

  -- and of the copy that they made
  pub record IsShort (identity : List ℕ) (site copy : C) (lines : List (List ℕ)) : Type 0 where
    pub short : IsShortIn identity site lines
    pub again : c.rebuilds (c.state copy) short.later

  -- A log in files with this image was compacted, with a site and an empty one, which were `first` and `empty` before: an open
  -- finds these lines.
  pub record IsCompacted (image : Image) (identity : List ℕ) (first empty site copy : C) (lines : List (List ℕ)) : Type 0 where
    -- the lines that the files held, or the identity alone, and the site is what they make of it
    pub noted : List (List ℕ)
    pub were : IsLeftBy image identity noted
    pub made : c.state site ≡ state_after (c.steps (c.fixed first)) (c.state first) noted
    -- what is found now are short lines of it, and the copy is what they make of an empty site
    pub short : IsShort identity site copy lines
    pub replayed : c.state copy ≡ state_after (c.steps (c.fixed empty)) (c.state empty) lines
