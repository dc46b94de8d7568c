-- Which pages are kept.
use Rattle.std.specs.Prelude.{◌≡◌, ℕ, false, List, Vec, Contains}
use Rattle.site_replies.specs.Reply.{ReplyData, page}
use Rattle.site_serving.specs.Served.{IsCarriedOut}
use Rattle.site_serving.specs.declared.commands.Commands as commands
use Rattle.site_serving.specs.declared.pages.Page.{Page}

module _ {C : Type 0} (c : commands.Ghosts C) where
  -- a line may get this reply, and leaves the state as it is
  pub record Repeats (at : C) (line : List ℕ) (reply : ReplyData) : Type 0 where
    pub replied : c.replies (c.fixed at) (c.state at) line reply (c.state at)
    pub carried : IsCarriedOut reply → (c.state at, reply) ≡ c.steps (c.fixed at) (c.state at) line
    pub kept : c.keeps (record { line = line; reply = reply }) ≡ false

  module _ {A : Type 0} where
    -- so is each that is kept
    abbrev pub AllRepeat : C → List (Vec ℕ A × Page) → Type 0
    AllRepeat at entries = (e : Vec ℕ A × Page) → Contains entries e → Repeats at e.0.items (page e.1.status e.1.body)
