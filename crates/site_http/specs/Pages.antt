-- What a site that is served over HTTP does: which lines it carries out, and what of them is committed.
use Rattle.std.specs.Prelude.{◌≡◌, ◌⊎◌, ℕ, ◌+◌, ◌≤◌, Bool, true, false, List, [], ◌∷◌, ◌++◌, length, map, codes, Option, Some}
use Rattle.byte_io.specs.Journal.{Grows}
use Rattle.byte_io.specs.declared.journal.Journal as journals
use Rattle.json.specs.Token.{begin_object, end_object, key, string}
use Rattle.json.specs.Print.{print}
use Rattle.site_replies.specs.declared.reply.Refusal.TheVariants.{OutOfMemory}
use Rattle.site_replies.specs.Reply.{ReplyData, refused}
use Rattle.site_serving.specs.declared.commands.Commands as commands
use Rattle.site_serving.specs.Journaled.{IsSettled}
use Rattle.site_serving.specs.Lines.{lines_of}
use Rattle.site_serving.specs.Served.{Replied, Serves, lines_in, written_for, history_of}
use Rattle.site_http.specs.declared.site_pages.SitePages.{SitePages}

-- the line that asks for the page of a path
abbrev pub page_line : List ℕ → List ℕ
page_line path = print (begin_object ∷ key (codes "cmd") ∷ string (codes "get") ∷ key (codes "path") ∷ string path ∷ end_object ∷ [])

-- a tag has room for so many edits
abbrev pub most_edits : ℕ
most_edits = 18446744073709551615

module _ {C J V : Type 0} where
  -- the edits that are done and wait for the next commit
  abbrev pub waiting_of : SitePages C J V → List (List ℕ)
  waiting_of s = map (λ l. l.items) s.waiting.items

  module _ (c : commands.Ghosts C) where
    -- These lines were carried out and got these replies. Of them the edits that were done wait for the next commit, unless
    -- memory for one ran out, and they are counted.
    pub record Follows (replied : List Replied) (old new : SitePages C J V) : Type 0 where
      pub served : Serves (c.replies (c.fixed old.commands)) (c.state old.commands) replied (c.state new.commands)
      pub fixed : c.fixed new.commands ≡ c.fixed old.commands
      pub wait : new.is_lost ≡ false → (old.is_lost ≡ false) × (waiting_of new ≡ waiting_of old ++ history_of c.keeps replied)
      pub counted : old.tag.edits + length (history_of c.keeps replied) ≤ most_edits
          → new.tag.edits ≡ old.tag.edits + length (history_of c.keeps replied)
      pub start : new.tag.start ≡ old.tag.start
      pub journal : new.journal ≡ old.journal

    -- the reply to a request for a page is the reply to the line that asks for it, or there was no memory for the line
    abbrev pub ShowsPage : SitePages C J V → List ℕ → ReplyData → SitePages C J V → Type 0
    ShowsPage old path reply new =
        Follows (record { line = page_line path; reply = reply } ∷ []) old new ⊎ ((reply ≡ refused OutOfMemory) × (new ≡ old))

    -- all lines were carried out, and these bytes are the replies to them
    pub record CarriesOutAll (old : SitePages C J V) (lines out : List ℕ) (new : SitePages C J V) : Type 0 where
      pub replied : List Replied
      pub follows : Follows replied old new
      pub whole : lines_of lines ≡ lines_in replied
      pub bytes : out ≡ written_for replied

    -- the first of the lines were carried out
    pub record CarriesOutSome (old : SitePages C J V) (lines : List ℕ) (new : SitePages C J V) : Type 0 where
      pub replied : List Replied
      pub further : List (List ℕ)
      pub follows : Follows replied old new
      pub first : lines_of lines ≡ lines_in replied ++ further

  -- The edits that waited are noted and committed, or the verdict is `false`. Whatever a crash leaves of the log, it has the
  -- lines that it had before, or all that were noted with those that waited.
  pub record CommitsWaiting (j : journals.Ghosts J) (old : SitePages C J V) (kept : Bool) (new : SitePages C J V) : Type 0 where
    pub commands : new.commands ≡ old.commands
    pub tag : new.tag ≡ old.tag
    pub noted : kept ≡ true → (old.is_lost ≡ false) × Grows (j.noted old.journal) (j.noted new.journal) (waiting_of old)
    pub none : kept ≡ true → (new.is_lost ≡ false) × (waiting_of new ≡ [])
    pub settled : kept ≡ true → j.is_open old.journal → IsSettled j new.journal
    -- it fails only as the journal does, or if memory for an edit has run out
    pub cause : kept ≡ false → (old.is_lost ≡ true) ⊎ (j.has_failed new.journal ≡ true)
    pub crash : (held : List (List ℕ)) → j.may_hold new.journal held → j.may_hold old.journal held
        ⊎ ((old.is_lost ≡ false) × ((meant : Option (List (List ℕ))) × Grows (j.noted old.journal) meant (waiting_of old) × (meant ≡ Some held)))
