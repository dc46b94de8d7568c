-- Bundles that agree on the active plugins reply alike to each command.
use Rattle.std.proofs.Common.{◌≡◌, ℕ, true, false, List, [], ◌∷◌, Option, None, Some, refl, sym, ap, ◌∙◌, arith, map}
use Rattle.std.specs.Prelude.{is_some, is_none, position, if◌then◌else◌, nat_le, length}
use Rattle.std.specs.List.{AllByRecursion}
use Rattle.std.specs.FinMap.{entries, len-entries, len-empty}
use Rattle.plain_data.specs.Texts.{Text}
use Rattle.hook_meaning.specs.World.{fresh, loaded}
use Rattle.hook_meaning.specs.Meaning.{Engine}
use Rattle.site_records.specs.declared.found.Found.{Found}
use Rattle.post_tables.specs.Rows.{Rows, no_rows}
use Rattle.callback_store.specs.Shape.{load_of}
use Rattle.site_commands.specs.Asked.{Asked}
use Rattle.site_commands.specs.Asked as asked
use Rattle.site_commands.specs.Worked.{line_command}
use Rattle.site_replies.specs.declared.reply.Refusal.TheVariants.{TooLarge}
use Rattle.site_replies.specs.Reply.{ReplyData, refused}
use Rattle.template_parts.specs.Pages as template
use Rattle.site_store.specs.Stored.{Texts, found_by, options_of, templates_of, active_of}
use Rattle.site_program.specs.Requests.{settings_for, page_pass, Opened, opened_page, requested, request}
use Rattle.site_program.specs.History.{Serves, site_after, replies_to}
use Rattle.site_serving.specs.Served.{Replied, lines_in, AreCarriedOut}
use Rattle.site_program.specs.State.{State, empty_site}
use Rattle.site_program.specs.Step.{got, begun, opened_in, max_path, over_rows, carried_out, step}
use Rattle.hook_meaning.specs.Agreement.{are_among, AgreeOn}
use Rattle.hook_meaning.proofs.Seen.{known-same, agree-fewer}
use Rattle.hook_meaning.proofs.Isolated.{loaded-same, loaded-these}
use Rattle.site_laws.specs.Through.{through, StaysAmong}
use Rattle.site_edits.proofs.Known.{set_active-same, import-same}
use Rattle.site_laws.proofs.Histories.{served-whole}
use Rattle.template_parts.proofs.Keeping.{these-page}

module _ (one other : Engine) (calls : ℕ) where
  -- a page goes the same way
  pub page-same : (found : Found) (options templates : Texts) (active : List Text) → AgreeOn active one other
      → page_pass one calls found options templates active ≡ page_pass other calls found options templates active
  unfolding page_pass
  page-same found options templates active agree =
      these-page active one other agree (settings_for found.kind options templates) found.posts (loaded one.plugins (fresh calls options active))
      (loaded-these active one other agree calls options)
      ∙ ap (template.page_pass other (settings_for found.kind options templates) found.posts) (loaded-same active one other agree calls options)

  -- so a page that is opened has the same bytes, and as many turns
  pub requested-same : (rows : Rows) (path : Text) → AgreeOn (active_of rows) one other → requested one calls rows path ≡ requested other calls rows path
  unfolding requested
  requested-same rows path agree =
      ap (opened_page (found_by rows path).status) (page-same (found_by rows path) (options_of rows) (templates_of rows) (active_of rows) agree)

  pub request-same : (rows : Rows) (path : Text) → AgreeOn (active_of rows) one other → request one calls rows path ≡ request other calls rows path
  request-same rows path agree = ap (λ (page : Opened). page.answer) (requested-same rows path agree)

  module _ (names : List Text) (agree : AgreeOn names one other) where
    known : (name : Text) → is_some (load_of one.plugins name) ≡ is_some (load_of other.plugins name)
    known name = known-same names one other agree name

    got-same : (rows : Rows) (path : Text) → are_among names (active_of rows) ≡ true → got one calls rows path ≡ got other calls rows path
    unfolding got
    got-same rows path among =
        ap (λ reply. if nat_le (length path) max_path then (rows, reply) else (rows, refused TooLarge))
        (request-same rows path (agree-fewer names (active_of rows) among one other agree))

    begun-same : (site : State) (path : Text) → are_among names (active_of site.rows) ≡ true → begun one calls site path ≡ begun other calls site path
    unfolding begun
    begun-same site path among =
        ap (λ page. if nat_le (length path) max_path then opened_in (position is_none site.pages) page site else (site, refused TooLarge))
        (requested-same site.rows path (agree-fewer names (active_of site.rows) among one other agree))

    carried-same : (site : State) (what : Option Asked) → are_among names (active_of site.rows) ≡ true
        → carried_out one calls site what ≡ carried_out other calls site what
    carried-same site None among = refl
    carried-same site (Some (asked.put kind status title content date)) among = refl
    carried-same site (Some (asked.edit id status title content date)) among = refl
    carried-same site (Some (asked.delete id)) among = refl
    carried-same site (Some (asked.option name value)) among = refl
    carried-same site (Some (asked.activate plugin)) among =
        ap (over_rows site) (set_active-same one.plugins other.plugins known site.rows plugin true)
    carried-same site (Some (asked.deactivate plugin)) among =
        ap (over_rows site) (set_active-same one.plugins other.plugins known site.rows plugin false)
    carried-same site (Some (asked.template name body)) among = refl
    carried-same site (Some (asked.import file)) among = ap (over_rows site) (import-same one.plugins other.plugins known site.rows file)
    carried-same site (Some (asked.get path)) among = ap (over_rows site) (got-same site.rows path among)
    carried-same site (Some (asked.begin path)) among = begun-same site path among
    carried-same site (Some (asked.turns page count)) among = refl

    pub step-same : (site : State) (line : List ℕ) → are_among names (active_of site.rows) ≡ true → step one calls site line ≡ step other calls site line
    unfolding step
    step-same site line among = carried-same site (line_command line) among

-- ---- whole lists of lines, of any steps

module _ {X : Type 0} (first second : X → List ℕ → X × ReplyData) (Good : X → Type 0) (same : (x : X) (line : List ℕ) → Good x → first x line ≡ second x line)
  where
    pub through-same : (x : X) (lines : List (List ℕ)) → Good x → AllByRecursion (λ s. Good s.0) (through first x lines) → through first x lines
        ≡ through second x lines
    through-same x [] good all = refl
    through-same x (line ∷ lines) good all =
        ap (λ rest. first x line ∷ rest) (through-same (first x line).0 lines all.0 all.1)
        ∙ ap (λ s. s ∷ through second s.0 lines) (same x line good)

-- the lines, each with the reply to it
abbrev told : List (List ℕ) → List (State × ReplyData) → List Replied
told [] later = []
told (line ∷ lines) [] = []
told (line ∷ lines) (s ∷ later) = record { line = line; reply = s.1 } ∷ told lines later

-- the last site
abbrev last_of : State → List (State × ReplyData) → State
last_of site [] = site
last_of site (s ∷ later) = last_of s.0 later

replies_to-told : (steps : State → List ℕ → State × ReplyData) (site : State) (lines : List (List ℕ))
    → replies_to steps site lines ≡ told lines (through steps site lines)
replies_to-told steps site [] = refl
replies_to-told steps site (line ∷ lines) =
    ap (λ rest. record { line = line; reply = (steps site line).1 } ∷ rest) (replies_to-told steps (steps site line).0 lines)

site_after-last : (steps : State → List ℕ → State × ReplyData) (site : State) (lines : List (List ℕ))
    → site_after steps site lines ≡ last_of site (through steps site lines)
site_after-last steps site [] = refl
site_after-last steps site (line ∷ lines) = site_after-last steps (steps site line).0 lines

-- no plugin is active in an empty site
none : {X : Type 0} (xs : List X) → length xs ≡ 0 → xs ≡ []
none [] e = refl
none (x ∷ xs) e = absurd (omega arith)

no_names : active_of no_rows ≡ []
no_names = ap (map (λ e. e.0)) (none (entries no_rows.active) (sym (len-entries no_rows.active) ∙ len-empty _ _))

module _ (names : List Text) (one other : Engine) (agree : AgreeOn names one other) (calls : ℕ) where
  pub sites-same : (lines : List (List ℕ)) → StaysAmong names (through (step one calls) empty_site lines)
      → through (step one calls) empty_site lines ≡ through (step other calls) empty_site lines
  sites-same lines stays =
      through-same (step one calls) (step other calls) (λ site. are_among names (active_of site.rows) ≡ true)
      (λ site line among. step-same one other calls names agree site line among) empty_site lines (ap (are_among names) no_names) stays

  pub replies-same : (replied alike : List Replied) (new after : State) → Serves (step one calls) empty_site replied new
      → Serves (step other calls) empty_site alike after
      → lines_in replied ≡ lines_in alike
      → AreCarriedOut replied
      → AreCarriedOut alike
      → StaysAmong names (through (step one calls) empty_site (lines_in replied))
      → (replied ≡ alike) × (new ≡ after)
  replies-same replied alike new after served also lines out out' stays =
      let first = served-whole one calls None empty_site new replied served out in
      let second = served-whole other calls None empty_site after alike also out' in
      let same = sites-same (lines_in replied) stays in (
        first.1 ∙ replies_to-told (step one calls) empty_site (lines_in replied) ∙ ap (told (lines_in replied)) same
            ∙ sym (replies_to-told (step other calls) empty_site (lines_in replied)) ∙ ap (replies_to (step other calls) empty_site) lines
            ∙ sym second.1,
        first.0 ∙ site_after-last (step one calls) empty_site (lines_in replied) ∙ ap (last_of empty_site) same
            ∙ sym (site_after-last (step other calls) empty_site (lines_in replied)) ∙ ap (site_after (step other calls) empty_site) lines
            ∙ sym second.0,
      )
