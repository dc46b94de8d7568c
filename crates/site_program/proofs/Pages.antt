-- Lemmas on the reply to a request.
use Rattle.std.proofs.Common.{◌≡◌, ◌≢◌, ◌≤◌, inl, inr, ℕ, Bool, true, List, ◌∙◌, Ok, Err, refl, sym, ap, length}
use Rattle.std.proofs.lemmas.Bool.{cond_both, le-leb}
use Rattle.std.specs.Prelude.{Result, IfOk, IfErr, false, ◌||◌, nat_le}
use Rattle.plain_data.specs.Texts.{Text}
use Rattle.hook_meaning.specs.World.{World, fresh, loaded}
use Rattle.hook_meaning.specs.declared.fault.RunFault.{RunFault}
use Rattle.hook_meaning.specs.declared.fault.RunFault.TheVariants as fault
use Rattle.hook_meaning.specs.Trace.{Outcome, Ended, Fault, outcome_of}
use Rattle.hook_meaning.specs.Meaning.{Engine}
use Rattle.site_records.specs.declared.found.Found.{Found}
use Rattle.post_tables.specs.Rows.{Rows}
use Rattle.template_parts.specs.Pages as template
use Rattle.template_parts.specs.Pages.{Work, IsPage, IsRefusedBy}
use Rattle.template_parts.specs.declared.settings.Settings.{Settings}
use Rattle.template_parts.specs.declared.open_page.OpenPage.{OpenPage}
use Rattle.template_parts.specs.Open.{open_left, status_of}
use Rattle.site_replies.specs.declared.reply.SiteReply.{SiteReply}
use Rattle.site_replies.specs.Reply.{ReplyData, reply_data, page}
use Rattle.site_edits.specs.Carried.{CarriesOut}
use Rattle.post_tables.specs.Faults.{IsStoreReadFault}
use Rattle.site_edits.specs.Late.{is_done, rests_on_rows, may_be_late}
use Rattle.post_tables.specs.declared.fault.StoreFault.{StoreFault}
use Rattle.post_tables.specs.declared.fault.StoreFault.TheVariants as store
use Rattle.site_program.specs.Step.{got, max_path}
use Rattle.site_store.specs.Stored.{Texts, options_of, templates_of, active_of, found_by}
use Rattle.site_program.specs.Requests.{Opened, opened_page, settings_for, page_pass, page_of, page_data}
use Rattle.site_program.specs.Requests.{refusal_of, requested, request}
use Rattle.site_program.specs.Site.{opened_as}

-- ---- the page of what was found

module _ (engine : Engine) (calls : ℕ) (found : Found) (options templates : Texts) (active : List Text) where
  -- the work of a page that was begun is the page's work
  work_is : (settings : Settings) (f : Found) (world : World) → settings ≡ settings_for found.kind options templates → f ≡ found
      → world ≡ loaded engine.plugins (fresh calls options active)
      → template.page_pass engine settings f.posts world ≡ page_pass engine calls found options templates active
  unfolding page_pass
  work_is settings f world settings_are f_is world_is = rw (settings_are, f_is, world_is) refl

  pub opened-page : (kept : OpenPage) (settings : Settings) (world : World) → settings ≡ settings_for found.kind options templates
      → world ≡ loaded engine.plugins (fresh calls options active) → open_left engine kept ≡ template.page_pass engine settings found.posts world
      → status_of kept ≡ found.status → opened_as engine kept ≡ page_of engine calls found options templates active
  opened-page kept settings world settings_are world_is left status =
      let work = left ∙ work_is settings found world settings_are refl world_is in
      ap (λ (s : ℕ). opened_page s (open_left engine kept)) status ∙ ap (opened_page found.status) work

-- ---- how a page ends

pub shown_made : (work : Work) (status given : ℕ) (text : Text) → IsPage work text → given ≡ status → page given text ≡ page_data status (outcome_of work)
shown_made work status given text made is = rw (is, made.whole, made.made) refl

pub shown_refused : (work : Work) (status : ℕ) (why : RunFault) → IsRefusedBy work why → why ≢ fault.OutOfMemory → refusal_of why
    ≡ page_data status (outcome_of work)
shown_refused work status why refused other = rw (refused other) refl

-- ---- the reply to a path

-- however a page ended, its reply rests on the rows
shown-rests : (status : ℕ) (end : Outcome (Unit {0})) → rests_on_rows (page_data status end) ≡ true
shown-rests status (Ended world nothing) = refl
shown-rests status (Fault fault.TooManyCalls) = refl
shown-rests status (Fault fault.TooDeep) = refl
shown-rests status (Fault fault.OutOfMemory) = refl

-- and is no `ok`
shown-undone : (status : ℕ) (end : Outcome (Unit {0})) → is_done (page_data status end) ≡ false
shown-undone status (Ended world nothing) = refl
shown-undone status (Fault fault.TooManyCalls) = refl
shown-undone status (Fault fault.TooDeep) = refl
shown-undone status (Fault fault.OutOfMemory) = refl

or_true : (b : Bool) → (b || true) ≡ true
or_true true = refl
or_true false = refl

module _ (engine : Engine) (calls : ℕ) (rows : Rows) (path : Text) where
  -- by what was read of the rows
  pub requested-is : (kept : Opened) (found : Found) (options templates : Texts) (active : List Text) → found ≡ found_by rows path → options ≡ options_of rows
      → templates ≡ templates_of rows → active ≡ active_of rows
      → kept ≡ page_of engine calls found options templates active → kept ≡ requested engine calls rows path
  unfolding requested
  requested-is kept found options templates active f o t a is = rw (is, f, o, t, a) refl

  -- a path that isn't too long
  pub got-short : (new : Rows) (reply : ReplyData) → length path ≤ max_path → new ≡ rows → reply ≡ request engine calls rows path
      → (new, reply) ≡ got engine calls rows path
  unfolding got
  got-short new reply short same is = rw (le-leb _ _ short, same, is) refl

  rests : rests_on_rows (request engine calls rows path) ≡ true
  unfolding requested
  rests = shown-rests _ _

  pub got-undone : is_done (got engine calls rows path).1 ≡ false
  unfolding got requested
  got-undone = cond_both (nat_le (length path) max_path) _ _ (λ (p : Rows × ReplyData). is_done p.1 ≡ false) (λ fits. shown-undone _ _) (λ long. refl)

  -- the database refuses it only with a limit on steps, in place of a reply that rests on the rows
  pub got-late : length path ≤ max_path → (why : StoreFault) → IsStoreReadFault rows.step_limit why → why ≡ store.Store
      → may_be_late rows.step_limit (got engine calls rows path).1 ≡ true
  unfolding got
  got-late short why (inl none) is = absurd (let clash = sym none ∙ is in cc)
  got-late short why (inr late) is = rw (le-leb _ _ short, late.1, rests) (or_true _)

  -- a page that was not begun
  pub got-stopped : length path ≤ max_path → (new : Rows) (why : StoreFault) → new ≡ rows → IsStoreReadFault rows.step_limit why
      → CarriesOut rows (got engine calls rows path) (Err why) new
  got-stopped short new why same stopped = record { ok = tt; err = same; late = λ is. got-late short why stopped is }

  -- and one that was, and is finished
  pub got-done : length path ≤ max_path → (new : Rows) (result : Result SiteReply StoreFault) (it : Opened) → new ≡ rows → it ≡ requested engine calls rows path
      → IfOk result (λ reply. reply_data reply ≡ it.answer) → IfErr result (λ why. why ≡ store.OutOfMemory)
      → CarriesOut rows (got engine calls rows path) result new
  got-done short new (Ok reply) it same begun is memory =
      record { ok = got-short new (reply_data reply) short same (is ∙ ap (λ (o : Opened). o.answer) begun); err = tt; late = tt }
  got-done short new (Err why) it same begun is memory = record { ok = tt; err = same; late = λ late. absurd (let clash = sym memory ∙ late in cc) }
