-- What came of a command over a site.
use Rattle.std.proofs.Common.{◌≡◌, ◌≢◌, inl, inr, ℕ, ◌+◌, ◌-◌, ◌≤◌, List, ◌∙◌, Option, Some, None, Result, Ok, Err, true, false, refl, sym, ap, length}
use Rattle.std.specs.Prelude.{◌&&◌, ◌||◌, nat_le, is_none, is_some, position, IfOk, IfErr}
use Rattle.std.proofs.lemmas.Bool.{le-leb}
use Rattle.hook_meaning.specs.Meaning.{Engine}
use Rattle.hook_meaning.specs.Trace.{Fault, outcome_of}
use Rattle.hook_meaning.specs.declared.fault.RunFault.{RunFault}
use Rattle.hook_meaning.specs.declared.fault.RunFault.TheVariants as run
use Rattle.template_parts.specs.declared.open_page.OpenPage.{OpenPage}
use Rattle.template_parts.specs.Open.{open_left}
use Rattle.template_parts.specs.Page.{EndsWithin}
use Rattle.post_tables.specs.Rows.{Rows}
use Rattle.site_commands.specs.Asked.{Asked}
use Rattle.site_commands.specs.Asked as asked
use Rattle.site_replies.specs.declared.reply.Refusal.TheVariants.{TooLarge, NoSuchPage, TooManyPages}
use Rattle.site_replies.specs.declared.reply.SiteReply.{SiteReply}
use Rattle.site_replies.specs.declared.reply.SiteReply.TheVariants as reply
use Rattle.site_replies.specs.Reply.{ReplyData, reply_data}
use Rattle.post_tables.specs.declared.fault.StoreFault.{StoreFault}
use Rattle.post_tables.specs.declared.fault.StoreFault.TheVariants as store
use Rattle.site_edits.specs.Carried.{CarriesOut}
use Rattle.post_tables.specs.Faults.{IsStoreReadFault}
use Rattle.site_edits.specs.Late.{rests_on_rows, may_be_late}
use Rattle.site_program.specs.Requests.{Opened, requested, refusal_of}
use Rattle.site_program.specs.State.{State, page_in, with_page, without_page, after_turns}
use Rattle.site_program.specs.Step.{got, begun, turned, over_rows, is_edit, may_be_late_at, max_path, IsLeftBy, unchanged, closed}
use Rattle.site_program.specs.Site.{opened_as}
use Rattle.site_program.specs.Carried.{CarriesOn}
use Rattle.site_program.proofs.Pages.{got-undone}
use Rattle.site_program.proofs.Places.{turned-refused}

-- ---- a command over the rows

edit-late : (command : Option Asked) (limit : Option ℕ) (reply : ReplyData) → is_edit command ≡ true → may_be_late limit reply ≡ true
    → may_be_late_at command limit reply ≡ true
edit-late None limit reply none late = absurd (cc)
edit-late (Some (asked.get path)) limit reply none late = absurd (cc)
edit-late (Some (asked.begin path)) limit reply none late = absurd (cc)
edit-late (Some (asked.turns page count)) limit reply none late = absurd (cc)
edit-late (Some _) limit reply edits late = late

over-rows : (command : Option Asked) (site : State) (meant : Rows × ReplyData) (result : Result SiteReply StoreFault) (rows : Rows)
    → (may_be_late site.rows.step_limit meant.1 ≡ true → may_be_late_at command site.rows.step_limit meant.1 ≡ true)
    → CarriesOut site.rows meant result rows
    → CarriesOn command site (over_rows site meant) result (record site { rows = rows })
over-rows command site meant (Ok reply) rows late done = record { ok = ap (over_rows site) done.ok; err = tt; late = tt }
over-rows command site meant (Err fault) rows late done =
    let same = ap (λ (r : Rows). record site { rows = r }) done.err in record {
      ok = tt;
      err = unchanged same;
      late = λ is. record { same = same; late = late (done.late is) };
    }

-- an edit
pub lifted : (command : Option Asked) (site : State) (meant : Rows × ReplyData) (result : Result SiteReply StoreFault) (rows : Rows) → is_edit command ≡ true
    → CarriesOut site.rows meant result rows
    → CarriesOn command site (over_rows site meant) result (record site { rows = rows })
lifted command site meant result rows edits done = over-rows command site meant result rows (edit-late command site.rows.step_limit meant.1 edits) done

-- a request, whose reply is no `ok`
pub lifted_got : (engine : Engine) (calls : ℕ) (site : State) (path : List ℕ) (result : Result SiteReply StoreFault) (rows : Rows)
    → CarriesOut site.rows (got engine calls site.rows path) result rows
    → CarriesOn (Some (asked.get path)) site (over_rows site (got engine calls site.rows path)) result (record site { rows = rows })
lifted_got engine calls site path result rows done =
    over-rows (Some (asked.get path)) site (got engine calls site.rows path) result rows
    (λ late. ap (λ b. b || (is_some site.rows.step_limit && rests_on_rows (got engine calls site.rows path).1))
    (sym (got-undone engine calls site.rows path)) ∙ late) done

-- ---- `begin`

module _ (engine : Engine) (calls : ℕ) (site : State) (path : List ℕ) where
  pub begun-long : nat_le (length path) max_path ≡ false → CarriesOn (Some (asked.begin path)) site (begun engine calls site path) (Ok (reply.Refused TooLarge))
      site
  unfolding begun
  begun-long long = record { ok = rw long refl; err = tt; late = tt }

  module _ (short : length path ≤ max_path) where
    pub begun-full : position is_none site.pages ≡ None
        → CarriesOn (Some (asked.begin path)) site (begun engine calls site path) (Ok (reply.Refused TooManyPages)) site
    unfolding begun
    begun-full full = record { ok = rw (le-leb _ _ short, full) refl; err = tt; late = tt }

    pub begun-in : (place : ℕ) (new : State) → position is_none site.pages ≡ Some place
        → new ≡ with_page site place (Some (requested engine calls site.rows path))
        → CarriesOn (Some (asked.begin path)) site (begun engine calls site path) (Ok (reply.OkId (place + 1))) new
    unfolding begun
    begun-in place new free is = record { ok = rw (le-leb _ _ short, free, is) refl; err = tt; late = tt }

    -- the database refuses it only with a limit on steps
    begun-late : (place : ℕ) (why : StoreFault) → position is_none site.pages ≡ Some place → IsStoreReadFault site.rows.step_limit why → why ≡ store.Store
        → (is_some site.rows.step_limit && rests_on_rows (begun engine calls site path).1) ≡ true
    unfolding begun
    begun-late place why free (inl memory) is = absurd (let clash = sym memory ∙ is in cc)
    begun-late place why free (inr late) is = rw (le-leb _ _ short, free, late.1) refl

    pub begun-stopped : (place : ℕ) (new : State) (why : StoreFault) → position is_none site.pages ≡ Some place → new ≡ site
        → IsStoreReadFault site.rows.step_limit why → CarriesOn (Some (asked.begin path)) site (begun engine calls site path) (Err why) new
    begun-stopped place new why free same stopped = record {
      ok = tt;
      err = unchanged same;
      late = λ is. record { same = same; late = begun-late place why free stopped is };
    }

-- ---- `turns`

module _ (site : State) (page count : ℕ) (new : State) where
  pub turned-nowhere : page_in (page - 1) site.pages ≡ None → new ≡ site
      → CarriesOn (Some (asked.turns page count)) site (turned site page count) (Ok (reply.Refused NoSuchPage)) new
  unfolding turned
  turned-nowhere none same = record { ok = rw (none, same) refl; err = tt; late = tt }

  pub turned-on : (before : Opened) (after : Option Opened) (reply : SiteReply) → page_in (page - 1) site.pages ≡ Some before
      → after_turns count before ≡ (after, reply_data reply) → new ≡ with_page site (page - 1) after
      → CarriesOn (Some (asked.turns page count)) site (turned site page count) (Ok reply) new
  unfolding turned
  turned-on before after reply there turns is = record { ok = rw (there, turns, is) refl; err = tt; late = tt }

  pub turned-forgone : (why : StoreFault) → new ≡ with_page site (page - 1) None → why ≡ store.OutOfMemory
      → CarriesOn (Some (asked.turns page count)) site (turned site page count) (Err why) new
  turned-forgone why gone memory = record { ok = tt; err = closed gone; late = λ is. absurd (let clash = sym memory ∙ is in cc) }

  -- a page that is printed is closed, also if memory ran out for its reply
  pub turned-closed : (before : Opened) (meant : ReplyData) (result : Result SiteReply StoreFault) → page_in (page - 1) site.pages ≡ Some before
      → after_turns count before ≡ (None, meant) → new ≡ with_page site (page - 1) None → IfOk result (λ reply. reply_data reply ≡ meant)
      → IfErr result (λ why. why ≡ store.OutOfMemory) → CarriesOn (Some (asked.turns page count)) site (turned site page count) result new
  turned-closed before meant (Ok reply) there turns gone is memory =
      turned-on before None reply there (turns ∙ ap (λ (r : ReplyData). (None, r)) (sym is)) gone
  turned-closed before meant (Err why) there turns gone is memory = turned-forgone why gone memory

  -- a page that is refused is closed, and so is one at which memory ran out
  pub turned-failed : (engine : Engine) (kept : OpenPage) (fault : RunFault) (result : Result SiteReply StoreFault)
      → page_in (page - 1) site.pages ≡ Some (opened_as engine kept) → new ≡ with_page site (page - 1) None
      → (fault ≢ run.OutOfMemory → EndsWithin count (open_left engine kept) × (outcome_of (open_left engine kept) ≡ Fault fault))
      → IfOk result (λ reply. (reply_data reply ≡ refusal_of fault) × (fault ≢ run.OutOfMemory)) → IfErr result (λ why. why ≡ store.OutOfMemory)
      → CarriesOn (Some (asked.turns page count)) site (turned site page count) result new
  turned-failed engine kept fault (Ok reply) there gone ends is memory =
      let how = ends is.1 in
      turned-on (opened_as engine kept) None reply there
      (turned-refused engine count kept fault how.0 how.1 ∙ ap (λ (r : ReplyData). (None, r)) (sym is.0)) gone
  turned-failed engine kept fault (Err why) there gone ends is memory = turned-forgone why gone memory

-- ---- what is left if memory runs out

without_page-rows : (place : Option ℕ) (site : State) → (without_page place site).rows ≡ site.rows
without_page-rows None site = refl
without_page-rows (Some place) site = refl

pub left_rows : (place : Option ℕ) (old new : State) → IsLeftBy place old new → new.rows ≡ old.rows
left_rows place old new (unchanged same) = ap (λ site. site.rows) same
left_rows place old new (closed gone) = ap (λ site. site.rows) gone ∙ without_page-rows place old

pub left_limit : (place : Option ℕ) (old new : State) → IsLeftBy place old new → new.rows.step_limit ≡ old.rows.step_limit
left_limit place old new left = ap (λ (rows : Rows). rows.step_limit) (left_rows place old new left)
