-- Lemmas on open pages and their places.
use Rattle.std.proofs.Common.{arith, ◌≡◌, ℕ, ◌+◌, ◌-◌, ◌<◌, ◌≤◌, List, [], ◌∷◌, ◌∙◌, Option, Some, None, Ok, true, refl, sym, subst, ap}
use Rattle.std.proofs.Common.{length, get_or}
use Rattle.std.specs.Prelude.{is_none, option_map, position, nat_lt, map, slice_set}
use Rattle.std.specs.List.{position_or_len}
use Rattle.std.proofs.lemmas.Bool.{lt-ltb, le-ltb}
use Rattle.std.proofs.lemmas.List.{map-set, set-set, set-get_or, length-map}
use Rattle.std.proofs.Math.ListN.{get_or-map}
use Rattle.hook_meaning.specs.declared.fault.RunFault.{RunFault}
use Rattle.hook_meaning.specs.Trace.{Fault, outcome_of, turns_of}
use Rattle.hook_meaning.specs.Meaning.{Engine}
use Rattle.post_tables.specs.Rows.{Rows}
use Rattle.template_parts.specs.Pages.{IsPage}
use Rattle.template_parts.specs.declared.open_page.OpenPage.{OpenPage}
use Rattle.template_parts.specs.declared.open_page.Turned.TheVariants.{Open}
use Rattle.template_parts.specs.Open.{open_left, status_of, GoesOn}
use Rattle.site_replies.specs.Reply.{ReplyData, done, page}
use Rattle.site_program.specs.Requests.{Opened, refusal_of}
use Rattle.site_program.specs.State.{State, Places, page_in, with_page, after_turns}
use Rattle.site_program.specs.Site.{opened_as, places_of}

-- ---- an open page after some turns

-- a page that has more turns left than it is given is open
after_turns-open : (count : ℕ) (before later : Opened) → before.left ≡ count + later.left → 0 < later.left → before.answer ≡ later.answer
    → after_turns count before ≡ (Some later, done)
after_turns-open count before later turns some same =
    let more : nat_lt count before.left ≡ true = lt-ltb count before.left (omega arith) in
    let fewer : before.left - count ≡ later.left = omega arith in
    rw (more, fewer, same) refl

-- and one that has not is closed
after_turns-closed : (count : ℕ) (before : Opened) → before.left ≤ count → after_turns count before ≡ (None, before.answer)
after_turns-closed count before few = rw (le-ltb count before.left few) refl

module _ (engine : Engine) (count : ℕ) (kept : OpenPage) where
  pub turned-open : (later : OpenPage) → GoesOn engine count kept (Ok (Open later))
      → after_turns count (opened_as engine kept) ≡ (Some (opened_as engine later), done)
  turned-open later on =
      let turns = on.0.turns in
      after_turns-open count (opened_as engine kept) (opened_as engine later) (omega arith) (omega arith)
      (rw (on.0.ends, on.1) refl)

  pub turned-printed : (status : ℕ) (bytes : List ℕ) → length (turns_of (open_left engine kept)) < count → IsPage (open_left engine kept) bytes
      → status ≡ status_of kept → after_turns count (opened_as engine kept) ≡ (None, page status bytes)
  turned-printed status bytes within made is =
      after_turns-closed count (opened_as engine kept) (omega arith)
      ∙ ap (λ (reply : ReplyData). (None, reply)) (rw (made.made, made.whole, is) refl)

  pub turned-refused : (fault : RunFault) → length (turns_of (open_left engine kept)) < count → outcome_of (open_left engine kept) ≡ Fault fault
      → after_turns count (opened_as engine kept) ≡ (None, refusal_of fault)
  turned-refused fault within ends =
      after_turns-closed count (opened_as engine kept) (omega arith) ∙ ap (λ (reply : ReplyData). (None, reply)) (rw ends refl)

-- ---- places

-- what is put into a place
pub places_of-set : (engine : Engine) (pages : List (Option OpenPage)) (place : ℕ) (put : Option OpenPage)
    → places_of engine (slice_set pages place put) ≡ slice_set (places_of engine pages) place (option_map (opened_as engine) put)
places_of-set engine pages place put = map-set (option_map (opened_as engine)) pages place put

-- what is found in a place
pub page_in-places_of : (engine : Engine) (pages : List (Option OpenPage)) (place : ℕ)
    → page_in place (places_of engine pages) ≡ option_map (opened_as engine) (get_or pages place None)
page_in-places_of engine pages place = get_or-map (option_map (opened_as engine)) pages place None

first_free-map : {A B : Type 0} (f : A → B) (xs : List (Option A)) → position_or_len is_none (map (option_map f) xs) ≡ position_or_len is_none xs
first_free-map f [] = refl
first_free-map f (None ∷ xs) = refl
first_free-map f (Some x ∷ xs) = ap (λ n. 1 + n) (first_free-map f xs)

-- a place is free as it is seen to be
pub position-places_of : (engine : Engine) (pages : List (Option OpenPage)) → position is_none (places_of engine pages) ≡ position is_none pages
position-places_of engine pages =
    rw (first_free-map (opened_as engine) pages, length-map) refl

-- taking nothing out of a place changes nothing
pub none_taken : (pages : Places) (place : ℕ) → page_in place pages ≡ None → slice_set pages place None ≡ pages
none_taken pages place none = subst (λ page. slice_set pages place page ≡ pages) none (set-get_or pages place None)

state_by : (r s : Rows) (p q : Places) → r ≡ s → p ≡ q → ◌≡◌ {A = State} (record { rows = r; pages = p }) (record { rows = s; pages = q })
state_by r s p q e f = rw (e, f) refl

pub rows_seen : (r s : Rows) (p : Places) → r ≡ s → ◌≡◌ {A = State} (record { rows = r; pages = p }) (record { rows = s; pages = p })
rows_seen r s p e = state_by r s p p e refl

module _ (engine : Engine) (rows later : Rows) (pages after : List (Option OpenPage)) (place : ℕ) (same : later ≡ rows) where
  abbrev seen : Rows → List (Option OpenPage) → State
  seen r ps = record { rows = r; pages = places_of engine ps }

  -- a page was put into a place
  pub put_seen : (put : OpenPage) (is : Opened) → after ≡ slice_set pages place (Some put) → opened_as engine put ≡ is
      → seen later after ≡ with_page (seen rows pages) place (Some is)
  put_seen put is made same_page =
      state_by later rows _ _ same
      (ap (places_of engine) made ∙ places_of-set engine pages place (Some put)
      ∙ ap (λ (o : Opened). slice_set (places_of engine pages) place (Some o)) same_page)

  -- one was taken out of it
  pub taken_seen : after ≡ slice_set pages place None → seen later after ≡ with_page (seen rows pages) place None
  taken_seen made = state_by later rows _ _ same (ap (places_of engine) made ∙ places_of-set engine pages place None)

  -- one was taken out of it, and then one put into it
  pub put_back_seen : (between : List (Option OpenPage)) (put : OpenPage) → between ≡ slice_set pages place None
      → after ≡ slice_set between place (Some put) → seen later after ≡ with_page (seen rows pages) place (Some (opened_as engine put))
  put_back_seen between put taken made =
      put_seen put (opened_as engine put) (made ∙ ap (λ (ps : List (Option OpenPage)). slice_set ps place (Some put)) taken
      ∙ set-set pages place None (Some put)) refl

-- what was taken out of a place was in it
pub taken_from : (engine : Engine) (pages : List (Option OpenPage)) (place n : ℕ) (result : Option OpenPage) (kept : OpenPage) → place ≡ n
    → result ≡ get_or pages place None → result ≡ Some kept → page_in n (places_of engine pages) ≡ Some (opened_as engine kept)
taken_from engine pages place n result kept at is found =
    page_in-places_of engine pages n
    ∙ ap (option_map (opened_as engine)) (ap (λ (k : ℕ). get_or pages k None) (sym at) ∙ sym is ∙ found)

pub none_of : (o : Option ℕ) → ((i : ℕ) → o ≡ Some i → ⊥) → o ≡ None
none_of None never = refl
none_of (Some i) never = absurd (never i refl)
