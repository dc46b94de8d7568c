-- Sites under programs that know the same plugins, and may differ in anything else.
use Rattle.std.proofs.Common.{◌≡◌, ℕ, ◌∙◌, Bool, List, [], ◌∷◌, Option, Some, None, true, false, refl, sym, subst, ap, map, bytes_eq}
use Rattle.std.specs.Prelude.{◌&&◌, is_some, find, option_map, All}
use Rattle.std.specs.List.{list_any}
use Rattle.std.proofs.lemmas.Bool.{cond_both}
use Rattle.std.proofs.lemmas.List.Elements.{All-head, All-tail}
use Rattle.callback_store.specs.Shape.{Shape, load_of}
use Rattle.callback_store.proofs.Mapped.{is_some-find, list_any-map}
use Rattle.plain_data.specs.Texts.{Text}
use Rattle.hook_meaning.specs.Meaning.{Engine}
use Rattle.post_tables.specs.Rows.{Rows}
use Rattle.site_commands.specs.Worked.{line_command}
use Rattle.site_replies.specs.Reply.{ReplyData}
use Rattle.site_edits.specs.Late.{is_done}
use Rattle.site_edits.proofs.Limits.{limited}
use Rattle.site_program.specs.State.{State}
use Rattle.site_program.specs.Step.{step, is_edit}
use Rattle.site_program.specs.History.{Serves, site_after, replies_to}
use Rattle.site_laws.specs.Given.{AreEdits, AreGivenTheSame, edits_in, names_of}
use Rattle.site_serving.specs.Served.{AreCarriedOut, IsCarriedOut, Replied, lines_in}
use Rattle.site_program.proofs.Limits.{Follows, step-same}
use Rattle.site_laws.proofs.LogAndSite.{limited-same}
use Rattle.site_laws.proofs.Histories.{done-whole, reply-unkept, Serves-limit}
use Rattle.site_program.proofs.Refusals.{step-keeps}

-- ---- plugins of the same names

has_name : (name : Text) (xs : List Shape) → is_some (load_of xs name) ≡ list_any (λ n. bytes_eq n name) (map (λ s. s.name) xs)
has_name name xs =
    mapped (find (λ s. bytes_eq s.name name) xs)
    ∙ is_some-find (λ s. bytes_eq s.name name) xs
    ∙ sym (list_any-map (λ n. bytes_eq n name) (λ s. s.name) xs)
  where
    mapped : (o : Option Shape) → is_some (option_map (λ s. s.load) o) ≡ is_some o
    mapped None = refl
    mapped (Some x) = refl

pub names-known : (one other : Engine) → names_of one ≡ names_of other → (name : Text)
    → is_some (load_of one.plugins name) ≡ is_some (load_of other.plugins name)
names-known one other same name =
    has_name name one.plugins ∙ ap (list_any (λ n. bytes_eq n name)) same ∙ sym (has_name name other.plugins)

-- a line that is no edit keeps the rows
other-keeps : (engine : Engine) (calls : ℕ) (site : State) (line : List ℕ) → is_edit (line_command line) ≡ false
    → (step engine calls site line).0.rows ≡ site.rows
other-keeps engine calls site line falls =
    let next = step engine calls site line in
    step-keeps engine calls site next.0 line next.1 refl (ap (λ b. b && is_done next.1) falls)

module _ (one other : Engine) (same : names_of one ≡ names_of other) (calls more : ℕ) (limit : Option ℕ) where
  known : (name : Text) → is_some (load_of one.plugins name) ≡ is_some (load_of other.plugins name)
  known = names-known one other same

  -- ---- lines that both carry out

  line-follows : (site copy : State) (line : List ℕ) → Follows limit site copy → Follows limit (step one calls site line).0 (step other more copy line).0
  line-follows site copy line follows =
      by_kind (is_edit (line_command line)) refl
    where
      by_kind : (b : Bool) → is_edit (line_command line) ≡ b → Follows limit (step one calls site line).0 (step other more copy line).0
      by_kind true stands = (step-same one other calls more limit known site copy line stands follows).0
      by_kind false falls =
          other-keeps other more copy line falls ∙ follows ∙ ap (limited limit) (sym (other-keeps one calls site line falls))

  pub lines-follow : (site copy : State) (lines : List (List ℕ)) → Follows limit site copy
      → Follows limit (site_after (step one calls) site lines) (site_after (step other more) copy lines)
  lines-follow site copy [] follows = follows
  lines-follow site copy (line ∷ lines) follows =
      lines-follow (step one calls site line).0 (step other more copy line).0 lines (line-follows site copy line follows)

  pub edits-reply : (site copy : State) (lines : List (List ℕ)) → AreEdits lines → Follows limit site copy
      → replies_to (step one calls) site lines ≡ replies_to (step other more) copy lines
  edits-reply site copy [] all follows = refl
  edits-reply site copy (line ∷ lines) all follows =
      let is = All-head (λ l. is_edit (line_command l) ≡ true) line lines all in
      let first = step-same one other calls more limit known site copy line is follows in
      let rest = edits-reply (step one calls site line).0 (step other more copy line).0 lines
      (All-tail (λ l. is_edit (line_command l) ≡ true) line lines all) first.0 in
      ap (λ reply. record { line = line; reply = reply } ∷ replies_to (step one calls) (step one calls site line).0 lines) (sym first.1)
      ∙ ap (λ later. record { line = line; reply = (step other more copy line).1 } ∷ later) rest

  -- ---- the edits that one has carried out, done by the other

  -- these lines, carried out in a copy, leave the rows of the new site, and are replied to as they were
  abbrev Redoes : State → State → List Replied → Type 0
  Redoes new copy rs =
      AreCarriedOut rs
      → Follows limit new (site_after (step other more) copy (lines_in rs)) × (replies_to (step other more) copy (lines_in rs) ≡ rs)

  pub edits-redone : (old new copy : State) (replied : List Replied) → Serves (step one calls) old replied new → Follows limit old copy
      → Redoes new copy (edits_in replied)
  edits-redone old new copy [] served follows = λ all. (subst (λ site. Follows limit site copy) (sym served) follows, refl)
  edits-redone old new copy (r ∷ later) (mid, first, served) follows =
      cond_both (is_edit (line_command r.line)) (r ∷ edits_in later) (edits_in later) (Redoes new copy)
      (λ stands all.
      let done = done-whole one calls None old mid r first (All-head (λ (s : Replied). IsCarriedOut s.reply) r (edits_in later) all) in
      let both = step-same one other calls more limit known old copy r.line stands follows in
      let onward : Follows limit mid (step other more copy r.line).0 = both.0 ∙ ap (λ p. limited limit p.0.rows) (sym done) in
      let told : (step other more copy r.line).1 ≡ r.reply = both.1 ∙ ap (λ p. p.1) (sym done) in
      let rest =
      edits-redone mid new (step other more copy r.line).0 later served onward
      (All-tail (λ (s : Replied). IsCarriedOut s.reply) r (edits_in later) all) in
      (rest.0, rw (told, rest.1) refl))
      (λ falls.
      edits-redone mid new copy later served
      (follows ∙ ap (limited limit) (sym (reply-unkept one calls None old mid r first (ap (λ b. b && is_done r.reply) falls)))))

-- ---- two sites that are given the same edits

module _ (one other : Engine) (same : names_of one ≡ names_of other) (calls more : ℕ) (first second new after : State) (replied also : List Replied)
    (given : AreGivenTheSame (step one calls) (step other more) first second replied also new after) where
  abbrev limit : Option ℕ
  limit = second.rows.step_limit

  ours : Follows limit new (site_after (step other more) second (lines_in (edits_in replied)))
      × (replies_to (step other more) second (lines_in (edits_in replied)) ≡ edits_in replied)
  ours = edits-redone one other same calls more limit first new second replied given.served (ap (limited limit) (sym given.rows)) given.out

  theirs : Follows limit after (site_after (step other more) second (lines_in (edits_in also)))
      × (replies_to (step other more) second (lines_in (edits_in also)) ≡ edits_in also)
  theirs = edits-redone other other refl more more limit second after second also given.served_too refl given.out_too

  pub edits-agree : edits_in replied ≡ edits_in also
  edits-agree = sym ours.1 ∙ ap (replies_to (step other more) second) given.lines ∙ theirs.1

  pub rows-agree-too : new.rows ≡ after.rows
  rows-agree-too =
      sym (limited-same limit new.rows (Serves-limit one calls first new replied given.served ∙ ap (λ r. r.step_limit) given.rows))
      ∙ sym ours.0
      ∙ ap (λ ls. (site_after (step other more) second ls).rows) given.lines
      ∙ theirs.0
      ∙ limited-same limit after.rows (Serves-limit other more second after also given.served_too)
