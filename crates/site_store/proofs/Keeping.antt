-- What is kept of the rows is still theirs after a command.
use Rattle.std.proofs.Common.{◌≡◌, ◌∙◌, ℕ, List, [], get_or, take, Option, None, Result, Ok, Err, true, false, cond, inl, inr, sym, ap, subst}
use Rattle.std.specs.Cmp.Lexicographic.{nat_list_cmp_total}
use Rattle.std.specs.FinMap.{entries, entries-insert, insert}
use Rattle.std.specs.FinMap.Entries.{put as put_in}
use Rattle.std.specs.Prelude.{All, Contains, bytes_eq, Bool, IfOk, IfSome, OnErr, Some, ◌⊎◌}
use Rattle.std.proofs.lemmas.List.Elements.{All-nil, All-cons, All-take, All-weaker, All-contains, All-contains_itself}
use Rattle.lru.specs.LruCache.{promoted}
use Rattle.lru.proofs.CallerLemmas.{Contains-promoted, Contains-remove_entry}
use Rattle.callback_store.specs.Shape.{Shape}
use Rattle.plain_data.specs.Texts.{Text}
use Rattle.serde_json.specs.Data.{Data}
use Rattle.site_records.specs.declared.found.Found.{Found}
use Rattle.site_records.specs.declared.post.Post.{Post}
use Rattle.site_records.specs.declared.post.PostKind.{PostKind}
use Rattle.site_records.specs.declared.post.PostStatus.{PostStatus}
use Rattle.post_tables.specs.Rows.{Rows, Named, Names, PostEdit, by_bytes}
use Rattle.site_replies.specs.declared.reply.SiteReply.{SiteReply}
use Rattle.site_replies.specs.Reply.{ReplyData, done, refused, reply_data}
use Rattle.site_replies.specs.declared.reply.Refusal.TheVariants.{TooLarge}
use Rattle.site_edits.specs.Edits.{put, edit, delete, set_option, set_active}
use Rattle.site_edits.specs.Templates.{set_template}
use Rattle.site_edits.proofs.After.{After, put-after, edit-after, delete-after, option-after, active-after, template-after}
use Rattle.site_store.specs.Stored.{Texts, found_by, options_of}
use Rattle.site_store.specs.Kept.{AreFound, KeepsUp, IsKeptFrom, decides_what_is_found}
use Rattle.site_store.proofs.OtherOptions.{finds_the_same}

-- what holds of the rows before a command, and of those that it makes, holds of the rows that it leaves
pub left : {E : Type 0} (P : Rows → Type 0) (result : Result SiteReply E) (old new : Rows) (meant : Rows × ReplyData)
    → IfOk result (λ reply. (new, reply_data reply) ≡ meant) → OnErr result (new ≡ old) → P old → P meant.0 → P new
left P (Ok reply) old new meant ok err before after = subst P (sym (ap (λ p. p.0) ok)) after
left P (Err fault) old new meant ok err before after = subst P (sym err) before

-- what holds of all of a list holds of all that is among it
among : {X : Type 0} (P : X → Type 0) (all some : List X) → All P all → ((x : X) → Contains some x → Contains all x) → All P some
among P all some holds sub k d within = All-contains P all (get_or some k d) holds (sub (get_or some k d) (All-contains_itself some k d within))

module _ (rows : Rows) (options templates : Option Texts) (active : Option (List Text)) (kept : List (Text × Found))
    (up : KeepsUp rows options templates active kept) where
  -- of no path anything is kept
  none : (r : Rows) → AreFound r []
  none r = All-nil (λ t. t.1 ≡ found_by r t.0)

  with_finds : (new : List (Text × Found)) → AreFound rows new → KeepsUp rows options templates active new
  with_finds new are = record { options = up.options; templates = up.templates; active = up.active; found = are }

  -- a look-up changes their order
  pub looked-up : (path : Text) → KeepsUp rows options templates active (promoted (bytes_eq path) kept)
  looked-up path = with_finds _ (among (λ t. t.1 ≡ found_by rows t.0) kept _ up.found (Contains-promoted (bytes_eq path) kept))

  -- what was kept is what is found, and so is one more find
  pub found-up : (new : List (Text × Found)) (path : Text) (found : Found) → found ≡ found_by rows path
      → IsKeptFrom kept (path, found) new → KeepsUp rows options templates active new
  found-up new path found is from = with_finds new (elim from.1 [
    | inl same ↦ subst (AreFound rows) (sym same) room
    | inr one ↦ subst (AreFound rows) (sym one) (All-cons (λ t. t.1 ≡ found_by rows t.0) (path, found) _ is
        (among (λ t. t.1 ≡ found_by rows t.0) (take from.0 kept) _ room (Contains-remove_entry (bytes_eq path) (take from.0 kept))))
  ])
    where
      room : AreFound rows (take from.0 kept)
      room = All-take (λ t. t.1 ≡ found_by rows t.0) from.0 kept up.found

  -- ---- if posts change, what paths found is forgotten

  abbrev Keeps : Rows → Type 0
  Keeps r = KeepsUp r options templates active []

  pub without_found : Keeps rows
  without_found = record { options = up.options; templates = up.templates; active = up.active; found = none rows }

  with_posts : (posts : List Post) (largest : ℕ) → Keeps (record rows { posts = posts; largest = largest })
  with_posts posts largest = record {
    options = up.options;
    templates = up.templates;
    active = up.active;
    found = none (record rows { posts = posts; largest = largest });
  }

  pub put-up : (kind : PostKind) (status : PostStatus) (title content date : Text) → After Keeps (put rows kind status title content date)
  put-up kind status title content date = put-after Keeps rows without_found with_posts kind status title content date

  pub edit-up : (id : ℕ) (given : PostEdit) → After Keeps (edit rows id given)
  edit-up id given = edit-after Keeps rows without_found with_posts id given

  pub delete-up : (id : ℕ) → After Keeps (delete rows id)
  delete-up id = delete-after Keeps rows without_found with_posts id

  -- ---- what else a command may change is forgotten

  pub without_options : KeepsUp rows None templates active []
  without_options = record { options = tt; templates = up.templates; active = up.active; found = none rows }

  with_options : (others : Named) → KeepsUp (record rows { options = others }) None templates active []
  with_options others = record { options = tt; templates = up.templates; active = up.active; found = none (record rows { options = others }) }

  pub option-up : (name value : Text) → After (λ r. KeepsUp r None templates active []) (set_option rows name value)
  option-up name value = option-after (λ r. KeepsUp r None templates active []) rows without_options with_options name value

  -- another option is one on which nothing depends that was found
  pub with_found : KeepsUp rows None templates active kept
  with_found = record { options = tt; templates = up.templates; active = up.active; found = up.found }

  pub other-up : (name value : Text) → decides_what_is_found name ≡ false → After (λ r. KeepsUp r None templates active kept) (set_option rows name value)
  unfolding set_option
  other-up name value unread = either _ _ _ with_other with_found
    where
      changed : Rows
      changed = record rows { options = insert rows.options name value }

      with_other : KeepsUp changed None templates active kept
      with_other = record {
        options = tt;
        templates = up.templates;
        active = up.active;
        found = All-weaker (λ t. t.1 ≡ found_by rows t.0) (λ t. t.1 ≡ found_by changed t.0) (λ t is. is ∙ sym (finds_the_same rows name value unread t.0)) kept
            up.found;
      }

      either : (b : Bool) (p q : Rows × ReplyData) → KeepsUp p.0 None templates active kept → KeepsUp q.0 None templates active kept
          → KeepsUp (cond b p q).0 None templates active kept
      either true p q x y = x
      either false p q x y = y

  -- what was found and may stay: nothing, or all if the option is another one
  abbrev pub Stays : Text → List (Text × Found) → Type 0
  Stays name new = (new ≡ []) ⊎ ((decides_what_is_found name ≡ false) × (new ≡ kept))

  module _ (name value : Text) (new : List (Text × Found)) (stays : Stays name new) where
    before_set : KeepsUp rows None templates active new
    before_set = elim stays [
      | inl none ↦ subst (KeepsUp rows None templates active) (sym none) without_options
      | inr same ↦ subst (KeepsUp rows None templates active) (sym same.1) with_found
    ]

    after_set : After (λ r. KeepsUp r None templates active new) (set_option rows name value)
    after_set = elim stays [
      | inl none ↦ subst (λ n. After (λ r. KeepsUp r None templates active n) (set_option rows name value)) (sym none) (option-up name value)
      | inr same ↦ subst (λ n. After (λ r. KeepsUp r None templates active n) (set_option rows name value)) (sym same.1) (other-up name value same.0)
    ]

    -- an option was set, or refused, and no options are kept
    pub set-without : {E : Type 0} (result : Result SiteReply E) (after : Rows)
        → IfOk result (λ reply. (after, reply_data reply) ≡ set_option rows name value) → OnErr result (after ≡ rows) → KeepsUp after None templates active new
    set-without result after ok err = left (λ r. KeepsUp r None templates active new) result rows after (set_option rows name value) ok err before_set after_set

    -- an option was set, and so it was in those that are kept
    pub set-with : (after : Rows) (before texts : Texts) → IfSome (Some before) (λ (was : Texts). was ≡ options_of rows) → texts ≡ put_in by_bytes name value before
        → ◌≡◌ {A = Rows × ReplyData} (after, done) (set_option rows name value) → KeepsUp after (Some texts) templates active new
    unfolding set_option
    set-with after before texts was are is = record {
      options = are ∙ ap (put_in by_bytes name value) was ∙ sym (entries-insert nat_list_cmp_total rows.options name value)
          ∙ ap entries (sym (stored _ is));
      templates = others.templates;
      active = others.active;
      found = others.found;
    }
      where
        others : KeepsUp after None templates active new
        others = subst (λ r. KeepsUp r None templates active new) (sym (ap (λ p. p.0) is)) after_set

        stored : (b : Bool)
            → ◌≡◌ {A = Rows × ReplyData} (after, done) (cond b (record rows { options = insert rows.options name value }, done) (rows, refused TooLarge))
            → after.options ≡ insert rows.options name value
        stored true same = ap (λ (p : Rows × ReplyData). p.0.options) same
        stored false same = absurd (let reply = ap (λ (p : Rows × ReplyData). p.1) same in cc)

  pub without_active : KeepsUp rows options templates None kept
  without_active = record { options = up.options; templates = up.templates; active = tt; found = up.found }

  with_active : (others : Names) → KeepsUp (record rows { active = others }) options templates None kept
  with_active others = record { options = up.options; templates = up.templates; active = tt; found = up.found }

  pub active-up : (plugins : List Shape) (name : Text) (is_active : Bool)
      → After (λ r. KeepsUp r options templates None kept) (set_active plugins rows name is_active)
  active-up plugins name is_active = active-after (λ r. KeepsUp r options templates None kept) rows without_active with_active plugins name is_active

  pub without_templates : KeepsUp rows options None active kept
  without_templates = record { options = up.options; templates = tt; active = up.active; found = up.found }

  with_templates : (others : Named) → KeepsUp (record rows { templates = others }) options None active kept
  with_templates others = record { options = up.options; templates = tt; active = up.active; found = up.found }

  pub template-up : (name : Text) (body : Data) → After (λ r. KeepsUp r options None active kept) (set_template rows name body)
  template-up name body = template-after (λ r. KeepsUp r options None active kept) rows without_templates with_templates name body
