-- Further plugins, none of which is active, change nothing.
use Rattle.std.proofs.Common.{◌≡◌, ℕ, Bool, true, false, cond, ◌&&◌, ◌||◌, ◌==◌, List, [], ◌∷◌, ◌++◌, flat_map, refl, sym, ap, subst, ◌∙◌, nat_le, length}
use Rattle.std.specs.Prelude.{filter, not, bytes_eq, if◌then◌else◌, is_some, is_none, position, find, option_map, Option, None, Some, Ok, Err}
use Rattle.std.specs.List.{list_any, list_all, AllByRecursion}
use Rattle.std.specs.FinMap.{keys}
use Rattle.std.proofs.lemmas.Bool.{and_parts}
use Rattle.std.proofs.lemmas.Slice.Eq.{bytes_eq-Decides}
use Rattle.plain_data.specs.Names.{is_hook_name, is_tag_name}
use Rattle.plain_data.specs.Texts.{Text}
use Rattle.hook_changes.specs.declared.reply.Call.{Call}
use Rattle.hook_changes.specs.declared.reply.Change.{Change}
use Rattle.hook_changes.specs.declared.reply.Change.TheVariants.{Add, Remove, RemoveAll, AddTag, RemoveTag, RemoveAllTags}
use Rattle.callback_store.specs.Shape.{Shape, by_name, comes_before, has_callback, is_held, is_held_by, load_of}
use Rattle.callback_store.specs.Sorting.{with_placed, in_order}
use Rattle.callback_store.proofs.Mapped.{is_some-find}
use Rattle.hook_registry.specs.Named.{set_value}
use Rattle.hook_registry.specs.Table.{add}
use Rattle.hook_meaning.specs.World.{World, world_after_change, world_after_changes, own_changes, load_changes, core_changes, fresh, loaded}
use Rattle.hook_meaning.specs.Meaning.{Engine, reply_to_call, silence}
use Rattle.hook_meaning.specs.Agreement.{is_among, AgreeOn}
use Rattle.hook_meaning.proofs.Agree.{Alike, agree-same, changed_all-agree}
use Rattle.hook_meaning.proofs.Isolated.{OnlyThese, OfThese, these_alike, loaded-these}
use Rattle.hook_meaning.proofs.Registered.{and_left, and_right}
use Rattle.hook_meaning.proofs.Seen.{held_by-some}
use Rattle.template_parts.specs.Pages as template
use Rattle.template_parts.proofs.Keeping.{alike-page}
use Rattle.serde_json.specs.Data.{Data}
use Rattle.site_records.specs.declared.found.Found.{Found}
use Rattle.site_records.specs.declared.post.SiteRecords.{SiteRecords}
use Rattle.post_tables.specs.Rows.{Rows, set_name}
use Rattle.site_import.specs.Walks.{Read}
use Rattle.site_import.specs.Site.{site_file_of}
use Rattle.site_edits.specs.Edits.{set_active}
use Rattle.site_edits.specs.Imports.{are_known, rows_with_records, rows_after_import, import}
use Rattle.site_commands.specs.Asked.{Asked}
use Rattle.site_commands.specs.Asked as asked
use Rattle.site_commands.specs.Worked.{line_command}
use Rattle.site_replies.specs.declared.reply.Refusal.TheVariants.{TooLarge, UnknownPlugin}
use Rattle.site_replies.specs.Reply.{ReplyData, done, refused}
use Rattle.site_store.specs.Stored.{Texts, found_by, options_of, templates_of, active_of}
use Rattle.site_serving.specs.Served.{AreCarriedOut, Replied, lines_in}
use Rattle.site_program.specs.History.{Serves, site_after, replies_to}
use Rattle.site_program.specs.Requests.{settings_for, page_pass, Opened, opened_page, requested, request}
use Rattle.site_program.specs.State.{State, empty_site}
use Rattle.site_program.specs.Step.{got, begun, opened_in, max_path, over_rows, carried_out, step}
use Rattle.site_laws.specs.Through.{through}
use Rattle.site_laws.proofs.Histories.{served-whole}
use Rattle.site_laws.specs.Further.{AddsTo, NameNone, are_apart, plugins_named}
use Rattle.site_laws.specs.Stored.{AreStored}
use Rattle.site_laws.proofs.Kept.{step-stored, empty_stored}

-- ---- lists

or_swap : (a b c : Bool) → (a || (b || c)) ≡ (b || (a || c))
or_swap true true c = refl
or_swap true false c = refl
or_swap false true c = refl
or_swap false false c = refl

any-placed : {X : Type 0} (test : X → Bool) (before : X → X → Bool) (x : X) (ys : List X)
    → list_any test (with_placed before x ys) ≡ (test x || list_any test ys)
any-placed test before x [] = refl
any-placed test before x (y ∷ ys) =
    elim (before y x) as (λ b. list_any test (if b then y ∷ with_placed before x ys else x ∷ y ∷ ys) ≡ (test x || (test y || list_any test ys))) [
      | true ↦ ap (λ b. test y || b) (any-placed test before x ys) ∙ or_swap (test y) (test x) (list_any test ys)
      | false ↦ refl
    ]

-- the order makes no difference
any-sorted : {X : Type 0} (test : X → Bool) (before : X → X → Bool) (xs : List X) → list_any test (in_order before xs) ≡ list_any test xs
any-sorted test before [] = refl
any-sorted test before (x ∷ xs) = any-placed test before x (in_order before xs) ∙ ap (λ b. test x || b) (any-sorted test before xs)

not_both : (b : Bool) → b ≡ true → not b ≡ true → ⊥
not_both true e h = absurd (let clash = h in cc)
not_both false e h = absurd (let clash = e in cc)

-- what holds of each name of a list holds of a name that is among them
of_among : (test : Text → Bool) (names : List Text) (name : Text) → list_all test names ≡ true → is_among names name ≡ true → test name ≡ true
of_among test [] name all any = absurd (let clash = any in cc)
of_among test (n ∷ ns) name all any =
    elim (bytes_eq name n) as (λ b. bytes_eq name n ≡ b → (b || list_any (bytes_eq name) ns) ≡ true → test name ≡ true) [
      | true ↦ λ e h. subst (λ m. test m ≡ true) (sym ((bytes_eq-Decides name n).0 e)) (and_left (test n) (list_all test ns) all)
      | false ↦ λ e h. of_among test ns name (and_right (test n) (list_all test ns) all) h
    ] refl any

module _ (further : List Text) (one other : Engine) (adds : AddsTo further one other) where
  -- a test that holds only of plugins that both have
  any-kept : (test : Shape → Bool) → ((x : Shape) → test x ≡ true → not (is_among further x.name) ≡ true) → (xs : List Shape)
      → list_any test (filter (λ x. not (is_among further x.name)) xs) ≡ list_any test xs
  any-kept test only [] = refl
  any-kept test only (x ∷ xs) =
      elim (not (is_among further x.name)) as (λ b. not (is_among further x.name) ≡ b
      → list_any test (cond b (x ∷ filter (λ x. not (is_among further x.name)) xs) (filter (λ x. not (is_among further x.name)) xs))
      ≡ (test x || list_any test xs)) [
        | true ↦ λ e. ap (λ b. test x || b) (any-kept test only xs)
        | false ↦ λ e. any-kept test only xs ∙ sym (ap (λ b. b || list_any test xs) (fails x e))
      ] refl
    where
      fails : (x : Shape) → not (is_among further x.name) ≡ false → test x ≡ false
      fails x e =
          elim (test x) as (λ b. test x ≡ b → b ≡ false) [
            | true ↦ λ t. let clash : true ≡ false = sym (only x t) ∙ e in cc
            | false ↦ λ t. refl
          ] refl

  any-same : (test : Shape → Bool) → ((x : Shape) → test x ≡ true → not (is_among further x.name) ≡ true)
      → list_any test one.plugins ≡ list_any test other.plugins
  any-same test only =
      sym (any-sorted test comes_before one.plugins)
      ∙ ap (list_any test) (sym adds.plugins)
      ∙ any-kept test only (by_name other.plugins)
      ∙ any-sorted test comes_before other.plugins

  -- whether there is a plugin of a name, which is not that of a further one
  known-same : (name : Text) → not (is_among further name) ≡ true → is_some (load_of one.plugins name) ≡ is_some (load_of other.plugins name)
  known-same name apart = known one.plugins ∙ any-same (λ s. bytes_eq s.name name)
      (λ x e. subst (λ n. not (is_among further n) ≡ true) (sym ((bytes_eq-Decides x.name name).0 e)) apart) ∙ sym (known other.plugins)
    where
      mapped : (o : Option Shape) → is_some (option_map (λ s. s.load) o) ≡ is_some o
      mapped None = refl
      mapped (Some x) = refl

      known : (xs : List Shape) → is_some (load_of xs name) ≡ list_any (λ s. bytes_eq s.name name) xs
      known xs = mapped (find (λ s. bytes_eq s.name name) xs) ∙ is_some-find (λ s. bytes_eq s.name name) xs

  -- ---- no further plugin is active

  module _ (names : List Text) (apart : are_apart further names ≡ true) where
    -- what holds of the first bundle alone
    itself : AgreeOn names one one
    itself = record { plugins = refl; replies = λ k call held. refl }

    held-same : (k : ℕ) → is_held_by one.plugins names k ≡ is_held_by other.plugins names k
    held-same k = any-same (λ p. list_any (bytes_eq p.name) names && has_callback k p)
        (λ x e. of_among (λ n. not (is_among further n)) names x.name apart (and_left (list_any (bytes_eq x.name) names) (has_callback k x) e))

    own-kept : (xs : List Shape) → flat_map (own_changes names) (filter (λ x. not (is_among further x.name)) xs) ≡ flat_map (own_changes names) xs
    own-kept [] = refl
    own-kept (x ∷ xs) =
        elim (not (is_among further x.name)) as (λ b. not (is_among further x.name) ≡ b
        → flat_map (own_changes names) (cond b (x ∷ filter (λ x. not (is_among further x.name)) xs) (filter (λ x. not (is_among further x.name)) xs))
        ≡ own_changes names x ++ flat_map (own_changes names) xs) [
          | true ↦ λ e. ap (λ l. own_changes names x ++ l) (own-kept xs)
          | false ↦ λ e. own-kept xs ∙ sym (ap (λ l. l ++ flat_map (own_changes names) xs) (none x e))
        ] refl
      where
        none : (x : Shape) → not (is_among further x.name) ≡ false → own_changes names x ≡ []
        none x e =
            elim (list_any (bytes_eq x.name) names) as (λ b. list_any (bytes_eq x.name) names ≡ b → (if b then x.load else []) ≡ []) [
              | true ↦ λ t. let clash : true ≡ false = sym (of_among (λ n. not (is_among further n)) names x.name apart t) ∙ e in cc
              | false ↦ λ t. refl
            ] refl

    load-same : load_changes one.plugins names ≡ load_changes other.plugins names
    load-same = ap (flat_map (own_changes names)) (sym adds.plugins) ∙ own-kept (by_name other.plugins)

    held-in : (w : World) (k : ℕ) → w.active ≡ names → is_held_by one.plugins w.active k ≡ is_held_by other.plugins w.active k
    held-in w k e = subst (λ active. is_held_by one.plugins active k ≡ is_held_by other.plugins active k) (sym e) (held-same k)

    changed-same : (w : World) (c : Change) → w.active ≡ names → world_after_change one.plugins w c ≡ world_after_change other.plugins w c
    changed-same w (Add hook priority callback accepted) e =
        ap (λ held. record w {
          table = if is_hook_name hook && (callback == 0 || held) && nat_le accepted 16
              then add w.table hook (record { priority = priority; callback = callback; accepted = accepted })
              else w.table;
        }) (held-in w callback e)
    changed-same w (Remove hook priority callback) e = refl
    changed-same w (RemoveAll hook priority) e = refl
    changed-same w (AddTag tag callback) e =
        ap (λ held. record w {
          tags = if is_tag_name tag && (callback == 0 || held) && not (callback == 0)
              then set_value w.tags tag callback
              else w.tags;
        }) (held-in w callback e)
    changed-same w (RemoveTag tag) e = refl
    changed-same w RemoveAllTags e = refl

    or_right : (a b : Bool) → a ≡ false → (a || b) ≡ true → b ≡ true
    or_right true b f e = absurd (let clash = f in cc)
    or_right false b f e = e

    said-same : (k : ℕ) (call : Call) → OfThese names one one itself k → (k == 0) ≡ false → reply_to_call one k call ≡ reply_to_call other k call
    said-same k call n e =
        let held : is_held_by one.plugins names k ≡ true = or_right (k == 0) (is_held_by one.plugins names k) e n in
        let here : is_held one.plugins k ≡ true = held_by-some names k one.plugins held in
        let there : is_held other.plugins k ≡ true = held_by-some names k other.plugins (sym (held-same k) ∙ held) in
        ap (λ b. if b then one.says k call else silence) here ∙ adds.replies k call here ∙ ap (λ b. if b then other.says k call else silence) (sym there)

    alike : Alike (OnlyThese names one one itself) (OfThese names one one itself) one other
    alike =
        let alone = these_alike names one one itself in
        record {
          keep = alone.keep;
          entries = alone.entries;
          handler = alone.handler;
          said = said-same;
          changed = λ w c i. changed-same w c i.0;
        }

    loaded-same : (calls : ℕ) (options : Texts) → loaded one.plugins (fresh calls options names) ≡ loaded other.plugins (fresh calls options names)
    unfolding loaded
    loaded-same calls options =
        changed_all-agree one other (OnlyThese names one one itself) (OfThese names one one itself) alike (fresh calls options names)
        (core_changes ++ load_changes one.plugins names) (refl, refl)
        ∙ ap (λ l. world_after_changes other.plugins (fresh calls options names) (core_changes ++ l)) load-same

    page-same : (calls : ℕ) (found : Found) (options templates : Texts)
        → page_pass one calls found options templates names ≡ page_pass other calls found options templates names
    unfolding page_pass
    page-same calls found options templates =
        agree-same (alike-page one other (settings_for found.kind options templates) (OnlyThese names one one itself) (OfThese names one one itself) alike
        found.posts (loaded one.plugins (fresh calls options names)) (loaded-these names one one itself calls options))
        ∙ ap (template.page_pass other (settings_for found.kind options templates) found.posts) (loaded-same calls options)

  module _ (calls : ℕ) where
    requested-same : (rows : Rows) (path : Text) → are_apart further (active_of rows) ≡ true → requested one calls rows path ≡ requested other calls rows path
    unfolding requested
    requested-same rows path apart =
        ap (opened_page (found_by rows path).status) (page-same (active_of rows) apart calls (found_by rows path) (options_of rows) (templates_of rows))

    pub request-same : (rows : Rows) (path : Text) → are_apart further (active_of rows) ≡ true → request one calls rows path ≡ request other calls rows path
    request-same rows path apart = ap (λ (page : Opened). page.answer) (requested-same rows path apart)

    -- ---- edits that name no further plugin

    active-same : (rows : Rows) (name : Text) (active : Bool) → are_apart further (name ∷ []) ≡ true
        → set_active one.plugins rows name active ≡ set_active other.plugins rows name active
    unfolding set_active
    active-same rows name active apart =
        ap (λ b. if b then (record rows { active = set_name name active rows.active }, done) else (rows, refused UnknownPlugin))
        (known-same name (and_left (not (is_among further name)) true apart))

    all-known : (names : List Text) → are_apart further names ≡ true → are_known one.plugins names ≡ are_known other.plugins names
    all-known [] apart = refl
    all-known (n ∷ ns) apart =
        let parts = and_parts (not (is_among further n)) (are_apart further ns) apart in
        ap (λ b. b && are_known one.plugins ns) (known-same n parts.0)
        ∙ ap (λ b. is_some (load_of other.plugins n) && b) (all-known ns parts.1)

    import-same : (rows : Rows) (file : Data) → are_apart further (plugins_named (Some (asked.import file))) ≡ true
        → import one.plugins rows file ≡ import other.plugins rows file
    unfolding import
    import-same rows file apart = at (site_file_of file) apart
      where
        at : (read : Read SiteRecords) → are_apart further (elim read [ Ok records ↦ records.active | Err why ↦ [] ]) ≡ true
            → rows_after_import one.plugins rows read ≡ rows_after_import other.plugins rows read
        at (Err why) apart = refl
        at (Ok records) apart =
            ap (λ b. if b then rows_with_records rows records else (rows, refused UnknownPlugin)) (all-known records.active apart)

    got-same : (rows : Rows) (path : Text) → are_apart further (active_of rows) ≡ true → got one calls rows path ≡ got other calls rows path
    unfolding got
    got-same rows path apart = ap (λ reply. if nat_le (length path) max_path then (rows, reply) else (rows, refused TooLarge)) (request-same rows path apart)

    begun-same : (site : State) (path : Text) → are_apart further (active_of site.rows) ≡ true → begun one calls site path ≡ begun other calls site path
    unfolding begun
    begun-same site path apart =
        ap (λ page. if nat_le (length path) max_path then opened_in (position is_none site.pages) page site else (site, refused TooLarge))
        (requested-same site.rows path apart)

    carried-same : (site : State) (what : Option Asked) → are_apart further (active_of site.rows) ≡ true → are_apart further (plugins_named what) ≡ true
        → carried_out one calls site what ≡ carried_out other calls site what
    carried-same site None apart named = refl
    carried-same site (Some (asked.put kind status title content date)) apart named = refl
    carried-same site (Some (asked.edit id status title content date)) apart named = refl
    carried-same site (Some (asked.delete id)) apart named = refl
    carried-same site (Some (asked.option name value)) apart named = refl
    carried-same site (Some (asked.activate plugin)) apart named = ap (over_rows site) (active-same site.rows plugin true named)
    carried-same site (Some (asked.deactivate plugin)) apart named = ap (over_rows site) (active-same site.rows plugin false named)
    carried-same site (Some (asked.template name body)) apart named = refl
    carried-same site (Some (asked.import file)) apart named = ap (over_rows site) (import-same site.rows file named)
    carried-same site (Some (asked.get path)) apart named = ap (over_rows site) (got-same site.rows path apart)
    carried-same site (Some (asked.begin path)) apart named = begun-same site path apart
    carried-same site (Some (asked.turns page count)) apart named = refl

    -- a plugin that the first bundle knows is no further one
    known-apart : (name : Text) → is_some (load_of one.plugins name) ≡ true → not (is_among further name) ≡ true
    known-apart name known =
        of_one (by_name one.plugins) (sym adds.plugins)
        (any-sorted (λ s. bytes_eq s.name name) comes_before one.plugins ∙ sym (has one.plugins) ∙ known)
      where
        mapped : (o : Option Shape) → is_some (option_map (λ s. s.load) o) ≡ is_some o
        mapped None = refl
        mapped (Some x) = refl

        has : (xs : List Shape) → is_some (load_of xs name) ≡ list_any (λ s. bytes_eq s.name name) xs
        has xs = mapped (find (λ s. bytes_eq s.name name) xs) ∙ is_some-find (λ s. bytes_eq s.name name) xs

        kept : (xs : List Shape) → list_any (λ s. bytes_eq s.name name) (filter (λ x. not (is_among further x.name)) xs) ≡ true
            → not (is_among further name) ≡ true
        kept [] any = absurd (let clash = any in cc)
        kept (x ∷ xs) any =
            elim (not (is_among further x.name)) as (λ b. not (is_among further x.name) ≡ b
            → list_any (λ s. bytes_eq s.name name) (cond b (x ∷ filter (λ x. not (is_among further x.name)) xs)
            (filter (λ x. not (is_among further x.name)) xs)) ≡ true
            → not (is_among further name) ≡ true) [
              | true ↦ λ e h. elim (bytes_eq x.name name) as (λ b. bytes_eq x.name name ≡ b
                  → (b || list_any (λ s. bytes_eq s.name name) (filter (λ x. not (is_among further x.name)) xs)) ≡ true
                  → not (is_among further name) ≡ true) [
                    | true ↦ λ same there. subst (λ n. not (is_among further n) ≡ true) ((bytes_eq-Decides x.name name).0 same) e
                    | false ↦ λ same there. kept xs there
                  ] refl h
              | false ↦ λ e h. kept xs h
            ] refl any

        of_one : (xs : List Shape) → xs ≡ filter (λ x. not (is_among further x.name)) (by_name other.plugins)
            → list_any (λ s. bytes_eq s.name name) xs ≡ true → not (is_among further name) ≡ true
        of_one xs is any = kept (by_name other.plugins) (subst (λ ys. list_any (λ s. bytes_eq s.name name) ys ≡ true) is any)

    all-apart : (names : List Text) → AllByRecursion (λ name. is_some (load_of one.plugins name) ≡ true) names → are_apart further names ≡ true
    all-apart [] all = refl
    all-apart (n ∷ ns) all = rw (known-apart n all.0) (all-apart ns all.1)

    step-same : (site : State) (line : List ℕ) → AreStored one.plugins site.rows → are_apart further (plugins_named (line_command line)) ≡ true
        → step one calls site line ≡ step other calls site line
    unfolding step
    step-same site line stored named = carried-same site (line_command line) (all-apart (active_of site.rows) stored.active) named

    -- ---- whole lists of lines

    pub through-same : (site : State) (lines : List (List ℕ)) → AreStored one.plugins site.rows → NameNone further lines
        → through (step one calls) site lines ≡ through (step other calls) site lines
    through-same site [] stored named = refl
    through-same site (line ∷ lines) stored named =
        ap (λ rest. step one calls site line ∷ rest)
        (through-same (step one calls site line).0 lines (step-stored one calls site line stored) named.1)
        ∙ ap (λ s. s ∷ through (step other calls) s.0 lines) (step-same site line stored named.0)

    after-same : (site : State) (lines : List (List ℕ)) → AreStored one.plugins site.rows → NameNone further lines
        → site_after (step one calls) site lines ≡ site_after (step other calls) site lines
    after-same site [] stored named = refl
    after-same site (line ∷ lines) stored named =
        after-same (step one calls site line).0 lines (step-stored one calls site line stored) named.1
        ∙ ap (λ s. site_after (step other calls) s.0 lines) (step-same site line stored named.0)

    told-same : (site : State) (lines : List (List ℕ)) → AreStored one.plugins site.rows → NameNone further lines
        → replies_to (step one calls) site lines ≡ replies_to (step other calls) site lines
    told-same site [] stored named = refl
    told-same site (line ∷ lines) stored named =
        ap (λ rest. record { line = line; reply = (step one calls site line).1 } ∷ rest)
        (told-same (step one calls site line).0 lines (step-stored one calls site line stored) named.1)
        ∙ ap (λ s. record { line = line; reply = s.1 } ∷ replies_to (step other calls) s.0 lines) (step-same site line stored named.0)

    pub replies-same : (replied alike : List Replied) (new after : State) → Serves (step one calls) empty_site replied new
        → Serves (step other calls) empty_site alike after
        → lines_in replied ≡ lines_in alike
        → NameNone further (lines_in replied)
        → AreCarriedOut replied
        → AreCarriedOut alike
        → (replied ≡ alike) × (new ≡ after)
    replies-same replied alike new after served also lines named out out' =
        let first = served-whole one calls None empty_site new replied served out in
        let second = served-whole other calls None empty_site after alike also out' in
        let stored = empty_stored one calls None in (
          first.1 ∙ told-same empty_site (lines_in replied) stored named ∙ ap (replies_to (step other calls) empty_site) lines ∙ sym second.1,
          first.0 ∙ after-same empty_site (lines_in replied) stored named ∙ ap (site_after (step other calls) empty_site) lines ∙ sym second.0,
        )
