-- The tags among the names that a text opens are its live tags.
use Rattle.std.proofs.Common.{◌≡◌, ℕ, Bool, true, false, cond, not, List, [], ◌∷◌, map, refl, sym, ap, ◌∙◌, inl, inr}
use Rattle.std.specs.Prelude.{◌&&◌, IsTrue, bytes_eq, filter}
use Rattle.std.specs.List.{list_all}
use Rattle.std.specs.Borrow.{Bor}
use Rattle.std.proofs.Math.Bool.{and-true, and-false}
use Rattle.std.proofs.lemmas.Bool.{cases_Bool}
use Rattle.std.proofs.lemmas.Map.Made.{is_some-lookup}
use Rattle.std.proofs.lemmas.Map.Views.{any-filter_same}
use Rattle.std.proofs.lemmas.Slice.Eq.{bytes_eq-Decides}
use Rattle.plain_data.specs.Names.{is_tag_name}
use Rattle.shortcode_scan.specs.Live.{is_live, is_one_of, live, AreSameNames}
use Rattle.callback_store.proofs.Mapped.{list_any-map}
use Rattle.shortcode_scan.specs.Opened.{is_among}
use Rattle.shortcode_scan.specs.Pieces.{pieces_of}
use Rattle.shortcode_scan.proofs.PieceLemmas.{pieces_of-alike}
use Rattle.content_cache.specs.declared.cut_text.OpenedName.{OpenedName}
use Rattle.content_cache.specs.Opened.{names_of, tags_in, IsOpenedBy}
use Rattle.hook_machine.specs.Tagged.{is_tag, is_as_cut, opened_as}
use Rattle.hook_registry.proofs.TagNames.{is_tag-named}

and_both : (a b : Bool) → (a && b) ≡ true → (a ≡ true) × (b ≡ true)
and_both true b h = (refl, h)
and_both false b h = absurd (cc)

module _ {X : Type 0} (tags : List (List ℕ × X)) where
  -- those of the names that are tags
  abbrev pub tags_among : List (List ℕ) → List (List ℕ)
  tags_among names = filter (is_tag tags) names

  -- a name is among those that pass a test if it passes and is among all
  one_of-filtered : (test : List ℕ → Bool) (names : List (List ℕ)) (name : List ℕ) → is_one_of (filter test names) name ≡ (test name && is_one_of names name)
  one_of-filtered test names name =
      any-filter_same (bytes_eq name) test (test name) (λ n e. ap test (sym ((bytes_eq-Decides name n).0 e))) names

  module _ (text : List ℕ) (opened : List (List ℕ)) (named : IsTrue (list_all (λ p. is_tag_name p.0) tags))
      (opens : (name : List ℕ) → IsTrue (is_tag_name name) → is_one_of opened name ≡ is_live text name) where
    tags_among-live : AreSameNames (tags_among opened) (live (map (λ p. p.0) tags) text)
    tags_among-live name =
        let wanted : is_one_of (live (map (λ p. p.0) tags) text) name ≡ (is_live text name && is_tag tags name) =
        one_of-filtered (is_live text) (map (λ p. p.0) tags) name ∙ ap (λ b. is_live text name && b) (sym (is_some-lookup (bytes_eq name) tags)) in
        one_of-filtered (is_tag tags) opened name ∙ elim (cases_Bool (is_tag tags name)) [
          | inl there ↦ ap (λ b. b && is_one_of opened name) there ∙ opens name (is_tag-named tags name named there) ∙
              sym (ap (λ b. is_live text name && b) there ∙ and-true (is_live text name))
          | inr none ↦ ap (λ b. b && is_one_of opened name) none ∙ sym (ap (λ b. is_live text name && b) none ∙ and-false (is_live text name))
        ] ∙ sym wanted

    -- so the text is cut by the tags among the names that it opens
    pub cut_by_tags : pieces_of (tags_among opened) text ≡ pieces_of (live (map (λ p. p.0) tags) text) text
    cut_by_tags = pieces_of-alike (tags_among opened) (live (map (λ p. p.0) tags) text) text tags_among-live

  -- ---- names that are kept with whether they were tags

  -- if those are tags that were, these are the tags among them
  pub same_tags : (opened : List OpenedName) → list_all (is_as_cut tags) opened ≡ true → tags_in opened ≡ tags_among (names_of opened)
  same_tags [] h = refl
  same_tags (o ∷ os) h = with_test (is_tag tags o.name) o.is_tag (and_both _ _ h).0 (same_tags os (and_both _ _ h).1)
    where
      with_test : (now was : Bool) → cond now was (not was) ≡ true → tags_in os ≡ tags_among (names_of os)
          → names_of (cond was (o ∷ filter (λ o. o.is_tag) os) (filter (λ o. o.is_tag) os))
          ≡ cond now (o.name ∷ tags_among (names_of os)) (tags_among (names_of os))
      with_test true true h e = ap (λ ns. o.name ∷ ns) e
      with_test false false h e = e
      with_test true false h e = absurd (cc)
      with_test false true h e = absurd (cc)

  -- names that are copied with whether they are tags
  pub names_copied : (names : List (Bor (List ℕ))) → names_of (map (opened_as tags) names) ≡ map (λ n. n.now) names
  names_copied [] = refl
  names_copied (n ∷ ns) = ap (λ xs. n.now ∷ xs) (names_copied ns)

  pub tags_copied : (names : List (Bor (List ℕ))) → tags_in (map (opened_as tags) names) ≡ tags_among (map (λ n. n.now) names)
  tags_copied [] = refl
  tags_copied (n ∷ ns) = with_test (is_tag tags n.now) (tags_copied ns)
    where
      with_test : (is : Bool) → tags_in (map (opened_as tags) ns) ≡ tags_among (map (λ n. n.now) ns)
          → names_of (cond is (record { name = n.now; is_tag = is } ∷ filter (λ o. o.is_tag) (map (opened_as tags) ns))
          (filter (λ o. o.is_tag) (map (opened_as tags) ns)))
          ≡ cond is (n.now ∷ tags_among (map (λ n. n.now) ns)) (tags_among (map (λ n. n.now) ns))
      with_test true e = ap (λ xs. n.now ∷ xs) e
      with_test false e = e

  module _ (text : List ℕ) (names : List (Bor (List ℕ)))
      (opens : (name : List ℕ) → IsTrue (is_tag_name name) → is_among name names ≡ is_live text name) where
    -- what the text opens is found among the bytes of its names
    pub opened_bytes : (name : List ℕ) → IsTrue (is_tag_name name) → is_one_of (map (λ n. n.now) names) name ≡ is_live text name
    opened_bytes name is = list_any-map (bytes_eq name) (λ n. n.now) names ∙ opens name is

    pub opened_copied : IsOpenedBy text (map (opened_as tags) names)
    opened_copied name is = ap (λ ns. is_one_of ns name) (names_copied names) ∙ opened_bytes name is
