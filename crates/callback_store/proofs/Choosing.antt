-- The first fault of a list of plugins, by the plugins themselves.
use Rattle.std.proofs.Common.{◌≡◌, ℕ, Bool, true, false, not, ◌||◌, List, map, length, nat_lt, refl, ◌∙◌, Some, None, bytes_eq}
use Rattle.std.specs.Prelude.{if◌then◌else◌}
use Rattle.std.specs.List.{list_any}
use Rattle.std.proofs.lemmas.List.{length-map}
use Rattle.plain_data.specs.Names.{is_tag_name}
use Rattle.callback_store.specs.declared.plugins.Plugin.{Plugin}
use Rattle.callback_store.specs.declared.fault.PluginFault.TheVariants.{TooMany, BadName, SameName, SameCallback}
use Rattle.callback_store.specs.Shape.{shape_of}
use Rattle.callback_store.specs.Faults.{has_repeat, is_large, has_bad_name, has_same_name, are_too_many, has_same_callback, fault_of}
use Rattle.callback_store.proofs.Mapped.{list_any-map}
use Rattle.callback_store.proofs.Repeats.{has_repeat-map}

module _ {S : Type 0} (number : S → ℕ) (list : List (Plugin S)) where
  -- the tests of a list of plugins, by the plugins themselves
  abbrev pub Many : Bool → Type 0
  Many b = (nat_lt 64 (length list) || list_any (λ p. is_large (shape_of number p)) list) ≡ b

  abbrev pub BadNames : Bool → Type 0
  BadNames b = list_any (λ p. not (is_tag_name p.name)) list ≡ b

  abbrev pub SameNames : Bool → Type 0
  SameNames b = has_repeat (λ p q. bytes_eq p.name q.name) list ≡ b

  abbrev pub SameCallbacks : Bool → Type 0
  SameCallbacks b = has_same_callback (map (shape_of number) list) ≡ b

  many : are_too_many (map (shape_of number) list) ≡ (nat_lt 64 (length list) || list_any (λ p. is_large (shape_of number p)) list)
  many = rw (length-map list (shape_of number), list_any-map is_large (shape_of number) list) refl

  bad : has_bad_name (map (shape_of number) list) ≡ list_any (λ p. not (is_tag_name p.name)) list
  bad = list_any-map (λ s. not (is_tag_name s.name)) (shape_of number) list

  same : has_same_name (map (shape_of number) list) ≡ has_repeat (λ p q. bytes_eq p.name q.name) list
  same = has_repeat-map bytes_eq (λ s. s.name) (map (shape_of number) list) ∙ has_repeat-map (λ s t. bytes_eq s.name t.name) (shape_of number) list

  -- the first of four tests that holds names the fault
  chosen : (a b c d : Bool) → Many a → BadNames b → SameNames c → SameCallbacks d
      → fault_of (map (shape_of number) list) ≡ (if a then Some TooMany else
      (if b then Some BadName else (if c then Some SameName else (if d then Some SameCallback else None))))
  chosen a b c d ha hb hc hd = rw (many ∙ ha, bad ∙ hb, same ∙ hc, hd) refl

  pub too_many : Many true → fault_of (map (shape_of number) list) ≡ Some TooMany
  too_many ha = chosen true _ _ _ ha refl refl refl

  pub bad_name : Many false → BadNames true → fault_of (map (shape_of number) list) ≡ Some BadName
  bad_name ha hb = chosen false true _ _ ha hb refl refl

  pub same_name : Many false → BadNames false → SameNames true → fault_of (map (shape_of number) list) ≡ Some SameName
  same_name ha hb hc = chosen false false true _ ha hb hc refl

  pub same_callback : Many false → BadNames false → SameNames false → SameCallbacks true → fault_of (map (shape_of number) list) ≡ Some SameCallback
  same_callback ha hb hc hd = chosen false false false true ha hb hc hd

  pub no_fault : Many false → BadNames false → SameNames false → SameCallbacks false → fault_of (map (shape_of number) list) ≡ None
  no_fault ha hb hc hd = chosen false false false false ha hb hc hd
