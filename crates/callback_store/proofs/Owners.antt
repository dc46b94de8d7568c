-- Which plugin has a callback or a name, by the plugins themselves.
use Rattle.std.proofs.Common.{◌≡◌, ℕ, Bool, true, false, ◌==◌, ◌&&◌, ◌||◌, List, [], ◌∷◌, map, refl, ap, sym, ◌∙◌, Option, Some, None, bytes_eq, slice_get}
use Rattle.std.proofs.Common.{zero, suc, Result, Ok, Err, IfOk, subst}
use Rattle.std.proofs.lemmas.Bool.{eqb-true}
use Rattle.std.specs.Prelude.{find, is_some, option_map, if◌then◌else◌, IfSome}
use Rattle.std.specs.Option.{option_copied}
use Rattle.std.specs.Borrow.{Bor}
use Rattle.std.specs.List.{list_any}
use Rattle.callback_store.specs.declared.fault.PluginFault.{PluginFault}
use Rattle.callback_store.specs.declared.plugins.Plugin.{Plugin}
use Rattle.callback_store.specs.declared.plugins.Plugins.{Plugins}
use Rattle.callback_store.specs.Shape.{shape_of, has_callback, is_held, is_held_by, owner, load_of}
use Rattle.callback_store.proofs.Mapped.{list_any-map, find-map, is_some-find}

module _ {S : Type 0} (number : S → ℕ) where
  -- whether one of the plugin's own callbacks has the number
  abbrev pub has : ℕ → Plugin S → Bool
  has id plugin = list_any (λ c. number c == id) plugin.callbacks

  pub has-shape_of : (id : ℕ) (plugin : Plugin S) → has_callback id (shape_of number plugin) ≡ has id plugin
  has-shape_of id plugin = list_any-map (λ c. c == id) number plugin.callbacks

  find_same : {X : Type 0} (p q : X → Bool) → ((x : X) → p x ≡ q x) → (xs : List X) → find p xs ≡ find q xs
  find_same p q e [] = refl
  find_same p q e (x ∷ xs) = rw (e x, find_same p q e xs) refl

  found : (id : ℕ) (list : List (Plugin S)) → find (has_callback id) (map (shape_of number) list) ≡ option_map (shape_of number) (find (has id) list)
  found id list =
      find-map (has_callback id) (shape_of number) list
      ∙ ap (option_map (shape_of number)) (find_same (λ p. has_callback id (shape_of number p)) (has id) (has-shape_of id) list)

  pub held_by : (id : ℕ) (list : List (Plugin S)) (o : Option (Plugin S)) → o ≡ find (has id) list → is_held (map (shape_of number) list) id ≡ is_some o
  held_by id list o e =
      sym (is_some-find (has_callback id) (map (shape_of number) list)) ∙ ap is_some (found id list) ∙ is_some-mapped (find (has id) list) ∙ ap is_some (sym e)
    where
      is_some-mapped : (p : Option (Plugin S)) → is_some (option_map (shape_of number) p) ≡ is_some p
      is_some-mapped None = refl
      is_some-mapped (Some p) = refl

  pub owner_is : (id : ℕ) (list : List (Plugin S)) (o : Option (Plugin S)) → o ≡ find (has id) list
      → owner (map (shape_of number) list) id ≡ option_map (λ p. p.name) o
  owner_is id list o e = ap (option_map (λ s. s.name)) (found id list ∙ ap (option_map (shape_of number)) (sym e)) ∙ name-mapped o
    where
      name-mapped : (p : Option (Plugin S)) → option_map (λ s. s.name) (option_map (shape_of number) p) ≡ option_map (λ p. p.name) p
      name-mapped None = refl
      name-mapped (Some p) = refl

  pub load_is : (name : List ℕ) (list : List (Plugin S)) (o : Option (Plugin S)) → o ≡ find (λ p. bytes_eq p.name name) list
      → load_of (map (shape_of number) list) name ≡ option_map (λ p. p.load) o
  load_is name list o e =
      ap (option_map (λ s. s.load)) (find-map (λ s. bytes_eq s.name name) (shape_of number) list ∙ ap (option_map (shape_of number)) (sym e)) ∙ load-mapped o
    where
      load-mapped : (p : Option (Plugin S)) → option_map (λ s. s.load) (option_map (shape_of number) p) ≡ option_map (λ p. p.load) p
      load-mapped None = refl
      load-mapped (Some p) = refl

module _ {X : Type 0} (p : X → Bool) where
  -- what is found passes
  passes : (x : X) (xs : List X) → Some x ≡ find p xs → p x ≡ true
  passes x [] e = cc
  passes x (y ∷ ys) e =
      elim (p y) as (λ b. p y ≡ b → Some x ≡ (if b then Some y else find p ys) → p x ≡ true) [
        | true ↦ λ t q. let same : x ≡ y = cc in ap p same ∙ t
        | false ↦ λ t q. passes x ys q
      ] refl e

module _ {S : Type 0} (number : S → ℕ) where
  pub found_passes : (id : ℕ) (callbacks : List S) (r : Option (Bor S)) → option_copied r ≡ find (λ c. number c == id) callbacks
      → IfSome r (λ c. number c.now ≡ id)
  found_passes id callbacks None e = tt
  found_passes id callbacks (Some c) e = eqb-true (number c.now) id (passes (λ c. number c == id) c.now callbacks e)

  -- a plugin that has the callback has one of that number
  pub finds_one : (id : ℕ) (list : List (Plugin S)) (plugin : Plugin S) (r : Option (Bor S)) → Some plugin ≡ find (has number id) list
      → option_copied r ≡ find (λ c. number c == id) plugin.callbacks → is_some r ≡ true
  finds_one id list plugin r e h =
      copied r ∙ ap is_some h ∙ is_some-find (λ c. number c == id) plugin.callbacks ∙ passes (has number id) plugin list e
    where
      copied : (o : Option (Bor S)) → is_some o ≡ is_some (option_copied o)
      copied None = refl
      copied (Some c) = refl

-- the item at a place, if it passes
any_at : {X : Type 0} (test : X → Bool) (xs : List X) (i : ℕ) (x : X) → slice_get xs i ≡ Some x → test x ≡ true → list_any test xs ≡ true
any_at test [] zero x e t = cc
any_at test [] (suc i) x e t = cc
any_at test (y ∷ ys) zero x e t = let same : y ≡ x = cc in rw (same, t) refl
any_at test (y ∷ ys) (suc i) x e t = elim (test y) as (λ b. (b || list_any test ys) ≡ true) [ true ↦ refl | false ↦ any_at test ys i x e t ]

module _ {S : Type 0} (number : S → ℕ) where
  -- the callback at a place of the plugin at a place is held
  pub held_at : (id : ℕ) (plugins : List (Plugin S)) (i j : ℕ) (plugin : Plugin S) (callback : S) → slice_get plugins i ≡ Some plugin
      → slice_get plugin.callbacks j ≡ Some callback
      → (number callback == id) ≡ true
      → is_held (map (shape_of number) plugins) id ≡ true
  held_at id plugins i j plugin callback in_list in_plugin has_id =
      list_any-map (has_callback id) (shape_of number) plugins
      ∙ any_at (λ q. has_callback id (shape_of number q)) plugins i plugin in_list
      (has-shape_of number id plugin ∙ any_at (λ c. number c == id) plugin.callbacks j callback in_plugin has_id)

  -- the callback at a place of a plugin is the plugin's
  pub has_one_at : (id : ℕ) (p : Plugin S) (j : ℕ) (s : S) → slice_get p.callbacks j ≡ Some s → (number s == id) ≡ true
      → has_callback id (shape_of number p) ≡ true
  has_one_at id p j s e t = has-shape_of number id p ∙ any_at (λ c. number c == id) p.callbacks j s e t

  -- a plugin of one of the names has the callback, by the plugins themselves
  pub held_by_names : (names : List (List ℕ)) (id : ℕ) (ps : List (Plugin S))
      → is_held_by (map (shape_of number) ps) names id ≡ list_any (λ p. list_any (bytes_eq p.name) names && has number id p) ps
  held_by_names names id [] = refl
  held_by_names names id (p ∷ ps) = rw (has-shape_of number id p, held_by_names names id ps) refl

  -- a plugin at a place has one of the names, and the callback
  pub held_by_at : (names : List (List ℕ)) (id : ℕ) (ps : List (Plugin S)) (i : ℕ) (p : Plugin S) → slice_get ps i ≡ Some p
      → list_any (bytes_eq p.name) names ≡ true → has_callback id (shape_of number p) ≡ true
      → is_held_by (map (shape_of number) ps) names id ≡ true
  held_by_at names id ps i p e n h =
      list_any-map (λ q. list_any (bytes_eq q.name) names && has_callback id q) (shape_of number) ps
      ∙ any_at (λ q. list_any (bytes_eq q.name) names && has_callback id (shape_of number q)) ps i p e (rw (n, h) refl)

  -- what holds of a list holds of the plugins that keep it
  pub kept : (P : List (Plugin S) → Type 0) (list : List (Plugin S)) (r : Result (Plugins S) PluginFault) → IfOk r (λ plugins. plugins.list ≡ list) → P list
      → IfOk r (λ plugins. P plugins.list)
  kept P list (Ok plugins) e h = subst P (sym e) h
  kept P list (Err fault) e h = tt
