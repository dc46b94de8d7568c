-- What is read of plugins by who looks at some of them alone.
use Rattle.std.proofs.Common.{◌≡◌, ℕ, Bool, true, false, ◌&&◌, ◌||◌, ◌==◌, List, [], ◌∷◌, ◌++◌, map, flat_map, refl, sym, ap, subst, ◌∙◌, bytes_eq}
use Rattle.std.specs.Prelude.{if◌then◌else◌, is_some, find, option_map, Option, None, Some}
use Rattle.std.specs.List.{list_any, list_all}
use Rattle.std.proofs.lemmas.Slice.Eq.{bytes_eq-Decides}
use Rattle.callback_store.specs.Shape.{Shape, comes_before, by_name, has_callback, is_held, is_held_by, load_of}
use Rattle.callback_store.specs.Sorting.{with_placed, in_order}
use Rattle.callback_store.proofs.Mapped.{is_some-find, list_any-map}
use Rattle.plain_data.specs.Texts.{Text}
use Rattle.hook_meaning.specs.World.{own_changes, load_changes}
use Rattle.hook_meaning.specs.Meaning.{Engine}
use Rattle.hook_meaning.proofs.Registered.{and_left, and_right}
use Rattle.hook_meaning.specs.Agreement.{is_among, are_among, seen_of, AgreeOn}

-- ---- tests of lists

or_swap : (a b c : Bool) → (a || (b || c)) ≡ (b || (a || c))
or_swap true true c = refl
or_swap true false c = refl
or_swap false true c = refl
or_swap false false c = refl

-- of two, one holds if one of two weaker ones does
weaker_or : (a b c d : Bool) → (a ≡ true → c ≡ true) → (b ≡ true → d ≡ true) → (a || b) ≡ true → (c || d) ≡ true
weaker_or true b c d f g e = rw (f refl) refl
weaker_or false b true d f g e = refl
weaker_or false b false d f g e = g e

weaker_and : (a b c : Bool) → (a ≡ true → c ≡ true) → (a && b) ≡ true → (c && b) ≡ true
weaker_and true b c f e = rw (f refl) e
weaker_and false b c f e = absurd (let clash = e in cc)

-- a weaker test
pub list_any-weaker : {X : Type 0} (test other : X → Bool) (xs : List X) → ((x : X) → test x ≡ true → other x ≡ true) → list_any test xs ≡ true
    → list_any other xs ≡ true
list_any-weaker test other [] f e = e
list_any-weaker test other (x ∷ xs) f e =
    weaker_or (test x) (list_any test xs) (other x) (list_any other xs) (f x) (list_any-weaker test other xs f) e

list_any-placed : {X : Type 0} (test : X → Bool) (before : X → X → Bool) (x : X) (ys : List X) → list_any test (with_placed before x ys)
    ≡ (test x || list_any test ys)
list_any-placed test before x [] = refl
list_any-placed test before x (y ∷ ys) =
    elim (before y x) as (λ b. list_any test (if b then y ∷ with_placed before x ys else x ∷ y ∷ ys) ≡ (test x || (test y || list_any test ys))) [
      | true ↦ ap (λ b. test y || b) (list_any-placed test before x ys) ∙ or_swap (test y) (test x) (list_any test ys)
      | false ↦ refl
    ]

-- the order makes no difference
list_any-sorted : {X : Type 0} (test : X → Bool) (before : X → X → Bool) (xs : List X) → list_any test (in_order before xs) ≡ list_any test xs
list_any-sorted test before [] = refl
list_any-sorted test before (x ∷ xs) = list_any-placed test before x (in_order before xs) ∙ ap (λ b. test x || b) (list_any-sorted test before xs)

-- ---- plugins

module _ (names : List Text) where
  loads : (xs : List Shape) → flat_map (own_changes names) xs ≡ flat_map (λ s. s.load) (map (seen_of names) xs)
  loads [] = refl
  loads (x ∷ xs) = ap (λ l. own_changes names x ++ l) (loads xs)

  seen_callback : (k : ℕ) (x : Shape) → (is_among names x.name && has_callback k x) ≡ has_callback k (seen_of names x)
  seen_callback k x =
      elim (is_among names x.name) as (λ b. (b && list_any (λ c. c == k) x.callbacks) ≡ list_any (λ c. c == k) (if b then x.callbacks else [])) [
        | true ↦ refl
        | false ↦ refl
      ]

  seen_callbacks : (k : ℕ) (xs : List Shape) → is_held_by xs names k ≡ is_held (map (seen_of names) xs) k
  seen_callbacks k [] = refl
  seen_callbacks k (x ∷ xs) =
      ap (λ b. b || is_held_by xs names k) (seen_callback k x)
      ∙ ap (λ b. has_callback k (seen_of names x) || b) (seen_callbacks k xs)

  -- whether a plugin of these names has a callback, by what is seen of the plugins
  held-seen : (k : ℕ) (xs : List Shape) → is_held_by xs names k ≡ is_held (map (seen_of names) (by_name xs)) k
  held-seen k xs =
      sym (list_any-sorted (λ p. list_any (bytes_eq p.name) names && has_callback k p) comes_before xs)
      ∙ seen_callbacks k (by_name xs)

  -- whether there is a plugin of a name, by what is seen
  known-seen : (name : Text) (xs : List Shape) → is_some (load_of xs name) ≡ list_any (λ s. bytes_eq s.name name) (map (seen_of names) (by_name xs))
  known-seen name xs =
      mapped (find (λ s. bytes_eq s.name name) xs)
      ∙ is_some-find (λ s. bytes_eq s.name name) xs
      ∙ sym (list_any-sorted (λ s. bytes_eq s.name name) comes_before xs)
      ∙ sym (list_any-map (λ s. bytes_eq s.name name) (seen_of names) (by_name xs))
    where
      mapped : (o : Option Shape) → is_some (option_map (λ s. s.load) o) ≡ is_some o
      mapped None = refl
      mapped (Some x) = refl

  module _ (one other : Engine) (agree : AgreeOn names one other) where
    pub load-same : load_changes one.plugins names ≡ load_changes other.plugins names
    load-same = loads (by_name one.plugins) ∙ ap (flat_map (λ s. s.load)) agree.plugins ∙ sym (loads (by_name other.plugins))

    pub held-same : (k : ℕ) → is_held_by one.plugins names k ≡ is_held_by other.plugins names k
    held-same k = held-seen k one.plugins ∙ ap (λ xs. is_held xs k) agree.plugins ∙ sym (held-seen k other.plugins)

    pub known-same : (name : Text) → is_some (load_of one.plugins name) ≡ is_some (load_of other.plugins name)
    known-same name =
        known-seen name one.plugins ∙ ap (list_any (λ s. bytes_eq s.name name)) agree.plugins ∙ sym (known-seen name other.plugins)

-- a plugin of some names has the callback, so some plugin has
pub held_by-some : (names : List Text) (k : ℕ) (xs : List Shape) → is_held_by xs names k ≡ true → is_held xs k ≡ true
held_by-some names k xs e = list_any-weaker _ (has_callback k) xs (λ x h. and_right (is_among names x.name) (has_callback k x) h) e

-- ---- fewer names

all_of : {X : Type 0} (test : X → Bool) (xs : List X) (is : X → Bool) (goal : Bool) → ((x : X) → is x ≡ true → test x ≡ true → goal ≡ true)
    → list_all test xs ≡ true
    → list_any is xs ≡ true
    → goal ≡ true
all_of test [] is goal f all any = absurd (let clash = any in cc)
all_of test (x ∷ xs) is goal f all any =
    elim (is x) as (λ b. is x ≡ b → (b || list_any is xs) ≡ true → goal ≡ true) [
      | true ↦ λ e h. f x e (and_left (test x) (list_all test xs) all)
      | false ↦ λ e h. all_of test xs is goal f (and_right (test x) (list_all test xs) all) h
    ] refl any

-- who is one of the fewer is one of the more
pub among-more : (names fewer : List Text) → are_among names fewer ≡ true → (name : Text) → is_among fewer name ≡ true → is_among names name ≡ true
among-more names fewer all name any =
    all_of (is_among names) fewer (bytes_eq name) (is_among names name)
    (λ x same there. subst (λ y. is_among names y ≡ true) (sym ((bytes_eq-Decides name x).0 same)) there) all any

module _ (names fewer : List Text) (all : are_among names fewer ≡ true) where
  kept_of : {X : Type 0} (x : Shape) (xs : List X)
      → (if is_among fewer x.name then (if is_among names x.name then xs else []) else []) ≡ (if is_among fewer x.name then xs else [])
  kept_of x xs =
      elim (is_among fewer x.name) as (λ b. is_among fewer x.name ≡ b
      → (if b then (if is_among names x.name then xs else []) else []) ≡ (if b then xs else [])) [
        | true ↦ λ e. rw (among-more names fewer all x.name e) refl
        | false ↦ λ e. refl
      ] refl

  seen_again : (x : Shape) → seen_of fewer (seen_of names x) ≡ seen_of fewer x
  seen_again x = λ i. record { name = x.name; load = kept_of x x.load i; callbacks = kept_of x x.callbacks i }

  seen-fewer : (xs : List Shape) → map (seen_of fewer) (map (seen_of names) xs) ≡ map (seen_of fewer) xs
  seen-fewer [] = refl
  seen-fewer (x ∷ xs) = λ i. seen_again x i ∷ seen-fewer xs i

  -- bundles that agree on some names agree on fewer
  pub agree-fewer : (one other : Engine) → AgreeOn names one other → AgreeOn fewer one other
  agree-fewer one other agree = record {
    plugins = sym (seen-fewer (by_name one.plugins)) ∙ ap (map (seen_of fewer)) agree.plugins ∙ seen-fewer (by_name other.plugins);
    replies = λ k call h. agree.replies k call (list_any-weaker _ _ one.plugins
        (λ x. weaker_and (is_among fewer x.name) (has_callback k x) (is_among names x.name) (among-more names fewer all x.name)) h);
  }
