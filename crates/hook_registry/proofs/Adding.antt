-- An entry added to those of its priority.
use Rattle.std.proofs.Common.{◌≡◌, ℕ, ℤ, zero, suc, ◌<◌, true, false, true≢false, Bool, ◌||◌, ◌∙◌, List, [], ◌∷◌, ◌++◌, set, length, get_or, refl, ap}
use Rattle.std.proofs.Common.{subst, sym, arith}
use Rattle.std.specs.Prelude.{◌==◌, not, filter, Option, None, Some, IfSome, MatchOption}
use Rattle.std.specs.Ordering.{int_eq}
use Rattle.std.specs.List.{AllWithin, list_any}
use Rattle.hook_registry.specs.Table.{is_of}
use Rattle.hook_registry.specs.Groups.{registrations_at}
use Rattle.hook_registry.specs.declared.registration.Entry.{Entry}
use Rattle.hook_registry.specs.Entries.{with_entry, is_by}

pub none_of : (a b : Bool) → (a || b) ≡ false → (a ≡ false) × (b ≡ false)
none_of true b f = absurd (true≢false f)
none_of false b f = (refl, f)

entries_any : (p q : ℤ) (c : ℕ) (es : List Entry) → int_eq q p ≡ true
    → list_any (is_of p c) (registrations_at q es) ≡ list_any (λ (e : Entry). e.callback == c) es
entries_any p q c [] t = refl
entries_any p q c (e ∷ es) t = rw t (ap (λ b. e.callback == c || b) (entries_any p q c es t))

module _ (new : Entry) where
  -- another callback's
  abbrev pub IsOther : Entry → Type 0
  IsOther e = (e.callback == new.callback) ≡ false

  later : (x : Entry) (items : List Entry) (i : ℕ) → AllWithin IsOther (x ∷ items) 0 (suc i) → AllWithin IsOther items 0 i
  later x items i all at other low high = all (suc at) other (omega arith) (omega arith)

  pub entry-there : (entries : List Entry) (at : ℕ) (found old : Entry) → at < length entries → AllWithin IsOther entries 0 at
      → found ≡ get_or entries at found → old ≡ get_or entries at old
      → (found.callback == new.callback) ≡ true
      → set entries at (record old { accepted = new.accepted }) ≡ with_entry entries new
  entry-there [] at found old within others found_is old_is is_callback = absurd (omega arith)
  entry-there (x ∷ entries) zero found old within others found_is old_is is_callback =
      let here : (x.callback == new.callback) ≡ true = subst (λ (y : Entry). (y.callback == new.callback) ≡ true) found_is is_callback in
      rw here (ap (λ (y : Entry). record y { accepted = new.accepted } ∷ entries) old_is)
  entry-there (x ∷ entries) (suc at) found old within others found_is old_is is_callback = rw (others 0 x (omega arith) (omega arith))
      (ap (λ ys. x ∷ ys) (entry-there entries at found old (omega arith) (later x entries at others) found_is old_is is_callback))

  pub entry-last : (es : List Entry) → AllWithin IsOther es 0 (length es) → es ++ new ∷ [] ≡ with_entry es new
  entry-last [] f = refl
  entry-last (x ∷ es) f = rw (f 0 x (omega arith) (omega arith)) (ap (λ ys. x ∷ ys) (entry-last es (later x es (length es) f)))

  -- no entry is the callback's
  pub entry-new : (es : List Entry) → list_any (λ (e : Entry). e.callback == new.callback) es ≡ false → es ++ new ∷ [] ≡ with_entry es new
  entry-new [] f = refl
  entry-new (x ∷ es) f =
      let n = none_of (x.callback == new.callback) (list_any (λ (e : Entry). e.callback == new.callback) es) f in
      rw n.0 (ap (λ ys. x ∷ ys) (entry-new es n.1))

-- the list that passes share is still the entries, once both are without a callback's
pub still_shared : (c : ℕ) (shared left : Option (List Entry)) (own new : List Entry) → IfSome shared (λ list. list ≡ own)
    → IfSome left (λ list. MatchOption shared ⊥ (λ entries. list ≡ filter (λ e. not (is_by c e)) entries)) → new ≡ filter (λ e. not (is_by c e)) own
    → IfSome left (λ list. list ≡ new)
still_shared c shared None own new s l n = tt
still_shared c None (Some list) own new s l n = absurd l
still_shared c (Some entries) (Some list) own new s l n = l ∙ ap (filter (λ e. not (is_by c e))) s ∙ sym n

-- what passes share is the entries with the new one, if it was the entries before
pub pushed_is : (shared : Option (List Entry)) (more own : List Entry) (new : Entry) → IfSome shared (λ list. list ≡ own)
    → MatchOption shared (more ≡ own ++ new ∷ []) (λ entries. more ≡ entries ++ new ∷ []) → more ≡ own ++ new ∷ []
pushed_is None more own new s m = m
pushed_is (Some entries) more own new s m = m ∙ ap (λ es. es ++ new ∷ []) s
