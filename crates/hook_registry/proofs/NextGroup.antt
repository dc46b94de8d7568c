-- The group that comes next, as a look-up by its place finds it.
use Rattle.std.proofs.Common.{◌≡◌, ℕ, ◌<◌, ◌≤◌, ℤ, List, map, filter, length, refl}
use Rattle.std.specs.Prelude.{Option, None, Some, MatchOption}
use Rattle.std.specs.List.{HoldsAt}
use Rattle.std.proofs.lemmas.Option.{slice_get_past, slice_get_read}
use Rattle.hook_registry.specs.Table.{is_at, is_above, entry_of, least_priority}
use Rattle.hook_registry.specs.declared.group.Group.{Group}
use Rattle.hook_registry.specs.Groups.{registrations_of, AreGroups, IsPlaceAbove}
use Rattle.hook_registry.proofs.Groups.{next-some, next-none, group-at}

module _ {B : Type 0} (now : B → Group) (above : Option ℤ) (gs : List Group) (at : ℕ) where
  pub group_found : (r : Option B) → AreGroups gs → IsPlaceAbove above gs at
      → MatchOption r (length gs ≤ at) (λ x. (at < length gs) × HoldsAt (λ y. now x ≡ y) gs at)
      → MatchOption r (least_priority (is_above above) (registrations_of gs) ≡ None) (λ x.
      (least_priority (is_above above) (registrations_of gs) ≡ Some (now x).priority)
      × (map entry_of (filter (is_at (now x).priority) (registrations_of gs)) ≡ (now x).entries))
  group_found None h p f = next-none above gs at h p (slice_get_past gs at f)
  group_found (Some x) h p f =
      let found = slice_get_read gs (length gs) at (now x) refl f.0 (f.1 (now x)) in
      (next-some above gs at (now x) h p found, group-at gs at (now x) h found)
