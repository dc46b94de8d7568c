-- A pass of core's callback alone over a text without shortcodes.
use Rattle.std.proofs.Common.{◌≡◌, ℕ, zero, suc, ◌+◌, ◌-◌, ◌<◌, true, List, [], ◌∷◌, ◌++◌, cond, map, filter, length, take, None, Some}
use Rattle.std.proofs.Common.{refl, ap, ◌∙◌, arith}
use Rattle.std.proofs.lemmas.Bool.{lt-ltb}
use Rattle.plain_data.specs.Names.{is_hook_name}
use Rattle.hook_changes.specs.declared.reply.Call.{Call}
use Rattle.hook_registry.specs.declared.registration.Entry.{Entry}
use Rattle.hook_registry.specs.declared.registration.Registration.{Registration}
use Rattle.hook_registry.specs.Table.{Table, registrations, is_at, is_above, entry_of, least, least_priority, group, next_priority}
use Rattle.hook_registry.proofs.Groups.{equal-self, not_less-self}
use Rattle.shortcode_scan.specs.declared.Piece.TheVariants.{Plain}
use Rattle.shortcode_scan.specs.Matches.{span}
use Rattle.shortcode_scan.specs.Pieces.{pieces_of, plain_between}
use Rattle.shortcode_scan.specs.Live.{live}
use Rattle.hook_meaning.specs.declared.pass_kind.PassKind.TheVariants.{Filter}
use Rattle.plain_data.specs.Texts.{Text}
use Rattle.hook_meaning.specs.World.{World}
use Rattle.hook_meaning.specs.Trace.{Trace, Done, Turn, and_then}
use Rattle.hook_meaning.specs.Meaning.{Engine, Invocation, hook_call, deeper, pieces_pass, shortcodes_pass, filter_pass, invoke, first_or_empty}
use Rattle.hook_machine.specs.Rest.{pass_from, pending_left}
use Rattle.hook_machine.specs.PassedOver.{IsCoreAlone, left_by_core}
use Rattle.hook_meaning.proofs.Ending.{filter_named, one_stretch, deeper_within, left_again}
use Rattle.hook_machine.proofs.Steps.{pass_begins, pass_above, pass_cons, pass_none, turn_core}

-- ---- a text without shortcodes

plain_pass : (inv : Invocation) (w : World) (text : Text) → pieces_pass inv text w [] (plain_between 0 (length text)) ≡ Done w text
unfolding pieces_pass
plain_pass inv w [] = refl
plain_pass inv w (x ∷ xs) =
    rw (lt-ltb 0 (length (x ∷ xs)) (omega arith))
    (one_stretch inv (x ∷ xs) w (Plain (span 0 (length (x ∷ xs))) ∷ []) (Plain (span 0 (length (x ∷ xs)))) (span 0 (length (x ∷ xs))) refl refl refl refl)

pub plain_text : (inv : Invocation) (w : World) (text : Text) → ((names : List Text) → pieces_of names text ≡ plain_between 0 (length text))
    → shortcodes_pass inv w text ≡ Done w text
unfolding shortcodes_pass
plain_text inv w text h = ap (pieces_pass inv text w []) (h (live (map (λ p. p.0) w.tags) text)) ∙ plain_pass inv w text

-- ---- the only registration of a hook

first_of_one : (table : Table) (hook : Text) (r : Registration) → registrations table hook ≡ r ∷ [] → next_priority table hook None ≡ Some r.priority
first_of_one table hook r e = ap (λ rs. least_priority (is_above None) rs) e

group_of_one : (table : Table) (hook : Text) (r : Registration) → registrations table hook ≡ r ∷ [] → group table hook r.priority ≡ entry_of r ∷ []
group_of_one table hook r e =
    ap (λ rs. map entry_of (filter (is_at r.priority) rs)) e ∙ ap (λ b. map entry_of (cond b (r ∷ []) [])) (equal-self r.priority)

none_above : (table : Table) (hook : Text) (r : Registration) → registrations table hook ≡ r ∷ [] → next_priority table hook (Some r.priority) ≡ None
none_above table hook r e =
    ap (λ rs. least_priority (is_above (Some r.priority)) rs) e ∙ ap (λ b. least (map (λ r. r.priority) (cond b (r ∷ []) []))) (not_less-self r.priority)

-- ---- core's callback alone

first_argument : (n : ℕ) (v : Text) (args : List Text) → 0 < n → first_or_empty (take n (v ∷ args)) ≡ v
first_argument zero v args h = absurd (omega (arith, h))
first_argument (suc n) v args h = refl

same_depth : (w : World) → record w { depth = w.depth + 1 - 1 } ≡ w
same_depth w = ap (λ (n : ℕ). record w { depth = n }) (omega arith)

module _ (engine : Engine) where
  -- core's callback takes a turn, and answers a text without shortcodes as it is
  core_answers : (w : World) (k : ℕ) (call : Call) (v : Text) → k ≡ 0 → 0 < w.calls → w.depth < 32 → first_or_empty call.args ≡ v
      → ((names : List Text) → pieces_of names v ≡ plain_between 0 (length v))
      → invoke engine w k call ≡ Turn (record { callback = k; call = call; world = record w { calls = w.calls - 1 } }) (Done (record w { calls = w.calls - 1 }) v)
  unfolding pending_left
  core_answers w k call v z h d f plain =
      let taken : World = record w { calls = w.calls - 1 } in
      turn_core engine w taken k call h (rw z refl) refl
      ∙ ap (Turn (record { callback = k; call = call; world = taken })) (ap (λ (x : Text). deeper taken (λ inside. shortcodes_pass (invoke engine) inside x)) f
      ∙ deeper_within taken (λ inside. shortcodes_pass (invoke engine) inside v) d
      ∙ ap (λ (t : Trace Text). and_then t (λ later x. Done (record later { depth = later.depth - 1 }) x))
      (plain_text (invoke engine) (record taken { depth = taken.depth + 1 }) v plain)
      ∙ ap (λ (u : World). Done u v) (same_depth taken))

  pub core_leaves : (w : World) (hook v : Text) (args : List Text) → IsCoreAlone w.table hook → is_hook_name hook ≡ true → 0 < w.calls → w.depth < 32
      → ((names : List Text) → pieces_of names v ≡ plain_between 0 (length v))
      → (call : Call) × (filter_pass (invoke engine) w hook v args ≡ left_by_core w hook call v)
  core_leaves w hook v args alone named h d plain =
      let r : Registration = alone.only in
      let entered : World = record w { running = w.running ++ hook ∷ [] } in
      let taken : World = record entered { calls = w.calls - 1 } in
      let call : Call = hook_call hook (take r.accepted (v ∷ args)) in (
        call,
        filter_named (invoke engine) w hook v args named
            ∙ pass_begins engine w Filter hook v args
            ∙ pass_above engine entered Filter hook args v None r.priority (first_of_one w.table hook r alone.alone)
            ∙ ap (λ (es : List Entry). pass_from engine entered Filter hook args v (Some r.priority) es) (group_of_one w.table hook r alone.alone)
            ∙ pass_cons engine entered Filter hook args v (Some r.priority) (entry_of r) []
            ∙ ap (λ (t : Trace Text). and_then t (λ later x. pass_from engine later Filter hook args x (Some r.priority) []))
            (core_answers entered r.callback call v alone.core h d (first_argument r.accepted v args alone.takes) plain)
            ∙ ap (Turn (record { callback = r.callback; call = call; world = taken }))
            (pass_none engine taken Filter hook args v (Some r.priority) (none_above w.table hook r alone.alone)
            ∙ ap (λ (hooks : List Text). Done (record taken { running = hooks }) v) (left_again w.running hook))
            ∙ ap (λ k. Turn (record { callback = k; call = call; world = taken }) (Done (record w { calls = w.calls - 1 }) v)) alone.core,
      )
