-- What one more deed does to what was done for each number.
use Rattle.std.proofs.Common.{inl, inr, ◌≡◌, ◌∙◌, ℕ, true, false, List, [], ◌∷◌, ◌++◌, refl, sym, ap, subst, append-nil, eq-eqb, flat_map}
use Rattle.std.specs.Prelude.{All, nat_eq}
use Rattle.std.proofs.lemmas.Bool.{cases_Bool}
use Rattle.std.proofs.lemmas.Grind.{flat_map-append}
use Rattle.std.proofs.lemmas.List.Elements.{All-head, All-tail, filter-append}
use Rattle.http_server.specs.declared.connection.Connection.{Connection}
use Rattle.http_server.specs.declared.state.Config.{Config}
use Rattle.http_server.specs.Connection.{config_of, history}
use Rattle.http_server.specs.History.{History, new_history}
use Rattle.http_server.specs.Rounds.{all_of, kept_of, IsCleared}
use Rattle.http_server.proofs.RoundLemmas.{IsCleared-itself}
use Rattle.http_streams.specs.Deeds.{Deed, IsSession, IsUntouched, calls_by, deeds_of, kept_by, sent_by, taken_by}
use Rattle.http_streams.proofs.Parts.{IsKept, all_kept}

-- ---- one more deed

module _ {X : Type 0} (f : Deed → List X) (number : ℕ) (deeds : List Deed) (d : Deed) where
  abbrev by : List Deed → List X
  by all = flat_map f (deeds_of number all)

  joined : by (deeds ++ d ∷ []) ≡ by deeds ++ by (d ∷ [])
  joined = ap (flat_map f) (filter-append (λ e. nat_eq e.frame.connection number) deeds (d ∷ [])) ∙ flat_map-append f (deeds_of number deeds) (deeds_of number (d ∷ []))

  pub by_same : nat_eq d.frame.connection number ≡ true → by (deeds ++ d ∷ []) ≡ by deeds ++ f d
  by_same is = joined ∙ ap (λ l. by deeds ++ l) (rw is (append-nil (f d)))

  pub by_other : nat_eq d.frame.connection number ≡ false → by (deeds ++ d ∷ []) ≡ by deeds
  by_other is = joined ∙ ap (λ l. by deeds ++ l) (rw is refl) ∙ append-nil (by deeds)

-- ---- sessions

module _ (config : Config) (deeds : List Deed) (d : Deed) where
  -- of another number
  pub session_other : (number : ℕ) (c : Connection) → nat_eq d.frame.connection number ≡ false → IsSession config number deeds c
      → IsSession config number (deeds ++ d ∷ []) c
  session_other number c is s = record {
    config_is = s.config_is;
    received = s.received ∙ sym (by_other (λ e. e.taken) number deeds d is);
    sent = s.sent ∙ sym (by_other (λ e. flat_map (λ piece. piece) e.sent) number deeds d is);
    calls = s.calls ∙ sym (by_other (λ e. all_of e.rounds) number deeds d is);
    cleared = subst (λ l. IsCleared l c) (sym (by_other (λ e. kept_of e.rounds) number deeds d is)) s.cleared;
  }

  pub untouched_other : (number : ℕ) → nat_eq d.frame.connection number ≡ false → IsUntouched number deeds → IsUntouched number (deeds ++ d ∷ [])
  untouched_other number is u = record {
    taken = by_other (λ e. e.taken) number deeds d is ∙ u.taken;
    sent = by_other (λ e. flat_map (λ piece. piece) e.sent) number deeds d is ∙ u.sent;
    calls = by_other (λ e. all_of e.rounds) number deeds d is ∙ u.calls;
    kept = by_other (λ e. kept_of e.rounds) number deeds d is ∙ u.kept;
  }

  -- of a deed that did nothing
  pub session_idle : (number : ℕ) (c : Connection) → d.taken ≡ [] → flat_map (λ piece. piece) d.sent ≡ [] → d.rounds ≡ []
      → IsSession config number deeds c → IsSession config number (deeds ++ d ∷ []) c
  session_idle number c taken sent rounds s = elim (cases_Bool (nat_eq d.frame.connection number)) [
    | inl is ↦ record {
      config_is = s.config_is;
      received = s.received ∙ sym (by_same (λ e. e.taken) number deeds d is ∙ ap (λ l. taken_by number deeds ++ l) taken ∙ append-nil _);
      sent = s.sent ∙ sym (by_same (λ e. flat_map (λ piece. piece) e.sent) number deeds d is ∙ ap (λ l. sent_by number deeds ++ l) sent ∙ append-nil _);
      calls = s.calls ∙ sym (by_same (λ e. all_of e.rounds) number deeds d is ∙ ap (λ l. calls_by number deeds ++ all_of l) rounds ∙ append-nil _);
      cleared = subst (λ l. IsCleared l c)
          (sym (by_same (λ e. kept_of e.rounds) number deeds d is ∙ ap (λ l. kept_by number deeds ++ kept_of l) rounds ∙ append-nil _)) s.cleared;
    }
    | inr is ↦ session_other number c is s
  ]

  pub untouched_idle : (number : ℕ) → d.taken ≡ [] → flat_map (λ piece. piece) d.sent ≡ [] → d.rounds ≡ [] → IsUntouched number deeds
      → IsUntouched number (deeds ++ d ∷ [])
  untouched_idle number taken sent rounds u = elim (cases_Bool (nat_eq d.frame.connection number)) [
    | inl is ↦ record {
      taken = by_same (λ e. e.taken) number deeds d is ∙ ap (λ l. taken_by number deeds ++ l) taken ∙ append-nil _ ∙ u.taken;
      sent = by_same (λ e. flat_map (λ piece. piece) e.sent) number deeds d is ∙ ap (λ l. sent_by number deeds ++ l) sent ∙ append-nil _ ∙ u.sent;
      calls = by_same (λ e. all_of e.rounds) number deeds d is ∙ ap (λ l. calls_by number deeds ++ all_of l) rounds ∙ append-nil _ ∙ u.calls;
      kept = by_same (λ e. kept_of e.rounds) number deeds d is ∙ ap (λ l. kept_by number deeds ++ kept_of l) rounds ∙ append-nil _ ∙ u.kept;
    }
    | inr is ↦ untouched_other number is u
  ]

  -- of the deed's own number: the connection before and after
  pub session_same : (old new : Connection) → IsSession config d.frame.connection deeds old → kept_by d.frame.connection deeds ≡ calls_by d.frame.connection deeds
      → config_of new ≡ config_of old → (history new).received ≡ (history old).received ++ d.taken
      → (history new).sent ≡ (history old).sent ++ flat_map (λ piece. piece) d.sent → (history new).calls ≡ (history old).calls ++ all_of d.rounds
      → IsCleared ((history old).calls ++ kept_of d.rounds) new → IsSession config d.frame.connection (deeds ++ d ∷ []) new
  session_same old new s kept config received sent calls cleared =
      let n = d.frame.connection in
      let is : nat_eq n n ≡ true = eq-eqb n n refl in
      record {
        config_is = config ∙ s.config_is;
        received = received ∙ ap (λ l. l ++ d.taken) s.received ∙ sym (by_same (λ e. e.taken) n deeds d is);
        sent = sent ∙ ap (λ l. l ++ flat_map (λ piece. piece) d.sent) s.sent ∙ sym (by_same (λ e. flat_map (λ piece. piece) e.sent) n deeds d is);
        calls = calls ∙ ap (λ l. l ++ all_of d.rounds) s.calls ∙ sym (by_same (λ e. all_of e.rounds) n deeds d is);
        cleared = subst (λ l. IsCleared l new)
            (ap (λ l. l ++ kept_of d.rounds) (s.calls ∙ sym kept) ∙ sym (by_same (λ e. kept_of e.rounds) n deeds d is)) cleared;
      }

-- a new connection, of a number that nothing was done for
pub session_new : (config : Config) (number : ℕ) (deeds : List Deed) (c : Connection) → IsUntouched number deeds → history c ≡ new_history
    → config_of c ≡ config → IsSession config number deeds c
session_new config number deeds c u is config_is = record {
  config_is = config_is;
  received = ap (λ (h : History). h.received) is ∙ sym u.taken;
  sent = ap (λ (h : History). h.sent) is ∙ sym u.sent;
  calls = ap (λ (h : History). h.calls) is ∙ sym u.calls;
  cleared = IsCleared-itself (kept_by number deeds) c (ap (λ (h : History). h.calls) is ∙ sym u.kept);
}

-- ---- deeds whose rounds were all committed

abbrev pub IsWhole : Deed → Type 0
IsWhole d = All IsKept d.rounds

pub kept-whole : (number : ℕ) (deeds : List Deed) → All IsWhole deeds → kept_by number deeds ≡ calls_by number deeds
kept-whole number [] whole = refl
kept-whole number (d ∷ deeds) whole = elim (cases_Bool (nat_eq d.frame.connection number)) [
  | inl is ↦ rw is (ap (λ l. l ++ kept_by number deeds) (all_kept d.rounds (All-head IsWhole d deeds whole))
      ∙ ap (λ l. all_of d.rounds ++ l) (kept-whole number deeds (All-tail IsWhole d deeds whole)))
  | inr is ↦ rw is (kept-whole number deeds (All-tail IsWhole d deeds whole))
]
