-- One more round of a connection.
use Rattle.std.proofs.Common.{inl, inr, ◌≡◌, ℕ, Bool, true, false, List, [], ◌∷◌, ◌++◌, refl, sym, ap, subst, ◌∙◌}
use Rattle.std.specs.Prelude.{All, IsErrAnd, Result}
use Rattle.std.specs.IoError.{error_kind}
use Rattle.std.specs.declared.io.Error.{Error}
use Rattle.std.specs.declared.io.ErrorKind.TheVariants.{Other}
use Rattle.std.proofs.lemmas.List.{append-nil}
use Rattle.std.proofs.lemmas.List.Elements.{All-head, All-push, All-tail}
use Rattle.http.specs.declared.request.Request.{Request}
use Rattle.http_server.specs.declared.connection.Connection.{Connection}
use Rattle.http_server.specs.declared.response.Response.{Response}
use Rattle.http_server.specs.Connection.{config_of, history}
use Rattle.http_server.specs.Exchange.{Call, Calls, Chain}
use Rattle.http_server.specs.Rounds.{Round, Rounds, all_of, kept_of, IsCleared}
use Rattle.http_streams.specs.Losses.{StopsAtALoss, TellsALoss}
use Rattle.http_server.proofs.RoundLemmas.{all_of-push, kept_of-push_kept, kept_of-push_lost, Rounds-push, IsCleared-itself}

-- ---- losses

abbrev IsKept : Round Call → Type 0
IsKept r = r.1 ≡ true

stops_nowhere : (rounds : List (Round Call)) → All IsKept rounds → StopsAtALoss rounds
stops_nowhere [] kept = tt
stops_nowhere (r ∷ rounds) kept = (inl (All-head IsKept r rounds kept), stops_nowhere rounds (All-tail IsKept r rounds kept))

stops_at_last : (rounds : List (Round Call)) (last : Round Call) → All IsKept rounds → StopsAtALoss (rounds ++ last ∷ [])
stops_at_last [] last kept = (inr refl, tt)
stops_at_last (r ∷ rounds) last kept = (inl (All-head IsKept r rounds kept), stops_at_last rounds last (All-tail IsKept r rounds kept))

-- ---- rounds

module _ {S : Type 0} (answers : S → Request (List ℕ) → Response → S → Type 0) (settles : S → Bool → S → Type 0) where
  -- the calls of the connection are rounds, each of which was committed
  abbrev pub IsCommitted : S → S → Connection → Type 0
  IsCommitted old new c =
      (rounds : List (Round Call)) × Rounds answers settles old rounds new
      × ((history c).calls ≡ all_of rounds) × (kept_of rounds ≡ all_of rounds) × All IsKept rounds

  -- the calls of the connection are rounds, what was sent tells only of those that were committed, and the result of a loss
  abbrev pub IsAccounted : {A : Type 0} → S → S → Connection → Result A Error → Type 0
  IsAccounted old new c result =
      (rounds : List (Round Call)) × Rounds answers settles old rounds new
      × ((history c).calls ≡ all_of rounds) × IsCleared (kept_of rounds) c × StopsAtALoss rounds × TellsALoss rounds result

  pub accounted : {A : Type 0} {old new : S} (c : Connection) (result : Result A Error) → IsCommitted old new c → IsAccounted old new c result
  accounted c result h = (h.0, h.1, h.2, IsCleared-itself (kept_of h.0) c (h.2 ∙ sym h.3), stops_nowhere h.0 h.4, record { kept_or_told = inl h.4 })

  pub committed_more : (old new called settled : S) (c d : Connection) → IsCommitted old new c
      → Calls answers new called (history c).calls (history d).calls → settles called true settled → IsCommitted old settled d
  committed_more old new called settled c d h more ends =
      let all = all_of-push h.0 more.0 true in (
        h.0 ++ (more.0, true) ∷ [],
        Rounds-push answers settles h.0 (more.0, true) old new called settled h.1 more.2 ends,
        more.1 ∙ ap (λ (t : List Call). t ++ more.0) h.2 ∙ sym all,
        kept_of-push_kept h.0 more.0 ∙ ap (λ (t : List Call). t ++ more.0) h.3 ∙ sym all,
        All-push IsKept h.0 (more.0, true) h.4 refl,
      )

  -- a round that was not committed, of which nothing was sent
  pub lost_more : {A : Type 0} (old new called settled : S) (c d : Connection) (result : Result A Error) → IsCommitted old new c
      → Calls answers new called (history c).calls (history d).calls → settles called false settled
      → config_of d ≡ config_of c → (history d).received ≡ (history c).received → (history d).sent ≡ (history c).sent
      → IsErrAnd result (λ e. error_kind e ≡ Other) → IsAccounted old settled d result
  lost_more old new called settled c d result h more ends config received sent told = (
    h.0 ++ (more.0, false) ∷ [],
    Rounds-push answers settles h.0 (more.0, false) old new called settled h.1 more.2 ends,
    more.1 ∙ ap (λ (t : List Call). t ++ more.0) h.2 ∙ sym (all_of-push h.0 more.0 false),
    record {
      earlier = c;
      config = sym config;
      calls = h.2 ∙ sym h.3 ∙ sym (kept_of-push_lost h.0 more.0);
      received = ([], received ∙ sym (append-nil (history c).received));
      sent = sent;
    },
    stops_at_last h.0 (more.0, false) h.4,
    record { kept_or_told = inr told },
  )

  -- reading and writing make no call
  pub committed_still : (old new : S) (c d : Connection) → (history d).calls ≡ (history c).calls → IsCommitted old new c
      → IsCommitted old new d
  committed_still old new c d same h = (h.0, h.1, same ∙ h.2, h.3, h.4)

-- calls make no commit fail
module _ {S : Type 0} (answers : S → Request (List ℕ) → Response → S → Type 0) (is_sound : S → Type 0)
    (stays : (old : S) (request : Request (List ℕ)) (response : Response) (new : S) → answers old request response new → is_sound old
    → is_sound new) where
  chain_sound : (old new : S) (calls : List Call) → Chain answers old calls new → is_sound old → is_sound new
  chain_sound old new [] chain sound = subst is_sound (sym chain) sound
  chain_sound old new (c ∷ calls) (next, first, later) sound = chain_sound next new calls later (stays old c.0 c.1 next first sound)

  pub calls_sound : (old new : S) (before after : List Call) → Calls answers old new before after → is_sound old → is_sound new
  calls_sound old new before after calls sound = chain_sound old new calls.0 calls.2 sound
