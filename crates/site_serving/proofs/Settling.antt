-- Lemmas on letting out what waits after a chunk.
use Rattle.std.proofs.Common.{◌≡◌, ◌≢◌, ◌⊎◌, inl, inr, ℕ, Bool, List, [], Result, Ok, Err, refl, sym, subst, ap}
use Rattle.std.specs.Prelude.{IfErr, OnOk, IsErrOf}
use Rattle.byte_io.specs.Journal.{Grows}
use Rattle.byte_io.specs.declared.journal.Journal.{Ghosts}
use Rattle.site_replies.specs.Reply.{ReplyData}
use Rattle.site_replies.specs.declared.fault.ServeFault.{ServeFault}
use Rattle.site_replies.specs.declared.fault.ServeFault.TheVariants as fault_of
use Rattle.site_serving.specs.Served.{Replied}
use Rattle.site_serving.specs.Journaled.{IsSettled, LetsOut}
use Rattle.site_serving.specs.Stretches.{Fails, Halts, Records}
use Rattle.site_serving.proofs.Stretches.{Fails-let_out, Records-let_out}

module _ {J : Type 0} (g : Ghosts J) (keeps : Replied → Bool) {X : Type 0} (replies : X → List ℕ → ReplyData → X → Type 0) where
  -- The lines of a chunk were carried out, at least one, and what waits may then have been let out. `a`, `b` and `c` are the
  -- journal before, between and after.
  records_let_out : (site after : X) (limit left : ℕ) (stretch held : List ℕ) (a b c : J) (taken : Result (Unit {0}) ServeFault)
      → OnOk taken (Records g keeps replies site limit stretch a b after left held) → LetsOut g (g.noted b) b c → g.contents c ≡ g.contents b
      → Grows (g.noted b) (g.noted c) [] → (g.is_open b → taken ≢ Err fault_of.Write → g.is_open c)
      → OnOk taken (Records g keeps replies site limit stretch a c after left held)
  records_let_out site after limit left stretch held a b c (Ok x) records out same noted stays =
      Records-let_out g keeps replies site after limit left stretch held a b c records out same noted (λ up. stays up (λ e. absurd (cc)))
  records_let_out site after limit left stretch held a b c (Err e) records out same noted stays = tt

  halts_let_out : (site after : X) (limit left : ℕ) (stretch : List ℕ) (a b c : J) (taken : Result (Unit {0}) ServeFault)
      → IfErr taken (λ e. e ≢ fault_of.Write → Halts g keeps replies site limit stretch a b after left e) → LetsOut g (g.noted b) b c
      → g.contents c ≡ g.contents b → Grows (g.noted b) (g.noted c) [] → (g.is_open b → taken ≢ Err fault_of.Write → g.is_open c)
      → IfErr taken (λ e. e ≢ fault_of.Write → Halts g keeps replies site limit stretch a c after left e)
  halts_let_out site after limit left stretch a b c (Ok x) halts out same noted stays = tt
  halts_let_out site after limit left stretch a b c (Err fault_of.Read) halts out same noted stays = λ other. absurd (halts other).2
  halts_let_out site after limit left stretch a b c (Err fault_of.Write) halts out same noted stays = λ other. absurd (other refl)
  halts_let_out site after limit left stretch a b c (Err fault_of.TooMuchInput) halts out same noted stays = λ other.
      let h = halts other in
      (h.0, Records-let_out g keeps replies site after limit left stretch h.0 a b c h.1 out same noted (λ up. stays up (λ e. absurd (cc))), h.2)
  halts_let_out site after limit left stretch a b c (Err fault_of.OutOfMemory) halts out same noted stays = λ other.
      let h = halts other in
      (h.0, Records-let_out g keeps replies site after limit left stretch h.0 a b c h.1 out same noted (λ up. stays up (λ e. absurd (cc))), h.2)

  pub chunk_records : (site after : X) (limit left : ℕ) (stretch held : List ℕ) (a b c : J) (taken result : Result (Unit {0}) ServeFault)
      → (result ≡ taken) ⊎ (result ≡ Err fault_of.Write) → OnOk taken (Records g keeps replies site limit stretch a b after left held)
      → LetsOut g (g.noted b) b c → g.contents c ≡ g.contents b → Grows (g.noted b) (g.noted c) []
      → (g.is_open b → result ≢ Err fault_of.Write → IsSettled g c) → OnOk result (Records g keeps replies site limit stretch a c after left held)
  chunk_records site after limit left stretch held a b c taken result which records out same noted settled =
      elim which [
        | inl e ↦ rw e (records_let_out site after limit left stretch held a b c taken records out same noted
            (λ up other. (settled up (subst (λ r. r ≢ Err fault_of.Write) (sym e) other)).opened))
        | inr e ↦ rw e tt
      ]

  pub chunk_halts : (site after : X) (limit left : ℕ) (stretch : List ℕ) (a b c : J) (taken result : Result (Unit {0}) ServeFault)
      → (result ≡ taken) ⊎ (result ≡ Err fault_of.Write)
      → IfErr taken (λ e. e ≢ fault_of.Write → Halts g keeps replies site limit stretch a b after left e) → LetsOut g (g.noted b) b c
      → g.contents c ≡ g.contents b → Grows (g.noted b) (g.noted c) [] → (g.is_open b → result ≢ Err fault_of.Write → IsSettled g c)
      → IfErr result (λ e. e ≢ fault_of.Write → Halts g keeps replies site limit stretch a c after left e)
  chunk_halts site after limit left stretch a b c taken result which halts out same noted settled =
      elim which [
        | inl e ↦ rw e (halts_let_out site after limit left stretch a b c taken halts out same noted
            (λ up other. (settled up (subst (λ r. r ≢ Err fault_of.Write) (sym e) other)).opened))
        | inr e ↦ rw e (λ other. absurd (other refl))
      ]

  pub chunk_fails : (site after : X) (limit left : ℕ) (stretch held : List ℕ) (a b c : J) (taken : Result (Unit {0}) ServeFault)
      → OnOk taken (Records g keeps replies site limit stretch a b after left held)
      → (IsErrOf taken fault_of.Write → Fails g keeps replies site limit stretch a b after)
      → IfErr taken (λ e. e ≢ fault_of.Write → Halts g keeps replies site limit stretch a b after left e)
      → (IsErrOf taken fault_of.Write → c ≡ b) → left ≢ limit → LetsOut g (g.noted b) b c → g.contents c ≡ g.contents b
      → Fails g keeps replies site limit stretch a c after
  chunk_fails site after limit left stretch held a b c (Ok x) records fails halts kept some out same =
      Fails-let_out g keeps replies site after limit left stretch held a b c records some out same
  chunk_fails site after limit left stretch held a b c (Err fault_of.Write) records fails halts kept some out same = rw (kept refl) (fails refl)
  chunk_fails site after limit left stretch held a b c (Err fault_of.Read) records fails halts kept some out same = absurd (halts (λ e. absurd (cc))).2
  chunk_fails site after limit left stretch held a b c (Err fault_of.TooMuchInput) records fails halts kept some out same =
      let h = halts (λ e. absurd (cc)) in Fails-let_out g keeps replies site after limit left stretch h.0 a b c h.1 some out same
  chunk_fails site after limit left stretch held a b c (Err fault_of.OutOfMemory) records fails halts kept some out same =
      let h = halts (λ e. absurd (cc)) in Fails-let_out g keeps replies site after limit left stretch h.0 a b c h.1 some out same

  -- the journal stays open while the lines of a chunk are carried out
  opened_after : (site after : X) (limit left : ℕ) (stretch held : List ℕ) (a b : J) (taken : Result (Unit {0}) ServeFault)
      → OnOk taken (Records g keeps replies site limit stretch a b after left held)
      → IfErr taken (λ e. e ≢ fault_of.Write → Halts g keeps replies site limit stretch a b after left e)
      → taken ≢ Err fault_of.Write → g.is_open a → g.is_open b
  opened_after site after limit left stretch held a b (Ok x) records halts other up = records.stays up
  opened_after site after limit left stretch held a b (Err e) records halts other up = (halts (λ is. other (ap Err is))).1.stays up

  pub chunk_settled : (site after : X) (limit left : ℕ) (stretch held : List ℕ) (a b c : J) (taken result : Result (Unit {0}) ServeFault)
      → (result ≡ taken) ⊎ (result ≡ Err fault_of.Write) → OnOk taken (Records g keeps replies site limit stretch a b after left held)
      → IfErr taken (λ e. e ≢ fault_of.Write → Halts g keeps replies site limit stretch a b after left e)
      → (g.is_open b → result ≢ Err fault_of.Write → IsSettled g c) → result ≢ Err fault_of.Write → IsSettled g a → IsSettled g c
  chunk_settled site after limit left stretch held a b c taken result which records halts settled other start =
      elim which [
        | inl e ↦ settled (opened_after site after limit left stretch held a b taken records halts
            (subst (λ r. r ≢ Err fault_of.Write) e other) start.opened) other
        | inr e ↦ absurd (other e)
      ]
