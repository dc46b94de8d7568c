-- How one frame's part goes on.
use Rattle.std.proofs.Common.{arith, inl, inr, ◌+◌, length, ◌≡◌, ◌∙◌, ℕ, Bool, true, false, List, [], ◌∷◌, ◌++◌, Result, Ok, Err, refl, sym, ap, append_assoc, append-nil, flat_map}
use Rattle.std.specs.Prelude.{◌||◌, ◌==◌, All, OnOk, IsErr, if◌then◌else◌}
use Rattle.std.proofs.lemmas.Bool.{cases_Bool}
use Rattle.std.proofs.lemmas.Grind.{common_steps, flat_map-append}
use Rattle.std.proofs.lemmas.List.{length-append}
use Rattle.std.proofs.lemmas.List.Elements.{All-head, All-nil, All-push, All-tail}
use Rattle.http.specs.declared.request.Request.{Request}
use Rattle.http_streams.specs.Losses.{StopsAtALoss}
use Rattle.http_server.specs.declared.connection.Connection.{Connection}
use Rattle.http_server.specs.declared.response.Response.{Response}
use Rattle.http_server.specs.Connection.{config_of, history}
use Rattle.http_server.specs.Exchange.{Call, Calls}
use Rattle.http_server.specs.History.{History, IsQuiet, after_read}
use Rattle.http_server.specs.Rounds.{Round, Rounds, all_of, kept_of}
use Rattle.http_server.proofs.RoundLemmas.{all_of-push, kept_of-push_lost, Rounds-push, IsCleared-itself}
use Rattle.http_streams.specs.Deeds.{piece_bytes, pieces_bytes}
use Rattle.http_streams.specs.Part.{IsPart}

-- ---- losses

abbrev pub IsKept : Round Call → Type 0
IsKept r = r.1 ≡ true

pub stops_nowhere : (rounds : List (Round Call)) → All IsKept rounds → StopsAtALoss rounds
stops_nowhere [] kept = tt
stops_nowhere (r ∷ rounds) kept = (inl (All-head IsKept r rounds kept), stops_nowhere rounds (All-tail IsKept r rounds kept))

stops_at_last : (rounds : List (Round Call)) (last : Round Call) → All IsKept rounds → StopsAtALoss (rounds ++ last ∷ [])
stops_at_last [] last kept = (inr refl, tt)
stops_at_last (r ∷ rounds) last kept = (inl (All-head IsKept r rounds kept), stops_at_last rounds last (All-tail IsKept r rounds kept))

pub all_kept : (rounds : List (Round Call)) → All IsKept rounds → kept_of rounds ≡ all_of rounds
all_kept [] kept = refl
all_kept ((calls, true) ∷ rounds) kept = ap (λ l. calls ++ l) (all_kept rounds (All-tail IsKept (calls, true) rounds kept))
all_kept ((calls, false) ∷ rounds) kept = let bad : false ≡ true = All-head IsKept (calls, false) rounds kept in absurd (cc)

-- what holds anyway holds of every success, and of an error anything
pub on_any_ok : {A E X : Type 0} (r : Result A E) → X → OnOk r X
on_any_ok (Ok a) x = x
on_any_ok (Err e) x = tt

pub on_no_ok : {A E : Type 0} (X : Type 0) (r : Result A E) → IsErr r → OnOk r X
on_no_ok X (Ok a) is = absurd (cc)
on_no_ok X (Err e) is = tt

-- ---- the end of what a client sends

-- a first read of a frame, of n bytes of m
pub first_read : (was : Bool) (n m : ℕ) → (was ≡ false → (n == 0) ≡ (m == 0)) → (if was then was else (n == 0)) ≡ (was || m == 0)
first_read true n m same = refl
first_read false n m same = same refl

-- a later one finds some bytes
pub later_read : (was : Bool) (n : ℕ) → (n == 0) ≡ false → (if was then was else (n == 0)) ≡ was
later_read true n some = refl
later_read false n some = some

-- or none, though there were some
pub last_read : (before was : Bool) (bytes taken rest more left : List ℕ) → was ≡ (before || length bytes == 0) → bytes ≡ taken ++ rest
    → (length rest == 0) ≡ false → rest ≡ more ++ left → length more ≡ 0 → (was ≡ false → left ≡ [])
    → ((if was then was else (length more == 0)) ≡ (before || length bytes == 0)) × (before ≡ false → left ≡ [])
last_read true true bytes taken rest more left is cut some rests none end = (is, λ bad. absurd (cc))
last_read false true bytes taken rest more left is cut some rests none end =
    let sizes : length bytes ≡ length taken + length rest = ap length cut ∙ length-append taken rest in
    (is, λ no. absurd (grind (arith, common_steps, is, sizes, some)))
last_read before false bytes taken rest more left is cut some rests none end =
    let gone = end refl in
    let sizes : length rest ≡ length more + length left = ap length rests ∙ length-append more left in
    let zero : length left ≡ 0 = ap length gone in
    absurd (grind (arith, common_steps, sizes, zero, none, some))

-- how a first read of n bytes leaves the connection
pub first_ended : (n : ℕ) (was now : Bool) (more bytes left : List ℕ) → length more ≡ n → bytes ≡ more ++ left
    → now ≡ (if was then was else (length more == 0)) → (n ≡ 0 → was ≡ false → left ≡ []) → now ≡ (was || length bytes == 0)
first_ended n was now more bytes left count cut is end =
    let sizes : length bytes ≡ length more + length left = ap length cut ∙ length-append more left in
    is ∙ first_read was (length more) (length bytes) (λ open_before. elim (cases_Bool (length more == 0)) [
      | inl none ↦
          let zero : n ≡ 0 = grind (arith, common_steps, none, count) in
          let gone : length left ≡ 0 = ap length (end zero open_before) in
          grind (arith, common_steps, none, sizes, gone)
      | inr some ↦ grind (arith, common_steps, some, sizes)
    ])

pub nil_of : (l : List ℕ) → (length l == 0) ≡ true → l ≡ []
nil_of [] is = refl
nil_of (x ∷ l) is = absurd (grind (arith, common_steps, is))

-- ---- parts

module _ {S : Type 0} (answers : S → Request (List ℕ) → Response → S → Type 0) (settles : S → Bool → S → Type 0) (number : ℕ) (bytes : List ℕ)
    (old : Connection) (before : S) (out_before : List ℕ) where
  -- all rounds so far were committed, and this is left of the bytes
  pub record IsGoing (new : Connection) (after : S) (out : List ℕ) (rest : List ℕ) : Type 0 where
    pub taken : List ℕ
    pub rounds : List (Round Call)
    pub pieces : List (List ℕ)
    pub cut : bytes ≡ taken ++ rest
    pub received : (history new).received ≡ (history old).received ++ taken
    pub sent : (history new).sent ≡ (history old).sent ++ flat_map (λ piece. piece) pieces
    pub calls : (history new).calls ≡ (history old).calls ++ all_of rounds
    pub output : out ≡ out_before ++ pieces_bytes number pieces
    pub served : Rounds answers settles before rounds after
    pub kept : All IsKept rounds
    pub config : config_of new ≡ config_of old

  -- nothing has happened
  pub untouched : (b : Connection) → history b ≡ history old → config_of b ≡ config_of old → IsGoing b before out_before bytes
  untouched b same config = record {
    taken = [];
    rounds = [];
    pieces = [];
    cut = refl;
    received = ap (λ (h : History). h.received) same ∙ sym (append-nil _);
    sent = ap (λ (h : History). h.sent) same ∙ sym (append-nil _);
    calls = ap (λ (h : History). h.calls) same ∙ sym (append-nil _);
    output = sym (append-nil _);
    served = refl;
    kept = All-nil IsKept;
    config = config;
  }

  -- a read that failed or found nothing changes nothing
  pub stays : (a b : Connection) (s : S) (out rest : List ℕ) → IsGoing a s out rest → history b ≡ history a → config_of b ≡ config_of a
      → IsGoing b s out rest
  stays a b s out rest i same config = record {
    taken = i.taken;
    rounds = i.rounds;
    pieces = i.pieces;
    cut = i.cut;
    received = ap (λ (h : History). h.received) same ∙ i.received;
    sent = ap (λ (h : History). h.sent) same ∙ i.sent;
    calls = ap (λ (h : History). h.calls) same ∙ i.calls;
    output = i.output;
    served = i.served;
    kept = i.kept;
    config = config ∙ i.config;
  }

  -- bytes are read
  pub reads : (a b : Connection) (s : S) (out rest left more : List ℕ) → IsGoing a s out rest → rest ≡ more ++ left
      → history b ≡ after_read (history a) more → config_of b ≡ config_of a → IsGoing b s out left
  reads a b s out rest left more i cut read config = record {
    taken = i.taken ++ more;
    rounds = i.rounds;
    pieces = i.pieces;
    cut = i.cut ∙ ap (λ l. i.taken ++ l) cut ∙ sym (append_assoc i.taken more left);
    received = ap (λ (h : History). h.received) read ∙ ap (λ l. l ++ more) i.received ∙ append_assoc (history old).received i.taken more;
    sent = ap (λ (h : History). h.sent) read ∙ i.sent;
    calls = ap (λ (h : History). h.calls) read ∙ i.calls;
    output = i.output;
    served = i.served;
    kept = i.kept;
    config = config ∙ i.config;
  }

  -- a round is made and committed
  pub commits : (a b : Connection) (s called next : S) (out rest : List ℕ) → IsGoing a s out rest → Calls answers s called (history a).calls (history b).calls
      → settles called true next → IsQuiet (history a) (history b) → config_of b ≡ config_of a → IsGoing b next out rest
  commits a b s called next out rest i more settled quiet config = record {
    taken = i.taken;
    rounds = i.rounds ++ (more.0, true) ∷ [];
    pieces = i.pieces;
    cut = i.cut;
    received = quiet.0 ∙ i.received;
    sent = quiet.2 ∙ i.sent;
    calls = more.1 ∙ ap (λ l. l ++ more.0) i.calls ∙ append_assoc (history old).calls (all_of i.rounds) more.0
        ∙ ap (λ l. (history old).calls ++ l) (sym (all_of-push i.rounds more.0 true));
    output = i.output;
    served = Rounds-push answers settles i.rounds (more.0, true) before s called next i.served more.2 settled;
    kept = All-push IsKept i.rounds (more.0, true) i.kept refl;
    config = config ∙ i.config;
  }

  -- pieces are sent
  pub sends : (a b : Connection) (s : S) (out new rest : List ℕ) (more : List (List ℕ)) → IsGoing a s out rest
      → (history b).sent ≡ (history a).sent ++ flat_map (λ piece. piece) more → new ≡ out ++ pieces_bytes number more
      → (history b).received ≡ (history a).received → (history b).calls ≡ (history a).calls → config_of b ≡ config_of a → IsGoing b s new rest
  sends a b s out new rest more i sent output received calls config = record {
    taken = i.taken;
    rounds = i.rounds;
    pieces = i.pieces ++ more;
    cut = i.cut;
    received = received ∙ i.received;
    sent = sent ∙ ap (λ l. l ++ flat_map (λ piece. piece) more) i.sent
        ∙ append_assoc (history old).sent (flat_map (λ piece. piece) i.pieces) (flat_map (λ piece. piece) more)
        ∙ ap (λ l. (history old).sent ++ l) (sym (flat_map-append (λ piece. piece) i.pieces more));
    calls = calls ∙ i.calls;
    output = output ∙ ap (λ l. l ++ pieces_bytes number more) i.output
        ∙ append_assoc out_before (pieces_bytes number i.pieces) (pieces_bytes number more)
        ∙ ap (λ l. out_before ++ l) (sym (flat_map-append (piece_bytes number) i.pieces more));
    served = i.served;
    kept = i.kept;
    config = config ∙ i.config;
  }

  -- it ends, however that is told
  pub ends : {E : Type 0} (a : Connection) (s : S) (out rest : List ℕ) (result : Result (Unit {0}) E) → IsGoing a s out rest
      → OnOk result (((history a).ended ≡ ((history old).ended || length bytes == 0)) × ((history old).ended ≡ false → rest ≡ []))
      → IsPart answers settles number bytes old a before s out_before out result
  ends a s out rest result i all = record {
    taken = i.taken;
    left = rest;
    rounds = i.rounds;
    pieces = i.pieces;
    cut = i.cut;
    received = i.received;
    sent = i.sent;
    calls = i.calls;
    output = i.output;
    served = i.served;
    stops = stops_nowhere i.rounds i.kept;
    kept = on_any_ok result i.kept;
    all = all;
    cleared = IsCleared-itself ((history old).calls ++ kept_of i.rounds) a (i.calls ∙ ap (λ l. (history old).calls ++ l) (sym (all_kept i.rounds i.kept)));
    config = i.config;
  }

  -- a round is made that is not committed
  pub loses : {E : Type 0} (a b : Connection) (s called next : S) (out rest : List ℕ) (result : Result (Unit {0}) E) → IsErr result → IsGoing a s out rest
      → Calls answers s called (history a).calls (history b).calls → settles called false next → IsQuiet (history a) (history b)
      → config_of b ≡ config_of a → IsPart answers settles number bytes old b before next out_before out result
  loses a b s called next out rest result failed i more settled quiet config = record {
    taken = i.taken;
    left = rest;
    rounds = i.rounds ++ (more.0, false) ∷ [];
    pieces = i.pieces;
    cut = i.cut;
    received = quiet.0 ∙ i.received;
    sent = quiet.2 ∙ i.sent;
    calls = more.1 ∙ ap (λ l. l ++ more.0) i.calls ∙ append_assoc (history old).calls (all_of i.rounds) more.0
        ∙ ap (λ l. (history old).calls ++ l) (sym (all_of-push i.rounds more.0 false));
    output = i.output;
    served = Rounds-push answers settles i.rounds (more.0, false) before s called next i.served more.2 settled;
    stops = stops_at_last i.rounds (more.0, false) i.kept;
    kept = on_no_ok (All IsKept (i.rounds ++ (more.0, false) ∷ [])) result failed;
    all = on_no_ok _ result failed;
    cleared = record {
      earlier = a;
      config = sym config;
      calls = i.calls ∙ ap (λ l. (history old).calls ++ l) (sym (all_kept i.rounds i.kept) ∙ sym (kept_of-push_lost i.rounds more.0));
      received = ([], quiet.0 ∙ sym (append-nil (history a).received));
      sent = quiet.2;
    };
    config = config ∙ i.config;
  }
