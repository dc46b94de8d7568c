-- What a crash leaves is whole, and what it cannot leave is not.
use Rattle.std.proofs.Common.{◌≡◌, ◌≢◌, ℕ, zero, suc, ◌+◌, ◌<◌, ◌≤◌, List, length, slice_index, IsTrue, inl, inr, sym, ap, ap₂, ◌∙◌, subst, arith, refl, if◌then◌else◌, ◌==◌}
use Rattle.std.proofs.lemmas.Bool.{cases_eq, cases_lt, cond-true, cond-false, eq-eqb, ne_eqb}
use Rattle.sqlite_wal.specs.Format.{be32, commit_size, IsSigned}
use Rattle.sqlite_wal.specs.Gate.{Beside}
use Rattle.sqlite_wal.specs.Index.{Shares}
use Rattle.sqlite_wal.specs.Recovery.{frame_at, frame, header, Passes, IsValid, IsCommitted, Replays}
use Rattle.sqlite_wal.proofs.PartLemmas.{slice_index-part, frames_len-le}
use Rattle.sqlite_wal.proofs.RecoveryLemmas.{Shares-torn, IsValid-shares, IsCommitted-shares, last_at_invalid, invalid_at_shut, passes_of, replays_once, committed_within}
use Rattle.log_tails.specs.declared.tail.Tail.{Tail}
use Rattle.log_tails.specs.Tails.{shut_by, commit_in, commits_in, IsBegun, IsShutAfter, IsWhole, IsTailOf, IsCommittedTo}

shut_differs : (key : ℕ) → shut_by key ≢ key
shut_differs key same = elim (cases_eq key 0) [
  | inl none ↦ omega (arith, sym (cond-true _ _ _ (eq-eqb key 0 none)) ∙ same, none)
  | inr some ↦ some (sym same ∙ cond-false _ _ _ (ne_eqb key 0 some))
]

salt_at : (log : List ℕ) → slice_index (header log) 16 ≡ slice_index log 16
salt_at log = slice_index-part log 0 32 16 (omega arith)

-- the gate of a frame that passes is open
open_gate : (page_size : ℕ) (log : List ℕ) (i : ℕ) → Passes page_size log i → slice_index log (frame_at page_size i + 8) ≡ slice_index log 16
open_gate page_size log i passes =
    let ours = slice_index-part log (frame_at page_size i) (24 + page_size) 8 (omega arith) in
    let first = slice_index-part (frame page_size log i) 8 8 0 (omega arith) in
    let theirs = slice_index-part (header log) 16 8 0 (omega arith) in
    sym ours ∙ sym first ∙ ap (λ (b : List ℕ). slice_index b 0) passes.passes.salt ∙ theirs ∙ salt_at log

not_shut : (page_size : ℕ) (log : List ℕ) (i : ℕ) → slice_index log (frame_at page_size i + 8) ≡ slice_index log 16 → ¬ IsShutAfter page_size log i
not_shut page_size log i open' shut = shut_differs _ (sym shut.shut ∙ open')

-- ---- what a crash leaves

invalid_after : (page_size : ℕ) (log : List ℕ) (k : ℕ) → IsShutAfter page_size log k → ¬ Passes page_size log k
invalid_after page_size log k shut passes = not_shut page_size log k (open_gate page_size log k passes) shut

-- a log whose frames end at its k-th is read to there
read_to : (page_size : ℕ) (log : List ℕ) (k : ℕ) (tail : Tail) → IsCommitted page_size log k → ¬ Passes page_size log k → IsWhole page_size log k → 41 ≤ length log
    → IsTailOf log tail → IsCommittedTo page_size log k tail
read_to page_size log k tail committed ends whole long (inl unread) =
    elim unread.unsigned [ inl short ↦ absurd (omega (arith, short, long)) | inr unsigned ↦ absurd (unsigned committed.head.signed) ]
read_to page_size log k tail committed ends whole long (inr read) =
    let size : read.page_size ≡ page_size = sym read.size ∙ committed.head.size in
    let replays : Replays page_size log read.frames = subst (λ (s : ℕ). Replays s log read.frames) size read.replays in
    let same : read.frames ≡ k = replays_once page_size log _ k replays (inr (committed, last_at_invalid page_size log k ends)) in
    record {
      whole = read.whole.1 (subst (λ (s : ℕ). IsWhole s log read.frames) (sym size) (subst (IsWhole page_size log) (sym same) whole));
      commits = read.commits ∙ ap₂ (λ (s n : ℕ). commits_in s log n) size same;
      bytes = read.bytes ∙ ap₂ frame_at size same;
    }

pub sound_log : (page_size k : ℕ) (log : List ℕ) (tail : Tail) → IsCommitted page_size log k → length log ≡ frame_at page_size k → IsTailOf log tail → IsTrue tail.is_whole
sound_log page_size k log tail committed ends (inl unread) =
    elim unread.unsigned [ inl short ↦ unread.whole.1 (inl short) | inr unsigned ↦ absurd (unsigned committed.head.signed) ]
sound_log page_size k log tail committed ends (inr read) =
    let size : read.page_size ≡ page_size = sym read.size ∙ committed.head.size in
    let replays : Replays page_size log read.frames = subst (λ (s : ℕ). Replays s log read.frames) size read.replays in
    let past : ¬ Passes page_size log k = λ passes. omega (arith, passes.within, ends) in
    let same : read.frames ≡ k = replays_once page_size log _ k replays (inr (committed, last_at_invalid page_size log k past)) in
    read.whole.1 (inl (omega (arith, ends, ap₂ frame_at size same)))

pub shut_log : (page_size k : ℕ) (log : List ℕ) (tail : Tail) → IsCommitted page_size log k → IsShutAfter page_size log k → IsTailOf log tail → IsCommittedTo page_size log k tail
shut_log page_size k log tail committed shut =
    read_to page_size log k tail committed (invalid_after page_size log k shut) (inr shut) (omega (arith, shut.within))

commits-shares : (page_size k : ℕ) (old new : List ℕ) → ((i : ℕ) → i < k → frame page_size new i ≡ frame page_size old i) → commits_in page_size new k ≡ commits_in page_size old k
unfolding commits_in
commits-shares page_size zero old new same = refl
commits-shares page_size (suc i) old new same =
    ap₂ (λ (a b : ℕ). a + b)
    (commits-shares page_size i old new (λ j low. same j (omega arith)))
    (ap (λ (b : List ℕ). if commit_size b == 0 then 0 else 1) (same i (omega arith)))

pub torn_log : (page_size k at n : ℕ) (old new : List ℕ) (tail : Tail) → IsCommitted page_size old k → IsShutAfter page_size old k
    → frame_at page_size k ≤ at → Beside at n (frame_at page_size k + 8) old new → IsTailOf new tail → IsCommittedTo page_size old k tail
torn_log page_size k at n old new tail committed shut past beside is =
    let shares = Shares-torn page_size k at n old new committed past beside.torn in
    let salt : slice_index new 16 ≡ slice_index old 16 = beside.torn.below 16 (omega (arith, shut.within)) (omega arith) in
    let after : IsShutAfter page_size new k = record {
      within = omega (arith, shut.within, beside.torn.no_shorter);
      shut = beside.kept shut.within ∙ shut.shut ∙ ap shut_by (sym salt);
    } in
    let found = shut_log page_size k new tail (IsCommitted-shares page_size k old new shares committed) after is in
    record { whole = found.whole; commits = found.commits ∙ commits-shares page_size k old new shares.frames; bytes = found.bytes }

-- ---- what a crash cannot leave

damaged_at : (page_size i : ℕ) (log : List ℕ) (tail : Tail) → IsSigned (header log) → be32 (header log) 8 ≡ page_size → 41 ≤ length log
    → ((j : ℕ) → j < i → IsValid page_size log j) → ¬ Passes page_size log i → frame_at page_size i < length log → ¬ IsShutAfter page_size log i
    → IsTailOf log tail → ¬ IsTrue tail.is_whole
damaged_at page_size i log tail signed size long before fails within open' (inl unread) claim =
    elim unread.unsigned [ inl short ↦ omega (arith, short, long) | inr unsigned ↦ unsigned signed ]
damaged_at page_size i log tail signed size long before fails within open' (inr read) claim =
    let same : read.page_size ≡ page_size = sym read.size ∙ size in
    let replays : Replays page_size log read.frames = subst (λ (s : ℕ). Replays s log read.frames) same read.replays in
    let few : read.frames ≤ i = elim (cases_lt i read.frames) [
      | inl low ↦ elim replays [
        | inl none ↦ absurd (omega (arith, none.1, low))
        | inr taken ↦ absurd (fails (passes_of (taken.0.valid i low)))
      ]
      | inr high ↦ omega arith
    ] in
    let whole : IsWhole page_size log read.frames = subst (λ (s : ℕ). IsWhole s log read.frames) same (read.whole.0 claim) in
    elim whole [
      | inl none ↦ omega (arith, none, within, frames_len-le page_size read.frames i few)
      | inr shut ↦ elim (cases_eq read.frames i) [
        | inl here ↦ open' (subst (IsShutAfter page_size log) here shut)
        | inr other ↦ not_shut page_size log read.frames (open_gate page_size log read.frames (passes_of (before read.frames (omega arith)))) shut
      ]
    ]

module _ (page_size k i : ℕ) (old new : List ℕ) (committed : IsCommitted page_size old k) (low : i < k) (head : header new ≡ header old)
    (frames : (j : ℕ) → j < i → frame page_size new j ≡ frame page_size old j) (within : frame_at page_size i < length new) where
  before : (j : ℕ) → j < i → IsValid page_size new j
  before j less =
      let shares : Shares page_size i old new = record { long = omega arith; within = omega arith; head = head; frames = frames } in
      IsValid-shares page_size i old new j shares less (committed.valid j (omega arith))

  signed : IsSigned (header new)
  signed = subst IsSigned (sym head) committed.head.signed

  size : be32 (header new) 8 ≡ page_size
  size = ap (λ (b : List ℕ). be32 b 8) head ∙ committed.head.size

  still_open : slice_index new (frame_at page_size i + 8) ≡ slice_index old (frame_at page_size i + 8) → ¬ IsShutAfter page_size new i
  still_open kept =
      let salt : slice_index old 16 ≡ slice_index new 16 = sym (salt_at old) ∙ ap (λ (b : List ℕ). slice_index b 16) (sym head) ∙ salt_at new in
      not_shut page_size new i (kept ∙ open_gate page_size old i (passes_of (committed.valid i low)) ∙ salt)

pub changed_log : (page_size k i : ℕ) (old new : List ℕ) (tail : Tail) → IsCommitted page_size old k → i < k → header new ≡ header old
    → ((j : ℕ) → j < i → frame page_size new j ≡ frame page_size old j)
    → slice_index new (frame_at page_size i + 8) ≡ slice_index old (frame_at page_size i + 8)
    → frame_at page_size i + 8 < length new → ¬ Passes page_size new i → IsTailOf new tail → ¬ IsTrue tail.is_whole
changed_log page_size k i old new tail committed low head frames kept within fails =
    let inside : frame_at page_size i < length new = omega arith in
    damaged_at page_size i new tail
    (signed page_size k i old new committed low head frames inside)
    (size page_size k i old new committed low head frames inside)
    (omega arith)
    (before page_size k i old new committed low head frames inside)
    fails inside
    (still_open page_size k i old new committed low head frames inside kept)

pub cut_log : (page_size k i : ℕ) (old new : List ℕ) (tail : Tail) → IsCommitted page_size old k → i < k → header new ≡ header old
    → ((j : ℕ) → j < i → frame page_size new j ≡ frame page_size old j)
    → 41 ≤ length new → frame_at page_size i < length new → length new ≤ frame_at page_size i + 8 → IsTailOf new tail → ¬ IsTrue tail.is_whole
cut_log page_size k i old new tail committed low head frames long within short =
    damaged_at page_size i new tail
    (signed page_size k i old new committed low head frames within)
    (size page_size k i old new committed low head frames within)
    long
    (before page_size k i old new committed low head frames within)
    (λ passes. omega (arith, passes.within, short))
    within
    (λ shut. omega (arith, shut.within, short))
