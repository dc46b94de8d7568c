-- What a log is left as, however its calls end.
use Rattle.std.proofs.Common.{◌≡◌, ◌≤◌, inl, inr, ℕ, List, [], ◌∷◌, ◌++◌, true, false, Ok, Err, Result, OnOk, IfErr, map, length, ◌<◌, refl, sym, ap}
use Rattle.std.proofs.Common.{subst, ◌∙◌, true≢false, length-append, arith}
use Rattle.std.proofs.Common.{zero, suc, ◌+◌, ℤ, pos, negsuc, ◌+ℤ◌, take, Contains}
use Rattle.std.proofs.lemmas.Bool.Decides.{nat_tests}
use Rattle.sha2.specs.Sha256.{sha256}
use Rattle.std.proofs.Common.{get_or, drop, ◌-◌}
use Rattle.std.proofs.lemmas.List.Elements.{Contains-get_or}
use Rattle.std.proofs.lemmas.List.{length-take, length-map, get_or-map}
use Rattle.std.proofs.Math.Seq.{take-length}
use Rattle.sqlite_sql.specs.Ops.{fits_i64}
use Rattle.sqlite_rules.specs.Edit.{next_rowid}
use Rattle.command_log.specs.declared.fault.LogFault.{LogFault}
use Rattle.command_log.specs.declared.fault.LogFault.TheVariants as fault
use Rattle.sqlite.specs.Order.{Row}
use Rattle.command_log.specs.Lines.{rows_of, line_in, digest_in}
use Rattle.command_log.specs.Faults.{Unstorable, IsTooLong}
use Rattle.std.proofs.lemmas.Int.{ints}
use Rattle.std.proofs.lemmas.Bool.{cases_Bool}
use Rattle.std.proofs.lemmas.List.{append_assoc}
use Rattle.std.specs.Prelude.{IsTrue, IsErrAnd}
use Rattle.sqlite.specs.Tree.{Trees}
use Rattle.sqlite_trees.specs.View.{doubt}
use Rattle.sqlite_trees.proofs.Doubt.{no_doubt}
use Rattle.sqlite.specs.Store.{Ghosts}
use Rattle.sqlite.specs.Effect.{Database, IsDatabase}
use Rattle.sqlite.specs.State.{State, HasCleanDisk, IsUnchanged, KeepsCommit, IsRolledBack, Shows, KeepsCounts, Survives}
use Rattle.sqlite.proofs.StateLemmas.{survives_then}
use Rattle.sqlite.proofs.Callers.{survives_begin}
use Rattle.sqlite.specs.Steps.{FailsToCommit}
use Rattle.sqlite.specs.Held.{Held, state}
use Rattle.sqlite.specs.declared.error.Error.{Error}
use Rattle.command_log.specs.Table.{log_schema}
use Rattle.command_log.specs.Digests.{digest_after, digests_after}
use Rattle.command_log.proofs.Digests.{digests_more}
use Rattle.command_log.specs.Lines.{HoldsLog, HoldsTable, KeepsLines, IsOpen, IsIdle, IsLog, IsTabled, AreSealed, Puts, PutsAny, PutsAt, HasRoom, lines_of, lines_in}

-- what lines can't be stored for, if each of the two causes is carried over
stops_so : (rows rows' : List Row) (lines lines' : List (List ℕ)) → (Unstorable rows lines fault.TooBig → Unstorable rows' lines' fault.TooBig)
    → (Unstorable rows lines fault.NumbersUsedUp → Unstorable rows' lines' fault.NumbersUsedUp) → (f : LogFault) → Unstorable rows lines f
    → Unstorable rows' lines' f
stops_so rows rows' lines lines' big used fault.TooBig h = big h
stops_so rows rows' lines lines' big used fault.NumbersUsedUp h = used h
stops_so rows rows' lines lines' big used fault.NotALog h = h
stops_so rows rows' lines lines' big used (fault.DamagedTail m n) h = h
stops_so rows rows' lines lines' big used fault.OlderLog h = h
stops_so rows rows' lines lines' big used fault.OutOfMemory h = h
stops_so rows rows' lines lines' big used fault.Busy h = h
stops_so rows rows' lines lines' big used fault.CannotOpen h = h
stops_so rows rows' lines lines' big used fault.Damaged h = h
stops_so rows rows' lines lines' big used fault.DiskFull h = h
stops_so rows rows' lines lines' big used fault.Disk h = h
stops_so rows rows' lines lines' big used fault.Shut h = h
stops_so rows rows' lines lines' big used fault.NotText h = h
stops_so rows rows' lines lines' big used fault.Interrupted h = h
stops_so rows rows' lines lines' big used fault.Store h = h
stops_so rows rows' lines lines' big used (fault.Altered n) h = h

module _ {S : Type 0} (g : Ghosts S) where
  -- the law that a store which is not clean shows as shut
  abbrev pub ShutsIfDirty : Type 0
  ShutsIfDirty = (s : S) → (g.view s).is_clean ≡ false → (g.view s).is_open ≡ false

  -- so the disk of an open connection has returned what was written
  pub clean_of : ShutsIfDirty → (h : Held S) → IsOpen g h → HasCleanDisk (state g h)
  clean_of law h up = elim (cases_Bool (g.view h.store).is_clean) [
    | inl clean ↦ no_doubt (g.view h.store).is_clean clean
    | inr dirty ↦ absurd (true≢false (sym up ∙ law h.store dirty))
  ]

  -- ---- what is left where nothing is committed

  -- what is committed and shown is what it was
  pub record IsKept (old new : Held S) : Type 0 where
    pub was_open : IsOpen g new → IsOpen g old
    pub now : IsOpen g new → (state g new).now ≡ (state g old).now
    pub committed : IsOpen g new → (state g new).committed ≡ (state g old).committed
    pub autocommit : new.in_transaction ≡ false

  -- a log is the table of one
  pub tabled : (h : Held S) → IsLog g h → IsTabled g h
  tabled h log = record { idle = log.idle; holds = λ up. (log.holds up).table }

  -- it is the table that it was
  pub kept_table : (old new : Held S) → IsTabled g old → IsKept old new → IsTabled g new
  kept_table old new log kept = record {
    idle = record { autocommit = kept.autocommit; settled = λ up. kept.committed up ∙ log.idle.settled (kept.was_open up) ∙ sym (kept.now up) };
    holds = λ up. subst HoldsTable (sym (kept.now up)) (log.holds (kept.was_open up));
  }

  -- it is the log that it was
  pub kept_log : (old new : Held S) → IsLog g old → IsKept old new → IsLog g new
  kept_log old new log kept = record {
    idle = record { autocommit = kept.autocommit; settled = λ up. kept.committed up ∙ log.idle.settled (kept.was_open up) ∙ sym (kept.now up) };
    holds = λ up. subst HoldsLog (sym (kept.now up)) (log.holds (kept.was_open up));
  }

  -- with the lines that it had
  pub kept_lines : (old new : Held S) → IsKept old new → IsOpen g new → lines_of g new ≡ lines_of g old
  kept_lines old new kept up = ap (λ (d : Database). lines_in d.trees) (kept.committed up)

  -- the connection once a transaction has begun
  abbrev pub begun : Held S → Held S
  begun old = record old { in_transaction = true }

  -- a transaction that is rolled back
  pub rolled_back : ShutsIfDirty → (old last end : Held S) → IsIdle g old → doubt (g.view last.store).is_clean ≤ doubt (g.view end.store).is_clean
      → (HasCleanDisk (state g last) → KeepsCommit (state g (begun old)) (state g last)) → end.in_transaction ≡ false
      → (HasCleanDisk (state g end) → IsRolledBack (state g last) (state g end)) → IsKept old end
  rolled_back law old last end idle falls kept ended back =
      let early = λ (clean : HasCleanDisk (state g end)). let it : HasCleanDisk (state g last) = omega (arith, falls, clean) in it in
      let open_last = λ (up : IsOpen g end). (back (clean_of law end up)).was_open up in
      let was = λ (up : IsOpen g end). kept (early (clean_of law end up)) in
      record {
        was_open = λ up. (was up).was_open (open_last up);
        now = λ up. ((back (clean_of law end up)).undone up).0 ∙ (was up).committed (open_last up) ∙ idle.settled ((was up).was_open (open_last up));
        committed = λ up. ((back (clean_of law end up)).undone up).1 ∙ (was up).committed (open_last up);
        autocommit = ended;
      }

  -- a commit that fails
  pub not_committed : (last end : Held S) (e : Error) → last.in_transaction ≡ true → FailsToCommit (state g last) (state g end) e
      → IsRolledBack (state g last) (state g end)
  not_committed last end e inside (inl broke) = broke.3
  not_committed last end e inside (inr late) = absurd (let no_more = late.1 in cc)

  -- ---- one more line

  -- a line after others
  pub puts_more : (old mid new : Held S) (digest : List ℕ) (more : List (List ℕ)) (line : List ℕ) → PutsAny g old mid digest more
      → Puts g mid new (digest_after digest more) (line ∷ []) → Puts g old new digest (more ++ line ∷ [])
  puts_more old mid new digest more line (inl none) one =
      subst (λ l. Puts g mid new (digest_after digest l) (line ∷ []) → Puts g old new digest (l ++ line ∷ [])) (sym none.0)
      (subst (λ h. Puts g h new digest (line ∷ []) → Puts g old new digest (line ∷ [])) (sym none.1) (λ it. it)) one
  puts_more old mid new digest more line (inr put) one = record {
    was_open = put.was_open;
    is_open = one.is_open;
    inside = one.inside;
    holds = one.holds;
    sound = one.sound;
    lines = one.lines ∙ ap (λ l. l ++ line ∷ []) put.lines ∙ append_assoc (lines_in (state g old).now.trees) more (line ∷ []);
    digests = one.digests ∙ ap (λ l. l ++ digests_after (digest_after digest more) (line ∷ [])) put.digests
        ∙ append_assoc (map digest_in (rows_of g old)) (digests_after digest more) (digests_after (digest_after digest more) (line ∷ []))
        ∙ ap (λ l. map digest_in (rows_of g old) ++ l) (sym (digests_more digest more (line ∷ [])));
    next = omega (arith, ints, one.next, put.next, length-append more (line ∷ []));
  }

  -- more lines after the first
  pub puts_rest : (old mid new : Held S) (number : ℤ) (digest line : List ℕ) (rest : List (List ℕ)) → PutsAt g number old mid digest (line ∷ [])
      → PutsAny g mid new (sha256 (digest ++ line)) rest → PutsAt g number old new digest (line ∷ rest)
  puts_rest old mid new number digest line rest one (inl none) =
      subst (λ l. PutsAt g number old new digest (line ∷ l)) (sym none.0) (subst (λ h. PutsAt g number old h digest (line ∷ [])) (sym none.1) one)
  puts_rest old mid new number digest line rest one (inr put) = record {
    was_open = one.was_open;
    is_open = put.is_open;
    inside = put.inside;
    holds = put.holds;
    sound = put.sound;
    lines = put.lines ∙ ap (λ l. l ++ rest) one.lines ∙ append_assoc (lines_in (state g old).now.trees) (line ∷ []) rest;
    digests = put.digests ∙ ap (λ l. l ++ digests_after (sha256 (digest ++ line)) rest) one.digests
        ∙ append_assoc (map digest_in (rows_of g old)) (sha256 (digest ++ line) ∷ []) (digests_after (sha256 (digest ++ line)) rest);
    next = omega (arith, ints, one.next, put.next);
  }

  -- why one of them can't be stored, if the numbers have room
  pub rest_stops : (old mid : Held S) (number : ℤ) (digest line : List ℕ) (rest : List (List ℕ)) → HasRoom number (length (line ∷ rest))
      → PutsAt g number old mid digest (line ∷ []) → (f : LogFault) → Unstorable (rows_of g mid) rest f → Unstorable [] (line ∷ rest) f
  rest_stops old mid (negsuc n) digest line rest room one f h = absurd room
  rest_stops old mid (pos n) digest line rest room one f h =
      stops_so (rows_of g mid) [] rest (line ∷ rest) (λ big. (big.0, (suc big.1.0, omega (arith, big.1.1), big.1.2), big.2)) (λ used. full room used) f h
    where
      full : HasRoom (pos n) (length (line ∷ rest)) → Unstorable (rows_of g mid) rest fault.NumbersUsedUp → Unstorable [] (line ∷ rest) fault.NumbersUsedUp
      full (inl first) used =
          let at : next_rowid (rows_of g mid) +ℤ pos used.0 ≡ pos 1 +ℤ pos (used.0 + 1) = omega (arith, ints, first, one.next) in
          (used.0 + 1, omega (arith, used.1), subst (λ z. fits_i64 z ≡ false) at used.2)
      full (inr room) used =
          let at : next_rowid (rows_of g mid) +ℤ pos used.0 ≡ pos (n + 1 + used.0) = omega (arith, ints, one.next) in
          let low : fits_i64 (pos (n + 1 + used.0)) ≡ true = grind (arith, nat_tests, room, used.1) in
          absurd (true≢false (sym low ∙ sym (ap fits_i64 at) ∙ used.2))

  -- why the first can't be
  pub first_stops : (line : List ℕ) (rest : List (List ℕ)) (f : LogFault) → Unstorable [] (line ∷ []) f → Unstorable [] (line ∷ rest) f
  first_stops line rest = stops_so [] [] (line ∷ []) (line ∷ rest) big (λ used. (used.0, omega (arith, used.1), used.2))
    where
      big : Unstorable [] (line ∷ []) fault.TooBig → Unstorable [] (line ∷ rest) fault.TooBig
      big (x, (zero, within, is), long) = (x, (zero, omega arith, is), long)
      big (x, (suc k, within, is), long) = absurd (omega (arith, within))

  -- a log that was open is open
  pub puts_open : (old now : Held S) (digest : List ℕ) (more : List (List ℕ)) → IsOpen g old → PutsAny g old now digest more → IsOpen g now
  puts_open old now digest more up (inl none) = subst (IsOpen g) (sym none.1) up
  puts_open old now digest more up (inr put) = put.is_open

  -- a list that is not empty has been appended
  pub puts_some : {X : Type 0} (f : X → List ℕ) (xs : List X) (digest : List ℕ) (old new : Held S) → 0 < length xs → PutsAny g old new digest (map f xs)
      → Puts g old new digest (map f xs)
  puts_some f [] digest old new some puts = absurd (omega (arith, some))
  puts_some f (x ∷ xs) digest old new some (inl none) = absurd (let e = none.0 in cc)
  puts_some f (x ∷ xs) digest old new some (inr put) = put

module _ {S : Type 0} (g : Ghosts S) (old mid : Held S) (digest : List ℕ) (lines : List (List ℕ)) (i : ℕ) (low : i < length lines) where
  -- the next number after the first lines
  number_of : PutsAny g old mid digest (take i lines) → next_rowid (rows_of g mid) ≡ next_rowid (rows_of g old) +ℤ pos i
  number_of (inl none) =
      let len : i ≡ 0 = omega (arith, low, length-take i lines, ap length none.0) in
      let same : next_rowid (rows_of g mid) ≡ next_rowid (rows_of g old) = ap (λ h. next_rowid (rows_of g h)) none.1 in
      omega (arith, ints, len, same)
  number_of (inr put) = let len : length (take i lines) ≡ i = omega (arith, low, length-take i lines) in put.next
      ∙ ap (λ n. next_rowid (rows_of g old) +ℤ pos n) len

  -- why one more line is not put, in the words of all of them
  pub more_stops : (line : List ℕ) → Contains lines line → PutsAny g old mid digest (take i lines) → (f : LogFault) → Unstorable (rows_of g mid) (line ∷ []) f
      → Unstorable (rows_of g old) lines f
  more_stops line there puts =
      stops_so (rows_of g mid) (rows_of g old) (line ∷ []) lines (λ big. (line, there, subst IsTooLong (alone big.0 line big.1) big.2)) full
    where
      alone : (x y : List ℕ) → Contains (y ∷ []) x → x ≡ y
      alone x y (zero, within, is) = sym is
      alone x y (suc k, within, is) = absurd (omega (arith, within))

      full : Unstorable (rows_of g mid) (line ∷ []) fault.NumbersUsedUp → Unstorable (rows_of g old) lines fault.NumbersUsedUp
      full used =
          let first : used.0 ≡ 0 = omega (arith, used.1) in
          let same : next_rowid (rows_of g mid) +ℤ pos used.0 ≡ next_rowid (rows_of g old) +ℤ pos i = omega (arith, ints, first, number_of puts) in
          (i, low, subst (λ z. fits_i64 z ≡ false) same used.2)

-- no lines are no rows
pub no_rows : (rows : List Row) → map line_in rows ≡ [] → rows ≡ []
no_rows [] none = refl
no_rows (r ∷ rows) none = cc

-- what follows the first element of a list
abbrev pub rest_of : {X : Type 0} → List X → List X
rest_of xs = take (length xs - 1) (drop 1 xs)

-- a list of one element or more is the first and the rest
pub first_and_rest : {X Y : Type 0} (f : X → Y) (xs : List X) (x : X) → 1 ≤ length xs → x ≡ get_or xs 0 x → map f xs ≡ f x ∷ map f (rest_of xs)
first_and_rest f [] x some is = absurd (omega (arith, some))
first_and_rest f (y ∷ xs) x some is =
    let count : length (y ∷ xs) - 1 ≡ length xs = omega arith in
    ap (λ z. f z ∷ map f xs) (sym is) ∙ ap (λ l. f x ∷ map f l) (sym (ap (λ n. take n xs) count ∙ take-length xs))

-- the image of an element is an element of the image
pub contains_at : {X Y : Type 0} (xs : List X) (f : X → Y) (i : ℕ) (x : X) → i < length xs → x ≡ get_or xs i x → Contains (map f xs) (f x)
contains_at xs f i x low is =
    subst (Contains (map f xs)) (get_or-map f xs i x (f x) low ∙ ap f (sym is))
    (Contains-get_or (map f xs) i (f x) (subst (λ n. i < n) (sym (length-map xs f)) low))

-- what holds of an error that is passed on
pub on_error : {A E : Type 0} (P : E → Type 0) (e : E) → P e → (r : Result A E) → IsErrAnd r (λ x. x ≡ e) → IfErr r P
on_error P e h (Ok a) never = absurd never
on_error P e h (Err x) same = subst P (sym same) h

-- two calls that commit nothing
pub commits_then : (a b c : State) → KeepsCommit a b → KeepsCommit b c → KeepsCommit a c
commits_then a b c one two = record { was_open = λ up. one.was_open (two.was_open up); committed = λ up. two.committed up ∙ one.committed (two.was_open up) }

module _ {S : Type 0} (g : Ghosts S) where
  -- a commit of a log, whatever it was before
  pub settles : ShutsIfDirty g → (last end : Held S) → doubt (g.view last.store).is_clean ≤ doubt (g.view end.store).is_clean
      → (HasCleanDisk (state g last) → HoldsLog (state g last).now)
      → end.in_transaction ≡ false → (HasCleanDisk (state g end) → Shows (state g last) (state g end) (state g last).now (state g last).now false) → IsLog g end
  settles law last end falls holds ended shows =
      let it = λ (up : IsOpen g end). shows (clean_of g law end up) in
      let early = λ (up : IsOpen g end). let e : HasCleanDisk (state g last) = omega (arith, falls, clean_of g law end up) in e in
      record {
        idle = record { autocommit = ended; settled = λ up. (it up).committed_is ∙ sym (it up).now_is };
        holds = λ up. subst HoldsLog (sym (it up).now_is) (holds (early up));
      }

  -- its lines
  pub settled_lines : ShutsIfDirty g → (last end : Held S) (lines : List (List ℕ)) → doubt (g.view last.store).is_clean ≤ doubt (g.view end.store).is_clean
      → (HasCleanDisk (state g last) → lines_in (state g last).now.trees ≡ lines)
      → (HasCleanDisk (state g end) → Shows (state g last) (state g end) (state g last).now (state g last).now false) → IsOpen g end → lines_of g end ≡ lines
  settled_lines law last end lines falls are shows up =
      let clean = clean_of g law end up in
      let early : HasCleanDisk (state g last) = omega (arith, falls, clean) in
      ap (λ (d : Database). lines_in d.trees) (shows clean).committed_is ∙ are early

  -- the trees of a database that holds a log
  pub kept_by : (d : Database) (lines : List (List ℕ)) → HoldsLog d → IsDatabase d → lines_in d.trees ≡ lines → (db : Trees) → db ≡ d.trees
      → KeepsLines lines db
  kept_by d lines holds sound are db is = record {
    sound = subst (λ t. IsDatabase (record { schema = log_schema; trees = t })) (sym is)
        (subst (λ s. IsDatabase (record { schema = s; trees = d.trees })) holds.table.schema_is sound);
    are = ap lines_in is ∙ are;
    sealed = subst (λ (t : Trees). AreSealed (t 0)) (sym is) holds.sealed;
  }

  -- a commit that succeeds leaves a log
  pub log_if_ok : {X : Type 0} → ShutsIfDirty g → (last end : Held S) → doubt (g.view last.store).is_clean ≤ doubt (g.view end.store).is_clean
      → (HasCleanDisk (state g last) → HoldsLog (state g last).now)
      → end.in_transaction ≡ false → (r : Result X Error)
      → (HasCleanDisk (state g end) → OnOk r (IsTrue (state g last).in_transaction × Shows (state g last) (state g end) (state g last).now
      (state g last).now false × KeepsCounts (state g last) (state g end) × ((state g end).marks ≡ []))) → OnOk r (IsLog g end)
  log_if_ok law last end falls holds ended (Ok x) shows = settles law last end falls holds ended (λ clean. (shows clean).1)
  log_if_ok law last end falls holds ended (Err e) shows = tt

  -- with the lines that the transaction showed
  pub lines_if_ok : {X : Type 0} → ShutsIfDirty g → (last end : Held S) (lines : List (List ℕ)) → doubt (g.view last.store).is_clean ≤ doubt
      (g.view end.store).is_clean
      → (HasCleanDisk (state g last) → lines_in (state g last).now.trees ≡ lines) → (r : Result X Error)
      → (HasCleanDisk (state g end) → OnOk r (IsTrue (state g last).in_transaction × Shows (state g last) (state g end) (state g last).now
      (state g last).now false × KeepsCounts (state g last) (state g end) × ((state g end).marks ≡ [])))
      → IsOpen g end → OnOk r (lines_of g end ≡ lines)
  lines_if_ok law last end lines falls are (Ok x) shows up = settled_lines law last end lines falls are (λ clean. (shows clean).1) up
  lines_if_ok law last end lines falls are (Err e) shows up = tt

-- ---- how a read ends: the transaction has changed nothing, and is committed

module _ {S : Type 0} (g : Ghosts S) (law : ShutsIfDirty g) (old last end : Held S) (resting : IsIdle g old) (falls : doubt (g.view last.store).is_clean ≤ doubt
    (g.view end.store).is_clean)
    (same : HasCleanDisk (state g last) → IsUnchanged (state g (begun g old)) (state g last)) where
  -- a disk that is clean at the end was clean before
  early : HasCleanDisk (state g end) → HasCleanDisk (state g last)
  early clean = omega (arith, falls, clean)

  -- however the commit ends, nothing has changed
  pub read_ends : end.in_transaction ≡ false → (r : Result (Unit {0}) Error)
      → (HasCleanDisk (state g end) → OnOk r (IsTrue (state g last).in_transaction × Shows (state g last) (state g end) (state g last).now
      (state g last).now false
      × KeepsCounts (state g last) (state g end) × ((state g end).marks ≡ [])))
      → (HasCleanDisk (state g end) → IfErr r (FailsToCommit (state g last) (state g end))) → IsKept g old end
  read_ends ended (Ok u) ok err =
      let it = λ (up : IsOpen g end). (ok (clean_of g law end up)).1 in
      let was = λ (up : IsOpen g end). (same (early (clean_of g law end up))).0 in
      record {
        was_open = λ up. (was up).was_open;
        now = λ up. (it up).now_is ∙ (was up).now_is;
        committed = λ up. (it up).committed_is ∙ (was up).now_is ∙ sym (resting.settled (was up).was_open);
        autocommit = ended;
      }
  read_ends ended (Err e) ok err =
      rolled_back g law old last end resting falls (λ clean. kept_commit (same clean)) ended (λ clean. not_committed g last end e (same (early clean)).0.mode
      (err clean))
    where
      kept_commit : IsUnchanged (state g (begun g old)) (state g last) → KeepsCommit (state g (begun g old)) (state g last)
      kept_commit h = record { was_open = λ up. h.0.was_open; committed = λ up. h.0.committed_is }

  -- what a crash leaves after it was left before
  pub read_survives : ((s : S) → IsTrue (g.view s).is_open → g.recovers s (g.view s).committed) → Survives (state g (begun g old)) (state g last) (λ _. ⊥)
      → Survives (state g last) (state g end) (λ db. db ≡ (state g last).now.trees) → Survives (state g old) (state g end) (λ _. ⊥)
  read_survives stays one two =
      let whole = survives_then (state g old) (state g last) (state g end) (λ _. ⊥) (λ db. db ≡ (state g last).now.trees) (λ db. db ≡ (state g last).now.trees)
      (λ _ db none. absurd none) (λ _ db is. is) (survives_begin g old (state g last) (λ _. ⊥) one) two in
      record {
        clean = whole.clean;
        shield = whole.shield;
        counts = whole.counts;
        limit = whole.limit;
        closes = whole.closes;
        crash = λ clean db may. elim (whole.crash clean db may) [
          | inl was ↦ inl was
          | inr is ↦ inl (let it = (same (early clean)).0 in
              subst (state g old).may_leave (sym (is ∙ ap (λ (d : Database). d.trees) (it.now_is ∙ sym (resting.settled it.was_open))))
              (stays old.store it.was_open))
        ];
      }
