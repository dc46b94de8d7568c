-- Lines that were done, and the one at which carrying them out stops.
use Rattle.std.proofs.Common.{◌≡◌, ◌≢◌, ◌⊎◌, ◌∙◌, inl, inr, ℕ, ◌+◌, ◌^◌, ◌-◌, ◌<◌, ◌≤◌, min, Bool, List, [], ◌∷◌, ◌++◌, refl, sym, ap, subst, subst₂, zero, suc, true, false}
use Rattle.std.proofs.Common.{arith, get_or, map, take, drop, length, append_assoc, take-append-drop, length-append}
use Rattle.std.proofs.lemmas.List.{drop_more, length-map, length-take-le, map-append, take_more}
use Rattle.std.proofs.lemmas.List.Elements.{All-append, All-nil, All-tail}
use Rattle.std.specs.Prelude.{◌==◌, ⊤, IsUtf8}
use Rattle.sqlite.specs.State.{State, Survives}
use Rattle.sqlite.specs.Tree.{Trees}
use Rattle.command_log.specs.Faults.{AreText, IsCaused, Unreadable}
use Rattle.command_log.specs.declared.fault.LogFault.{LogFault}
use Rattle.command_log.specs.declared.fault.LogFault.TheVariants as log_fault
use Rattle.command_log.proofs.Causes.{caused_longer}
use Rattle.site_replies.specs.Reply.{ReplyData, refused}
use Rattle.site_replies.specs.declared.reply.Refusal.{Refusal}
use Rattle.site_replies.specs.declared.reply.Refusal.TheVariants.{BadCommand}
use Rattle.site_serving.specs.Served.{Replied, state_after}
use Rattle.site_serving.proofs.Histories.{state_after-append}
use Rattle.site_start.specs.declared.fault.StartFault.{StartFault}
use Rattle.site_start.specs.declared.fault.StartFault.TheVariants.{Log, OtherProgram, Refused, NotAnEdit, NotRebuilt}
use Rattle.site_start.specs.Started.{AreDone, AreEdits, IsDone, IsNumber, IsOfAnother, IsReplayFault, IsStartFault, IsTakenOver}
use Rattle.site_start.specs.Started.{StopsAmong, StopsAt, Unread}

-- ---- numbers of lines

pub next_number : (n count next : ℕ) → IsNumber n count → next ≡ min (count + 1) (2 ^ 64 - 1) → IsNumber (n + 1) next
next_number n count next is more = λ low. let same = is (omega arith) in omega (arith, same, more, low)

-- what isn't 0 is more
pub some_of : (n : ℕ) → (n == 0) ≡ false → 0 < n
some_of zero e = absurd (let t : true ≡ false = e in cc)
some_of (suc n) e = omega arith

-- ---- replies

pub same_refusal : (refusal : Refusal) → refused refusal ≡ refused BadCommand → refusal ≡ BadCommand
same_refusal refusal e = cc

-- ---- faults of the log

text_back : (front back : List (List ℕ)) → AreText (front ++ back) → AreText back
text_back [] back text = text
text_back (line ∷ front) back text = text_back front back (All-tail IsUtf8 line (front ++ back) text)

-- some of the lines can't be read
pub unread_back : (count : ℕ) (lines front back : List (List ℕ)) → lines ≡ front ++ back → (f : LogFault) → Unreadable back f → Unread count lines f
unread_back count lines front back cut log_fault.NotText h = λ text. h (text_back front back (subst AreText cut text))
unread_back count lines front back cut log_fault.OutOfMemory h = absurd h
unread_back count lines front back cut log_fault.Damaged h = absurd h
unread_back count lines front back cut log_fault.DiskFull h = absurd h
unread_back count lines front back cut log_fault.Disk h = absurd h
unread_back count lines front back cut log_fault.Shut h = absurd h
unread_back count lines front back cut log_fault.Interrupted h = absurd h
unread_back count lines front back cut log_fault.NotALog h = absurd h
unread_back count lines front back cut log_fault.Busy h = absurd h
unread_back count lines front back cut log_fault.CannotOpen h = absurd h
unread_back count lines front back cut log_fault.TooBig h = absurd h
unread_back count lines front back cut log_fault.NumbersUsedUp h = absurd h
unread_back count lines front back cut log_fault.Store h = absurd h
unread_back count lines front back cut (log_fault.Altered n) h = absurd h
unread_back count lines front back cut (log_fault.DamagedTail m n) h = absurd h
unread_back count lines front back cut log_fault.OlderLog h = absurd h

-- those after the first can't
pub unread_rest : (lines later : List (List ℕ)) (line : List ℕ) → lines ≡ line ∷ later → (f : LogFault) → Unread 1 later f → Unread 0 lines f
unread_rest lines later line cut log_fault.NotText h = λ text. h (text_back (line ∷ []) later (subst AreText cut text))
unread_rest lines later line cut log_fault.NumbersUsedUp h = let same = ap length cut in omega (arith, same, h)
unread_rest lines later line cut log_fault.OutOfMemory h = absurd h
unread_rest lines later line cut log_fault.Damaged h = absurd h
unread_rest lines later line cut log_fault.DiskFull h = absurd h
unread_rest lines later line cut log_fault.Disk h = absurd h
unread_rest lines later line cut log_fault.Shut h = absurd h
unread_rest lines later line cut log_fault.Interrupted h = absurd h
unread_rest lines later line cut log_fault.NotALog h = absurd h
unread_rest lines later line cut log_fault.Busy h = absurd h
unread_rest lines later line cut log_fault.CannotOpen h = absurd h
unread_rest lines later line cut log_fault.TooBig h = absurd h
unread_rest lines later line cut log_fault.Store h = absurd h
unread_rest lines later line cut (log_fault.Altered n) h = absurd h
unread_rest lines later line cut (log_fault.DamagedTail m n) h = absurd h
unread_rest lines later line cut log_fault.OlderLog h = absurd h

-- what a later call met was met
pub caused_later : (first mid new : State) (Commits : Trees → Type 0) (P Q : LogFault → Type 0) → ((f : LogFault) → P f → Q f)
    → Survives first mid Commits → (f : LogFault) → IsCaused mid new P f → IsCaused first new Q f
caused_later first mid new Commits P Q own s f h =
    let counts = s.counts in
    caused_longer first mid new new P Q own counts (omega arith) (sym s.limit) f h

module _ {X : Type 0} (steps : X → List ℕ → X × ReplyData) (replies : X → List ℕ → ReplyData → X → Type 0) (keeps : Replied → Bool) where
  abbrev pub AllDone : X → List (List ℕ) → Type 0
  AllDone = AreDone steps keeps

  pub done_append : (old : X) (lines more : List (List ℕ)) → AllDone old lines → AllDone (state_after steps old lines) more → AllDone old (lines ++ more)
  done_append old [] more all then = then
  done_append old (line ∷ lines) more all then = (all.0, done_append (steps old line).0 lines more all.1 then)

  -- one line more was done
  pub done_more : {I : Type 0} (f : I → List ℕ) (first mid : X) (items : List I) (i : ℕ) (item : I) → i < length items → item ≡ get_or items i item
      → mid ≡ state_after steps first (map f (take i items)) → AllDone first (map f (take i items)) → IsDone keeps (f item) (steps mid (f item)).1
      → AllDone first (map f (take (i + 1) items))
  done_more f first mid items i item inside is made all one =
      let taken : take (i + 1) items ≡ take i items ++ item ∷ [] = take_more items i item inside ∙ ap (λ x. take i items ++ x ∷ []) (sym is) in
      let texts : map f (take (i + 1) items) ≡ map f (take i items) ++ f item ∷ [] = ap (map f) taken ∙ map-append f (take i items) (item ∷ []) in
      subst (AllDone first) (sym texts) (done_append first (map f (take i items)) (f item ∷ []) all
      (subst (λ x. IsDone keeps (f item) (steps x (f item)).1) made one, tt))

  -- of the lines one wasn't
  pub stops_here : {I : Type 0} (f : I → List ℕ) (first mid : X) (count : ℕ) (items : List I) (i : ℕ) (item : I) (text : List ℕ) (fault : StartFault)
      → i < length items → item ≡ get_or items i item → mid ≡ state_after steps first (map f (take i items)) → AllDone first (map f (take i items))
      → text ≡ f item → StopsAt steps replies keeps mid (count + i + 1) text (IsDone keeps text) fault
      → StopsAmong steps replies keeps first count (map f items) fault
  stops_here f first mid count items i item text fault inside is made all same stops =
      let before = map f (take i items) in
      let long : length before ≡ i = length-map (take i items) f ∙ length-take-le i items (omega (arith, inside)) in
      let number : count + i + 1 ≡ count + length before + 1 = omega (arith, long) in
      record {
        before = before;
        line = f item;
        later = map f (drop (i + 1) items);
        whole = ap (map f) (sym (take-append-drop i items) ∙ ap (λ r. take i items ++ r) (drop_more items i item inside
            ∙ ap (λ x. x ∷ drop (i + 1) items) (sym is))) ∙ map-append f (take i items) (item ∷ drop (i + 1) items);
        all = all;
        stops = subst (λ t. StopsAt steps replies keeps (state_after steps first before) (count + length before + 1) t (IsDone keeps t) fault) same
            (subst₂ (λ x n. StopsAt steps replies keeps x n text (IsDone keeps text) fault) made number stops);
      }

  -- of lines that follow others one wasn't
  pub stops_after : (first mid : X) (count : ℕ) (whole lines batch next : List (List ℕ)) (fault : StartFault) → whole ≡ lines ++ (batch ++ next)
      → mid ≡ state_after steps first lines → AllDone first lines → StopsAmong steps replies keeps mid (count + length lines) batch fault
      → StopsAmong steps replies keeps first count whole fault
  stops_after first mid count whole lines batch next fault cut made all s =
      let both = length-append lines s.before in
      let number : count + length lines + length s.before + 1 ≡ count + length (lines ++ s.before) + 1 = omega (arith, both) in
      record {
        before = lines ++ s.before;
        line = s.line;
        later = s.later ++ next;
        whole = cut ∙ ap (λ b. lines ++ (b ++ next)) s.whole ∙ ap (λ r. lines ++ r) (append_assoc s.before (s.line ∷ s.later) next)
            ∙ sym (append_assoc lines s.before (s.line ∷ s.later ++ next));
        all = done_append first lines s.before all (subst (λ x. AllDone x s.before) made s.all);
        stops = subst₂ (λ x n. StopsAt steps replies keeps x n s.line (IsDone keeps s.line) fault)
            (ap (λ x. state_after steps x s.before) made ∙ sym (state_after-append steps first lines s.before)) number s.stops;
      }

  -- ---- from what stops to what is said of it

  pub replay_stops : (OfLog : LogFault → Type 0) (old : X) (lines : List (List ℕ)) (fault : StartFault) → StopsAmong steps replies keeps old 1 lines fault
      → IsReplayFault steps replies keeps OfLog old lines fault
  replay_stops OfLog old lines (Log f) s = absurd s.stops.told
  replay_stops OfLog old lines OtherProgram s = s
  replay_stops OfLog old lines (Refused line number name) s = s
  replay_stops OfLog old lines (NotAnEdit line) s = s
  replay_stops OfLog old lines NotRebuilt s = s

  within : (OfLog : LogFault → Type 0) (old : X) (identity : List ℕ) (lines later : List (List ℕ)) (fault : StartFault)
      → IsTakenOver identity lines (identity ∷ later) → StopsAt steps replies keeps old 1 identity (λ reply. reply ≡ refused BadCommand) fault
      → IsStartFault steps replies keeps OfLog old identity lines fault
  within OfLog old identity lines later (Log f) taken s = absurd s.told
  within OfLog old identity lines later OtherProgram taken s = absurd s.told
  within OfLog old identity lines later NotRebuilt taken s = absurd s.told
  within OfLog old identity lines later (Refused line number name) taken s = record { later = later; taken = taken; stops = inl s }
  within OfLog old identity lines later (NotAnEdit line) taken s = record { later = later; taken = taken; stops = inl s }

  -- the first line stops a start
  pub first_stops : (OfLog : LogFault → Type 0) (old : X) (identity first : List ℕ) (lines later : List (List ℕ)) (fault : StartFault)
      → (first ≢ identity → IsOfAnother identity lines) → (first ≡ identity → IsTakenOver identity lines (identity ∷ later))
      → ((fault ≡ OtherProgram) × (first ≢ identity))
      ⊎ ((first ≡ identity) × StopsAt steps replies keeps old 1 first (λ reply. reply ≡ refused BadCommand) fault)
      → IsStartFault steps replies keeps OfLog old identity lines fault
  first_stops OfLog old identity first lines later fault another taken (inl other) =
      subst (IsStartFault steps replies keeps OfLog old identity lines) (sym other.0) (another other.1)
  first_stops OfLog old identity first lines later fault another taken (inr it) =
      within OfLog old identity lines later fault (taken it.0)
      (subst (λ line. StopsAt steps replies keeps old 1 line (λ reply. reply ≡ refused BadCommand) fault) it.0 it.1)

  -- a later one does
  pub later_stops : (OfLog Met : LogFault → Type 0) (old mid : X) (identity : List ℕ) (lines later : List (List ℕ)) (fault : StartFault)
      → ((f : LogFault) → Met f → OfLog f) → IsTakenOver identity lines (identity ∷ later) → mid ≡ (steps old identity).0
      → IsReplayFault steps replies keeps Met mid later fault → IsStartFault steps replies keeps OfLog old identity lines fault
  later_stops OfLog Met old mid identity lines later (Log f) met taken made h = met f h
  later_stops OfLog Met old mid identity lines later OtherProgram met taken made h = absurd h.stops.told
  later_stops OfLog Met old mid identity lines later NotRebuilt met taken made h = absurd h.stops.told
  later_stops OfLog Met old mid identity lines later (Refused line number name) met taken made h =
      record { later = later; taken = taken; stops = inr (subst (λ x. StopsAmong steps replies keeps x 1 later (Refused line number name)) made h) }
  later_stops OfLog Met old mid identity lines later (NotAnEdit line) met taken made h =
      record { later = later; taken = taken; stops = inr (subst (λ x. StopsAmong steps replies keeps x 1 later (NotAnEdit line)) made h) }

  -- ---- batches of lines

  -- This number of batches were carried out, each with a line at least, and these lines are left. `count` is the number of
  -- lines so far, the first included.
  pub record Redone (edits : List ℕ → Bool) (first now : X) (whole left : List (List ℕ)) (count batches : ℕ) : Type 0 where
    pub lines : List (List ℕ)
    pub cut : whole ≡ lines ++ left
    pub made : now ≡ state_after steps first lines
    pub edited : AreEdits edits lines
    pub all : AllDone first lines
    pub number : IsNumber (1 + length lines) count
    pub some : batches ≤ length lines

  pub redone_none : (edits : List ℕ → Bool) (first : X) (whole : List (List ℕ)) → Redone edits first first whole whole 1 0
  redone_none edits first whole = record {
    lines = [];
    cut = refl;
    made = refl;
    edited = All-nil (λ line. edits line ≡ true);
    all = tt;
    number = λ low. refl;
    some = omega arith;
  }

  pub redone_more : (edits : List ℕ → Bool) (first mid new : X) (whole left batch next : List (List ℕ)) (limit count more batches : ℕ)
      → Redone edits first mid whole left count batches → batch ≡ take limit left → next ≡ drop limit left → new ≡ state_after steps mid batch
      → AreEdits edits batch → AllDone mid batch → ((n : ℕ) → IsNumber n count → IsNumber (n + length batch) more) → 0 < length batch
      → Redone edits first new whole next more (batches + 1)
  redone_more edits first mid new whole left batch next limit count more batches r took rest did edited all counted any =
      let cut : left ≡ batch ++ next = sym (take-append-drop limit left) ∙ ap (λ b. b ++ drop limit left) (sym took) ∙ ap (λ n. batch ++ n) (sym rest) in
      let both = length-append r.lines batch in
      let number : 1 + length r.lines + length batch ≡ 1 + length (r.lines ++ batch) = omega (arith, both) in
      record {
        lines = r.lines ++ batch;
        cut = r.cut ∙ ap (λ l. r.lines ++ l) cut ∙ sym (append_assoc r.lines batch next);
        made = did ∙ ap (λ x. state_after steps x batch) r.made ∙ sym (state_after-append steps first r.lines batch);
        edited = All-append (λ text. edits text ≡ true) r.lines batch r.edited edited;
        all = done_append first r.lines batch r.all (subst (λ x. AllDone x batch) r.made all);
        number = subst (λ n. IsNumber n more) number (counted (1 + length r.lines) r.number);
        some = let before = r.some in omega (arith, both, before, any);
      }

  -- as many batches as there are numbers for lines
  pub all_numbers : (edits : List ℕ → Bool) (first now : X) (whole left : List (List ℕ)) (count batches : ℕ) → Redone edits first now whole left count batches
      → 2 ^ 64 - 1 ≤ batches → 2 ^ 64 ≤ 1 + length whole
  all_numbers edits first now whole left count batches r many =
      let same = ap length r.cut in
      let both = length-append r.lines left in
      let before = r.some in omega (arith, same, both, before, many)

  -- a fault of the log is one of the log, whatever it met
  pub of_any_log : (OfLog : LogFault → Type 0) (old : X) (identity : List ℕ) (lines : List (List ℕ)) (fault : StartFault)
      → IsStartFault steps replies keeps OfLog old identity lines fault → IsStartFault steps replies keeps (λ _. ⊤) old identity lines fault
  of_any_log OfLog old identity lines (Log fault) is = tt
  of_any_log OfLog old identity lines OtherProgram is = is
  of_any_log OfLog old identity lines (Refused line number name) is = is
  of_any_log OfLog old identity lines (NotAnEdit line) is = is
  of_any_log OfLog old identity lines NotRebuilt is = absurd is
