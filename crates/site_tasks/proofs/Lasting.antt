-- From what a run says of its journal to what an open finds afterwards.
use Rattle.std.proofs.Common.{◌≡◌, ◌∙◌, ℕ, Bool, true, false, List, [], ◌++◌, Option, Some, None, Result, Ok, Err, refl, sym, ap, subst, subst₂, append-nil}
use Rattle.std.specs.Prelude.{◌≢◌, IsTrue, IfSome, OnOk, if◌then◌else◌}
use Rattle.std.specs.Io.KnownBytes.{Appends}
use Rattle.byte_io.specs.Journal.{Grows}
use Rattle.byte_io.specs.Known.{AppendsFront}
use Rattle.byte_io.specs.declared.journal.Journal.{Ghosts}
use Rattle.sqlite.specs.Held.{Held, state}
use Rattle.sqlite.specs.Store as store
use Rattle.sqlite.specs.Recovery.{Image}
use Rattle.sqlite.specs.State.{HasCleanDisk}
use Rattle.command_log.specs.Found.{Finds}
use Rattle.command_log.specs.Lines.{lines_of}
use Rattle.command_log.proofs.States.{ShutsIfDirty, clean_of}
use Rattle.site_journal.specs.Known.{known_lines}
use Rattle.site_replies.specs.Reply.{ReplyData}
use Rattle.site_replies.specs.declared.fault.ServeFault.{ServeFault}
use Rattle.site_replies.specs.declared.fault.ServeFault.TheVariants.{Write}
use Rattle.site_serving.specs.Journaled.{IsNoted, IsSettled, KeepsAhead}
use Rattle.site_serving.specs.Lines as input
use Rattle.site_serving.specs.Served.{Replied, Serves, history_of, lines_in, state_after, written_for}
use Rattle.site_serving.proofs.Histories.{Serves-split}
use Rattle.site_start.specs.Started.{IsTakenOver}
use Rattle.site_tasks.specs.Lasting.{Lasts}

-- lines that are found after those of a log were known
grown : (up : Bool) (lines found more : List (List ℕ)) → Grows (if up then Some (lines ++ []) else None) (Some found) more
    → IsTrue up × (found ≡ lines ++ more)
grown true lines found more grows = (refl, grows ∙ ap (λ l. l ++ more) (append-nil lines))
grown false lines found more grows = absurd grows

-- the lines of a whole input, with none after them
whole : (given : Option (List ℕ)) (lines : List Replied) → IfSome given (λ bytes. input.lines_of bytes ≡ lines_in lines)
    → IfSome given (λ bytes. (further : List (List ℕ)) × (input.lines_of bytes ≡ lines_in (lines ++ []) ++ further))
whole None lines is = tt
whole (Some bytes) lines is = ([], is ∙ ap lines_in (sym (append-nil lines)) ∙ sym (append-nil (lines_in (lines ++ []))))

-- what was appended whole was appended from its front
front_all : (old new : Option (List ℕ)) (bytes : List ℕ) → Appends old new bytes → AppendsFront old new bytes
front_all old new bytes appends = record { taken = bytes; rest = []; whole = append-nil bytes; appends = appends }

module _ {F X J : Type 0} (j : Ghosts J) (steps : F → X → List ℕ → X × ReplyData) (replies : F → X → List ℕ → ReplyData → X → Type 0)
    (keeps : Replied → Bool) {S : Type 0} (g : store.Ghosts S) (law : ShutsIfDirty g) (log : Held S) (image : Image) (identity : List ℕ) (fixed still : F)
    (first started last : X) (given before after : Option (List ℕ)) (old new : J) (same : still ≡ fixed)
    (replayed : HasCleanDisk (state g log) → started ≡ state_after (steps fixed) first (lines_of g log))
    (held : HasCleanDisk (state g log) → (held : List (List ℕ)) × Finds image held × IsTakenOver identity held (lines_of g log))
    (knew : j.noted old ≡ known_lines g log []) (writes : j.written new ≡ after) (was : IsSettled j old) (wrote : j.written old ≡ before) where
  -- what a log may be found to hold after a run over it that served these lines, of which the first ones last
  cut_at : {E : Type 0} (result : Result (Unit {0}) E) (front back : List Replied) (found : List (List ℕ))
      → Serves (replies still) started (front ++ back) last
      → IfSome given (λ bytes. (further : List (List ℕ)) × (input.lines_of bytes ≡ lines_in (front ++ back) ++ further))
      → Grows (j.noted old) (Some found) (history_of keeps front) → AppendsFront (j.written old) (j.written new) (written_for front)
      → OnOk result ((back ≡ []) × IfSome given (λ bytes. input.lines_of bytes ≡ lines_in front) × Appends before after (written_for front))
      → Lasts (steps fixed) (replies fixed) keeps image identity first last given before after result found
  cut_at result front back found served of_input edits sent all =
      let noted = lines_of g log in
      let more = history_of keeps front in
      let is = grown (state g log).is_open noted found more (subst (λ known. Grows known (Some found) more) knew edits) in
      let clean = clean_of g law log is.0 in
      let taken = held clean in
      let cut = Serves-split (replies fixed) started last front back (subst (λ f. Serves (replies f) started (front ++ back) last) same served) in
      record {
        held = taken.0;
        were_held = taken.1;
        noted = noted;
        taken_over = taken.2;
        front = front;
        back = back;
        served = of_input;
        state = cut.0;
        first_served = subst (λ x. Serves (replies fixed) x front cut.0) (replayed clean) cut.1;
        then_served = cut.2;
        is_found = is.1;
        was_sent = subst₂ (λ a b. AppendsFront a b (written_for front)) wrote writes sent;
        all = all;
      }

  -- and after any run: one that ended well has noted all lines of the input, and nothing of them waits
  pub lasts : (result : Result (Unit {0}) ServeFault) → OnOk result (IsNoted j keeps (replies still) started given old new last)
      → (result ≢ Err Write → IsSettled j old → IsSettled j new) → KeepsAhead j keeps (replies still) started given old new last
      → (found : List (List ℕ)) → j.may_hold new found
      → Lasts (steps fixed) (replies fixed) keeps image identity first last given before after result found
  lasts (Ok x) noted settled kept found may =
      let now = settled (λ e. cc) was in
      let lines = noted.replied in
      let none : lines ≡ lines ++ [] = sym (append-nil lines) in
      let sent = subst₂ (λ a b. Appends a b (written_for lines)) (sym was.out) (sym now.out) noted.taken in
      cut_at (Ok x) lines [] found (subst (λ r. Serves (replies still) started r last) none noted.served) (whole given lines noted.whole)
      (subst (λ known. Grows (j.noted old) known (history_of keeps lines)) (now.committed found may) noted.noted)
      (front_all _ _ _ sent) (refl, noted.whole, subst₂ (λ a b. Appends a b (written_for lines)) wrote writes sent)
  lasts (Err e) noted settled kept found may =
      let ahead = kept.ahead found may in
      let all : kept.replied ≡ ahead.front ++ ahead.back = sym ahead.whole in
      cut_at (Err e) ahead.front ahead.back found (subst (λ r. Serves (replies still) started r last) all kept.served)
      (subst (λ r. IfSome given (λ bytes. (further : List (List ℕ)) × (input.lines_of bytes ≡ lines_in r ++ further))) all kept.first)
      ahead.edits ahead.written tt
