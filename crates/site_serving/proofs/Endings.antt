-- From what was served of the input to what holds when serving ends.
use Rattle.std.proofs.Common.{arith, ◌≡◌, ◌≢◌, ◌⊎◌, inl, inr, ℕ, ◌+◌, ◌-◌, ◌*◌, ◌<◌, ◌≤◌, List, [], ◌∷◌, ◌++◌, ◌∙◌, Option, Some, None, Bool, false, refl, sym}
use Rattle.std.proofs.Common.{subst, ap, take, length, append_assoc, append-nil, length-append, flat_map, Ok, Err}
use Rattle.std.specs.Prelude.{All, IfSome}
use Rattle.std.proofs.lemmas.List.{length-map, nil_from_length}
use Rattle.std.proofs.lemmas.List.Elements.{All-push}
use Rattle.std.proofs.KnownBytes.{Appends-trans, Consumes-trans, Consumes-kept}
use Rattle.std.specs.Io.KnownBytes.{Appends, Consumes, Keeps, IsAtEnd}
use Rattle.byte_io.specs.Known.{AppendsFront}
use Rattle.byte_io.specs.Journal.{Grows, IsFront}
use Rattle.byte_io.specs.declared.journal.Journal.{Ghosts}
use Rattle.site_replies.specs.Reply.{ReplyData, bytes_of}
use Rattle.site_replies.specs.declared.fault.ServeFault.{ServeFault}
use Rattle.site_replies.specs.declared.fault.ServeFault.TheVariants as fault_of
use Rattle.site_serving.specs.Served.{Replied, Serves, lines_in, written_for, history_of}
use Rattle.site_serving.specs.Lines.{lines_of, IsLine, max_line, max_lines, with_newline}
use Rattle.site_serving.specs.Serving.{is_read, IsReplies, RepliesToAll, GoesPast, Stops, ServesAll}
use Rattle.site_serving.specs.Journaled.{IsSettled, IsNoted, KeepsAhead, Outgoing}
use Rattle.site_serving.specs.Stretches.{Fails, Halts, Handles, IsTooLong, Records}
use Rattle.site_serving.proofs.Histories.{Serves-append, Serves-bytes, history-append, lines-append, written-append}
use Rattle.site_serving.proofs.Journals.{Grows-same, Grows-trans, Outgoing-trans, ahead_from}
use Rattle.site_serving.proofs.LineLists.{lines_of-nil, lines_of-last, lines_of-some, GoesPast-long, GoesPast-many}
use Rattle.site_serving.proofs.Stretches.{Outgoing-one, Records-trans, lines_of-records, written_one}

-- a read of no byte took none
pub Consumes-none : (a b c : Option (List ℕ)) (s buf : List ℕ) (n : ℕ) → Consumes a b s → Consumes b c (take n buf) → n ≡ 0 → Consumes a c s
Consumes-none a b c s buf n p q e =
    let none : s ++ take n buf ≡ s = rw e (append-nil s) in
    subst (Consumes a c) none (Consumes-trans a b c s (take n buf) p q)

-- what holds of an input that begins with the stretch holds of what the source had
at_given : (P : List ℕ → Type 0) (given left : Option (List ℕ)) (stretch : List ℕ) → Consumes given left stretch → ((more : List ℕ) → P (stretch ++ more))
    → IfSome given P
at_given P None left stretch c h = tt
at_given P (Some xs) None stretch c h = absurd c
at_given P (Some xs) (Some ys) stretch c h = subst P (sym c) (h ys)

-- what holds of the stretch that was read to the end holds of what the source had
at_end : (P : List ℕ → Type 0) (given left : Option (List ℕ)) (stretch : List ℕ) → Consumes given left stretch → IsAtEnd left → P stretch → IfSome given P
at_end P None left stretch c e h = tt
at_end P (Some xs) None stretch c e h = absurd c
at_end P (Some xs) (Some ys) stretch c e h = let whole : xs ≡ stretch = c ∙ ap (λ l. stretch ++ l) e ∙ append-nil stretch in subst P (sym whole) h

-- some bytes came, so less is left that may come
falls_by : (lines : List (List ℕ)) (limit left : ℕ) (held chunk kept : List ℕ) → held ++ chunk ≡ flat_map with_newline lines ++ kept → length lines + left
    ≡ limit
    → 0 < length chunk → length held ≤ max_line → (0 < length kept → 0 < left)
    → left * 1048577 - length kept < limit * 1048577 - length held
falls_by [] limit left held chunk kept e count some short room =
    let grown : length held + length chunk ≡ length kept = sym (length-append held chunk) ∙ ap length e in
    let more : 0 < left = room (omega arith) in
    omega arith
falls_by (line ∷ lines) limit left held chunk kept e count some short room = omega arith

-- a fault that comes at a line isn't a read that failed
pub halts_but_read : (fault : ServeFault) (failed : Bool) → failed ≡ false → fault ≢ fault_of.Read → failed ≡ is_read (Err fault)
halts_but_read fault_of.Read failed sound other = absurd (other refl)
halts_but_read fault_of.Write failed sound other = sound
halts_but_read fault_of.TooMuchInput failed sound other = sound
halts_but_read fault_of.OutOfMemory failed sound other = sound

past_limits : (done : List (List ℕ)) (left : ℕ) (rest more : List ℕ) → length done + left ≡ max_lines → 0 < length rest → (left ≡ 0) ⊎ IsTooLong rest
    → GoesPast done (lines_of (rest ++ more))
past_limits done left rest more count some past =
    elim past [
      | inl e ↦ GoesPast-many done (rest ++ more) (omega arith) (simp length-append (omega arith))
      | inr long ↦
          let cut : long.front ++ (long.back ++ more) ≡ rest ++ more = sym (append_assoc long.front long.back more) ∙ ap (λ l. l ++ more) long.whole in
          subst (λ l. GoesPast done (lines_of l)) cut (GoesPast-long done long.front (long.back ++ more) long.one long.long)
    ]

-- as many lines as replies
counted : (replied : List Replied) → length (lines_in replied) ≡ length replied
counted replied = length-map replied (λ r. r.line)

with_last : (replied : List Replied) (line : List ℕ) (reply : ReplyData) → lines_in (replied ++ record { line = line; reply = reply } ∷ [])
    ≡ lines_in replied ++ line ∷ []
with_last replied line reply = lines-append replied (record { line = line; reply = reply } ∷ [])

-- between two ends that tell their bytes
told_after : (written : List ℕ) (after : Option (List ℕ)) (out : List ℕ) → Appends (Some written) after out → after ≡ Some (written ++ out)
told_after written None out h = absurd h
told_after written (Some all) out h = ap Some h

pub replies_told : {X : Type 0} (replies : X → List ℕ → ReplyData → X → Type 0) (old new : X) (given left before after : Option (List ℕ))
    → ServesAll replies old given left before after new
    → IfSome given (λ input. IfSome before (λ written. (out : List ℕ) × IsReplies replies old (lines_of input) out new × (after ≡ Some (written ++ out))))
replies_told replies old new None left before after s = tt
replies_told replies old new (Some input) left None after s = tt
replies_told replies old new (Some input) left (Some written) after s =
    let r = s.replied in
    (r.out, subst (λ ls. IsReplies replies old ls r.out new) (sym s.whole) r.replied, told_after written after r.out r.written)

module _ {J : Type 0} (g : Ghosts J) (keeps : Replied → Bool) {X : Type 0} (replies : X → List ℕ → ReplyData → X → Type 0) where
  pub falls : (site after : X) (limit left : ℕ) (held chunk kept : List ℕ) (a b : J) → Records g keeps replies site limit (held ++ chunk) a b after left kept
      → 0 < length chunk → length held ≤ max_line → (0 < length kept → 0 < left)
      → left * 1048577 - length kept < limit * 1048577 - length held
  falls site after limit left held chunk kept a b p some short room =
      falls_by (lines_in p.replied) limit left held chunk kept p.whole (ap (λ n. n + left) (counted p.replied) ∙ p.count) some short room

  -- these lines were replied to
  replied_to : (site after : X) (replied : List Replied) (before written : Option (List ℕ)) → Serves replies site replied after
      → Appends before written (written_for replied) → length replied ≤ max_lines → All IsLine (lines_in replied)
      → RepliesToAll replies site (lines_in replied) before written after
  replied_to site after replied before written served taken count each = record {
    out = written_for replied;
    replied = Serves-bytes replies site after replied served;
    written = taken;
    count = let same = counted replied in omega (arith, same, count);
    each = each;
  }

  -- ---- all the input was served

  pub record ServedWhole (site : X) (given : Option (List ℕ)) (a b : J) (after : X) : Type 0 where
    pub replied : List Replied
    pub served : Serves replies site replied after
    pub whole : IfSome given (λ input. lines_of input ≡ lines_in replied)
    pub each : All IsLine (lines_in replied)
    pub count : length replied ≤ max_lines
    pub taken : Appends (g.contents a) (g.contents b) (written_for replied)
    pub noted : Grows (g.noted a) (g.noted b) (history_of keeps replied)
    pub out : Outgoing g keeps a b replied

  -- it ended with a newline, or was empty
  pub served_to_newline : (site after : X) (room : ℕ) (stretch held : List ℕ) (given left : Option (List ℕ)) (a b : J) → Consumes given left stretch
      → IsAtEnd left → Records g keeps replies site max_lines stretch a b after room held → length held ≡ 0 → ServedWhole site given a b after
  served_to_newline site after room stretch held given left a b read end p none = record {
    replied = p.replied;
    served = p.served;
    whole = at_end (λ input. lines_of input ≡ lines_in p.replied) given left stretch read end
        (ap lines_of (sym (append-nil stretch)) ∙ lines_of-records g keeps replies site after max_lines room stretch held [] a b p
        ∙ ap (λ l. lines_in p.replied ++ lines_of (l ++ [])) (nil_from_length held none) ∙ ap (λ ls. lines_in p.replied ++ ls) lines_of-nil
        ∙ append-nil (lines_in p.replied));
    each = p.each;
    count = let count = p.count in omega (arith, count);
    taken = p.taken;
    noted = p.noted;
    out = p.out;
  }

  -- the lines of an input that ends in a line with no newline
  lines_of-all : (site after : X) (limit room : ℕ) (stretch held : List ℕ) (a b : J) (p : Records g keeps replies site limit stretch a b after room held)
      → IsLine held → 0 < length held → lines_of stretch ≡ lines_in p.replied ++ held ∷ []
  lines_of-all site after limit room stretch held a b p line some =
      ap lines_of (sym (append-nil stretch)) ∙ lines_of-records g keeps replies site after limit room stretch held [] a b p
      ∙ ap (λ l. lines_in p.replied ++ lines_of l) (append-nil held) ∙ ap (λ ls. lines_in p.replied ++ ls) (lines_of-last held line.one some)

  -- it ended with a line that has no newline
  pub served_to_last : {E : Type 0} (site mid after : X) (room : ℕ) (stretch held last : List ℕ) (given left : Option (List ℕ)) (a b c : J) (x : Unit {0})
      → Consumes given left stretch → IsAtEnd left → Records g keeps replies site max_lines stretch a b mid room held → IsLine held → last ≡ held
      → 0 < length held → 0 < room → Handles g keeps replies {E = E} mid last b c (Ok x) after → ServedWhole site given a c after
  served_to_last {E} site mid after room stretch held last given left a b c x read end p line same some more handled =
      let h = subst (λ l. Handles g keeps replies {E = E} mid l b c (Ok x) after) same handled in
      let r : Replied = record { line = held; reply = h.reply } in record {
        replied = p.replied ++ r ∷ [];
        served = Serves-append replies site mid after p.replied (r ∷ []) p.served (after, h.replied, refl);
        whole = at_end (λ input. lines_of input ≡ lines_in (p.replied ++ r ∷ [])) given left stretch read end
            (lines_of-all site mid max_lines room stretch held a b p line some ∙ sym (with_last p.replied held h.reply));
        each = subst (All IsLine) (sym (with_last p.replied held h.reply)) (All-push IsLine (lines_in p.replied) held p.each line);
        count = let count = p.count in simp length-append (omega arith);
        taken = subst (Appends (g.contents a) (g.contents c))
            (sym (written-append p.replied (r ∷ []) ∙ ap (λ l. written_for p.replied ++ l) (written_one held h.reply)))
            (Appends-trans _ _ _ _ _ p.taken h.taken);
        noted = subst (Grows (g.noted a) (g.noted c)) (sym (history-append keeps p.replied (r ∷ [])))
            (Grows-trans _ _ _ _ _ p.noted (Grows-same _ _ _ _ h.enters.grows h.enters.noted));
        out = Outgoing-trans g keeps a b c p.replied (r ∷ []) p.noted p.taken p.stays p.out
            (Outgoing-one g keeps replies {E = E} mid after held b c (Ok x) h);
      }

  pub ServesAll-whole : (site after : X) (given left : Option (List ℕ)) (a b : J) → IsAtEnd left → ServedWhole site given a b after
      → ServesAll replies site given left (g.contents a) (g.contents b) after
  ServesAll-whole site after given left a b end s = record {
    lines = lines_in s.replied;
    replied = replied_to site after s.replied (g.contents a) (g.contents b) s.served s.taken s.count s.each;
    whole = s.whole;
    end = end;
  }

  pub IsNoted-whole : (site after : X) (given : Option (List ℕ)) (a b : J) → ServedWhole site given a b after → IsNoted g keeps replies site given a b after
  IsNoted-whole site after given a b s = record {
    replied = s.replied;
    served = s.served;
    whole = s.whole;
    taken = s.taken;
    noted = s.noted;
  }

  no_further : (given : Option (List ℕ)) (lines : List (List ℕ)) → IfSome given (λ input. lines_of input ≡ lines)
      → IfSome given (λ input. (further : List (List ℕ)) × (lines_of input ≡ lines ++ further))
  no_further None lines whole = tt
  no_further (Some input) lines whole = ([], whole ∙ sym (append-nil lines))

  pub KeepsAhead-whole : (site after : X) (given : Option (List ℕ)) (a b : J) → IsSettled g a → ServedWhole site given a b after
      → KeepsAhead g keeps replies site given a b after
  KeepsAhead-whole site after given a b settled s = record {
    replied = s.replied;
    served = s.served;
    first = no_further given (lines_in s.replied) s.whole;
    ahead = ahead_from g keeps a b s.replied settled s.out;
  }

  -- ---- the reply to some line was not written whole

  pub record FailedWithin (site : X) (given : Option (List ℕ)) (a b : J) (after : X) : Type 0 where
    pub done : List Replied
    pub last : Replied
    pub mid : X
    pub served : Serves replies site done mid
    pub replied : replies mid last.line last.reply after
    pub each : All IsLine (lines_in done)
    pub line : IsLine last.line
    pub count : length done < max_lines
    pub first : IfSome given (λ input. (further : List (List ℕ)) × (lines_of input ≡ lines_in done ++ last.line ∷ further))
    pub between : Option (List ℕ)
    pub taken : Appends (g.contents a) between (written_for done)
    pub part : AppendsFront between (g.contents b) (bytes_of last.reply)
    pub out : Outgoing g keeps a b (done ++ last ∷ [])

  pub failed_in_stretch : (site after : X) (stretch : List ℕ) (given left : Option (List ℕ)) (a b : J) → Consumes given left stretch
      → Fails g keeps replies site max_lines stretch a b after → FailedWithin site given a b after
  failed_in_stretch site after stretch given left a b read f = record {
    done = f.done;
    last = f.last;
    mid = f.mid;
    served = f.served;
    replied = f.replied;
    each = f.each;
    line = f.line;
    count = f.count;
    first = at_given (λ input. (further : List (List ℕ)) × (lines_of input ≡ lines_in f.done ++ f.last.line ∷ further)) given left stretch read f.first;
    between = f.between;
    taken = f.taken;
    part = f.part;
    out = f.out;
  }

  pub failed_at_last : {E : Type 0} (site mid after : X) (room : ℕ) (stretch held last : List ℕ) (given left : Option (List ℕ)) (a b c : J) (e : E)
      → Consumes given left stretch → IsAtEnd left → Records g keeps replies site max_lines stretch a b mid room held → IsLine held → last ≡ held
      → 0 < length held → 0 < room → Handles g keeps replies mid last b c (Err e) after → FailedWithin site given a c after
  failed_at_last {E} site mid after room stretch held last given left a b c e read end p line same some more handled =
      let h = subst (λ l. Handles g keeps replies mid l b c (Err e) after) same handled in
      let r : Replied = record { line = held; reply = h.reply } in record {
        done = p.replied;
        last = r;
        mid = mid;
        served = p.served;
        replied = h.replied;
        each = p.each;
        line = line;
        count = let count = p.count in omega (arith, count, more);
        first = at_end (λ input. (further : List (List ℕ)) × (lines_of input ≡ lines_in p.replied ++ held ∷ further)) given left stretch read end
            ([], lines_of-all site mid max_lines room stretch held a b p line some);
        between = g.contents b;
        taken = p.taken;
        part = h.part;
        out = Outgoing-trans g keeps a b c p.replied (r ∷ []) p.noted p.taken p.stays p.out
            (Outgoing-one g keeps replies {E = E} mid after held b c (Err e) h);
      }

  pub Stops-failed : (site after : X) (given left : Option (List ℕ)) (a b : J) → FailedWithin site given a b after
      → Stops replies site given left (g.contents a) (g.contents b) after fault_of.Write
  Stops-failed site after given left a b f = (
    lines_in f.done,
    f.last.line,
    f.mid,
    f.between,
    replied_to site f.mid f.done (g.contents a) f.between f.served f.taken (let count = f.count in omega (arith, count)) f.each,
    record { reply = f.last.reply; replied = f.replied; part = f.part },
    f.line,
    (let same = counted f.done in let count = f.count in omega (arith, same, count)),
    f.first,
  )

  further_of : (given : Option (List ℕ)) (done : List Replied) (last : Replied)
      → IfSome given (λ input. (further : List (List ℕ)) × (lines_of input ≡ lines_in done ++ last.line ∷ further))
      → IfSome given (λ input. (further : List (List ℕ)) × (lines_of input ≡ lines_in (done ++ last ∷ []) ++ further))
  further_of None done last first = tt
  further_of (Some input) done last first = (
    first.0,
    first.1 ∙ sym (append_assoc (lines_in done) (last.line ∷ []) first.0) ∙ ap (λ ls. ls ++ first.0) (sym (lines-append done (last ∷ []))),
  )

  pub KeepsAhead-failed : (site after : X) (given : Option (List ℕ)) (a b : J) → IsSettled g a → FailedWithin site given a b after
      → KeepsAhead g keeps replies site given a b after
  KeepsAhead-failed site after given a b settled f = record {
    replied = f.done ++ f.last ∷ [];
    served = Serves-append replies site f.mid after f.done (f.last ∷ []) f.served (after, f.replied, refl);
    first = further_of given f.done f.last f.first;
    ahead = ahead_from g keeps a b (f.done ++ f.last ∷ []) settled f.out;
  }

  -- ---- another fault came

  pub KeepsAhead-records : (site after : X) (limit room : ℕ) (stretch rest : List ℕ) (given left : Option (List ℕ)) (a b : J) → IsSettled g a
      → Consumes given left stretch → Records g keeps replies site limit stretch a b after room rest → KeepsAhead g keeps replies site given a b after
  KeepsAhead-records site after limit room stretch rest given left a b settled read p = record {
    replied = p.replied;
    served = p.served;
    first = at_given (λ input. (further : List (List ℕ)) × (lines_of input ≡ lines_in p.replied ++ further)) given left stretch read
        (λ more. (lines_of (rest ++ more), lines_of-records g keeps replies site after limit room stretch rest more a b p));
    ahead = ahead_from g keeps a b p.replied settled p.out;
  }

  -- what holds after a read that failed
  pub Stops-read : (site after : X) (room : ℕ) (stretch held : List ℕ) (given mid last : Option (List ℕ)) (a b : J) → Consumes given mid stretch
      → Keeps mid last → Records g keeps replies site max_lines stretch a b after room held → IsLine held
      → (0 < length held → 0 < room) → Stops replies site given last (g.contents a) (g.contents b) after fault_of.Read
  Stops-read site after room stretch held given mid last a b read kept p line more = (
    lines_in p.replied,
    held,
    replied_to site after p.replied (g.contents a) (g.contents b) p.served p.taken (let count = p.count in omega (arith, count)) p.each,
    line,
    (λ some. let count = p.count in let same = counted p.replied in let left = more some in omega (arith, count, same, left)),
    Consumes-kept given mid last _ (subst (Consumes given mid) p.whole read) kept,
  )

  -- what holds after a fault in a stretch of what was read
  pub Stops-stretch : (site after : X) (room : ℕ) (stretch : List ℕ) (given left : Option (List ℕ)) (a b : J) (fault : ServeFault) → Consumes given left stretch
      → (fault ≡ fault_of.Write → Fails g keeps replies site max_lines stretch a b after)
      → (fault ≢ fault_of.Write → Halts g keeps replies site max_lines stretch a b after room fault)
      → Stops replies site given left (g.contents a) (g.contents b) after fault
  Stops-stretch site after room stretch given left a b fault_of.Read read fails halts = absurd (halts (λ e. absurd (cc))).2
  Stops-stretch site after room stretch given left a b fault_of.Write read fails halts =
      Stops-failed site after given left a b (failed_in_stretch site after stretch given left a b read (fails refl))
  Stops-stretch site after room stretch given left a b fault_of.TooMuchInput read fails halts =
      let h = halts (λ e. absurd (cc)) in
      let p = h.1 in (
        lines_in p.replied,
        replied_to site after p.replied (g.contents a) (g.contents b) p.served p.taken (let count = p.count in omega (arith, count)) p.each,
        at_given (λ input. (further : List (List ℕ)) × (lines_of input ≡ lines_in p.replied ++ further) × GoesPast (lines_in p.replied) further)
            given left stretch read
            (λ more. (
              lines_of (h.0 ++ more),
              lines_of-records g keeps replies site after max_lines room stretch h.0 more a b p,
              past_limits (lines_in p.replied) room h.0 more (ap (λ n. n + room) (counted p.replied) ∙ p.count) h.2.0 h.2.1,
            )),
      )
  Stops-stretch site after room stretch given left a b fault_of.OutOfMemory read fails halts =
      let h = halts (λ e. absurd (cc)) in
      let p = h.1 in (
        lines_in p.replied,
        replied_to site after p.replied (g.contents a) (g.contents b) p.served p.taken (let count = p.count in omega (arith, count)) p.each,
        at_given (λ input. (further : List (List ℕ)) × (lines_of input ≡ lines_in p.replied ++ further) × (0 < length further))
            given left stretch read
            (λ more. (
              lines_of (h.0 ++ more),
              lines_of-records g keeps replies site after max_lines room stretch h.0 more a b p,
              lines_of-some (h.0 ++ more) (let some = h.2 in simp length-append (omega arith)),
            )),
      )

  pub KeepsAhead-stretch : (site after : X) (room : ℕ) (stretch : List ℕ) (given left : Option (List ℕ)) (a b : J) (fault : ServeFault) → IsSettled g a
      → Consumes given left stretch → (fault ≡ fault_of.Write → Fails g keeps replies site max_lines stretch a b after)
      → (fault ≢ fault_of.Write → Halts g keeps replies site max_lines stretch a b after room fault) → KeepsAhead g keeps replies site given a b after
  KeepsAhead-stretch site after room stretch given left a b fault_of.Write settled read fails halts =
      KeepsAhead-failed site after given a b settled (failed_in_stretch site after stretch given left a b read (fails refl))
  KeepsAhead-stretch site after room stretch given left a b fault_of.Read settled read fails halts = absurd (halts (λ e. absurd (cc))).2
  KeepsAhead-stretch site after room stretch given left a b fault_of.TooMuchInput settled read fails halts =
      let h = halts (λ e. absurd (cc)) in KeepsAhead-records site after max_lines room stretch h.0 given left a b settled read h.1
  KeepsAhead-stretch site after room stretch given left a b fault_of.OutOfMemory settled read fails halts =
      let h = halts (λ e. absurd (cc)) in KeepsAhead-records site after max_lines room stretch h.0 given left a b settled read h.1

  -- what was written is a front of what was taken also after a fault in a stretch of what was read
  pub front-stretch : (site after : X) (room : ℕ) (stretch : List ℕ) (a b : J) (fault : ServeFault)
      → (fault ≡ fault_of.Write → Fails g keeps replies site max_lines stretch a b after)
      → (fault ≢ fault_of.Write → Halts g keeps replies site max_lines stretch a b after room fault)
      → IsFront (g.written a) (g.contents a) → IsFront (g.written b) (g.contents b)
  front-stretch site after room stretch a b fault_of.Write fails halts = (fails refl).out.front
  front-stretch site after room stretch a b fault_of.Read fails halts = absurd (halts (λ e. absurd (cc))).2
  front-stretch site after room stretch a b fault_of.TooMuchInput fails halts = (halts (λ e. absurd (cc))).1.out.front
  front-stretch site after room stretch a b fault_of.OutOfMemory fails halts = (halts (λ e. absurd (cc))).1.out.front

  -- memory ran out at the first line of the rest, and nothing has changed since
  pub halts_here : (site mid after : X) (limit room : ℕ) (stretch rest : List ℕ) (a b c : J) (fault : ServeFault) → after ≡ mid → c ≡ b
      → Records g keeps replies site limit stretch a b mid room rest → fault ≡ fault_of.OutOfMemory → 0 < length rest
      → Halts g keeps replies site limit stretch a c after room fault
  halts_here site mid after limit room stretch rest a b c fault same kept p memory some = rw (same, kept, memory) (rest, p, some)

  -- a fault in what came after a stretch
  pub Halts-after : (one two three : X) (limit left last : ℕ) (stretch held more : List ℕ) (a b c : J) (fault : ServeFault)
      → Records g keeps replies one limit stretch a b two left held → Halts g keeps replies two left (held ++ more) b c three last fault
      → Halts g keeps replies one limit (stretch ++ more) a c three last fault
  Halts-after one two three limit left last stretch held more a b c fault p h =
      (h.0, Records-trans g keeps replies one two three limit left last stretch held more h.0 a b c p h.1, h.2)
