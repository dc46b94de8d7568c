-- Lemmas on stretches of input whose lines are served one after another.
use Rattle.std.proofs.Common.{arith, ◌≡◌, ◌≢◌, ℕ, ◌+◌, ◌-◌, ◌<◌, List, [], ◌∷◌, ◌++◌, ◌∙◌, Option, Some, None, Bool, refl, sym, ap, subst}
use Rattle.std.proofs.Common.{append_assoc, append-nil, flat_map, length, length-append, Result, Ok, Err}
use Rattle.std.specs.Prelude.{All, OnOk}
use Rattle.std.specs.Io.KnownBytes.{Appends}
use Rattle.std.proofs.KnownBytes.{Appends-trans, Appends-nil}
use Rattle.std.proofs.lemmas.Grind.{flat_map-append}
use Rattle.std.proofs.lemmas.List.Elements.{All-append, All-nil, All-push, All-pop}
use Rattle.byte_io.specs.Known.{AppendsFront}
use Rattle.byte_io.specs.Journal.{Grows}
use Rattle.byte_io.specs.declared.journal.Journal.{Ghosts}
use Rattle.site_replies.specs.Reply.{ReplyData, bytes_of}
use Rattle.site_serving.specs.Served.{Replied, Serves, lines_in, written_for}
use Rattle.site_serving.specs.Journaled.{LetsOut, Enters, Outgoing}
use Rattle.site_serving.specs.Lines.{lines_of, IsLine, with_newline}
use Rattle.site_replies.specs.declared.fault.ServeFault.{ServeFault}
use Rattle.site_serving.specs.Stretches.{Handles, Records, Fails, Halts}
use Rattle.site_serving.proofs.Histories.{Serves-append, Serves-split, history-append, lines-append, written-append}
use Rattle.site_serving.proofs.Journals.{Grows-nil, Grows-trans, Grows-same, on_all, IsFront-taken, IsFront-part}
use Rattle.site_serving.proofs.Journals.{LetsOut-trans, Outgoing-none, Outgoing-noted, Outgoing-trans}
use Rattle.site_serving.proofs.LineLists.{lines_of-ended, lines_of-line}

-- a list that is not empty ends in an item
record Last {X : Type 0} (xs : List X) : Type 0 where
  pub before : List X
  pub last : X
  pub whole : before ++ last ∷ [] ≡ xs

last_of : {X : Type 0} (x : X) (xs : List X) → Last (x ∷ xs)
last_of x [] = record { before = []; last = x; whole = refl }
last_of x (y ∷ xs) = let l = last_of y xs in record { before = x ∷ l.before; last = l.last; whole = ap (λ ys. x ∷ ys) l.whole }

has_last : {X : Type 0} (xs : List X) → 0 < length xs → Last xs
has_last [] some = absurd (omega arith)
has_last (x ∷ xs) some = last_of x xs

-- what was appended in two parts was appended one after the other
parted : (a b : Option (List ℕ)) (xs ys : List ℕ) → Appends a b (xs ++ ys) → (between : Option (List ℕ)) × Appends a between xs × Appends between b ys
parted None b xs ys grows = (None, tt, tt)
parted (Some x) None xs ys grows = absurd grows
parted (Some x) (Some y) xs ys grows = (Some (x ++ xs), refl, grows ∙ sym (append_assoc x xs ys))

one_line : (line rest : List ℕ) (reply : ReplyData) → with_newline line ++ rest
    ≡ flat_map with_newline (lines_in (record { line = line; reply = reply } ∷ [])) ++ rest
one_line line rest reply = ap (λ l. l ++ rest) (sym (append-nil (with_newline line)))

pub written_one : (line : List ℕ) (reply : ReplyData) → written_for (record { line = line; reply = reply } ∷ []) ≡ bytes_of reply
written_one line reply = append-nil (bytes_of reply)

joined : (xs ys : List Replied) (s t held rest : List ℕ) → s ≡ flat_map with_newline (lines_in xs) ++ held
    → held ++ t ≡ flat_map with_newline (lines_in ys) ++ rest → s ++ t ≡ flat_map with_newline (lines_in (xs ++ ys)) ++ rest
joined xs ys s t held rest p q =
    ap (λ l. l ++ t) p ∙ append_assoc (flat_map with_newline (lines_in xs)) held t ∙ ap (λ l. flat_map with_newline (lines_in xs) ++ l) q
    ∙ sym (append_assoc (flat_map with_newline (lines_in xs)) (flat_map with_newline (lines_in ys)) rest)
    ∙ ap (λ l. l ++ rest) (sym (flat_map-append with_newline (lines_in xs) (lines_in ys)) ∙ ap (flat_map with_newline) (sym (lines-append xs ys)))

-- the line that ends with the part
ended_part : (held part : List ℕ) → with_newline (held ++ part) ++ [] ≡ held ++ (part ++ 10 ∷ [])
ended_part held part = append-nil (with_newline (held ++ part)) ∙ append_assoc held part (10 ∷ [])

module _ {J : Type 0} (g : Ghosts J) (keeps : Replied → Bool) {X : Type 0} (replies : X → List ℕ → ReplyData → X → Type 0) where
  -- ---- what is served

  pub Records-nil : (site : X) (limit : ℕ) (j : J) (rest : List ℕ) → Records g keeps replies site limit rest j j site limit rest
  Records-nil site limit j rest = record {
    replied = [];
    served = refl;
    whole = refl;
    each = All-nil IsLine;
    count = omega arith;
    taken = Appends-nil (g.contents j);
    noted = Grows-nil (g.noted j);
    stays = λ up. up;
    out = Outgoing-none g keeps j [];
  }

  -- a line was handled
  Records-one : {E : Type 0} (site after : X) (left : ℕ) (line rest : List ℕ) (old new : J) (x : Unit {0}) → 0 < left → IsLine line
      → Handles g keeps replies {E = E} site line old new (Ok x) after
      → Records g keeps replies site left (with_newline line ++ rest) old new after (left - 1) rest
  Records-one {E} site after left line rest old new x room line_is h =
      let r : Replied = record { line = line; reply = h.reply } in
      let taken : Appends (g.contents old) (g.contents new) (written_for (r ∷ [])) =
      subst (Appends (g.contents old) (g.contents new)) (sym (written_one line h.reply)) h.taken in
      record {
        replied = r ∷ [];
        served = (after, h.replied, refl);
        whole = one_line line rest h.reply;
        each = All-push IsLine [] line (All-nil IsLine) line_is;
        count = omega (arith, room);
        taken = taken;
        noted = Grows-same _ _ _ _ h.enters.grows h.enters.noted;
        stays = h.enters.stays;
        out = Outgoing-noted g keeps h.enters.meant old new (r ∷ []) h.enters.out h.enters.grows (λ f. IsFront-taken _ _ _ _ (h.enters.out.front f) taken);
      }

  -- what waited was let out
  Records-settled : (site : X) (left : ℕ) (rest : List ℕ) (old new : J) → LetsOut g (g.noted old) old new → g.contents new ≡ g.contents old
      → Grows (g.noted old) (g.noted new) [] → (g.is_open old → g.is_open new) → Records g keeps replies site left rest old new site left rest
  Records-settled site left rest old new out same noted stays = record {
    replied = [];
    served = refl;
    whole = refl;
    each = All-nil IsLine;
    count = omega arith;
    taken = rw same (Appends-nil (g.contents old));
    noted = noted;
    stays = stays;
    out = Outgoing-noted g keeps (g.noted old) old new [] out (Grows-nil (g.noted old))
        (λ f. IsFront-taken _ _ _ _ (out.front f) (rw same (Appends-nil (g.contents old))));
  }

  pub Records-trans : (one two three : X) (limit left last : ℕ) (stretch held more rest : List ℕ) (a b c : J)
      → Records g keeps replies one limit stretch a b two left held
      → Records g keeps replies two left (held ++ more) b c three last rest → Records g keeps replies one limit (stretch ++ more) a c three last rest
  Records-trans one two three limit left last stretch held more rest a b c p q = record {
    replied = p.replied ++ q.replied;
    served = Serves-append replies one two three p.replied q.replied p.served q.served;
    whole = joined p.replied q.replied stretch more held rest p.whole q.whole;
    each = subst (All IsLine) (sym (lines-append p.replied q.replied)) (All-append IsLine (lines_in p.replied) (lines_in q.replied) p.each q.each);
    count = let before = p.count in let after = q.count in simp length-append (omega arith);
    taken = subst (Appends (g.contents a) (g.contents c)) (sym (written-append p.replied q.replied)) (Appends-trans _ _ _ _ _ p.taken q.taken);
    noted = subst (Grows (g.noted a) (g.noted c)) (sym (history-append keeps p.replied q.replied)) (Grows-trans _ _ _ _ _ p.noted q.noted);
    stays = λ up. q.stays (p.stays up);
    out = Outgoing-trans g keeps a b c p.replied q.replied p.noted p.taken p.stays p.out q.out;
  }

  -- what follows the last newline is held
  pub Records-held : (site after : X) (limit left : ℕ) (stretch held more all : List ℕ) (a b : J) → Records g keeps replies site limit stretch a b after left held
      → stretch ++ more ≡ all → Records g keeps replies site limit all a b after left (held ++ more)
  Records-held site after limit left stretch held more all a b p e =
      subst (λ s. Records g keeps replies site limit s a b after left (held ++ more)) e
      (Records-trans site after after limit left left stretch held more (held ++ more) a b b p (Records-nil after left b (held ++ more)))

  -- the next line ends
  pub Records-line : {E : Type 0} (one two three : X) (limit left : ℕ) (stretch held part : List ℕ) (a b c : J) (x : Unit {0})
      → Records g keeps replies one limit stretch a b two left held → 0 < left → IsLine (held ++ part)
      → Handles g keeps replies {E = E} two (held ++ part) b c (Ok x) three
      → Records g keeps replies one limit (stretch ++ (part ++ 10 ∷ [])) a c three (left - 1) []
  Records-line {E} one two three limit left stretch held part a b c x p room line h =
      let last = Records-one {E = E} two three left (held ++ part) [] b c x room line h in
      Records-trans one two three limit left (left - 1) stretch held (part ++ 10 ∷ []) [] a b c p
      (subst (λ s. Records g keeps replies two left s b c three (left - 1) []) (ended_part held part) last)

  pub Records-let_out : (site after : X) (limit left : ℕ) (stretch rest : List ℕ) (a b c : J) → Records g keeps replies site limit stretch a b after left rest
      → LetsOut g (g.noted b) b c → g.contents c ≡ g.contents b → Grows (g.noted b) (g.noted c) [] → (g.is_open b → g.is_open c)
      → Records g keeps replies site limit stretch a c after left rest
  Records-let_out site after limit left stretch rest a b c p out contents noted stays =
      let then = Records-settled after left rest b c out contents noted stays in
      subst (λ s. Records g keeps replies site limit s a c after left rest) (append-nil stretch)
      (Records-trans site after after limit left left stretch rest [] rest a b c p
      (subst (λ s. Records g keeps replies after left s b c after left rest) (sym (append-nil rest)) then))

  pub lines_of-records : (site after : X) (limit left : ℕ) (stretch rest later : List ℕ) (a b : J)
      (p : Records g keeps replies site limit stretch a b after left rest) → lines_of (stretch ++ later) ≡ lines_in p.replied ++ lines_of (rest ++ later)
  lines_of-records site after limit left stretch rest later a b p =
      ap lines_of (ap (λ l. l ++ later) p.whole ∙ append_assoc (flat_map with_newline (lines_in p.replied)) rest later)
      ∙ lines_of-ended (lines_in p.replied) (rest ++ later) p.each

  -- ---- a reply that was not written whole

  -- what was let out at a line whose reply was entered or not
  pub Outgoing-one : {E : Type 0} (site after : X) (line : List ℕ) (old new : J) (result : Result (Unit {0}) E)
      → (h : Handles g keeps replies site line old new result after) → Outgoing g keeps old new (record { line = line; reply = h.reply } ∷ [])
  Outgoing-one site after line old new (Ok x) h =
      Outgoing-noted g keeps h.enters.meant old new (record { line = line; reply = h.reply } ∷ []) h.enters.out h.enters.grows
      (λ f. IsFront-taken _ _ _ _ (h.enters.out.front f) (subst (Appends (g.contents old) (g.contents new)) (sym (written_one line h.reply)) h.taken))
  Outgoing-one site after line old new (Err e) h =
      Outgoing-noted g keeps h.enters.meant old new (record { line = line; reply = h.reply } ∷ []) h.enters.out h.enters.grows
      (λ f. IsFront-part _ _ _ _ (h.enters.out.front f) (subst (AppendsFront (g.contents old) (g.contents new)) (sym (written_one line h.reply)) h.part))

  pub Fails-line : {E : Type 0} (one two three : X) (limit left : ℕ) (stretch held part back all : List ℕ) (a b c : J) (e : E)
      → Records g keeps replies one limit stretch a b two left held → 0 < left → IsLine (held ++ part)
      → Handles g keeps replies two (held ++ part) b c (Err e) three
      → stretch ++ (part ++ (10 ∷ back)) ≡ all → Fails g keeps replies one limit all a c three
  Fails-line {E} one two three limit left stretch held part back all a b c e p room line h whole =
      let r : Replied = record { line = held ++ part; reply = h.reply } in record {
        done = p.replied;
        last = r;
        mid = two;
        served = p.served;
        replied = h.replied;
        each = p.each;
        line = line;
        count = let counted = p.count in omega (arith, counted, room);
        first = λ later. (
          lines_of (back ++ later),
          ap (λ s. lines_of (s ++ later)) (sym whole) ∙ ap lines_of (append_assoc stretch (part ++ (10 ∷ back)) later)
              ∙ lines_of-records one two limit left stretch held ((part ++ (10 ∷ back)) ++ later) a b p
              ∙ ap (λ l. lines_in p.replied ++ lines_of l) (ap (λ l. held ++ l) (append_assoc part (10 ∷ back) later)
              ∙ sym (append_assoc held part (10 ∷ (back ++ later))))
              ∙ ap (λ ls. lines_in p.replied ++ ls) (lines_of-line (held ++ part) (back ++ later) line.one),
        );
        between = g.contents b;
        taken = p.taken;
        part = h.part;
        out = Outgoing-trans g keeps a b c p.replied (r ∷ []) p.noted p.taken p.stays p.out
            (Outgoing-one {E = E} two three (held ++ part) b c (Err e) h);
      }

  pub Fails-after : (one two three : X) (limit left : ℕ) (stretch held more : List ℕ) (a b c : J)
      → Records g keeps replies one limit stretch a b two left held
      → Fails g keeps replies two left (held ++ more) b c three → Fails g keeps replies one limit (stretch ++ more) a c three
  Fails-after one two three limit left stretch held more a b c p q = record {
    done = p.replied ++ q.done;
    last = q.last;
    mid = q.mid;
    served = Serves-append replies one two q.mid p.replied q.done p.served q.served;
    replied = q.replied;
    each = subst (All IsLine) (sym (lines-append p.replied q.done)) (All-append IsLine (lines_in p.replied) (lines_in q.done) p.each q.each);
    line = q.line;
    count = let before = p.count in let after = q.count in simp length-append (omega arith);
    first = λ later.
        let rest = q.first later in (
          rest.0,
          ap lines_of (append_assoc stretch more later) ∙ lines_of-records one two limit left stretch held (more ++ later) a b p
              ∙ ap (λ l. lines_in p.replied ++ lines_of l) (sym (append_assoc held more later)) ∙ ap (λ l. lines_in p.replied ++ l) rest.1
              ∙ sym (append_assoc (lines_in p.replied) (lines_in q.done) (q.last.line ∷ rest.0))
              ∙ ap (λ l. l ++ q.last.line ∷ rest.0) (sym (lines-append p.replied q.done)),
        );
    between = q.between;
    taken = subst (Appends (g.contents a) q.between) (sym (written-append p.replied q.done)) (Appends-trans _ _ _ _ _ p.taken q.taken);
    part = q.part;
    out = subst (Outgoing g keeps a c) (sym (append_assoc p.replied q.done (q.last ∷ [])))
        (Outgoing-trans g keeps a b c p.replied (q.done ++ q.last ∷ []) p.noted p.taken p.stays p.out q.out);
  }

  -- if a line was served, the last one may be the one whose reply was not written, although all of it was taken
  pub Fails-let_out : (site after : X) (limit left : ℕ) (stretch rest : List ℕ) (a b c : J) → Records g keeps replies site limit stretch a b after left rest
      → left ≢ limit → LetsOut g (g.noted b) b c → g.contents c ≡ g.contents b → Fails g keeps replies site limit stretch a c after
  Fails-let_out site after limit left stretch rest a b c p some out contents =
      let l = has_last p.replied (let count = p.count in omega (arith, count, some)) in
      let cut = Serves-split replies site after l.before (l.last ∷ []) (subst (λ rs. Serves replies site rs after) (sym l.whole) p.served) in
      let last_served = cut.2 in
      let written : written_for p.replied ≡ written_for l.before ++ bytes_of l.last.reply =
      ap written_for (sym l.whole) ∙ written-append l.before (l.last ∷ []) ∙ ap (λ w. written_for l.before ++ w) (append-nil (bytes_of l.last.reply)) in
      let lines : lines_in l.before ++ l.last.line ∷ [] ≡ lines_in p.replied = sym (lines-append l.before (l.last ∷ [])) ∙ ap lines_in l.whole in
      let parts = parted (g.contents a) (g.contents b) (written_for l.before) (bytes_of l.last.reply) (subst (Appends (g.contents a) (g.contents b)) written p.taken) in
      let each = All-pop IsLine (lines_in p.replied) (lines_in l.before) (Some l.last.line) (sym lines) p.each in
      let counted : length l.before + 1 ≡ length p.replied = sym (length-append l.before (l.last ∷ [])) ∙ ap length l.whole in
      record {
        done = l.before;
        last = l.last;
        mid = cut.0;
        served = cut.1;
        replied = subst (replies cut.0 l.last.line l.last.reply) (sym last_served.2) last_served.1;
        each = each.0;
        line = each.1;
        count = let count = p.count in omega (arith, count, counted);
        first = λ later. (
          lines_of (rest ++ later),
          lines_of-records site after limit left stretch rest later a b p ∙ ap (λ ls. ls ++ lines_of (rest ++ later)) (sym lines)
              ∙ append_assoc (lines_in l.before) (l.last.line ∷ []) (lines_of (rest ++ later)),
        );
        between = parts.0;
        taken = parts.1;
        part = record { taken = bytes_of l.last.reply; rest = []; whole = append-nil (bytes_of l.last.reply); appends = rw contents parts.2 };
        out =
            let then = Outgoing-noted g keeps (g.noted b) b c [] out (Grows-nil (g.noted b))
            (λ f. IsFront-taken _ _ _ _ (out.front f) (rw contents (Appends-nil (g.contents b)))) in
            subst (Outgoing g keeps a c) (append-nil p.replied ∙ sym l.whole)
            (Outgoing-trans g keeps a b c p.replied [] p.noted p.taken p.stays p.out then);
      }

  -- ---- the last line, which has no newline, and what then waits

  Enters-settled : {E F : Type 0} (more : List (List ℕ)) (a b c : J) (x : Unit {0}) (result : Result (Unit {0}) F) → Enters g {E = E} more a b (Ok x)
      → LetsOut g (g.noted b) b c → Grows (g.noted b) (g.noted c) [] → (g.is_open a → OnOk result (g.is_open c)) → Enters g {E = F} more a c result
  Enters-settled more a b c x result h out noted stays = record {
    meant = h.meant;
    grows = h.grows;
    noted = on_all result (Grows-same _ _ _ _ h.noted noted);
    stays = stays;
    out = LetsOut-trans g h.meant a b c h.out h.noted h.stays out;
  }

  pub Handles-settled : {E F : Type 0} (site after : X) (line : List ℕ) (a b c : J) (x y : Unit {0}) → Handles g keeps replies {E = E} site line a b (Ok x) after
      → LetsOut g (g.noted b) b c → g.contents c ≡ g.contents b → Grows (g.noted b) (g.noted c) [] → (g.is_open b → g.is_open c)
      → Handles g keeps replies {E = F} site line a c (Ok y) after
  Handles-settled {E} {F} site after line a b c x y h out contents noted stays = record {
    reply = h.reply;
    replied = h.replied;
    taken = rw contents h.taken;
    part = tt;
    enters = Enters-settled _ a b c x (Ok y) h.enters out noted (λ up. stays (h.enters.stays up));
  }

  -- the reply was taken, and still waits
  pub Handles-waiting : {E F : Type 0} (site after : X) (line : List ℕ) (a b c : J) (x : Unit {0}) (e : F)
      → Handles g keeps replies {E = E} site line a b (Ok x) after
      → LetsOut g (g.noted b) b c → g.contents c ≡ g.contents b → Grows (g.noted b) (g.noted c) [] → Handles g keeps replies {E = F} site line a c (Err e) after
  Handles-waiting {E} {F} site after line a b c x e h out contents noted = record {
    reply = h.reply;
    replied = h.replied;
    taken = tt;
    part = record { taken = bytes_of h.reply; rest = []; whole = append-nil (bytes_of h.reply); appends = rw contents h.taken };
    enters = Enters-settled _ a b c x (Err e) h.enters out noted (λ up. tt);
  }

-- ---- what no line changes is the same before each line

module _ {J : Type 0} (g : Ghosts J) (keeps : Replied → Bool) {F X : Type 0} (replies : F → X → List ℕ → ReplyData → X → Type 0) (first later : F)
    (same : later ≡ first) where
  pub Handles-from : {E : Type 0} (site after : X) (line : List ℕ) (a b : J) (result : Result (Unit {0}) E)
      → Handles g keeps (replies later) {E = E} site line a b result after → Handles g keeps (replies first) {E = E} site line a b result after
  Handles-from {E} site after line a b result h = subst (λ f. Handles g keeps (replies f) {E = E} site line a b result after) same h

  pub Records-from : (site after : X) (limit left : ℕ) (stretch rest : List ℕ) (a b : J)
      → Records g keeps (replies later) site limit stretch a b after left rest → Records g keeps (replies first) site limit stretch a b after left rest
  Records-from site after limit left stretch rest a b p = subst (λ f. Records g keeps (replies f) site limit stretch a b after left rest) same p

  pub Fails-from : (site after : X) (limit : ℕ) (stretch : List ℕ) (a b : J) → Fails g keeps (replies later) site limit stretch a b after
      → Fails g keeps (replies first) site limit stretch a b after
  Fails-from site after limit stretch a b p = subst (λ f. Fails g keeps (replies f) site limit stretch a b after) same p

  pub Halts-from : (site after : X) (limit left : ℕ) (stretch : List ℕ) (a b : J) (e : ServeFault)
      → Halts g keeps (replies later) site limit stretch a b after left e → Halts g keeps (replies first) site limit stretch a b after left e
  Halts-from site after limit left stretch a b e p = subst (λ f. Halts g keeps (replies f) site limit stretch a b after left e) same p
