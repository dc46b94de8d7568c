-- Lemmas on what is noted in a journal, and what is let out of it.
use Rattle.std.proofs.Common.{◌≡◌, inl, inr, ℕ, Bool, true, false, List, [], ◌∷◌, ◌++◌, ◌∙◌, Option, Some, None, refl, sym, ap, subst, append_assoc}
use Rattle.std.proofs.Common.{append-nil, Result, Ok, Err}
use Rattle.std.specs.Prelude.{OnOk, OnErr}
use Rattle.std.specs.Io.KnownBytes.{Appends, append_known}
use Rattle.std.proofs.KnownBytes.{Appends-trans, Appends-nil}
use Rattle.std.proofs.lemmas.List.{append_cancel_left}
use Rattle.byte_io.specs.Known.{AppendsFront}
use Rattle.byte_io.specs.Journal.{Grows, IsFront}
use Rattle.byte_io.specs.declared.journal.Journal.{Ghosts}
use Rattle.site_replies.specs.Reply.{ReplyData}
use Rattle.site_serving.specs.Served.{Replied, written_for, history_of}
use Rattle.site_serving.specs.Journaled.{IsSettled, IsQuiet, LetsOut, IsAhead, Enters, GoesAhead, Outgoing, noted_of}
use Rattle.site_serving.proofs.Histories.{history-append, written-append}

-- ---- known bytes and lines

pub Grows-nil : {X : Type 0} (a : Option (List X)) → Grows a a []
Grows-nil None = tt
Grows-nil (Some x) = sym (append-nil x)

pub Grows-trans : {X : Type 0} (a b c : Option (List X)) (xs ys : List X) → Grows a b xs → Grows b c ys → Grows a c (xs ++ ys)
Grows-trans None None None xs ys p q = tt
Grows-trans None None (Some z) xs ys p q = absurd q
Grows-trans None (Some y) c xs ys p q = absurd p
Grows-trans (Some x) None None xs ys p q = tt
Grows-trans (Some x) None (Some z) xs ys p q = absurd q
Grows-trans (Some x) (Some y) None xs ys p q = tt
Grows-trans (Some x) (Some y) (Some z) xs ys p q = q ∙ ap (λ l. l ++ ys) p ∙ append_assoc x xs ys

-- and by nothing more
pub Grows-same : {X : Type 0} (a b c : Option (List X)) (xs : List X) → Grows a b xs → Grows b c [] → Grows a c xs
Grows-same a b c xs p q = subst (Grows a c) (append-nil xs) (Grows-trans a b c xs [] p q)

-- lines that are still known are those that were meant
still_known : {X : Type 0} (a b : Option (List X)) (held : List X) → Grows a b [] → b ≡ Some held → a ≡ Some held
still_known None None held p e = absurd (cc)
still_known None (Some y) held p e = absurd p
still_known (Some x) None held p e = absurd (cc)
still_known (Some x) (Some y) held p e = ap Some (sym (append-nil x) ∙ sym p) ∙ e

IsFront-refl : (a : Option (List ℕ)) → IsFront a a
IsFront-refl None = tt
IsFront-refl (Some x) = ([], sym (append-nil x))

-- a front of bytes that grew is a front of the bytes before and what was added
pub IsFront-taken : (w a b : Option (List ℕ)) (bytes : List ℕ) → IsFront w b → Appends a b bytes → IsFront w (append_known a bytes)
IsFront-taken None a b bytes f p = tt
IsFront-taken (Some w) None b bytes f p = tt
IsFront-taken (Some w) (Some a) None bytes f p = absurd p
IsFront-taken (Some w) (Some a) (Some b) bytes f p = (f.0, sym p ∙ f.1)

IsFront-grown : (w a : Option (List ℕ)) (bytes : List ℕ) → IsFront w a → IsFront w (append_known a bytes)
IsFront-grown None a bytes f = tt
IsFront-grown (Some w) None bytes f = tt
IsFront-grown (Some w) (Some a) bytes f = (f.0 ++ bytes, ap (λ l. l ++ bytes) f.1 ∙ append_assoc w f.0 bytes)

-- a front of bytes of which a part was taken
pub IsFront-part : (w a b : Option (List ℕ)) (bytes : List ℕ) → IsFront w b → AppendsFront a b bytes → IsFront w (append_known a bytes)
IsFront-part None a b bytes f p = tt
IsFront-part (Some w) None b bytes f p = tt
IsFront-part (Some w) (Some a) None bytes f p = absurd p.appends
IsFront-part (Some w) (Some a) (Some b) bytes f p =
    let whole : a ++ bytes ≡ b ++ p.rest = ap (λ l. a ++ l) (sym p.whole) ∙ sym (append_assoc a p.taken p.rest) ∙ ap (λ l. l ++ p.rest) (sym p.appends) in
    (f.0 ++ p.rest, whole ∙ ap (λ l. l ++ p.rest) f.1 ∙ append_assoc w f.0 p.rest)

-- what was taken in two parts
IsFront-after : (w a b : Option (List ℕ)) (xs ys : List ℕ) → IsFront w (append_known b ys) → Appends a b xs → IsFront w (append_known a (xs ++ ys))
IsFront-after None a b xs ys f p = tt
IsFront-after (Some w) None b xs ys f p = tt
IsFront-after (Some w) (Some a) None xs ys f p = absurd p
IsFront-after (Some w) (Some a) (Some b) xs ys f p = (f.0, sym (append_assoc a xs ys) ∙ ap (λ l. l ++ ys) (sym p) ∙ f.1)

-- what was written before is in front of it
IsFront-written : (w v : Option (List ℕ)) (more bytes : List ℕ) → Appends w v more → IsFront v (append_known w bytes) → AppendsFront w v bytes
IsFront-written None v more bytes grows f = record { taken = bytes; rest = []; whole = append-nil bytes; appends = tt }
IsFront-written (Some w) None more bytes grows f = absurd grows
IsFront-written (Some w) (Some v) more bytes grows f = record {
  taken = more;
  rest = f.0;
  whole = append_cancel_left w (more ++ f.0) bytes (sym (f.1 ∙ ap (λ l. l ++ f.0) grows ∙ append_assoc w more f.0));
  appends = grows;
}

-- what holds anyway holds of every value
pub on_all : {E X : Type 0} (result : Result (Unit {0}) E) → X → OnOk result X
on_all (Ok x) h = h
on_all (Err e) h = tt

pub on_every_err : {E X : Type 0} (result : Result (Unit {0}) E) → X → OnErr result X
on_every_err (Ok x) h = tt
on_every_err (Err e) h = h

-- what is noted of a line is its history
pub noted-history : (keeps : Replied → Bool) (line : List ℕ) (reply : ReplyData) (stays : Bool) → stays ≡ keeps (record { line = line; reply = reply })
    → noted_of stays line ≡ history_of keeps (record { line = line; reply = reply } ∷ [])
noted-history keeps line reply true e = rw (← e) refl
noted-history keeps line reply false e = rw (← e) refl

module _ {J : Type 0} (g : Ghosts J) where
  -- ---- what is let out

  -- the lines were noted, and then a reply was taken or not
  pub Enters-noted : {E : Type 0} (more : List (List ℕ)) (a mid b c : J) (result : Result (Unit {0}) E) → b ≡ mid → Grows (g.noted a) (g.noted mid) more
      → IsQuiet g a mid → g.contents mid ≡ g.contents a → (g.is_open a → g.is_open mid) → LetsOut g (g.noted b) b c → Grows (g.noted b) (g.noted c) []
      → (g.is_open b → OnOk result (g.is_open c)) → Enters g more a c result
  Enters-noted more a mid b c result at grows quiet same stays out noted later = record {
    meant = g.noted b;
    grows = rw at grows;
    noted = on_all result noted;
    stays = λ up. later (rw at (stays up));
    out = record {
      writes = subst (λ w. (more : List ℕ) × Appends w (g.written c) more) (ap g.written at ∙ quiet.same) out.writes;
      front = λ f. out.front (rw (at, quiet.same, same) f);
      commits = λ held h. elim (out.commits held h) [ inl was ↦ inl (quiet.held held (subst (λ j. g.may_hold j held) at was)) | inr is ↦ inr is ];
      first = λ up. elim (out.first (rw at (stays up))) [ inl is ↦ inl (is ∙ ap g.written at ∙ quiet.same) | inr all ↦ inr all ];
    };
  }

  -- no line was noted
  pub Enters-taken : {E : Type 0} (a b c : J) (result : Result (Unit {0}) E) → b ≡ a → LetsOut g (g.noted b) b c → Grows (g.noted b) (g.noted c) []
      → (g.is_open b → OnOk result (g.is_open c)) → Enters g [] a c result
  Enters-taken a b c result at out noted later =
      subst (λ j. Enters g [] j c result) at
      (record { meant = g.noted b; grows = Grows-nil (g.noted b); noted = on_all result noted; stays = later; out = out })

  -- nothing is noted between
  pub LetsOut-trans : (meant : Option (List (List ℕ))) (a b c : J) → LetsOut g meant a b → Grows meant (g.noted b) [] → (g.is_open a → g.is_open b)
      → LetsOut g (g.noted b) b c → LetsOut g meant a c
  LetsOut-trans meant a b c p known stays q = record {
    writes = (p.writes.0 ++ q.writes.0, Appends-trans _ _ _ _ _ p.writes.1 q.writes.1);
    front = λ f. q.front (p.front f);
    commits = λ held h.
        elim (q.commits held h) [
          | inl was ↦ p.commits held was
          | inr is ↦ inr (still_known meant (g.noted b) held known is)
        ];
    first = λ up. elim (q.first (stays up)) [
      | inl is ↦ elim (p.first up) [
        | inl was ↦ inl (is ∙ was)
        | inr all ↦ inr (λ held h. elim (q.commits held h) [
          | inl was ↦ all held was
          | inr now ↦ still_known meant (g.noted b) held known now
        ])
      ]
      | inr all ↦ inr (λ held h. still_known meant (g.noted b) held known (all held h))
    ];
  }

  module _ (keeps : Replied → Bool) where
    -- the log holds all that was noted, and of the replies to all lines a front was written
    goes_all : (meant : Option (List (List ℕ))) (old new : J) (replied : List Replied) (held : List (List ℕ)) → Grows (g.noted old) meant (history_of keeps replied)
        → meant ≡ Some held
        → (IsFront (g.written old) (g.contents old) → IsFront (g.written new) (append_known (g.contents old) (written_for replied)))
        → GoesAhead g keeps old new replied held
    goes_all meant old new replied held grows is front =
        inr (replied, [], append-nil replied, subst (λ n. Grows (g.noted old) n (history_of keeps replied)) is grows, front)

    -- what was let out at lines whose edits are noted
    pub Outgoing-noted : (meant : Option (List (List ℕ))) (old new : J) (replied : List Replied) → LetsOut g meant old new
        → Grows (g.noted old) meant (history_of keeps replied)
        → (IsFront (g.written old) (g.contents old) → IsFront (g.written new) (append_known (g.contents old) (written_for replied)))
        → Outgoing g keeps old new replied
    Outgoing-noted meant old new replied out grows within = record {
      front = out.front;
      writes = out.writes;
      ahead = λ up held h.
          elim (out.commits held h) [
            | inl was ↦ elim (out.first up) [
              | inl same ↦ inl (was, same)
              | inr all ↦ goes_all meant old new replied held grows (all held h) within
            ]
            | inr is ↦ goes_all meant old new replied held grows is within
          ];
    }

    -- nothing was let out
    pub Outgoing-none : (j : J) (replied : List Replied) → Outgoing g keeps j j replied
    Outgoing-none j replied = record {
      front = λ f. f;
      writes = ([], Appends-nil (g.written j));
      ahead = λ up held h. inl (h, refl);
    }

    -- one stretch after another
    pub Outgoing-trans : (a b c : J) (before after : List Replied) → Grows (g.noted a) (g.noted b) (history_of keeps before)
        → Appends (g.contents a) (g.contents b) (written_for before) → (g.is_open a → g.is_open b) → Outgoing g keeps a b before
        → Outgoing g keeps b c after → Outgoing g keeps a c (before ++ after)
    Outgoing-trans a b c before after grows taken stays first then = record {
      front = λ f. then.front (first.front f);
      writes = (first.writes.0 ++ then.writes.0, Appends-trans _ _ _ _ _ first.writes.1 then.writes.1);
      ahead = λ up held h.
          elim (then.ahead (stays up) held h) [
            | inl quiet ↦ elim (first.ahead up held quiet.0) [
              | inl was ↦ inl (was.0, quiet.1 ∙ was.1)
              | inr some ↦ inr (
                some.0,
                some.1 ++ after,
                sym (append_assoc some.0 some.1 after) ∙ ap (λ l. l ++ after) some.2,
                some.3,
                λ f. rw quiet.1 (some.4 f),
              )
            ]
            | inr some ↦ inr (
              before ++ some.0,
              some.1,
              append_assoc before some.0 some.1 ∙ ap (λ l. before ++ l) some.2,
              subst (Grows (g.noted a) (Some held)) (sym (history-append keeps before some.0)) (Grows-trans _ _ _ _ _ grows some.3),
              λ f. subst (λ bytes. IsFront (g.written c) (append_known (g.contents a) bytes)) (sym (written-append before some.0))
                  (IsFront-after _ _ _ _ _ (some.4 (first.front f)) taken),
            )
          ];
    }

    -- from a moment at which nothing waits
    pub ahead_from : (old new : J) (replied : List Replied) → IsSettled g old → Outgoing g keeps old new replied
        → (held : List (List ℕ)) → g.may_hold new held → IsAhead g keeps old new replied held
    ahead_from old new replied settled out held h =
        let whole : IsFront (g.written old) (g.contents old) = rw settled.out (IsFront-refl (g.contents old)) in
        elim (out.ahead settled.opened held h) [
          | inl was ↦ record {
            front = [];
            back = replied;
            whole = refl;
            edits = subst (λ n. Grows (g.noted old) n []) (settled.committed held was.0) (Grows-nil (g.noted old));
            written = record { taken = []; rest = []; whole = refl; appends = rw was.1 (Appends-nil (g.written old)) };
          }
          | inr some ↦ record {
            front = some.0;
            back = some.1;
            whole = some.2;
            edits = some.3;
            written = IsFront-written _ _ _ _ out.writes.1
                (subst (λ c. IsFront (g.written new) (append_known c (written_for some.0))) (sym settled.out) (some.4 whole));
          }
        ]
