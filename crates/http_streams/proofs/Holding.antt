-- Frames that are dealt with one after another.
use Rattle.std.proofs.Common.{inl, ◌≡◌, ◌∙◌, ◌≤◌, ℕ, drop, length, Bool, List, [], ◌∷◌, ◌++◌, Result, Ok, Err, refl, sym, ap, subst, append_assoc, append-nil}
use Rattle.std.specs.Prelude.{All, IfOk, IsErr, OnOk, map}
use Rattle.std.proofs.lemmas.Grind.{flat_map-append}
use Rattle.std.proofs.lemmas.List.{map-append}
use Rattle.std.proofs.lemmas.List.Elements.{All-append, All-head, All-nil, All-push, All-tail}
use Rattle.http.specs.declared.request.Request.{Request}
use Rattle.http_streams.specs.Frame.{FrameData, ReadsAs, front_of, part, whole}
use Rattle.http_streams.specs.Losses.{StopsAtALoss}
use Rattle.http_server.specs.declared.response.Response.{Response}
use Rattle.http_server.specs.Exchange.{Call}
use Rattle.http_server.specs.Rounds.{Round, Rounds}
use Rattle.http_streams.specs.Deeds.{Deed, IsTaken, output_of, pieces_bytes, rounds_of}
use Rattle.http_streams.specs.Tables.{AreKnown, IsDone, IsServed, IsTableOf}
use Rattle.http_streams.specs.Taking.{AllButOne}
use Rattle.http_streams.specs.declared.table.Table.{Table}
use Rattle.http_streams.proofs.Parts.{IsKept, on_no_ok, stops_nowhere}
use Rattle.http_streams.proofs.Stretch.{reads_one}
use Rattle.http_streams.proofs.Taking.{all_but_last, all_taken}

pub if_no_ok : {A E : Type 0} (r : Result A E) (P : A → Type 0) → IsErr r → IfOk r P
if_no_ok (Ok a) P is = absurd (cc)
if_no_ok (Err e) P is = tt

pub stops_then : (rounds later : List (Round Call)) → All IsKept rounds → StopsAtALoss later → StopsAtALoss (rounds ++ later)
stops_then [] later kept stops = stops
stops_then (r ∷ rounds) later kept stops = (inl (All-head IsKept r rounds kept), stops_then rounds later (All-tail IsKept r rounds kept) stops)

pub rounds_push : (deeds : List Deed) (d : Deed) → rounds_of (deeds ++ d ∷ []) ≡ rounds_of deeds ++ d.rounds
rounds_push deeds d = flat_map-append (λ (e : Deed). e.rounds) deeds (d ∷ []) ∙ ap (λ l. rounds_of deeds ++ l) (append-nil d.rounds)

pub output_push : (deeds : List Deed) (d : Deed) → output_of (deeds ++ d ∷ []) ≡ output_of deeds ++ pieces_bytes d.frame.connection d.sent
output_push deeds d = flat_map-append (λ (e : Deed). pieces_bytes e.frame.connection e.sent) deeds (d ∷ [])
    ∙ ap (λ l. output_of deeds ++ l) (append-nil (pieces_bytes d.frame.connection d.sent))

module _ {S : Type 0} (answers : S → Request (List ℕ) → Response → S → Type 0) (settles : S → Bool → S → Type 0) where
  pub rounds_then : (a b c : S) (rounds later : List (Round Call)) → Rounds answers settles a rounds b → Rounds answers settles b later c
      → Rounds answers settles a (rounds ++ later) c
  rounds_then a b c [] later is next = subst (λ s. Rounds answers settles s later c) is next
  rounds_then a b c (r ∷ rounds) later (called, s, chain, settled, is) next = (called, s, chain, settled, rounds_then s b c rounds later is next)

  module _ (old : Table) (before : S) (input : List ℕ) (out_before : List ℕ) (deeds : List Deed) where
    -- all frames so far were dealt with well, and this is left of the bytes
    pub record IsHeld (new : Table) (after : S) (out rest : List ℕ) : Type 0 where
      pub more : List Deed
      pub read : ReadsAs input (map (λ d. d.frame) more) rest
      pub taken : All IsTaken more
      pub output : out ≡ out_before ++ output_of more
      pub served : Rounds answers settles before (rounds_of more) after
      pub kept : All IsKept (rounds_of more)
      pub table : IsTableOf (deeds ++ more) new
      pub config : new.config ≡ old.config

    pub held_none : IsTableOf deeds old → IsHeld old before out_before input
    held_none is = record {
      more = [];
      read = refl;
      taken = All-nil IsTaken;
      output = sym (append-nil out_before);
      served = refl;
      kept = All-nil IsKept;
      table = subst (λ l. IsTableOf l old) (sym (append-nil deeds)) is;
      config = refl;
    }

    -- what was served, when all went well, or when what is left can't be read
    pub held_all : {E : Type 0} (new : Table) (after : S) (out rest : List ℕ) (result : Result ℕ E) (i : IsHeld new after out rest)
        → IfOk result (λ n. (n ≤ length input) × (drop n input ≡ rest) × (front_of rest ≡ part))
        → OnOk result (IsTableOf (deeds ++ i.more) new) → IsServed answers settles deeds old new before after input out_before out result
    held_all new after out rest result i left table = record {
      more = i.more;
      rest = rest;
      read = i.read;
      left = left;
      taken = i.taken;
      all_but_one = all_taken (deeds ++ i.more) i.table.taken;
      output = i.output;
      served = i.served;
      stops = stops_nowhere (rounds_of i.more) i.kept;
      known = subst (λ k. AreKnown k (deeds ++ i.more)) i.config i.table.known;
      table = table;
    }

    -- one more frame
    module _ {E : Type 0} (mid new : Table) (s after : S) (out out_after rest left : List ℕ) (frame : FrameData) (result : Result (Unit {0}) E)
        (i : IsHeld mid s out rest) (first : front_of rest ≡ whole frame left)
        (done : IsDone answers settles frame (deeds ++ i.more) mid new s after out out_after result) where
      abbrev all : List Deed
      all = i.more ++ done.deed ∷ []

      read_is : ReadsAs input (map (λ d. d.frame) all) left
      read_is = subst (λ l. ReadsAs input l left)
          (ap (λ f. map (λ d. d.frame) i.more ++ f ∷ []) (sym done.frame_is) ∙ sym (map-append (λ (d : Deed). d.frame) i.more (done.deed ∷ [])))
          (reads_one input (map (λ d. d.frame) i.more) rest frame left i.read first)

      output_is : out_after ≡ out_before ++ output_of all
      output_is =
          done.output ∙ ap (λ l. l ++ pieces_bytes frame.connection done.deed.sent) i.output
          ∙ append_assoc out_before (output_of i.more) (pieces_bytes frame.connection done.deed.sent)
          ∙ ap (λ (f : FrameData). out_before ++ (output_of i.more ++ pieces_bytes f.connection done.deed.sent)) (sym done.frame_is)
          ∙ ap (λ l. out_before ++ l) (sym (output_push i.more done.deed))

      served_is : Rounds answers settles before (rounds_of all) after
      served_is = subst (λ l. Rounds answers settles before l after) (sym (rounds_push i.more done.deed))
          (rounds_then before s after (rounds_of i.more) done.deed.rounds i.served done.served)

      pub held_more : All IsKept done.deed.rounds → IsTableOf ((deeds ++ i.more) ++ done.deed ∷ []) new → new.config ≡ mid.config
          → IsHeld new after out_after left
      held_more kept table config = record {
        more = all;
        read = read_is;
        taken = All-push IsTaken i.more done.deed i.taken done.taken;
        output = output_is;
        served = served_is;
        kept = subst (All IsKept) (sym (rounds_push i.more done.deed)) (All-append IsKept (rounds_of i.more) done.deed.rounds i.kept kept);
        table = subst (λ l. IsTableOf l new) (append_assoc deeds i.more (done.deed ∷ [])) table;
        config = config ∙ i.config;
      }

      -- after it nothing can be served
      pub held_last : {F : Type 0} (ends : Result ℕ F) → IsErr ends → IsServed answers settles deeds old new before after input out_before out_after ends
      held_last ends failed = record {
        more = all;
        rest = left;
        read = read_is;
        left = if_no_ok ends _ failed;
        taken = All-push IsTaken i.more done.deed i.taken done.taken;
        all_but_one = subst AllButOne (append_assoc deeds i.more (done.deed ∷ [])) (all_but_last (deeds ++ i.more) done.deed i.table.taken);
        output = output_is;
        served = served_is;
        stops = subst StopsAtALoss (sym (rounds_push i.more done.deed)) (stops_then (rounds_of i.more) done.deed.rounds i.kept done.stops);
        known = subst (λ k. AreKnown k (deeds ++ all)) i.config (subst (AreKnown mid.config) (append_assoc deeds i.more (done.deed ∷ [])) done.known);
        table = on_no_ok (IsTableOf (deeds ++ all) new) ends failed;
      }
