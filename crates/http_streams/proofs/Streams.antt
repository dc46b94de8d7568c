-- A stream of frames, chunk after chunk.
use Rattle.std.proofs.Common.{arith, inl, ◌≡◌, ◌∙◌, ℕ, Bool, true, false, List, [], ◌∷◌, ◌++◌, Option, None, Some, Result, Ok, Err, refl, sym, ap, subst, append_assoc, append-nil}
use Rattle.std.specs.Prelude.{All, IsErr, OnErr, OnOk, is_err, map}
use Rattle.std.specs.BTreeMap.{btree_map_len, get}
use Rattle.std.specs.Io.KnownBytes.{Appends, Consumes, Keeps}
use Rattle.std.specs.Ordering.{nat_cmp}
use Rattle.std.proofs.KnownBytes.{Appends-nil, Consumes-kept, Consumes-nil}
use Rattle.std.proofs.lemmas.Grind.{flat_map-append}
use Rattle.std.proofs.lemmas.List.{map-append}
use Rattle.std.proofs.lemmas.List.Elements.{All-append, All-head, All-nil, All-tail}
use Rattle.byte_io.specs.Known.{AppendsFront}
use Rattle.http.specs.declared.request.Request.{Request}
use Rattle.http_streams.specs.Frame.{ReadsAs}
use Rattle.http_streams.specs.Losses.{StopsAtALoss}
use Rattle.http_server.specs.declared.response.Response.{Response}
use Rattle.http_server.specs.declared.state.Config.{Config}
use Rattle.http_server.specs.Rounds.{Rounds}
use Rattle.http_server.proofs.KnownLemmas.{Appends-then, Consumes-then}
use Rattle.http_streams.specs.Deeds.{Deed, IsTaken, output_of, pieces_bytes, rounds_of}
use Rattle.http_streams.specs.Tables.{AreKnown, IsServed, IsTableOf, ServesMany}
use Rattle.http_streams.specs.declared.table.Table.{Table}
use Rattle.http_streams.proofs.Holding.{rounds_then, stops_then}
use Rattle.http_streams.proofs.Parts.{IsKept, on_any_ok, on_no_ok, stops_nowhere}
use Rattle.http_streams.proofs.Sessions.{IsWhole}
use Rattle.http_streams.proofs.Stretch.{reads_more, reads_then}
use Rattle.http_streams.proofs.Taking.{all_taken}

-- rounds of deeds that were all committed
pub whole_rounds : (deeds : List Deed) → All IsWhole deeds → All IsKept (rounds_of deeds)
whole_rounds [] whole = All-nil IsKept
whole_rounds (d ∷ deeds) whole =
    All-append IsKept d.rounds (rounds_of deeds) (All-head IsWhole d deeds whole) (whole_rounds deeds (All-tail IsWhole d deeds whole))

rounds_append : (deeds later : List Deed) → rounds_of (deeds ++ later) ≡ rounds_of deeds ++ rounds_of later
rounds_append deeds later = flat_map-append (λ (e : Deed). e.rounds) deeds later

output_append : (deeds later : List Deed) → output_of (deeds ++ later) ≡ output_of deeds ++ output_of later
output_append deeds later = flat_map-append (λ (e : Deed). pieces_bytes e.frame.connection e.sent) deeds later

-- a table without connections is that of no deeds
pub table_none : (table : Table) → ((number : ℕ) → get nat_cmp table.connections number ≡ None) → btree_map_len table.connections ≡ 0 → table.last ≡ 0
    → IsTableOf [] table
table_none table none few last = record {
  session = λ number c at. let bad : None ≡ Some c = sym (none number) ∙ at in absurd (cc);
  known = λ number. inl (record { taken = refl; sent = refl; calls = refl; kept = refl });
  kept = All-nil IsWhole;
  within = λ number c at. let bad : None ≡ Some c = sym (none number) ∙ at in absurd (cc);
  unused = λ number above. record { taken = refl; sent = refl; calls = refl; kept = refl };
  latest = λ number positive below. omega (arith, positive, last);
  few = omega (arith, few);
  ends = λ number c at. let bad : None ≡ Some c = sym (none number) ∙ at in absurd (cc);
  taken = tt;
}

module _ {S : Type 0} (answers : S → Request (List ℕ) → Response → S → Type 0) (settles : S → Bool → S → Type 0) (config : Config) (before : S)
    (in_before out_before : Option (List ℕ)) where
  -- all frames so far were dealt with well, and these bytes are held
  pub record IsServing (t : Table) (now : S) (in_now out_now : Option (List ℕ)) (held : List ℕ) : Type 0 where
    pub deeds : List Deed
    pub stretch : List ℕ
    pub consumed : Consumes in_before in_now stretch
    pub read : ReadsAs stretch (map (λ d. d.frame) deeds) held
    pub taken : All IsTaken deeds
    pub served : Rounds answers settles before (rounds_of deeds) now
    pub written : Appends out_before out_now (output_of deeds)
    pub table : IsTableOf deeds t
    pub config_is : t.config ≡ config

  pub serving_none : (table : Table) → ((number : ℕ) → get nat_cmp table.connections number ≡ None) → btree_map_len table.connections ≡ 0
      → table.last ≡ 0 → table.config ≡ config → IsServing table before in_before out_before []
  serving_none table none few last config_is = record {
    deeds = [];
    stretch = [];
    consumed = Consumes-nil in_before;
    read = refl;
    taken = All-nil IsTaken;
    served = refl;
    written = Appends-nil out_before;
    table = table_none table none few last;
    config_is = config_is;
  }

  -- more bytes are read
  pub serving_read : (table : Table) (now : S) (in_now in_next out_now : Option (List ℕ)) (held more next : List ℕ) → IsServing table now in_now out_now held
      → Consumes in_now in_next more → next ≡ held ++ more → IsServing table now in_next out_now next
  serving_read table now in_now in_next out_now held more next i consumes is = record {
    deeds = i.deeds;
    stretch = i.stretch ++ more;
    consumed = Consumes-then in_before in_now in_next i.stretch more i.consumed consumes;
    read = rw is (reads_more i.stretch (map (λ d. d.frame) i.deeds) held more i.read);
    taken = i.taken;
    served = i.served;
    written = i.written;
    table = i.table;
    config_is = i.config_is;
  }

  -- a read that failed changes nothing
  pub serving_kept : (table : Table) (now : S) (in_now in_next out_now : Option (List ℕ)) (held next : List ℕ) → IsServing table now in_now out_now held
      → Keeps in_now in_next → next ≡ held → IsServing table now in_next out_now next
  serving_kept table now in_now in_next out_now held next i keeps is = serving_read table now in_now in_next out_now held [] next i
      (Consumes-kept in_now in_now in_next [] (Consumes-nil in_now) keeps) (is ∙ sym (append-nil held))

  -- nothing more is served
  pub serving_ends : {E : Type 0} (table : Table) (now : S) (in_now out_now : Option (List ℕ)) (held : List ℕ) (result : Result (Unit {0}) E)
      (i : IsServing table now in_now out_now held) → OnOk result (held ≡ [])
      → OnOk result (Appends out_before out_now (output_of i.deeds)) → ServesMany answers settles config before now in_before in_now out_before out_now result
  serving_ends table now in_now out_now held result i whole all = record {
    deeds = i.deeds;
    stretch = i.stretch;
    rest = held;
    consumed = i.consumed;
    read = i.read;
    whole = whole;
    taken = i.taken;
    all_but_one = all_taken i.deeds i.table.taken;
    all_taken = on_any_ok result i.table.taken;
    served = i.served;
    stops = stops_nowhere (rounds_of i.deeds) (whole_rounds i.deeds i.table.kept);
    kept = on_any_ok result (whole_rounds i.deeds i.table.kept);
    known = subst (λ k. AreKnown k i.deeds) i.config_is i.table.known;
    written = record { taken = output_of i.deeds; rest = []; whole = append-nil (output_of i.deeds); appends = i.written };
    all = all;
  }

  -- what is held was served
  module _ {E : Type 0} (old new : Table) (s after : S) (in_now out_now : Option (List ℕ)) (held out : List ℕ) (result : Result ℕ E)
      (i : IsServing old s in_now out_now held) (was : IsServed answers settles i.deeds old new s after held [] out result) where
    abbrev deeds : List Deed
    deeds = i.deeds ++ was.more

    read_is : ReadsAs i.stretch (map (λ d. d.frame) deeds) was.rest
    read_is = subst (λ l. ReadsAs i.stretch l was.rest) (sym (map-append (λ (d : Deed). d.frame) i.deeds was.more))
        (reads_then i.stretch (map (λ d. d.frame) i.deeds) held (map (λ d. d.frame) was.more) was.rest i.read was.read)

    taken_is : All IsTaken deeds
    taken_is = All-append IsTaken i.deeds was.more i.taken was.taken

    served_is : Rounds answers settles before (rounds_of deeds) after
    served_is = subst (λ l. Rounds answers settles before l after) (sym (rounds_append i.deeds was.more))
        (rounds_then answers settles before s after (rounds_of i.deeds) (rounds_of was.more) i.served was.served)

    stops_is : StopsAtALoss (rounds_of deeds)
    stops_is = subst StopsAtALoss (sym (rounds_append i.deeds was.more))
        (stops_then (rounds_of i.deeds) (rounds_of was.more) (whole_rounds i.deeds i.table.kept) was.stops)

    output_is : output_of i.deeds ++ out ≡ output_of deeds
    output_is = ap (λ l. output_of i.deeds ++ l) was.output ∙ sym (output_append i.deeds was.more)

    pub serving_more : (out_next : Option (List ℕ)) (left : List ℕ) → Appends out_now out_next out → left ≡ was.rest → IsTableOf deeds new
        → new.config ≡ old.config → IsServing new after in_now out_next left
    serving_more out_next left wrote is table config_is = record {
      deeds = deeds;
      stretch = i.stretch;
      consumed = i.consumed;
      read = subst (ReadsAs i.stretch (map (λ d. d.frame) deeds)) (sym is) read_is;
      taken = taken_is;
      served = served_is;
      written = subst (Appends out_before out_next) output_is (Appends-then out_before out_now out_next (output_of i.deeds) out i.written wrote);
      table = table;
      config_is = config_is ∙ i.config_is;
    }

    -- after this nothing more is served: some of the output was written
    pub serving_last : {F : Type 0} (ends : Result (Unit {0}) F) (out_next : Option (List ℕ)) → IsErr ends → AppendsFront out_now out_next out
        → ServesMany answers settles config before after in_before in_now out_before out_next ends
    serving_last ends out_next failed front = record {
      deeds = deeds;
      stretch = i.stretch;
      rest = was.rest;
      consumed = i.consumed;
      read = read_is;
      whole = on_no_ok _ ends failed;
      taken = taken_is;
      all_but_one = was.all_but_one;
      all_taken = on_no_ok _ ends failed;
      served = served_is;
      stops = stops_is;
      kept = on_no_ok _ ends failed;
      known = subst (λ k. AreKnown k deeds) i.config_is was.known;
      written = record {
        taken = output_of i.deeds ++ front.taken;
        rest = front.rest;
        whole = append_assoc (output_of i.deeds) front.taken front.rest ∙ ap (λ l. output_of i.deeds ++ l) front.whole ∙ output_is;
        appends = Appends-then out_before out_now out_next (output_of i.deeds) front.taken i.written front.appends;
      };
      all = on_no_ok _ ends failed;
    }

-- all of some bytes are a front of them
pub front_all : (old new : Option (List ℕ)) (bytes : List ℕ) → Appends old new bytes → AppendsFront old new bytes
front_all old new bytes is = record { taken = bytes; rest = []; whole = append-nil bytes; appends = is }

-- what holds of a success or of an error
pub when_ok : {A E X : Type 0} (r : Result A E) → is_err r ≡ false → OnOk r X → X
when_ok (Ok a) is x = x
when_ok (Err e) is x = absurd (cc)

pub when_err : {A E X : Type 0} (r : Result A E) → is_err r ≡ true → OnErr r X → X
when_err (Ok a) is x = absurd (cc)
when_err (Err e) is x = x
