-- What a run over HTTP says of its journal, however many clients it served.
use Rattle.std.proofs.Common.{◌≡◌, ◌⊎◌, inl, inr, ℕ, Bool, true, false, List, [], ◌++◌, Option, Some, Result, Ok, Err, refl, sym, subst, map, append-nil}
use Rattle.std.specs.Prelude.{IsErr, IsErrAnd, OnOk}
use Rattle.std.specs.Io.KnownBytes.{Appends, Consumes}
use Rattle.byte_io.specs.Journal.{Grows}
use Rattle.byte_io.specs.Known.{AppendsFront}
use Rattle.byte_io.specs.declared.journal.Journal as journals
use Rattle.http_streams.specs.Frame.{ReadsAs}
use Rattle.http_pages.specs.declared.serve.TheConstants.{CONFIG}
use Rattle.http_streams.specs.Ends.{EndsWell}
use Rattle.http_server.specs.Connection.{history}
use Rattle.http_server.specs.Exchange.{Call}
use Rattle.http_server.specs.History.{IsServed}
use Rattle.http_server.specs.Rounds.{kept_of}
use Rattle.http_server.specs.declared.connection.Connection.{Connection}
use Rattle.http_streams.specs.Deeds.{Deed, output_of, rounds_of}
use Rattle.http_streams.specs.Tables.{AreKnown}
use Rattle.http_streams.specs.Taking.{AreTakenAfter}
use Rattle.site_http.specs.Ahead.{HoldsEdits, IsAhead}
use Rattle.site_http.specs.declared.site_pages.SitePages.{SitePages}
use Rattle.site_serving.specs.declared.commands.Commands as carrying
use Rattle.site_serving.specs.Journaled.{IsSettled}
use Rattle.site_serving.specs.Served.{Serves, history_of}
use Rattle.http_tasks.specs.Told.{HoldsTold, ServesClients, ServesNone}

-- no call was lost, or the run didn't end well
ok_none_lost : {A E : Type 0} (Is : E → Type 0) (result : Result A E) (lost : List Call) → (lost ≡ []) ⊎ IsErrAnd result Is → OnOk result (lost ≡ [])
ok_none_lost Is (Ok a) lost (inl none) = none
ok_none_lost Is (Ok a) lost (inr bad) = absurd bad
ok_none_lost Is (Err e) lost h = tt

none_ok : {A E : Type 0} (result : Result A E) (lost : List Call) → lost ≡ [] → OnOk result (lost ≡ [])
none_ok (Ok a) lost none = none
none_ok (Err e) lost none = tt

none_of : {E : Type 0} (given left before after : Option (List ℕ)) (result : Result (Unit {0}) E) → ServesNone given left before after result [] []
    → (framed : Bool) → ServesClients given left before after result [] [] framed
none_of given left before after result is true = inl is
none_of given left before after result is false = inl is

-- a journal that was settled is settled among the pages
pub settled_so : {J : Type 0} (j : journals.Ghosts J) (old new : J) → new ≡ old → IsSettled j old → IsSettled j new
settled_so j old new same settled = subst (IsSettled j) (sym same) settled

module _ {C J E : Type 0} (c : carrying.Ghosts C) (j : journals.Ghosts J) (site : C) (journal : J) (token : Option (List ℕ))
    (given left before after : Option (List ℕ)) (result : Result (Unit {0}) E) (held : List (List ℕ)) where
  abbrev Told : Bool → Type 0
  Told framed = HoldsTold (c.replies (c.fixed site)) c.keeps framed token (c.state site) (j.noted journal) given left before after result held

  -- nobody was served, and the journal holds what was noted
  pub told_to_none : (framed : Bool) → IsErr result → left ≡ given → after ≡ before → j.noted journal ≡ Some held → Told framed
  told_to_none framed failed read written noted = record {
    told = [];
    more = [];
    lost = [];
    exchanged = none_of given left before after result (record { failed = failed; read = read; written = written; none = refl }) framed;
    told_lines = [];
    more_lines = [];
    lost_lines = [];
    are_told = refl;
    are_more = refl;
    are_lost = refl;
    last = c.state site;
    served = refl;
    edits = subst (λ known. Grows known (Some held) []) (sym noted) (sym (append-nil held));
    all = none_ok result [] refl;
  }

  -- one client was served
  pub told_to_one : {V : Type 0} (framed : Bool) → framed ≡ false → (connection : Connection) (old new : SitePages C J V) → old.commands ≡ site
      → old.journal ≡ journal → ∥ IsServed CONFIG (history connection) ∥₁ → Consumes given left (history connection).received
      → Appends before after (history connection).sent → OnOk result (EndsWell (history connection))
      → (ahead : IsAhead c j token connection old new held) → (Is : E → Type 0) → (ahead.lost ≡ []) ⊎ IsErrAnd result Is → Told framed
  told_to_one framed alone connection old new commands before_it served read written ended ahead Is ends = subst Told (sym alone) (record {
    told = ahead.told;
    more = ahead.more;
    lost = ahead.lost;
    exchanged = inr (record {
      connection = connection;
      served = served;
      read = read;
      written = written;
      made = ahead.calls;
      cleared = ahead.cleared;
      ended = ended;
    });
    told_lines = ahead.told_lines;
    more_lines = ahead.more_lines;
    lost_lines = ahead.lost_lines;
    are_told = ahead.are_told;
    are_more = ahead.are_more;
    are_lost = ahead.are_lost;
    last = c.state new.commands;
    served = subst (λ s. Serves (c.replies (c.fixed s)) (c.state s) (ahead.told_lines ++ (ahead.more_lines ++ ahead.lost_lines)) (c.state new.commands))
        commands ahead.served;
    edits = subst (λ x. Grows (j.noted x) (Some held) (history_of c.keeps (ahead.told_lines ++ ahead.more_lines))) before_it ahead.edits;
    all = ok_none_lost Is result ahead.lost ends;
  })

  -- many were
  pub told_to_many : {V : Type 0} (framed : Bool) → framed ≡ true → (deeds : List Deed) (stretch rest : List ℕ) (old new : SitePages C J V)
      → old.commands ≡ site → old.journal ≡ journal → Consumes given left stretch → ReadsAs stretch (map (λ d. d.frame) deeds) rest
      → AppendsFront before after (output_of deeds) → AreKnown CONFIG deeds → OnOk result (rest ≡ []) → OnOk result (AreTakenAfter [] deeds)
      → OnOk result (Appends before after (output_of deeds)) → (holds : HoldsEdits c j token (rounds_of deeds) old new held)
      → OnOk result (holds.lost ≡ []) → Told framed
  told_to_many framed in_frames deeds stretch rest old new commands before_it read frames written known whole all_taken all_written holds none =
      subst Told (sym in_frames) (record {
        told = kept_of (rounds_of deeds);
        more = holds.more;
        lost = holds.lost;
        exchanged = inr (record {
          deeds = deeds;
          stretch = stretch;
          rest = rest;
          read = read;
          frames = frames;
          written = written;
          known = known;
          made = holds.calls;
          cleared = refl;
          whole = whole;
          all_taken = all_taken;
          all_written = all_written;
        });
        told_lines = holds.told_lines;
        more_lines = holds.more_lines;
        lost_lines = holds.lost_lines;
        are_told = holds.are_told;
        are_more = holds.are_more;
        are_lost = holds.are_lost;
        last = c.state new.commands;
        served = subst (λ s. Serves (c.replies (c.fixed s)) (c.state s) (holds.told_lines ++ (holds.more_lines ++ holds.lost_lines)) (c.state new.commands))
            commands holds.served;
        edits = subst (λ x. Grows (j.noted x) (Some held) (history_of c.keeps (holds.told_lines ++ holds.more_lines))) before_it holds.edits;
        all = none;
      })
