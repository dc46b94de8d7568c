-- Lemmas on replies that are taken and wait.
use Rattle.std.proofs.Common.{ℕ, List, [], ◌++◌, ◌∙◌, Option, Some, None, Ok, Err, Result, OnErr, sym, ap, append_assoc, append-nil}
use Rattle.std.specs.Io.KnownBytes.{Appends, append_known}
use Rattle.byte_io.specs.Known.{AppendsFront}
use Rattle.byte_io.specs.Journal.{Grows}

pub Grows-nil : {X : Type 0} (a : Option (List X)) → Grows a a []
Grows-nil None = tt
Grows-nil (Some x) = sym (append-nil x)

-- some bytes of a reply wait after others
pub front_waits : (a : Option (List ℕ)) (x y bytes : List ℕ) → AppendsFront (Some x) (Some y) bytes → AppendsFront (append_known a x) (append_known a y) bytes
front_waits None x y bytes h = record { taken = h.taken; rest = h.rest; whole = h.whole; appends = tt }
front_waits (Some s) x y bytes h = record {
  taken = h.taken;
  rest = h.rest;
  whole = h.whole;
  appends = ap (λ l. s ++ l) h.appends
      ∙ sym (append_assoc s x h.taken);
}

-- all of them do
pub whole_waits : (a : Option (List ℕ)) (x y bytes : List ℕ) → Appends (Some x) (Some y) bytes → AppendsFront (append_known a x) (append_known a y) bytes
whole_waits a x y bytes h = front_waits a x y bytes (record { taken = bytes; rest = []; whole = append-nil bytes; appends = h })

pub on_err : {A E X : Type 0} (r : Result A E) → X → OnErr r X
on_err (Ok a) h = tt
on_err (Err e) h = h
