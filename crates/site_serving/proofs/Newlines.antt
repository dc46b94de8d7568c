-- Lemmas on newlines in a stretch of input, and on how carrying out a line ends.
use Rattle.std.proofs.Common.{arith, ◌≡◌, ◌≢◌, ◌⊎◌, inl, inr, ℕ, suc, ◌+◌, ◌-◌, ◌<◌, ◌≤◌, List, [], ◌∷◌, ◌++◌, ◌∙◌, Option, Some, None, Result, Ok, Err}
use Rattle.std.proofs.Common.{zero, Bool, true, false, refl, sym, ap, length, take, drop, get_or, append_assoc, append-nil, eq-eqb, length-append}
use Rattle.std.proofs.Common.{take-append-drop}
use Rattle.std.specs.Prelude.{◌==◌, is_err, OnOk, IfErr, IsErrOf}
use Rattle.std.proofs.lemmas.Grind.{common_steps}
use Rattle.std.proofs.lemmas.List.Elements.{All-append, All-from_get_or, All-nil}
use Rattle.std.proofs.lemmas.List.{drop_more, get_or-take, length-take-le}
use Rattle.std.proofs.lemmas.Bool.{eqb-true}
use Rattle.memchr.specs.Find.{IsFirstByte, is_byte}
use Rattle.site_serving.specs.Lines.{IsLine, HasNoNewline, max_line}
use Rattle.site_serving.specs.Serving.{is_write}
use Rattle.site_serving.specs.Stretches.{IsTooLong}
use Rattle.site_replies.specs.declared.fault.ServeFault.{ServeFault}
use Rattle.site_replies.specs.declared.fault.ServeFault.TheVariants as fault_of

-- ---- newlines

-- what comes before the first newline has no newline
pub no_newline_before : (hay : List ℕ) (end : ℕ) → IsFirstByte (is_byte 10) hay (Some end) → HasNoNewline (take end hay)
no_newline_before hay end found = All-from_get_or (λ b. b ≢ 10) (take end hay) 0 (λ i h e.
    let inside : i < end = let high = found.0.high in omega (arith, length-take-le end hay) in
    let same : get_or (take end hay) i 0 ≡ get_or hay i 0 = get_or-take end hay i 0 inside in
    found.0.before i (omega arith) inside (eq-eqb (get_or hay i 0) 10 (sym same ∙ e)))

pub no_newline_at_all : (hay : List ℕ) → IsFirstByte (is_byte 10) hay None → HasNoNewline hay
no_newline_at_all hay none = All-from_get_or (λ b. b ≢ 10) hay 0 (λ i h e. none i (omega arith) h (eq-eqb (get_or hay i 0) 10 e))

-- the bytes from the first newline on begin with it
pub newline_at : (hay : List ℕ) (end : ℕ) → IsFirstByte (is_byte 10) hay (Some end) → drop end hay ≡ 10 ∷ drop (end + 1) hay
newline_at hay end found = let here : get_or hay end 0 ≡ 10 = eqb-true _ _ found.1 in drop_more hay end 0 found.0.high ∙ ap (λ b. b ∷ drop (end + 1) hay) here

pub IsLine-nil : IsLine []
IsLine-nil = record { one = All-nil (λ b. b ≢ 10); short = omega arith }

pub IsLine-before : (held hay part : List ℕ) (end : ℕ) → part ≡ take end hay → IsLine held → IsFirstByte (is_byte 10) hay (Some end)
    → end ≤ max_line - length held → IsLine (held ++ part)
IsLine-before held hay part end e line found short = rw e (record {
  one = All-append (λ b. b ≢ 10) held (take end hay) line.one (no_newline_before hay end found);
  short = let within = line.short in let h = length-take-le end hay in simp length-append (omega arith);
})

pub IsLine-whole : (held hay : List ℕ) → IsLine held → IsFirstByte (is_byte 10) hay None → length hay ≤ max_line - length held → IsLine (held ++ hay)
IsLine-whole held hay line none short = record {
  one = All-append (λ b. b ≢ 10) held hay line.one (no_newline_at_all hay none);
  short = let within = line.short in simp length-append (omega arith);
}

pub IsTooLong-before : (held hay : List ℕ) (end : ℕ) → IsLine held → IsFirstByte (is_byte 10) hay (Some end) → max_line - length held < end
    → IsTooLong (held ++ hay)
IsTooLong-before held hay end line found long = record {
  front = held ++ take end hay;
  back = drop end hay;
  whole = append_assoc held (take end hay) (drop end hay) ∙ ap (λ l. held ++ l) (take-append-drop end hay);
  one = All-append (λ b. b ≢ 10) held (take end hay) line.one (no_newline_before hay end found);
  long = let inside = found.0.high in grind (arith, common_steps);
}

pub IsTooLong-whole : (held hay : List ℕ) → IsLine held → IsFirstByte (is_byte 10) hay None → max_line - length held < length hay → IsTooLong (held ++ hay)
IsTooLong-whole held hay line none long = record {
  front = held ++ hay;
  back = [];
  whole = append-nil (held ++ hay);
  one = All-append (λ b. b ≢ 10) held hay line.one (no_newline_at_all hay none);
  long = let within = line.short in simp length-append (omega arith);
}

-- ---- tests

pub some_of : (n : ℕ) → (n == 0) ≡ false → 0 < n
some_of zero e = absurd (let t : true ≡ false = e in cc)
some_of (suc n) e = omega arith

pub no_newline_found : (hay : List ℕ) (r : Option ℕ) → IsFirstByte (is_byte 10) hay r → ((i : ℕ) → r ≡ Some i → ⊥) → IsFirstByte (is_byte 10) hay None
no_newline_found hay None found never = found
no_newline_found hay (Some i) found never = absurd (never i refl)

-- ---- how carrying out a line ends

-- what holds anyway holds of every value
pub on_every_ok : {X : Type 0} (r : Result (Unit {0}) ServeFault) → X → OnOk r X
on_every_ok (Ok nothing) x = x
on_every_ok (Err e) x = tt

-- a reply that isn't written is the one fault
pub write_alone : (r : Result (Unit {0}) ServeFault) → IfErr r (λ e. e ≡ fault_of.Write) → IfErr r (λ e. (e ≡ fault_of.Write) ⊎ (e ≡ fault_of.OutOfMemory))
write_alone (Ok nothing) is = tt
write_alone (Err e) is = inl is

pub write_is_no_memory : {X : Type 0} (r : Result (Unit {0}) ServeFault) → IfErr r (λ e. e ≡ fault_of.Write) → r ≡ Err fault_of.OutOfMemory → X
write_is_no_memory (Ok nothing) is e = absurd (cc)
write_is_no_memory (Err fault_of.Read) is e = absurd (cc)
write_is_no_memory (Err fault_of.Write) is e = absurd (cc)
write_is_no_memory (Err fault_of.TooMuchInput) is e = absurd (cc)
write_is_no_memory (Err fault_of.OutOfMemory) is e = absurd (cc)

pub failed_by_write : (r : Result (Unit {0}) ServeFault) (failed : Bool) → failed ≡ is_err r → IfErr r (λ e. e ≡ fault_of.Write) → failed ≡ is_write r
failed_by_write (Ok nothing) failed same is = same
failed_by_write (Err e) failed same is = rw is same

-- an allocation failure isn't a failed write
pub sound_without_memory : (r : Result (Unit {0}) ServeFault) (failed : Bool) → failed ≡ false → IfErr r (λ e. e ≡ fault_of.OutOfMemory) → failed ≡ is_write r
sound_without_memory (Ok nothing) failed same is = same
sound_without_memory (Err e) failed same is = rw is same

pub other_than_write : {e : ServeFault} → (e ≡ fault_of.Write) ⊎ (e ≡ fault_of.OutOfMemory) → e ≢ fault_of.Write → e ≡ fault_of.OutOfMemory
other_than_write which other = elim which [ inl e ↦ absurd (other e) | inr e ↦ e ]

pub write_not_memory : (r : Result (Unit {0}) ServeFault) → IsErrOf r fault_of.Write → r ≢ Err fault_of.OutOfMemory
write_not_memory r is other = absurd (cc)

-- ---- what a chunk does

-- the rest at its first newline
pub cut_at : (rest : List ℕ) (end : ℕ) → IsFirstByte (is_byte 10) rest (Some end) → rest ≡ take end rest ++ (10 ∷ drop (end + 1) rest)
cut_at rest end found = sym (take-append-drop end rest) ∙ ap (λ l. take end rest ++ l) (newline_at rest end found)

-- the stretch goes on by the line and its newline
pub whole_line : (stretch rest later part all : List ℕ) (end : ℕ) → part ≡ take end rest → later ≡ drop (end + 1) rest
    → IsFirstByte (is_byte 10) rest (Some end) → stretch ++ rest ≡ all → (stretch ++ (part ++ 10 ∷ [])) ++ later ≡ all
whole_line stretch rest later part all end part_is later_is found e =
    let cut : rest ≡ take end rest ++ (10 ∷ drop (end + 1) rest) = sym (take-append-drop end rest) ∙ ap (λ l. take end rest ++ l) (newline_at rest end found) in
    let joined : (stretch ++ (take end rest ++ 10 ∷ [])) ++ drop (end + 1) rest ≡ stretch ++ (take end rest ++ (10 ∷ drop (end + 1) rest)) =
    append_assoc stretch (take end rest ++ 10 ∷ []) (drop (end + 1) rest)
    ∙ ap (λ l. stretch ++ l) (append_assoc (take end rest) (10 ∷ []) (drop (end + 1) rest)) in
    rw (part_is, later_is) (joined ∙ ap (λ l. stretch ++ l) (sym cut) ∙ e)
