-- Lines that were carried out, one after another.
use Rattle.std.proofs.Common.{arith, ◌≡◌, ◌∙◌, ℕ, ◌+◌, ◌<◌, ◌≤◌, Option, Some, None, Result, Ok, Err, List}
use Rattle.std.proofs.Common.{[], ◌∷◌, ◌++◌, length, map, get_or, take, drop, Vec, Global, refl, sym, ap, subst, append_assoc, append-nil, length-append}
use Rattle.std.proofs.lemmas.List.{map_more, nil_from_length}
use Rattle.std.specs.Prelude.{OnErr}
use Rattle.byte_io.specs.Journal.{IsQuiet}
use Rattle.site_serving.specs.declared.commands.Commands as commands
use Rattle.memchr.specs.Find.{IsFirstByte, is_byte}
use Rattle.site_replies.specs.Reply.{ReplyData, bytes_of}
use Rattle.site_serving.specs.Lines.{lines_of}
use Rattle.site_serving.specs.Served.{Replied, Serves, lines_in, written_for, history_of}
use Rattle.site_serving.proofs.Histories.{Serves-append, history-append, lines-append, written-append}
use Rattle.site_serving.proofs.LineLists.{lines_of-line, lines_of-last, lines_of-nil}
use Rattle.site_serving.proofs.Newlines.{cut_at, newline_at, no_newline_at_all, no_newline_before}
use Rattle.site_http.specs.declared.site_pages.SitePages.{SitePages}
use Rattle.site_http.specs.Pages.{Follows, waiting_of, most_edits}

module _ {C J V : Type 0} (c : commands.Ghosts C) where
  -- no line was carried out
  pub Follows-nil : (s : SitePages C J V) → Follows c [] s s
  Follows-nil s = record {
    served = refl;
    fixed = refl;
    wait = λ sound. (sound, sym (append-nil (waiting_of s)));
    counted = λ fits. omega arith;
    start = refl;
    journal = refl;
  }

  -- lines, and others after them
  pub Follows-then : (before after : List Replied) (x y z : SitePages C J V) → Follows c before x y → Follows c after y z
      → Follows c (before ++ after) x z
  Follows-then before after x y z first then =
      let joined = history-append c.keeps before after in
      record {
        served = Serves-append (c.replies (c.fixed x.commands)) _ _ _ before after first.served
            (subst (λ f. Serves (c.replies f) (c.state y.commands) after (c.state z.commands)) first.fixed then.served);
        fixed = then.fixed ∙ first.fixed;
        wait = λ sound.
            let later = then.wait sound in
            let earlier = first.wait later.0 in (
              earlier.0,
              later.1 ∙ ap (λ l. l ++ history_of c.keeps after) earlier.1
                  ∙ append_assoc (waiting_of x) (history_of c.keeps before) (history_of c.keeps after)
                  ∙ ap (λ l. waiting_of x ++ l) (sym joined),
            );
        counted = λ fits.
            let long = ap length joined ∙ length-append (history_of c.keeps before) (history_of c.keeps after) in
            let first_fits : x.tag.edits + length (history_of c.keeps before) ≤ most_edits = omega (arith, long, fits) in
            let one = first.counted first_fits in
            let two = then.counted (omega (arith, long, fits, one)) in
            omega (arith, long, one, two);
        start = then.start ∙ first.start;
        journal = then.journal ∙ first.journal;
      }

-- ---- journals in which nothing was written and nothing committed

module _ {J : Type 0} (written contents : J → Option (List ℕ)) (is_open : J → Type 0) (may_hold : J → List (List ℕ) → Type 0) where
  pub IsQuiet-same : (a : J) → IsQuiet written contents is_open may_hold a a
  IsQuiet-same a = record { same = refl; held = λ held may. may }

  pub IsQuiet-then : (a b c : J) → IsQuiet written contents is_open may_hold a b → IsQuiet written contents is_open may_hold b c
      → IsQuiet written contents is_open may_hold a c
  IsQuiet-then a b c first then = record { same = then.same ∙ first.same; held = λ held may. first.held held (then.held held may) }

-- ---- the lines of a body, one after another

-- the first line of what is left got its reply
pub lines_step : (lines rest : List ℕ) (done : List Replied) (end : ℕ) (reply : ReplyData) → IsFirstByte (is_byte 10) rest (Some end)
    → lines_of lines ≡ lines_in done ++ lines_of rest
    → lines_of lines ≡ lines_in (done ++ record { line = take end rest; reply = reply } ∷ []) ++ lines_of (drop 1 (drop end rest))
lines_step lines rest done end reply found whole =
    let later = drop (end + 1) rest in
    let cut = ap lines_of (cut_at rest end found) ∙ lines_of-line (take end rest) later (no_newline_before rest end found) in
    whole ∙ ap (λ l. lines_in done ++ l) cut ∙ sym (append_assoc (lines_in done) (take end rest ∷ []) (lines_of later))
    ∙ ap (λ l. l ++ lines_of later) (sym (lines-append done (record { line = take end rest; reply = reply } ∷ [])))
    ∙ ap (λ l. lines_in (done ++ record { line = take end rest; reply = reply } ∷ []) ++ lines_of l)
    (sym (ap (drop 1) (newline_at rest end found)))

-- and so did the last one
pub lines_last : (lines rest : List ℕ) (done : List Replied) (reply : ReplyData) → IsFirstByte (is_byte 10) rest None → 0 < length rest
    → lines_of lines ≡ lines_in done ++ lines_of rest → lines_of lines ≡ lines_in (done ++ record { line = rest; reply = reply } ∷ [])
lines_last lines rest done reply none some whole =
    whole ∙ ap (λ l. lines_in done ++ l) (lines_of-last rest (no_newline_at_all rest none) some)
    ∙ sym (lines-append done (record { line = rest; reply = reply } ∷ []))

-- nothing is left
pub lines_end : (lines rest : List ℕ) (done : List Replied) → length rest ≡ 0 → lines_of lines ≡ lines_in done ++ lines_of rest
    → lines_of lines ≡ lines_in done
lines_end lines rest done empty whole =
    whole ∙ ap (λ l. lines_in done ++ l) (ap lines_of (nil_from_length rest empty) ∙ lines_of-nil) ∙ append-nil (lines_in done)

-- one more reply
pub written_step : (done : List Replied) (line : List ℕ) (reply : ReplyData) (old new : List ℕ) → old ≡ written_for done → new ≡ old ++ bytes_of reply
    → new ≡ written_for (done ++ record { line = line; reply = reply } ∷ [])
written_step done line reply old new before more =
    more ∙ ap (λ l. l ++ bytes_of reply) before ∙ ap (λ l. written_for done ++ l) (sym (append-nil (bytes_of reply)))
    ∙ sym (written-append done (record { line = line; reply = reply } ∷ []))

-- what holds anyway holds of every error
pub on_any_err : {A E X : Type 0} (r : Result A E) → X → OnErr r X
on_any_err (Ok a) x = tt
on_any_err (Err e) x = x

-- one more line
pub items_more : (lines : List (Vec ℕ Global)) (i : ℕ) (line : Vec ℕ Global) → i < length lines → line ≡ get_or lines i line
    → map (λ v. v.items) (take (i + 1) lines) ≡ map (λ v. v.items) (take i lines) ++ line.items ∷ []
items_more lines i line inside is =
    map_more (λ v. v.items) lines i line inside ∙ ap (λ v. map (λ w. w.items) (take i lines) ++ v.items ∷ []) (sym is)
