-- Calls of a site, in rounds.
use Rattle.std.proofs.Common.{arith, ◌≡◌, inl, inr, ◌∙◌, ℕ, Bool, true, false, List, [], ◌∷◌, ◌++◌, length, Option, Some, Result, Ok, Err, refl, sym, ap, subst, append_assoc, append-nil, length-append}
use Rattle.std.proofs.lemmas.List.{nil_from_length}
use Rattle.std.proofs.lemmas.List.Elements.{All-head, All-tail}
use Rattle.std.specs.Prelude.{All, OnOk, option_map}
use Rattle.std.specs.String.{string_bytes}
use Rattle.byte_io.specs.Journal.{Grows, IsSettled}
use Rattle.byte_io.specs.declared.journal.Journal as journals
use Rattle.http.specs.Request.{head_of, body_of}
use Rattle.http_messages.specs.Request.{WantedData, page, commands, refused, wanted_of, condition_in}
use Rattle.http_pages.specs.declared.pages.Pages as pages
use Rattle.http_pages.specs.declared.service.PageService.{PageService}
use Rattle.http_pages.specs.Service.{Responds, RespondsTo}
use Rattle.http_streams.specs.Losses.{StopsAtALoss}
use Rattle.http_server.specs.declared.response.Response.{Response}
use Rattle.http_server.specs.Exchange.{Call, Chain}
use Rattle.http_server.specs.Rounds.{Round, Rounds, all_of, kept_of}
use Rattle.site_serving.specs.declared.commands.Commands as carrying
use Rattle.site_serving.specs.Served.{Replied, Serves, lines_in, history_of}
use Rattle.site_serving.proofs.Histories.{Serves-append, history-append}
use Rattle.site_serving.proofs.Journals.{Grows-trans}
use Rattle.site_http.specs.declared.site_pages.SitePages.{SitePages}
use Rattle.site_http.specs.Ahead.{AreLinesOf, HoldsEdits, lines_wanted}
use Rattle.site_http.specs.Pages.{CarriesOutAll, CarriesOutSome, CommitsWaiting, Follows, ShowsPage, page_line, waiting_of}
use Rattle.site_http.proofs.Following.{Follows-nil, Follows-then}

-- the lines of calls, and of calls after them
pub lines-then : (token : Option (List ℕ)) (calls others : List Call) (xs ys : List Replied) → AreLinesOf token calls xs → AreLinesOf token others ys
    → AreLinesOf token (calls ++ others) (xs ++ ys)
lines-then token [] others xs ys is are = subst (AreLinesOf token others) (ap (λ l. l ++ ys) (sym is)) are
lines-then token (call ∷ calls) others xs ys (first, later, cut, is, rest) are =
    (first, later ++ ys, ap (λ l. l ++ ys) cut ∙ append_assoc first later ys, is, lines-then token calls others later ys rest are)

-- ---- rounds that were all committed

abbrev IsKept : Round Call → Type 0
IsKept r = r.1 ≡ true

all_kept : (rounds : List (Round Call)) → All IsKept rounds → kept_of rounds ≡ all_of rounds
all_kept [] kept = refl
all_kept ((calls, true) ∷ rounds) kept = ap (λ l. calls ++ l) (all_kept rounds (All-tail IsKept (calls, true) rounds kept))
all_kept ((calls, false) ∷ rounds) kept = let bad : false ≡ true = All-head IsKept (calls, false) rounds kept in absurd (cc)

-- no call was lost
pub none_lost : (rounds : List (Round Call)) (more lost : List Call) → all_of rounds ≡ kept_of rounds ++ (more ++ lost) → All IsKept rounds → lost ≡ []
none_lost rounds more lost calls kept =
    let same = ap length (all_kept rounds kept) in
    let whole = ap length calls in
    let first = length-append (kept_of rounds) (more ++ lost) in
    let second = length-append more lost in
    nil_from_length lost (omega (arith, same, whole, first, second))

pub none_lost_if_ok : {A E : Type 0} (result : Result A E) (rounds : List (Round Call)) (more lost : List Call)
    → all_of rounds ≡ kept_of rounds ++ (more ++ lost) → OnOk result (All IsKept rounds) → OnOk result (lost ≡ [])
none_lost_if_ok (Ok a) rounds more lost calls kept = none_lost rounds more lost calls kept
none_lost_if_ok (Err e) rounds more lost calls kept = tt

module _ {C J V : Type 0} (c : carrying.Ghosts C) (j : journals.Ghosts J) (g : pages.Ghosts (SitePages C J V))
    (shows : g.shows ≡ ShowsPage c) (carries : g.carries_out ≡ CarriesOutAll c) (breaks : g.breaks_off ≡ CarriesOutSome c)
    (commits : g.commits ≡ CommitsWaiting j) where
  -- ---- one call

  abbrev Lines : WantedData → SitePages C J V → SitePages C J V → Type 0
  Lines wanted old new = (replied : List Replied) × (further : List (List ℕ)) × (lines_wanted wanted ≡ lines_in replied ++ further) × Follows c replied old new

  -- nothing was carried out
  none_of : (wanted : WantedData) (old new : SitePages C J V) → new ≡ old → Lines wanted old new
  none_of wanted old new same = ([], lines_wanted wanted, refl, subst (Follows c [] old) (sym same) (Follows-nil c old))

  responds_by : (wanted : WantedData) (condition : Option (List ℕ)) (old : SitePages C J V) (r : Response) (new : SitePages C J V)
      → RespondsTo g wanted condition old r new → Lines wanted old new
  responds_by (page path) condition old r new (reply, shown, said) =
      let is : ShowsPage c old path reply new = subst (λ f. f old path reply new) shows shown in
      elim is [ inl follows ↦ (record { line = page_line path; reply = reply } ∷ [], [], refl, follows) | inr (none, same) ↦ none_of (page path) old new same ]
  responds_by (commands lines) condition old r new (inl (replies, done, said)) =
      let all : CarriesOutAll c old lines replies new = subst (λ f. f old lines replies new) carries done in
      (all.replied, [], all.whole ∙ sym (append-nil (lines_in all.replied)), all.follows)
  responds_by (commands lines) condition old r new (inr (done, said)) =
      let some : CarriesOutSome c old lines new = subst (λ f. f old lines new) breaks done in
      (some.replied, some.further, some.first, some.follows)
  responds_by (refused fault) condition old r new (same, said) = none_of (refused fault) old new same

  abbrev token_of : PageService (SitePages C J V) → Option (List ℕ)
  token_of s = option_map string_bytes s.token

  -- ---- the calls of a round

  pub chain_lines : (old new : PageService (SitePages C J V)) (calls : List Call) → Chain (Responds g) old calls new
      → (replied : List Replied) × AreLinesOf (token_of old) calls replied × Follows c replied old.pages new.pages × (token_of new ≡ token_of old)
  chain_lines old new [] same =
      ([], refl, subst (λ (s : PageService (SitePages C J V)). Follows c [] old.pages s.pages) (sym same) (Follows-nil c old.pages), ap token_of same)
  chain_lines old new (call ∷ calls) (next, responds, later) =
      let one = responds_by (wanted_of (token_of old) (head_of call.0) (body_of call.0)) (condition_in (head_of call.0).headers) old.pages call.1 next.pages responds.responds in
      let others = chain_lines next new calls later in
      let token : token_of next ≡ token_of old = ap (option_map string_bytes) responds.token in (
        one.0 ++ others.0,
        (one.0, others.0, refl, record { further = one.1; first = one.2 }, subst (λ t. AreLinesOf t calls others.0) token others.1),
        Follows-then c one.0 others.0 old.pages next.pages new.pages one.3 others.2,
        others.3 ∙ token,
      )

  -- ---- all rounds

  -- all that was noted is committed, and no edit waits
  pub record IsAtRest (s : SitePages C J V) : Type 0 where
    pub settled : IsSettled j.written j.contents j.is_open j.may_hold j.noted s.journal
    pub none : waiting_of s ≡ []
    pub sound : s.is_lost ≡ false

  abbrev Holds : Option (List ℕ) → List (Round Call) → SitePages C J V → SitePages C J V → List (List ℕ) → Type 0
  Holds = HoldsEdits c j

  -- a settled log holds what was noted
  rest_holds : (s : SitePages C J V) (held : List (List ℕ)) → IsAtRest s → j.may_hold s.journal held → Grows (j.noted s.journal) (Some held) []
  rest_holds s held rest may = rw (rest.settled.committed held may) (sym (append-nil held))

  -- the edits that wait after a round that began at rest
  waits_for : (old called : SitePages C J V) (replied : List Replied) → IsAtRest old → Follows c replied old called → called.is_lost ≡ false
      → waiting_of called ≡ history_of c.keeps replied
  waits_for old called replied rest follows sound = (follows.wait sound).1 ∙ ap (λ l. l ++ history_of c.keeps replied) rest.none

  -- a round that was committed leaves the site at rest
  next_rest : (old called next : SitePages C J V) (replied : List Replied) → IsAtRest old → Follows c replied old called → CommitsWaiting j called true next
      → IsAtRest next
  next_rest old called next replied rest follows commit = record {
    settled = commit.settled refl (subst j.is_open (sym follows.journal) rest.settled.opened);
    none = (commit.none refl).1;
    sound = (commit.none refl).0;
  }

  next_noted : (old called next : SitePages C J V) (replied : List Replied) → IsAtRest old → Follows c replied old called → CommitsWaiting j called true next
      → Grows (j.noted old.journal) (j.noted next.journal) (history_of c.keeps replied)
  next_noted old called next replied rest follows commit =
      let noted = commit.noted refl in
      subst (Grows (j.noted old.journal) (j.noted next.journal)) (waits_for old called replied rest follows noted.0)
      (subst (λ x. Grows (j.noted x) (j.noted next.journal) (waiting_of called)) follows.journal noted.1)

  -- the lines of the last round, which was lost
  lost_holds : (token : Option (List ℕ)) (calls : List Call) (old called next : SitePages C J V) (replied : List Replied) (held : List (List ℕ)) → IsAtRest old
      → AreLinesOf token calls replied → Follows c replied old called → CommitsWaiting j called false next → j.may_hold next.journal held
      → Holds token ((calls, false) ∷ []) old next held
  lost_holds token calls old called next replied held rest are follows commit may =
      let state : Serves (c.replies (c.fixed old.commands)) (c.state old.commands) replied (c.state next.commands) =
      subst (λ x. Serves (c.replies (c.fixed old.commands)) (c.state old.commands) replied (c.state x)) (sym commit.commands) follows.served in
      elim (commit.crash held may) [
        | inl before ↦ record {
          more = [];
          lost = calls;
          calls = append-nil calls;
          told_lines = [];
          more_lines = [];
          lost_lines = replied;
          are_told = refl;
          are_more = refl;
          are_lost = are;
          served = state;
          edits = rest_holds old held rest (subst (λ x. j.may_hold x held) follows.journal before);
        }
        | inr (sound, (meant, grows, is)) ↦ record {
          more = calls;
          lost = [];
          calls = refl;
          told_lines = [];
          more_lines = replied;
          lost_lines = [];
          are_told = refl;
          are_more = are;
          are_lost = refl;
          served = subst (λ l. Serves (c.replies (c.fixed old.commands)) (c.state old.commands) l (c.state next.commands)) (sym (append-nil replied)) state;
          edits = subst (λ m. Grows (j.noted old.journal) m (history_of c.keeps replied)) is
              (subst (Grows (j.noted old.journal) meant) (waits_for old called replied rest follows sound)
              (subst (λ x. Grows (j.noted x) meant (waiting_of called)) follows.journal grows));
        }
      ]

  -- one more round before others
  kept_holds : (token : Option (List ℕ)) (calls : List Call) (rounds : List (Round Call)) (old called next new : SitePages C J V) (replied : List Replied) (held : List (List ℕ))
      → IsAtRest old → AreLinesOf token calls replied → Follows c replied old called → CommitsWaiting j called true next
      → Holds token rounds next new held → Holds token ((calls, true) ∷ rounds) old new held
  kept_holds token calls rounds old called next new replied held rest are follows commit holds =
      let keeps = c.keeps in
      let first : Serves (c.replies (c.fixed old.commands)) (c.state old.commands) replied (c.state next.commands) =
      subst (λ x. Serves (c.replies (c.fixed old.commands)) (c.state old.commands) replied (c.state x)) (sym commit.commands) follows.served in
      let fixed = ap c.fixed commit.commands ∙ follows.fixed in
      let onward : Serves (c.replies (c.fixed old.commands)) (c.state next.commands) (holds.told_lines ++ (holds.more_lines ++ holds.lost_lines)) (c.state new.commands) =
      subst (λ f. Serves (c.replies f) (c.state next.commands) (holds.told_lines ++ (holds.more_lines ++ holds.lost_lines)) (c.state new.commands)) fixed holds.served in
      let whole = Serves-append (c.replies (c.fixed old.commands)) _ _ _ replied (holds.told_lines ++ (holds.more_lines ++ holds.lost_lines)) first onward in
      let joined = history-append keeps replied (holds.told_lines ++ holds.more_lines) in
      record {
        more = holds.more;
        lost = holds.lost;
        calls = ap (λ l. calls ++ l) holds.calls ∙ sym (append_assoc calls (kept_of rounds) (holds.more ++ holds.lost));
        told_lines = replied ++ holds.told_lines;
        more_lines = holds.more_lines;
        lost_lines = holds.lost_lines;
        are_told = lines-then token calls (kept_of rounds) replied holds.told_lines are holds.are_told;
        are_more = holds.are_more;
        are_lost = holds.are_lost;
        served = subst (λ l. Serves (c.replies (c.fixed old.commands)) (c.state old.commands) l (c.state new.commands))
            (sym (append_assoc replied holds.told_lines (holds.more_lines ++ holds.lost_lines))) whole;
        edits = subst (Grows (j.noted old.journal) (Some held))
            (sym joined ∙ ap (history_of keeps) (sym (append_assoc replied holds.told_lines holds.more_lines)))
            (Grows-trans _ _ _ _ _ (next_noted old called next replied rest follows commit) holds.edits);
      }

  abbrev Settles : PageService (SitePages C J V) → Bool → PageService (SitePages C J V) → Type 0
  Settles old kept new = g.commits old.pages kept new.pages × (new.token ≡ old.token)

  pub rounds_hold : (old new : PageService (SitePages C J V)) (rounds : List (Round Call)) (held : List (List ℕ)) → Rounds (Responds g) Settles old rounds new
      → StopsAtALoss rounds → IsAtRest old.pages → j.may_hold new.pages.journal held → Holds (token_of old) rounds old.pages new.pages held
  rounds_hold old new [] held same stops rest may =
      let at : j.may_hold old.pages.journal held = subst (λ (s : PageService (SitePages C J V)). j.may_hold s.pages.journal held) same may in
      record {
        more = [];
        lost = [];
        calls = refl;
        told_lines = [];
        more_lines = [];
        lost_lines = [];
        are_told = refl;
        are_more = refl;
        are_lost = refl;
        served = ap (λ (s : PageService (SitePages C J V)). c.state s.pages.commands) same;
        edits = rest_holds old.pages held rest at;
      }
  rounds_hold old new ((calls, true) ∷ rounds) held (called, next, chain, settles, later) stops rest may =
      let lines = chain_lines old called calls chain in
      let commit : CommitsWaiting j called.pages true next.pages = subst (λ f. f called.pages true next.pages) commits settles.0 in
      let token : token_of next ≡ token_of old = ap (option_map string_bytes) settles.1 ∙ lines.3 in
      kept_holds (token_of old) calls rounds old.pages called.pages next.pages new.pages lines.0 held rest lines.1 lines.2 commit
      (subst (λ t. Holds t rounds next.pages new.pages held) token
      (rounds_hold next new rounds held later stops.1 (next_rest old.pages called.pages next.pages lines.0 rest lines.2 commit) may))
  rounds_hold old new ((calls, false) ∷ []) held (called, next, chain, settles, same) stops rest may =
      let lines = chain_lines old called calls chain in
      let commit : CommitsWaiting j called.pages false next.pages = subst (λ f. f called.pages false next.pages) commits settles.0 in
      subst (λ (s : PageService (SitePages C J V)). Holds (token_of old) ((calls, false) ∷ []) old.pages s.pages held) (sym same)
      (lost_holds (token_of old) calls old.pages called.pages next.pages lines.0 held rest lines.1 lines.2 commit
      (subst (λ (s : PageService (SitePages C J V)). j.may_hold s.pages.journal held) same may))
  rounds_hold old new ((calls, false) ∷ r ∷ rounds) held (called, next, chain, settles, later) stops rest may =
      elim stops.0 [ inl kept ↦ absurd (cc) | inr none ↦ absurd (cc) ]
