-- How one frame is dealt with.
use Rattle.std.proofs.Common.{arith, inl, inr, ◌≡◌, ◌⊎◌, ◌∙◌, ℕ, ◌+◌, ◌<◌, ◌≤◌, Bool, true, false, cond, List, [], ◌∷◌, ◌++◌, length, Option, None, Some, Result, Ok, Err, refl, sym, ap, subst, append_assoc, append-nil, eq-eqb, flat_map}
use Rattle.std.specs.Prelude.{◌||◌, ◌==◌, All, OnErr, OnOk, nat_eq}
use Rattle.std.specs.BTreeMap.{btree_map_len, get}
use Rattle.std.specs.Ordering.{is_eq, nat_cmp}
use Rattle.std.proofs.lemmas.Bool.{cases_Bool, eqb-true}
use Rattle.std.proofs.lemmas.Grind.{common_steps, flat_map-append}
use Rattle.std.proofs.lemmas.List.{length-append}
use Rattle.std.proofs.lemmas.List.Elements.{All-nil, All-push}
use Rattle.http.specs.declared.request.Request.{Request}
use Rattle.http_streams.specs.Frame.{FrameData}
use Rattle.http_server.specs.declared.connection.Connection.{Connection}
use Rattle.http_server.specs.declared.response.Response.{Response}
use Rattle.http_server.specs.Connection.{config_of, history}
use Rattle.http_server.specs.History.{History, new_history}
use Rattle.http_streams.specs.Deeds.{Deed, IsSession, piece_bytes, pieces_bytes}
use Rattle.http_streams.specs.Part.{IsPart}
use Rattle.http_streams.specs.Tables.{AreKnown, IsDone, IsTableOf, TurnsAway}
use Rattle.http_streams.specs.Taking.{IsTakenAfter, has_ended}
use Rattle.http_streams.specs.declared.table.Table.{Table}
use Rattle.http_streams.proofs.Parts.{IsKept}
use Rattle.http_streams.proofs.Taking.{ended_now, ended_then, of_push, taken_push}
use Rattle.http_streams.proofs.Sessions.{IsWhole, kept-whole, session_idle, session_new, session_other, session_same, untouched_idle, untouched_other}

-- the map finds a key as numbers are equal
pub tested : (a b : ℕ) → is_eq (nat_cmp a b) ≡ nat_eq a b
tested a b = grind (arith, common_steps)

module _ (frame : FrameData) (deeds : List Deed) (old : Table) (is : IsTableOf deeds old) (d : Deed) (framed : d.frame ≡ frame) where
  abbrev all : List Deed
  all = deeds ++ d ∷ []

  -- ---- a deed that did nothing

  module _ (taken : d.taken ≡ []) (sent : flat_map (λ piece. piece) d.sent ≡ []) (rounds : d.rounds ≡ []) where
    pub idle_known : AreKnown old.config all
    idle_known number = elim (is.known number) [
      | inl u ↦ inl (untouched_idle old.config deeds d number taken sent rounds u)
      | inr (c, s) ↦ inr (c, session_idle old.config deeds d number c taken sent rounds s)
    ]

    pub idle_table : (new : Table) → ((other : ℕ) → get nat_cmp new.connections other
        ≡ cond (is_eq (nat_cmp frame.connection other)) None (get nat_cmp old.connections other))
        → TurnsAway old new frame.connection → btree_map_len new.connections ≤ btree_map_len old.connections → new.config ≡ old.config
        → IsTakenAfter deeds d → IsTableOf all new
    idle_table new left away few config after =
        let found : (number : ℕ) (c : Connection) → get nat_cmp new.connections number ≡ Some c → get nat_cmp old.connections number ≡ Some c =
        λ number c at. elim (cases_Bool (is_eq (nat_cmp frame.connection number))) [
          | inl same ↦ let bad = rw same at (sym (left number) ∙ at) in absurd (cc)
          | inr other ↦ rw other at (sym (left number) ∙ at)
        ] in
        record {
          session = λ number c at. subst (λ k. IsSession k number all c) (sym config)
              (session_idle old.config deeds d number c taken sent rounds (is.session number c (found number c at)));
          known = subst (λ k. AreKnown k all) (sym config) idle_known;
          kept = All-push IsWhole deeds d is.kept (rw rounds (All-nil IsKept));
          within = λ number c at. let before = is.within number c (found number c at) in let grows = away.grows in omega (arith, before, grows);
          unused = λ number above. let grows = away.grows in
              untouched_idle old.config deeds d number taken sent rounds (is.unused number (omega (arith, above, grows)));
          latest = λ number positive below.
              let each = of_push (λ e. e.frame.connection < number) deeds d below in
              let before = is.latest number positive each.0 in
              let this : frame.connection < number = subst (λ f. f.connection < number) framed each.1 in
              elim away.latest [ inl same ↦ omega (arith, same, before) | inr own ↦ omega (arith, own, this) ];
          few = let fewer = is.few in let one = length-append deeds (d ∷ []) in omega (arith, few, fewer, one);
          ends = λ number c at yes. ended_then number deeds d (is.ends number c (found number c at) yes);
          taken = taken_push [] deeds d is.taken after;
        }

  -- ---- a deed of a connection

  module _ (begun : Connection) (new : Connection) (session : IsSession old.config frame.connection deeds begun)
      (went : IsSession old.config frame.connection all new) where
    other_is : (number : ℕ) → nat_eq frame.connection number ≡ false → nat_eq d.frame.connection number ≡ false
    other_is number apart = ap (λ f. nat_eq f.connection number) framed ∙ apart

    pub part_known : AreKnown old.config all
    part_known number = elim (cases_Bool (nat_eq frame.connection number)) [
      | inl same ↦ inr (new, subst (λ n. IsSession old.config n all new) (eqb-true frame.connection number same) went)
      | inr apart ↦ elim (is.known number) [
        | inl u ↦ inl (untouched_other old.config deeds d number (other_is number apart) u)
        | inr (c, s) ↦ inr (c, session_other old.config deeds d number c (other_is number apart) s)
      ]
    ]

    -- the table without the connection, or with it
    pub part_table : (table : Table) (entry : Option Connection) → (entry ≡ None) ⊎ (entry ≡ Some new)
        → ((other : ℕ) → get nat_cmp table.connections other ≡ cond (nat_eq frame.connection other) entry (get nat_cmp old.connections other))
        → old.last ≤ table.last → frame.connection ≤ table.last → (table.last ≡ old.last) ⊎ (table.last ≡ frame.connection)
        → btree_map_len table.connections ≤ btree_map_len old.connections + 1 → table.config ≡ old.config → All IsKept d.rounds
        → ((history new).ended ≡ true → has_ended frame.connection all ≡ true) → IsTakenAfter deeds d → IsTableOf all table
    part_table table entry which put grows above latest few config kept ends after = record {
      session = λ number c at. subst (λ k. IsSession k number all c) (sym config) (elim (cases_Bool (nat_eq frame.connection number)) [
        | inl same ↦
            let got : entry ≡ Some c = rw same at (sym (put number) ∙ at) in
            elim which [
              | inl none ↦ let bad : None ≡ Some c = sym none ∙ got in absurd (cc)
              | inr some ↦
                  let one : Some new ≡ Some c = sym some ∙ got in
                  let this : new ≡ c = cc in
                  subst (λ n. IsSession old.config n all c) (eqb-true frame.connection number same) (subst (IsSession old.config frame.connection all) this went)
            ]
        | inr apart ↦ session_other old.config deeds d number c (other_is number apart) (is.session number c (rw apart at (sym (put number) ∙ at)))
      ]);
      known = subst (λ k. AreKnown k all) (sym config) part_known;
      kept = All-push IsWhole deeds d is.kept kept;
      within = λ number c at. elim (cases_Bool (nat_eq frame.connection number)) [
        | inl same ↦ subst (λ n. n ≤ table.last) (eqb-true frame.connection number same) above
        | inr apart ↦ let before = is.within number c (rw apart at (sym (put number) ∙ at)) in omega (arith, before, grows)
      ];
      unused = λ number over. elim (cases_Bool (nat_eq frame.connection number)) [
        | inl same ↦ let here = eqb-true frame.connection number same in absurd (omega (arith, here, over, above))
        | inr apart ↦ untouched_other old.config deeds d number (other_is number apart) (is.unused number (omega (arith, over, grows)))
      ];
      latest = λ number positive below.
          let each = of_push (λ e. e.frame.connection < number) deeds d below in
          let before = is.latest number positive each.0 in
          let this : frame.connection < number = subst (λ f. f.connection < number) framed each.1 in
          elim latest [ inl same ↦ omega (arith, same, before) | inr own ↦ omega (arith, own, this) ];
      few = let fewer = is.few in let one = length-append deeds (d ∷ []) in omega (arith, few, fewer, one);
      ends = λ number c at yes. elim (cases_Bool (nat_eq frame.connection number)) [
        | inl same ↦
            let got : entry ≡ Some c = rw same at (sym (put number) ∙ at) in
            elim which [
              | inl none ↦ let bad : None ≡ Some c = sym none ∙ got in absurd (cc)
              | inr some ↦
                  let one : Some new ≡ Some c = sym some ∙ got in
                  let this : new ≡ c = cc in
                  subst (λ n. has_ended n all ≡ true) (eqb-true frame.connection number same) (ends (ap (λ k. (history k).ended) this ∙ yes))
            ]
        | inr apart ↦ ended_then number deeds d (is.ends number c (rw apart at (sym (put number) ∙ at)) yes)
      ];
      taken = taken_push [] deeds d is.taken after;
    }

-- where a connection stands as it is taken out
pub record IsBegun (number : ℕ) (deeds : List Deed) (old : Table) (c : Connection) (last : ℕ) : Type 0 where
  pub session : IsSession old.config number deeds c
  pub grows : old.last ≤ last
  pub above : number ≤ last
  pub latest : (last ≡ old.last) ⊎ (last ≡ number)
  pub ends : (history c).ended ≡ true → has_ended number deeds ≡ true

pub taken_session : (number : ℕ) (deeds : List Deed) (old : Table) (is : IsTableOf deeds old) (c : Connection) (last : ℕ)
    → ((get nat_cmp old.connections number ≡ Some c) × (last ≡ old.last))
    ⊎ ((old.last < number) × (last ≡ number) × (history c ≡ new_history) × (config_of c ≡ old.config))
    → IsBegun number deeds old c last
taken_session number deeds old is c last (inl (got, same)) =
    let within = is.within number c got in record {
      session = is.session number c got;
      grows = omega (arith, same);
      above = omega (arith, same, within);
      latest = inl same;
      ends = is.ends number c got;
    }
taken_session number deeds old is c last (inr (above, same, empty, config)) = record {
  session = session_new old.config number deeds c (is.unused number above) empty config;
  grows = omega (arith, same, above);
  above = omega (arith, same);
  latest = inr same;
  ends = λ yes. let bad : false ≡ true = sym (ap (λ (h : History). h.ended) empty) ∙ yes in absurd (cc);
}

-- a frame that no connection takes
pub turned_away : (frame : FrameData) (deeds : List Deed) (old new : Table) (is : IsTableOf deeds old) (d : Deed) → d.frame ≡ frame → d.taken ≡ []
    → d.sent ≡ [] ∷ [] → TurnsAway old new frame.connection → IsTakenAfter deeds d
turned_away frame deeds old new is d framed taken told away = inr (record {
  taken = taken;
  told = told;
  full = λ positive below.
      let number : ℕ = d.frame.connection in
      let same : number ≡ frame.connection = ap (λ f. f.connection) framed in
      let before = is.latest number positive below in
      let full = away.full (omega (arith, before, same)) in
      let few = is.few in
      omega (arith, full, few);
})

-- ---- what is done for a frame of a connection

module _ {S E : Type 0} (answers : S → Request (List ℕ) → Response → S → Type 0) (settles : S → Bool → S → Type 0) (frame : FrameData) (deeds : List Deed)
    (old : Table) (is : IsTableOf deeds old) (begun new : Connection) (session : IsSession old.config frame.connection deeds begun) (before after : S)
    (out_before out_mid : List ℕ) (r : Result (Unit {0}) E) (part : IsPart answers settles frame.connection frame.bytes begun new before after out_before out_mid r)
    (more : List (List ℕ)) (none : flat_map (λ piece. piece) more ≡ []) where
  abbrev pub deed_of : Deed
  deed_of = record { frame = frame; taken = part.taken; rounds = part.rounds; sent = part.pieces ++ more }

  pub went : IsSession old.config frame.connection (deeds ++ deed_of ∷ []) new
  went = session_same old.config deeds deed_of begun new session (kept-whole frame.connection deeds is.kept) part.config part.received
      (part.sent ∙ ap (λ l. (history begun).sent ++ l) (sym (flat_map-append (λ piece. piece) part.pieces more ∙ ap (λ l. flat_map (λ piece. piece) part.pieces ++ l) none ∙ append-nil _)))
      part.calls part.cleared

  -- how the client's end is known, and that all of the frame is taken, if this went well
  pub ended_so : ((history begun).ended ≡ true → has_ended frame.connection deeds ≡ true)
      → ((history new).ended ≡ ((history begun).ended || length frame.bytes == 0))
      → (history new).ended ≡ true → has_ended frame.connection (deeds ++ deed_of ∷ []) ≡ true
  ended_so ends now gone = elim (cases_Bool (history begun).ended) [
    | inl was ↦ ended_then frame.connection deeds deed_of (ends was)
    | inr not_yet ↦ ended_now frame.connection deeds deed_of (eq-eqb frame.connection frame.connection refl)
        (let is : (false || length frame.bytes == 0) ≡ true = subst (λ b. (b || length frame.bytes == 0) ≡ true) not_yet (sym now ∙ gone) in is)
  ]

  pub taken_so : ((history begun).ended ≡ true → has_ended frame.connection deeds ≡ true) → ((history begun).ended ≡ false → part.left ≡ [])
      → IsTakenAfter deeds deed_of
  taken_so ends all = inl (λ going. elim (cases_Bool (history begun).ended) [
    | inl was ↦ let bad : true ≡ false = sym (ends was) ∙ going in absurd (cc)
    | inr not_yet ↦ sym (part.cut ∙ ap (λ l. part.taken ++ l) (all not_yet) ∙ append-nil part.taken)
  ])

  pub dealt : {F : Type 0} (out_after : List ℕ) (result : Result (Unit {0}) F) (table : Table) → out_after ≡ out_mid ++ pieces_bytes frame.connection more
      → OnOk result (All IsKept part.rounds) → OnOk result (IsTableOf (deeds ++ deed_of ∷ []) table)
      → IsDone answers settles frame deeds old table before after out_before out_after result
  dealt out_after result table output kept table_is = record {
    deed = deed_of;
    frame_is = refl;
    taken = (part.left, part.cut);
    output = output ∙ ap (λ l. l ++ pieces_bytes frame.connection more) part.output ∙ append_assoc out_before (pieces_bytes frame.connection part.pieces) (pieces_bytes frame.connection more)
        ∙ ap (λ l. out_before ++ l) (sym (flat_map-append (piece_bytes frame.connection) part.pieces more));
    served = part.served;
    stops = part.stops;
    kept = kept;
    known = part_known frame deeds old is deed_of refl begun new session went;
    table = table_is;
  }

-- an entry that is taken out, and one that is put in its place
pub taken_entry : {X : Type 0} (a b : ℕ) (x y : Option X) → x ≡ cond (is_eq (nat_cmp a b)) None y → x ≡ cond (nat_eq a b) None y
taken_entry a b x y is = is ∙ ap (λ t. cond t None y) (tested a b)

cond_twice : {X : Type 0} (t : Bool) (e y : Option X) → cond t e (cond t None y) ≡ cond t e y
cond_twice true e y = refl
cond_twice false e y = refl

pub put_entry : {X : Type 0} (a b : ℕ) (e x y z : Option X) → z ≡ cond (is_eq (nat_cmp a b)) e x → x ≡ cond (is_eq (nat_cmp a b)) None y → z ≡ cond (nat_eq a b) e y
put_entry a b e x y z put took =
    put ∙ ap (cond (is_eq (nat_cmp a b)) e) took ∙ cond_twice (is_eq (nat_cmp a b)) e y ∙ ap (λ t. cond t e y) (tested a b)

-- the frame without bytes that an end is told by, unless memory for it ran out
pub pushed : {E : Type 0} (number : ℕ) (old new : List ℕ) (r : Result (Unit {0}) E) → OnOk r (new ≡ old ++ pieces_bytes number ([] ∷ [])) → OnErr r (new ≡ old)
    → (pieces : List (List ℕ)) × (new ≡ old ++ pieces_bytes number pieces) × (flat_map (λ piece. piece) pieces ≡ []) × OnOk r (pieces ≡ [] ∷ [])
pushed number old new (Ok x) ok err = ([] ∷ [], ok, refl, refl)
pushed number old new (Err e) ok err = ([], err ∙ sym (append-nil old), refl, tt)

-- what follows from what holds of a success
pub on_ok : {A E X Y : Type 0} (r : Result A E) → OnOk r X → (X → Y) → OnOk r Y
on_ok (Ok a) x f = f x
on_ok (Err e) x f = tt
