-- The value that the arguments give an option that reads a number.
use Rattle.std.proofs.Common.{◌≡◌, ◌⊎◌, ◌∙◌, ◌<◌, ℕ, pos, true, List, [], ◌∷◌, map, length, zero, suc, Option, Some, None, codes, refl, sym, ap, subst}
use Rattle.std.proofs.Common.{inl, inr, arith, lit<, ◌≤◌, ◌^◌, Result, Ok}
use Rattle.std.specs.Prelude.{Bool, false, not, ◌&&◌, option_map, option_and_then, slice_get, unwrap_or}
use Rattle.std.proofs.lemmas.Bool.{and_parts}
use Rattle.std.specs.List.{All, list_all, slice_index_or}
use Rattle.std.specs.Str.{bytes_eq}
use Rattle.std.specs.Borrow.{Bor}
use Rattle.std.specs.Str.Parse.{ParsesUnsigned}
use Rattle.std.proofs.lemmas.Slice.Eq.{bytes_eq-Decides}
use Rattle.std.proofs.lemmas.List.{length-map}
use Rattle.std.proofs.lemmas.List.Elements.{All-get_or}
use Rattle.clap.specs.Words.{Rule, Text, args_of, groups_of, app_of, rule_of, found_of, matched_of, one_text, without_minus, parser_of, IsParsedFrom}
use Rattle.clap.specs.Words.{SameRules, IsSignedIn, Accepts, read_as, reading_of, ReadsOne}
use Rattle.clap.specs.Facts.{Entry, EntryPasses, HasReading, PassesArg, parser_of_value}
use Rattle.clap.specs.declared.builder.arg.Arg.{Arg}
use Rattle.clap.specs.declared.builder.command.Command.{Command}
use Rattle.clap.specs.declared.builder.value_parser.ValueParser.{ValueParser}
use Rattle.clap.specs.declared.builder.value_parser.ValueParser.TheVariants.{Signed}
use Rattle.clap.specs.declared.builder.value_parser.Reading.{Reading}
use Rattle.clap.specs.declared.builder.value_parser.Reading.TheVariants.{WithoutMinus}
use Rattle.clap.specs.declared.parser.matches.ArgMatches.{ArgMatches}
use Rattle.clap.specs.declared.parser.matches.MatchedArg.{MatchedArg}
use Rattle.clap.proofs.CallerLemmas.{entry_by_id, same_rules_by_id}
use Rattle.clap.proofs.CallerReads.{signed_reads}
use Rattle.site_args.specs.CommandLine.{option_rules, site_app, rule, number_or}
use Rattle.site_args.specs.declared.options.Given.TheVariants.{Number}
use Rattle.site_args.proofs.SiteApp.{rules_are, plain, no_groups}

-- argument k of the command reads a number from 1 to the most, and has an id of its own
pub record IsNumberArg (c : Command) (k : ℕ) (a : Arg) (id : Text) (most : ℕ) : Type 0 where
  pub within : k < length (args_of c)
  pub is : slice_index_or (args_of c) k a ≡ a
  pub id_is : a.id.now ≡ id
  pub parser : a.value_parser ≡ Some (Signed (pos 1) (pos most))
  pub alone : (j : ℕ) (e : Arg) → j < length (args_of c) → bytes_eq (slice_index_or (args_of c) j e).id.now id ≡ true → j ≡ k
  pub own : (id ≡ codes "help") ⊎ (id ≡ codes "version") → ⊥
  pub named : id ≡ [] → ⊥

-- an argument of the built command under that id keeps the rules
same_rules : (old : Command) (k : ℕ) (a : Arg) (id : Text) (most : ℕ) → IsNumberArg old k a id most → (m : ArgMatches) (p : IsParsedFrom old m)
    → (j : ℕ) (x : Arg) → j < length (args_of p.built) → slice_index_or (args_of p.built) j x ≡ x → bytes_eq x.id.now id ≡ true → SameRules a x
same_rules old k a id most n m p j x lt at same =
    let id_at : (slice_index_or (args_of old) k a).id.now ≡ id = ap (λ (w : Arg). w.id.now) n.is ∙ n.id_is in
    let unique : (i : ℕ) (e : Arg) → i < length (args_of old) → bytes_eq (slice_index_or (args_of old) i e).id.now (slice_index_or (args_of old) k a).id.now
    ≡ true → i ≡ k = λ i e under alike. n.alone i e under (subst (λ (w : Text). bytes_eq (slice_index_or (args_of old) i e).id.now w ≡ true) id_at alike) in
    let kept : SameRules (slice_index_or (args_of old) k a) x = same_rules_by_id old m p k a n.within unique
    (λ auto. n.own (elim auto [ inl h ↦ inl (sym id_at ∙ h) | inr h ↦ inr (sym id_at ∙ h) ])) j x lt at
    (subst (λ (w : Text). bytes_eq x.id.now w ≡ true) (sym id_at) same) in
    subst (λ (w : Arg). SameRules w x) n.is kept

parser_kept : (a x : Arg) (q : ValueParser) → SameRules a x → a.value_parser ≡ Some q → parser_of x ≡ q
parser_kept a x q s given = ap parser_of_value (s.parser q given)

-- a value of the id is a number in the range
accepted : (old : Command) (k : ℕ) (a : Arg) (id : Text) (most : ℕ) → IsNumberArg old k a id most → (m : ArgMatches) (p : IsParsedFrom old m) (t : Text)
    → PassesArg p.built id t → IsSignedIn (pos 1) (pos most) t
accepted old k a id most n m p t any =
    let is : parser_of any.1 ≡ Signed (pos 1) (pos most) = parser_kept a any.1 _ (same_rules old k a id most n m p any.0 any.1 any.2 any.3 any.4.0) n.parser in
    subst (λ (q : ValueParser). Accepts any.1.ignore_case q t) is any.4.1

-- and it is read without a minus
read_so : (old : Command) (k : ℕ) (a : Arg) (id : Text) (most : ℕ) → IsNumberArg old k a id most → (m : ArgMatches) (p : IsParsedFrom old m) (how : Reading)
    → HasReading p.built id how → how ≡ WithoutMinus
read_so old k a id most n m p how any =
    let is : parser_of any.1 ≡ Signed (pos 1) (pos most) = parser_kept a any.1 _ (same_rules old k a id most n m p any.0 any.1 any.2 any.3 any.4.0) n.parser in
    sym any.4.1 ∙ ap reading_of is

-- the text of an option, and the value that it was read from
abbrev pub IsRead : Text → ℕ → Type 0
IsRead t most = (raw : Text) × (t ≡ without_minus raw) × IsSignedIn (pos 1) (pos most) raw

first_read : (P : Bor Text → Type 0) (most : ℕ) (how : Reading) (vs : List (Bor Text)) (t : Text)
    → ((v : Bor Text) → P v → IsSignedIn (pos 1) (pos most) v.now) → how ≡ WithoutMinus → All P vs
    → option_map (λ s. read_as how s.now) (slice_get vs 0) ≡ Some t → IsRead t most
first_read P most how [] t passes minus all h = cc
first_read P most how (v ∷ vs) t passes minus all h =
    let same : Some (read_as how v.now) ≡ Some t = h in
    let read : read_as how v.now ≡ t = cc in
    (v.now, sym read ∙ ap (λ (w : Reading). read_as w v.now) minus, passes v (All-get_or P (v ∷ vs) 0 v (omega arith) all))

entry_read : (old : Command) (k : ℕ) (a : Arg) (id : Text) (most : ℕ) → IsNumberArg old k a id most → (m : ArgMatches) (p : IsParsedFrom old m)
    → groups_of p.built ≡ [] → (x : MatchedArg) (t : Text) → ((e : Entry) × (e.1 ≡ x) × (bytes_eq e.0.now id ≡ true) × EntryPasses p.built e)
    → option_map (λ s. read_as x.reading s.now) (slice_get x.vals.items 0) ≡ Some t → IsRead t most
entry_read old k a id most n m p none x t got h =
    let e : Entry = got.0 in
    let key : e.0.now ≡ id = (bytes_eq-Decides e.0.now id).0 got.2 in
    let no_group : e.1.is_group ≡ true → ⊥ = λ g. elim (got.3.3 g)
    [ inl empty ↦ n.named (sym key ∙ empty) | inr lots ↦ let bad : 0 < 0 = rw none at lots in absurd (omega arith) ] in
    let how : e.1.reading ≡ WithoutMinus = elim got.3.4 [
      | inl g ↦ absurd (no_group g)
      | inr r ↦ read_so old k a id most n m p e.1.reading
          (subst (λ (w : Text). HasReading p.built w e.1.reading) key r)
    ] in
    let all : All (λ v. PassesArg p.built id v.now) e.1.vals.items = elim got.3.0
    [ inl g ↦ absurd (no_group g) | inr vals ↦ subst (λ (w : Text). All (λ v. PassesArg p.built w v.now) e.1.vals.items) key vals ] in
    first_read (λ v. PassesArg p.built id v.now) most e.1.reading e.1.vals.items t (λ v pass. accepted old k a id most n m p v.now pass) how all
    (subst (λ (w : MatchedArg). option_map (λ s. read_as w.reading s.now) (slice_get w.vals.items 0) ≡ Some t) (sym got.1) h)

-- a text that is read of an option of the program comes of a number in its range
pub given : (old : Command) (k : ℕ) (a : Arg) (id : Text) (most : ℕ) → IsNumberArg old k a id most → (m : ArgMatches) (p : IsParsedFrom old m)
    → app_of old ≡ site_app → (t : Text) → one_text (found_of m) id ≡ Some t → IsRead t most
given old k a id most n m p is t text = go (matched_of (found_of m) id) refl text
  where
    none : groups_of p.built ≡ []
    none = (p.from.same_groups (no_groups old is)).1 ∙ (plain old is).groups

    go : (o : Option MatchedArg) → matched_of (found_of m) id ≡ o
        → option_and_then (λ x. option_map (λ s. read_as x.reading s.now) (slice_get x.vals.items 0)) (matched_of (found_of m) id) ≡ Some t → IsRead t most
    go None e h = let bad : None ≡ Some t = rw e at h in cc
    go (Some x) e h = entry_read old k a id most n m p none x t (entry_by_id (EntryPasses p.built) (found_of m).entries.items id x
        (p.parsed (p.from.globals ∙ (plain old is).globals)).values e) (rw e at h)

-- an item that a function takes to the one in a place of another list is in that place itself
item_at : {A B : Type 0} (f : A → B) (xs : List A) (ys : List B) (k : ℕ) (y : B) → map f xs ≡ ys → k < length ys
    → (a : A) × (slice_index_or xs k a ≡ a) × (f a ≡ slice_index_or ys k y)
item_at f [] [] k y e lt = absurd (omega arith)
item_at f [] (z ∷ ys) k y e lt = absurd (cc)
item_at f (x ∷ xs) [] k y e lt = absurd (cc)
item_at f (x ∷ xs) (z ∷ ys) zero y e lt = (x, refl, cc)
item_at f (x ∷ xs) (z ∷ ys) (suc k) y e lt =
    let later : map f xs ≡ ys = cc in
    let below : k < length ys = omega arith in
    item_at f xs ys k y later below

-- the ids of arguments are those of their rules
id_at : (xs : List Arg) (rs : List Rule) → map rule_of xs ≡ rs → (j : ℕ) (e : Arg) → j < length xs
    → (slice_index_or xs j e).id.now ≡ (slice_index_or rs j (rule_of e)).id
id_at [] rs same j e lt = absurd (omega arith)
id_at (x ∷ xs) [] same j e lt = absurd (cc)
id_at (x ∷ xs) (r ∷ rs) same zero e lt = let first : rule_of x ≡ r = cc in ap (λ (s : Rule). s.id) first
id_at (x ∷ xs) (r ∷ rs) same (suc j) e lt =
    let later : map rule_of xs ≡ rs = cc in
    let below : j < length xs = omega arith in
    id_at xs rs later j e below

clash : (b : Bool) → b ≡ true → not b ≡ true → ⊥
clash true e h = cc
clash false e h = cc

-- whether the rule in place k has the id, and no other has it
abbrev is_only : Text → ℕ → List Rule → Bool
is_only id k [] = false
is_only id zero (r ∷ rs) = bytes_eq r.id id && list_all (λ s. not (bytes_eq s.id id)) rs
is_only id (suc k) (r ∷ rs) = not (bytes_eq r.id id) && is_only id k rs

none_later : (id : Text) (rs : List Rule) (j : ℕ) (r : Rule) → list_all (λ s. not (bytes_eq s.id id)) rs ≡ true → j < length rs
    → bytes_eq (slice_index_or rs j r).id id ≡ true → ⊥
none_later id [] j r none lt same = omega arith
none_later id (s ∷ rs) zero r none lt same = clash (bytes_eq s.id id) same (and_parts (not (bytes_eq s.id id)) (list_all (λ r. not (bytes_eq r.id id)) rs) none).0
none_later id (s ∷ rs) (suc j) r none lt same = let below : j < length rs = omega arith in none_later id rs j r (and_parts (not (bytes_eq s.id id)) (list_all (λ r. not (bytes_eq r.id id)) rs) none).1 below same

only : (id : Text) (k : ℕ) (rs : List Rule) (j : ℕ) (r : Rule) → is_only id k rs ≡ true → j < length rs
    → bytes_eq (slice_index_or rs j r).id id ≡ true → j ≡ k
only id k [] j r is lt same = absurd (omega arith)
only id zero (s ∷ rs) zero r is lt same = refl
only id zero (s ∷ rs) (suc j) r is lt same =
    let below : j < length rs = omega arith in
    absurd (none_later id rs j r (and_parts (bytes_eq s.id id) (list_all (λ r. not (bytes_eq r.id id)) rs) is).1 below same)
only id (suc k) (s ∷ rs) zero r is lt same = absurd (clash (bytes_eq s.id id) same (and_parts (not (bytes_eq s.id id)) (is_only id k rs) is).0)
only id (suc k) (s ∷ rs) (suc j) r is lt same =
    let below : j < length rs = omega arith in
    ap suc (only id k rs j r (and_parts (not (bytes_eq s.id id)) (is_only id k rs) is).1 below same)

-- the option in place k of the program's reads a number, and is the only one of its name
number_arg : (c : Command) → app_of c ≡ site_app → (k : ℕ) (id : Text) (most : ℕ) → k < length option_rules
    → slice_index_or option_rules k (rule id (Number most)) ≡ rule id (Number most)
    → is_only id k option_rules ≡ true
    → ((id ≡ codes "help") ⊎ (id ≡ codes "version") → ⊥) → (id ≡ [] → ⊥) → (a : Arg) × IsNumberArg c k a id most
number_arg c is k id most under at alone own named =
    let rules = rules_are c is in
    let item = item_at rule_of (args_of c) option_rules k (rule id (Number most)) rules under in
    let row : rule_of item.0 ≡ rule id (Number most) = item.2 ∙ at in
    let size : length (args_of c) ≡ length option_rules = sym (length-map (args_of c) rule_of) ∙ ap (λ (rs : List Rule). length rs) rules in (
      item.0,
      record {
        within = subst (λ n. k < n) (sym size) under;
        is = item.1;
        id_is = ap (λ (r : Rule). r.id) row;
        parser = ap (λ (r : Rule). r.parser) row;
        alone =
            λ j e lt same. only id k option_rules j (rule_of e) alone (subst (λ n. j < n) size lt)
            (subst (λ (w : Text). bytes_eq w id ≡ true) (id_at (args_of c) option_rules rules j e lt) same);
        own = own;
        named = named;
      },
    )

-- what is read of the two options
pub calls_read : (c : Command) (m : ArgMatches) → app_of c ≡ site_app → IsParsedFrom c m → (t : Text) → one_text (found_of m) (codes "calls") ≡ Some t
    → IsRead t 100000
calls_read c m is p =
    let arg = number_arg c is 0 (codes "calls") 100000 (lit< tt) refl refl (λ auto. elim auto [ inl h ↦ cc | inr h ↦ cc ]) (λ h. cc) in
    given c 0 arg.0 _ _ arg.1 m p is

pub cache_read : (c : Command) (m : ArgMatches) → app_of c ≡ site_app → IsParsedFrom c m → (t : Text) → one_text (found_of m) (codes "cache") ≡ Some t
    → IsRead t 4096
cache_read c m is p =
    let arg = number_arg c is 1 (codes "cache") 4096 (lit< tt) refl refl (λ auto. elim auto [ inl h ↦ cc | inr h ↦ cc ]) (λ h. cc) in
    given c 1 arg.0 _ _ arg.1 m p is

-- a number that is read so is the one that the text says, and in the range; if there is no text, it is the default
pub number_is : {E : Type 0} (G : Text → Result ℕ E → Type 0) (default most : ℕ) (o : Option Text) (r : Option ℕ)
    → ((u : Text) (x : Result ℕ E) → G u x → ParsesUnsigned 32 10 u x) → most < 2 ^ 32 → (1 ≤ default) × (default ≤ most) → (o ≡ None → r ≡ None)
    → ((t : Text) → o ≡ Some t → ReadsOne G t r) → ((t : Text) → o ≡ Some t → IsRead t most)
    → (1 ≤ unwrap_or r default) × (unwrap_or r default ≤ most) × (unwrap_or r default ≡ number_or default o)
number_is {E} G default most None r only fits range none value read = rw (none refl) (range.0, range.1, refl)
number_is {E} G default most (Some t) r only fits range none value read =
    let got = read t refl in
    let reads : ReadsOne G t r = value t refl in
    let number = signed_reads E G 32 1 most got.0 r (subst (λ (w : Text). ReadsOne G w r) got.1 reads) only fits got.2 in
    let says : ReadsOne G t (Some number.0) = subst (λ (w : Option ℕ). ReadsOne G t w) number.1 reads in
    let same = only t (Ok number.0) says in
    rw number.1 (number.2, number.3, same.1)
