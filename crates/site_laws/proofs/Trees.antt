-- Trees that were read: each object has its members in the order of their keys. So what is printed of a tree without numbers is
-- read as that tree.
use Rattle.std.proofs.Common.{◌≡◌, ℕ, suc, List, Some, Less, Equal, Greater, refl, sym, ap, ap₂, ◌∙◌}
use Rattle.std.specs.Prelude.{⊤, IfSome, option_map, max}
use Rattle.std.specs.declared.cmp.Ordering.{Ordering}
use Rattle.std.specs.Ordering.{match_ordering, ordering_reverse}
use Rattle.std.specs.Cmp.Lexicographic.{nat_list_cmp_total}
use Rattle.json.specs.Json as json
use Rattle.json.specs.Tree as tokens
use Rattle.serde_json.specs.Data.{Num, Data, null, boolean, number, string, array, object, Items, no_items, item, Members, no_members, member, put}
use Rattle.serde_json.specs.Data as trees
use Rattle.serde_json.specs.Find.{get, get_member}
use Rattle.serde_json.specs.Read.{number_of, of_json, of_items, of_members}
use Rattle.serde_json.specs.Written.{outline, items_outline, members_outline}
use Rattle.post_tables.specs.Rows.{by_bytes}
use Rattle.site_laws.proofs.Results.{some_map, some_with, some_mapped}

-- the first key, if there is one, is after this one
abbrev pub IsBefore : List ℕ → Members → Type 0
IsBefore k no_members = ⊤
IsBefore k (member l e ms) = by_bytes k l ≡ Less

abbrev mutual
  pub IsOrdered : Data → Type 0
  IsOrdered null = ⊤
  IsOrdered (boolean b) = ⊤
  IsOrdered (number n) = ⊤
  IsOrdered (string s) = ⊤
  IsOrdered (array ds) = AreOrdered ds
  IsOrdered (object ms) = Rise ms

  pub AreOrdered : Items → Type 0
  AreOrdered no_items = ⊤
  AreOrdered (item d ds) = IsOrdered d × AreOrdered ds

  pub Rise : Members → Type 0
  Rise no_members = ⊤
  Rise (member k d ms) = IsBefore k ms × (IsOrdered d × Rise ms)

turned : (k l : List ℕ) → by_bytes k l ≡ Greater → by_bytes l k ≡ Less
turned k l is = nat_list_cmp_total.antisymm l k ∙ ap ordering_reverse is

turned_back : (k l : List ℕ) → by_bytes l k ≡ Less → by_bytes k l ≡ Greater
turned_back k l is = nat_list_cmp_total.antisymm k l ∙ ap ordering_reverse is

-- ---- what is read is ordered

before_put : (l k : List ℕ) (d : Data) (ms : Members) → by_bytes l k ≡ Less → IsBefore l ms → IsBefore l (put k d ms)
before_put l k d no_members less before = less
before_put l k d (member m e ms) less before = at (by_bytes k m)
  where
    at : (o : Ordering) → IsBefore l (match_ordering o (member k d (member m e ms)) (member m d ms) (member m e (put k d ms)))
    at Less = less
    at Equal = before
    at Greater = before

rise_put : (k : List ℕ) (d : Data) (ms : Members) → IsOrdered d → Rise ms → Rise (put k d ms)
rise_put k d no_members is rise = (tt, (is, tt))
rise_put k d (member l e ms) is rise = at (rise_put k d ms is rise.1.1) (by_bytes k l) refl
  where
    at : Rise (put k d ms) → (o : Ordering) → by_bytes k l ≡ o → Rise (match_ordering o (member k d (member l e ms)) (member l d ms) (member l e (put k d ms)))
    at later Less less = (less, (is, rise))
    at later Equal same = (rise.0, (is, rise.1.1))
    at later Greater greater = (before_put l k d ms (turned k l greater) rise.0, (rise.1.0, later))

mutual
  pub read_ordered : (j : json.Json) → IfSome (of_json j) IsOrdered
  read_ordered json.null = tt
  read_ordered (json.boolean b) = tt
  read_ordered (json.number s) = some_mapped IsOrdered number (λ n. tt) (number_of s)
  read_ordered (json.string s) = tt
  read_ordered (json.array js) = some_map AreOrdered IsOrdered array (λ ds is. is) (of_items js) (items_ordered js)
  read_ordered (json.object ms) = some_map Rise IsOrdered object (λ ds is. is) (of_members ms no_members) (members_ordered ms no_members tt)

  items_ordered : (js : json.Items) → IfSome (of_items js) AreOrdered
  items_ordered json.no_items = tt
  items_ordered (json.item j js) =
      some_with IsOrdered AreOrdered (λ d. option_map (item d) (of_items js))
      (λ d is. some_map AreOrdered AreOrdered (item d) (λ ds are. (is, are)) (of_items js) (items_ordered js)) (of_json j) (read_ordered j)

  members_ordered : (ms : json.Members) (found : Members) → Rise found → IfSome (of_members ms found) Rise
  members_ordered json.no_members found rise = rise
  members_ordered (json.member k j ms) found rise =
      some_with IsOrdered Rise (λ d. of_members ms (put k d found)) (λ d is. members_ordered ms (put k d found) (rise_put k d found is rise)) (of_json j)
      (read_ordered j)

-- a member of an ordered tree is one
pub member_ordered : (k : List ℕ) (ms : Members) → Rise ms → IfSome (get_member k ms) IsOrdered
member_ordered k no_members rise = tt
member_ordered k (member l e ms) rise = at (member_ordered k ms rise.1.1) (by_bytes k l)
  where
    at : IfSome (get_member k ms) IsOrdered → (o : Ordering) → IfSome (match_ordering o (get_member k ms) (Some e) (get_member k ms)) IsOrdered
    at later Less = later
    at later Equal = rise.1.0
    at later Greater = later

pub got_ordered : (k : List ℕ) (tree : Data) → IsOrdered tree → IfSome (get k tree) IsOrdered
got_ordered k null is = tt
got_ordered k (boolean b) is = tt
got_ordered k (number n) is = tt
got_ordered k (string s) is = tt
got_ordered k (array ds) is = tt
got_ordered k (object ms) is = member_ordered k ms is

-- ---- a tree without numbers

abbrev mutual
  pub IsPlain : Data → Type 0
  IsPlain null = ⊤
  IsPlain (boolean b) = ⊤
  IsPlain (number n) = ⊥
  IsPlain (string s) = ⊤
  IsPlain (array ds) = ArePlain ds
  IsPlain (object ms) = HavePlain ms

  pub ArePlain : Items → Type 0
  ArePlain no_items = ⊤
  ArePlain (item d ds) = IsPlain d × ArePlain ds

  pub HavePlain : Members → Type 0
  HavePlain no_members = ⊤
  HavePlain (member k d ms) = IsPlain d × HavePlain ms

mutual
  pub plain_numbers : (d : Data) → IsPlain d → tokens.HasNumbers (outline d)
  plain_numbers null is = tt
  plain_numbers (boolean b) is = tt
  plain_numbers (number n) is = absurd is
  plain_numbers (string s) is = tt
  plain_numbers (array ds) is = items_numbers ds is
  plain_numbers (object ms) is = members_numbers ms is

  items_numbers : (ds : Items) → ArePlain ds → tokens.ItemsHaveNumbers (items_outline ds)
  items_numbers no_items are = tt
  items_numbers (item d ds) are = (plain_numbers d are.0, items_numbers ds are.1)

  members_numbers : (ms : Members) → HavePlain ms → tokens.MembersHaveNumbers (members_outline ms)
  members_numbers no_members have = tt
  members_numbers (member k d ms) have = (plain_numbers d have.0, members_numbers ms have.1)

mutual
  pub outline_depth : (d : Data) → tokens.depth (outline d) ≡ trees.depth d
  outline_depth null = refl
  outline_depth (boolean b) = refl
  outline_depth (number n) = refl
  outline_depth (string s) = refl
  outline_depth (array ds) = ap suc (items_deep ds)
  outline_depth (object ms) = ap suc (members_deep ms)

  items_deep : (ds : Items) → tokens.items_depth (items_outline ds) ≡ trees.items_depth ds
  items_deep no_items = refl
  items_deep (item d ds) = ap₂ max (outline_depth d) (items_deep ds)

  members_deep : (ms : Members) → tokens.members_depth (members_outline ms) ≡ trees.members_depth ms
  members_deep no_members = refl
  members_deep (member k d ms) = ap₂ max (outline_depth d) (members_deep ms)

-- ---- it is read back

joined : Members → Members → Members
joined no_members ms = ms
joined (member k d found) ms = member k d (joined found ms)

-- each key is before this one
AreBefore : Members → List ℕ → Type 0
AreBefore no_members k = ⊤
AreBefore (member l e found) k = (by_bytes l k ≡ Less) × AreBefore found k

-- each is before the first key of the others
AreBeforeAll : Members → Members → Type 0
AreBeforeAll found no_members = ⊤
AreBeforeAll found (member k d ms) = AreBefore found k

put_last : (k : List ℕ) (d : Data) (found : Members) → AreBefore found k → put k d found ≡ joined found (member k d no_members)
unfolding AreBefore joined
put_last k d no_members before = refl
put_last k d (member l e found) before = rw (turned_back k l before.0) (ap (member l e) (put_last k d found before.1))

before_more : (found : Members) (k l : List ℕ) → AreBefore found k → by_bytes k l ≡ Less → AreBefore found l
unfolding AreBefore
before_more no_members k l before less = tt
before_more (member m e found) k l before less = (nat_list_cmp_total.trans m k l before.0 less, before_more found k l before.1 less)

before_joined : (found : Members) (k l : List ℕ) (d : Data) → AreBefore found k → by_bytes k l ≡ Less → AreBefore (joined found (member k d no_members)) l
unfolding AreBefore joined
before_joined no_members k l d before less = (less, tt)
before_joined (member m e found) k l d before less = (nat_list_cmp_total.trans m k l before.0 less, before_joined found k l d before.1 less)

before_rest : (found : Members) (k : List ℕ) (d : Data) (ms : Members) → AreBefore found k → IsBefore k ms → AreBeforeAll (joined found (member k d no_members)) ms
unfolding AreBeforeAll
before_rest found k d no_members before first = tt
before_rest found k d (member l e ms) before first = before_joined found k l d before first

joined_more : (found : Members) (k : List ℕ) (d : Data) (ms : Members) → joined (joined found (member k d no_members)) ms ≡ joined found (member k d ms)
unfolding joined
joined_more no_members k d ms = refl
joined_more (member l e found) k d ms = ap (member l e) (joined_more found k d ms)

joined_first : (ms : Members) → joined no_members ms ≡ ms
unfolding joined
joined_first ms = refl

none_before : (ms : Members) → AreBeforeAll no_members ms
unfolding AreBeforeAll AreBefore
none_before no_members = tt
none_before (member k d ms) = tt

before_first : (found : Members) (k : List ℕ) (d : Data) (ms : Members) → AreBeforeAll found (member k d ms) → AreBefore found k
unfolding AreBeforeAll
before_first found k d ms before = before

joined_none : (found : Members) → joined found no_members ≡ found
unfolding joined
joined_none no_members = refl
joined_none (member l e found) = ap (member l e) (joined_none found)

mutual
  pub read_back : (d : Data) → IsPlain d → IsOrdered d → of_json (outline d) ≡ Some d
  read_back null is o = refl
  read_back (boolean b) is o = refl
  read_back (number n) is o = absurd is
  read_back (string s) is o = refl
  read_back (array ds) is o = ap (option_map array) (items_back ds is o)
  read_back (object ms) is o = ap (option_map object) (members_back ms no_members is o (none_before ms) ∙ ap Some (joined_first ms))

  items_back : (ds : Items) → ArePlain ds → AreOrdered ds → of_items (items_outline ds) ≡ Some ds
  items_back no_items are o = refl
  items_back (item d ds) are o = rw (read_back d are.0 o.0, items_back ds are.1 o.1) refl

  members_back : (ms found : Members) → HavePlain ms → Rise ms → AreBeforeAll found ms → of_members (members_outline ms) found ≡ Some (joined found ms)
  members_back no_members found have rise before = ap Some (sym (joined_none found))
  members_back (member k d ms) found have rise before =
      rw (read_back d have.0 rise.1.0)
      (ap (of_members (members_outline ms)) (put_last k d found (before_first found k d ms before))
      ∙ members_back ms (joined found (member k d no_members)) have.1 rise.1.1 (before_rest found k d ms (before_first found k d ms before) rise.0)
      ∙ ap Some (joined_more found k d ms))
