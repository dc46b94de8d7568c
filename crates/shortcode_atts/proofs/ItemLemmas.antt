-- The items of a text: each leaves a shorter rest, and a text has one list of items only.
use Rattle.std.proofs.Common.{◌≡◌, ℕ, zero, suc, ◌+◌, ◌<◌, ◌≤◌, Bool, true, false, not, List, [], ◌∷◌, length, drop, Option, Some, None, refl, sym, ap}
use Rattle.std.proofs.Common.{◌∙◌, subst, arith, length-drop}
use Rattle.std.specs.Prelude.{◌==◌, take_while, nat_lt, option_map}
use Rattle.std.specs.List.{prefix_len}
use Rattle.std.specs.Option.{option_or, option_map_or}
use Rattle.std.proofs.lemmas.Bool.{cond_both, ltb-true, cond-true, not-false, not_from_false, lt-ltb, false≢true}
use Rattle.std.proofs.Math.Numerals.{one-add}
use Rattle.std.proofs.lemmas.Option.{none-some, same_Some}
use Rattle.shortcode_atts.specs.declared.items.Form.{Form}
use Rattle.shortcode_atts.specs.declared.items.Form.TheVariants.{Quoted, Bare, Word}
use Rattle.plain_data.specs.Steps.{◌>>=◌, only_if}
use Rattle.plain_data.proofs.StepLemmas.{bind_some, only_if-some}
use Rattle.shortcode_atts.specs.Found.{first_of}
use Rattle.plain_data.specs.NameByte.{is_name_byte}
use Rattle.shortcode_atts.specs.Items.{is_white, is_word_char, is_bare_char, after_run, skip_white, after_char, is_ended, run_at, quoted_at, spelled_at}
use Rattle.shortcode_atts.specs.Items.{value_at, Item, named_at, single_at, item_at, IsItems, items_within, items_of}

-- the rest is shorter than cs, or no longer
abbrev IsShorter : List ℕ → List ℕ × List ℕ → Type 0
IsShorter cs x = length x.1 < length cs

length-after_run : (p : ℕ → Bool) (cs : List ℕ) → length (after_run p cs) ≤ length cs
length-after_run p cs = omega (arith, length-drop (prefix_len p cs) cs)

after_char-shorter : (q : ℕ) (cs rest : List ℕ) → after_char q cs ≡ Some rest → length rest < length cs
after_char-shorter q [] rest e = absurd (none-some rest e)
after_char-shorter q (c ∷ cs) rest e =
    let same = (only_if-some (c == q) cs rest e).1 in
    subst (λ r. length r < length (c ∷ cs)) same (omega arith)

prefix_len-le : (p : ℕ → Bool) (cs : List ℕ) → prefix_len p cs ≤ length cs
prefix_len-le p [] = omega arith
prefix_len-le p (c ∷ cs) = cond_both (p c) (1 + prefix_len p cs) 0 (λ n. n ≤ suc (length cs)) (λ _. omega (arith, prefix_len-le p cs)) (λ _. omega arith)

run_at-shorter : (p : ℕ → Bool) (cs : List ℕ) (x : List ℕ × List ℕ) → run_at p cs ≡ Some x → IsShorter cs x
unfolding run_at
run_at-shorter p cs x e =
    let parts = only_if-some (nat_lt 0 (prefix_len p cs)) (take_while p cs, after_run p cs) x e in
    subst (IsShorter cs) parts.1 (omega (arith, length-drop (prefix_len p cs) cs, ltb-true 0 (prefix_len p cs) parts.0, prefix_len-le p cs))

quoted_at-shorter : (q : ℕ) (cs : List ℕ) (x : List ℕ × List ℕ) → quoted_at q cs ≡ Some x → IsShorter cs x
unfolding quoted_at
quoted_at-shorter q cs x e =
    let a = bind_some (after_char q cs) _ x e in
    let body = a.0 in
    let b = bind_some (after_char q (after_run (λ c. not (c == q)) body)) _ x a.2 in
    let rest = b.0 in
    let same = same_Some (take_while (λ c. not (c == q)) body, rest) x b.2 in
    let first = after_char-shorter q cs body a.1 in
    let second = after_char-shorter q (after_run (λ c. not (c == q)) body) rest b.1 in
    subst (IsShorter cs) same (omega (arith, first, second, length-after_run (λ c. not (c == q)) body))

spelled_at-shorter : (form : Form) (cs : List ℕ) (x : List ℕ × List ℕ) → spelled_at form cs ≡ Some x → IsShorter cs x
spelled_at-shorter (Quoted q) cs x e = quoted_at-shorter q cs x e
spelled_at-shorter Bare cs x e = run_at-shorter is_bare_char cs x e
spelled_at-shorter Word cs x e = run_at-shorter is_word_char cs x e

value_at-shorter : (form : Form) (cs : List ℕ) (x : List ℕ × List ℕ) → value_at form cs ≡ Some x → IsShorter cs x
unfolding value_at
value_at-shorter form cs x e =
    let a = bind_some (spelled_at form cs) _ x e in
    let same = (only_if-some (is_ended (a.0).1) a.0 x a.2).1 in
    subst (IsShorter cs) same (spelled_at-shorter form cs a.0 a.1)

-- an item leaves less than it was found in
abbrev Leaves : List ℕ → Item → Type 0
Leaves cs it = length it.rest < length cs

named_at-shorter : (form : Form) (cs : List ℕ) (it : Item) → named_at form cs ≡ Some it → Leaves cs it
unfolding named_at
named_at-shorter form cs it e =
    let a = bind_some (run_at is_name_byte cs) _ it e in
    let b = bind_some (after_char 61 (skip_white (a.0).1)) _ it a.2 in
    let v = bind_some (value_at form (skip_white b.0)) _ it b.2 in
    let found : Item = record { name = Some (a.0).0; value = (v.0).0; rest = (v.0).1 } in
    let same = same_Some found it v.2 in
    let first = run_at-shorter is_name_byte cs a.0 a.1 in
    let second = after_char-shorter 61 (skip_white (a.0).1) b.0 b.1 in
    let third = value_at-shorter form (skip_white b.0) v.0 v.1 in
    subst (Leaves cs) same (omega (arith, first, second, third, length-after_run is_white (a.0).1, length-after_run is_white b.0))

single_at-shorter : (form : Form) (cs : List ℕ) (it : Item) → single_at form cs ≡ Some it → Leaves cs it
unfolding single_at
single_at-shorter form cs it e =
    let v = bind_some (value_at form cs) _ it e in
    let found : Item = record { name = None; value = (v.0).0; rest = (v.0).1 } in
    subst (Leaves cs) (same_Some found it v.2) (value_at-shorter form cs v.0 v.1)

either_some : {X : Type 0} (P : X → Type 0) (a b : Option X) → ((x : X) → a ≡ Some x → P x) → ((x : X) → b ≡ Some x → P x) → (x : X) → option_or a b ≡ Some x
    → P x
either_some P None b f g x e = g x e
either_some P (Some y) b f g x e = f x e

item_at-shorter : (cs : List ℕ) (it : Item) → item_at cs ≡ Some it → Leaves cs it
unfolding item_at
item_at-shorter cs =
    either_some (Leaves cs) _ _ (named_at-shorter (Quoted 34) cs)
    (either_some (Leaves cs) _ _ (named_at-shorter (Quoted 39) cs)
    (either_some (Leaves cs) _ _ (named_at-shorter Bare cs)
    (either_some (Leaves cs) _ _ (single_at-shorter (Quoted 34) cs)
    (either_some (Leaves cs) _ _ (single_at-shorter (Quoted 39) cs) (single_at-shorter Word cs)))))

-- how many items are allowed makes no difference, if there are enough
none_left : (cs : List ℕ) (f : Item → List Item) (o : Option Item) → ((it : Item) → o ≡ Some it → Leaves (skip_white cs) it) → length cs ≤ 0
    → option_map_or f o [] ≡ []
none_left cs f None h a = refl
none_left cs f (Some it) h a = absurd (omega (arith, h it refl, length-after_run is_white cs))

one_taken : (cs : List ℕ) (f g : Item → List Item) (o : Option Item) → ((it : Item) → o ≡ Some it → Leaves (skip_white cs) it)
    → ((it : Item) → length it.rest < length cs → f it ≡ g it) → option_map_or f o [] ≡ option_map_or g o []
one_taken cs f g None h k = refl
one_taken cs f g (Some it) h k = k it (omega (arith, h it refl, length-after_run is_white cs))

items_enough : (m n : ℕ) (cs : List ℕ) → length cs ≤ m → length cs ≤ n → items_within m cs ≡ items_within n cs
unfolding items_within
items_enough zero zero cs a b = refl
items_enough zero (suc n) cs a b = sym (none_left cs _ (item_at (skip_white cs)) (item_at-shorter (skip_white cs)) a)
items_enough (suc m) zero cs a b = none_left cs _ (item_at (skip_white cs)) (item_at-shorter (skip_white cs)) b
items_enough (suc m) (suc n) cs a b =
    one_taken cs (λ it. it ∷ items_within m it.rest) (λ it. it ∷ items_within n it.rest) (item_at (skip_white cs)) (item_at-shorter (skip_white cs))
    (λ it lt. ap (λ its. it ∷ its) (items_enough m n it.rest (omega arith) (omega arith)))

-- the items from an item on, and at the end
items_of-step : (cs : List ℕ) → items_of cs ≡ option_map_or (λ it. it ∷ items_of it.rest) (item_at (skip_white cs)) []
unfolding items_within
items_of-step cs =
    items_enough (length cs) (suc (length cs)) cs (omega arith) (omega arith) ∙
    one_taken cs (λ it. it ∷ items_within (length cs) it.rest) (λ it. it ∷ items_of it.rest) (item_at (skip_white cs)) (item_at-shorter (skip_white cs))
    (λ it lt. ap (λ its. it ∷ its) (items_enough (length cs) (length it.rest) it.rest (omega arith) (omega arith)))

pub items_of-some : (cs : List ℕ) (it : Item) → item_at (skip_white cs) ≡ Some it → items_of cs ≡ it ∷ items_of it.rest
items_of-some cs it e = items_of-step cs ∙ ap (λ o. option_map_or (λ it. it ∷ items_of it.rest) o []) e

pub items_of-none : (cs : List ℕ) → item_at (skip_white cs) ≡ None → items_of cs ≡ []
items_of-none cs e = items_of-step cs ∙ ap (λ o. option_map_or (λ it. it ∷ items_of it.rest) o []) e

-- what follows a run is the end, or does not go on with it
abbrev Stops : (ℕ → Bool) → List ℕ → Type 0
Stops p [] = Unit {0}
Stops p (c ∷ cs) = p c ≡ false

after_run-stops : (p : ℕ → Bool) (cs : List ℕ) → Stops p (after_run p cs)
after_run-stops p [] = tt
after_run-stops p (c ∷ cs) =
    cond_both (p c) (1 + prefix_len p cs) 0 (λ n. Stops p (drop n (c ∷ cs))) (λ yes. rw one-add (after_run-stops p cs)) (λ stop. stop)

ended_after_word : (cs : List ℕ) → Stops is_word_char cs → is_ended cs ≡ true
ended_after_word [] h = refl
ended_after_word (c ∷ cs) h = not-false (is_white c) h

fits_last : {A B : Type 0} (b : Bool) (x : A) (k : A → B) → b ≡ true → (only_if b x >>= λ v. Some (k v)) ≡ None → ⊥
fits_last true x k t e = none-some (k x) (sym e)
fits_last false x k t e = false≢true t

fits_both : {A B : Type 0} (b : Bool) (x : A) (g : A → Bool) (k : A → B) → b ≡ true → g x ≡ true
    → ((only_if b x >>= λ v. only_if (g v) v) >>= λ v. Some (k v)) ≡ None → ⊥
fits_both true x g k t ended e = fits_last (g x) x k ended e
fits_both false x g k t ended e = false≢true t

-- a word fits if no white space comes next
word_fits : (c : ℕ) (cs : List ℕ) → is_white c ≡ false → single_at Word (c ∷ cs) ≡ None → ⊥
unfolding single_at value_at run_at
word_fits c cs word e =
    let long : prefix_len is_word_char (c ∷ cs) ≡ 1 + prefix_len is_word_char cs = cond-true (is_word_char c) _ _ (not_from_false (is_white c) word) in
    let some : nat_lt 0 (prefix_len is_word_char (c ∷ cs)) ≡ true = lt-ltb 0 (prefix_len is_word_char (c ∷ cs)) (omega (arith, long)) in
    fits_both (nat_lt 0 (prefix_len is_word_char (c ∷ cs))) (take_while is_word_char (c ∷ cs), after_run is_word_char (c ∷ cs)) (λ v. is_ended v.1) _
    some (ended_after_word (after_run is_word_char (c ∷ cs)) (after_run-stops is_word_char (c ∷ cs))) e

either_none : {X : Type 0} (a b : Option X) → option_or a b ≡ None → b ≡ None
either_none None b e = e
either_none (Some x) b e = absurd (none-some x (sym e))

word_or_end : (cs : List ℕ) → Stops is_white cs → item_at cs ≡ None → cs ≡ []
unfolding item_at
word_or_end [] h e = refl
word_or_end (c ∷ cs) h e =
    absurd (word_fits c cs h (
    either_none (single_at (Quoted 39) (c ∷ cs)) _
    (either_none (single_at (Quoted 34) (c ∷ cs)) _
    (either_none (named_at Bare (c ∷ cs)) _ (either_none (named_at (Quoted 39) (c ∷ cs)) _ (either_none (named_at (Quoted 34) (c ∷ cs)) _ e))))))

-- the items of the text are items of it, and no other list is
is_items_next : (n : ℕ) (cs : List ℕ) (o : Option Item) → ((it : Item) → length it.rest ≤ n → IsItems it.rest (items_within n it.rest)) → length cs ≤ suc n
    → item_at (skip_white cs) ≡ o → IsItems cs (option_map_or (λ it. it ∷ items_within n it.rest) o [])
is_items_next n cs None h a e = word_or_end (skip_white cs) (after_run-stops is_white cs) e
is_items_next n cs (Some it) h a e = (e, h it (omega (arith, item_at-shorter (skip_white cs) it e, length-after_run is_white cs)))

is_items_within : (n : ℕ) (cs : List ℕ) → length cs ≤ n → IsItems cs (items_within n cs)
unfolding items_within
is_items_within zero [] a = refl
is_items_within zero (c ∷ cs) a = absurd (omega arith)
is_items_within (suc n) cs a = is_items_next n cs (item_at (skip_white cs)) (λ it le. is_items_within n it.rest le) a refl

pub is_items : (cs : List ℕ) → IsItems cs (items_of cs)
is_items cs = is_items_within (length cs) cs (omega arith)

item_at-nil : item_at [] ≡ None
unfolding item_at named_at single_at value_at run_at quoted_at
item_at-nil = refl

pub one_list_of_items : (cs : List ℕ) (its : List Item) → IsItems cs its → its ≡ items_of cs
one_list_of_items cs [] h = sym (items_of-none cs (ap item_at h ∙ item_at-nil))
one_list_of_items cs (it ∷ its) h = ap (λ rest. it ∷ rest) (one_list_of_items it.rest its h.1) ∙ sym (items_of-some cs it h.0)

-- a value with a name, at the front
abbrev pub valued_at : List ℕ → List ℕ → Form → Option Item
valued_at name cs form = option_map (λ v. record { name = Some name; value = v.0; rest = v.1 }) (value_at form cs)

-- what follows a name, which is the same in all forms: an equals sign, and then a value in the first of the forms that fits
abbrev pub after_sign : List Form → List ℕ → List ℕ → Option Item
after_sign forms name rest = first_of (λ form. valued_at name (skip_white rest) form) forms

abbrev after_name : List Form → List ℕ × List ℕ → Option Item
after_name forms name = after_char 61 (skip_white name.1) >>= after_sign forms name.0

first_of-none : (forms : List Form) → first_of (λ form. None) forms ≡ None
first_of-none [] = refl
first_of-none (form ∷ forms) = first_of-none forms

first_of-bind : {A : Type 0} (o : Option A) (f : Form → A → Option Item) (forms : List Form)
    → first_of (λ form. o >>= f form) forms ≡ (o >>= λ x. first_of (λ form. f form x) forms)
first_of-bind None f forms = first_of-none forms
first_of-bind (Some x) f forms = refl

bind-map : {A B : Type 0} (o : Option A) (k : A → B) → (o >>= λ x. Some (k x)) ≡ option_map k o
bind-map None k = refl
bind-map (Some x) k = refl

named_at-is : (form : Form) (cs : List ℕ)
    → named_at form cs ≡ (run_at is_name_byte cs >>= λ name. after_char 61 (skip_white name.1) >>= λ rest. valued_at name.0 (skip_white rest) form)
unfolding named_at
named_at-is form cs i =
    run_at is_name_byte cs >>= λ name. after_char 61 (skip_white name.1)
    >>= λ rest. bind-map (value_at form (skip_white rest)) (λ v. record { name = Some name.0; value = v.0; rest = v.1 }) i

first_named-is : (forms : List Form) (cs : List ℕ) → first_of (λ form. named_at form cs) forms ≡ (run_at is_name_byte cs >>= after_name forms)
first_named-is forms cs =
    (λ i. first_of (λ form. named_at-is form cs i) forms)
    ∙ first_of-bind (run_at is_name_byte cs) (λ form name. after_char 61 (skip_white name.1) >>= λ rest. valued_at name.0 (skip_white rest) form) forms
    ∙ (λ i. run_at is_name_byte cs >>= λ name. first_of-bind (after_char 61 (skip_white name.1)) (λ form rest. valued_at name.0 (skip_white rest) form) forms i)

-- the same, part by part
pub no_name : (forms : List Form) (cs : List ℕ) → None ≡ run_at is_name_byte cs → None ≡ first_of (λ form. named_at form cs) forms
no_name forms cs e = ap (λ o. o >>= after_name forms) e ∙ sym (first_named-is forms cs)

with_name : (forms : List Form) (cs : List ℕ) (name : List ℕ × List ℕ) → Some name ≡ run_at is_name_byte cs
    → after_name forms name ≡ first_of (λ form. named_at form cs) forms
with_name forms cs name e = ap (λ o. o >>= after_name forms) e ∙ sym (first_named-is forms cs)

pub no_sign : (forms : List Form) (cs : List ℕ) (name : List ℕ × List ℕ) → Some name ≡ run_at is_name_byte cs
    → None ≡ after_char 61 (skip_white name.1) → None ≡ first_of (λ form. named_at form cs) forms
no_sign forms cs name e f = ap (λ o. o >>= after_sign forms name.0) f ∙ with_name forms cs name e

pub with_sign : (forms : List Form) (cs : List ℕ) (name : List ℕ × List ℕ) (rest : List ℕ) → Some name ≡ run_at is_name_byte cs
    → Some rest ≡ after_char 61 (skip_white name.1) → after_sign forms name.0 rest ≡ first_of (λ form. named_at form cs) forms
with_sign forms cs name rest e f = ap (λ o. o >>= after_sign forms name.0) f ∙ with_name forms cs name e
