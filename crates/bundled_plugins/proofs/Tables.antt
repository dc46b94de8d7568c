-- Replies in a list, looked up by their numbers.
use Rattle.std.proofs.Common.{◌≡◌, ◌≢◌, ◌∙◌, ◌==◌, ◌||◌, ◌+◌, ◌<◌, ℕ, zero, suc, true, false, List, [], ◌∷◌, get_or, unwrap_or, Bor, Option, Some, None, ap, refl, sym, subst, arith}
use Rattle.std.specs.Prelude.{if◌then◌else◌}
use Rattle.std.specs.List.{AllByRecursion}
use Rattle.std.specs.Slice.{IsItemAt}
use Rattle.std.proofs.lemmas.Bool.{eqb-true, eq-eqb}
use Rattle.hook_changes.specs.declared.reply.Call.{Call}
use Rattle.hook_changes.specs.declared.reply.Reply.{Reply}
use Rattle.bundled_plugins.specs.declared.rows.ReplyRow.{ReplyRow}
use Rattle.hook_changes.specs.Replies.{answers_text}
use Rattle.bundled_plugins.specs.Replies.{reply_in, stated_functions}
use Rattle.bundled_plugins.specs.Rows.{replies_of, reply_of, has, is_no_row, AreStated, are_numbered_from}

abbrev Numbered : Type 0
Numbered = List (ℕ × (Call → Reply))

-- what holds of each number of a list holds of a number that it has
holds : (Q : ℕ → Type 0) (fs : Numbered) (n : ℕ) → AllByRecursion (λ f. Q f.0) fs → has fs n ≡ true → Q n
holds Q [] n each e = cc
holds Q (f ∷ fs) n each e =
    elim (f.0 == n) as (λ b. (f.0 == n) ≡ b → (b || has fs n) ≡ true → Q n) [
      | true ↦ λ t q. subst Q (eqb-true f.0 n t) each.0
      | false ↦ λ t q. holds Q fs n each.1 q
    ] refl e

-- a number that the list doesn't have replies with empty text
missed : (fs : Numbered) (n : ℕ) (call : Call) → has fs n ≡ false → reply_in fs n call ≡ answers_text []
missed [] n call e = refl
missed (f ∷ fs) n call e =
    elim (f.0 == n) as (λ b. (b || has fs n) ≡ false → (if b then f.1 call else reply_in fs n call) ≡ answers_text []) [
      | true ↦ λ q. cc
      | false ↦ λ q. missed fs n call q
    ] e

module _ (rows : List ReplyRow) (are : AreStated rows) (n : ℕ) where
  no_more : has stated_functions n ≡ false → has (replies_of rows) n ≡ false
  no_more e =
      elim (has (replies_of rows) n) as (λ b. has (replies_of rows) n ≡ b → b ≡ false) [
        | true ↦ λ t. sym (holds (λ m. has stated_functions m ≡ true) (replies_of rows) n are.numbers t) ∙ e
        | false ↦ λ t. refl
      ] refl

  pub rows_say : (call : Call) → is_no_row n ≡ false → reply_in (replies_of rows) n call ≡ reply_in stated_functions n call
  rows_say call other =
      elim (has stated_functions n) as (λ b. has stated_functions n ≡ b → reply_in (replies_of rows) n call ≡ reply_in stated_functions n call) [
        | true ↦ λ t. holds (λ m. is_no_row m ≡ false → reply_in (replies_of rows) m call ≡ reply_in stated_functions m call) stated_functions n
            (are.replies call) t other
        | false ↦ λ t. missed (replies_of rows) n call (no_more t) ∙ sym (missed stated_functions n call t)
      ] refl

differs : (k n : ℕ) → k ≢ n → (k == n) ≡ false
differs k n h = elim (k == n) as (λ b. (k == n) ≡ b → b ≡ false) [ true ↦ λ t. absurd (h (eqb-true k n t)) | false ↦ λ t. refl ] refl

pub a_row : (n : ℕ) → 7 ≢ n → 18 ≢ n → 23 ≢ n → 24 ≢ n → 25 ≢ n → 26 ≢ n → 29 ≢ n → is_no_row n ≡ false
a_row n a b c d e f g = rw (differs 7 n a, differs 18 n b, differs 23 n c, differs 24 n d, differs 25 n e, differs 26 n f, differs 29 n g) refl

-- a number that isn't the first row's replies as the rows after that one do
not_first : (row : ReplyRow) (rows : List ReplyRow) (k n : ℕ) (call : Call) → row.number ≡ k → k ≢ n
    → reply_in (replies_of (row ∷ rows)) n call ≡ reply_in (replies_of rows) n call
not_first row rows k n call is other = rw (is, differs k n other) refl

-- of rows with one number after another, from k on, none has a smaller number
pub too_small : (rows : List ReplyRow) (k n : ℕ) (call : Call) → are_numbered_from k rows → n < k → reply_in (replies_of rows) n call ≡ answers_text []
too_small [] k n call each small = refl
too_small (row ∷ rows) k n call each small =
    not_first row rows k n call each.0 (omega arith) ∙ too_small rows (k + 1) n call each.1 (omega arith)

-- and the row with a number is at its place
at_place : (rows : List ReplyRow) (k n i : ℕ) (call : Call) (d : ReplyRow) → are_numbered_from k rows → n ≡ k + i → reply_of d call ≡ answers_text []
    → reply_in (replies_of rows) n call ≡ reply_of (get_or rows i d) call
at_place [] k n i call d each is nothing = sym nothing
at_place (row ∷ rows) k n zero call d each is nothing = rw (each.0, eq-eqb k n (omega arith)) refl
at_place (row ∷ rows) k n (suc i) call d each is nothing =
    not_first row rows k n call each.0 (omega arith) ∙ at_place rows (k + 1) n i call d each.1 (omega arith) nothing

-- what is lent there, or in its stead if there is no such row; two cases, so that `option_map` computes
pub row_lent : (rows : List ReplyRow) (k n i : ℕ) (call : Call) (r : Option (Bor ReplyRow)) (d found : Bor ReplyRow) → are_numbered_from k rows
    → n ≡ k + i → IsItemAt rows i r → found ≡ unwrap_or r d → reply_of d.now call ≡ answers_text []
    → reply_in (replies_of rows) n call ≡ reply_of found.now call
row_lent rows k n i call None d found each is at lent nothing =
    at_place rows k n i call d.now each is nothing ∙ ap (λ row. reply_of row call) (sym (at.4 (omega arith) d.now) ∙ ap (λ row. row.now) (sym lent))
row_lent rows k n i call (Some x) d found each is at lent nothing =
    at_place rows k n i call d.now each is nothing ∙ ap (λ row. reply_of row call) (sym (at.4 (omega arith) d.now) ∙ ap (λ row. row.now) (sym lent))
