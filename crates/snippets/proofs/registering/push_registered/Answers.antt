use Rattle.std.proofs.Common.{◌==◌, ◌+◌, ◌++◌, ◌∷◌, [], pos, ap, sym, ◌∙◌, ℕ, List, append-nil, lit<, Option, None}
use Rattle.std.specs.Option.{option_map_or}
use Rattle.std.specs.List.{before_first}
use Rattle.std.proofs.lemmas.Str.Pattern.{strip_prefix_char}
use Rattle.hook_changes.specs.declared.reply.Change.{Change}
use Rattle.hook_changes.specs.declared.reply.Change.TheVariants.{Add}
use Rattle.snippets.specs.Snippets.{priority_in}
use Rattle.snippets.proofs.Firsts.{registers_callback}
use Rattle.snippets.proofs.registering.push_registered.Goals as goal

-- what a priority that may be there registers on the hook of a word
abbrev made : List ℕ → Option ℕ → List Change
made word o = option_map_or (λ p. Add (before_first (λ b. b == 58) word) (pos p) (502 + p) 2 ∷ []) o []

-- a word that doesn't begin with a bracket
pub returns-in_ok-push-2 : goal.returns-in_ok-push-2
returns-in_ok-push-2 c =
    let word = c.args.word.now in
    let p = c.in-Some-priority_in.priority in
    let bracket = strip_prefix_char 91 word None c.in_default.ensures.cases (lit< tt) in
    let found = c.in-Some-priority_in.ensures.value ∙ ap (λ (x : List ℕ × List ℕ). priority_in x.1) c.at_colon.ensures in
    let change = c.in_ok-callback_on.ensures ∙ ap (λ (x : List ℕ × List ℕ). Add x.0 (pos p) (502 + p) 2) c.at_colon.ensures in
    c.in_ok-push-2.ensures.ok ∙ ap (λ (l : List Change). c.args.changes.now ++ l) (ap (λ (x : Change). x ∷ []) change ∙ ap (made word) found ∙ registers_callback word bracket)

pub returns-in_default-priority_in : goal.returns-in_default-priority_in
returns-in_default-priority_in c =
    let word = c.args.word.now in
    let bracket = strip_prefix_char 91 word None c.in_default.ensures.cases (lit< tt) in
    let found = c.in_default-priority_in.ensures.value ∙ ap (λ (x : List ℕ × List ℕ). priority_in x.1) c.at_colon.ensures in
    sym (append-nil c.args.changes.now) ∙ ap (λ (l : List Change). c.args.changes.now ++ l) (ap (made word) found ∙ registers_callback word bracket)
