use Rattle.std.proofs.Common.{◌≡◌, ◌++◌, codes, take, flat_map}
use Rattle.bundled_plugins.specs.Calls.{text_of_answer}
use Rattle.bundled_plugins.proofs.calls.show_more.Given as goal

-- the text is followed by the answers so far
abbrev pub invariant-loop-answer : goal.invariant-loop-answer
invariant-loop-answer l = l.text ≡ l.initial.text ++ flat_map (λ next. codes "," ++ text_of_answer next) (take l.answer-index l.answers)
