-- Lemmas on arguments that are refused because they don't suit each other.
use Rattle.std.proofs.Common.{◌≡◌, ◌⊎◌, Bool, true, false, Option, Some, None, refl, option_map}
use Rattle.std.specs.Prelude.{is_none, is_some, not}
use Rattle.site_args.specs.Answers.{AskBy, IsBad, IsReadFrom, suit}
use Rattle.site_args.specs.declared.answer.ArgsAnswer.{ArgsAnswer}
use Rattle.site_args.specs.declared.answer.ArgsAnswer.TheVariants.{Run, Help, Bad, OutOfMemory}
use Rattle.site_args.specs.declared.answer.Options.{Options}
use Rattle.site_args.specs.declared.answer.Task.{Task}

pub none_mapped : {X Y : Type 0} (f : X → Y) (o : Option X) (none : Bool) → not none ≡ is_some o → is_none (option_map f o) ≡ none
none_mapped f None true e = refl
none_mapped f None false e = absurd (cc)
none_mapped f (Some x) true e = absurd (cc)
none_mapped f (Some x) false e = refl

-- a refusal is right where the options ask for nothing, or for a task that doesn't suit them
pub bad_for : (o : Options) (answer : ArgsAnswer) → IsBad answer
    → AskBy o None ⊎ ((task : Task) × AskBy o (Some task) × (suit o task ≡ false)) → IsReadFrom o answer
bad_for o (Run calls cache flags token_file task) is why = absurd is
bad_for o (Help text) is why = absurd is
bad_for o (Bad text) is why = why
bad_for o OutOfMemory is why = tt
