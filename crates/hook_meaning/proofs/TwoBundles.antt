-- Two bundles that agree on one plugin, computed.
use Rattle.std.proofs.Common.{◌≡◌, ℕ, Bool, true, false, true≢false, ◌||◌, [], ◌∷◌, refl, ap, Ok, codes}
use Rattle.std.specs.Prelude.{if◌then◌else◌, ◌==◌}
use Rattle.hook_changes.specs.declared.reply.Reply.{Reply}
use Rattle.callback_store.specs.Shape.{is_held}
use Rattle.hook_meaning.specs.World.{loaded}
use Rattle.hook_meaning.specs.Meaning.{deeper, group_pass, priorities_pass, pass, filter_pass, follow, invoked, invoked_with, invoke_within, invoke, filtered}
use Rattle.hook_meaning.specs.Agreement.{AgreeOn}
use Rattle.hook_meaning.specs.TwoBundles.{one, other, title}

-- what computes in the rows below
computes : ℕ
unfolding loaded deeper group_pass priorities_pass pass filter_pass follow invoked invoked_with invoke_within invoke filtered
computes = 0

first_of_two : (b : Bool) (x y z : Reply) → ((b || false) || false) ≡ true → (if b then x else y) ≡ (if b then x else z)
first_of_two true x y z e = refl
first_of_two false x y z e = absurd (let clash = e in cc)

pub agree : AgreeOn (codes "borrow" ∷ []) one other
agree = record { plugins = refl; replies = λ k call held. first_of_two (33 == k) _ _ _ held }

-- they don't agree on the other plugin
pub apart : AgreeOn (codes "bold" ∷ []) one other → ⊥
apart agree = true≢false (ap (λ xs. is_held xs 17) agree.plugins)

pub alone : title one (codes "borrow" ∷ []) (codes "T") ≡ Ok (codes "Tb")
unfolding computes
alone = refl

pub alone_too : title other (codes "borrow" ∷ []) (codes "T") ≡ Ok (codes "Tb")
unfolding computes
alone_too = refl

pub both : title one (codes "borrow" ∷ codes "bold" ∷ []) (codes "T") ≡ Ok (codes "T1b")
unfolding computes
both = refl

pub both_too : title other (codes "borrow" ∷ codes "bold" ∷ []) (codes "T") ≡ Ok (codes "T!b")
unfolding computes
both_too = refl
