use Rattle.std.proofs.Common.{◌≡◌, inl, inr, List, ℕ, None, Some, refl, sym, subst}
use Rattle.std.proofs.lemmas.Str.{is_utf8-from_IsUtf8, IsUtf8-from_is_utf8}
use Rattle.std.proofs.lemmas.Bool.{cases_Bool}
use Rattle.std.specs.Str.{is_utf8, IsUtf8}
use Rattle.std.specs.Bool.{IsTrue}
use Rattle.serde_json.specs.Data.{Data}
use Rattle.serde_json.specs.Read.{read}
use Rattle.serde_json.specs.Errors.{IsMemory}
use Rattle.site_commands.specs.Tree.{tree_of}
use Rattle.site_commands.proofs.line.read_line.Goals as goal

-- a text that is UTF-8 and reads as a tree
tree_found : (line : List ℕ) (d : Data) → IsUtf8 line → read line ≡ Some d → Some d ≡ tree_of line
unfolding tree_of
tree_found line d utf8 e = rw (is_utf8-from_IsUtf8 line utf8) (sym e)

-- a text that is not UTF-8, or doesn't read as a tree
no_tree : (line : List ℕ) → (IsUtf8 line → read line ≡ None) → None ≡ tree_of line
unfolding tree_of
no_tree line h = elim (cases_Bool (is_utf8 line)) [ inl e ↦ rw e (sym (h (IsUtf8-from_is_utf8 line e))) | inr e ↦ rw e refl ]

pub returns-in-Ok : goal.returns-in-Ok
returns-in-Ok c = let ok = c.in-Ok.ensures.ok in tree_found c.args.line.now _ ok.0 ok.1

pub returns-in-Err-2 : goal.returns-in-Err-2
returns-in-Err-2 c =
    let same : c.in-Err.e ≡ c.in-Err-2.field-0 = cc (c.in-Err.is, c.in-Err-2.is) in
    let no_memory : IsMemory c.in-Err.e → ⊥ = λ m. let t : IsTrue c.is_memory.result = c.is_memory.ensures.1 m in let f = c.if-is_memory.false in cc in
    no_tree c.args.line.now (c.in-Err-2.ensures.err (subst (λ e. IsMemory e → ⊥) same no_memory))
