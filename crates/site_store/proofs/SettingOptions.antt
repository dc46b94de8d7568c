-- How one option is set among the others, one after another.
use Rattle.std.proofs.Common.{◌≡◌, ◌∙◌, [], ◌∷◌, ◌++◌, Bool, true, false, Equal, ap, append_assoc}
use Rattle.std.specs.FinMap.{slice_cmp-IsAntisymmetric, nat_cmp-IsAntisymmetric}
use Rattle.std.specs.FinMap.Entries.{put}
use Rattle.plain_data.specs.Texts.{Text}
use Rattle.post_tables.specs.Rows.{by_bytes}
use Rattle.site_store.specs.Stored.{Texts}

-- what comes after the options so far: the rest as it is, or with the option set in it
abbrev pub to_come : (name value : Text) → Bool → Texts → Texts
to_come name value true texts = texts
to_come name value false texts = put by_bytes name value texts

-- the option takes the place of the one of its name
pub in_place : (name value : Text) (x : Text × Text) (before rest items all : Texts) → by_bytes name x.0 ≡ Equal → items ≡ before ++ (name, value) ∷ []
    → before ++ put by_bytes name value (x ∷ rest) ≡ all → items ++ rest ≡ all
in_place name value x before rest items all same is whole =
    let named : name ≡ x.0 = slice_cmp-IsAntisymmetric nat_cmp-IsAntisymmetric name x.0 same in
    let placed : before ++ (x.0, value) ∷ rest ≡ all = rw same at whole in
    ap (λ l. l ++ rest) is ∙ append_assoc before ((name, value) ∷ []) rest ∙ ap (λ n. before ++ (n, value) ∷ rest) named ∙ placed
