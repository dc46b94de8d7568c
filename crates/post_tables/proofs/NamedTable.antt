-- What the proofs on the three tables of names share.
use Rattle.std.proofs.Common.{◌≡◌, ℕ, ℤ, List, [], ◌∷◌, Bool, true, false, ◌&&◌, ◌||◌, Some, None, slice_get, refl}
use Rattle.sqlite.specs.Order.{Row}
use Rattle.sqlite_value.specs.declared.value.Value.{Value}
use Rattle.sqlite_value.specs.declared.value.Value.TheVariants.{Int, Text}
use Rattle.sqlite_value.specs.declared.keys.Collation.TheVariants.{Binary}
use Rattle.sqlite_value.specs.Order.{column}
use Rattle.sqlite_value.proofs.KeyLemmas.{first_key-plain}
use Rattle.sqlite_schema.specs.Rules.{equal}
use Rattle.sqlite_schema.specs.declared.schema.Column.{Column}
use Rattle.sqlite_trees.specs.Tree.{Trees, rowid}
use Rattle.sqlite.specs.Program.{overlay}
use Rattle.sqlite_rules.specs.Keys.{conflicts}
use Rattle.sqlite_rules.specs.Cast.{cast_all}
use Rattle.sqlite.specs.Rows.{mended_from, shown}
use Rattle.post_tables.specs.Schema.{site_schema, named_table, option_table, template_table, active_table}
use Rattle.post_tables.specs.Stored.{text_rest, text_in, no_rest, nothing_in}

abbrev pub met : Bool → Bool → Bool
met a b = (a && true) || ((b && true) || false)

pub record NamedTable {V : Type 0} (rest : V → Row) (value_in : Row → V) : Type 0 where
  pub place : ℕ
  pub tree : ℕ
  pub title : List ℕ
  pub columns : List Column
  pub here : slice_get site_schema.tables place ≡ Some (named_table title tree columns)
  -- the table as a query over it alone sees it
  pub over : (db : Trees) → overlay db [] tree ≡ db tree
  pub value_of : (z : Value) (name : List ℕ) (v : V) → value_in (z ∷ Text name ∷ rest v) ≡ v
  pub cast_is : (name : List ℕ) (v : V) → cast_all columns (Text name ∷ rest v) ≡ Text name ∷ rest v
  pub mend_is : (name : List ℕ) (v : V) → mended_from None 0 columns (Text name ∷ rest v) ≡ Text name ∷ rest v
  -- a row meets another by the rowid or by the name
  pub conflict_is : (r : Row) (n : ℤ) (name : List ℕ) (v : V) → conflicts None site_schema.indexes (named_table title tree columns)
      (Int n ∷ Text name ∷ rest v) r
      ≡ met (equal Binary (rowid r) (Int n)) (equal Binary (column r 1) (Text name))
  -- and by the name alone if that is the target
  pub target_is : (r : Row) (n : ℤ) (name : List ℕ) (v : V) → conflicts (Some (1 ∷ [])) site_schema.indexes (named_table title tree columns)
      (Int n ∷ Text name ∷ rest v) r
      ≡ ((equal Binary (column r 1) (Text name) && true) || false)
  -- a row as `excluded` reads it
  pub shown_is : (n : ℤ) (name : List ℕ) (v : V) → shown (named_table title tree columns) (Int n ∷ Text name ∷ rest v) ≡ Int n ∷ Text name ∷ rest v

abbrev pub options : NamedTable text_rest text_in
options = record {
  place = 2;
  tree = 2;
  title = option_table.name;
  columns = option_table.columns;
  here = refl;
  over = λ db. refl;
  value_of = λ z name v. refl;
  cast_is = λ name v. refl;
  mend_is = λ name v. refl;
  conflict_is = λ r n name v. rw first_key-plain refl;
  target_is = λ r n name v. rw first_key-plain refl;
  shown_is = λ n name v. refl;
}

abbrev pub templates : NamedTable text_rest text_in
templates = record {
  place = 3;
  tree = 4;
  title = template_table.name;
  columns = template_table.columns;
  here = refl;
  over = λ db. refl;
  value_of = λ z name v. refl;
  cast_is = λ name v. refl;
  mend_is = λ name v. refl;
  conflict_is = λ r n name v. rw first_key-plain refl;
  target_is = λ r n name v. rw first_key-plain refl;
  shown_is = λ n name v. refl;
}

abbrev pub actives : NamedTable no_rest nothing_in
actives = record {
  place = 4;
  tree = 6;
  title = active_table.name;
  columns = active_table.columns;
  here = refl;
  over = λ db. refl;
  value_of = λ z name v. refl;
  cast_is = λ name v. refl;
  mend_is = λ name v. refl;
  conflict_is = λ r n name v. rw first_key-plain refl;
  target_is = λ r n name v. rw first_key-plain refl;
  shown_is = λ n name v. refl;
}
