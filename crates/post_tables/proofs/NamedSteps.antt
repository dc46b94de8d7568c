-- What each statement on a table of names makes of the site.
use Rattle.std.proofs.Common.{◌≡◌, inl, inr, ℕ, List, [], ◌∷◌, map, codes, Ok, Err, Result, IfOk, Vec, refl, sym, ap, subst, ◌∙◌}
use Rattle.std.specs.declared.alloc.Global.{Global}
use Rattle.std.specs.FinMap.{entries, insert, remove, keys}
use Rattle.std.specs.Prelude.{IsUtf8}
use Rattle.std.specs.List.{AllByRecursion}
use Rattle.sqlite.specs.Order.{Row}
use Rattle.sqlite_value.specs.declared.value.Value.TheVariants.{Null, Text}
use Rattle.sqlite_trees.specs.declared.memory.MemStore.{MemStore}
use Rattle.sqlite.specs.declared.error.Error.{Error}
use Rattle.sqlite.specs.Term.{lit, col}
use Rattle.sqlite.specs.Held.{Held, state}
use Rattle.sqlite.specs.Steps.{over_memory}
use Rattle.sqlite.specs.Listing.{understood}
use Rattle.sqlite.specs.State.{Executes, Shown}
use Rattle.sqlite_tied.specs.Compute.{everything}
use Rattle.post_tables.specs.Stored.{IsText, AreNamed, named_in, HoldsSite, IsSite, rows_of, trees_of, text_rest, text_in, no_rest, nothing_in}
use Rattle.post_tables.specs.Reading.{pair_from, name_from, IsPairRow, IsNameRow}
use Rattle.sqlite_rules.specs.Lists.{Has}
use Rattle.std.specs.Prelude.{All}
use Rattle.std.proofs.lemmas.List.Elements.{All-from_recursion}
use Rattle.post_tables.proofs.Statements.{IsDone}
use Rattle.post_tables.proofs.Parts.{options_now, templates_now, active_now}
use Rattle.post_tables.proofs.NamedTable.{options, templates, actives}
use Rattle.post_tables.proofs.NamedRows.{set_by_replacing, still_named, named_set, others_named, named_removed}
use Rattle.post_tables.proofs.Replacing.{ReplaceText, replaced}
use Rattle.post_tables.proofs.Upserting.{UpsertText, upserted}
use Rattle.post_tables.proofs.NamedDeleting.{DeleteText, deleted}
use Rattle.post_tables.proofs.NamedReading.{SelectText, names_read, names_texts, shown}

-- ---- the texts

abbrev pub put_option_text : List ℕ
put_option_text = codes "INSERT INTO option (name, value) VALUES (?1, ?2) ON CONFLICT (name) DO UPDATE SET value = excluded.value"

abbrev pub put_template_text : List ℕ
put_template_text = codes "INSERT INTO template (name, body) VALUES (?1, ?2) ON CONFLICT (name) DO UPDATE SET body = excluded.body"

abbrev pub put_active_text : List ℕ
put_active_text = codes "INSERT OR REPLACE INTO active (name) VALUES (?1)"

abbrev pub delete_template_text : List ℕ
delete_template_text = codes "DELETE FROM template WHERE name = ?1"

abbrev pub delete_active_text : List ℕ
delete_active_text = codes "DELETE FROM active WHERE name = ?1"

abbrev pub options_text : List ℕ
options_text = codes "SELECT name, value FROM option ORDER BY name"

abbrev pub templates_text : List ℕ
templates_text = codes "SELECT name, body FROM template ORDER BY name"

abbrev pub active_text : List ℕ
active_text = codes "SELECT name FROM active ORDER BY name"

put_option_is : UpsertText options put_option_text
unfolding understood everything
put_option_is = record { terms = lit Null ∷ col 0 0 ∷ col 0 1 ∷ []; width = 3; is = refl; plain = (refl, refl); source = λ name v. refl }

put_template_is : UpsertText templates put_template_text
unfolding understood everything
put_template_is = record { terms = lit Null ∷ col 0 0 ∷ col 0 1 ∷ []; width = 3; is = refl; plain = (refl, refl); source = λ name v. refl }

put_active_is : ReplaceText actives put_active_text
unfolding understood everything
put_active_is = record { terms = lit Null ∷ col 0 0 ∷ []; width = 2; is = refl; plain = (refl, refl); source = λ name v. refl }

delete_template_is : DeleteText templates delete_template_text
unfolding understood everything
delete_template_is = record { is = refl; plain = (refl, refl) }

delete_active_is : DeleteText actives delete_active_text
unfolding understood everything
delete_active_is = record { is = refl; plain = (refl, refl) }

pub options_is : SelectText options options_text
unfolding understood everything
options_is = record {
  projects = col 1 1 ∷ col 1 2 ∷ [];
  names = codes "name" ∷ codes "value"
      ∷ [];
  is = refl;
  unlisted = refl;
  plain = (refl, refl);
  whole = (refl, refl);
  typed = refl;
  shows = λ z name v. refl;
}

pub templates_is : SelectText templates templates_text
unfolding understood everything
templates_is = record {
  projects = col 1 1 ∷ col 1 2 ∷ [];
  names = codes "name" ∷ codes "body"
      ∷ [];
  is = refl;
  unlisted = refl;
  plain = (refl, refl);
  whole = (refl, refl);
  typed = refl;
  shows = λ z name v. refl;
}

pub active_is : SelectText actives active_text
unfolding understood everything
active_is = record {
  projects = col 1 1 ∷ [];
  names = codes "name"
      ∷ [];
  is = refl;
  unlisted = refl;
  plain = (refl, refl);
  whole = (refl, refl);
  typed = refl;
  shows = λ z name v. refl;
}

-- ---- the writes

module _ (old new : Held MemStore) (holds : HoldsSite (state over_memory old).now) (count : ℕ) (name : List ℕ) (named_utf8 : IsUtf8 name) where
  pub puts_option : (value : List ℕ) → IsUtf8 value → Executes put_option_text (Text name ∷ Text value ∷ []) (state over_memory old) (state over_memory new)
      (Ok count) → IsDone (λ s. record s { options = insert s.options name value }) old new
  puts_option value utf8 h =
      let texts : AllByRecursion IsText (Text name ∷ Text value ∷ []) = ((name, refl, named_utf8), ((value, refl, utf8), tt)) in
      let it = upserted options put_option_text put_option_is old new name value count holds holds.sound.options h in
      let db = trees_of old in
      let now = options_now old.step_limit db (trees_of new) holds.sound it.others
      (still_named options (db 2) (trees_of new 2) name value texts holds.sound.options it.made) _
      (named_set options (db 2) (trees_of new 2) name value texts holds.sound.options it.made) in
      record { holds = record { schema_is = it.schema_is; sound = now.sound }; rows = now.are; idle = it.idle }

  pub puts_template : (value : List ℕ) → IsUtf8 value → Executes put_template_text (Text name ∷ Text value ∷ []) (state over_memory old)
      (state over_memory new) (Ok count) → IsDone (λ s. record s { templates = insert s.templates name value }) old new
  puts_template value utf8 h =
      let texts : AllByRecursion IsText (Text name ∷ Text value ∷ []) = ((name, refl, named_utf8), ((value, refl, utf8), tt)) in
      let it = upserted templates put_template_text put_template_is old new name value count holds holds.sound.templates h in
      let db = trees_of old in
      let now = templates_now old.step_limit db (trees_of new) holds.sound it.others
      (still_named templates (db 4) (trees_of new 4) name value texts holds.sound.templates it.made) _
      (named_set templates (db 4) (trees_of new 4) name value texts holds.sound.templates it.made) in
      record { holds = record { schema_is = it.schema_is; sound = now.sound }; rows = now.are; idle = it.idle }

  pub puts_active : Executes put_active_text (Text name ∷ []) (state over_memory old) (state over_memory new) (Ok count)
      → IsDone (λ s. record s { active = insert s.active name tt }) old new
  puts_active h =
      let texts : AllByRecursion IsText (Text name ∷ []) = ((name, refl, named_utf8), tt) in
      let it = replaced actives put_active_text put_active_is old new name tt count holds h in
      let db = trees_of old in
      let made = set_by_replacing actives (db 6) (trees_of new 6) holds.sound.active name tt it.made in
      let now = active_now old.step_limit db (trees_of new) holds.sound it.others
      (still_named actives (db 6) (trees_of new 6) name tt texts holds.sound.active made) _
      (named_set actives (db 6) (trees_of new 6) name tt texts holds.sound.active made) in
      record { holds = record { schema_is = it.schema_is; sound = now.sound }; rows = now.are; idle = it.idle }

  pub deletes_template : Executes delete_template_text (Text name ∷ []) (state over_memory old) (state over_memory new) (Ok count)
      → IsDone (λ s. record s { templates = remove s.templates name }) old new
  deletes_template h =
      let db = trees_of old in
      let ok = holds.sound.templates in
      let it = deleted templates delete_template_text delete_template_is old new name count holds ok h in
      let named = subst (AreNamed text_rest text_in) (sym it.is) (others_named (db 4) ok name it.test it.tests) in
      let now = templates_now old.step_limit db (trees_of new) holds.sound it.others named _
      (ap (named_in text_in) it.is ∙ named_removed (db 4) ok name it.test it.tests) in
      record { holds = record { schema_is = it.schema_is; sound = now.sound }; rows = now.are; idle = it.idle }

  pub deletes_active : Executes delete_active_text (Text name ∷ []) (state over_memory old) (state over_memory new) (Ok count)
      → IsDone (λ s. record s { active = remove s.active name }) old new
  deletes_active h =
      let db = trees_of old in
      let ok = holds.sound.active in
      let it = deleted actives delete_active_text delete_active_is old new name count holds ok h in
      let named = subst (AreNamed no_rest nothing_in) (sym it.is) (others_named (db 6) ok name it.test it.tests) in
      let now = active_now old.step_limit db (trees_of new) holds.sound it.others named _
      (ap (named_in nothing_in) it.is ∙ named_removed (db 6) ok name it.test it.tests) in
      record { holds = record { schema_is = it.schema_is; sound = now.sound }; rows = now.are; idle = it.idle }

-- ---- the queries

pairs_back : (ps : List (List ℕ × List ℕ)) → map pair_from (map (shown options) ps) ≡ ps
pairs_back [] = refl
pairs_back (p ∷ ps) = ap (λ l. p ∷ l) (pairs_back ps)

names_back : (ps : List (List ℕ × Unit {0})) → map name_from (map (shown actives) ps) ≡ map (λ p. p.0) ps
names_back [] = refl
names_back (p ∷ ps) = ap (λ l. p.0 ∷ l) (names_back ps)

pair_row : (p : List ℕ × List ℕ) → AllByRecursion IsText (shown options p) → IsPairRow (shown options p)
pair_row p h = record { width = refl; name = h.0; value = h.1.0 }

name_row : (p : List ℕ × Unit {0}) → AllByRecursion IsText (shown actives p) → IsNameRow (shown actives p)
name_row p h = record { width = refl; name = h.0 }

each_row : {V : Type 0} (show : List ℕ × V → Row) (P : Row → Type 0) (ps : List (List ℕ × V)) → ((p : List ℕ × V) → Has ps p → P (show p))
    → AllByRecursion P (map show ps)
each_row show P [] each = tt
each_row show P (p ∷ ps) each = (each p (inl refl), each_row show P ps (λ q h. each q (inr h)))

module _ (old new : Held MemStore) (is : IsSite old) where
  pub options_readable : (r : Result (Vec Row Global) Error) → IfOk r
      (λ rows. Shown options_text [] (state over_memory old) (state over_memory new) rows.items) → IfOk r (λ rows. All IsPairRow rows.items)
  options_readable (Err e) ok = tt
  options_readable (Ok rows) ok = All-from_recursion IsPairRow rows.items
      (subst (AllByRecursion IsPairRow) (sym (names_read options options_text options_is old new rows.items is is.holds.sound.options ok))
      (each_row (shown options) IsPairRow (entries (rows_of old).options)
      (λ p h. pair_row p (names_texts options (trees_of old 2) is.holds.sound.options p h))))

  pub templates_readable : (r : Result (Vec Row Global) Error)
      → IfOk r (λ rows. Shown templates_text [] (state over_memory old) (state over_memory new) rows.items) → IfOk r (λ rows. All IsPairRow rows.items)
  templates_readable (Err e) ok = tt
  templates_readable (Ok rows) ok = All-from_recursion IsPairRow rows.items
      (subst (AllByRecursion IsPairRow) (sym (names_read templates templates_text templates_is old new rows.items is is.holds.sound.templates ok))
      (each_row (shown templates) IsPairRow (entries (rows_of old).templates)
      (λ p h. pair_row p (names_texts templates (trees_of old 4) is.holds.sound.templates p h))))

  pub active_readable : (r : Result (Vec Row Global) Error) → IfOk r (λ rows. Shown active_text [] (state over_memory old) (state over_memory new) rows.items)
      → IfOk r (λ rows. All IsNameRow rows.items)
  active_readable (Err e) ok = tt
  active_readable (Ok rows) ok = All-from_recursion IsNameRow rows.items
      (subst (AllByRecursion IsNameRow) (sym (names_read actives active_text active_is old new rows.items is is.holds.sound.active ok))
      (each_row (shown actives) IsNameRow (entries (rows_of old).active) (λ p h. name_row p (names_texts actives (trees_of old 6) is.holds.sound.active p h))))

  pub options_rows : (r : Result (Vec Row Global) Error) → IfOk r (λ rows. Shown options_text [] (state over_memory old) (state over_memory new) rows.items)
      → IfOk r (λ rows. map pair_from rows.items ≡ entries (rows_of old).options)
  options_rows (Err e) ok = tt
  options_rows (Ok rows) ok = ap (map pair_from) (names_read options options_text options_is old new rows.items is is.holds.sound.options ok)
      ∙ pairs_back (entries (rows_of old).options)

  pub templates_rows : (r : Result (Vec Row Global) Error) → IfOk r
      (λ rows. Shown templates_text [] (state over_memory old) (state over_memory new) rows.items)
      → IfOk r (λ rows. map pair_from rows.items ≡ entries (rows_of old).templates)
  templates_rows (Err e) ok = tt
  templates_rows (Ok rows) ok = ap (map pair_from) (names_read templates templates_text templates_is old new rows.items is is.holds.sound.templates ok)
      ∙ pairs_back (entries (rows_of old).templates)

  pub active_rows : (r : Result (Vec Row Global) Error) → IfOk r (λ rows. Shown active_text [] (state over_memory old) (state over_memory new) rows.items)
      → IfOk r (λ rows. map name_from rows.items ≡ keys (rows_of old).active)
  active_rows (Err e) ok = tt
  active_rows (Ok rows) ok = ap (map name_from) (names_read actives active_text active_is old new rows.items is is.holds.sound.active ok)
      ∙ names_back (entries (rows_of old).active)
