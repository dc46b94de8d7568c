-- What the rows of a site are if one table has changed.
use Rattle.std.proofs.Common.{◌≡◌, ◌≢◌, ◌<◌, ◌^◌, ℕ, Option, List, [], ◌∷◌, map, refl, sym, subst, subst₂, ◌∙◌, arith}
use Rattle.std.specs.List.{AllByRecursion}
use Rattle.sqlite.specs.Table.{Table}
use Rattle.sqlite.specs.Tree.{Trees}
use Rattle.site_records.specs.declared.post.Post.{Post}
use Rattle.post_tables.specs.Schema.{site_schema}
use Rattle.post_tables.specs.Rows.{Rows, Named, Names}
use Rattle.post_tables.specs.Stored.{AreSound, ArePosts, AreNamed, IsCounter, AreGiven, rows_in, text_rest, text_in, no_rest, nothing_in, named_in}
use Rattle.post_tables.specs.Stored.{post_in, top_in}

-- the other tables are as they were
abbrev pub Others : ℕ → Trees → Trees → Type 0
Others tree db next = AllByRecursion (λ t. t.tree ≢ tree → next t.tree ≡ db t.tree) site_schema.tables

keeps_none : (tables : List Table) (tree : ℕ) (db : Trees) → AllByRecursion (λ t. t.tree ≢ tree → db t.tree ≡ db t.tree) tables
keeps_none [] tree db = tt
keeps_none (t ∷ tables) tree db = ((λ other. refl), keeps_none tables tree db)

pub others_none : (tree : ℕ) (db : Trees) → Others tree db db
others_none tree db = keeps_none site_schema.tables tree db

keeps_on : (tables : List Table) (tree : ℕ) (db mid next : Trees) → AllByRecursion (λ t. t.tree ≢ tree → mid t.tree ≡ db t.tree) tables
    → AllByRecursion (λ t. t.tree ≢ tree → next t.tree ≡ mid t.tree) tables
    → AllByRecursion (λ t. t.tree ≢ tree → next t.tree ≡ db t.tree) tables
keeps_on [] tree db mid next one two = tt
keeps_on (t ∷ tables) tree db mid next one two = ((λ other. two.0 other ∙ one.0 other), keeps_on tables tree db mid next one.1 two.1)

pub others_on : (tree : ℕ) (db mid next : Trees) → Others tree db mid → Others tree mid next → Others tree db next
others_on tree db mid next one two = keeps_on site_schema.tables tree db mid next one two

module _ (limit : Option ℕ) (db next : Trees) (ok : AreSound db) where
  pub record IsNow (rows : Rows) : Type 0 where
    pub sound : AreSound next
    pub are : rows_in limit next ≡ rows

  pub options_now : Others 2 db next → AreNamed text_rest text_in (next 2) → (m : Named) → named_in text_in (next 2) ≡ m
      → IsNow (record (rows_in limit db) { options = m })
  options_now o named m is =
      let posts = o.0 (λ e. omega arith) in
      let top = o.1.0 (λ e. omega arith) in
      let templates = o.1.1.1.0 (λ e. omega arith) in
      let active = o.1.1.1.1.0 (λ e. omega arith) in
      record {
        sound = record {
          posts = subst ArePosts (sym posts) ok.posts;
          counter = subst IsCounter (sym top) ok.counter;
          bounded = subst (λ rows. top_in rows < 2 ^ 32) (sym top) ok.bounded;
          given = subst₂ (λ rows counter. AreGiven (map post_in rows) (top_in counter)) (sym posts) (sym top) ok.given;
          options = named;
          templates = subst (AreNamed text_rest text_in) (sym templates) ok.templates;
          active = subst (AreNamed no_rest nothing_in) (sym active) ok.active;
        };
        are = λ i. record {
          posts = map post_in (posts i);
          options = is i;
          templates = named_in text_in (templates i);
          active = named_in nothing_in
              (active i);
          largest = top_in (top i);
          step_limit = limit;
        };
      }

  pub templates_now : Others 4 db next → AreNamed text_rest text_in (next 4) → (m : Named) → named_in text_in (next 4) ≡ m
      → IsNow (record (rows_in limit db) { templates = m })
  templates_now o named m is =
      let posts = o.0 (λ e. omega arith) in
      let top = o.1.0 (λ e. omega arith) in
      let options = o.1.1.0 (λ e. omega arith) in
      let active = o.1.1.1.1.0 (λ e. omega arith) in
      record {
        sound = record {
          posts = subst ArePosts (sym posts) ok.posts;
          counter = subst IsCounter (sym top) ok.counter;
          bounded = subst (λ rows. top_in rows < 2 ^ 32) (sym top) ok.bounded;
          given = subst₂ (λ rows counter. AreGiven (map post_in rows) (top_in counter)) (sym posts) (sym top) ok.given;
          options = subst (AreNamed text_rest text_in) (sym options) ok.options;
          templates = named;
          active = subst (AreNamed no_rest nothing_in) (sym active) ok.active;
        };
        are = λ i. record {
          posts = map post_in (posts i);
          options = named_in text_in (options i);
          templates = is i;
          active = named_in nothing_in (active i);
          largest = top_in (top i);
          step_limit = limit;
        };
      }

  pub active_now : Others 6 db next → AreNamed no_rest nothing_in (next 6) → (m : Names) → named_in nothing_in (next 6) ≡ m
      → IsNow (record (rows_in limit db) { active = m })
  active_now o named m is =
      let posts = o.0 (λ e. omega arith) in
      let top = o.1.0 (λ e. omega arith) in
      let options = o.1.1.0 (λ e. omega arith) in
      let templates = o.1.1.1.0 (λ e. omega arith) in
      record {
        sound = record {
          posts = subst ArePosts (sym posts) ok.posts;
          counter = subst IsCounter (sym top) ok.counter;
          bounded = subst (λ rows. top_in rows < 2 ^ 32) (sym top) ok.bounded;
          given = subst₂ (λ rows counter. AreGiven (map post_in rows) (top_in counter)) (sym posts) (sym top) ok.given;
          options = subst (AreNamed text_rest text_in) (sym options) ok.options;
          templates = subst (AreNamed text_rest text_in) (sym templates) ok.templates;
          active = named;
        };
        are = λ i. record {
          posts = map post_in (posts i);
          options = named_in text_in (options i);
          templates = named_in text_in (templates i);
          active = is i;
          largest = top_in (top i);
          step_limit = limit;
        };
      }

  -- the posts change, and perhaps the row that counts for them
  pub posts_now : (next 2 ≡ db 2) × (next 4 ≡ db 4) × (next 6 ≡ db 6) → ArePosts (next 0) → IsCounter (next 1) → (ps : List Post) → map post_in (next 0) ≡ ps
      → (top : ℕ) → top < 2 ^ 32 → top_in (next 1) ≡ top
      → AreGiven ps top → IsNow (record (rows_in limit db) { posts = ps; largest = top })
  posts_now o posts counter ps are top low is given = record {
    sound = record {
      posts = posts;
      counter = counter;
      bounded = subst (λ n. n < 2 ^ 32) (sym is) low;
      given = subst₂ AreGiven (sym are) (sym is) given;
      options = subst (AreNamed text_rest text_in) (sym o.0) ok.options;
      templates = subst (AreNamed text_rest text_in) (sym o.1) ok.templates;
      active = subst (AreNamed no_rest nothing_in) (sym o.2) ok.active;
    };
    are = λ i. record {
      posts = are i;
      options = named_in text_in (o.0 i);
      templates = named_in text_in (o.1 i);
      active = named_in nothing_in (o.2 i);
      largest = is i;
      step_limit = limit;
    };
  }
