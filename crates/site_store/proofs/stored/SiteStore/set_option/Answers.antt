use Rattle.std.proofs.Common.{◌≡◌, ◌∙◌, Some, inl, inr, refl, rules, sym, subst}
use Rattle.std.specs.Prelude.{IfSome, Option}
use Rattle.std.specs.FinMap.Entries.{put}
use Rattle.post_tables.specs.Rows.{Rows, by_bytes}
use Rattle.site_edits.specs.Edits.{set_option}
use Rattle.site_replies.specs.Reply.{ReplyData, done}
use Rattle.site_store.specs.Stored.{Texts, options_of}
use Rattle.site_store.proofs.Keeping.{set-with, set-without}
use Rattle.site_store.proofs.stored.SiteStore.set_option.Goals as goal
use Rattle.site_store.proofs.stored.SiteStore.set_option.Goals.{then-decides_what_is_found, else-decides_what_is_found}

-- no options were kept, or the option was refused
pub invariant_of-self-in_default : goal.invariant_of-self-in_default
invariant_of-self-in_default c =
    let was = c.self.inside in
    let made = c.set_option-done in
    elim c.if-decides_what_is_found.branch [
      | then-decides_what_is_found w ↦ rw (w.self-inside-is, c.take-before.ensures.after)
          (set-without was.tables was.options was.templates was.active was.found c.self.invariant c.args.name.now c.args.value.now _ (inl w.none.ensures)
          made.result made.new.tables (rw w.self-inside-is at made.ensures.ok) (rw w.self-inside-is at made.ensures.err))
      | else-decides_what_is_found w ↦ rw (w.self-inside-is, c.take-before.ensures.after)
          (set-without was.tables was.options was.templates was.active was.found c.self.invariant c.args.name.now c.args.value.now _
          (inr (sym c.decides_what_is_found.ensures ∙ w.if-decides_what_is_found.false, refl))
          made.result made.new.tables (rw w.self-inside-is at made.ensures.ok) (rw w.self-inside-is at made.ensures.err))
    ]

pub invariant_of-self-in_default-3 : goal.invariant_of-self-in_default-3
invariant_of-self-in_default-3 c =
    let was = c.self.inside in
    let made = c.set_option-done in
    elim c.if-decides_what_is_found.branch [
      | then-decides_what_is_found w ↦ rw (w.self-inside-is, c.take-before.ensures.after)
          (set-without was.tables was.options was.templates was.active was.found c.self.invariant c.args.name.now c.args.value.now _ (inl w.none.ensures)
          made.result made.new.tables (rw w.self-inside-is at made.ensures.ok) (rw w.self-inside-is at made.ensures.err))
      | else-decides_what_is_found w ↦ rw (w.self-inside-is, c.take-before.ensures.after)
          (set-without was.tables was.options was.templates was.active was.found c.self.invariant c.args.name.now c.args.value.now _
          (inr (sym c.decides_what_is_found.ensures ∙ w.if-decides_what_is_found.false, refl))
          made.result made.new.tables (rw w.self-inside-is at made.ensures.ok) (rw w.self-inside-is at made.ensures.err))
    ]

-- memory ran out before the kept options were set
pub invariant_of-self-in_default-with_option : goal.invariant_of-self-in_default-with_option
invariant_of-self-in_default-with_option c =
    let was = c.self.inside in
    let made = c.set_option-done in
    elim c.if-decides_what_is_found.branch [
      | then-decides_what_is_found w ↦ rw (w.self-inside-is, c.take-before.ensures.after)
          (set-without was.tables was.options was.templates was.active was.found c.self.invariant c.args.name.now c.args.value.now _ (inl w.none.ensures)
          made.result made.new.tables (rw w.self-inside-is at made.ensures.ok) (rw w.self-inside-is at made.ensures.err))
      | else-decides_what_is_found w ↦ rw (w.self-inside-is, c.take-before.ensures.after)
          (set-without was.tables was.options was.templates was.active was.found c.self.invariant c.args.name.now c.args.value.now _
          (inr (sym c.decides_what_is_found.ensures ∙ w.if-decides_what_is_found.false, refl))
          made.result made.new.tables (rw w.self-inside-is at made.ensures.ok) (rw w.self-inside-is at made.ensures.err))
    ]

-- the option was set, and so it is in the options that are kept
pub invariant_of-self : goal.invariant_of-self
invariant_of-self c =
    let was = c.self.inside in
    let made = c.set_option-done in
    let before : Texts = c.in-Some-Ok-Ok.options in
    let had : was.options ≡ Some before = search rules in
    let kept : IfSome (Some before) (λ (texts : Texts). texts ≡ options_of was.tables) = subst (λ (o : Option Texts). IfSome o (λ texts. texts ≡ options_of was.tables))
    had c.self.invariant.options in
    let texts : c.in-Ok.options ≡ put by_bytes c.args.name.now c.args.value.now before = search rules in
    elim c.if-decides_what_is_found.branch [
      | then-decides_what_is_found w ↦
          let stored : ◌≡◌ {A = Rows × ReplyData} (made.new.tables, done) (set_option was.tables c.args.name.now c.args.value.now) = search rules in
          rw w.self-inside-is
          (set-with was.tables was.options was.templates was.active was.found c.self.invariant c.args.name.now c.args.value.now _ (inl w.none.ensures)
          made.new.tables before c.in-Ok.options kept texts stored)
      | else-decides_what_is_found w ↦
          let stored : ◌≡◌ {A = Rows × ReplyData} (made.new.tables, done) (set_option was.tables c.args.name.now c.args.value.now) = search rules in
          rw w.self-inside-is
          (set-with was.tables was.options was.templates was.active was.found c.self.invariant c.args.name.now c.args.value.now _
          (inr (sym c.decides_what_is_found.ensures ∙ w.if-decides_what_is_found.false, refl))
          made.new.tables before c.in-Ok.options kept texts stored)
    ]
