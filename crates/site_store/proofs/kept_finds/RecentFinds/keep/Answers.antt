use Rattle.std.proofs.Common.{◌∙◌, ◌+◌, None, Some, inr, sym, arith}
use Rattle.std.proofs.Math.Nat.{sub-zero}
use Rattle.site_store.proofs.Counts.{counted-put}
use Rattle.site_store.proofs.Recency.{finds-put, kept-none}
use Rattle.site_store.proofs.kept_finds.RecentFinds.keep.Goals as goal

-- nothing changes
pub returns-then-path-gt-MOST_PATH : goal.returns-then-path-gt-MOST_PATH
returns-then-path-gt-MOST_PATH c = kept-none c.args.self.now (c.args.path.now, c.args.find)

-- the bytes of what is displaced were counted
pub overflow_sub-self : goal.overflow_sub-self
overflow_sub-self c =
    let put = counted-put c.self.inside.finds c.self.inside.bytes c.self.invariant c.in_ok-path.path c.args.find c.args.path.now c.bytes_under-bytes.result
    c.in_ok-path.ensures.ok c.bytes_under-bytes.ensures.bytes c.make_room.new.self c.self.view_is c.make_room.ensures.room
    (omega (arith, c.bytes_under-bytes.ensures.most, c.if-path-gt-MOST_PATH.false))
    (Some (c.in-Some.path, c.in-Some.find)) (sym c.in-Some.is ∙ c.in_ok-displaced.ensures.old) in
    rw (c.bytes_under.ensures.bytes, c.as_str.ensures.value) put.0

pub invariant_of-self-in-Some : goal.invariant_of-self-in-Some
invariant_of-self-in-Some c =
    let put = counted-put c.self.inside.finds c.self.inside.bytes c.self.invariant c.in_ok-path.path c.args.find c.args.path.now c.bytes_under-bytes.result
    c.in_ok-path.ensures.ok c.bytes_under-bytes.ensures.bytes c.make_room.new.self c.self.view_is c.make_room.ensures.room
    (omega (arith, c.bytes_under-bytes.ensures.most, c.if-path-gt-MOST_PATH.false))
    (Some (c.in-Some.path, c.in-Some.find)) (sym c.in-Some.is ∙ c.in_ok-displaced.ensures.old) in
    rw (c.in_ok-displaced.ensures.entries, c.bytes_under.ensures.bytes, c.as_str.ensures.value) put.1

pub invariant_of-self-in_default : goal.invariant_of-self-in_default
invariant_of-self-in_default c =
    let put = counted-put c.self.inside.finds c.self.inside.bytes c.self.invariant c.in_ok-path.path c.args.find c.args.path.now c.bytes_under-bytes.result
    c.in_ok-path.ensures.ok c.bytes_under-bytes.ensures.bytes c.make_room.new.self c.self.view_is c.make_room.ensures.room
    (omega (arith, c.bytes_under-bytes.ensures.most, c.if-path-gt-MOST_PATH.false))
    None (sym c.in_default.is ∙ c.in_ok-displaced.ensures.old) in
    rw c.in_ok-displaced.ensures.entries (rw (sub-zero (c.self.inside.bytes + c.bytes_under-bytes.result)) at put.1)

-- the find comes first
pub returns-in-Some : goal.returns-in-Some
returns-in-Some c =
    let put = finds-put c.self.inside.finds c.in_ok-path.path c.args.find c.args.path.now c.in_ok-path.ensures.ok c.args.self.now
    (c.make_room.ensures.kept.0, c.self.view_is ∙ c.make_room.ensures.kept.1) in
    rw c.in_ok-displaced.ensures.entries (put.0, inr put.1)

pub returns-in_default : goal.returns-in_default
returns-in_default c =
    let put = finds-put c.self.inside.finds c.in_ok-path.path c.args.find c.args.path.now c.in_ok-path.ensures.ok c.args.self.now
    (c.make_room.ensures.kept.0, c.self.view_is ∙ c.make_room.ensures.kept.1) in
    rw c.in_ok-displaced.ensures.entries (put.0, inr put.1)
