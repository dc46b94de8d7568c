use Rattle.std.proofs.Common.{◌-◌, length, sym, arith}
use Rattle.site_store.specs.Kept.{finds_of}
use Rattle.site_store.proofs.Counts.{counted-popped, some-popped}
use Rattle.site_store.proofs.Recency.{finds-popped, take-every}
use Rattle.site_store.proofs.kept_finds.RecentFinds.make_room.Goals as goal

pub loop-self-init : goal.loop-self-init
loop-self-init c =
    let all = finds_of c.self.inside.finds.entries in
    (c.self.invariant, length all, sym (take-every all))

-- there is something to drop, since bytes count
pub unreachable-requires : goal.unreachable-requires
unreachable-requires c =
    some-popped c.loop-self.self-inside.finds c.loop-self.self-inside.bytes c.loop-self.invariant.0 (omega (arith, c.loop-self-test.true)) c.in-None.ensures.value

-- the bytes of what is dropped were counted
pub overflow_sub-self : goal.overflow_sub-self
overflow_sub-self c =
    let popped = counted-popped c.loop-self.self-inside.finds c.loop-self.self-inside.bytes c.loop-self.invariant.0 (c.in-Some.path, c.in-Some.find) c.in-Some.ensures.value in
    rw (c.bytes_under.ensures.bytes, c.as_str.ensures.value) popped.0

pub loop-self-preserved : goal.loop-self-preserved
loop-self-preserved c =
    let es = c.loop-self.self-inside.finds.entries in
    let popped = counted-popped c.loop-self.self-inside.finds c.loop-self.self-inside.bytes c.loop-self.invariant.0 (c.in-Some.path, c.in-Some.find) c.in-Some.ensures.value in
    let front = finds-popped (length es - 1) es (finds_of c.self.inside.finds.entries) (c.loop-self.invariant.1, c.loop-self.invariant.2) in
    rw (c.pop_lru.ensures.entries, c.bytes_under.ensures.bytes, c.as_str.ensures.value) (popped.1, front.0, front.1)
