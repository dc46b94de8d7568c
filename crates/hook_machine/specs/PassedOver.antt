-- A pass that leaves its value as it is.
use Rattle.std.specs.Prelude.{◌≡◌, ◌-◌, ◌<◌, [], ◌∷◌, ◌++◌}
use Rattle.hook_changes.specs.declared.reply.Call.{Call}
use Rattle.hook_registry.specs.declared.registration.Registration.{Registration}
use Rattle.hook_registry.specs.Table.{Table, registrations}
use Rattle.plain_data.specs.Texts.{Text}
use Rattle.hook_meaning.specs.World.{World}
use Rattle.hook_meaning.specs.Trace.{Trace, Done, Turn}

-- core's callback is all that is registered on a hook, and takes an argument
pub record IsCoreAlone (table : Table) (hook : Text) : Type 0 where
  pub only : Registration
  pub alone : registrations table hook ≡ only ∷ []
  pub core : only.callback ≡ 0
  pub takes : 0 < only.accepted

-- core's callback is invoked with this call in the hook, and the value is as it was
abbrev pub left_by_core : World → Text → Call → Text → Trace Text
left_by_core world hook call value =
    Turn (record { callback = 0; call = call; world = record world { calls = world.calls - 1; running = world.running ++ hook ∷ [] } })
    (Done (record world { calls = world.calls - 1 }) value)
