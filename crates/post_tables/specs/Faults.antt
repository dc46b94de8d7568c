-- What stops work over the tables, by what stopped the tables.
use Rattle.std.specs.Prelude.{◌≡◌, ◌⊎◌, ℕ, Option, IsSome}
use Rattle.post_tables.specs.declared.fault.TablesFault.{TablesFault}
use Rattle.post_tables.specs.declared.fault.TablesFault.TheVariants as tables
use Rattle.post_tables.specs.declared.fault.StoreFault.{StoreFault}
use Rattle.post_tables.specs.declared.fault.StoreFault.TheVariants.{OutOfMemory, Store}

-- an allocation that failed is told from all else
abbrev pub fault_by : TablesFault → StoreFault
fault_by tables.OutOfMemory = OutOfMemory
fault_by _ = Store

-- what only reads is stopped: an allocation failed, or a statement would have gone past the limit on its steps
abbrev pub IsStoreReadFault : Option ℕ → StoreFault → Type 0
IsStoreReadFault limit e = (e ≡ OutOfMemory) ⊎ ((e ≡ Store) × IsSome limit)
