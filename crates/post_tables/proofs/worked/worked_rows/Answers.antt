use Rattle.std.proofs.Common.{refl}
use Rattle.std.specs.Cmp.Lexicographic.{nat_list_cmp_total}
use Rattle.std.specs.FinMap.{entries-insert}
use Rattle.post_tables.proofs.NamedReading.{no_entries}
use Rattle.post_tables.proofs.worked.worked_rows.Goals as goal

pub returns-clause-values : goal.returns-clause-values
returns-clause-values c = rw (entries-insert nat_list_cmp_total, entries-insert nat_list_cmp_total, entries-insert nat_list_cmp_total, no_entries) refl

pub returns-clause-names : goal.returns-clause-names
returns-clause-names c = rw (entries-insert nat_list_cmp_total, entries-insert nat_list_cmp_total, entries-insert nat_list_cmp_total, no_entries) refl
