use Rattle.std.proofs.Common.{◌≡◌, ◌+◌, ◌<◌, ◌^◌, length}
use Rattle.serde_json.specs.View.{members_view}
use Rattle.site_import.specs.Walks.{each_from, members_of}
use Rattle.site_import.specs.Templates.{template_at}
use Rattle.site_import.proofs.Walks.{in_front}
use Rattle.site_import.proofs.templates.read_each.Given as goal

-- the walk of all is the pairs so far, and then the walk of the members that are left
abbrev pub invariant-loop-name : goal.invariant-loop-name
invariant-loop-name l = record {
  walked : each_from template_at 0 (members_of (members_view l.members.entries))
      ≡ in_front l.pairs (each_from template_at l.entry (members_of (members_view l.name-iterator)));
  counted : l.entry + length l.name-iterator ≡ l.count;
  fits : l.count < 2 ^ 63;
}
