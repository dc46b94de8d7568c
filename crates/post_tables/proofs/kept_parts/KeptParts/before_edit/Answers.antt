use Rattle.std.proofs.Common.{◌≡◌, ◌∙◌, None, rules}
use Rattle.std.specs.Option.{option_copied}
use Rattle.post_tables.proofs.ListedParts.{parts_stay}
use Rattle.post_tables.proofs.kept_parts.KeptParts.before_edit.Goals as goal

-- neither a status nor a date is given
pub returns-else-is_some-2-clause-edited : goal.returns-else-is_some-2-clause-edited
returns-else-is_some-2-clause-edited c = λ posts id e status date listed.
    let no_status : c.args.status ≡ None = search rules in
    let no_date : option_copied c.args.date ≡ None = search rules in
    parts_stay c.args.self.now posts id e (status ∙ no_status) (date ∙ no_date) listed
