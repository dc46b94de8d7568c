use Rattle.serde_json.specs.View.{view}
use Rattle.site_import.proofs.Ids.{site_file_of-ids}
use Rattle.site_import.proofs.site.read_site_value.Goals as goal

pub returns-clause-ids : goal.returns-clause-ids
returns-clause-ids c = site_file_of-ids (view c.args.value.now) _ c.in_ok-records.ensures
