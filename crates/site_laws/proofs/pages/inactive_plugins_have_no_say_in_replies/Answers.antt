use Rattle.site_laws.proofs.Isolation.{replies-same}
use Rattle.site_laws.proofs.pages.inactive_plugins_have_no_say_in_replies.Goals as goal

pub returns : goal.returns
returns g c names calls replied alike new after agree served also lines out out' stays =
    replies-same names _ _ agree calls replied alike new after served also lines out out' stays
