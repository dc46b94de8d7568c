use Rattle.site_laws.proofs.Isolation.{sites-same}
use Rattle.site_laws.proofs.pages.inactive_plugins_have_no_say_ever.Goals as goal

pub returns : goal.returns
returns g c names calls lines agree stays = sites-same names _ _ agree calls lines stays
