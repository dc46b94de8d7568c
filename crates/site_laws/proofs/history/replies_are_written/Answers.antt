use Rattle.site_serving.proofs.Histories.{Serves-bytes, Serves-from_bytes, Serves-push}
use Rattle.site_laws.proofs.history.replies_are_written.Goals as goal

pub returns-clause-bytes : goal.returns-clause-bytes
returns-clause-bytes c = λ engine calls. Serves-bytes _

pub returns-clause-replies : goal.returns-clause-replies
returns-clause-replies c = λ engine calls. Serves-from_bytes _

pub returns-clause-more : goal.returns-clause-more
returns-clause-more c = λ engine calls. Serves-push _
