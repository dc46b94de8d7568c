use Rattle.http_laws.proofs.Same.{ask_the_same}
use Rattle.http_laws.proofs.reading.equal_bytes_ask_the_same.Goals as goal

pub returns : goal.returns
returns c = ask_the_same
