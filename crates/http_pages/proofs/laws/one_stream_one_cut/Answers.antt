use Rattle.http1.proofs.OneParse.{requests_unique}
use Rattle.http_pages.proofs.laws.one_stream_one_cut.Goals as goal

pub returns : goal.returns
returns c = λ limits ms ns stream r q same first second. requests_unique limits ms ns stream r q same first second
