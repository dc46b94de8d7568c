use Rattle.http1.proofs.OneParse.{answers_unique}
use Rattle.http_laws.proofs.Streams.{all_read}
use Rattle.http_laws.proofs.reading.the_client_reads_the_answers.Goals as goal

pub returns-clause-reads : goal.returns-clause-reads
returns-clause-reads c = all_read

pub returns-clause-alone : goal.returns-clause-alone
returns-clause-alone c = answers_unique
