use Rattle.std.proofs.Common.{refl}
use Rattle.hex.specs.Hex.{encode_with}
use Rattle.sha2.specs.Sha256.{first_words, schedule, rounds, compress, hash_after, digest_bytes, sha256}
use Rattle.command_log.proofs.digest_laws.worked_digests.Goals as goal

pub returns : goal.returns
unfolding encode_with first_words schedule rounds compress hash_after digest_bytes sha256
returns c = record { none = refl }
