use Rattle.std.proofs.Common.{rules}
use Rattle.site_import.proofs.posts.read_post.Goals as goal

pub returns-in_default-read : goal.returns-in_default-read
returns-in_default-read c = search rules
