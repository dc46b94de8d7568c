use Rattle.std.proofs.Common.{[], ℕ, List, map, ap, sym, ◌∙◌}
use Rattle.std.specs.String.{string_bytes}
use Rattle.sha2.specs.Sha256.{sha256}
use Rattle.command_log.specs.Digests.{digest_after, digest_of}
use Rattle.command_log.proofs.Digests.{after_both}
use Rattle.command_log.specs.Lines.{lines_of}
use Rattle.command_log.proofs.log.CommandLog.append.Goals as goal

pub invariant_of-self-2 : goal.invariant_of-self-2
invariant_of-self-2 g c =
    let it = c.in_ok-put_all.ensures in
    let more = map string_bytes c.args.lines.now in (
      it.log,
      λ up. it.digest ∙ ap (λ (d : List ℕ). digest_after d more) (c.self.invariant.1 (it.shut up))
          ∙ sym (after_both (sha256 []) (lines_of g.S.Store c.self.inside.conn) more) ∙ ap digest_of (sym (it.ok up)),
    )
