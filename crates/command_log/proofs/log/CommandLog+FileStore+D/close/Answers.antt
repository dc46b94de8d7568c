use Rattle.std.proofs.Common.{sym, subst}
use Rattle.sqlite.specs.FileStore.{view}
use Rattle.sqlite.specs.View.{IsClean}
use Rattle.command_log.specs.Faults.{IsCloseFault, fault_of}
use Rattle.command_log.specs.Found.{IsKeptAlone}
use Rattle.command_log.proofs.Restart.{kept_alone, close_fault}
use Rattle.command_log.proofs.log.CommandLog+FileStore+D.close.Goals as goal

pub returns-in-Ok-clause-alone : goal.returns-in-Ok-clause-alone
returns-in-Ok-clause-alone g c clean =
    subst (λ h. IsKeptAlone h c.in-Ok.files) c.self.view_is
    (kept_alone c.self.inside.conn c.self.invariant.0 (λ up. (c.schema-schema.ensures.live up).1) c.in-Ok.files (c.in-Ok.ensures.copied clean))

pub returns-in-Err-clause-cause : goal.returns-in-Err-clause-cause
returns-in-Err-clause-cause g c =
    subst (λ f. IsClean (view f) → IsCloseFault c.args.self f c.into.result) (sym c.new.ensures)
    (λ clean. subst (IsCloseFault c.args.self c.in-Err.store) (sym c.into.ensures)
    (subst (λ h. IsCloseFault h c.in-Err.store (fault_of c.in-Err.error)) c.self.view_is (close_fault c.self.inside.conn c.in-Err.store c.in-Err.error
    (c.in-Err.ensures.err.1 clean))))
