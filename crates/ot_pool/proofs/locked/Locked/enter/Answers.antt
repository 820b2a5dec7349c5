use Rattle.std.proofs.Common.{sym, subst}
use Rattle.std.specs.Prelude.{◌↔◌, ◌&&◌, ◌==◌, IsTrue}
use Rattle.ot_pool.specs.Rounds.{CallsWorkers}
use Rattle.ot_pool.specs.Shared.{Shared}
use Rattle.ot_pool.proofs.locked.Locked.enter.Goals as goal

pub returns-in-Ok-clause-tells : goal.returns-in-Ok-clause-tells
returns-in-Ok-clause-tells g c =
    subst (λ (h : Shared). IsTrue c.calls_workers.result ↔ CallsWorkers (c.args.self.now.worker_waits && c.args.self.now.lookers == 0) h) (sym c.calls_workers.ensures.hub) c.calls_workers.ensures.calls
