-- What the jobs end as, where a `&mut` to one of them is returned.
use Rattle.std.specs.Prelude.{ℕ, List, Option, Some, slice_set}
use Rattle.std.specs.Borrow.{Lends, MutBor, Fml}
use Rattle.ot_job.specs.Dealings.{Live}
use Rattle.ot_job.specs.contracts.job.Job as job
use Rattle.ot_hall.specs.contracts.live.Jobs.{the_row}

-- the tenant has the last job behind r
abbrev pub LendsJob : MutBor (List (Option Live)) → ℕ → MutBor Live → Fml
LendsJob s tenant r = Lends the_row job.the_row s r (λ job. slice_set s.now tenant (Some job))
