use Rattle.std.proofs.Common.{ap, true≢false}
use Rattle.ot_job.proofs.Common.{job_aborted}
use Rattle.ot_job.proofs.job.Job.abort.Goals as goal

pub invariant_of-self : goal.invariant_of-self
invariant_of-self c = record {
  rights = c.self.invariant.rights;
  lengths = c.self.invariant.lengths;
  created = c.self.invariant.created;
  few = c.self.invariant.few;
  light = c.self.invariant.light;
  holds = c.self.invariant.holds;
  present = c.self.invariant.present;
  apart = c.self.invariant.apart;
  course = λ is. absurd (true≢false is);
}

pub returns : goal.returns
returns c = ap job_aborted c.self.view_is
