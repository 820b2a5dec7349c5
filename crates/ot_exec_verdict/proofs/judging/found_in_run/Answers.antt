use Rattle.std.proofs.Common.{subst}
use Rattle.ot_exec_verdict.specs.Findings.{FindsAlone}
use Rattle.ot_exec_verdict.proofs.FindingLemmas.{alone_none, alone_finds}
use Rattle.ot_exec_verdict.proofs.judging.found_in_run.Goals as goal

pub found_beyond-requires : goal.found_beyond-requires
found_beyond-requires c = (c.args.run, c.requires.alone, alone_none c.args.run c.in-Nothing.field-0 (subst (FindsAlone c.args.run) c.in-Nothing.is c.in_ok-found.ensures))

pub returns-in_default : goal.returns-in_default
returns-in_default c = alone_finds c.args.code.now c.args.setting.bounds c.args.run c.requires.alone c.in_ok-found.found c.in_ok-found.ensures
