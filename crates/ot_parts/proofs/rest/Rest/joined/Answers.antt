use Rattle.std.proofs.Common.{sym, subst}
use Rattle.ot_model.specs.View.{expr_of}
use Rattle.ot_parts.specs.Parts.{after_parts, test_of}
use Rattle.ot_parts.specs.Modes.{AssignsFit}
use Rattle.ot_parts.proofs.FitLemmas.{assigns-fit, test-at, test-fits}
use Rattle.ot_parts.proofs.rest.Rest.joined.Goals as goal

pub of_run-requires-clause-fits : goal.of_run-requires-clause-fits
of_run-requires-clause-fits c = subst AssignsFit (sym c.in_ok-run.ensures.run) (assigns-fit c.requires.named.0 c.args.self.now c.requires.named.1)

pub of_run-requires-clause-test : goal.of_run-requires-clause-test
of_run-requires-clause-test c =
    test-at expr_of c.in_ok-run.condition (test_of (after_parts c.args.self.now)) c.in_ok-run.ensures.condition (test-fits c.requires.named.0 c.args.self.now c.requires.named.1)
