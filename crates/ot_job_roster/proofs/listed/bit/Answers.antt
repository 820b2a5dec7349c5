use Rattle.std.proofs.Common.{◌≡◌, ◌∙◌, get_or, ap, sym, arith}
use Rattle.ot_job_roster.specs.Listed.{bits_in}
use Rattle.ot_job_roster.proofs.ListedLemmas.{lowest-within, bits-behind, bit-is}
use Rattle.ot_job_roster.proofs.listed.bit.Goals as goal

pub without_bit-rest-requires : goal.without_bit-rest-requires
without_bit-rest-requires c = lowest-within c.args.word c.loop.counter c.loop.rest c.loop.invariant.left c.loop.invariant.fits (omega (arith, c.requires, c.loop-test.true))

pub loop-preserved : goal.loop-preserved
loop-preserved c = record {
  left = bits-behind c.args.word c.loop.counter c.loop.rest c.loop.invariant.left c.loop.invariant.fits (omega (arith, c.requires, c.loop-test.true)) c.without_bit-rest.result c.without_bit-rest.ensures.clear
      c.without_bit-rest.ensures.others;
  fits = omega arith;
}

pub returns-clause-is : goal.returns-clause-is
returns-clause-is c =
    let end : c.loop.counter ≡ c.args.place = omega (arith, c.loop-test.false, c.loop.auto.counter-end) in
    sym (ap (λ k. get_or (bits_in c.args.word) k 0) (sym end) ∙ bit-is c.args.word c.loop.counter c.loop.rest c.loop.invariant.left c.loop.invariant.fits (omega (arith, c.requires, end)))

pub returns-clause-within : goal.returns-clause-within
returns-clause-within c =
    let end : c.loop.counter ≡ c.args.place = omega (arith, c.loop-test.false, c.loop.auto.counter-end) in
    lowest-within c.args.word c.loop.counter c.loop.rest c.loop.invariant.left c.loop.invariant.fits (omega (arith, c.requires, end))
