use Rattle.std.proofs.Common.{sym, ◌∙◌}
use Rattle.std.specs.Prelude.{not, option_map}
use Rattle.ot_check.specs.Offences.{allows}
use Rattle.ot_c_judge.proofs.LacksLemmas.{section_none, read_found, read_none}
use Rattle.ot_c_judge.proofs.lacks.lacks_section.Goals as goal

pub returns-in-Some : goal.returns-in-Some
returns-in-Some c =
    read_found (λ u. not (allows (option_map (λ d. d.now) c.args.own) u)) c.args.section c.loop-place.place c.args.section.len c.in-Some.used
    c.loop-place-test.true (sym c.in-Some.is ∙ c.lacks_read.ensures) ∙ sym c.loop-place.invariant

pub loop-place-preserved : goal.loop-place-preserved
loop-place-preserved c =
    c.loop-place.invariant
    ∙ read_none (λ u. not (allows (option_map (λ d. d.now) c.args.own) u)) c.args.section c.loop-place.place c.args.section.len
    c.loop-place-test.true (sym c.in-None.is ∙ c.lacks_read.ensures)

pub returns : goal.returns
returns c =
    sym (c.loop-place.invariant
    ∙ section_none (λ u. not (allows (option_map (λ d. d.now) c.args.own) u)) c.args.section c.loop-place.place c.args.section.len c.loop-place-test.false)
