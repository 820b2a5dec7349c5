use Rattle.std.proofs.Common.{ap, sym, subst, refl}
use Rattle.ot_file_judge.specs.Judging.{IsPlaced, Goes, Standing}
use Rattle.ot_file_judge.specs.Found.{found_as}
use Rattle.ot_file_judge.proofs.FindingLemmas.{match_none, match_some, behind_found}
use Rattle.ot_file_judge.proofs.findings.Findings.next.Goals as goal

pub returns-in_default-clause-next : goal.returns-in_default-clause-next
returns-in_default-clause-next c = λ all goes.
    match_none c.in_ok-found.field-0 _ _ c.in_default.is (c.in_ok-found.ensures.next all (subst (Goes all) (sym c.self.view_is) goes))

pub returns-clause-next : goal.returns-clause-next
returns-clause-next c = λ all goes.
    let found = c.in-Some.found in
    let h = match_some c.in_ok-found.field-0 _ _ found c.in-Some.is (c.in_ok-found.ensures.next all (subst (Goes all) (sym c.self.view_is) goes)) in (
      found_as found c.next_in.new.book,
      h.0,
      h.1,
      h.2,
      record { start = refl; end = refl; code = c.code.ensures; request = refl; long = refl },
      behind_found found c.next_in.new.book,
      subst (λ blank. IsPlaced blank (found_as found c.next_in.new.book) c.in_ok-place.place) (ap (λ (s : Standing). s.blank) c.self.view_is) c.in_ok-place.ensures.placed,
    )
