use Rattle.std.proofs.Common.{refl, subst}
use Rattle.std.specs.Prelude.{Some, None}
use Rattle.ot_c_overlap.specs.Items.{items_of, ground}
use Rattle.ot_c_overlap.specs.Overlaps.{IsFirst}
use Rattle.ot_c_judge.specs.Reports.{has_red_items}
use Rattle.ot_c_judge.specs.SiteView.{source_by}
use Rattle.ot_c_judge.proofs.judging.report_program.Goals as goal

pub returns-in-Some : goal.returns-in-Some
returns-in-Some c =
    let s = source_by c.args.source.now in
    let first : IsFirst (items_of (ground s.arrays (has_red_items s.order)) s.request) c.in_ok-first_overlap.field-0 =
    subst (λ red. IsFirst (items_of (ground s.arrays red) s.request) c.in_ok-first_overlap.field-0) c.has_red_items.ensures c.in_ok-first_overlap.ensures in
    (Some _, subst (IsFirst (items_of (ground s.arrays (has_red_items s.order)) s.request)) c.in-Some.is first, refl)

pub returns : goal.returns
returns c =
    let s = source_by c.args.source.now in
    let first : IsFirst (items_of (ground s.arrays (has_red_items s.order)) s.request) c.in_ok-first_overlap.field-0 =
    subst (λ red. IsFirst (items_of (ground s.arrays red) s.request) c.in_ok-first_overlap.field-0) c.has_red_items.ensures c.in_ok-first_overlap.ensures in
    (None, subst (IsFirst (items_of (ground s.arrays (has_red_items s.order)) s.request)) c.in-None.is first, c.in_ok-report-in-None.ensures)
