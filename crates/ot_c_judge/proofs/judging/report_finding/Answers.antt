use Rattle.std.proofs.Common.{map, refl, sym, subst}
use Rattle.ot_model.specs.View.{stmts_of}
use Rattle.ot_file_diagnosis.specs.DiagnosisView.{diagnosis_by}
use Rattle.ot_c_judge.specs.Reports.{ReportsFinding, refusals, none_in_run}
use Rattle.ot_c_judge.specs.declared.report.Verdict.TheVariants.{Clean}
use Rattle.ot_c_judge.specs.SiteView.{source_by}
use Rattle.ot_c_judge.proofs.ReportLemmas.{if_both}
use Rattle.ot_c_judge.proofs.judging.report_finding.Goals as goal

pub returns-in-InRun : goal.returns-in-InRun
returns-in-InRun c = λ first.
    let s = source_by c.args.source.now in
    let body = stmts_of c.args.program.now.body.items in
    if_both c.report_races.result _ _ (λ report. ReportsFinding s body c.args.finding report.verdict (map diagnosis_by report.found.items))
    (λ report v t. subst (λ f. ReportsFinding s body f report.verdict (map diagnosis_by report.found.items)) (sym c.in-InRun.is) (v, t))
    c.report_races.ensures.verdict c.report_races.ensures.found

pub returns-in-OnWay : goal.returns-in-OnWay
returns-in-OnWay c = λ first.
    let s = source_by c.args.source.now in
    let body = stmts_of c.args.program.now.body.items in
    if_both c.report_race.result _ _ (λ report. ReportsFinding s body c.args.finding report.verdict (map diagnosis_by report.found.items))
    (λ report v t. subst (λ f. ReportsFinding s body f report.verdict (map diagnosis_by report.found.items)) (sym c.in-OnWay.is) (v, t))
    c.report_race.ensures.verdict c.report_race.ensures.found

pub returns-in_ok-found-in-Nowhere : goal.returns-in_ok-found-in-Nowhere
returns-in_ok-found-in-Nowhere c = λ first.
    let s = source_by c.args.source.now in
    let body = stmts_of c.args.program.now.body.items in
    subst (λ f. ReportsFinding s body f Clean (map diagnosis_by c.in_ok-found-in-Nowhere.found.items)) (sym c.in-Nowhere.is)
    (refl, (c.args.first, first, c.in_ok-found-in-Nowhere.ensures))

pub returns-in-OnlyRun : goal.returns-in-OnlyRun
returns-in-OnlyRun c = λ first.
    let s = source_by c.args.source.now in
    let body = stmts_of c.args.program.now.body.items in
    if_both c.report_only_run.result _ _ (λ report. ReportsFinding s body c.args.finding report.verdict (map diagnosis_by report.found.items))
    (λ report v t. subst (λ f. ReportsFinding s body f report.verdict (map diagnosis_by report.found.items)) (sym c.in-OnlyRun.is)
    (v, refusals s body none_in_run c.args.first, (c.args.first, first, refl), t))
    c.report_only_run.ensures.verdict c.report_only_run.ensures.found
