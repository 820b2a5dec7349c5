-- The names that most proofs of this crate cite, passed on from one place. Declares nothing.
pub use Rattle.std.specs.List.{list_all, list_any, range_with_len}
pub use Rattle.std.proofs.lemmas.Bool.{cases_Bool, cases_eq, cases_lt, eq-eqb, eqb-true, false_from_ne_true}
pub use Rattle.std.proofs.lemmas.Bool.Decides.{nat_tests}
pub use Rattle.std.proofs.lemmas.Iterator.Adapters.{option_map_id}
pub use Rattle.std.proofs.lemmas.List.{get_or_default, length-append, length-map, map-append}
pub use Rattle.std.proofs.lemmas.List.Elements.{All-cons, All-contains, All-head, All-nil, All-tail, All-weaker}
pub use Rattle.std.proofs.lemmas.List.Folds.{Any-from_list_any, list_any-from_Any}
pub use Rattle.std.proofs.lemmas.List.FromFn.{length-range_with_len}
pub use Rattle.std.proofs.lemmas.List.Sorted.{All-permutation, Contains-permutation, IsPermutation-cons, IsPermutation-refl, IsPermutation-swap, IsPermutation-sym, IsPermutation-trans}
pub use Rattle.std.proofs.lemmas.List.Sums.{count_by-le-length, length-filter, sum_by-cons}
pub use Rattle.std.proofs.lemmas.Option.{none-some, same_Some, slice_get-get_or, slice_get_within}
pub use Rattle.std.proofs.lemmas.Result.{IfOk-from_err, IfOk-weaker}
pub use Rattle.ot_model.specs.Cells.{cell_of, lengths, same_cell, updated, AreInOrder, Conflict, Precedes, conflicts, depends_on, first_of, is_fold, joined, mode_in, same_fold}
pub use Rattle.ot_model.specs.Tree.{size, tasks_in, Apply, Body, CellAt, E, End, Fold, Group, If, Literal, Next, PickFrom, S, Set, Task, Wait, append, HasAll, cell_at, cells_named, val}
pub use Rattle.ot_model.specs.Joining.{join_by, unit_of}
pub use Rattle.ot_model.specs.Names.{AreInShape, NamedIn, ValueNamedIn}
pub use Rattle.ot_model.specs.Programs.{Expanded, expanded_of}
pub use Rattle.ot_model.specs.Serial.{state_of, State, bump, change, either, serial, serial_run}
pub use Rattle.ot_model.specs.View.{expr_of}
pub use Rattle.ot_model.specs.declared.expr.Cell.{Cell}
pub use Rattle.ot_model.specs.declared.expr.Section.{Section}
pub use Rattle.ot_model.specs.declared.fold.Fold.{Fold as Operation}
pub use Rattle.ot_model.specs.declared.stmt.Mode.{Mode}
pub use Rattle.ot_model.specs.declared.stmt.Mode.TheVariants.{Folds, Reads, Writes}
pub use Rattle.ot_model.specs.declared.stmt.Use.{Use}
pub use Rattle.ot_model.proofs.CellsLemmas.{length-updated, updated-updated}
pub use Rattle.ot_model.proofs.CountsLemmas.{tasks_in-≤-size}
pub use Rattle.ot_model.proofs.SerialLemmas.{serial-append}
pub use Rattle.ot_depend.specs.Siblings.{has, LetsTheSame, IsReady, IsUnfinished, Sibling, sibling_created, is_in, is_ready, is_unfinished, is_unfinished_in, with_finished}
pub use Rattle.ot_depend.proofs.ListLemmas.{slice_get-push_place}
pub use Rattle.ot_depend.proofs.SiblingsLemmas.{slice_get-push}
pub use Rattle.ot_owner.specs.Worth.{all_back, AreJoined, AreWorthSame, worth, worth_over, worths}
pub use Rattle.ot_owner.specs.Keeping.{Keeping}
pub use Rattle.ot_owner.specs.Lending.{Lease, copy_of, lease_of, lent_from, first_at, is_at, use_of, uses_of, value_at}
pub use Rattle.ot_owner.specs.Owning.{IsFreeFor, Loan, Owned, loan_of, IsNamed, IsSummed, IsSummedBy, Summed, begun_for}
pub use Rattle.ot_owner.specs.declared.lent.LentCell.{LentCell}
pub use Rattle.ot_owner.proofs.LentLemmas.{found-lent}
pub use Rattle.ot_owner.proofs.OutLemmas.{permutation_rest}
pub use Rattle.ot_owner.proofs.WorthLemmas.{cell_of-worths, worths-same}
pub use Rattle.ot_job_roster.specs.Members.{Kept, Tells, told_put, with_kid, with_member}
pub use Rattle.ot_job_roster.proofs.TellsLemmas.{put-here, put-other, tells-same}
pub use Rattle.ot_check.specs.Discipline.{AreAssigns, Children, IsClean, IsFine, IsHarmless, behind_one}
pub use Rattle.ot_check.specs.Offences.{Declared, Openings, allows, awaits, clashes, covers, folds_by, folds_to, has_cell, opened_by_any, touches, use_as, Agree, EachRead, EachTask, EachTouch}
pub use Rattle.ot_check.specs.declared.fault.Offence.TheVariants.{ConflictsWithChild, NotDeclared, ReductionMisuse}
pub use Rattle.ot_check.proofs.Cited.{and_left, and_right, and_true, clash_free, group_free, groups_inside, harmless, harmless_if, not_false, not_true, opened-none, or_false_left, or_false_right, or_right, or_true, same_is, touch-weaker, true_or}
pub use Rattle.ot_job_task.specs.Assigns.{CanAssign, CanRun, AreHeld, held_mode, held_as, mode_held, mode_noted, stronger, with_mode}
pub use Rattle.ot_job_task.specs.Copies.{Look, copies_assigned}
pub use Rattle.ot_job_task.specs.Pieces.{awake, piece_begun, after_parts, group_passed, leading, leading_len, groups_passed, test_of, is_at_end}
pub use Rattle.ot_job_task.specs.Regions.{Open, todo, Region, Run, Waiting, children_at, control_executed, group_next, inside, new_region, next_task, over, rest_at, root_region, region_stepped, stepped_from, region_stopped, tasks_next, with_child, with_created, with_rest, without, end_lets_go, is_awaited_at, is_held, is_let_go, region_weight, weight_left, weight_of}
pub use Rattle.ot_job_task.specs.Touched.{assign_touches, piece_touches, test_touches}
pub use Rattle.ot_job_task.proofs.CellLemmas.{same_self}
pub use Rattle.ot_job_task.proofs.HeldLemmas.{reads-append}
pub use Rattle.ot_job.specs.Awaiting.{AwaitsAll, IsFineAt, Kids, children_of, kids_behind, openings_of, unfinished_unawaited}
pub use Rattle.ot_job.specs.Calls.{HasPiece, IsBack}
pub use Rattle.ot_job.specs.Claiming.{claimable_of, is_claimable, picked_at}
pub use Rattle.ot_job.specs.Moves.{Claims, ahead, CreatesInOrder, Settles, region_ended_at, units_counted, counts_after, moved_on, regions_settled, told_parent, units_of}
pub use Rattle.ot_job.specs.Left.{out_in, children_left, left_of_job}
pub use Rattle.ot_job.specs.Holding.{Holds, touches_out}
pub use Rattle.ot_job.specs.JobView.{live_of}
pub use Rattle.ot_job.specs.Listing.{AreKept, IsRefreshed, member, members}
pub use Rattle.ot_job.specs.Dealings.{Live, job_aborted, all_ended, any_out, claimable_in, state_in}
pub use Rattle.ot_job.specs.Numbered.{at, ended_at, empty_region, left_of, parent_of, parents, todo_at}
pub use Rattle.ot_job.specs.Opened.{AreOpen, IsFor, IsRoomFor}
pub use Rattle.ot_job.specs.Opening.{MayOpen, Opens, left_open}
pub use Rattle.ot_job.specs.Running.{RunsWell}
pub use Rattle.ot_job.specs.Sound.{DontMix, IsRootOrReady, IsKin, IsSoundRegion, IsSoundRegions, LetsAll, NamedOnce, OnlyFolds, grouped_in, may_at}
pub use Rattle.ot_job.specs.Taken.{Came, IsOut, Taken, taken_by, worker_in}
pub use Rattle.ot_job.specs.Well.{IsOnCourse, IsWell, MaySettle}
pub use Rattle.ot_job.specs.Whole.{assigns_out, loan_in, loans_out, whole_region, wholes, with_loan}
pub use Rattle.ot_job.specs.declared.job.Job.TheInside.{Inside}
pub use Rattle.ot_job.specs.declared.state.State.TheVariants.{Ended, Failed, Failing, Working}
pub use Rattle.ot_job.specs.Rights.{IsRight}
