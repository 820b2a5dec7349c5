-- The lemmas that the crates above cite, passed on from one place. Declares nothing.
pub use Rattle.ot_check.proofs.Bits.{or_true, true_or, or_false, or_right, and_left, and_right, and_true, not_true, true_not, or_false_left, or_false_right, false_or, or_none, not_false, and_one, and_false, any-same, any-more, none_any, any-map}
pub use Rattle.ot_check.proofs.Steps.{IsClosed, closed_of, within-closed, awaited-append, touched-balanced, touched-awaited, passes_one-closed}
pub use Rattle.ot_check.proofs.After.{some_path_one, some_path, through-to}
pub use Rattle.ot_check.proofs.Meeting.{MeetsInside, Meets}
pub use Rattle.ot_check.proofs.PathsTold.{meets-on_path, meets-in_tasks}
pub use Rattle.ot_check.proofs.OpeningLemmas.{opened-none, opened-by}
pub use Rattle.ot_check.proofs.SameLemmas.{eq_apart, same_itself, same_is, cells_equal, eq_itself}
pub use Rattle.ot_check.proofs.DeclaredLemmas.{allows-told}
pub use Rattle.ot_check.proofs.RowLemmas.{slice_get-last}
pub use Rattle.ot_check.proofs.StandingLemmas.{section-at}
pub use Rattle.ot_check.proofs.OffenceLemmas.{is_offence-ChildBeyond, is_offence-ReductionMisuse, is_offence-Group}
pub use Rattle.ot_check.proofs.WalkLemmas.{stmt_of-Set, stmt_of-Fold, stmt_of-If, stmt_of-Task, stmt_of-Wait, stmt_of-Group, rest_is, rest_none, if_ok, on_ok}
pub use Rattle.ot_check.proofs.FineLemmas.{disciplined-fine, behind-more, fine-fewer, fine-append, through-append, false_below}
pub use Rattle.ot_check.proofs.ApartLemmas.{apart, read-weaker, touch-weaker, value-same, read-behind, one_op, conflicts_writes, conflicts_folds}
pub use Rattle.ot_check.proofs.FoldLemmas.{both_false, fits-folds, fits-reads}
pub use Rattle.ot_check.proofs.TouchLemmas.{harmless, harmless_if, clash_free}
pub use Rattle.ot_check.proofs.SetLemmas.{slice_get-more}
pub use Rattle.ot_check.proofs.InsideLemmas.{Groups, folded, child_fits, group_free, groups_inside, inside}
