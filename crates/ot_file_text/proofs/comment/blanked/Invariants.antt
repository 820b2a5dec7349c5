use Rattle.std.proofs.Common.{◌≡◌, ◌++◌, length}
use Rattle.ot_file_text.specs.Comments.{comments_blanked, blanked_in}
use Rattle.ot_file_text.proofs.comment.blanked.Given as goal

-- what is shown so far, and then the rest's, is all that is shown
abbrev pub invariant-loop-rest : goal.invariant-loop-rest
invariant-loop-rest l = l.blank.items ++ blanked_in l.part l.rest ≡ comments_blanked l.text

abbrev pub decreases-loop-rest : goal.decreases-loop-rest
decreases-loop-rest l = length l.rest
