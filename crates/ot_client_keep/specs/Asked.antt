-- The requests that values of the code stand for.
use Rattle.ot_client_keep.specs.Questions as q
use Rattle.ot_client_keep.specs.declared.question.Question.{Question}
use Rattle.ot_client_keep.specs.declared.question.Question.TheVariants as v

abbrev pub question_by : Question → q.Question
question_by v.Checkpoint = q.Checkpoint
question_by v.Units = q.Units
question_by v.Arrays = q.Arrays
question_by (v.CellsOf name len) = q.CellsOf name.now len
question_by (v.Free name) = q.Free name.now
question_by (v.Line line) = q.Line line.now
