-- The replies that values of the code stand for.
use Rattle.std.specs.Prelude.{ℕ, List, string_bytes}
use Rattle.ot_model.specs.Programs.{arrays_of}
use Rattle.ot_model.specs.declared.shape.ArrayShape.{ArrayShape}
use Rattle.ot_client_keep.specs.declared.answer.Answer.{Answer}
use Rattle.ot_client_keep.specs.declared.answer.Answer.TheVariants as v
use Rattle.ot_client_keep.specs.Files.{Cells, Listed, Reply, Taken, Used}

abbrev pub reply_by : Answer → Reply
reply_by (v.Taken number) = Taken number
reply_by (v.Used units) = Used units
reply_by (v.Listed arrays) = Listed (arrays_of arrays.items)
reply_by (v.Cells cells) = Cells cells.items

abbrev pub shape_sized : ArrayShape → List ℕ × ℕ
shape_sized a = (string_bytes a.name, a.len)
