-- What values of the code stand for.
use Rattle.std.specs.Prelude.{ℕ, List, string_bytes}
use Rattle.serde_json.specs.View.{view}
use Rattle.ot_model.specs.declared.shape.ArrayShape.{ArrayShape}
use Rattle.ot_book.specs.Requests as r
use Rattle.ot_book.specs.declared.request.Request.{Request}
use Rattle.ot_book.specs.declared.request.Request.TheVariants as v

abbrev pub asked_by : Request → r.Request
asked_by (v.New name len) = r.New name.now len
asked_by (v.Free name) = r.Free name.now
asked_by (v.Put name start values) = r.Put name.now start values.items
asked_by (v.Get name start len) = r.Get name.now start len
asked_by v.Arrays = r.Arrays
asked_by v.Used = r.Used
asked_by v.Checkpoint = r.Checkpoint
asked_by (v.Run text) = r.Run (view text.now)

abbrev pub sized_by : ArrayShape → List ℕ × ℕ
sized_by array = (string_bytes array.name, array.len)
