-- The slot to which a form gives a value. A call gives the slot in which its first argument was what the function gives.
use Rattle.std.specs.Prelude.{ℕ, Option, Some, None}
use Rattle.ot_exec_code.specs.declared.form.Form.{Form}
use Rattle.ot_exec_code.specs.declared.form.Form.TheVariants as f

abbrev pub number_given : Form → Option ℕ
number_given (f.Number to n) = Some to
number_given (f.Unknown to) = Some to
number_given (f.Copy to from) = Some to
number_given (f.Address to object index) = Some to
number_given (f.Function to k) = Some to
number_given (f.Operate to operation kind one other) = Some to
number_given (f.Convert to kind from) = Some to
number_given (f.Advance to place count stride cells) = Some to
number_given (f.Distance to one other cells) = Some to
number_given (f.Begin to cells name zero) = Some to
number_given (f.Allocate to name count cells zero) = Some to
number_given (f.Load site to place) = Some to
number_given (f.LoadOwn site to place) = Some to
number_given (f.Context to) = Some to
number_given (f.Call site k first) = Some first
number_given (f.CallBy site r first) = Some first
number_given _ = None
