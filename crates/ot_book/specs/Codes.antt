-- The codes of refusals.
use Rattle.std.specs.Prelude.{ℕ}
use Rattle.ot_store.specs.Refusals as store
use Rattle.ot_program.specs.Faults as program
use Rattle.ot_book.specs.declared.code.Code.{Code}
use Rattle.ot_book.specs.declared.code.Code.TheVariants.{NotJson, NotRequest, Store, Program}

-- the number of a code
abbrev pub code_number : Code → ℕ
code_number NotJson = 410
code_number NotRequest = 411
code_number (Store refusal) = store.code_of refusal
code_number (Program refusal) = program.code_of refusal
