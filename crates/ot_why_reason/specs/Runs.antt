-- The program that a request runs.
use Rattle.std.specs.Prelude.{codes, if◌then◌else◌, Option, Some, None, Result, Ok, Err}
use Rattle.serde_json.specs.Data.{Data, array, no_items, item}
use Rattle.ot_model.specs.Programs.{Expanded, Arrays}
use Rattle.ot_program.specs.Meanings.{is_word}
use Rattle.ot_program.specs.Programs.{program_of}
use Rattle.ot_program.specs.declared.fault.Refusal.{Refusal}

abbrev pub read_or_none : Result Expanded Refusal → Option Expanded
read_or_none (Ok program) = Some program
read_or_none (Err refusal) = None

-- `["run", program]` over arrays of this shape, where the program can be read
abbrev pub run_of : Arrays → Data → Option Expanded
run_of shape (array (item t (item text no_items))) = if is_word t (codes "run") then read_or_none (program_of shape text) else None
run_of shape _ = None
