-- Which program of a file is taken: the one with its loops as they stand, or else the one with its loops written out turn by turn.
use Rattle.std.specs.Prelude.{ℕ, Bool, true, false, ◌&&◌, List, map, length, Result, Ok, Err, if◌then◌else◌}
use Rattle.std.specs.List.{list_any}
use Rattle.ot_model.specs.Programs.{Arrays, Expanded}
use Rattle.ot_program.specs.Programs.{program_of}
use Rattle.ot_program.specs.declared.fault.Refusal.{Refusal as Refused}
use Rattle.ot_program.specs.declared.fault.Refusal.TheVariants.{Form, Size, UnknownArray, OutOfRange, EmptySection, TooLarge, TooManyTasks, MixedReduction}
use Rattle.ot_c_words.specs.declared.known.Known.TheVariants.{If}
use Rattle.ot_c_words.specs.declared.word.Name.TheVariants.{Known}
use Rattle.ot_c_words.specs.declared.word.Word.{Word}
use Rattle.ot_c_words.specs.declared.word.Word.TheVariants as w
use Rattle.ot_c_scope.specs.Results.{Refusal}
use Rattle.ot_c_arrays.specs.Arrays.{Arr}
use Rattle.ot_c_program.specs.Files.{Program}

-- ---- which programs aren't read as they stand

unfoldable pub is_if : Word → Bool
is_if (w.Name (Known If)) = true
is_if _ = false

-- whether `if` is among words
abbrev pub has_guards : List Word → Bool
has_guards words = list_any is_if words

-- what a program over these arrays may name; of tasks it may have as many as it may have statements
abbrev pub settled_shape : List Arr → Arrays
settled_shape arrays = record { arrays = map (λ a. (a.name, length a.cells)) arrays; tasks = 20000 }

-- whether an index or a size isn't exact, or isn't in range
abbrev pub is_size : Refused → Bool
is_size Form = false
is_size Size = true
is_size UnknownArray = false
is_size OutOfRange = true
is_size EmptySection = false
is_size TooLarge = false
is_size TooManyTasks = false
is_size MixedReduction = false

abbrev pub is_refused : Result Expanded Refused → Bool
is_refused (Ok program) = false
is_refused (Err refusal) = is_size refusal

-- whether a program isn't read, as an index or a size is told to be wrong
abbrev pub is_beyond : Program → Bool
is_beyond p = is_refused (program_of (settled_shape p.arrays) p.program)

-- ---- what is taken

abbrev pub unless_refused : Program → Result Program Refusal → Result Program Refusal
unless_refused p (Ok turns) = Ok turns
unless_refused p (Err e) = Ok p

-- A program as it stands, and with its loops turn by turn. Only where it isn't read as it stands, as an index or a size is wrong, and
-- `if` is among the words, the second is taken, if there is one.
abbrev pub reading_settled : Bool → Result Program Refusal → Result Program Refusal → Result Program Refusal
reading_settled guards (Err e) turns = Err e
reading_settled guards (Ok p) turns = if guards && is_beyond p then unless_refused p turns else Ok p
