-- C that is read back: its text means the program that it is printed of.
use Rattle.std.specs.Prelude.{◌≡◌, ◌≢◌, ℕ, List, [], map, Result, Ok, Err}
use Rattle.ot_model.specs.Programs.{Arrays, Expanded}
use Rattle.ot_show_print.specs.Shown.{Text}
use Rattle.ot_show_c.specs.Programs.{Declared, IsProgram, declared_from}
use Rattle.ot_program.specs.Programs.{program_of}
use Rattle.ot_c_arrays.specs.Arrays.{Arr}
use Rattle.ot_c_program.specs.Files.{Program}
use Rattle.ot_c_text.specs.Reading.{Means}
use Rattle.ot_c_printed.specs.Apart.{ApartWhole, told_whole}
use Rattle.ot_c_printed.specs.declared.fault.NoC.{NoC}
use Rattle.ot_c_printed.specs.declared.fault.NoC.TheVariants as no

-- ---- what a program is to come back as

-- an array with what it begins with
abbrev pub starting_array : Declared → Arr
starting_array d = record { name = d.name; cells = d.numbers }

-- the arrays that a program names, with their numbers
abbrev pub named_arrays : List (Text × ℕ) → List (List ℕ) → Expanded → List Arr
named_arrays arrays numbers p = map starting_array (declared_from p 0 arrays numbers)

-- a program over these arrays; of tasks it may have as many as it may have statements
abbrev pub arrays_shape : List (Text × ℕ) → Arrays
arrays_shape arrays = record { arrays = arrays; tasks = 20000 }

-- What a text means is this program, over arrays that begin with these numbers: its arrays are those that the program names, and its
-- body is the program's as far as C tells it (`told`), in the region's group where the region becomes one.
pub record IsSame (arrays : List (Text × ℕ)) (numbers : List (List ℕ)) (p : Expanded) (back : Program) : Type 0 where
  pub named : back.arrays ≡ named_arrays arrays numbers p
  pub read : Expanded
  pub reads : program_of (arrays_shape arrays) back.program ≡ Ok read
  pub body : read.body ≡ told_whole p.body

pub record ReadsBack (arrays : List (Text × ℕ)) (numbers : List (List ℕ)) (p : Expanded) (text : Text) : Type 0 where
  pub back : Program
  pub means : Means text (Ok back)
  pub same : IsSame arrays numbers p back

-- the C of this program, which is read back
abbrev pub IsPrinted : List (Text × ℕ) → List (List ℕ) → Expanded → Text → Type 0
IsPrinted arrays numbers p text = IsProgram arrays numbers p text × ReadsBack arrays numbers p text

-- ---- why it isn't printed

-- why what a text means isn't this program
abbrev pub Differs : List (Text × ℕ) → List (List ℕ) → Expanded → Program → NoC → Type 0
Differs arrays numbers p back no.OtherArrays = back.arrays ≢ named_arrays arrays numbers p
Differs arrays numbers p back (no.Refused refusal) = program_of (arrays_shape arrays) back.program ≡ Err refusal
Differs arrays numbers p back (no.OtherProgram n) = (read : Expanded) × (program_of (arrays_shape arrays) back.program ≡ Ok read) × ApartWhole p.body read.body n
Differs arrays numbers p back (no.NotReadBack byte reason) = ⊥
Differs arrays numbers p back no.Memory = Unit {0}

-- why a text isn't read back: it means nothing, or something else
abbrev pub NotBack : List (Text × ℕ) → List (List ℕ) → Expanded → Text → NoC → Type 0
NotBack arrays numbers p text (no.NotReadBack byte reason) = Means text (Err (byte, reason.now))
NotBack arrays numbers p text no.Memory = Unit {0}
NotBack arrays numbers p text fault = (back : Program) × Means text (Ok back) × Differs arrays numbers p back fault

-- why there is no C: the text of the program isn't read back; want of memory says nothing
abbrev pub WhyNot : List (Text × ℕ) → List (List ℕ) → Expanded → NoC → Type 0
WhyNot arrays numbers p no.Memory = Unit {0}
WhyNot arrays numbers p fault = (text : Text) × IsProgram arrays numbers p text × NotBack arrays numbers p text fault
