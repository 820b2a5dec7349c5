-- The arrays of a program, as its C has them.
use Rattle.std.specs.Prelude.{Vec, ◌≡◌, ℕ, ◌+◌, Bool, true, false, if◌then◌else◌, List, [], ◌∷◌, ◌++◌, map, codes, decimal, ◌==◌, string_bytes}
use Rattle.ot_model.specs.declared.expr.Section.{Section}
use Rattle.ot_model.specs.Programs.{Expanded}
use Rattle.ot_show_print.specs.Shown.{Text, cell}
use Rattle.ot_show_c.specs.Statements.{line, deeper, block, body, constant}
use Rattle.ot_show_c.specs.Named.{names, body_calls}
use Rattle.ot_show_c.specs.declared.named.Call.TheVariants as call
use Rattle.ot_model.specs.declared.shape.ArrayShape.{ArrayShape}
use Rattle.ot_c_names.specs.Names.{name_in_c}

-- arrays, each with its name and its length, by their names in C
abbrev pub arrays_in_c : List (Text × ℕ) → List (Text × ℕ)
arrays_in_c arrays = map (λ a. (name_in_c a.0, a.1)) arrays

-- ---- declarations

-- a number before others, left out where it is a zero and none follow
abbrev pub before : ℕ → List ℕ → List ℕ
before n [] = if n == 0 then [] else n ∷ []
before n (m ∷ ms) = n ∷ m ∷ ms

-- numbers without the zeros at the end
abbrev pub up_to_last : List ℕ → List ℕ
up_to_last [] = []
up_to_last (n ∷ ns) = before n (up_to_last ns)

-- numbers behind others, a comma before each
abbrev pub further_numbers : List ℕ → Text
further_numbers [] = []
further_numbers (n ∷ ns) = codes ", " ++ constant n ++ further_numbers ns

-- what an array begins with, where that isn't only zeros
abbrev pub initial : List ℕ → Text
initial [] = []
initial (n ∷ ns) = codes " = {" ++ constant n ++ further_numbers ns ++ codes "}"

-- an array that the C has: its name, its length, and the numbers that it begins with
pub record Declared : Type 0 where
  pub name : Text
  pub len : ℕ
  pub numbers : List ℕ

abbrev pub array_of : ArrayShape → Text × ℕ
array_of a = (string_bytes a.name, a.len)

abbrev pub c_declared : Text × ℕ → List ℕ → Declared
c_declared a ns = record { name = a.0; len = a.1; numbers = ns }

-- a name and a number of cells
abbrev pub word_sized : Text → ℕ → Text
word_sized word len = word ++ codes "[" ++ decimal len ++ codes "]"

-- static, as a stack may be small
abbrev pub declaration : Text → Declared → Text
declaration margin d = margin ++ codes "static uint64_t " ++ word_sized d.name d.len ++ initial (up_to_last d.numbers) ++ codes ";\n"

abbrev pub each_declared : Text → List Declared → Text
each_declared margin [] = []
each_declared margin (d ∷ ds) = declaration margin d ++ each_declared margin ds

abbrev pub any_declared : List Declared → Bool
any_declared [] = false
any_declared (d ∷ ds) = true

abbrev pub words_if : Bool → Text → Text
words_if wanted words = if wanted then words else []

-- the declarations, with a line behind them if there are any
abbrev pub declarations : Text → List Declared → Text
declarations margin ds = each_declared margin ds ++ words_if (any_declared ds) (codes "\n")

-- The C of programs, from their first line to their last.

-- prints a list of the reply
abbrev pub show : List Text → Text → Section → Text
show names margin s = margin ++ codes "show(&" ++ cell names (record { array = s.array; index = s.start }) ++ codes ", " ++ decimal s.len ++ codes ");\n"

-- lists behind others, a comma before each
abbrev pub further_lists : List Text → Text → List Section → Text
further_lists names margin [] = []
further_lists names margin (s ∷ ss) = line margin (codes "printf(\",\");") ++ show names margin s ++ further_lists names margin ss

abbrev pub lists : List Text → Text → List Section → Text
lists names margin [] = []
lists names margin (s ∷ ss) = show names margin s ++ further_lists names margin ss

-- prints the lists of the reply
abbrev pub shows : List Text → Text → List Section → Text
shows names margin ss = line margin (codes "printf(\"[\");") ++ lists names margin ss ++ line margin (codes "printf(\"]\\n\");")

-- the body of the root, which declares nothing here, and what shows its cells
abbrev pub region : List Text → Text → Expanded → Text
region names margin p = block margin (body names (deeper margin) [] p.body) ++ codes "\n" ++ shows names margin p.shows

-- ---- what stands before the body

abbrev pub head : Text
head = codes "/* The last run of a session, as C with OpenMP: it prints what the run shows. */\n#include <inttypes.h>\n#include <stdint.h>\n#include <stdio.h>\n"

abbrev pub min_text : Text
min_text = codes "\nstatic uint64_t min(uint64_t one, uint64_t two)\n{\n    return one < two ? one : two;\n}\n"

abbrev pub max_text : Text
max_text = codes "\nstatic uint64_t max(uint64_t one, uint64_t two)\n{\n    return one < two ? two : one;\n}\n"

abbrev pub show_text : Text
show_text = codes "\nstatic void show(const uint64_t *cells, size_t count)\n{\n    for (size_t i = 0; i < count; i++)\n        printf(\"%c%\" PRIu64, i == 0 ? '[' : ',', cells[i]);\n    printf(\"]\");\n}\n"

abbrev pub main_text : Text
main_text = codes "\nint main(void)\n{\n"

abbrev pub region_text : Text
region_text = codes "    #pragma omp parallel\n    #pragma omp single\n"

abbrev pub any_shown : List Section → Bool
any_shown [] = false
any_shown (s ∷ ss) = true

-- the functions that are called
abbrev pub functions : Expanded → Text
functions p = words_if (body_calls call.Min p.body) min_text ++ words_if (body_calls call.Max p.body) max_text ++ words_if (any_shown p.shows) show_text

-- of arrays from this number on, with what they begin with, those that the program names
abbrev pub declared_from : Expanded → ℕ → List (Text × ℕ) → List (List ℕ) → List Declared
declared_from p i [] numbers = []
declared_from p i (a ∷ arrays) [] = []
declared_from p i (a ∷ arrays) (ns ∷ numbers) =
    if names p i then c_declared a ns ∷ declared_from p (i + 1) arrays numbers else declared_from p (i + 1) arrays numbers

-- all that stands before the body of a program that has these arrays
abbrev pub front : List Declared → Expanded → Text
front ds p = head ++ functions p ++ main_text ++ declarations (codes "    ") ds ++ region_text

-- ---- the whole

abbrev pub lists_of : {Z : Type 0} → List (Vec ℕ Z) → List (List ℕ)
lists_of vs = map (λ v. v.items) vs

abbrev pub whole : List (Text × ℕ) → List (List ℕ) → Expanded → Text
whole arrays numbers p = front (declared_from p 0 arrays numbers) p ++ region (map (λ a. a.0) arrays) (codes "    ") p ++ codes "    return 0;\n}\n"

-- the C of a program over arrays of these names and lengths, which begin with these numbers
abbrev pub IsProgram : List (Text × ℕ) → List (List ℕ) → Expanded → Text → Type 0
IsProgram arrays numbers p text = text ≡ whole (arrays_in_c arrays) numbers p
