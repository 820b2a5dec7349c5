-- The names of arrays in C.
use Rattle.std.specs.Prelude.{ℕ, Bool, ◌&&◌, if◌then◌else◌, List, [], ◌∷◌, ◌++◌, take, drop, codes}
use Rattle.std.specs.List.{list_any}
use Rattle.std.specs.Str.{bytes_eq}

abbrev pub Text : Type 0
Text = List ℕ

-- keywords of C and of its compilers, what the headers name, what a program calls by itself, and words of directives
abbrev pub taken_names : List Text
taken_names =
    codes "alignas" ∷ codes "alignof" ∷ codes "asm" ∷ codes "at" ∷ codes "auto" ∷ codes "bool" ∷ codes "break" ∷ codes "case" ∷ codes "char" ∷ codes "const" ∷
    codes "constexpr" ∷ codes "continue" ∷ codes "default" ∷ codes "define" ∷ codes "depend" ∷ codes "do" ∷ codes "double" ∷ codes "else" ∷ codes "enum" ∷
    codes "extern" ∷ codes "false" ∷ codes "firstprivate" ∷ codes "float" ∷ codes "for" ∷ codes "goto" ∷ codes "i386" ∷ codes "if" ∷ codes "in" ∷ codes "in_reduction" ∷
    codes "include" ∷ codes "inline" ∷ codes "inout" ∷ codes "int" ∷ codes "iterator" ∷ codes "linux" ∷ codes "long" ∷ codes "main" ∷ codes "masked" ∷ codes "master" ∷
    codes "max" ∷ codes "mergeable" ∷ codes "min" ∷ codes "none" ∷ codes "nullptr" ∷ codes "num_threads" ∷ codes "omp" ∷ codes "out" ∷ codes "parallel" ∷
    codes "pragma" ∷ codes "printf" ∷ codes "priority" ∷ codes "register" ∷ codes "restrict" ∷ codes "return" ∷ codes "shared" ∷ codes "short" ∷ codes "show" ∷
    codes "signed" ∷ codes "single" ∷ codes "size_t" ∷ codes "sizeof" ∷ codes "static" ∷ codes "static_assert" ∷ codes "struct" ∷ codes "switch" ∷ codes "task" ∷
    codes "task_reduction" ∷ codes "taskgroup" ∷ codes "taskwait" ∷ codes "taskyield" ∷ codes "thread_local" ∷ codes "true" ∷ codes "typedef" ∷ codes "typeof" ∷
    codes "typeof_unqual" ∷ codes "uint64_t" ∷ codes "union" ∷ codes "unix" ∷ codes "unsigned" ∷ codes "untied" ∷ codes "void" ∷ codes "volatile" ∷ codes "while" ∷ []

-- words that no array is called by
abbrev pub is_taken : Text → Bool
is_taken word = list_any (λ one. bytes_eq one word) taken_names

-- an array's name in C: its own, behind `A_` where that is taken
abbrev pub name_in_c : Text → Text
name_in_c word = if is_taken word then codes "A_" ++ word else word

-- whether it is `A_` and a word that is taken
abbrev pub is_made_up : Text → Bool
is_made_up word = bytes_eq (take 2 word) (codes "A_") && is_taken (drop 2 word)

-- the name of the array that is called so in C
abbrev pub own_name : Text → Text
own_name word = if is_made_up word then drop 2 word else word
