-- Names: letters, digits and `_`, no digit first; and those that mean something in what is read.
use Rattle.std.specs.Prelude.{ℕ, nat_le, ◌==◌, Bool, ◌&&◌, ◌||◌, List, [], ◌∷◌, Option, codes}
use Rattle.ot_c_words.specs.Tables.{Text, looked_up}
use Rattle.ot_c_words.specs.declared.known.Known.{Known}
use Rattle.ot_c_words.specs.declared.known.Known.TheVariants as k

abbrev pub is_digit : ℕ → Bool
is_digit b = nat_le 48 b && nat_le b 57

abbrev pub is_letter : ℕ → Bool
is_letter b = (nat_le 97 b && nat_le b 122) || (nat_le 65 b && nat_le b 90) || (b == 95)

-- what a name has behind its first letter
abbrev pub in_name : ℕ → Bool
in_name b = is_letter b || is_digit b

abbrev pub known_words : List (Text × Known)
known_words =
    (codes "if", k.If) ∷ (codes "else", k.Else) ∷ (codes "for", k.For) ∷ (codes "static", k.Static) ∷ (codes "const", k.Const) ∷ (codes "void", k.Void) ∷
    (codes "int", k.Int) ∷ (codes "unsigned", k.Unsigned) ∷ (codes "long", k.Long) ∷ (codes "uint64_t", k.Word64) ∷ (codes "size_t", k.Size) ∷ (codes "main", k.Main) ∷
    (codes "return", k.Return) ∷ (codes "printf", k.Printf) ∷ (codes "show", k.Show) ∷ (codes "min", k.Min) ∷ (codes "max", k.Max) ∷ (codes "include", k.Include) ∷
    (codes "define", k.Define) ∷ (codes "pragma", k.Pragma) ∷ (codes "omp", k.Omp) ∷ (codes "parallel", k.Parallel) ∷ (codes "single", k.Single) ∷ (codes "master", k.Master) ∷
    (codes "masked", k.Masked) ∷ (codes "task", k.Task) ∷ (codes "taskwait", k.Taskwait) ∷ (codes "taskgroup", k.Taskgroup) ∷ (codes "taskyield", k.Taskyield) ∷ (codes "depend", k.Depend) ∷
    (codes "iterator", k.Iterator) ∷ (codes "in", k.In) ∷ (codes "out", k.Out) ∷ (codes "inout", k.Inout) ∷ (codes "in_reduction", k.InReduction) ∷ (codes "task_reduction", k.TaskReduction) ∷
    (codes "shared", k.Shared) ∷ (codes "firstprivate", k.Firstprivate) ∷ (codes "default", k.Default) ∷ (codes "none", k.None) ∷ (codes "num_threads", k.NumThreads) ∷ (codes "untied", k.Untied) ∷
    (codes "mergeable", k.Mergeable) ∷ (codes "priority", k.Priority) ∷
    []

unfoldable pub known_of : Text → Option Known
known_of text = looked_up known_words text
