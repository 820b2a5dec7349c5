-- Why a text means no program, in words.
use Rattle.std.specs.Prelude.{List, ℕ, codes}
use Rattle.ot_c_words.specs.declared.fault.Wrong.{Wrong}
use Rattle.ot_c_words.specs.declared.fault.Wrong.TheVariants as w
use Rattle.ot_c_expressions.specs.declared.fault.Fault as part
use Rattle.ot_c_expressions.specs.declared.fault.Fault.TheVariants as p
use Rattle.ot_c_statements.specs.declared.fault.Fault.{Fault}
use Rattle.ot_c_statements.specs.declared.fault.Fault.TheVariants as f
use Rattle.ot_c_scope.specs.declared.reason.Reason.{Reason}
use Rattle.ot_c_scope.specs.declared.reason.Reason.TheVariants as why

-- why a text has no words
abbrev pub word_reason : Wrong → List ℕ
word_reason w.NoWord = codes "here begins nothing that is read"
word_reason w.NoNumber = codes "a number is decimal or hexadecimal, with an end that says its type or none"
word_reason w.TooLarge = codes "no type has this number"
word_reason w.OpenComment = codes "this comment doesn't end"
word_reason w.SplicedComment = codes "this comment goes on behind a backslash"
word_reason w.OpenText = codes "this string doesn't end on its line"
word_reason w.Trigraph = codes "this has a trigraph: ?? and a mark, which C reads as another mark"
word_reason w.OtherDirective = codes "of directives #include, #define and #pragma omp are read"

-- why words say no value, or no clause
abbrev pub part_reason : part.Fault → List ℕ
part_reason (p.NoValue n) = codes "a value that is read has to begin here"
part_reason (p.NoMark n) = codes "what stands here has no form in the server's programs"
part_reason (p.NoName n) = codes "a name has to stand here"
part_reason (p.NoClause n) = codes "this clause, or this item of one, has no form in the server's programs"
part_reason (p.TooDeep n) = codes "brackets nest too deep, or too many signs stand in a row"
part_reason (p.TooLong n) = codes "the text ends before it is whole"

-- why words say no statement, or no file whole
abbrev pub statement_reason : Fault → List ℕ
statement_reason (f.NoStatement n) = codes "this statement has no form in the server's programs"
statement_reason (f.Declared n) = codes "a block's variable has no form in the server's programs: tasks would copy it"
statement_reason (f.NoDirective n) = codes "this directive has no form in the server's programs here"
statement_reason (f.OtherClause n) = codes "this directive isn't read with all of these clauses"
statement_reason (f.NoSingle n) = codes "single, master or masked has to stand here, without clauses"
statement_reason (f.NoConstant n) = codes "a constant is a number, a name, or a value in brackets"
statement_reason (f.NoRegion n) = codes "main has no parallel region"
statement_reason (f.More n) = codes "nothing stands behind main"
statement_reason (f.TooDeep n) = codes "statements nest too deep"
statement_reason _ = codes "the text ends before it is whole"

-- why words say no file
abbrev pub file_reason : Fault → List ℕ
file_reason (f.Part part) = part_reason part
file_reason (f.NoMark n) = codes "what stands here has no form in the server's programs"
file_reason (f.NoName n) = codes "a name has to stand here"
file_reason (f.NoText n) = codes "a string has to stand here"
file_reason (f.NoType n) = codes "a type has to stand here, as int, unsigned, long, uint64_t or size_t"
file_reason (f.NoVariable n) = codes "the name of a loop's variable has to stand here"
file_reason (f.OtherVariable n) = codes "a loop tests and steps the variable that it declares"
file_reason (f.OtherStep n) = codes "a loop goes on by one"
file_reason other = statement_reason other

-- why a pointer or a function has no form in the language
abbrev pub name_reason : Reason → List ℕ
name_reason why.Pointer = codes "a pointer only stands for a cell that a reduction names by it"
name_reason why.Pointee = codes "a pointer points to one cell, at a number, wherever it is declared"
name_reason why.NoDependence = codes "in_reduction by a pointer wants its cell under depend(in: ..)"
name_reason why.CallInGroup = codes "a function is called here while a group combines"
name_reason why.Unlisted = codes "default(none) stands here, and no clause lists this"
name_reason why.TooMany = codes "a program has at most 20000 statements"
name_reason _ = codes "a call of this function has no form in the server's programs"

-- why a directive has none
abbrev pub directive_reason : Reason → List ℕ
directive_reason why.Combined = codes "an open group combines over this: a task may only fold into its own copy of it"
directive_reason why.OwnCopy = codes "a task's copy is only folded into, by its operation"
directive_reason why.NoGroup = codes "no open group combines over this by the operation"
directive_reason why.Operations = codes "a group combines by one operation"
directive_reason why.Private = codes "only a loop's variable is firstprivate"
directive_reason why.Iterator = codes "an iterator counts single cells, as in a[i]"
directive_reason why.NoRegion = codes "tasks, waits and groups stand in a parallel region"
directive_reason other = name_reason other

-- why what is named has none
abbrev pub use_reason : Reason → List ℕ
use_reason why.WholeArray = codes "this names an array whole where a number is wanted"
use_reason why.NoArray = codes "this names a cell of what is no array"
use_reason why.LoopVariable = codes "a loop's variable is read only, and each task has a copy"
use_reason why.Constant = codes "a constant is read only, and no cell"
use_reason why.Wraps = codes "numbers of type unsigned may wrap here"
use_reason why.Signed = codes "a number that may be negative is compared or divided as an unsigned one"
use_reason why.Rest = codes "% is by a power of two, or in an array's index"
use_reason why.Shift = codes "<< is of a uint64_t, by a known number below 64, or of known numbers"
use_reason why.Quotient = codes "/ and >> are of numbers that are known"
use_reason why.LeftOut = codes "what && || ?: may leave out here reads no cell and has no ?:"
use_reason other = directive_reason other

-- why a file has no program
abbrev pub program_reason : Reason → List ℕ
program_reason why.Unknown = codes "this names what isn't declared"
program_reason why.NoName = codes "a name here has 1 to 16 of a to z, 0 to 9 and _, a letter first"
program_reason why.Reserved = codes "this word means something in C or in a directive, and names nothing else here"
program_reason why.Twice = codes "this declares a name that means something already"
program_reason why.OtherType = codes "a pointer points to a cell of type uint64_t"
program_reason why.Conversion = codes "the type of what is assigned to may not hold this number"
program_reason why.NoConstant = codes "this wants a constant number that its type holds"
program_reason why.NoLength = codes "an array has 1 to 65536 cells, and no more values than cells"
program_reason why.NoSize = codes "a place and a bound are made of numbers and loop variables by + - *"
program_reason why.OwnBound = codes "this loop's bounds name its own variable"
program_reason why.Narrow = codes "an int begins with a number of type int"
program_reason other = use_reason other
