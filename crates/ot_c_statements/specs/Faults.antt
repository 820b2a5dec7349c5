-- Where a fault is.
use Rattle.std.specs.Prelude.{ℕ}
use Rattle.ot_c_expressions.specs.declared.fault.Fault as part
use Rattle.ot_c_expressions.specs.declared.fault.Fault.TheVariants as p
use Rattle.ot_c_statements.specs.declared.fault.Fault.{Fault}
use Rattle.ot_c_statements.specs.declared.fault.Fault.TheVariants as f

abbrev pub part_left : part.Fault → ℕ
part_left (p.NoValue n) = n
part_left (p.NoMark n) = n
part_left (p.NoName n) = n
part_left (p.NoClause n) = n
part_left (p.TooDeep n) = n
part_left (p.TooLong n) = n

-- how many words are left there
abbrev pub words_left : Fault → ℕ
words_left (f.Part p) = part_left p
words_left (f.NoMark n) = n
words_left (f.NoName n) = n
words_left (f.NoText n) = n
words_left (f.NoType n) = n
words_left (f.NoVariable n) = n
words_left (f.OtherVariable n) = n
words_left (f.OtherStep n) = n
words_left (f.NoStatement n) = n
words_left (f.Declared n) = n
words_left (f.NoDirective n) = n
words_left (f.OtherClause n) = n
words_left (f.NoSingle n) = n
words_left (f.NoConstant n) = n
words_left (f.NoRegion n) = n
words_left (f.More n) = n
words_left (f.TooDeep n) = n
words_left (f.TooLong n) = n
