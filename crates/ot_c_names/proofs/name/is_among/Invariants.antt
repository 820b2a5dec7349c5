use Rattle.std.proofs.Common.{◌≡◌, drop}
use Rattle.std.specs.List.{list_any}
use Rattle.std.specs.Str.{bytes_eq}
use Rattle.ot_c_names.proofs.name.is_among.Given as goal

-- those that are left decide
abbrev pub invariant-loop-word : goal.invariant-loop-word
invariant-loop-word l = list_any (λ w. bytes_eq w.now l.name) (drop l.word-index l.words) ≡ list_any (λ w. bytes_eq w.now l.name) l.words
