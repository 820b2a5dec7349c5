-- Steps behind others: for this crate alone.
use Rattle.ot_exec_outline.specs.Tree.{Steps, Done, Then}

abbrev pub append_steps : Steps → Steps → Steps
append_steps Done b = b
append_steps (Then x rest) b = Then x (append_steps rest b)
