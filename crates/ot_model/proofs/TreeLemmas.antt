-- Bodies joined end to end.
use Rattle.std.proofs.Common.{◌≡◌, refl, ap}
use Rattle.ot_model.specs.Tree.{Body, End, Next, append}

pub append-End : (b : Body) → append b End ≡ b
append-End End = refl
append-End (Next x rest) = ap (Next x) (append-End rest)

pub append-append : (a b c : Body) → append (append a b) c ≡ append a (append b c)
append-append End b c = refl
append-append (Next x rest) b c = ap (Next x) (append-append rest b c)
