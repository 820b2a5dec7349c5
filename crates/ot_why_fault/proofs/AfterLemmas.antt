-- What is told of faults one after the other.
use Rattle.std.proofs.Common.{◌≡◌, List, [], ◌∷◌, ◌++◌, Option, refl}
use Rattle.ot_why_fault.specs.Whys.{Why, why_noted, after}

pub after-append : (told : Option Why) (vs ws : List Why) → after told (vs ++ ws) ≡ after (after told vs) ws
after-append told [] ws = refl
after-append told (v ∷ vs) ws = after-append (why_noted told v) vs ws
