-- What writes one after another append.
use Rattle.std.proofs.Common.{ℕ, ◌+◌, ◌-◌, List, Option, length, take, drop, sym, subst, take-add}
use Rattle.std.specs.Io.KnownBytes.{Appends}
use Rattle.std.proofs.KnownBytes.{Appends-trans}
use Rattle.std.proofs.lemmas.List.{take_rest}

-- the first bytes were written, and then some of the rest
pub appends_more : (a b c : Option (List ℕ)) (bs : List ℕ) (at n : ℕ)
    → Appends a b (take at bs) → Appends b c (take n (take (length bs - at) (drop at bs))) → Appends a c (take (at + n) bs)
appends_more a b c bs at n front more =
    let rest = subst (λ xs. Appends b c (take n xs)) (take_rest bs at) more in
    subst (Appends a c) (sym (take-add at n bs)) (Appends-trans a b c _ _ front rest)
