-- Bodies that have the same parts.
use Rattle.std.proofs.Common.{◌≡◌, ℕ, List, drop}
use Rattle.ot_parts.specs.Parts.{parts_of}
use Rattle.ot_parts.specs.declared.part.Part.{Part}

-- where those that are left are the same, all are
abbrev pub Suffice : List Part → List Part → ℕ → Type 0
Suffice xs ys i = parts_of (drop i xs) ≡ parts_of (drop i ys) → parts_of xs ≡ parts_of ys
