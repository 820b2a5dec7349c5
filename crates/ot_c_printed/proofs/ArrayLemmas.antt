-- What none of some arrays decides.
use Rattle.std.proofs.Common.{◌≡◌, ◌∙◌, List, [], ◌∷◌, ◌==◌, length, map, Bool, true, false, true≢false, refl, sym, ap, arith}
use Rattle.std.proofs.lemmas.Bool.Decides.{nat_tests}
use Rattle.std.specs.Prelude.{◌↔◌, IsTrue}
use Rattle.ot_c_arrays.specs.Arrays.{Arr, c_array}
use Rattle.ot_c_names.specs.declared.array.CArray.{CArray}

is_empty : List Arr → Bool
is_empty [] = true
is_empty (a ∷ more) = false

some_left : (c : CArray) (cs : List CArray) → (length (c ∷ cs) == 0) ≡ false
some_left c cs = grind (arith, nat_tests)

-- where the others are none, it is so exactly where none is left
pub empty_decides : (cs : List CArray) (b : Bool) (Whole : Type 0) → b ≡ (length cs == 0) → (map c_array cs ≡ []) ↔ Whole → IsTrue b ↔ Whole
unfolding is_empty
empty_decides [] b Whole is decides = ((λ yes. decides.0 refl), λ w. is)
empty_decides (c ∷ cs) b Whole is decides =
    ((λ yes. absurd (true≢false (sym yes ∙ is ∙ some_left c cs))), λ w. absurd (true≢false (sym (ap is_empty (decides.1 w)))))
