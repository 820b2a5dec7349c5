-- One byte of a scan.
use Rattle.std.proofs.Common.{◌≡◌, ℕ, List, [], ◌∷◌, Some, refl}
use Rattle.ot_file_text.specs.Items.{behind_commas}
use Rattle.ot_file_text.specs.declared.nesting.Nesting.{Nesting}

pub no_commas : (n : Nesting) (text : List ℕ) → behind_commas 0 n text ≡ Some 0
no_commas n [] = refl
no_commas n (b ∷ behind) = refl
