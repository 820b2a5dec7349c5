-- Own names of names in C.
use Rattle.std.proofs.Common.{◌≡◌, ℕ, [], ◌∷◌, Bool, true, false, ◌&&◌, refl, ap, ◌∙◌, arith}
use Rattle.std.specs.Prelude.{◌==◌, nat_le}
use Rattle.std.proofs.lemmas.Bool.Decides.{nat_tests}
use Rattle.ot_c_names.specs.Names.{Text, is_taken, name_in_c, is_made_up, own_name}
use Rattle.ot_c_names.specs.Laws.{begins_with_capital, OwnNameComesBack}

made_up : (w : Text) → is_taken w ≡ true → name_in_c w ≡ 65 ∷ 95 ∷ w
made_up w h = rw h refl

own : (w : Text) → is_taken w ≡ false → name_in_c w ≡ w
own w h = rw h refl

no_capital : (b : ℕ) → nat_le 65 b && nat_le b 90 ≡ false → (b == 65) ≡ false
no_capital b h = grind (arith, nat_tests)

not_made_up : (w : Text) → begins_with_capital w ≡ false → is_made_up w ≡ false
not_made_up [] h = refl
not_made_up (b ∷ bs) h = rw (no_capital b h) refl

back : (w : Text) (t : Bool) → is_taken w ≡ t → begins_with_capital w ≡ false → own_name (name_in_c w) ≡ w
back w true h small = ap own_name (made_up w h) ∙ rw h refl
back w false h small = ap own_name (own w h) ∙ rw (not_made_up w small) refl

pub comes_back : OwnNameComesBack
comes_back w small = back w (is_taken w) refl small
