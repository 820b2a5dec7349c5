-- Sets and folds before what stands behind them.
use Rattle.std.proofs.Common.{◌≡◌, ◌+◌, Bool, List, [], ◌∷◌, ◌++◌, length, refl, ap, arith}
use Rattle.std.specs.Prelude.{◌==◌, ◌↔◌, IsTrue}
use Rattle.std.proofs.lemmas.Grind.{common_steps}
use Rattle.ot_model.specs.View.{expr_of}
use Rattle.ot_model.specs.Tree.{Set, Fold, If, Task, Wait, Group, Body, End, Next, append}
use Rattle.ot_parts.specs.Assigns.{assign_of, assigns_of}
use Rattle.ot_parts.specs.Parts.{leading, after_parts, leading_len}
use Rattle.ot_parts.specs.declared.assign.Assign.{Assign}
use Rattle.ot_parts.specs.declared.assign.Assign.TheVariants as v

tail : Body → Body
tail End = End
tail (Next x b) = b

pub leading-append : (g b : Body) → leading g ≡ g → leading (append g b) ≡ append g (leading b)
unfolding tail
leading-append End b h = refl
leading-append (Next (Set c e) rest) b h = ap (Next (Set c e)) (leading-append rest b (ap tail h))
leading-append (Next (Fold o c e) rest) b h = ap (Next (Fold o c e)) (leading-append rest b (ap tail h))
leading-append (Next (If e p q) rest) b h = cc
leading-append (Next (Task d p) rest) b h = cc
leading-append (Next (Wait w) rest) b h = cc
leading-append (Next (Group o cs p) rest) b h = cc

pub behind-append : (g b : Body) → leading g ≡ g → after_parts (append g b) ≡ after_parts b
unfolding tail
behind-append End b h = refl
behind-append (Next (Set c e) rest) b h = behind-append rest b (ap tail h)
behind-append (Next (Fold o c e) rest) b h = behind-append rest b (ap tail h)
behind-append (Next (If e p q) rest) b h = cc
behind-append (Next (Task d p) rest) b h = cc
behind-append (Next (Wait w) rest) b h = cc
behind-append (Next (Group o cs p) rest) b h = cc

pub leading-behind : (b : Body) → leading (after_parts b) ≡ End
leading-behind End = refl
leading-behind (Next (Set c e) rest) = leading-behind rest
leading-behind (Next (Fold o c e) rest) = leading-behind rest
leading-behind (Next (If e p q) rest) = refl
leading-behind (Next (Task d p) rest) = refl
leading-behind (Next (Wait w) rest) = refl
leading-behind (Next (Group o cs p) rest) = refl

pub behind-behind : (b : Body) → after_parts (after_parts b) ≡ after_parts b
behind-behind End = refl
behind-behind (Next (Set c e) rest) = behind-behind rest
behind-behind (Next (Fold o c e) rest) = behind-behind rest
behind-behind (Next (If e p q) rest) = refl
behind-behind (Next (Task d p) rest) = refl
behind-behind (Next (Wait w) rest) = refl
behind-behind (Next (Group o cs p) rest) = refl

-- ---- lists of sets and folds

pub leading-assigns : (xs : List Assign) → leading (assigns_of xs) ≡ assigns_of xs
leading-assigns [] = refl
leading-assigns (v.Set c e ∷ xs) = ap (Next (Set c (expr_of e))) (leading-assigns xs)
leading-assigns (v.Fold o c e ∷ xs) = ap (Next (Fold o c (expr_of e))) (leading-assigns xs)

pub assigns-push : (xs : List Assign) (a : Assign) (b : Body) → append (assigns_of (xs ++ a ∷ [])) b ≡ append (assigns_of xs) (Next (assign_of a) b)
assigns-push [] a b = refl
assigns-push (x ∷ xs) a b = ap (Next (assign_of x)) (assigns-push xs a b)

len-first : (a : Assign) (b : Body) → leading_len (Next (assign_of a) b) ≡ 1 + leading_len b
len-first (v.Set c e) b = refl
len-first (v.Fold o c e) b = refl

pub assigns-len : (xs : List Assign) → leading_len (assigns_of xs) ≡ length xs
assigns-len [] = refl
assigns-len (x ∷ xs) = let h = assigns-len xs in let s = len-first x (assigns_of xs) in omega (arith, h, s)

not-zero : (b : Bool) (x : Assign) (xs : List Assign) → IsTrue b → b ≡ (length (x ∷ xs) == 0) → ⊥
not-zero b x xs h is = let z : length (x ∷ xs) ≡ 0 = grind (arith, common_steps, h, is) in omega (arith, z)

pub listed-none : (b : Bool) (xs : List Assign) → b ≡ (length xs == 0) → IsTrue b ↔ assigns_of xs ≡ End
listed-none b [] is = ((λ h. refl), λ h. is)
listed-none b (x ∷ xs) is = ((λ h. absurd (not-zero b x xs h is)), λ h. cc)
