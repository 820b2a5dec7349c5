-- Groups as the code's lists have them: the innermost stands last.
use Rattle.std.proofs.Common.{◌≡◌, ◌+◌, ◌<◌, List, [], ◌∷◌, ◌++◌, length, map, reverse, refl, sym, ap, ◌∙◌, arith}
use Rattle.std.proofs.lemmas.List.{map-append}
use Rattle.std.proofs.lemmas.Grind.{reverse_onto}
use Rattle.ot_job_task.specs.Regions.{Open, weight_behind}
use Rattle.ot_job_task.specs.RegionView.{open_of}
use Rattle.ot_job_task.specs.declared.place.OpenGroup.{OpenGroup}

pub map-reverse : {A B : Type 0} (g : A → B) (xs : List A) → map g (reverse xs) ≡ reverse (map g xs)
map-reverse g [] = refl
map-reverse g (x ∷ xs) =
    ap (map g) (reverse_onto xs x []) ∙ map-append g (reverse xs) (x ∷ []) ∙ ap (λ l. l ++ g x ∷ []) (map-reverse g xs) ∙ sym (reverse_onto (map g xs) (g x) [])

behind-join : (xs ys : List Open) → weight_behind (xs ++ ys) ≡ weight_behind xs + weight_behind ys
behind-join [] ys = omega arith
behind-join (x ∷ xs) ys = let h = behind-join xs ys in omega (arith, h)

pub behind-reverse : (xs : List Open) → weight_behind (reverse xs) ≡ weight_behind xs
behind-reverse [] = refl
behind-reverse (x ∷ xs) = let h = behind-reverse xs in let s = ap weight_behind (reverse_onto xs x []) ∙ behind-join (reverse xs) (x ∷ []) in omega (arith, h, s)

pub some-behind : (items : List OpenGroup) → 0 < length items → 0 < weight_behind (reverse (map open_of items))
some-behind [] h = absurd (omega (arith, h))
some-behind (o ∷ items) h = omega (arith, behind-reverse (map open_of (o ∷ items)))
