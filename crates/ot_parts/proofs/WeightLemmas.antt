-- Weights of parts, one behind the other.
use Rattle.std.proofs.Common.{◌≡◌, ◌<◌, ◌++◌, ℕ, ◌+◌, List, ◌∷◌, length, get_or, drop, refl, sym, ap, ◌∙◌, arith}
use Rattle.std.specs.Prelude.{Bool, true, false, Option, None, Some, is_some}
use Rattle.std.proofs.lemmas.List.{drop_more}
use Rattle.ot_model.specs.Tree.{S, Set, Fold, If, Task, Wait, Group, Body, End, Next, append}
use Rattle.ot_parts.specs.Parts.{leading, after_parts, Meaning, IsPart, alone, whole, part_of, parts_of, weight, weight_one}
use Rattle.ot_parts.specs.Left.{rest_left, frame_parts, outer_parts}
use Rattle.ot_parts.specs.declared.frames.Frame.{Frame}
use Rattle.ot_parts.specs.declared.part.Part.{Part}
use Rattle.ot_parts.proofs.FrameLemmas.{parts-append}

tail : Body → Body
tail End = End
tail (Next x b) = b

weight-append : (a b : Body) → weight (append a b) ≡ weight a + weight b
weight-append End b = omega arith
weight-append (Next x a) b = let h = weight-append a b in omega (arith, h)

weight-run : (run : Body) → leading run ≡ run → weight run ≡ 0
unfolding tail
weight-run End h = refl
weight-run (Next (Set c e) rest) h = let r = weight-run rest (ap tail h) in omega (arith, r)
weight-run (Next (Fold o c e) rest) h = let r = weight-run rest (ap tail h) in omega (arith, r)
weight-run (Next (If e p q) rest) h = cc
weight-run (Next (Task d p) rest) h = cc
weight-run (Next (Wait w) rest) h = cc
weight-run (Next (Group o cs p) rest) h = cc

-- the sets and folds of a part weigh nothing
weight-part : (m : Meaning) → IsPart m → weight (whole m) ≡ weight (alone m.control)
weight-part m part = let h = weight-append m.run (alone m.control) in let r = weight-run m.run part.0 in omega (arith, h, r)

weight-alone : (o : Option S) → is_some o ≡ false → weight (alone o) ≡ 0
weight-alone None none = refl
weight-alone (Some x) none = cc

-- with no control statement behind them
pub weight-none : (m : Meaning) → IsPart m → is_some m.control ≡ false → weight (whole m) ≡ 0
weight-none m part none = weight-part m part ∙ weight-alone m.control none

-- with this one
pub weight-is : (m : Meaning) (x : S) → IsPart m → m.control ≡ Some x → weight (whole m) ≡ weight_one x
weight-is m x part is = let all = weight-part m part ∙ ap (λ o. weight (alone o)) is in omega (arith, all)

-- one part more
pub weight-first : (ps : List Part) (i : ℕ) (p : Part) → i < length ps → p ≡ get_or ps i p → weight (parts_of (drop i ps)) ≡ weight (whole (part_of p)) + weight (parts_of (drop (i + 1) ps))
weight-first ps i p within is =
    ap (λ l. weight (parts_of l)) (drop_more ps i p within ∙ ap (λ q. q ∷ drop (i + 1) ps) (sym is))
    ∙ weight-append (whole (part_of p)) (parts_of (drop (i + 1) ps))

pub weight-behind : (b : Body) → weight (after_parts b) ≡ weight b
weight-behind End = refl
weight-behind (Next (Set c e) rest) = let r = weight-behind rest in omega (arith, r)
weight-behind (Next (Fold o c e) rest) = let r = weight-behind rest in omega (arith, r)
weight-behind (Next (If e p q) rest) = refl
weight-behind (Next (Task d p) rest) = refl
weight-behind (Next (Wait w) rest) = refl
weight-behind (Next (Group o cs p) rest) = refl

-- passed or not, the sets and folds weigh nothing
pub weight-left : (passed : Bool) (b : Body) → weight (rest_left passed b) ≡ weight b
weight-left true b = weight-behind b
weight-left false b = refl

-- ---- places

pub weight-two : (ps qs : List Part) → weight (parts_of (ps ++ qs)) ≡ weight (parts_of ps) + weight (parts_of qs)
weight-two ps qs = ap weight (parts-append ps qs) ∙ weight-append (parts_of ps) (parts_of qs)

-- one of the bodies around more
pub weight-frame : (fs : List Frame) (i : ℕ) (f : Frame) → i < length fs → f ≡ get_or fs i f
    → weight (parts_of (outer_parts (drop i fs))) ≡ weight (parts_of (outer_parts (drop (i + 1) fs))) + weight (parts_of (frame_parts f))
weight-frame fs i f within is =
    ap (λ l. weight (parts_of (outer_parts l))) (drop_more fs i f within ∙ ap (λ g. g ∷ drop (i + 1) fs) (sym is))
    ∙ weight-two (outer_parts (drop (i + 1) fs)) (frame_parts f)
