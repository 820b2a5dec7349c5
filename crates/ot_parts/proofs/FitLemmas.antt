-- Sections of what is named in a shape have indexes of 32 bits.
use Rattle.std.proofs.Common.{◌≡◌, ◌+◌, ◌≤◌, ◌^◌, ℕ, List, arith, subst, sym}
use Rattle.std.specs.Prelude.{IfSome, Option, Some, None, option_map}
use Rattle.ot_model.specs.Tree.{E, Literal, CellAt, Apply, PickFrom, Set, Fold, If, Task, Wait, Group, Body, End, Next}
use Rattle.ot_model.specs.Names.{ValueNamedIn, NamedIn}
use Rattle.ot_parts.specs.Parts.{leading, after_parts, test_of}
use Rattle.ot_parts.specs.Modes.{PicksFit, AssignsFit}

pub value-fits : (lens : List ℕ) (e : E) → ValueNamedIn lens e → PicksFit e
value-fits lens (Literal n) h = tt
value-fits lens (CellAt c) h = tt
value-fits lens (Apply o a b) h = (value-fits lens a h.0, value-fits lens b h.1)
value-fits lens (PickFrom s e) h =
    let w = h.0.within in let l = h.0.short in
    ((let fits : s.start + s.len ≤ 2 ^ 32 = omega (arith, w, l) in fits), value-fits lens e h.1)

pub assigns-fit : (lens : List ℕ) (b : Body) → NamedIn lens b → AssignsFit (leading b)
assigns-fit lens End h = tt
assigns-fit lens (Next (Set c e) rest) h = (value-fits lens e h.0.1, assigns-fit lens rest h.1)
assigns-fit lens (Next (Fold o c e) rest) h = (value-fits lens e h.0.1, assigns-fit lens rest h.1)
assigns-fit lens (Next (If e a b) rest) h = tt
assigns-fit lens (Next (Task d b) rest) h = tt
assigns-fit lens (Next (Wait w) rest) h = tt
assigns-fit lens (Next (Group o cs b) rest) h = tt

pub test-fits : (lens : List ℕ) (b : Body) → NamedIn lens b → IfSome (test_of (after_parts b)) PicksFit
test-fits lens End h = tt
test-fits lens (Next (Set c e) rest) h = test-fits lens rest h.1
test-fits lens (Next (Fold o c e) rest) h = test-fits lens rest h.1
test-fits lens (Next (If e a b) rest) h = value-fits lens e h.0.0
test-fits lens (Next (Task d b) rest) h = tt
test-fits lens (Next (Wait w) rest) h = tt
test-fits lens (Next (Group o cs b) rest) h = tt

-- the same of what stands for it
pub test-at : {A : Type 0} (view : A → E) (o : Option A) (t : Option E) → option_map view o ≡ t → IfSome t PicksFit → IfSome o (λ a. PicksFit (view a))
test-at view None t is h = tt
test-at view (Some a) t is h = subst (λ x. IfSome x PicksFit) (sym is) h
