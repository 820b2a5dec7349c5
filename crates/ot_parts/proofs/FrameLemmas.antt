-- Places in parts, a step further.
use Rattle.std.proofs.Common.{◌≡◌, ◌++◌, ◌<◌, ◌≤◌, ℕ, zero, suc, ◌+◌, Bool, true, false, List, [], ◌∷◌, length, drop, append_assoc, refl, sym, ap, subst, ◌∙◌, arith}
use Rattle.std.specs.Prelude.{Option, Some, None, MatchOption, slice_get, Vec, vec_len}
use Rattle.std.specs.Arc.{arc_value}
use Rattle.std.specs.declared.sync.Arc.{Arc}
use Rattle.std.specs.Global.{Global}
use Rattle.std.proofs.lemmas.List.{drop_all, drop_more}
use Rattle.std.proofs.lemmas.Option.{get_or_from_slice_get, slice_get_within}
use Rattle.ot_model.specs.Tree.{S, Set, Fold, If, Task, Wait, Group, Body, End, Next, append}
use Rattle.ot_model.proofs.TreeLemmas as tree
use Rattle.ot_parts.specs.Parts.{leading, after_parts, test_of, Meaning, IsPart, alone, is_control, condition_of, part_of, parts_of}
use Rattle.ot_parts.specs.Left.{frame_parts, outer_parts, parts_left, next_at, rest_left, comes, frame_steps, outer_steps, steps_left}
use Rattle.ot_parts.specs.declared.frames.Frame.{Frame}
use Rattle.ot_parts.specs.declared.frames.Frames.{Frames}
use Rattle.ot_parts.specs.declared.part.Part.{Part}
use Rattle.ot_parts.proofs.LeadingLemmas.{leading-append, behind-append}

-- ---- lists

pub next-drop : (ps : List Part) (i : ℕ) (p : Part) → slice_get ps i ≡ Some p → drop i ps ≡ p ∷ drop (i + 1) ps
next-drop ps i p is = drop_more ps i p (slice_get_within ps i p is) ∙ ap (λ q. q ∷ drop (i + 1) ps) (get_or_from_slice_get ps i p p is)

pub not-over : (ps : List Part) (i : ℕ) (p : Part) → length ps ≤ i → slice_get ps i ≡ Some p → ⊥
not-over ps i p over is = let w = slice_get_within ps i p is in omega (arith, over, w)

pub not-none : (ps : List Part) (i : ℕ) → i < length ps → slice_get ps i ≡ None → ⊥
not-none [] i within is = omega (arith, within)
not-none (p ∷ ps) zero within is = cc
not-none (p ∷ ps) (suc i) within is = not-none ps i (omega (arith, within)) is

pub outer-push : (fs : List Frame) (f : Frame) → outer_parts (fs ++ f ∷ []) ≡ frame_parts f ++ outer_parts fs
outer-push [] f = sym (append-none (frame_parts f))
  where
    append-none : (ps : List Part) → ps ++ [] ≡ ps
    append-none [] = refl
    append-none (p ∷ ps) = ap (λ l. p ∷ l) (append-none ps)
outer-push (g ∷ fs) f = ap (λ l. l ++ frame_parts g) (outer-push fs f) ∙ append_assoc (frame_parts f) (outer_parts fs) (frame_parts g)

pub steps-push : (fs : List Frame) (f : Frame) → outer_steps (fs ++ f ∷ []) ≡ 1 + frame_steps f + outer_steps fs
steps-push [] f = refl
steps-push (g ∷ fs) f = let h = steps-push fs f in omega (arith, h)

pub parts-append : (ps qs : List Part) → parts_of (ps ++ qs) ≡ append (parts_of ps) (parts_of qs)
parts-append [] qs = refl
parts-append (p ∷ ps) qs =
    ap (append (append (part_of p).run (alone (part_of p).control))) (parts-append ps qs)
    ∙ sym (tree.append-append (append (part_of p).run (alone (part_of p).control)) (parts_of ps) (parts_of qs))

-- ---- a part before what is left

pub first-is : (m : Meaning) (b : Body) → append (append m.run (alone m.control)) b ≡ append m.run (append (alone m.control) b)
first-is m b = tree.append-append m.run (alone m.control) b

pub leading-first : (m : Meaning) (b : Body) → IsPart m → leading (append (append m.run (alone m.control)) b) ≡ append m.run (leading (append (alone m.control) b))
leading-first m b part = ap leading (first-is m b) ∙ leading-append m.run (append (alone m.control) b) part.0

pub behind-first : (m : Meaning) (b : Body) → IsPart m → after_parts (append (append m.run (alone m.control)) b) ≡ after_parts (append (alone m.control) b)
behind-first m b part = ap after_parts (first-is m b) ∙ behind-append m.run (append (alone m.control) b) part.0

pub control-first : (x : S) (b : Body) → is_control x ≡ true → (leading (Next x b) ≡ End) × (after_parts (Next x b) ≡ Next x b) × (test_of (Next x b) ≡ condition_of (Some x))
control-first (Set c e) b is = cc
control-first (Fold o c e) b is = cc
control-first (If e p q) b is = (refl, refl, refl)
control-first (Task d p) b is = (refl, refl, refl)
control-first (Wait w) b is = (refl, refl, refl)
control-first (Group o cs p) b is = (refl, refl, refl)

-- ---- nothing of a part comes

pub nothing-first : (passed : Bool) (m : Meaning) (b : Body) → IsPart m → comes passed m ≡ false → rest_left passed b ≡ rest_left passed (append (append m.run (alone m.control)) b)
nothing-first passed m b part none = on passed m.run m.control part.0 none
  where
    on : (passed : Bool) (run : Body) (control : Option S) → leading run ≡ run → comes passed (let m : Meaning = record { run = run; control = control } in m) ≡ false
        → rest_left passed b ≡ rest_left passed (append (append run (alone control)) b)
    on passed run (Some x) only none = cc
    on true run None only none = sym (ap (λ r. after_parts (append r b)) (tree.append-End run) ∙ behind-append run b only)
    on false End None only none = refl
    on false (Next x run) None only none = cc

-- ---- places

-- the last of the bodies around is gone out to
pub out-parts : (old new : Frames) (fs : List Frame) → old.outer.items ≡ fs ++ new.inner ∷ [] → new.outer.items ≡ fs → length (arc_value old.inner.body).items ≤ old.inner.at
    → parts_left new ≡ parts_left old
out-parts old new fs was is over =
    ap (λ l. frame_parts new.inner ++ outer_parts l) is ∙ sym (outer-push fs new.inner) ∙ ap outer_parts (sym was)
    ∙ ap (λ l. l ++ outer_parts old.outer.items) (sym (drop_all old.inner.at (arc_value old.inner.body).items over))

pub out-steps : (old new : Frames) (fs : List Frame) → old.outer.items ≡ fs ++ new.inner ∷ [] → new.outer.items ≡ fs → steps_left new < steps_left old
out-steps old new fs was is =
    let s : outer_steps old.outer.items ≡ 1 + frame_steps new.inner + outer_steps fs = ap outer_steps was ∙ steps-push fs new.inner in
    let t : outer_steps new.outer.items ≡ outer_steps fs = ap outer_steps is in
    omega (arith, s, t)

-- past a part that is the last of its body, and past one that isn't
pub last-parts : (old : Frames) (p : Part) (ps : List Part) → next_at old.inner ≡ Some p → parts_left old ≡ p ∷ ps → length (arc_value old.inner.body).items ≤ old.inner.at + 1
    → outer_parts old.outer.items ≡ ps
last-parts old p ps next left last =
    let items = (arc_value old.inner.body).items in
    sym (ap (λ l. drop 1 (l ++ outer_parts old.outer.items)) (next-drop items old.inner.at p next ∙ ap (λ l. p ∷ l) (drop_all (old.inner.at + 1) items last)))
    ∙ ap (drop 1) left

pub past-parts : (old : Frames) (f : Frame) (p : Part) (ps : List Part) → next_at old.inner ≡ Some p → parts_left old ≡ p ∷ ps → f.body ≡ old.inner.body → f.at ≡ old.inner.at + 1
    → frame_parts f ++ outer_parts old.outer.items ≡ ps
past-parts old f p ps next left body at =
    let items = (arc_value old.inner.body).items in
    ap (λ (b : Arc (Vec Part Global) Global). drop f.at (arc_value b).items ++ outer_parts old.outer.items) body ∙ ap (λ n. drop n items ++ outer_parts old.outer.items) at
    ∙ sym (ap (λ l. drop 1 (l ++ outer_parts old.outer.items)) (next-drop items old.inner.at p next)) ∙ ap (drop 1) left

-- a step on where nothing of the next part comes
pub advanced : (passed : Bool) (old new : Frames) → MatchOption (next_at old.inner) (vec_len old.outer ≡ 0 → ⊥) (λ p. (comes passed (part_of p) ≡ false) × IsPart (part_of p))
    → ((p : Part) → next_at old.inner ≡ Some p → parts_left old ≡ p ∷ parts_left new) → (next_at old.inner ≡ None → parts_left new ≡ parts_left old)
    → rest_left passed (parts_of (parts_left new)) ≡ rest_left passed (parts_of (parts_left old))
advanced passed old new not past out = on (next_at old.inner) refl
  where
    on : (o : Option Part) → next_at old.inner ≡ o → rest_left passed (parts_of (parts_left new)) ≡ rest_left passed (parts_of (parts_left old))
    on None is = ap (λ l. rest_left passed (parts_of l)) (out is)
    on (Some p) is =
        let nothing : (comes passed (part_of p) ≡ false) × IsPart (part_of p) =
        subst (λ o. MatchOption o (vec_len old.outer ≡ 0 → ⊥) (λ p. (comes passed (part_of p) ≡ false) × IsPart (part_of p))) is not in
        nothing-first passed (part_of p) (parts_of (parts_left new)) nothing.1 nothing.0 ∙ ap (λ l. rest_left passed (parts_of l)) (sym (past p is))
