-- Sets and folds that are gathered, with what is left.
use Rattle.std.proofs.Common.{◌≡◌, ◌++◌, ◌<◌, ℕ, ◌+◌, true, false, List, [], ◌∷◌, length, get_or, drop, refl, sym, ap, subst, ◌∙◌}
use Rattle.std.specs.Prelude.{Option, Some, None, IfSome, is_some}
use Rattle.std.proofs.lemmas.List.{drop_more}
use Rattle.ot_model.specs.Tree.{S, Body, Next, append}
use Rattle.ot_model.proofs.TreeLemmas as tree
use Rattle.ot_parts.specs.Assigns.{assign_of, assigns_of}
use Rattle.ot_parts.specs.Parts.{leading, after_parts, test_of, Meaning, IsPart, alone, is_control, condition_of, part_of, parts_of}
use Rattle.ot_parts.specs.Left.{PassesAll, StopsAt}
use Rattle.ot_parts.specs.declared.assign.Assign.{Assign}
use Rattle.ot_parts.specs.declared.part.Part.{Part}
use Rattle.ot_parts.proofs.FrameLemmas.{behind-first, control-first, leading-first, parts-append}
use Rattle.ot_parts.proofs.LeadingLemmas.{assigns-push}

-- one more is copied
pub copied : (xs more left : List Assign) (i : ℕ) (a x : Assign) → i < length left → x ≡ get_or left i x → more ≡ xs ++ a ∷ [] → assign_of a ≡ assign_of x
    → append (assigns_of more) (assigns_of (drop (i + 1) left)) ≡ append (assigns_of xs) (assigns_of (drop i left))
copied xs more left i a x within is put same =
    ap (λ l. append (assigns_of l) (assigns_of (drop (i + 1) left))) put ∙ assigns-push xs a (assigns_of (drop (i + 1) left))
    ∙ ap (λ s. append (assigns_of xs) (Next s (assigns_of (drop (i + 1) left)))) same
    ∙ ap (λ y. append (assigns_of xs) (Next (assign_of y) (assigns_of (drop (i + 1) left)))) is
    ∙ ap (λ l. append (assigns_of xs) (assigns_of l)) (sym (drop_more left i x within))

-- ---- a part's run is gathered

abbrev pub Gathered : (run whole : Body) → Body → Body → Type 0
Gathered run whole left all = (append run (leading left) ≡ append whole (leading all)) × (after_parts left ≡ after_parts all)

-- behind it is no control statement
pub run-gathered : (m : Meaning) (run more whole left all : Body) → IsPart m → is_some m.control ≡ false → more ≡ append run m.run
    → Gathered run whole (append (append m.run (alone m.control)) left) all → Gathered more whole left all
run-gathered m run more whole left all part none put h =
    let no = no-control m.control none in (
      ap (λ r. append r (leading left)) put ∙ tree.append-append run m.run (leading left)
          ∙ ap (append run) (sym (leading-first m left part ∙ ap (λ c. append m.run (leading (append (alone c) left))) no)) ∙ h.0,
      sym (behind-first m left part ∙ ap (λ c. after_parts (append (alone c) left)) no) ∙ h.1,
    )
  where
    no-control : (o : Option S) → is_some o ≡ false → o ≡ None
    no-control None is = refl
    no-control (Some x) is = cc

-- behind it is one
pub all-gathered : (m : Meaning) (run more whole left all : Body) → IsPart m → is_some m.control ≡ true → more ≡ append run m.run
    → Gathered run whole (append (append m.run (alone m.control)) left) all → (more ≡ append whole (leading all)) × (condition_of m.control ≡ test_of (after_parts all))
all-gathered m run more whole left all part some put h = on m.control refl some
  where
    on : (o : Option S) → m.control ≡ o → is_some o ≡ true → (more ≡ append whole (leading all)) × (condition_of m.control ≡ test_of (after_parts all))
    on None is some = cc
    on (Some x) is some =
        let first = control-first x left (subst (λ o. IfSome o (λ x. is_control x ≡ true)) is part.1) in (
          put ∙ ap (append run) (sym (tree.append-End m.run) ∙ ap (append m.run) (sym first.0) ∙ ap (λ o. append m.run (leading (append (alone o) left))) (sym is) ∙ sym (leading-first m left part)) ∙ h.0,
          ap condition_of is ∙ sym first.2 ∙ ap test_of (sym first.1 ∙ ap (λ o. after_parts (append (alone o) left)) (sym is) ∙ sym (behind-first m left part)) ∙ ap test_of h.1,
        )

-- the part at a place
pub at-part : (ps : List Part) (i : ℕ) (p : Part) (b : Body) → i < length ps → p ≡ get_or ps i p
    → append (parts_of (drop i ps)) b ≡ append (append (part_of p).run (alone (part_of p).control)) (append (parts_of (drop (i + 1) ps)) b)
at-part ps i p b within is =
    let more = drop (i + 1) ps in
    ap (λ l. append (parts_of l) b) (drop_more ps i p within)
    ∙ ap (λ q. append (append (append (part_of q).run (alone (part_of q).control)) (parts_of more)) b) (sym is)
    ∙ tree.append-append (append (part_of p).run (alone (part_of p).control)) (parts_of more) b

-- ---- body by body

pub stopped : (ps qs : List Part) (whole more : Body) (m : Meaning) → StopsAt ps whole more m
    → (more ≡ append whole (leading (parts_of (ps ++ qs)))) × (condition_of m.control ≡ test_of (after_parts (parts_of (ps ++ qs))))
stopped ps qs whole more m h =
    subst (λ b. (more ≡ append whole (leading b)) × (condition_of m.control ≡ test_of (after_parts b))) (sym (parts-append ps qs)) (h (parts_of qs))

pub passed : (ps qs : List Part) (whole more : Body) → PassesAll ps whole more → Gathered more whole (parts_of qs) (parts_of (ps ++ qs))
passed ps qs whole more h =
    let both = h (parts_of qs) in
    subst (λ b. Gathered more whole (parts_of qs) b) (sym (parts-append ps qs)) (both.0, sym both.1)

pub joined-on : (a b c : Body) (x y z : Body) → Gathered a b x y → Gathered b c y z → Gathered a c x z
joined-on a b c x y z h k = (h.0 ∙ k.0, h.1 ∙ k.1)
