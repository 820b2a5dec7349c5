-- What steps make, deed by deed, and that a stack of 64 numbers is enough.
use Rattle.std.proofs.Common.{nat_lt, if◌then◌else◌, ◌≡◌, ◌≢◌, true≢false, ◌<◌, ◌≤◌, ◌+◌, ◌-◌, ◌*◌, ◌^◌, ◌%◌, ℕ, suc, List, [], ◌∷◌, ◌++◌, Bool, true, false, length, drop, get_or, refl, sym, ap, subst, ◌∙◌, inl, inr, arith, append_assoc, length-append, pow-suc}
use Rattle.std.specs.Prelude.{Option, Some, None, IsSome, option_map, unwrap_or, max, map}
use Rattle.std.proofs.lemmas.Bool.{cases_lt}
use Rattle.std.proofs.lemmas.Bool.Decides.{nat_tests}
use Rattle.std.proofs.lemmas.List.{drop_more, drop_all}
use Rattle.std.proofs.Math.Pow.{pow_mono}
use Rattle.ot_model.specs.Tree.{E, Literal, CellAt, Apply, PickFrom, Set, Fold, If, Task, Wait, Group, Body, End, Next, applied, cell_at, val, HasAll}
use Rattle.ot_model.specs.Cells.{same_cell}
use Rattle.ot_model.specs.Joining.{join_by}
use Rattle.ot_model.proofs.EqualLemmas.{cell-decides}
use Rattle.ot_model.specs.declared.expr.Cell.{Cell}
use Rattle.ot_model.specs.declared.expr.Op.{Op}
use Rattle.ot_parts.specs.Steps.{Deed, Push, Load, Choose, Join, JoinBack, Write, WriteJoined, deed_of, value_deeds, deeds_of}
use Rattle.ot_parts.specs.declared.step.Step.{Step}
use Rattle.ot_owner.specs.Lending.{value_at, lease_of}
use Rattle.ot_owner.specs.declared.lent.LentCell.{LentCell}
use Rattle.ot_job_task.specs.Assigns.{CanAssign}
use Rattle.ot_job_task.specs.Copies.{Look, with_copy, copies_assigned}
use Rattle.ot_job_task.specs.Deeds.{stack_behind, copies_changed, copies_made, CanDo, CanDoAll, height_after}
use Rattle.ot_job_task.proofs.AssignLemmas.{change-kept}

-- ---- looks that are the same at each cell

pub stacked-same : (d : Deed) (ns : List ℕ) (look other : Look) → ((c : Cell) → look c ≡ other c) → stack_behind d look ns ≡ stack_behind d other ns
stacked-same (Push n) ns look other same = refl
stacked-same (Load c) ns look other same = ap (λ o. unwrap_or o 0 ∷ ns) (same c)
stacked-same (Choose s) [] look other same = refl
stacked-same (Choose s) (k ∷ ns) look other same = ap (λ o. unwrap_or o 0 ∷ ns) (same (cell_at s (k % s.len)))
stacked-same (Join o) [] look other same = refl
stacked-same (Join o) (b ∷ []) look other same = refl
stacked-same (Join o) (b ∷ a ∷ ns) look other same = refl
stacked-same (JoinBack o) [] look other same = refl
stacked-same (JoinBack o) (a ∷ []) look other same = refl
stacked-same (JoinBack o) (a ∷ b ∷ ns) look other same = refl
stacked-same (Write w) [] look other same = refl
stacked-same (Write w) (n ∷ ns) look other same = refl
stacked-same (WriteJoined o w) [] look other same = refl
stacked-same (WriteJoined o w) (n ∷ ns) look other same = refl

changed-same : (d : Deed) (ns : List ℕ) (look other : Look) → ((c : Cell) → look c ≡ other c) → (c : Cell) → copies_changed d ns look c ≡ copies_changed d ns other c
changed-same (Push n) ns look other same c = same c
changed-same (Load w) ns look other same c = same c
changed-same (Choose s) ns look other same c = same c
changed-same (Join o) ns look other same c = same c
changed-same (JoinBack o) ns look other same c = same c
changed-same (Write w) [] look other same c = same c
changed-same (Write w) (n ∷ ns) look other same c = ap (λ o. if same_cell w c then option_map (λ _. n) o else o) (same c)
changed-same (WriteJoined o w) [] look other same c = same c
changed-same (WriteJoined o w) (n ∷ ns) look other same c = ap (λ s. if same_cell w c then option_map (λ m. join_by o m n) s else s) (same c)

pub made-same : (ds : List Deed) (ns : List ℕ) (look other : Look) → ((c : Cell) → look c ≡ other c) → (c : Cell) → copies_made ds ns look c ≡ copies_made ds ns other c
made-same [] ns look other same c = same c
made-same (d ∷ ds) ns look other same c =
    made-same ds (stack_behind d look ns) (copies_changed d ns look) (copies_changed d ns other) (changed-same d ns look other same) c
    ∙ ap (λ (s : List ℕ). copies_made ds s (copies_changed d ns other) c) (stacked-same d ns look other same)

-- a cell that has a new number, and all others as they were
pub wrote : (look now : Look) (cell : Cell) (f : ℕ → ℕ) (m : ℕ) → look cell ≡ Some m → now cell ≡ Some (f m) → ((other : Cell) → cell ≢ other → now other ≡ look other)
    → (c : Cell) → now c ≡ with_copy look cell f c
wrote look now cell f m there found others c = by (same_cell cell c) refl
  where
    by : (t : Bool) → same_cell cell c ≡ t → now c ≡ (if t then option_map f (look c) else look c)
    by true is =
        let same : cell ≡ c = (cell-decides cell c).0 is in
        subst (λ d. now d ≡ option_map f (look d)) same (found ∙ sym (ap (option_map f) there))
    by false is = others c (λ same. true≢false (sym ((cell-decides cell c).1 same) ∙ is))

-- ---- what is lent stays lent

some-kept : (t : Bool) (f : ℕ → ℕ) (o : Option ℕ) → IsSome o → IsSome (if t then option_map f o else o)
some-kept true f (Some n) some = refl
some-kept true f None some = some
some-kept false f o some = some

pub changed-some : (d : Deed) (ns : List ℕ) (look : Look) (c : Cell) → IsSome (look c) → IsSome (copies_changed d ns look c)
changed-some (Push n) ns look c some = some
changed-some (Load w) ns look c some = some
changed-some (Choose s) ns look c some = some
changed-some (Join o) ns look c some = some
changed-some (JoinBack o) ns look c some = some
changed-some (Write w) [] look c some = some
changed-some (Write w) (n ∷ ns) look c some = some-kept (same_cell w c) (λ _. n) (look c) some
changed-some (WriteJoined o w) [] look c some = some
changed-some (WriteJoined o w) (n ∷ ns) look c some = some-kept (same_cell w c) (λ m. join_by o m n) (look c) some

-- ---- what the deeds of values and of sets and folds make

behind : (one two ds : List Deed) (d : Deed) → ((one ++ two) ++ d ∷ []) ++ ds ≡ one ++ (two ++ d ∷ ds)
behind one two ds d = append_assoc (one ++ two) (d ∷ []) ds ∙ append_assoc one two (d ∷ ds)

-- two operands, and the operation behind them
made-both : (o : Op) (one two : List Deed) (a b : ℕ) (look : Look)
    → ((ds : List Deed) (ns : List ℕ) → copies_made (one ++ ds) ns look ≡ copies_made ds (a ∷ ns) look)
    → ((ds : List Deed) (ns : List ℕ) → copies_made (two ++ ds) ns look ≡ copies_made ds (b ∷ ns) look)
    → (t : Bool) (ds : List Deed) (ns : List ℕ) → copies_made ((if t then (two ++ one) ++ JoinBack o ∷ [] else (one ++ two) ++ Join o ∷ []) ++ ds) ns look ≡ copies_made ds (applied o a b ∷ ns) look
made-both o one two a b look first second true ds ns =
    ap (λ (l : List Deed). copies_made l ns look) (behind two one ds (JoinBack o)) ∙ second (one ++ JoinBack o ∷ ds) ns ∙ first (JoinBack o ∷ ds) (b ∷ ns)
made-both o one two a b look first second false ds ns =
    ap (λ (l : List Deed). copies_made l ns look) (behind one two ds (Join o)) ∙ first (two ++ Join o ∷ ds) ns ∙ second (Join o ∷ ds) (a ∷ ns)

pub made-value : (e : E) (look : Look) (ds : List Deed) (ns : List ℕ) → copies_made (value_deeds e ++ ds) ns look ≡ copies_made ds (val look e ∷ ns) look
made-value (Literal n) look ds ns = refl
made-value (CellAt c) look ds ns = refl
made-value (PickFrom s e) look ds ns = ap (λ (l : List Deed). copies_made l ns look) (append_assoc (value_deeds e) (Choose s ∷ []) ds) ∙ made-value e look (Choose s ∷ ds) ns
made-value (Apply o a b) look ds ns =
    made-both o (value_deeds a) (value_deeds b) (val look a) (val look b) look (made-value a look) (made-value b look) (nat_lt (length (value_deeds a)) (length (value_deeds b))) ds ns

-- the deeds of sets and folds make what these assign
pub made-assigned : (b : Body) (look : Look) → copies_made (deeds_of b) [] look ≡ copies_assigned b look
made-assigned End look = refl
made-assigned (Next (Set c e) rest) look =
    ap (λ (l : List Deed). copies_made l [] look) (append_assoc (value_deeds e) (Write c ∷ []) (deeds_of rest)) ∙ made-value e look (Write c ∷ deeds_of rest) []
    ∙ made-assigned rest (with_copy look c (λ _. val look e))
made-assigned (Next (Fold o c e) rest) look =
    ap (λ (l : List Deed). copies_made l [] look) (append_assoc (value_deeds e) (WriteJoined o c ∷ []) (deeds_of rest)) ∙ made-value e look (WriteJoined o c ∷ deeds_of rest) []
    ∙ made-assigned rest (with_copy look c (λ n. join_by o n (val look e)))
made-assigned (Next (If e a b) rest) look = refl
made-assigned (Next (Task d b) rest) look = refl
made-assigned (Next (Wait w) rest) look = refl
made-assigned (Next (Group o cs b) rest) look = refl

-- ---- how high the stack grows

-- how many numbers a value puts on the stack at most
abbrev height : E → ℕ
height (Literal n) = 1
height (CellAt c) = 1
height (PickFrom s e) = height e
height (Apply o a b) = if nat_lt (length (value_deeds a)) (length (value_deeds b)) then max (height b) (height a + 1) else max (height a) (height b + 1)

pow-more : (n : ℕ) → 2 ^ (n + 1) ≡ 2 * 2 ^ n
pow-more n =
    let more : n + 1 ≡ suc n = omega arith in
    ap (λ k. 2 ^ k) more ∙ (let twice = pow-suc 2 n in omega arith)

-- the longer operand comes first
both-high : (x y one two : ℕ) → 2 ^ x ≤ 2 * one → 2 ^ y ≤ 2 * two → two ≤ one → 2 ^ max x (y + 1) ≤ 2 * (one + two + 1)
both-high x y one two hx hy less =
    elim (cases_lt x (y + 1)) [
      | inl low ↦ let e : max x (y + 1) ≡ y + 1 = omega arith in rw e (rw (pow-more y) (omega arith))
      | inr over ↦ let e : max x (y + 1) ≡ x = omega arith in rw e (omega arith)
    ]

size : (first second : List Deed) (d : Deed) → length ((first ++ second) ++ d ∷ []) ≡ length first + length second + 1
size first second d = length-append (first ++ second) (d ∷ []) ∙ ap (λ n. n + 1) (length-append first second)

longest : (o : Op) (x y : ℕ) (one two : List Deed) → 2 ^ x ≤ 2 * length one → 2 ^ y ≤ 2 * length two → (t : Bool) → nat_lt (length one) (length two) ≡ t
    → 2 ^ (if t then max y (x + 1) else max x (y + 1)) ≤ 2 * length (if t then (two ++ one) ++ JoinBack o ∷ [] else (one ++ two) ++ Join o ∷ [])
longest o x y one two hx hy true is =
    let less : length one < length two = grind (arith, nat_tests) in
    rw (size two one (JoinBack o)) (both-high y x (length two) (length one) hy hx (omega arith))
longest o x y one two hx hy false is =
    let less : length two ≤ length one = grind (arith, nat_tests) in
    rw (size one two (Join o)) (both-high x y (length one) (length two) hx hy less)

pub height-low : (e : E) → 2 ^ height e ≤ 2 * length (value_deeds e)
height-low (Literal n) = omega arith
height-low (CellAt c) = omega arith
height-low (PickFrom s e) = rw (length-append (value_deeds e) (Choose s ∷ [])) (let low = height-low e in omega arith)
height-low (Apply o a b) = longest o (height a) (height b) (value_deeds a) (value_deeds b) (height-low a) (height-low b) (nat_lt (length (value_deeds a)) (length (value_deeds b))) refl

pub height-fits : (e : E) → length (value_deeds e) < 2 ^ 64 → height e ≤ 64
height-fits e short =
    let low = height-low e in
    elim (cases_lt 64 (height e)) [
      | inl over ↦ let above : 65 ≤ height e = omega arith in let more : 2 ^ 65 ≤ 2 ^ height e = pow_mono {i = 65} {j = height e} above in absurd (omega arith)
      | inr under ↦ omega arith
    ]

-- ---- that all of it can be done

-- two operands, and the operation behind them
can-both : (lent : List LentCell) (o : Op) (one two : List Deed) (x y : ℕ)
    → ((ds : List Deed) (h : ℕ) → h + x ≤ 64 → CanDoAll lent (h + 1) ds → CanDoAll lent h (one ++ ds))
    → ((ds : List Deed) (h : ℕ) → h + y ≤ 64 → CanDoAll lent (h + 1) ds → CanDoAll lent h (two ++ ds))
    → (t : Bool) (ds : List Deed) (h : ℕ) → h + (if t then max y (x + 1) else max x (y + 1)) ≤ 64 → CanDoAll lent (h + 1) ds
    → CanDoAll lent h ((if t then (two ++ one) ++ JoinBack o ∷ [] else (one ++ two) ++ Join o ∷ []) ++ ds)
can-both lent o one two x y first second true ds h fits can =
    let less : h + 1 ≡ h + 1 + 1 - 1 = omega arith in
    subst (CanDoAll lent h) (sym (behind two one ds (JoinBack o)))
    (second (one ++ JoinBack o ∷ ds) h (omega arith) (first (JoinBack o ∷ ds) (h + 1) (omega arith) (omega arith, subst (λ n. CanDoAll lent n ds) less can)))
can-both lent o one two x y first second false ds h fits can =
    let less : h + 1 ≡ h + 1 + 1 - 1 = omega arith in
    subst (CanDoAll lent h) (sym (behind one two ds (Join o)))
    (first (two ++ Join o ∷ ds) h (omega arith) (second (Join o ∷ ds) (h + 1) (omega arith) (omega arith, subst (λ n. CanDoAll lent n ds) less can)))

can-value : (lent : List LentCell) (e : E) → HasAll (value_at lent) e → (ds : List Deed) (h : ℕ) → h + height e ≤ 64 → CanDoAll lent (h + 1) ds → CanDoAll lent h (value_deeds e ++ ds)
can-value lent (Literal n) has ds h fits can = (omega arith, can)
can-value lent (CellAt c) has ds h fits can = (omega arith, can)
can-value lent (PickFrom s e) has ds h fits can =
    subst (CanDoAll lent h) (sym (append_assoc (value_deeds e) (Choose s ∷ []) ds))
    (can-value lent e has.3 (Choose s ∷ ds) h fits ((omega arith, has.0, has.1), can))
can-value lent (Apply o a b) has ds h fits can =
    can-both lent o (value_deeds a) (value_deeds b) (height a) (height b) (can-value lent a has.0) (can-value lent b has.1)
    (nat_lt (length (value_deeds a)) (length (value_deeds b))) ds h fits can

long : (one rest : List Deed) (d : Deed) → length ((one ++ d ∷ []) ++ rest) ≡ length one + 1 + length rest
long one rest d = length-append (one ++ d ∷ []) rest ∙ ap (λ n. n + length rest) (length-append one (d ∷ []))

pub can-assign : (lent : List LentCell) (b : Body) → CanAssign b lent → length (deeds_of b) < 2 ^ 64 → CanDoAll lent 0 (deeds_of b)
can-assign lent End can short = tt
can-assign lent (Next (Set c e) rest) can short =
    let l = long (value_deeds e) (deeds_of rest) (Write c) in
    subst (CanDoAll lent 0) (sym (append_assoc (value_deeds e) (Write c ∷ []) (deeds_of rest)))
    (can-value lent e can.0 (Write c ∷ deeds_of rest) 0 (let fits = height-fits e (omega arith) in omega arith) ((omega arith, can.1), can-assign lent rest can.2 (omega arith)))
can-assign lent (Next (Fold o c e) rest) can short =
    let l = long (value_deeds e) (deeds_of rest) (WriteJoined o c) in
    subst (CanDoAll lent 0) (sym (append_assoc (value_deeds e) (WriteJoined o c ∷ []) (deeds_of rest)))
    (can-value lent e can.0 (WriteJoined o c ∷ deeds_of rest) 0 (let fits = height-fits e (omega arith) in omega arith) ((omega arith, can.1), can-assign lent rest can.2 (omega arith)))
can-assign lent (Next (If e a b) rest) can short = tt
can-assign lent (Next (Task d b) rest) can short = tt
can-assign lent (Next (Wait w) rest) can short = tt
can-assign lent (Next (Group o cs b) rest) can short = tt

can-one : (lent now : List LentCell) (d : Deed) (h : ℕ) → lease_of now ≡ lease_of lent → CanDo lent h d → CanDo now h d
can-one lent now (Push n) h same can = can
can-one lent now (Load c) h same can = can
can-one lent now (Choose s) h same can = can
can-one lent now (Join o) h same can = can
can-one lent now (JoinBack o) h same can = can
can-one lent now (Write c) h same can = (can.0, change-kept lent now c same can.1)
can-one lent now (WriteJoined o c) h same can = (can.0, change-kept lent now c same can.1)

pub can-all : (lent now : List LentCell) (ds : List Deed) (h : ℕ) → lease_of now ≡ lease_of lent → CanDoAll lent h ds → CanDoAll now h ds
can-all lent now [] h same can = tt
can-all lent now (d ∷ ds) h same can = (can-one lent now d h same can.0, can-all lent now ds (height_after d h) same can.1)

pub stacked-height : (lent : List LentCell) (d : Deed) (look : Look) (ns : List ℕ) → CanDo lent (length ns) d → length (stack_behind d look ns) ≡ height_after d (length ns)
stacked-height lent (Push n) look ns can = omega arith
stacked-height lent (Load c) look ns can = omega arith
stacked-height lent (Choose s) look [] can = absurd (omega (arith, can.0))
stacked-height lent (Choose s) look (k ∷ ns) can = refl
stacked-height lent (Join o) look [] can = absurd (omega (arith, can))
stacked-height lent (Join o) look (b ∷ []) can = absurd (omega (arith, can))
stacked-height lent (Join o) look (b ∷ a ∷ ns) can = omega arith
stacked-height lent (JoinBack o) look [] can = absurd (omega (arith, can))
stacked-height lent (JoinBack o) look (a ∷ []) can = absurd (omega (arith, can))
stacked-height lent (JoinBack o) look (a ∷ b ∷ ns) can = omega arith
stacked-height lent (Write c) look [] can = absurd (omega (arith, can.0))
stacked-height lent (Write c) look (n ∷ ns) can = omega arith
stacked-height lent (WriteJoined o c) look [] can = absurd (omega (arith, can.0))
stacked-height lent (WriteJoined o c) look (n ∷ ns) can = omega arith

-- ---- step by step

split : (steps : List Step) (i : ℕ) (x : Step) → i < length steps → x ≡ get_or steps i x → map deed_of (drop i steps) ≡ deed_of x ∷ map deed_of (drop (i + 1) steps)
split steps i x within is = ap (map deed_of) (drop_more steps i x within) ∙ ap (λ (y : Step). deed_of y ∷ map deed_of (drop (i + 1) steps)) (sym is)

-- one step is made
pub step-made : (steps : List Step) (i : ℕ) (x : Step) (ns new : List ℕ) (look now : Look) → i < length steps → x ≡ get_or steps i x → new ≡ stack_behind (deed_of x) look ns
    → ((c : Cell) → now c ≡ copies_changed (deed_of x) ns look c) → (c : Cell) → copies_made (map deed_of (drop (i + 1) steps)) new now c ≡ copies_made (map deed_of (drop i steps)) ns look c
step-made steps i x ns new look now within is put wrote c =
    let rest = map deed_of (drop (i + 1) steps) in
    made-same rest new now (copies_changed (deed_of x) ns look) wrote c ∙ ap (λ (s : List ℕ). copies_made rest s (copies_changed (deed_of x) ns look) c) put
    ∙ ap (λ (ds : List Deed). copies_made ds ns look c) (sym (split steps i x within is))

-- and can be made
pub step-can : (lent : List LentCell) (steps : List Step) (i : ℕ) (x : Step) (h : ℕ) → i < length steps → x ≡ get_or steps i x → CanDoAll lent h (map deed_of (drop i steps))
    → CanDo lent h (deed_of x) × CanDoAll lent (height_after (deed_of x) h) (map deed_of (drop (i + 1) steps))
step-can lent steps i x h within is can = subst (CanDoAll lent h) (split steps i x within is) can

-- the others can still be made
pub rest-can : (lent now : List LentCell) (steps : List Step) (i : ℕ) (x : Step) (ns new : List ℕ) (look : Look) → i < length steps → x ≡ get_or steps i x → lease_of now ≡ lease_of lent
    → new ≡ stack_behind (deed_of x) look ns → CanDoAll lent (length ns) (map deed_of (drop i steps)) → CanDoAll now (length new) (map deed_of (drop (i + 1) steps))
rest-can lent now steps i x ns new look within is same put can =
    let both = step-can lent steps i x (length ns) within is can in
    let high : height_after (deed_of x) (length ns) ≡ length new = sym (stacked-height lent (deed_of x) look ns both.0) ∙ ap length (sym put) in
    subst (λ h. CanDoAll now h (map deed_of (drop (i + 1) steps))) high (can-all lent now (map deed_of (drop (i + 1) steps)) (height_after (deed_of x) (length ns)) same both.1)

-- nothing is left
pub none-left : (steps : List Step) (i : ℕ) (ns : List ℕ) (look : Look) (c : Cell) → length steps ≤ i → look c ≡ copies_made (map deed_of (drop i steps)) ns look c
none-left steps i ns look c past = ap (λ (l : List Step). copies_made (map deed_of l) ns look c) (sym (drop_all i steps past))
