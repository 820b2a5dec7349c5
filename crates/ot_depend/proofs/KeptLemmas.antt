-- What is kept beside the children stays theirs.
use Rattle.std.proofs.Common.{◌≡◌, ◌==◌, ◌+◌, ◌-◌, ◌<◌, ◌≤◌, ℕ, zero, suc, List, [], ◌∷◌, ◌++◌, true, false, cond, map, get_or, length, Some, refl, sym, ap, ◌∙◌, subst, arith}
use Rattle.std.specs.List.{All, list_any, slice_get}
use Rattle.std.specs.Option.{option_map, unwrap_or}
use Rattle.std.proofs.lemmas.Option.{same_Some, none-some, slice_get-map, slice_get_within, get_or_from_slice_get}
use Rattle.std.proofs.lemmas.List.{length-map}
use Rattle.std.proofs.lemmas.List.Sums.{sum_by_push, get_or-le-sum_by}
use Rattle.ot_model.specs.Cells.{updated}
use Rattle.ot_model.specs.declared.expr.Cell.{Cell}
use Rattle.ot_model.specs.declared.stmt.Use.{Use}
use Rattle.ot_depend.specs.Siblings.{Sibling, IsReady, sibling_created, with_finished, is_unfinished, is_unfinished_in, has, times}
use Rattle.ot_depend.specs.Kept.{decls, IsDirect, Kid, siblings, owes, due, woken, kid_ended, kids_enlisted, waiters_of, WaitForAll}
use Rattle.ot_depend.specs.Cells.{place_of, lines_of, entry_of, IsSound, IsPlaced, RowsTell, enter_all, found_all}
use Rattle.ot_depend.specs.Groups.{count_of}
use Rattle.ot_depend.specs.View.{IsTrueOf}
use Rattle.ot_depend.specs.declared.cells.Table.{Table}
use Rattle.ot_depend.specs.declared.cells.Spot.{Spot}
use Rattle.ot_depend.specs.declared.groups.Groups.{Groups}
use Rattle.ot_depend.proofs.SiblingsLemmas.{FinishedAreReady-push, FinishedAreReady-finished}
use Rattle.ot_depend.proofs.HeartLemmas.{due-le, known_from_use}
use Rattle.ot_depend.proofs.ListLemmas.{sum_by-updated}
use Rattle.ot_depend.proofs.LinkLemmas.{woken_back, siblings-end, decls-end, IsLinked-end}
use Rattle.ot_depend.proofs.AddLemmas.{due-next, siblings-add, decls-add, IsLinked-add}
use Rattle.ot_depend.proofs.ChildrenLemmas.{has-place}
use Rattle.ot_depend.proofs.TruthLemmas.{Placed, found_direct, direct_found}
use Rattle.ot_depend.proofs.EnterLemmas.{RowsTell-entered, Sound-all}

pub Placed-from_All : (t : Table) (spots : List Spot) → All (IsPlaced t) spots → Placed (place_of t) spots
Placed-from_All t spots all = λ k s there. subst (IsPlaced t) (get_or_from_slice_get spots k s s there) (all k s (slice_get_within spots k s there))

-- rows that say the same of each cell tell the same
pub RowsTell-same : (ds : List (List Use)) (old new : Table) → ((c : Cell) → entry_of new c ≡ entry_of old c) → RowsTell ds (place_of old) (lines_of old.rows.items) → RowsTell ds (place_of new) (lines_of new.rows.items)
RowsTell-same ds old new same tell = λ c. rw (same c) (tell c)

-- the children that are found are known
pub earlier_known : (kids : List Kid) (t : Table) (spots : List Spot) (earlier : List ℕ) → RowsTell (decls (siblings kids)) (place_of t) (lines_of t.rows.items) → All (IsPlaced t) spots →
    earlier ≡ found_all (lines_of t.rows.items) spots → All (λ p. p < length kids) earlier
earlier_known kids t spots earlier tell placed is = λ k d within.
    let at : ℕ = get_or earlier k d in
    let direct = found_direct (decls (siblings kids)) (place_of t) (lines_of t.rows.items) spots tell (Placed-from_All t spots placed) at (ap (has at) (sym is) ∙ has-place earlier k d within) in
    let order : at < length (decls (siblings kids)) = direct.order in
    omega (arith, length-map (siblings kids) (λ (s : Sibling). s.uses), length-map kids (λ (t : Kid). t.it))

-- the record of a child that is there
pub kid_with : (kids : List Kid) (i : ℕ) (s : Sibling) → slice_get (siblings kids) i ≡ Some s → (k : Kid) × (slice_get kids i ≡ Some k) × (k.it ≡ s)
kid_with [] i s there = absurd (none-some s there)
kid_with (k ∷ kids) zero s there = (k, refl, same_Some k.it s there)
kid_with (k ∷ kids) (suc i) s there = kid_with kids i s there

-- it is the same child after others were told
pub woken_it : (kids : List Kid) (told : List ℕ) (i : ℕ) (me k : Kid) → slice_get kids i ≡ Some me → slice_get (woken kids told) i ≡ Some k → k.it ≡ me.it
woken_it kids told i me k known there = let t = woken_back told kids i k there in t.2 ∙ ap (λ (x : Kid). x.it) (same_Some t.0 me (sym t.1 ∙ known))

module _ (kids : List Kid) (cells : Table) (groups : Groups) (unfinished : ℕ) (old : IsTrueOf kids cells groups unfinished) where
  module _ (cells2 : Table) (groups2 : Groups) (us : List Use) (gs : List ℕ) (waiting : ℕ) (spots : List Spot) (earlier : List ℕ)
      (uses_are : map (λ s. s.one) spots ≡ us) (placed : All (IsPlaced cells) spots) (found : earlier ≡ found_all (lines_of cells.rows.items) spots)
      (waits : waiting ≡ due (length kids) (kids_enlisted (length kids) kids earlier))
      (lines : lines_of cells2.rows.items ≡ enter_all (length kids) (lines_of cells.rows.items) spots) (places : (c : Cell) → place_of cells2 c ≡ place_of cells c)
      (counts : (g : ℕ) → count_of groups2 g ≡ count_of groups g + cond (list_any (λ x. x == g) gs) 1 0) where
    new : Kid
    new = record { it = sibling_created us gs; waiting = waiting; waiters = [] }

    count : length (decls (siblings kids)) ≡ length kids
    count = length-map (siblings kids) (λ (s : Sibling). s.uses) ∙ length-map kids (λ (t : Kid). t.it)

    finds : (i : ℕ) → has i earlier ≡ true → IsDirect (decls (siblings kids) ++ us ∷ []) i (length kids)
    finds i among =
        let direct = found_direct (decls (siblings kids)) (place_of cells) (lines_of cells.rows.items) spots old.rows (Placed-from_All cells spots placed) i (ap (has i) (sym found) ∙ among) in
        subst (λ (n : ℕ). IsDirect (decls (siblings kids) ++ us ∷ []) i n) count (subst (λ (vs : List Use). IsDirect (decls (siblings kids) ++ vs ∷ []) i (length (decls (siblings kids)))) uses_are direct)

    is_found : (i : ℕ) → IsDirect (decls (siblings kids) ++ us ∷ []) i (length kids) → has i earlier ≡ true
    is_found i direct =
        let back : IsDirect (decls (siblings kids) ++ map (λ s. s.one) spots ∷ []) i (length (decls (siblings kids))) =
        subst (λ (vs : List Use). IsDirect (decls (siblings kids) ++ vs ∷ []) i (length (decls (siblings kids)))) (sym uses_are) (subst (λ (n : ℕ). IsDirect (decls (siblings kids) ++ us ∷ []) i n) (sym count) direct) in
        ap (has i) found ∙ direct_found (decls (siblings kids)) (place_of cells) (lines_of cells.rows.items) spots old.rows (Placed-from_All cells spots placed) i back

    pub siblings_added : siblings (kids_enlisted (length kids) kids earlier ++ record { it = sibling_created us gs; waiting = waiting; waiters = [] } ∷ []) ≡ siblings kids ++ sibling_created us gs ∷ []
    siblings_added = siblings-add kids earlier (record { it = sibling_created us gs; waiting = waiting; waiters = [] }) old.linked refl finds is_found waits

    rows_added : RowsTell (decls (siblings kids) ++ us ∷ []) (place_of cells2) (lines_of cells2.rows.items)
    rows_added =
        let all = RowsTell-entered (decls (siblings kids)) (place_of cells) spots (lines_of cells.rows.items) old.rows old.sound (Placed-from_All cells spots placed) in
        let at_n : RowsTell (decls (siblings kids) ++ us ∷ []) (place_of cells) (enter_all (length kids) (lines_of cells.rows.items) spots) =
        subst (λ (n : ℕ). RowsTell (decls (siblings kids) ++ us ∷ []) (place_of cells) (enter_all n (lines_of cells.rows.items) spots)) count
        (subst (λ (vs : List Use). RowsTell (decls (siblings kids) ++ vs ∷ []) (place_of cells) (enter_all (length (decls (siblings kids))) (lines_of cells.rows.items) spots)) uses_are all) in
        λ c. rw (lines, places c) (at_n c)

    sound_added : IsSound cells2
    sound_added = λ c p is. rw lines (Sound-all (length kids) (place_of cells) spots (lines_of cells.rows.items) old.sound c p (sym (places c) ∙ is))

    pub kept_added : IsTrueOf (kids_enlisted (length kids) kids earlier ++ record { it = sibling_created us gs; waiting = waiting; waiters = [] } ∷ []) cells2 groups2 (unfinished + 1)
    kept_added =
        let new : Kid = record { it = sibling_created us gs; waiting = waiting; waiters = [] } in
        record {
          ready = rw siblings_added (FinishedAreReady-push (siblings kids) (sibling_created us gs) refl old.ready);
          linked = IsLinked-add kids earlier new old.linked refl finds is_found waits;
          sound = sound_added;
          rows = rw (decls-add kids earlier new old.linked refl finds is_found waits) rows_added;
          in_group = λ g. rw siblings_added (omega (arith, counts g, old.in_group g, sum_by_push (λ s. cond {A = ℕ} (is_unfinished_in g s) 1 0) (siblings kids) (sibling_created us gs)));
          all = rw siblings_added (omega (arith, old.all, sum_by_push (λ s. cond {A = ℕ} (is_unfinished s) 1 0) (siblings kids) (sibling_created us gs)));
        }

  module _ (i : ℕ) (me : Kid) (known : slice_get kids i ≡ Some me) (not_yet : me.it.finished ≡ false) where
    at_i : slice_get (siblings kids) i ≡ Some me.it
    at_i = slice_get-map (λ (t : Kid). t.it) kids i ∙ ap (option_map (λ (t : Kid). t.it)) known

    waiters_are : waiters_of kids i ≡ me.waiters
    waiters_are = ap (λ o. unwrap_or (option_map (λ (k : Kid). k.waiters) o) []) known

    -- those that are told wait
    pub told_wait : WaitForAll kids (waiters_of kids i)
    told_wait = subst (WaitForAll kids) (sym waiters_are) (λ w there.
        let direct = old.linked.told i w me known not_yet there in
        let its = known_from_use (siblings kids) direct.cell w direct.uses in
        let k = kid_with kids w its.0 its.1 in
        let owed : owes w me ≡ times w me.waiters = ap (λ b. cond b 0 (times w me.waiters)) not_yet in
        let many : times w me.waiters ≤ k.0.waiting = omega (arith, old.linked.counted w k.0 k.1, due-le w i kids me known) in
        (k.0, k.1, many))

    -- it is counted
    pub counted_in : (g : ℕ) → list_any (λ x. x == g) me.it.groups ≡ true → 1 ≤ count_of groups g
    counted_in g inside =
        let one : cond {A = ℕ} (is_unfinished_in g me.it) 1 0 ≡ 1 = rw (not_yet, inside) refl in
        let within = slice_get_within (siblings kids) i me.it at_i in
        omega (arith, old.in_group g, rw (get_or_from_slice_get (siblings kids) i me.it me.it at_i) at (get_or-le-sum_by (λ s. cond {A = ℕ} (is_unfinished_in g s) 1 0) (siblings kids) i me.it within))

    pub counted_all : 1 ≤ unfinished
    counted_all =
        let one : cond {A = ℕ} (is_unfinished me.it) 1 0 ≡ 1 = rw not_yet refl in
        let within = slice_get_within (siblings kids) i me.it at_i in
        omega (arith, old.all, rw (get_or_from_slice_get (siblings kids) i me.it me.it at_i) at (get_or-le-sum_by (λ s. cond {A = ℕ} (is_unfinished s) 1 0) (siblings kids) i me.it within))

    pub siblings_finished : siblings (updated (woken kids (waiters_of kids i)) i kid_ended) ≡ with_finished (siblings kids) i
    siblings_finished = rw waiters_are (siblings-end kids i me old.linked known not_yet)

    pub kept_finished : (groups2 : Groups) → IsReady (siblings kids) i → ((g : ℕ) → count_of groups2 g + cond (list_any (λ x. x == g) me.it.groups) 1 0 ≡ count_of groups g) →
        IsTrueOf (updated (woken kids (waiters_of kids i)) i kid_ended) cells groups2 (unfinished - 1)
    kept_finished groups2 ready counts = record {
      ready = rw siblings_finished (FinishedAreReady-finished (siblings kids) i ready old.ready);
      linked = rw waiters_are (IsLinked-end kids i me old.linked known not_yet);
      sound = old.sound;
      rows = rw (waiters_are, decls-end kids i me old.linked known not_yet) old.rows;
      in_group = λ g. rw siblings_finished (let was : cond {A = ℕ} (is_unfinished_in g me.it) 1 0 ≡ cond (list_any (λ x. x == g) me.it.groups) 1 0 = rw not_yet refl in
          omega (arith, counts g, old.in_group g, sum_by-updated (λ s. cond {A = ℕ} (is_unfinished_in g s) 1 0) (λ s. record s { finished = true }) (siblings kids) i me.it at_i));
      all = rw siblings_finished (let was : cond {A = ℕ} (is_unfinished me.it) 1 0 ≡ 1 = rw not_yet refl in
          omega (arith, old.all, sum_by-updated (λ s. cond {A = ℕ} (is_unfinished s) 1 0) (λ s. record s { finished = true }) (siblings kids) i me.it at_i));
    }

-- the children and what is kept beside them, once one was added
pub after_add : (kids : List Kid) (cells : Table) (groups : Groups) (unfinished : ℕ) → IsTrueOf kids cells groups unfinished → (cells2 : Table) (groups2 : Groups) (us : List Use) (gs : List ℕ)
    (child waiting : ℕ) (spots : List Spot) (earlier : List ℕ) (kids2 : List Kid) → child ≡ length kids → map (λ s. s.one) spots ≡ us → All (IsPlaced cells) spots →
    earlier ≡ found_all (lines_of cells.rows.items) spots → kids2 ≡ kids_enlisted child kids earlier → due child kids + waiting ≡ due child kids2 →
    lines_of cells2.rows.items ≡ enter_all child (lines_of cells.rows.items) spots → ((c : Cell) → place_of cells2 c ≡ place_of cells c) →
    ((g : ℕ) → count_of groups2 g ≡ count_of groups g + cond (list_any (λ x. x == g) gs) 1 0) →
    (siblings (kids2 ++ record { it = sibling_created us gs; waiting = waiting; waiters = [] } ∷ []) ≡ siblings kids ++ sibling_created us gs ∷ [])
    × IsTrueOf (kids2 ++ record { it = sibling_created us gs; waiting = waiting; waiters = [] } ∷ []) cells2 groups2 (unfinished + 1)
after_add kids cells groups unfinished old cells2 groups2 us gs child waiting spots earlier kids2 n_is uses_are placed found exact waits lines places counts =
    let now : kids2 ≡ kids_enlisted (length kids) kids earlier = exact ∙ ap (λ n. kids_enlisted n kids earlier) n_is in
    let sum : due (length kids) kids + waiting ≡ due (length kids) (kids_enlisted (length kids) kids earlier) =
    ap (λ n. due n kids + waiting) (sym n_is) ∙ waits ∙ ap (λ n. due n kids2) n_is ∙ ap (due (length kids)) now in
    let is : waiting ≡ due (length kids) (kids_enlisted (length kids) kids earlier) = omega (arith, due-next kids old.linked) in
    let at_n : lines_of cells2.rows.items ≡ enter_all (length kids) (lines_of cells.rows.items) spots = lines ∙ ap (λ n. enter_all n (lines_of cells.rows.items) spots) n_is in
    let put : kids2 ++ record { it = sibling_created us gs; waiting = waiting; waiters = [] } ∷ [] ≡ kids_enlisted (length kids) kids earlier ++ record { it = sibling_created us gs; waiting = waiting; waiters = [] } ∷ [] =
    ap (λ ks. ks ++ record { it = sibling_created us gs; waiting = waiting; waiters = [] } ∷ []) now in (
      ap siblings put ∙ siblings_added kids cells groups unfinished old cells2 groups2 us gs waiting spots earlier uses_are placed found is at_n places counts,
      subst (λ (ks : List Kid). IsTrueOf ks cells2 groups2 (unfinished + 1)) (sym put) (kept_added kids cells groups unfinished old cells2 groups2 us gs waiting spots earlier uses_are placed found is at_n places counts),
    )
