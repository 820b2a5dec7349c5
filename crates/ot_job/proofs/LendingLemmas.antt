-- What a job asks of its owners, where a piece is lent and where it comes back.
use Rattle.std.proofs.Common.{◌≡◌, ℕ, suc, Bool, true, false, cond, List, [], ◌∷◌, map, refl, sym, ap, subst, ◌∙◌, inl, inr, arith, true≢false, Option, Some, None, IsSome, IsTrue, option_map, unwrap_or, Any, All, find, zero, ◌<◌, ◌++◌, get_or, length, Contains, IfSome, replicate}
use Rattle.ot_job.proofs.Common.{All-nil, All-cons, All-head, All-tail, same_Some, option_map_id, false_from_ne_true, cell_of, conflicts, is_fold, joined, first_of, Conflict, Cell, Mode, Reads, Writes, Folds, Use, lent_from, copy_of, is_at, use_of, uses_of, AreJoined, LentCell, found-lent, All-contains, All-permutation, IsPermutation-sym, lengths, updated, End, AreInOrder, mode_in, Operation, has_cell, Lease, lease_of, Loan, Owned, IsFreeFor, Summed, IsSummed, IsSummedBy, begun_for, AreWorthSame, worths, worths-same, AreHeld, piece_begun, group_passed, Open, Region, Run, is_claimable, Live, at, AreOpen, IsRoomFor, Opens, left_open, IsWell, IsOnCourse, loans_out, none-some}
use Rattle.std.proofs.lemmas.List.{append-nil}
use Rattle.ot_job.proofs.CopiesLemmas.{HasInputs, found}
use Rattle.ot_job.proofs.HoldsLemmas.{Among, among as is-among, contained}
use Rattle.ot_job.specs.Opened.{opened_under}
use Rattle.ot_job.proofs.RightsLemmas.{mode-once}
use Rattle.ot_job.proofs.OpenedLemmas.{claim-unopened, claim-folded, group_free, groups-there, held-unopened}
use Rattle.ot_job.proofs.OpeningLemmas.{innermost, is-open, lent-worths, not_summed, free-out, open-grown, open-passed, open-summed, passed-open, there as there-of}
use Rattle.ot_job.proofs.WholeLemmas.{loans-each}
use Rattle.std.proofs.lemmas.List.Elements.{Contains-get_or}

-- ---- the inputs of a piece that is out stay what they were: what comes back changes no cell that another piece reads or writes

-- ---- a lease as it would be taken now

one-input : (cells : List (List ℕ)) (l : LentCell) → IsSome (cell_of cells l.cell) → l.first ≡ first_of l.mode (unwrap_or (cell_of cells l.cell) 0) → HasInputs cells l
one-input cells l there first = record {
  there = there;
  same = λ other. by l.mode other first (cell_of cells l.cell) refl there;
  unit = λ op folds. first ∙ ap (λ m. first_of m (unwrap_or (cell_of cells l.cell) 0)) folds;
}
  where
    stored : (o : Option ℕ) → cell_of cells l.cell ≡ o → IsSome o → l.first ≡ unwrap_or (cell_of cells l.cell) 0 → cell_of cells l.cell ≡ Some l.first
    stored None e h f = absurd (true≢false (sym h))
    stored (Some n) e h f = e ∙ ap Some (sym (f ∙ ap (λ o. unwrap_or o 0) e))

    by : (m : Mode) → is_fold m ≡ false → l.first ≡ first_of m (unwrap_or (cell_of cells l.cell) 0) → (o : Option ℕ) → cell_of cells l.cell ≡ o → IsSome (cell_of cells l.cell) → cell_of cells l.cell ≡ Some l.first
    by (Folds op) other f o e h = absurd (true≢false other)
    by m other f o e h = stored o e (subst IsSome e h) f

-- what is lent has the inputs of a lease that would be the same now
pub has-inputs : (cells : List (List ℕ)) (lent : List LentCell) → map (λ l. l.first) lent ≡ map (λ l. l.first) (lent_from cells (uses_of lent))
    → All (λ l. IsSome (cell_of cells l.cell)) lent → All (HasInputs cells) lent
has-inputs cells [] same there = All-nil (HasInputs cells)
has-inputs cells (l ∷ lent) same there =
    let first : l.first ≡ first_of l.mode (unwrap_or (cell_of cells l.cell) 0) = cc in
    let more : map (λ x. x.first) lent ≡ map (λ x. x.first) (lent_from cells (uses_of lent)) = cc in
    All-cons (HasInputs cells) l lent (one-input cells l (All-head (λ x. IsSome (cell_of cells x.cell)) l lent there) first)
    (has-inputs cells lent more (All-tail (λ x. IsSome (cell_of cells x.cell)) l lent there))

-- ---- two leases that don't conflict

among-any : (P : Use → Type 0) (us : List Use) (u : Use) → Among u us → P u → Any P us
among-any P us u h p = let (k, within, is) = contained u us h in (k, u, within, is, p)

found-among : (lent : List LentCell) (c : Cell) (l : LentCell) → find (is_at c) lent ≡ Some l → Among (use_of l) (uses_of lent)
found-among [] c l h = cc
found-among (x ∷ lent) c l h = by (is_at c x) refl (found-among lent c l)
  where
    by : (b : Bool) → is_at c x ≡ b → (find (is_at c) lent ≡ Some l → Among (use_of l) (uses_of lent)) → Among (use_of l) (uses_of (x ∷ lent))
    by true e more = inl (ap use_of (same_Some x l (sym (ap (λ b. cond b (Some x) (find (is_at c) lent)) e) ∙ h)))
    by false e more = inr (more (sym (ap (λ b. cond b (Some x) (find (is_at c) lent)) e) ∙ h))

module _ (lent : List LentCell) (before after : List (List ℕ)) (back : AreJoined lent (cell_of before) (cell_of after)) (us : List Use) (free : Conflict (uses_of lent) us → ⊥) where
  agree : (u : Use) → Among u us → (l : LentCell) → find (is_at u.cell) lent ≡ Some l → l.cell ≡ u.cell → conflicts l.mode u.mode ≡ false
  agree u k l h at = false_from_ne_true (conflicts l.mode u.mode) (λ e.
      free (among-any (λ x. Any (λ v. (x.cell ≡ v.cell) × IsTrue (conflicts x.mode v.mode)) us) (uses_of lent) (use_of l) (found-among lent u.cell l h)
      (among-any (λ v. (l.cell ≡ v.cell) × IsTrue (conflicts l.mode v.mode)) us u k (at, e))))

  -- a cell that it reads or writes stays
  stays : (u : Use) → Among u us → is_fold u.mode ≡ false → cell_of after u.cell ≡ cell_of before u.cell
  stays u k other = pick (find (is_at u.cell) lent) refl
    where
      reads : (m n : Mode) → is_fold n ≡ false → conflicts m n ≡ false → m ≡ Reads
      reads Reads n other h = refl
      reads (Folds op) (Folds by) other h = absurd (true≢false other)
      reads m n other h = absurd (true≢false h)

      pick : (o : Option LentCell) → find (is_at u.cell) lent ≡ o → cell_of after u.cell ≡ cell_of before u.cell
      pick None e = back.others u.cell (λ is. true≢false (sym (subst IsSome e ((found-lent lent u.cell).1 is))))
      pick (Some l) e =
          let f = found (λ x. cell_of after x.cell ≡ option_map (λ stored. joined x.mode stored x.value) (cell_of before x.cell)) lent u.cell l back.lent_cells e in
          let m : l.mode ≡ Reads = reads l.mode u.mode other (agree u k l e f.1) in
          ap (cell_of after) (sym f.1) ∙ f.0 ∙ ap (λ (n : Mode). option_map (λ stored. joined n stored l.value) (cell_of before l.cell)) m ∙ option_map_id (cell_of before l.cell) ∙ ap (cell_of before) f.1

  same-copy : (u : Use) → Among u us → copy_of after u ≡ copy_of before u
  same-copy u k = ap (λ n. record { cell = u.cell; mode = u.mode; first = n; value = n }) (by u.mode refl)
    where
      by : (m : Mode) → u.mode ≡ m → first_of m (unwrap_or (cell_of after u.cell) 0) ≡ first_of m (unwrap_or (cell_of before u.cell) 0)
      by (Folds op) e = refl
      by m e = ap (λ o. unwrap_or o 0) (stays u k (ap is_fold e))

  copies-kept : (vs : List Use) → ((u : Use) → Among u vs → Among u us) → lent_from after vs ≡ lent_from before vs
  copies-kept [] some = refl
  copies-kept (v ∷ vs) some = ap (λ c. c ∷ lent_from after vs) (same-copy v (some v (inl refl))) ∙ ap (λ l. copy_of before v ∷ l) (copies-kept vs (λ u k. some u (inr k)))

  pub inputs-kept : lent_from after us ≡ lent_from before us
  inputs-kept = copies-kept us (λ u k. k)

-- ---- what a job asks of its owners, where a piece is lent and where it comes back

-- ---- a piece is lent

module _ (j : Live) (w : IsWell j) (o : IsOnCourse j) (i : ℕ) (h : i < length j.regions) (can : is_claimable j.regions i ≡ true) where
  abbrev gs : List Summed
  gs = j.owned.groups

  -- the group whose end is passed
  module _ (group : ℕ) (is : group_passed (at j.regions i) ≡ Some group) where
    passed : (g : Open) × (os : List Open) × ((at j.regions i).rest ≡ End) × ((at j.regions i).groups ≡ g ∷ os) × (g.group ≡ group)
    passed = passed-open (at j.regions i) group is

    among : Contains (at j.regions i).groups passed.0
    among = innermost (at j.regions i) passed.0 passed.1 passed.3

    passed-is-open : Any (λ g. g.group ≡ group) gs
    passed-is-open = subst (λ n. Any (λ (g : Summed). g.group ≡ n) gs) passed.4 (is-open j.regions gs i passed.0 among o.copies)

    passed-free : All (λ g. g.group ≡ group → IsFreeFor j.owned.out g.uses) gs
    passed-free = subst (λ n. All (λ (g : Summed). g.group ≡ n → IsFreeFor j.owned.out g.uses) gs) passed.4
        (free-out j.regions gs i passed.0 among o.copies j.owned.out
        (All-permutation (λ (l : Loan). (c : Cell) (m : Mode) → mode_in l.lease.uses c ≡ Some m → has_cell passed.0.cells c ≡ true → ⊥) (loans_out j.regions) j.owned.out
        (IsPermutation-sym j.owned.out (loans_out j.regions) w.rights)
        (loans-each (λ l. (c : Cell) (m : Mode) → mode_in l.lease.uses c ≡ Some m → has_cell passed.0.cells c ≡ true → ⊥) j.regions
        (λ k run out c m held named. none-some m (sym (group_free j.regions o.sound (lengths j.cells) o.named o.runs o.begun i can passed.2 passed.0 passed.1 passed.3 k run out c named) ∙ held)))))

    passed-there : All (λ g. g.group ≡ group → All (λ u. IsSome (cell_of j.cells u.cell)) g.uses) gs
    passed-there = subst (λ n. All (λ (g : Summed). g.group ≡ n → All (λ u. IsSome (cell_of j.cells u.cell)) g.uses) gs) passed.4
        (there-of j.regions gs i passed.0 among o.copies j.cells
        (All-contains (λ (g : Open). All (λ c. IsSome (cell_of j.cells c)) g.cells) (at j.regions i).groups passed.0 (groups-there j o i) among))

  some-passed : {P : ℕ → Type 0} (told : Option ℕ) → told ≡ group_passed (at j.regions i) → ((group : ℕ) → group_passed (at j.regions i) ≡ Some group → P group) → IfSome told P
  some-passed None is f = tt
  some-passed (Some group) is f = f group (sym is)

  pub claim-open : (told : Option ℕ) → told ≡ group_passed (at j.regions i) → IfSome told (λ group. Any (λ g. g.group ≡ group) gs)
  claim-open told is = some-passed told is passed-is-open

  pub claim-unused : (told : Option ℕ) → told ≡ group_passed (at j.regions i) → IfSome told (λ group. All (λ g. g.group ≡ group → IsFreeFor j.owned.out g.uses) gs)
  claim-unused told is = some-passed told is passed-free

  pub claim-known : (told : Option ℕ) → told ≡ group_passed (at j.regions i) → IfSome told (λ group. All (λ g. g.group ≡ group → All (λ u. IsSome (cell_of j.cells u.cell)) g.uses) gs)
  claim-known told is = some-passed told is passed-there

  module _ (worker : ℕ) (lease : Lease) (are : AreHeld (at j.regions i) lease.uses) (ordered : AreInOrder lease.uses) where
    abbrev now : List Region
    now = updated j.regions i (piece_begun worker lease)

    open-now : AreOpen now (left_open (group_passed (at j.regions i)) gs)
    open-now = open-passed j.regions gs i (piece_begun worker lease) h (λ r. refl) o.copies

    -- copies are kept of the cells that it folds, by its operations
    pub claim-folds : All (λ u. (op : Operation) → u.mode ≡ Folds op → IsSummedBy (left_open (group_passed (at j.regions i)) gs) op u.cell) lease.uses
    claim-folds k d within op folds =
        let u = get_or lease.uses k d in
        let held = mode-once lease.uses ordered u (is-among (get_or lease.uses k d) lease.uses (Contains-get_or lease.uses k d within)) ∙ ap Some folds in
        let (n, g, there, by, named) = claim-folded j o i h can worker lease are ordered op u.cell held in
        subst (λ p. IsSummedBy (left_open (group_passed (at j.regions i)) gs) p u.cell) by (open-summed now (left_open (group_passed (at j.regions i)) gs) n g u.cell open-now there named)

    -- and of those that it reads or writes there are none, so that it is lent what they are worth
    pub claim-fresh : (cells : List (List ℕ)) (owned : Owned) → lengths cells ≡ lengths j.cells → AreWorthSame j.owned owned j.cells cells
        → owned.groups ≡ begun_for worker lease.uses (left_open (group_passed (at j.regions i)) gs) → lent_from cells lease.uses ≡ lent_from (worths j.owned j.cells) lease.uses
    claim-fresh cells owned long same groups =
        lent-worths owned cells lease.uses (λ k d within other. none k d within other) ∙ ap (λ c. lent_from c lease.uses) (worths-same j.owned owned j.cells cells long same)
      where
        none : (k : ℕ) (d : Use) → k < length lease.uses → is_fold (get_or lease.uses k d).mode ≡ false → ¬ IsSummed owned.groups (get_or lease.uses k d).cell
        none k d within other =
            let u = get_or lease.uses k d in
            not_summed now owned.groups u.cell
            (subst (AreOpen now) (sym groups) (open-grown now (left_open (group_passed (at j.regions i)) gs) worker lease.uses open-now))
            (claim-unopened j o i h can worker lease are ordered u.cell u.mode (mode-once lease.uses ordered u (is-among (get_or lease.uses k d) lease.uses (Contains-get_or lease.uses k d within))) other)

-- ---- a piece comes back

lent-among : (lent : List LentCell) (k : ℕ) (d : LentCell) → k < length lent → Among (use_of (get_or lent k d)) (uses_of lent)
lent-among [] k d within = absurd (omega (arith, within))
lent-among (x ∷ xs) zero d within = inl refl
lent-among (x ∷ xs) (suc k) d within = inr (lent-among xs k d (omega (arith, within)))

-- of no cell that it wrote a copy is kept
pub back-unsummed : (j : Live) → IsOnCourse j → (i : ℕ) (run : Run) → (at j.regions i).running ≡ Some run → (lent : List LentCell) → run.lease ≡ lease_of lent
    → All (λ l. l.mode ≡ Writes → ¬ IsSummed j.owned.groups l.cell) lent
back-unsummed j o i run out lent is k d within writes =
    let l = get_or lent k d in
    let ordered = subst AreInOrder (ap (λ (x : Lease). x.uses) is) (o.runs i run out).ordered in
    let held = ap (λ (x : Lease). mode_in x.uses l.cell) is ∙ mode-once (uses_of lent) ordered (use_of l) (lent-among lent k d within) ∙ ap Some writes in
    not_summed j.regions j.owned.groups l.cell o.copies
    (held-unopened j.regions o.sound (lengths j.cells) o.named o.runs o.begun i run out l.cell Writes held refl)

-- a group is opened where one comes next
pub opens : (next : Option (Operation × List Cell)) (room : Option (Operation × List Use)) (number : ℕ) (before after : List Summed) → IsRoomFor next room → after ≡ before ++ opened_under number room → Opens next number before after
opens None None number before after names is = is ∙ append-nil before
opens (Some group) (Some room) number before after names is =
    (room.1, names.1, is ∙ ap (λ op. before ++ record { group = number; op = op; uses = room.1; rows = replicate 17 None } ∷ []) names.0)
opens next room number before after names is = absurd names
