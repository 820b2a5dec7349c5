-- Two pieces that are out hold nothing that conflicts.
use Rattle.std.proofs.Common.{◌≡◌, ℕ, ◌<◌, Bool, true, false, refl, sym, ap, subst, ◌∙◌, ◌⊎◌, inl, inr, ⊎_elim, List, [], ◌∷◌, ◌&&◌, true≢false, arith, Some, ◌≢◌, suc, length, None, slice_get, if◌then◌else◌, IsTrue, Any}
use Rattle.ot_job.proofs.Common.{Body, conflicts, Cell, Operation, Mode, Reads, Writes, Folds, Use, use_as, Declared, Openings, allows, covers, folds_by, folds_to, clashes, Children, IsHarmless, same_cell, Agree, ReductionMisuse, ConflictsWithChild, opened-none, clash_free, IsRight, NotDeclared, Set, Fold, If, End, Next, append, NamedIn, Precedes, AreInOrder, Conflict, mode_in, Sibling, IsFine, AreAssigns, not_false, harmless, harmless_if, same_is, Open, todo, openings_of, children_of, IsFineAt, unfinished_unawaited, Kids, same_self, Region, Run, at, parent_of, parents, IsSoundRegion, IsSoundRegions, test_of, piece_touches, assign_touches, test_touches, RunsWell, assigns_out, whole_region, wholes}
use Rattle.ot_check.proofs.Cited.{conflicts_folds}
use Rattle.ot_model.proofs.OrderLemmas.{precedes_trans}
use Rattle.ot_job.proofs.FoldLemmas.{turned, held-alike, any-but}
use Rattle.ot_job.proofs.Order.{IsBefore, branch, Ordered, order, order-ordered}
use Rattle.ot_job.proofs.Kept.{Sound, Uses, up_to, alive_up, begun_anc, In, Each-at}
use Rattle.ot_job.proofs.KeptLemmas.{here, family_of}
use Rattle.ot_job.proofs.CreatedLemmas.{grouped-opened}
use Rattle.ot_job.proofs.PlaceLemmas.{kid-none}
use Rattle.ot_job.proofs.HoldsLemmas.{Among, among-split, held-right, each-assign, each-test, among}

-- ---- two pieces that may be out at once hold no rights that conflict

abbrev pub Allowed : Declared → Use → Type 0
Allowed own u = allows own u ≡ true

-- a use that is declared as Writes or as Folds lets the body fold; nobody else does
folds_or_clashes : (o : Operation) (c : Cell) (uses : List Use) → allows (Some uses) (use_as (Folds o) c) ≡ true → clashes (use_as (Folds o) c) uses ≡ false → folds_to (Some uses) o c ≡ true
folds_or_clashes o c uses may free =
    any-but (λ d. same_cell d.cell c && covers d.mode (Folds o)) (λ d. same_cell d.cell c && conflicts d.mode (Folds o)) (λ d. same_cell d.cell c && folds_by o d.mode) uses
    (λ d. one (same_cell d.cell c) d.mode) may free
  where
    one : (b : Bool) (m : Mode) → (b && covers m (Folds o)) ≡ true → (b && conflicts m (Folds o)) ≡ false → (b && folds_by o m) ≡ true
    one true (Folds p) h g = h
    one true Writes h g = cc
    one b m h g = cc

-- A piece without an offence, and a child that hasn't ended, each of whose folds is one of the body's own or of a group that
-- is open in it: what the piece holds and what the child may do don't conflict.
module _ (own : Declared) (openings_of : Openings) (children : Children) (Touched : Use → Type 0)
    (safe : (u : Use) → Touched u → IsHarmless own openings_of children u)
    (child : List Use) (there : (test : List Use → Bool) → children test ≡ false → test child ≡ false)
    (grouped : (o : Operation) (c : Cell) → folds_to (Some child) o c ≡ true → (folds_to own o c ≡ true) ⊎ (openings_of o c ≡ true))
  where
    pub right_apart : (c : Cell) (m : Mode) (v : Use) → IsRight own Touched (use_as m c) → Allowed (Some child) v → Agree (use_as m c) v
    right_apart c Reads v held may = clash_free (use_as Reads c) v child (there (clashes (use_as Reads c)) (safe (use_as Reads c) held ConflictsWithChild)) may
    right_apart c (Folds o) v held may = clash_free (use_as (Folds o) c) v child (there (clashes (use_as (Folds o) c)) (safe (use_as (Folds o) c) held.0 ConflictsWithChild)) may
    right_apart c Writes v (inl held) may = clash_free (use_as Writes c) v child (there (clashes (use_as Writes c)) (safe (use_as Writes c) held ConflictsWithChild)) may
    right_apart c Writes v (inr held) may = λ same.
        let o = held.0 in
        let free = there (clashes (use_as (Folds o) c)) (safe (use_as (Folds o) c) held.1 ConflictsWithChild) in
        let folds : v.mode ≡ Folds o = conflicts_folds o v.mode (clash_free (use_as (Folds o) c) v child free may same) in
        let declared : folds_to (Some child) o c ≡ true = folds_or_clashes o c child (subst (λ (u : Use). Allowed (Some child) u) (use_is o v c (sym same) folds) may) free in
        absurd (⊎_elim (λ e. true≢false (sym e ∙ held.2)) (λ e. true≢false (sym e ∙ opened-none openings_of o c (safe (use_as (Folds o) c) held.1 ReductionMisuse))) (grouped o c declared))
      where
        use_is : (o : Operation) (v : Use) (c : Cell) → v.cell ≡ c → v.mode ≡ Folds o → v ≡ use_as (Folds o) c
        use_is o v c p q = ap (λ (x : Cell). use_as v.mode x) p ∙ ap (λ (m : Mode). use_as m c) q

-- what a piece holds its body may do
pub right_may : (own : Declared) (Touched : Use → Type 0) → ((u : Use) → Touched u → Allowed own u) → (c : Cell) (m : Mode)
    → ((o : Operation) (c : Cell) → Allowed own (use_as (Folds o) c) → folds_to own o c ≡ false → Allowed own (use_as Writes c)) → IsRight own Touched (use_as m c) → Allowed own (use_as m c)
right_may own Touched may c Reads all held = may (use_as Reads c) held
right_may own Touched may c Writes all (inl held) = may (use_as Writes c) held
right_may own Touched may c Writes all (inr held) = all held.0 c (may (use_as (Folds held.0) c) held.1) held.2
right_may own Touched may c (Folds o) all held = may (use_as (Folds o) c) held.0

agree_back : (u v : Use) → Agree u v → Agree v u
agree_back u v h same = turned u.mode v.mode (h (sym same))

-- two tasks with pieces: what they hold is what they may do, and meets no child of theirs that hasn't ended
module _ (par : ℕ → ℕ) (may : ℕ → Uses) (todo : ℕ → Body) (ended : ℕ → Bool) (begun : ℕ → Type 0) (s : Sound par may todo ended begun)
    (Holds : ℕ → Uses) (Runs : ℕ → Type 0)
    (started : (i : ℕ) → Runs i → begun i) (alive : (i : ℕ) → Runs i → ended i ≡ false)
    (holds_may : (i : ℕ) → Runs i → (u : Use) → Holds i u → may i u)
    (meets_none : (i : ℕ) → Runs i → (c : ℕ) → par c ≡ i → 0 < c → ended c ≡ false → (u v : Use) → Holds i u → may c v → Agree u v)
  where
    before_apart : (i j : ℕ) → Runs i → Runs j → IsBefore par j i → (u v : Use) → Holds i u → Holds j v → Agree u v
    before_apart i j ri rj (inl h) u v p q =
        let g = branch par i (par j) h.1 j refl h.0 in
        meets_none i ri g.0 g.1 g.3 (alive_up par may todo ended begun s g.0 j g.3 g.2 (alive j rj)) u v p (up_to par may todo ended begun s g.0 j g.2 v (holds_may j rj v q))
    before_apart i j ri rj (inr h) u v p q =
        let a = h.0 in let b = h.1 in let w = h.2 in
        s.ready a b w.siblings w.child w.older (begun_anc par may todo ended begun s a i w.of_i (started i ri)) (alive_up par may todo ended begun s a i (omega (arith, w.child, w.older)) w.of_i (alive i ri)) (alive_up par may todo ended begun s b j w.child w.of_j (alive j rj)) u v
        (up_to par may todo ended begun s a i w.of_i u (holds_may i ri u p)) (up_to par may todo ended begun s b j w.of_j v (holds_may j rj v q))

    pub rights_apart : (i j : ℕ) → Runs i → Runs j → IsBefore par j i ⊎ IsBefore par i j → (u v : Use) → Holds i u → Holds j v → Agree u v
    rights_apart i j ri rj (inl h) u v p q = before_apart i j ri rj h u v p q
    rights_apart i j ri rj (inr h) u v p q = agree_back v u (before_apart j i rj ri h v u q p)

-- ---- two pieces that are out hold nothing that conflicts

-- ---- who stands where

pair-ordered : (R : ℕ → ℕ → Type 0) (xs : List ℕ) (i j : ℕ) → Ordered R xs → In i xs → In j xs → i ≢ j → R i j ⊎ R j i
pair-ordered R [] i j o a b n = absurd a
pair-ordered R (x ∷ xs) i j o (inl a) (inl b) n = absurd (n (a ∙ sym b))
pair-ordered R (x ∷ xs) i j o (inl a) (inr b) n = inl (subst (λ k. R k j) (sym a) (Each-at (R x) j xs o.0 b))
pair-ordered R (x ∷ xs) i j o (inr a) (inl b) n = inr (subst (λ k. R k i) (sym b) (Each-at (R x) i xs o.0 a))
pair-ordered R (x ∷ xs) i j o (inr a) (inr b) n = pair-ordered R xs i j o.1 a b n

pub total : (ws : List Region) (s : IsSoundRegions ws) (i j : ℕ) → i < length ws → j < length ws → i ≢ j → IsBefore (parent_of ws) j i ⊎ IsBefore (parent_of ws) i j
total ws s i j hi hj n =
    ⊎_elim (λ r. inr r.1) (λ r. inl r.1)
    (pair-ordered (λ x y. (x ≢ y) × IsBefore (parent_of ws) x y) (order (parents ws)) i j (order-ordered (parent_of ws) s.down (parents ws) (family_of ws s i hi)) (here ws s i hi) (here ws s j hj) n)

-- ---- each cell once

precedes-other : (a b : Cell) → Precedes a b → same_cell b a ≡ true → ⊥
precedes-other a b (inl lt) same = let e : b ≡ a = same_is b a same in absurd (omega (arith, lt, ap (λ (c : Cell). c.array) e))
precedes-other a b (inr lt) same = let e : b ≡ a = same_is b a same in absurd (omega (arith, lt.1, ap (λ (c : Cell). c.index) e))

in-order-later : (u : Use) (us : List Use) → AreInOrder (u ∷ us) → (v : Use) → Among v us → Precedes u.cell v.cell
in-order-later u [] o v h = absurd h
in-order-later u (w ∷ us) o v (inl e) = subst (λ (x : Use). Precedes u.cell x.cell) e o.0
in-order-later u (w ∷ us) o v (inr h) = precedes_trans u.cell w.cell v.cell o.0 (in-order-later w us o.1 v h)

pub mode-once : (us : List Use) → AreInOrder us → (u : Use) → Among u us → mode_in us u.cell ≡ Some u.mode
mode-once [] o u h = absurd h
mode-once (v ∷ us) o u (inl e) = rw (same_self u.cell v.cell (sym (ap (λ (x : Use). x.cell) e))) (ap (λ (x : Use). Some x.mode) e)
mode-once (v ∷ us) o u (inr h) = by (same_cell u.cell v.cell) refl (mode-once us (tail us o) u h)
  where
    tail : (us : List Use) → AreInOrder (v ∷ us) → AreInOrder us
    tail [] o = tt
    tail (w ∷ us) o = o.1

    by : (b : Bool) → same_cell u.cell v.cell ≡ b → mode_in us u.cell ≡ Some u.mode → (if same_cell u.cell v.cell then Some v.mode else mode_in us u.cell) ≡ Some u.mode
    by true e m = absurd (precedes-other v.cell u.cell (in-order-later v us o u h) e)
    by false e m = rw e m

pub any-among : (us : List Use) (P : Use → Type 0) → Any P us → (u : Use) × Among u us × P u
any-among us P (k, u, within, is, p) = (u, among u us (k, within, is), p)

-- uses that agree don't conflict
pub none-conflict : (us vs : List Use) → AreInOrder us → AreInOrder vs
    → ((u v : Use) → mode_in us u.cell ≡ Some u.mode → mode_in vs v.cell ≡ Some v.mode → Agree u v) → Conflict us vs → ⊥
none-conflict us vs ou ov agree c =
    let a = any-among us (λ u. Any (λ v. (u.cell ≡ v.cell) × IsTrue (conflicts u.mode v.mode)) vs) c in
    let b = any-among vs (λ v. (a.0.cell ≡ v.cell) × IsTrue (conflicts a.0.mode v.mode)) a.2 in
    true≢false (sym b.2.1 ∙ agree a.0 b.0 (mode-once us ou a.0 a.1) (mode-once vs ov b.0 b.1) b.2.0)

-- ---- what a body may do

allowed-writes : (own : Declared) (o : Operation) (c : Cell) → allows own (use_as (Folds o) c) ≡ true → folds_to own o c ≡ false → allows own (use_as Writes c) ≡ true
allowed-writes None o c may none = refl
allowed-writes (Some uses) o c may none =
    any-but (λ d. same_cell d.cell c && covers d.mode (Folds o)) (λ d. same_cell d.cell c && folds_by o d.mode) (λ d. same_cell d.cell c && covers d.mode Writes) uses
    (λ d. one (same_cell d.cell c) d.mode) may none
  where
    one : (b : Bool) (m : Mode) → (b && covers m (Folds o)) ≡ true → (b && folds_by o m) ≡ false → (b && covers m Writes) ≡ true
    one true (Folds p) h n = absurd (true≢false (sym h ∙ n))
    one b m h n = h

-- ---- a piece's touches are no offence

pub named-half : (lens : List ℕ) (a b : Body) → NamedIn lens (append a b) → NamedIn lens a
named-half lens End b n = tt
named-half lens (Next x a) b n = (n.0, named-half lens a b n.1)

pub named-back : (lens : List ℕ) (a b : Body) → NamedIn lens (append a b) → NamedIn lens b
named-back lens End b n = n
named-back lens (Next x a) b n = named-back lens a b n.1

module _ (lens : List ℕ) (own : Declared) (groups : Openings) (ch : Children) where
  test-safe : (b : Body) → NamedIn lens b → IsFine own groups ch b → (u : Use) → Among u (test_touches (test_of b)) → IsHarmless own groups ch u
  test-safe (Next (If e a b) rest) n f u k = each-test (IsHarmless own groups ch) e (harmless_if lens own groups ch e a b rest n.0.0 f) u k
  test-safe b n f u k = absurd k

  pub fine-behind : (piece rest : Body) → AreAssigns piece → IsFine own groups ch (append piece rest) → IsFine own groups ch rest
  fine-behind End rest only f = f
  fine-behind (Next (Set c e) more) rest only f = fine-behind more rest only f.2
  fine-behind (Next (Fold op c e) more) rest only f = fine-behind more rest only f.2
  fine-behind (Next x more) rest only f = absurd only

  pub piece-safe : (piece rest : Body) → AreAssigns piece → NamedIn lens (append piece rest) → IsFine own groups ch (append piece rest) → (u : Use) → Among u (piece_touches piece (test_of rest)) → IsHarmless own groups ch u
  piece-safe piece rest only n f u k =
      ⊎_elim (each-assign (IsHarmless own groups ch) piece (harmless lens own groups ch piece rest only (named-half lens piece rest n) f) u)
      (test-safe rest (named-back lens piece rest n) (fine-behind piece rest only f) u)
      (among-split u (assign_touches piece) (test_touches (test_of rest)) k)

pub fine-innermost : (own : Declared) (kids : Kids) (rest : Body) (gs : List Open) → IsFineAt own kids rest gs → IsFine own (openings_of gs) (children_of kids) rest
fine-innermost own kids rest [] f = f
fine-innermost own kids rest (o ∷ os) f = f.0

pub at-whole : (rs : List Region) (i : ℕ) → at (wholes rs) i ≡ whole_region (at rs i)
at-whole (r ∷ rs) (suc i) = at-whole rs i
at-whole rs i = refl

pub named-front : (lens : List ℕ) (rest : Body) (gs : List Open) → NamedIn lens (todo rest gs) → NamedIn lens rest
named-front lens rest [] n = n
named-front lens rest (o ∷ os) n = named-half lens rest (todo o.behind os) n

-- ---- one piece, and the children of its task

module _ (lens : List ℕ) (r : Region) (p : IsSoundRegion (whole_region r)) (named : NamedIn lens (whole_region r).rest) (run : Run) (is : r.running ≡ Some run) (w : RunsWell r run) where
  abbrev Touched : Use → Type 0
  Touched u = Among u (piece_touches run.assigns (test_of r.rest))

  rest-is : (whole_region r).rest ≡ append run.assigns r.rest
  rest-is = ap (λ o. append (assigns_out o) r.rest) is

  pub safe : (u : Use) → Touched u → IsHarmless r.own (openings_of r.groups) (children_of (unfinished_unawaited r.waiting r.children)) u
  safe = piece-safe lens r.own (openings_of r.groups) (children_of (unfinished_unawaited r.waiting r.children)) run.assigns r.rest w.assigns
      (subst (NamedIn lens) rest-is named)
      (subst (IsFine r.own (openings_of r.groups) (children_of (unfinished_unawaited r.waiting r.children))) rest-is (fine-innermost r.own (unfinished_unawaited r.waiting r.children) (whole_region r).rest r.groups p.fine))

  pub touch-may : (u : Use) → Touched u → allows r.own u ≡ true
  touch-may u t = not_false (allows r.own u) (safe u t NotDeclared)

  pub right-of : (u : Use) → mode_in run.lease.uses u.cell ≡ Some u.mode → IsRight r.own Touched u
  right-of u h = held-right r.own u.cell (held-alike r.own u.cell (λ o. p.exclusive o u.cell)) (piece_touches run.assigns (test_of r.rest)) u.mode (sym (w.modes u.cell) ∙ h)

  pub piece-may : (u : Use) → mode_in run.lease.uses u.cell ≡ Some u.mode → allows r.own u ≡ true
  piece-may u h =
      right_may r.own Touched touch-may u.cell u.mode (allowed-writes r.own) (right-of u h)

  pub piece-meets : (k : ℕ) (s : Sibling) → slice_get r.children k ≡ Some s → s.finished ≡ false → (u v : Use) → mode_in run.lease.uses u.cell ≡ Some u.mode → allows (Some s.uses) v ≡ true → Agree u v
  piece-meets k s there alive u v h may =
      right_apart r.own (openings_of r.groups) (children_of (unfinished_unawaited r.waiting r.children)) Touched safe s.uses
      (λ test none. kid-none r.children (λ x. test x.uses) k s (subst (λ b. unfinished_unawaited b r.children (λ x. test x.uses) ≡ false) w.calm none) there alive)
      (λ o c folds. ⊎_elim inl (λ e. inr (grouped-opened r.groups s o c e)) (p.grouped k s there alive o c folds))
      u.cell u.mode v (right-of u h) may
