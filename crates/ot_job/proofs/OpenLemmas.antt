-- What pieces hold of the cells of open groups, and which group may be opened.
use Rattle.std.proofs.Common.{◌≡◌, ◌≢◌, ℕ, ◌<◌, true, false, List, [], ◌∷◌, length, refl, sym, ap, subst, ◌∙◌, inl, inr, true≢false, ◌&&◌, Some, slice_get, ◌↔◌, ◌||◌, Contains, Option, None, not, IfSome, ⊎_elim}
use Rattle.ot_job.proofs.Common.{cases_lt, false_from_ne_true, NamedIn, conflicts, mode_in, same_fold, Conflict, Cell, Operation, Mode, Reads, Writes, Folds, Use, Sibling, is_in, use_as, Declared, allows, folds_to, has_cell, Agree, ReductionMisuse, or_true, or_right, and_true, opened-none, Open, Region, Run, test_of, piece_touches, IsRight, openings_of, at, parent_of, todo_at, ended_at, may_at, grouped_in, NamedOnce, IsRootOrReady, IsSoundRegion, IsSoundRegions, RunsWell, whole_region, wholes, list_any, cases_eq, All-permutation, IsPermutation-sym, IsPermutation-trans, Group, Body, Next, append, lengths, updated, clashes, opened_by_any, IsFine, group_free, groups_inside, Loan, IsNamed, permutation_rest, group_next, region_stopped, with_rest, children_of, unfinished_unawaited, Live, IsRoomFor, MayOpen, IsWell, IsOnCourse, assigns_out, loan_in, loans_out, and_right}
use Rattle.ot_check.proofs.Cited.{conflicts_writes}
use Rattle.ot_job.proofs.FoldLemmas.{same-op, agrees-before, both-fold, writes-all, only-declares, only-unwritten}
use Rattle.ot_job.proofs.HoldsLemmas.{Among}
use Rattle.ot_job.proofs.SoundLemmas.{sound, at-past}
use Rattle.ot_job.proofs.RightsLemmas.{rights_apart, total, at-whole, named-front, piece-may, piece-meets, safe, right-of, none-conflict, fine-innermost}
use Rattle.ot_job.proofs.CreatedLemmas.{grouped-opened}
use Rattle.ot_job.proofs.PlaceLemmas.{unused, clean-group}
use Rattle.ot_job.proofs.MovesLemmas.{one-less, stopped-others}
use Rattle.ot_job.proofs.OpeningLemmas.{has-cell, kept-new, meets-none, not_summed}
use Rattle.ot_job.proofs.StopLemmas.{placed-piece}
use Rattle.ot_job.proofs.WholeLemmas.{loans-each}

-- ---- what pieces hold of the cells of open groups: nothing of their own task's, and of another task's they only fold

-- ---- who may hold a cell

-- A task that has begun and not ended may hold a cell in this mode: its body may use it so, and what an unfinished child of
-- it may do with it doesn't conflict.
pub record MayHold (rs : List Region) (i : ℕ) (u : Use) : Type 0 where
  pub begun : IsRootOrReady (wholes rs) i
  pub alive : (at rs i).ended ≡ false
  pub may : allows (at rs i).own u ≡ true
  pub alone : (k : ℕ) (s : Sibling) → slice_get (at rs i).children k ≡ Some s → s.finished ≡ false → (m : Mode) → allows (Some s.uses) (use_as m u.cell) ≡ true → conflicts u.mode m ≡ false

module _ (rs : List Region) (s : IsSoundRegions (wholes rs)) where
  abbrev ws : List Region
  ws = wholes rs

  pub known : (i : ℕ) → (at rs i).ended ≡ false → i < length ws
  known i alive =
      ⊎_elim (λ below. below)
      (λ past. absurd (true≢false (sym (ap (λ (r : Region). r.ended) (at-past ws i past)) ∙ ap (λ (r : Region). r.ended) (at-whole rs i) ∙ alive))) (cases_lt i (length ws))

  -- two tasks may hold no cell in modes that conflict
  pub holders-agree : (i j : ℕ) (u v : Use) → MayHold rs i u → MayHold rs j v → i ≢ j → Agree u v
  holders-agree i j u v one two other =
      rights_apart (parent_of ws) (may_at ws) (todo_at ws) (ended_at ws) (IsRootOrReady ws) (sound ws s) (MayHold rs) (λ k. (w : Use) × MayHold rs k w)
      (λ k r. r.1.begun)
      (λ k r. ap (λ (x : Region). x.ended) (at-whole rs k) ∙ r.1.alive)
      (λ k r w h. ap (λ (x : Region). allows x.own w) (at-whole rs k) ∙ h.may)
      meets i j (u, one) (v, two)
      (total ws s i j (known i one.alive) (known j two.alive) other) u v one two
    where
      meets : (k : ℕ) → (w : Use) × MayHold rs k w → (c : ℕ) → parent_of ws c ≡ k → 0 < c → ended_at ws c ≡ false → (u v : Use) → MayHold rs k u → may_at ws c v → Agree u v
      meets k r c up pos unended u v h may = elim (cases_lt c (length ws)) [
        | inl below ↦ λ same.
            let kin = s.kin c pos below in
            let there : slice_get (at rs k).children (at ws c).child ≡ Some kin.entry = sym (ap (λ (x : Region). slice_get x.children (at ws c).child) (ap (at ws) up ∙ at-whole rs k)) ∙ kin.there in
            h.alone (at ws c).child kin.entry there (kin.finished ∙ unended) v.mode
            (subst (λ (x : Cell). allows (Some kin.entry.uses) (use_as v.mode x) ≡ true) (sym same) (ap (λ (o : Declared). allows o v) (sym kin.uses) ∙ may))
        | inr past ↦ absurd (true≢false (sym (ap (λ (x : Region). x.ended) (at-past ws c past)) ∙ unended))
      ]

  pub placed : (i : ℕ) → IsSoundRegion (whole_region (at rs i))
  placed i = subst IsSoundRegion (at-whole rs i) (s.placed i)

  -- who has an open group has begun, and has not ended
  pub opened-begun : (i : ℕ) (op : Operation) (c : Cell) → openings_of (at rs i).groups op c ≡ true → IsRootOrReady ws i
  opened-begun i op c is = by (at rs i).groups refl
    where
      by : (gs : List Open) → (at rs i).groups ≡ gs → IsRootOrReady ws i
      by [] none = absurd (true≢false (sym is ∙ ap (λ (gs : List Open). openings_of gs op c) none))
      by (o ∷ os) some = s.entered i o os (ap (λ (r : Region). r.groups) (at-whole rs i) ∙ some)

  pub opened-alive : (i : ℕ) (op : Operation) (c : Cell) → openings_of (at rs i).groups op c ≡ true → (at rs i).ended ≡ false
  opened-alive i op c is = false_from_ne_true (at rs i).ended (λ over. true≢false (sym is ∙ ap (λ (gs : List Open). openings_of gs op c) ((placed i).shut over)))

  -- the cells of an open group are its task's to fold by the group's operation
  pub group-holds : (i : ℕ) (op : Operation) (c : Cell) → openings_of (at rs i).groups op c ≡ true → MayHold rs i (use_as (Folds op) c)
  group-holds i op c is = record {
    begun = opened-begun i op c is;
    alive = opened-alive i op c is;
    may = writes-all (at rs i).own c (Folds op) ((placed i).writes op c is);
    alone = λ k x there unfinished m may. both-fold op (Folds op) m refl ((placed i).reduced k x there unfinished op c is m may);
  }

  -- those of the innermost are its to write, where none of the children created in it is unfinished
  module _ (i : ℕ) (o : Open) (os : List Open) (innermost : (at rs i).groups ≡ o ∷ os)
      (none_in : (k : ℕ) (x : Sibling) → slice_get (at rs i).children k ≡ Some x → x.finished ≡ false → is_in o.group x ≡ false)
      (c : Cell) (named : has_cell o.cells c ≡ true) where
    is_open : openings_of (at rs i).groups o.op c ≡ true
    is_open = ap (λ (gs : List Open). openings_of gs o.op c) innermost
        ∙ or_right (openings_of os o.op c) (same_fold o.op o.op && has_cell o.cells c) (and_true (same_fold o.op o.op) (has_cell o.cells c) (same-op o.op) named)

    may_write : allows (at rs i).own (use_as Writes c) ≡ true
    may_write = (placed i).writes o.op c is_open

    -- an unfinished child has nothing to do with the cell: its fold would be the task's own, or of an outer group
    child_free : (k : ℕ) (x : Sibling) → slice_get (at rs i).children k ≡ Some x → x.finished ≡ false → (m : Mode) → allows (Some x.uses) (use_as m c) ≡ true → ⊥
    child_free k x there unfinished m may =
        let p = placed i in
        let declared = only-declares x.uses o.op c (p.reduced k x there unfinished o.op c is_open) m may in
        elim (p.grouped k x there unfinished o.op c declared) [
          | inl own ↦ only-unwritten o.op (at rs i).own c (p.exclusive o.op c own) may_write
          | inr in_one ↦ elim (or_true ((same_fold o.op o.op && has_cell o.cells c) && is_in o.group x) (grouped_in os x o.op c) (sym (ap (λ (gs : List Open). grouped_in gs x o.op c) innermost) ∙ in_one)) [
            | inl here ↦ true≢false (sym (and_right (same_fold o.op o.op && has_cell o.cells c) (is_in o.group x) here) ∙ none_in k x there unfinished)
            | inr outer ↦ true≢false (sym (grouped-opened os x o.op c outer) ∙ (subst NamedOnce innermost p.once).0 o.op c named)
          ]
        ]

    pub end-holds : MayHold rs i (use_as Writes c)
    end-holds = record {
      begun = opened-begun i o.op c is_open;
      alive = opened-alive i o.op c is_open;
      may = may_write;
      alone = λ k x there unfinished m may. absurd (child_free k x there unfinished m may);
    }

module _ (rs : List Region) (s : IsSoundRegions (wholes rs)) (lens : List ℕ) (named : (i : ℕ) → NamedIn lens (todo_at (wholes rs) i))
    (well : (i : ℕ) (run : Run) → (at rs i).running ≡ Some run → RunsWell (at rs i) run)
    (started : (i : ℕ) (run : Run) → (at rs i).running ≡ Some run → IsRootOrReady (wholes rs) i)
  where
    pub named-at : (i : ℕ) → NamedIn lens (whole_region (at rs i)).rest
    named-at i = subst (λ (r : Region). NamedIn lens r.rest) (at-whole rs i) (named-front lens (at (wholes rs) i).rest (at (wholes rs) i).groups (named i))

    -- what a piece holds
    pub piece-holds : (i : ℕ) (run : Run) (c : Cell) (m : Mode) → (at rs i).running ≡ Some run → mode_in run.lease.uses c ≡ Some m → MayHold rs i (use_as m c)
    piece-holds i run c m out held = record {
      begun = started i run out;
      alive = (well i run out).alive;
      may = piece-may lens (at rs i) (placed rs s i) (named-at i) run out (well i run out) (use_as m c) held;
      alone = λ k x there unfinished n may. piece-meets lens (at rs i) (placed rs s i) (named-at i) run out (well i run out) k x there unfinished (use_as m c) (use_as n c) held may refl;
    }

    -- no two pieces that are out conflict
    pub pieces_apart : (i j : ℕ) (one two : Run) → (at rs i).running ≡ Some one → (at rs j).running ≡ Some two → i ≢ j → Conflict one.lease.uses two.lease.uses → ⊥
    pieces_apart i j one two ri rj other =
        none-conflict one.lease.uses two.lease.uses (well i one ri).ordered (well j two rj).ordered
        (λ u v hu hv. holders-agree rs s i j u v (piece-holds i one u.cell u.mode ri hu) (piece-holds j two v.cell v.mode rj hv) other)

    -- where it holds a fold, its body declares it
    pub piece-folds : (i : ℕ) (run : Run) (op : Operation) (c : Cell) → (at rs i).running ≡ Some run → mode_in run.lease.uses c ≡ Some (Folds op) → folds_to (at rs i).own op c ≡ true
    piece-folds i run op c out held = (right-of lens (at rs i) (placed rs s i) (named-at i) run out (well i run out) (use_as (Folds op) c) held).1

    -- of a cell that another task's open group names, a piece holds the fold by the group's operation alone
    pub folds_alone : (i j : ℕ) (op : Operation) (c : Cell) (m : Mode) (run : Run) → (at rs i).running ≡ Some run → mode_in run.lease.uses c ≡ Some m → openings_of (at rs j).groups op c ≡ true → i ≢ j → m ≡ Folds op
    folds_alone i j op c m run out held is other =
        agrees-before op m (holders-agree rs s i j (use_as m c) (use_as (Folds op) c) (piece-holds i run c m out held) (group-holds rs s j op c is) other refl)

    -- of a cell that an open group of its own task names, a piece holds nothing
    pub own_untouched : (i : ℕ) (op : Operation) (c : Cell) (m : Mode) (run : Run) → (at rs i).running ≡ Some run → mode_in run.lease.uses c ≡ Some m → openings_of (at rs i).groups op c ≡ false
    own_untouched i op c m run out held = by m (right-of lens (at rs i) (placed rs s i) (named-at i) run out (well i run out) (use_as m c) held)
      where
        Touched : Use → Type 0
        Touched u = Among u (piece_touches run.assigns (test_of (at rs i).rest))

        touch : (u : Use) → Touched u → openings_of (at rs i).groups op u.cell ≡ false
        touch u t = opened-none (openings_of (at rs i).groups) op u.cell (safe lens (at rs i) (placed rs s i) (named-at i) run out (well i run out) u t ReductionMisuse)

        by : (m : Mode) → IsRight (at rs i).own Touched (use_as m c) → openings_of (at rs i).groups op c ≡ false
        by Reads right = touch (use_as Reads c) right
        by Writes (inl right) = touch (use_as Writes c) right
        by Writes (inr right) = touch (use_as (Folds right.0) c) right.1
        by (Folds p) right = touch (use_as (Folds p) c) right.0

    -- at the end of an innermost group of which no child is unfinished, no piece of another task holds a cell of the group
    pub none_out : (i j : ℕ) (o : Open) (os : List Open) → (at rs i).groups ≡ o ∷ os
        → ((k : ℕ) (x : Sibling) → slice_get (at rs i).children k ≡ Some x → x.finished ≡ false → is_in o.group x ≡ false)
        → (c : Cell) (m : Mode) (run : Run) → (at rs j).running ≡ Some run → mode_in run.lease.uses c ≡ Some m → i ≢ j → has_cell o.cells c ≡ true → ⊥
    none_out i j o os innermost none_in c m run out held other is =
        conflicts_writes m (holders-agree rs s i j (use_as Writes c) (use_as m c) (end-holds rs s i o os innermost none_in c is) (piece-holds j run c m out held) other refl)

-- ---- a group that comes next in a task may be opened once the task's piece has come back

-- ---- a group comes next in a task whose piece is out

module _ (j : Live) (o : IsOnCourse j) (i : ℕ) (run : Run) (out : (at j.regions i).running ≡ Some run)
    (op : Operation) (cs : List Cell) (b rest : Body) (next : (at j.regions i).rest ≡ Next (Group op cs b) rest) where
  abbrev r : Region
  r = at j.regions i

  -- its region once the piece is behind the place
  behind : IsSoundRegion (with_rest r.rest (whole_region r))
  behind =
      placed-piece (whole_region r) (placed j.regions o.sound i) run.assigns r.rest (ap (λ x. append (assigns_out x) r.rest) out)
      (o.runs i run out).assigns (o.runs i run out).alive

  clean : (list_any (λ c. not (allows r.own (use_as Writes c)) || opened_by_any (openings_of r.groups) c) cs ≡ false) × (list_any (λ c. unfinished_unawaited None r.children (λ s. clashes (use_as Writes c) s.uses)) cs ≡ false)
  clean = clean-group r op cs b (o.runs i run out).calm (subst (λ x. IsFine r.own (openings_of r.groups) (children_of (unfinished_unawaited r.waiting r.children)) x) next
      (fine-innermost r.own (unfinished_unawaited r.waiting r.children) r.rest r.groups behind.fine)).0

  module _ (c : Cell) (named : has_cell cs c ≡ true) where
    -- the task may write each of its cells
    entry-holds : MayHold j.regions i (use_as Writes c)
    entry-holds = record {
      begun = o.begun i run out;
      alive = (o.runs i run out).alive;
      may = groups_inside r.own (openings_of r.groups) op cs behind.writes clean.0 op c (or_right (openings_of r.groups op c) (same_fold op op && has_cell cs c) (and_true (same_fold op op) (has_cell cs c) (same-op op) named));
      alone = λ k s there unfinished m may. absurd (true≢false (sym may ∙ unused cs r.children k s c clean.1 there unfinished named m));
    }

    -- no open group names one
    entry-unopened : (k : ℕ) (by : Operation) → openings_of (at j.regions k).groups by c ≡ false
    entry-unopened k by = elim (cases_eq i k) [
      | inl same ↦ ap (λ n. openings_of (at j.regions n).groups by c) (sym same) ∙ opened-none (openings_of r.groups) by c (group_free r.own (openings_of r.groups) cs c clean.0 named)
      | inr other ↦ false_from_ne_true (openings_of (at j.regions k).groups by c) (λ is.
          conflicts_writes (Folds by) (holders-agree j.regions o.sound i k (use_as Writes c) (use_as (Folds by) c) entry-holds (group-holds j.regions o.sound k by c is) other refl))
    ]

    -- no piece of another task holds one
    entry-free : (k : ℕ) (x : Run) → (at j.regions k).running ≡ Some x → i ≢ k → (m : Mode) → mode_in x.lease.uses c ≡ Some m → ⊥
    entry-free k x also other m held =
        conflicts_writes m (holders-agree j.regions o.sound i k (use_as Writes c) (use_as m c) entry-holds
        (piece-holds j.regions o.sound (lengths j.cells) o.named o.runs o.begun k x c m also held) other refl)

-- ---- what the owners ask

module _ (j : Live) (w : IsWell j) (o : IsOnCourse j) (i : ℕ) (run : Run) (out : (at j.regions i).running ≡ Some run) where
  may-open-uses : (op : Operation) (cs : List Cell) (b rest : Body) → (at j.regions i).rest ≡ Next (Group op cs b) rest → (uses : List Use) → ((c : Cell) → IsNamed uses c ↔ Contains cs c)
      → MayOpen j.owned (loan_in run) j.counts.units uses
  may-open-uses op cs b rest next uses names = record {
    new = kept-new j.regions j.owned.groups j.counts.units o.older o.copies;
    unnamed = λ c named. not_summed j.regions j.owned.groups c o.copies (entry-unopened j o i run out op cs b rest next c (has-cell cs c ((names c).0 named)));
    unused = λ left ended.
        All-permutation (λ (l : Loan). ¬ Conflict l.lease.uses uses) (loans_out (updated j.regions i region_stopped)) left
        (permutation_rest (loan_in run) (loans_out (updated j.regions i region_stopped)) left
        (IsPermutation-trans (loan_in run ∷ loans_out (updated j.regions i region_stopped)) (loans_out j.regions) (loan_in run ∷ left)
        (IsPermutation-sym (loans_out j.regions) (loan_in run ∷ loans_out (updated j.regions i region_stopped)) (one-less j.regions i run out))
        (IsPermutation-trans (loans_out j.regions) j.owned.out (loan_in run ∷ left) (IsPermutation-sym j.owned.out (loans_out j.regions) w.rights) ended)))
        (loans-each (λ (l : Loan). ¬ Conflict l.lease.uses uses) (updated j.regions i region_stopped) free);
  }
    where
      free : (k : ℕ) (x : Run) → (at (updated j.regions i region_stopped) k).running ≡ Some x → ¬ Conflict x.lease.uses uses
      free k x is =
          let (other, same) = stopped-others j.regions i k x is in
          let also = sym (ap (λ (r : Region). r.running) same) ∙ is in
          meets-none x.lease.uses uses (λ c m held named. entry-free j o i run out op cs b rest next c (has-cell cs c ((names c).0 named)) k x also (λ e. other (sym e)) m held)

  -- where a group comes next it may be opened
  pub may-open : (room : Option (Operation × List Use)) → IsRoomFor (group_next (at j.regions i).rest) room → IfSome room (λ r. MayOpen j.owned (loan_in run) j.counts.units r.1)
  may-open None names = tt
  may-open (Some room) names = by (at j.regions i).rest refl names
    where
      by : (b : Body) → (at j.regions i).rest ≡ b → IsRoomFor (group_next b) (Some room) → MayOpen j.owned (loan_in run) j.counts.units room.1
      by (Next (Group op cs b) rest) is names = may-open-uses op cs b rest is room.1 names.1
      by b is names = absurd names
