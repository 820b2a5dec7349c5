-- What a job is once its owners have lent for a claim.
use Rattle.std.proofs.Common.{◌≡◌, ℕ, List, [], refl, sym, ap, subst, ◌∙◌, Option, Bool, get_or, All, IsSome, if◌then◌else◌}
use Rattle.ot_job.proofs.Common.{E, Body, cell_of, lengths, updated, NamedIn, AreInOrder, Use, Keeping, lease_of, lent_from, uses_of, Owned, begun_for, worths, LentCell, CanRun, AreHeld, leading, after_parts, test_of, awake, piece_begun, group_passed, Region, piece_touches, claimable_of, picked_at, Claims, ahead, Holds, live_of, Live, at, left_open, IsWell, IsOnCourse, Inside}
use Rattle.ot_owner.specs.Keeping.{Prepared, IsLast}
use Rattle.ot_owner.proofs.RightsLemmas.{lent_uses}
use Rattle.ot_job.specs.Calls.{IsLentBy, MayLend}
use Rattle.ot_job.proofs.InsideLemmas.{IsPicked}
use Rattle.ot_job.proofs.LendingLemmas.{claim-open, claim-unused, claim-known, claim-folds, claim-fresh}
use Rattle.ot_job.proofs.ClaimableLemmas.{at-here}
use Rattle.ot_job.proofs.RunLemmas.{claim-can}
use Rattle.ot_job.proofs.WellLemmas.{claim-free, claim-holds, claim-well, named-awake}

-- the region of the task that is picked, as the code looks at it
module _ (s : Inside) (w : IsWell (live_of s)) (pick i : ℕ) (p : IsPicked s pick i) (t : Region) (here : t ≡ get_or s.tasks i t) where
  pub picked-is : at s.tasks i ≡ t
  picked-is = at-here s.tasks i t p.known here

  pub picked-named : NamedIn (lengths s.cells) (awake t).rest
  picked-named = subst (λ (r : Region). NamedIn (lengths s.cells) (awake r).rest) picked-is (named-awake (live_of s) (w.course p.working) i)

-- what the calls have made of the job: the copies are of the declaration's cells, the piece may run on them, and the job is as
-- it always is and as the claim has it
pub record AreLent (j : Live) (t : Region) (pick i worker : ℕ) (decl : List Use) (lent : List LentCell) (new : Live) : Type 0 where
  pub are : uses_of lent ≡ decl
  pub can : (assigns : Body) (test : Option E) → assigns ≡ leading (awake t).rest → test ≡ test_of (after_parts (awake t).rest) → CanRun assigns test lent
  pub well : IsWell new
  pub claims : (assigns : Body) (test : Option E) → assigns ≡ leading (awake t).rest → test ≡ test_of (after_parts (awake t).rest) → Claims j pick worker (record { task = i; assigns = assigns; test = test; lent = lent }) new

module _ (s : Inside) (w : IsWell (live_of s)) (pick i : ℕ) (p : IsPicked s pick i) (t : Region) (here : t ≡ get_or s.tasks i t) (worker : ℕ) (decl : List Use) (are : AreHeld t decl) (ordered : AreInOrder decl)
    (slip : Prepared) (slip-is : slip ≡ record { uses = decl; worker = worker }) (owners : Keeping) (before-is : owners.owned ≡ s.owners.owned) (told : Option ℕ) (told-is : told ≡ group_passed t) where
  abbrev j : Live
  j = live_of s

  o : IsOnCourse j
  o = w.course p.working

  same : at s.tasks i ≡ t
  same = picked-is s w pick i p t here

  abbrev passed : Option ℕ
  passed = group_passed (at s.tasks i)

  passed-is : told ≡ passed
  passed-is = told-is ∙ ap group_passed (sym same)

  decl-held : AreHeld (at s.tasks i) decl
  decl-held = subst (λ (r : Region). AreHeld r decl) (sym same) are

  abbrev asked : Prepared
  asked = record { uses = decl; worker = worker }

  -- what the owners ask
  pub may-lend : IsLast owners slip → All (λ u. IsSome (cell_of s.cells u.cell)) decl → MayLend owners s.cells told slip
  may-lend last there =
      let place = last.place in
      let rows = (subst (IsLast owners) slip-is last).rows in
      subst (MayLend owners s.cells told) (sym slip-is)
      (subst (λ (n : Option ℕ). MayLend owners s.cells n asked) (sym passed-is)
      (subst (λ (b : Owned). MayLend (record owners { owned = b }) s.cells passed asked) (sym before-is) (record {
        last = record { place = place; rows = rows };
        is_open = claim-open j w o i p.known p.can passed refl;
        unused = claim-unused j w o i p.known p.can passed refl;
        known = claim-known j w o i p.known p.can passed refl;
        free = claim-free j w o i p.known p.can decl decl-held ordered;
        there = there;
        summed = claim-folds j w o i p.known p.can worker (record { uses = decl; firsts = [] }) decl-held ordered;
      })))

  -- what they have lent
  module _ (cells : List (List ℕ)) (owned : Owned) (lent : List LentCell) (are-lent : IsLentBy owners.owned s.cells told slip lent owned cells) where
    -- told of the job that was
    l : IsLentBy s.owners.owned s.cells passed asked lent owned cells
    l =
        subst (λ (a : Prepared). IsLentBy s.owners.owned s.cells passed a lent owned cells) slip-is
        (subst (λ (n : Option ℕ). IsLentBy s.owners.owned s.cells n slip lent owned cells) passed-is
        (subst (λ (b : Owned). IsLentBy b s.cells told slip lent owned cells) before-is are-lent))

    uses-are : uses_of lent ≡ decl
    uses-are = lent_uses cells decl lent l.lent

    held : AreHeld (at s.tasks i) (uses_of lent)
    held = subst (AreHeld (at s.tasks i)) (sym uses-are) decl-held

    in-order : AreInOrder (uses_of lent)
    in-order = subst AreInOrder (sym uses-are) ordered

    groups-now : owned.groups ≡ begun_for worker (uses_of lent) (left_open passed s.owners.owned.groups)
    groups-now = l.groups ∙ ap (λ (us : List Use). begun_for worker us (left_open passed s.owners.owned.groups)) (sym uses-are)

    worth-now : lent ≡ lent_from (worths s.owners.owned s.cells) (uses_of lent)
    worth-now = l.lent ∙ ap (lent_from cells) (sym uses-are) ∙ claim-fresh j w o i p.known p.can worker (lease_of lent) held in-order cells owned l.lengths l.worth groups-now

    abbrev new : Live
    new = record j { regions = updated s.tasks i (piece_begun worker (lease_of lent)); cells = cells; owned = owned }

    -- what was taken of its body
    ahead-is : (b : Body) → b ≡ leading (awake t).rest → b ≡ leading (ahead j i)
    ahead-is b is = is ∙ ap (λ (r : Region). leading (awake r).rest) (sym same)

    test-is : (e : Option E) → e ≡ test_of (after_parts (awake t).rest) → e ≡ test_of (after_parts (ahead j i))
    test-is e is = is ∙ ap (λ (r : Region). test_of (after_parts (awake r).rest)) (sym same)

    pub lends : AreLent j t pick i worker decl lent new
    lends = record {
      are = uses-are;
      can = λ b e taken asks.
          subst (λ (b : Body). CanRun b e lent) (sym (ahead-is b taken))
          (subst (λ (e : Option E). CanRun (leading (ahead j i)) e lent) (sym (test-is e asks)) (claim-can j o i lent held (worths s.owners.owned s.cells) worth-now));
      well = claim-well j w p.working i p.known p.can worker (lease_of lent) held in-order (ap lease_of worth-now) cells owned l.lengths l.worth l.out groups-now;
      claims = λ b e taken asks. record {
        task = ap (λ (b : Bool). picked_at (if b then [] else claimable_of s.tasks) pick) p.working ∙ p.is;
        assigns = ahead-is b taken;
        test = test-is e asks;
        held =
            subst (λ (b : Body). Holds (at s.tasks i).own (piece_touches b e) (uses_of lent)) (sym (ahead-is b taken))
            (subst (λ (e : Option E). Holds (at s.tasks i).own (piece_touches (leading (ahead j i)) e) (uses_of lent)) (sym (test-is e asks))
            (claim-holds j w p.working i p.known p.can worker (lease_of lent) held in-order (ap lease_of worth-now) cells owned l.lengths l.worth l.out groups-now));
        inputs = worth-now;
        out = l.out;
        groups = groups-now;
        stored = l.stored;
        lengths = l.lengths;
        worth = l.worth;
        now = refl;
      };
    }
