-- A piece that is claimed may be run on its copies.
use Rattle.std.proofs.Common.{◌≡◌, ℕ, Bool, true, false, cond, List, [], ◌∷◌, map, refl, sym, ap, subst, ◌∙◌, inl, Option, Some, None, option_map, if◌then◌else◌, find, IfSome, IsSome}
use Rattle.ot_job.proofs.Common.{E, Set, Fold, If, Body, End, Next, append, NamedIn, ValueNamedIn, cells_named, same_cell, mode_in, Cell, Operation, Mode, Reads, Writes, Folds, Use, use_as, touches, Declared, Openings, allows, folds_to, EachRead, EachTouch, Children, IsFine, AreAssigns, NotDeclared, is_at, uses_of, LentCell, IsRight, OnlyFolds, test_of, assign_touches, test_touches, piece_touches, held_mode, held_as, mode_held, not_false, HasAll, lengths, lent_from, first_at, value_at, CanAssign, CanRun, Region, at, leading, after_parts, awake, AreHeld, Live, IsOnCourse, Lease, lease_of, use_of, Look, copies_assigned}
use Rattle.ot_check.proofs.Cited.{one_op}
use Rattle.ot_job_task.proofs.AssignLemmas.{all-kept, assigned-same}
use Rattle.ot_job.proofs.CopiesLemmas.{Lets, LetsMode, mode_at}
use Rattle.ot_job.proofs.CoverLemmas.{read-from, Covers, covered, flip, among-left, among-right, piece-can, piece-reads, lent-fresh}
use Rattle.ot_job.proofs.FoldLemmas.{held-alike, only-unread, only-unwritten}
use Rattle.ot_job.proofs.RightsLemmas.{piece-safe, named-half, named-back}
use Rattle.ot_job.proofs.HoldsLemmas.{Among, held-right}
use Rattle.ot_job.proofs.WholeLemmas.{whole-again}
use Rattle.ot_job.proofs.WellLemmas.{leading-assigns, named-awake}

-- ---- the copies that a piece was lent let each of its touches be made as it is meant: what is read is no fold, what is written is lent to be written

-- ---- from each touch in the list to each touch of the body

touch-from : (P : Use → Type 0) (lens : List ℕ) (b : Body) → AreAssigns b → NamedIn lens b → ((u : Use) → Among u (assign_touches b) → P u) → EachTouch P b
touch-from P lens End only n f = tt
touch-from P lens (Next (Set c e) rest) only n f =
    let reads = map (use_as Reads) (cells_named e) in
    let first : (u : Use) → Among u (touches (Set c e)) → P u = λ u k. f u (among-left u (touches (Set c e)) (assign_touches rest) k) in (
      (
        read-from (λ d. P (use_as Reads d)) lens e n.0.1 (λ d k. first (use_as Reads d) (among-left (use_as Reads d) reads (use_as Writes c ∷ []) k)),
        first (use_as Writes c) (among-right (use_as Writes c) reads (use_as Writes c ∷ []) (inl refl)),
      ),
      touch-from P lens rest only n.1 (λ u k. f u (among-right u (touches (Set c e)) (assign_touches rest) k)),
    )
touch-from P lens (Next (Fold op c e) rest) only n f =
    let reads = map (use_as Reads) (cells_named e) in
    let first : (u : Use) → Among u (touches (Fold op c e)) → P u = λ u k. f u (among-left u (touches (Fold op c e)) (assign_touches rest) k) in (
      (
        read-from (λ d. P (use_as Reads d)) lens e n.0.1 (λ d k. first (use_as Reads d) (among-left (use_as Reads d) reads (use_as (Folds op) c ∷ []) k)),
        first (use_as (Folds op) c) (among-right (use_as (Folds op) c) reads (use_as (Folds op) c ∷ []) (inl refl)),
      ),
      touch-from P lens rest only n.1 (λ u k. f u (among-right u (touches (Fold op c e)) (assign_touches rest) k)),
    )
touch-from P lens (Next x rest) only n f = absurd only

-- ---- the mode of a copy

pub mode-lent : (lent : List LentCell) (c : Cell) → mode_at lent c ≡ mode_in (uses_of lent) c
mode-lent [] c = refl
mode-lent (l ∷ lent) c = by (same_cell c l.cell) refl (mode-lent lent c)
  where
    by : (b : Bool) → same_cell c l.cell ≡ b → mode_at lent c ≡ mode_in (uses_of lent) c
        → option_map (λ x. x.mode) (cond (same_cell l.cell c) (Some l) (find (is_at c) lent)) ≡ (if same_cell c l.cell then Some l.mode else mode_in (uses_of lent) c)
    by true e more = rw (e, flip c l.cell true e) refl
    by false e more = rw (e, flip c l.cell false e) more

module _ (lens : List ℕ) (own : Declared) (opened : Openings) (children : Children) (piece rest : Body) (only : AreAssigns piece) (named : NamedIn lens (append piece rest))
    (fine : IsFine own opened children (append piece rest)) (exclusive : (o : Operation) (c : Cell) → folds_to own o c ≡ true → OnlyFolds o own c)
    (lent : List LentCell) (modes : (c : Cell) → mode_in (uses_of lent) c ≡ held_mode own (piece_touches piece (test_of rest)) c) where
  abbrev all : List Use
  all = piece_touches piece (test_of rest)

  may : (u : Use) → Among u all → allows own u ≡ true
  may u k = not_false (allows own u) (piece-safe lens own opened children piece rest only named fine u k NotDeclared)

  lets : (u : Use) → Among u all → Lets (mode_at lent) u
  lets u k =
      subst (LetsMode u.mode) (sym (mode-lent lent u.cell ∙ modes u.cell))
      (by u.mode refl (held_mode own all u.cell) (covered own all None u k) (held-right own u.cell (held-alike own u.cell (λ o. exclusive o u.cell)) all))
    where
      reads : u.mode ≡ Reads → allows own (use_as Reads u.cell) ≡ true
      reads e = subst (λ m. allows own (use_as m u.cell) ≡ true) e (may u k)

      writes : u.mode ≡ Writes → allows own (use_as Writes u.cell) ≡ true
      writes e = subst (λ m. allows own (use_as m u.cell) ≡ true) e (may u k)

      held-writes : u.mode ≡ Writes → mode_held own u ≡ Writes
      held-writes e = ap (held_as own u.cell) e

      -- a fold is held as what the body declares, or as a write
      held-fold : (o : Operation) → u.mode ≡ Folds o → Covers (Some Reads) (mode_held own u) → ⊥
      held-fold o e h = bit (folds_to own o u.cell) (subst (Covers (Some Reads)) (ap (held_as own u.cell) e) h)
        where
          bit : (b : Bool) → Covers (Some Reads) (if b then Folds o else Writes) → ⊥
          bit true h = h
          bit false h = h

      by : (m : Mode) → u.mode ≡ m → (o : Option Mode) → Covers o (mode_held own u) → ((n : Mode) → o ≡ Some n → IsRight own (λ v. Among v all) (use_as n u.cell)) → LetsMode m o
      by m e None h right = absurd h
      by Reads e (Some Reads) h right = tt
      by Reads e (Some Writes) h right = tt
      by Reads e (Some (Folds o)) h right = absurd (only-unread o own u.cell (exclusive o u.cell (right (Folds o) refl).1) (reads e))
      by Writes e (Some Reads) h right = subst (Covers (Some Reads)) (held-writes e) h
      by Writes e (Some Writes) h right = tt
      by Writes e (Some (Folds o)) h right = absurd (only-unwritten o own u.cell (exclusive o u.cell (right (Folds o) refl).1) (writes e))
      by (Folds p) e (Some Reads) h right = absurd (held-fold p e h)
      by (Folds p) e (Some Writes) h right = tt
      by (Folds p) e (Some (Folds o)) h right = one_op p o (sym e ∙ exclusive o u.cell (right (Folds o) refl).1 u.mode (may u k))

  -- the assigns
  pub lets-piece : EachTouch (Lets (mode_at lent)) piece
  lets-piece = touch-from (Lets (mode_at lent)) lens piece only (named-half lens piece rest named) (λ u k. lets u (among-left u (assign_touches piece) (test_touches (test_of rest)) k))

  -- the condition
  pub lets-test : (e : E) → test_of rest ≡ Some e → EachRead (λ c. Lets (mode_at lent) (use_as Reads c)) e
  lets-test e is =
      read-from (λ c. Lets (mode_at lent) (use_as Reads c)) lens e (value-named rest is (named-back lens piece rest named))
      (λ c k. lets (use_as Reads c) (among-right (use_as Reads c) (assign_touches piece) (test_touches (test_of rest)) (subst (λ o. Among (use_as Reads c) (test_touches o)) (sym is) k)))
    where
      value-named : (b : Body) → test_of b ≡ Some e → NamedIn lens b → ValueNamedIn lens e
      value-named (Next (If x a b) r) is n = let same : x ≡ e = cc in subst (ValueNamedIn lens) same n.0.0
      value-named b is n = cc

-- ---- a piece that is claimed may be run on its copies

module _ (j : Live) (o : IsOnCourse j) (i : ℕ) (lent : List LentCell) (are : AreHeld (at j.regions i) (uses_of lent)) (cells : List (List ℕ)) (inputs : lent ≡ lent_from cells (uses_of lent)) where
  abbrev r : Region
  r = at j.regions i

  abbrev ahead : Body
  ahead = (awake r).rest

  named : NamedIn (lengths j.cells) (append (leading ahead) (after_parts ahead))
  named = subst (NamedIn (lengths j.cells)) (sym (whole-again ahead)) (named-awake j o i)

  readable : (b : Body) → NamedIn (lengths j.cells) b → ((c : Cell) → mode_in (uses_of lent) c ≡ held_mode r.own (piece_touches (leading ahead) (test_of b)) c)
      → IfSome (test_of b) (λ e. HasAll (value_at (lent_from cells (uses_of lent))) e)
  readable (Next (If e a b) rest) n modes = piece-reads (lengths j.cells) r.own cells (uses_of lent) (leading ahead) e n.0.0 modes
  readable b n modes = tt

  pub claim-can : CanRun (leading ahead) (test_of (after_parts ahead)) lent
  claim-can = record {
    assignable = subst (CanAssign (leading ahead)) (sym inputs)
        (piece-can (lengths j.cells) r.own cells (uses_of lent) (leading ahead) (test_touches (test_of (after_parts ahead))) (leading-assigns ahead) (named-half (lengths j.cells) (leading ahead) (after_parts ahead) named) are);
    readable = subst (λ (l : List LentCell). IfSome (test_of (after_parts ahead)) (λ e. HasAll (value_at l) e)) (sym inputs)
        (readable (after_parts ahead) (named-back (lengths j.cells) (leading ahead) (after_parts ahead) named) are);
    fresh = λ c. subst (λ (l : List LentCell). value_at l c ≡ first_at l c) (sym inputs) (lent-fresh cells (uses_of lent) c);
  }

-- ---- a piece is run

pub readable-still : {A B : Type 0} (now : A → B) (r : Option A) (o : Option B) (view : B → E) (look after : Look) → option_map now r ≡ o
    → ((c : Cell) → IsSome (look c) → IsSome (after c)) → IfSome (option_map view o) (λ e. HasAll look e) → IfSome r (λ e. HasAll after (view (now e)))
readable-still now None o view look after is kept h = tt
readable-still now (Some a) o view look after is kept h = all-kept look after (view (now a)) kept (subst (λ x. IfSome (option_map view x) (λ e. HasAll look e)) (sym is) h)

pub through : {A B C : Type 0} (now : A → B) (f : B → C) (r : Option A) (o : Option B) → option_map now r ≡ o → option_map (λ a. f (now a)) r ≡ option_map f o
through now f None o is = ap (option_map f) is
through now f (Some a) o is = ap (option_map f) is

-- what copies were lent with stays
firsts-kept : (now lent : List LentCell) (c : Cell) → uses_of now ≡ uses_of lent → map (λ l. l.first) now ≡ map (λ l. l.first) lent → first_at now c ≡ first_at lent c
firsts-kept [] [] c uses firsts = refl
firsts-kept [] (y ∷ lent) c uses firsts = cc
firsts-kept (x ∷ now) [] c uses firsts = cc
firsts-kept (x ∷ now) (y ∷ lent) c uses firsts =
    let one : use_of x ≡ use_of y = cc in
    let more : uses_of now ≡ uses_of lent = cc in
    let first : x.first ≡ y.first = cc in
    let later : map (λ l. l.first) now ≡ map (λ l. l.first) lent = cc in
    ap (λ (u : Use). option_map (λ l. l.first) (cond (same_cell u.cell c) (Some x) (find (is_at c) now))) one
    ∙ by (same_cell y.cell c) first (firsts-kept now lent c more later)
  where
    by : (b : Bool) → x.first ≡ y.first → first_at now c ≡ first_at lent c
        → option_map (λ l. l.first) (cond b (Some x) (find (is_at c) now)) ≡ option_map (λ l. l.first) (cond b (Some y) (find (is_at c) lent))
    by true first more = ap Some first
    by false first more = more

-- what the assigns make of the inputs
pub made-of : (b : Body) (lent now : List LentCell) → lease_of now ≡ lease_of lent → ((c : Cell) → value_at lent c ≡ first_at lent c)
    → ((c : Cell) → value_at now c ≡ copies_assigned b (value_at lent) c) → (c : Cell) → value_at now c ≡ copies_assigned b (first_at now) c
made-of b lent now same fresh made c =
    made c ∙ assigned-same b (value_at lent) (first_at now)
    (λ d. fresh d ∙ sym (firsts-kept now lent d (ap (λ (l : Lease). l.uses) same) (ap (λ (l : Lease). l.firsts) same))) c
