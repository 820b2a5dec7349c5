-- Each touch of a piece may be made on what it holds.
use Rattle.std.proofs.Common.{◌≡◌, ◌≢◌, ◌<◌, ℕ, zero, suc, ◌+◌, Bool, true, false, List, [], ◌∷◌, ◌++◌, map, refl, sym, ap, subst, ◌∙◌, inl, inr, arith, true≢false, Option, Some, None, IsSome, cond, option_map, if◌then◌else◌, fold, find, ◌%◌}
use Rattle.ot_job.proofs.Common.{false_from_ne_true, range_with_len, E, Literal, CellAt, Apply, PickFrom, Set, Fold, Body, End, Next, NamedIn, ValueNamedIn, cell_at, HasAll, cells_named, Cell, Operation, Section, Mode, Reads, Writes, Folds, Use, use_as, touches, Declared, folds_to, same_cell, lent_from, copy_of, first_at, value_at, is_at, same_is, same_self, AreAssigns, CanAssign, mode_in, same_fold, assign_touches, held_mode, mode_noted, stronger, with_mode, mode_held, reads-append, EachRead, cases_Bool}
use Rattle.std.proofs.Math.Nat.{mod-lt, mod-eq_of_lt}
use Rattle.ot_owner.specs.Lending.{MayChange}
use Rattle.ot_job.proofs.HoldsLemmas.{Among}

-- what is held lets a touch in this mode be made
abbrev pub Covers : Option Mode → Mode → Type 0
Covers None m = ⊥
Covers (Some Reads) Reads = Unit {0}
Covers (Some Reads) m = ⊥
Covers (Some held_mode) m = Unit {0}

-- folds by one operation, or by two, cover any touch
two-folds : (o p : Operation) (w : Mode) → Covers (Some (stronger (Folds o) (Folds p))) w
two-folds o p w = by (same_fold o p)
  where
    by : (b : Bool) → Covers (Some (if b then Folds o else Writes)) w
    by true = tt
    by false = tt

grow : (o : Option Mode) (n w : Mode) → Covers o w → Covers (Some (with_mode o n)) w
grow None n w h = absurd h
grow (Some (Folds o)) (Folds p) w h = two-folds o p w
grow (Some Reads) Reads Reads h = tt
grow (Some Reads) n Writes h = absurd h
grow (Some Reads) n (Folds o) h = absurd h
grow (Some m) n w h = tt

itself : (o : Option Mode) (n : Mode) → Covers (Some (with_mode o n)) n
itself (Some (Folds o)) (Folds p) = two-folds o p (Folds p)
itself (Some Reads) Reads = tt
itself None Reads = tt
itself o n = tt

module _ (own : Declared) where
  stays : (c : Cell) (us : List Use) (o : Option Mode) (w : Mode) → Covers o w → Covers (fold (mode_noted own c) o us) w
  stays c [] o w h = h
  stays c (u ∷ us) o w h = stays c us (mode_noted own c o u) w (by (same_cell u.cell c) refl)
    where
      by : (b : Bool) → same_cell u.cell c ≡ b → Covers (if same_cell u.cell c then Some (with_mode o (mode_held own u)) else o) w
      by true e = rw e (grow o (mode_held own u) w h)
      by false e = rw e h

  pub covered : (us : List Use) (o : Option Mode) (u : Use) → Among u us → Covers (fold (mode_noted own u.cell) o us) (mode_held own u)
  covered [] o u h = absurd h
  covered (v ∷ us) o u (inl e) =
      stays u.cell us (mode_noted own u.cell o v) (mode_held own u)
      (rw (same_self v.cell u.cell (ap (λ (x : Use). x.cell) e)) (subst (λ (x : Use). Covers (Some (with_mode o (mode_held own v))) (mode_held own x)) e (itself o (mode_held own v))))
  covered (v ∷ us) o u (inr h) = covered us (mode_noted own u.cell o v) u h

-- ---- on the lent copies

pub flip : (c d : Cell) (b : Bool) → same_cell c d ≡ b → same_cell d c ≡ b
flip c d true e = same_self d c (sym (same_is c d e))
flip c d false e = false_from_ne_true (same_cell d c) (λ k. true≢false (sym (same_self c d (sym (same_is d c k))) ∙ e))

valued : (cells : List (List ℕ)) (d : List Use) (c : Cell) (w : Mode) → Covers (mode_in d c) w → IsSome (value_at (lent_from cells d) c)
valued cells [] c w h = absurd h
valued cells (u ∷ d) c w h = elim (cases_Bool (same_cell c u.cell)) [
  | inl e ↦ rw (flip c u.cell true e) refl
  | inr e ↦ rw (flip c u.cell false e) (valued cells d c w (rw e at h))
]

changes : (cells : List (List ℕ)) (d : List Use) (c : Cell) (w : Mode) → w ≢ Reads → Covers (mode_in d c) w → MayChange (lent_from cells d) c
changes cells [] c w other h = absurd h
changes cells (u ∷ d) c w other h = by (changes cells d c w other) (same_cell c u.cell) refl
  where
    writes : (m w : Mode) → w ≢ Reads → Covers (Some m) w → m ≢ Reads
    writes Reads Reads other h e = other refl
    writes Reads w other h e = absurd h
    writes m w other h e = cc

    by : (Covers (mode_in d c) w → MayChange (lent_from cells d) c) → (b : Bool) → same_cell c u.cell ≡ b → MayChange (lent_from cells (u ∷ d)) c
    by more true e = (0, copy_of cells u, omega arith, refl, (sym (same_is c u.cell e), writes u.mode w other (rw e at h)))
    by more false e = let g = more (rw e at h) in (suc g.0, g.1, omega (arith, g.2), g.3, g.4)

-- ---- a piece may be run on its copies

pub among-left : (u : Use) (us vs : List Use) → Among u us → Among u (us ++ vs)
among-left u [] vs h = absurd h
among-left u (v ∷ us) vs (inl e) = inl e
among-left u (v ∷ us) vs (inr h) = inr (among-left u us vs h)

pub among-right : (u : Use) (us vs : List Use) → Among u vs → Among u (us ++ vs)
among-right u [] vs h = h
among-right u (v ∷ us) vs h = inr (among-right u us vs h)

pub in-section : (s : Section) (a n k : ℕ) → k < n → Among (use_as Reads (cell_at s (a + k))) (map (use_as Reads) (map (cell_at s) (range_with_len a n)))
in-section s a zero k l = absurd (omega (arith, l))
in-section s a (suc n) zero l = let e : a ≡ a + 0 = omega arith in inl (ap (λ m. use_as Reads (cell_at s m)) e)
in-section s a (suc n) (suc k) l =
    let e : a + 1 + k ≡ a + suc k = omega arith in
    inr (subst (λ m. Among (use_as Reads (cell_at s m)) (map (use_as Reads) (map (cell_at s) (range_with_len (a + 1) n)))) e (in-section s (a + 1) n k (omega (arith, l))))

-- from each cell that is read in the list to each read of the term
pub read-from : (Q : Cell → Type 0) (lens : List ℕ) (e : E) → ValueNamedIn lens e → ((c : Cell) → Among (use_as Reads c) (map (use_as Reads) (cells_named e)) → Q c) → EachRead Q e
read-from Q lens (Literal n) h f = tt
read-from Q lens (CellAt c) h f = f c (inl refl)
read-from Q lens (Apply o a b) h f = (
  read-from Q lens a h.0 (λ c k. f c (subst (Among (use_as Reads c)) (sym (reads-append (cells_named a) (cells_named b))) (among-left (use_as Reads c) (map (use_as Reads) (cells_named a)) (map (use_as Reads) (cells_named b)) k))),
  read-from Q lens b h.1 (λ c k. f c (subst (Among (use_as Reads c)) (sym (reads-append (cells_named a) (cells_named b))) (among-right (use_as Reads c) (map (use_as Reads) (cells_named a)) (map (use_as Reads) (cells_named b)) k))),
)
read-from Q lens (PickFrom s e) h f =
    let cells = map (cell_at s) (range_with_len 0 s.len) in
    let back = λ (c : Cell). subst (Among (use_as Reads c)) (sym (reads-append cells (cells_named e))) in (
      (λ k.
          let l : k % s.len < s.len = mod-lt k h.0.some in
          let z : 0 + k % s.len ≡ k % s.len = omega arith in
          f (cell_at s (k % s.len)) (back (cell_at s (k % s.len)) (among-left (use_as Reads (cell_at s (k % s.len))) (map (use_as Reads) cells) (map (use_as Reads) (cells_named e))
          (subst (λ m. Among (use_as Reads (cell_at s m)) (map (use_as Reads) cells)) z (in-section s 0 s.len (k % s.len) l))))),
      read-from Q lens e h.1 (λ c k. f c (back c (among-right (use_as Reads c) (map (use_as Reads) cells) (map (use_as Reads) (cells_named e)) k))),
    )

all-read : (lens : List ℕ) (look : Cell → Option ℕ) (e : E) → ValueNamedIn lens e → EachRead (λ c. IsSome (look c)) e → HasAll look e
all-read lens look (Literal n) h r = tt
all-read lens look (CellAt c) h r = r
all-read lens look (Apply o a b) h r = (all-read lens look a h.0 r.0, all-read lens look b h.1 r.1)
all-read lens look (PickFrom s e) h r =
    (h.0.some, omega (arith, h.0.within, h.0.short), (λ k l. subst (λ m. IsSome (look (cell_at s m))) (mod-eq_of_lt l) (r.0 k)), all-read lens look e h.1 r.1)

value-all : (lens : List ℕ) (look : Cell → Option ℕ) (e : E) → ValueNamedIn lens e → ((c : Cell) → Among (use_as Reads c) (map (use_as Reads) (cells_named e)) → IsSome (look c)) → HasAll look e
value-all lens look e n f = all-read lens look e n (read-from (λ c. IsSome (look c)) lens e n f)

module _ (lens : List ℕ) (own : Declared) (cells : List (List ℕ)) (d : List Use) where
  abbrev Ready : List Use → Type 0
  Ready us = (u : Use) → Among u us → Covers (mode_in d u.cell) (mode_held own u)

  pub reads-ready : (e : E) (more : List Use) → ValueNamedIn lens e → Ready (map (use_as Reads) (cells_named e) ++ more) → HasAll (value_at (lent_from cells d)) e
  reads-ready e more n f = value-all lens (value_at (lent_from cells d)) e n (λ c k. valued cells d c Reads (f (use_as Reads c) (among-left (use_as Reads c) (map (use_as Reads) (cells_named e)) more k)))

  held-fold : (o : Operation) (c : Cell) → mode_held own (use_as (Folds o) c) ≢ Reads
  held-fold o c = by (folds_to own o c) refl
    where
      by : (b : Bool) → folds_to own o c ≡ b → mode_held own (use_as (Folds o) c) ≢ Reads
      by true e h = let k : Folds o ≡ Reads = (rw e at h) in cc
      by false e h = let k : Writes ≡ Reads = (rw e at h) in cc

  can-assign : (b : Body) → AreAssigns b → NamedIn lens b → Ready (assign_touches b) → CanAssign b (lent_from cells d)
  can-assign End only n f = tt
  can-assign (Next (Set c e) rest) only n f =
      let reads = map (use_as Reads) (cells_named e) in
      let first : Ready (touches (Set c e)) = λ u k. f u (among-left u (touches (Set c e)) (assign_touches rest) k) in (
        reads-ready e (use_as Writes c ∷ []) n.0.1 first,
        changes cells d c Writes (λ h. cc) (first (use_as Writes c) (among-right (use_as Writes c) reads (use_as Writes c ∷ []) (inl refl))),
        can-assign rest only n.1 (λ u k. f u (among-right u (touches (Set c e)) (assign_touches rest) k)),
      )
  can-assign (Next (Fold op c e) rest) only n f =
      let reads = map (use_as Reads) (cells_named e) in
      let first : Ready (touches (Fold op c e)) = λ u k. f u (among-left u (touches (Fold op c e)) (assign_touches rest) k) in (
        reads-ready e (use_as (Folds op) c ∷ []) n.0.1 first,
        changes cells d c (mode_held own (use_as (Folds op) c)) (held-fold op c) (first (use_as (Folds op) c) (among-right (use_as (Folds op) c) reads (use_as (Folds op) c ∷ []) (inl refl))),
        can-assign rest only n.1 (λ u k. f u (among-right u (touches (Fold op c e)) (assign_touches rest) k)),
      )
  can-assign (Next x rest) only n f = absurd only

-- a piece that holds what its touches ask may make its assigns
pub piece-can : (lens : List ℕ) (own : Declared) (cells : List (List ℕ)) (d : List Use) (piece : Body) (more : List Use) → AreAssigns piece → NamedIn lens piece
    → ((c : Cell) → mode_in d c ≡ held_mode own (assign_touches piece ++ more) c) → CanAssign piece (lent_from cells d)
piece-can lens own cells d piece more only n modes =
    can-assign lens own cells d piece only n (λ u k. subst (λ o. Covers o (mode_held own u)) (sym (modes u.cell)) (covered own (assign_touches piece ++ more) None u (among-left u (assign_touches piece) more k)))

-- and its condition's cells are lent
pub piece-reads : (lens : List ℕ) (own : Declared) (cells : List (List ℕ)) (d : List Use) (piece : Body) (e : E) → ValueNamedIn lens e
    → ((c : Cell) → mode_in d c ≡ held_mode own (assign_touches piece ++ map (use_as Reads) (cells_named e)) c) → HasAll (value_at (lent_from cells d)) e
piece-reads lens own cells d piece e named modes =
    let all = assign_touches piece ++ map (use_as Reads) (cells_named e) in
    value-all lens (value_at (lent_from cells d)) e named
    (λ c k. valued cells d c Reads (subst (λ o. Covers o Reads) (sym (modes c)) (covered own all None (use_as Reads c) (among-right (use_as Reads c) (assign_touches piece) (map (use_as Reads) (cells_named e)) k))))

-- a copy begins as what it was lent with
pub lent-fresh : (cells : List (List ℕ)) (d : List Use) (c : Cell) → value_at (lent_from cells d) c ≡ first_at (lent_from cells d) c
lent-fresh cells [] c = refl
lent-fresh cells (u ∷ d) c = by (same_cell u.cell c) (lent-fresh cells d c)
  where
    by : (b : Bool) → value_at (lent_from cells d) c ≡ first_at (lent_from cells d) c
        → option_map (λ l. l.value) (cond b (Some (copy_of cells u)) (find (is_at c) (lent_from cells d))) ≡ option_map (λ l. l.first) (cond b (Some (copy_of cells u)) (find (is_at c) (lent_from cells d)))
    by true more = refl
    by false more = more
