-- Bodies that are apart may be run in either order.
use Rattle.std.proofs.Common.{◌≡◌, ◌≢◌, ℕ, zero, suc, ◌%◌, Bool, true, false, not, subst, List, [], ◌∷◌, refl, sym, ap, ◌∙◌}
use Rattle.std.specs.Prelude.{◌==◌, if◌then◌else◌, Option, unwrap_or}
use Rattle.ot_model.specs.Tree.{E, Literal, CellAt, Apply, PickFrom, S, Set, Fold, If, Task, Wait, Group, Body, End, Next, val, cell_at, applied}
use Rattle.ot_model.specs.Cells.{cell_of, with_cell, updated, conflicts, same_fold}
use Rattle.ot_model.specs.Serial.{State, bump, change, either, serial, serial_one}
use Rattle.ot_model.specs.Joining.{join_by}
use Rattle.ot_model.specs.Monoids.{join-swap}
use Rattle.ot_model.specs.declared.fold.Fold.{Fold as Operation}
use Rattle.ot_model.proofs.EqualLemmas.{fold-decides}
use Rattle.ot_model.specs.declared.expr.Cell.{Cell}
use Rattle.ot_model.specs.declared.stmt.Mode.{Mode}
use Rattle.ot_model.specs.declared.stmt.Mode.TheVariants.{Reads, Writes, Folds}
use Rattle.ot_model.specs.declared.stmt.Use.{Use}
use Rattle.ot_check.specs.Offences.{use_as, EachRead, EachTouch, EachTouchOne, Agree, AreApart}
use Rattle.ot_model.proofs.CellsLemmas as model
use Rattle.ot_model.proofs.SerialLemmas.{either-ap, serial-bump}

-- ---- weaker

pub read-weaker : (P Q : Cell → Type 0) (e : E) → ((c : Cell) → P c → Q c) → EachRead P e → EachRead Q e
read-weaker P Q (Literal n) f h = h
read-weaker P Q (CellAt c) f h = f c h
read-weaker P Q (Apply o a b) f h = (read-weaker P Q a f h.0, read-weaker P Q b f h.1)
read-weaker P Q (PickFrom s e) f h = (λ k. f (cell_at s (k % s.len)) (h.0 k), read-weaker P Q e f h.1)

mutual
  touch_one-weaker : (P Q : Use → Type 0) (x : S) → ((u : Use) → P u → Q u) → EachTouchOne P x → EachTouchOne Q x
  touch_one-weaker P Q (Set c e) f h = (read-weaker (λ d. P (use_as Reads d)) (λ d. Q (use_as Reads d)) e (λ d. f (use_as Reads d)) h.0, f (use_as Writes c) h.1)
  touch_one-weaker P Q (Fold o c e) f h = (read-weaker (λ d. P (use_as Reads d)) (λ d. Q (use_as Reads d)) e (λ d. f (use_as Reads d)) h.0, f (use_as (Folds o) c) h.1)
  touch_one-weaker P Q (If e a b) f h =
      (read-weaker (λ d. P (use_as Reads d)) (λ d. Q (use_as Reads d)) e (λ d. f (use_as Reads d)) h.0, touch-weaker P Q a f h.1, touch-weaker P Q b f h.2)
  touch_one-weaker P Q (Task d b) f h = touch-weaker P Q b f h
  touch_one-weaker P Q (Wait w) f h = h
  touch_one-weaker P Q (Group o cs b) f h = touch-weaker P Q b f h

  pub touch-weaker : (P Q : Use → Type 0) (b : Body) → ((u : Use) → P u → Q u) → EachTouch P b → EachTouch Q b
  touch-weaker P Q End f h = h
  touch-weaker P Q (Next x rest) f h = (touch_one-weaker P Q x f h.0, touch-weaker P Q rest f h.1)

-- ---- cells

updated-swap : {X : Type 0} (xs : List X) (i j : ℕ) (f g : X → X) → (i ≡ j → (x : X) → g (f x) ≡ f (g x))
    → updated (updated xs i f) j g ≡ updated (updated xs j g) i f
updated-swap [] i j f g swap = refl
updated-swap (x ∷ xs) zero zero f g swap = ap (λ y. y ∷ xs) (swap refl x)
updated-swap (x ∷ xs) zero (suc j) f g swap = refl
updated-swap (x ∷ xs) (suc i) zero f g swap = refl
updated-swap (x ∷ xs) (suc i) (suc j) f g swap = ap (λ ys. x ∷ ys) (updated-swap xs i j f g (λ e. swap (ap suc e)))

with_cell-swap : (cells : List (List ℕ)) (c d : Cell) (f g : ℕ → ℕ) → (c ≡ d → (n : ℕ) → g (f n) ≡ f (g n))
    → with_cell (with_cell cells c f) d g ≡ with_cell (with_cell cells d g) c f
with_cell-swap cells c d f g swap =
    updated-swap cells c.array d.array (λ row. updated row c.index f) (λ row. updated row d.index g)
    (λ arrays row. updated-swap row c.index d.index f g (λ indices. swap (model.same_cell c d arrays indices)))

-- ---- values

pub value-same : (look other : Cell → Option ℕ) (e : E) → EachRead (λ c. look c ≡ other c) e → val look e ≡ val other e
value-same look other (Literal n) h = refl
value-same look other (CellAt c) h = ap (λ o. unwrap_or o 0) h
value-same look other (Apply o a b) h =
    ap (λ n. applied o n (val look b)) (value-same look other a h.0) ∙ ap (applied o (val other a)) (value-same look other b h.1)
value-same look other (PickFrom s e) h =
    ap (λ n. unwrap_or (look (cell_at s (n % s.len))) 0) (value-same look other e h.1) ∙ ap (λ o. unwrap_or o 0) (h.0 (val other e))

-- ---- counts

abbrev state-at : List (List ℕ) → ℕ → ℕ → State
state-at cells tasks units = record { cells = cells; tasks = tasks; units = units }

either-both : {A B : Type 0} (g : A → B) (n : ℕ) (one two : A) → g (either n one two) ≡ either n (g one) (g two)
either-both g n one two = sym (either-ap n one two g)

either-same : {A : Type 0} (n m : ℕ) (one two three four : A) → n ≡ m → one ≡ three → two ≡ four → either n one two ≡ either m three four
either-same n m one two three four p q r = ap (λ n. either n one two) p ∙ ap (λ x. either m x two) q ∙ ap (either m three) r

if-one : {A : Type 0} (b : Bool) (x : A) → (if b then x else x) ≡ x
if-one true x = refl
if-one false x = refl

either-one : {A : Type 0} (n : ℕ) (x : A) → either n x x ≡ x
either-one n x = if-one (n == 0) x

-- ---- what a body never writes stays

-- a use that leaves the cell as it is
abbrev Spares : Cell → Use → Type 0
Spares c u = u.cell ≡ c → u.mode ≡ Reads

spared : (c d : Cell) (m : Mode) → m ≢ Reads → Spares c (use_as m d) → d ≢ c
spared c d m no_read h e = no_read (h e)

writes_reads : Writes ≢ Reads
writes_reads e = cc

folds_reads : (o : Operation) → Folds o ≢ Reads
folds_reads o e = cc

mutual
  frame_one : (c : Cell) (x : S) (s : State) → EachTouchOne (Spares c) x → cell_of (serial_one x s).cells c ≡ cell_of s.cells c
  frame_one c (Set d e) s h = model.cell_of-with_cell-other s.cells d c (λ _. val (cell_of s.cells) e) (spared c d Writes writes_reads h.1)
  frame_one c (Fold o d e) s h = model.cell_of-with_cell-other s.cells d c (λ n. join_by o n (val (cell_of s.cells) e)) (spared c d (Folds o) (folds_reads o) h.1)
  frame_one c (If e p q) s h =
      either-both (λ t. cell_of t.cells c) (val (cell_of s.cells) e) (serial p (bump 0 1 s)) (serial q (bump 0 1 s))
      ∙ either-same (val (cell_of s.cells) e) (val (cell_of s.cells) e) _ _ (cell_of s.cells c) (cell_of s.cells c) refl (frame c p (bump 0 1 s) h.1) (frame c q (bump 0 1 s) h.2)
      ∙ either-one (val (cell_of s.cells) e) (cell_of s.cells c)
  frame_one c (Task d p) s h = frame c p (bump 1 1 s) h
  frame_one c (Wait w) s h = refl
  frame_one c (Group o cs p) s h = frame c p (bump 0 1 s) h

  frame : (c : Cell) (p : Body) (s : State) → EachTouch (Spares c) p → cell_of (serial p s).cells c ≡ cell_of s.cells c
  frame c End s h = refl
  frame c (Next x rest) s h = frame c rest (serial_one x s) h.1 ∙ frame_one c x s h.0

-- ---- a change commutes with a body that is apart from it

-- a use that a change of the cell commutes with
abbrev Commutes : Cell → (ℕ → ℕ) → Use → Type 0
Commutes c f u = u.cell ≡ c → (o : Operation) × (u.mode ≡ Folds o) × ((k n : ℕ) → f (join_by o n k) ≡ join_by o (f n) k)

reads_folds : (o : Operation) → Reads ≢ Folds o
reads_folds o e = cc

writes_folds : (o : Operation) → Writes ≢ Folds o
writes_folds o e = cc

-- the operation of a mode
op_of : Mode → Operation → Operation
op_of Reads other = other
op_of Writes other = other
op_of (Folds o) other = o

pub one_op : (o p : Operation) → Folds o ≡ Folds p → o ≡ p
unfolding op_of
one_op o p same = ap (λ m. op_of m o) same

read-elsewhere : (s : State) (c : Cell) (f : ℕ → ℕ) (e : E) → EachRead (λ d. Commutes c f (use_as Reads d)) e
    → val (cell_of (with_cell s.cells c f)) e ≡ val (cell_of s.cells) e
read-elsewhere s c f e h =
    value-same (cell_of (with_cell s.cells c f)) (cell_of s.cells) e
    (read-weaker (λ d. Commutes c f (use_as Reads d)) (λ d. cell_of (with_cell s.cells c f) d ≡ cell_of s.cells d) e
    (λ d g. model.cell_of-with_cell-other s.cells c d f (λ same. (let folds = g (sym same) in reads_folds folds.0 folds.1))) h)

change-swap : (s : State) (c d : Cell) (f g : ℕ → ℕ) → (c ≡ d → (n : ℕ) → g (f n) ≡ f (g n)) → change (change s c f) d g ≡ change (change s d g) c f
change-swap s c d f g swap = ap (λ cells. state-at cells s.tasks s.units) (with_cell-swap s.cells c d f g swap)

mutual
  change_one : (x : S) (s : State) (c : Cell) (f : ℕ → ℕ) → EachTouchOne (Commutes c f) x → serial_one x (change s c f) ≡ change (serial_one x s) c f
  change_one (Set d e) s c f h =
      ap (bump 0 1) (ap (λ n. change (change s c f) d (λ _. n)) (read-elsewhere s c f e h.0)
      ∙ change-swap s c d f (λ _. val (cell_of s.cells) e) (λ same. (let folds = h.1 (sym same) in absurd (writes_folds folds.0 folds.1))))
  change_one (Fold o d e) s c f h =
      ap (bump 0 1) (ap (λ v. change (change s c f) d (λ n. join_by o n v)) (read-elsewhere s c f e h.0)
      ∙ change-swap s c d f (λ n. join_by o n (val (cell_of s.cells) e)) (λ same n. let folds = h.1 (sym same) in
      sym (subst (λ p. f (join_by p n (val (cell_of s.cells) e)) ≡ join_by p (f n) (val (cell_of s.cells) e)) (sym (one_op o folds.0 folds.1)) (folds.2 (val (cell_of s.cells) e) n))))
  change_one (If e p q) s c f h =
      either-same (val (cell_of (with_cell s.cells c f)) e) (val (cell_of s.cells) e) _ _ _ _ (read-elsewhere s c f e h.0)
      (serial-change p (bump 0 1 s) c f h.1) (serial-change q (bump 0 1 s) c f h.2)
      ∙ sym (either-both (λ t. change t c f) (val (cell_of s.cells) e) (serial p (bump 0 1 s)) (serial q (bump 0 1 s)))
  change_one (Task d p) s c f h = serial-change p (bump 1 1 s) c f h
  change_one (Wait w) s c f h = refl
  change_one (Group o cs p) s c f h = serial-change p (bump 0 1 s) c f h

  serial-change : (p : Body) (s : State) (c : Cell) (f : ℕ → ℕ) → EachTouch (Commutes c f) p → serial p (change s c f) ≡ change (serial p s) c f
  serial-change End s c f h = refl
  serial-change (Next x rest) s c f h = ap (serial rest) (change_one x s c f h.0) ∙ serial-change rest (serial_one x s) c f h.1

-- ---- two bodies

pub conflicts_writes : (m : Mode) → conflicts Writes m ≡ false → ⊥
conflicts_writes Reads h = cc
conflicts_writes Writes h = cc
conflicts_writes (Folds o) h = cc

conflicts_reads : (m : Mode) → conflicts Reads m ≡ false → m ≡ Reads
conflicts_reads Reads h = refl
conflicts_reads Writes h = cc
conflicts_reads (Folds o) h = cc

pub conflicts_folds : (o : Operation) (m : Mode) → conflicts (Folds o) m ≡ false → m ≡ Folds o
conflicts_folds o Reads h = cc
conflicts_folds o Writes h = cc
conflicts_folds o (Folds p) h = ap Folds (sym ((fold-decides o p).0 (not_back (same_fold o p) h)))
  where
    not_back : (b : Bool) → not b ≡ false → b ≡ true
    not_back true h = refl
    not_back false h = cc

-- what a value reads is the same behind a body that is apart from the reading
pub read-behind : (s : State) (b : Body) (e : E) → EachRead (λ c. EachTouch (Agree (use_as Reads c)) b) e
    → val (cell_of s.cells) e ≡ val (cell_of (serial b s).cells) e
read-behind s b e h =
    value-same (cell_of s.cells) (cell_of (serial b s).cells) e
    (read-weaker (λ c. EachTouch (Agree (use_as Reads c)) b) (λ c. cell_of s.cells c ≡ cell_of (serial b s).cells c) e
    (λ c g. sym (frame c b s (touch-weaker (Agree (use_as Reads c)) (Spares c) b (λ u agree same. conflicts_reads u.mode (agree (sym same))) g))) h)

mutual
  apart_one : (x : S) (b : Body) (s : State) → EachTouchOne (λ u. EachTouch (Agree u) b) x → serial b (serial_one x s) ≡ serial_one x (serial b s)
  apart_one (Set c e) b s h =
      serial-bump b 0 1 (change s c (λ _. val (cell_of s.cells) e))
      ∙ ap (bump 0 1) (serial-change b s c (λ _. val (cell_of s.cells) e)
      (touch-weaker (Agree (use_as Writes c)) (Commutes c (λ _. val (cell_of s.cells) e)) b (λ u agree same. absurd (conflicts_writes u.mode (agree (sym same)))) h.1)
      ∙ ap (λ n. change (serial b s) c (λ _. n)) (read-behind s b e h.0))
  apart_one (Fold o c e) b s h =
      serial-bump b 0 1 (change s c (λ n. join_by o n (val (cell_of s.cells) e)))
      ∙ ap (bump 0 1) (serial-change b s c (λ n. join_by o n (val (cell_of s.cells) e))
      (touch-weaker (Agree (use_as (Folds o) c)) (Commutes c (λ n. join_by o n (val (cell_of s.cells) e))) b
      (λ u agree same. (o, conflicts_folds o u.mode (agree (sym same)), λ k n. join-swap o k (val (cell_of s.cells) e) n)) h.1)
      ∙ ap (λ v. change (serial b s) c (λ n. join_by o n v)) (read-behind s b e h.0))
  apart_one (If e p q) b s h =
      either-both (serial b) (val (cell_of s.cells) e) (serial p (bump 0 1 s)) (serial q (bump 0 1 s))
      ∙ either-same (val (cell_of s.cells) e) (val (cell_of (serial b s).cells) e) _ _ _ _ (read-behind s b e h.0)
      (apart p b (bump 0 1 s) h.1 ∙ ap (serial p) (serial-bump b 0 1 s)) (apart q b (bump 0 1 s) h.2 ∙ ap (serial q) (serial-bump b 0 1 s))
  apart_one (Task d p) b s h = apart p b (bump 1 1 s) h ∙ ap (serial p) (serial-bump b 1 1 s)
  apart_one (Wait w) b s h = serial-bump b 0 1 s
  apart_one (Group o cs p) b s h = apart p b (bump 0 1 s) h ∙ ap (serial p) (serial-bump b 0 1 s)

  pub apart : (a b : Body) (s : State) → AreApart a b → serial b (serial a s) ≡ serial a (serial b s)
  apart End b s h = refl
  apart (Next x rest) b s h = apart rest b (serial_one x s) h.1 ∙ ap (serial rest) (apart_one x b s h.0)
