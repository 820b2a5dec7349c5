-- What was collected of a cell is what the clauses naming it ask for.
use Rattle.std.proofs.Common.{◌≡◌, ℕ, Bool, true, false, cond, ◌&&◌, ◌||◌, List, [], ◌∷◌, map, Option, Some, None, nat_eq, refl, sym, ap, subst, ◌∙◌, arith, inl, inr}
use Rattle.std.specs.Prelude.{not, is_some, unwrap_or}
use Rattle.std.specs.List.{list_any, fold}
use Rattle.std.specs.Map.{lookup}
use Rattle.std.specs.Option.{option_or}
use Rattle.std.specs.BTreeMap.{insert_entry, is_at}
use Rattle.std.specs.Ordering.{is_eq, nat_cmp, ordering_then, match_ordering}
use Rattle.std.specs.Cmp.{nat_cmp_is}
use Rattle.std.specs.declared.cmp.Ordering.{Ordering}
use Rattle.std.specs.declared.cmp.Ordering.TheVariants.{Less, Equal, Greater}
use Rattle.std.proofs.lemmas.Bool.{cases_lt}
use Rattle.std.proofs.lemmas.Bool.Decides.{eqb_tells}
use Rattle.ot_model.specs.declared.expr.Cell.{Cell}
use Rattle.ot_model.specs.declared.fold.Fold.{Fold}
use Rattle.ot_model.specs.declared.fold.Fold.TheVariants.{Plus}
use Rattle.ot_model.specs.declared.stmt.Mode.{Mode}
use Rattle.ot_model.specs.declared.stmt.Mode.TheVariants.{Reads, Writes, Folds}
use Rattle.ot_model.specs.Cells.{same_cell, is_fold, same_fold, same_mode}
use Rattle.ot_model.specs.Tree.{cells_of}
use Rattle.ot_model.proofs.EqualLemmas.{fold-decides}
use Rattle.ot_program.specs.Meanings.{names, named_as, operation_in, first_fold, mode_among, named_otherwise, is_mixed, Clause}
use Rattle.ot_program.specs.walk.Namings.{cell_order, Named, together, with_mode, name_cell, name_clause}
use Rattle.ot_program.proofs.Coded.{code_clause}

-- ---- keys

same : ℕ × ℕ → ℕ × ℕ → Bool
same q k = nat_eq q.0 k.0 && nat_eq q.1 k.1

eq_is : (a b : ℕ) → is_eq (nat_cmp a b) ≡ nat_eq a b
eq_is a b =
    elim (eqb_tells a b) [
      | inl h ↦ ap is_eq (sym (nat_cmp_is a b Equal h.1)) ∙ sym h.0
      | inr h ↦ elim (cases_lt a b) [
        | inl lt ↦ ap is_eq (sym (nat_cmp_is a b Less lt)) ∙ sym h.0
        | inr ge ↦ elim (cases_lt b a) [
          | inl gt ↦ ap is_eq (sym (nat_cmp_is a b Greater gt)) ∙ sym h.0
          | inr le ↦ absurd (h.1 (omega arith))
        ]
      ]
    ]

then_is : (o p : Ordering) → is_eq (ordering_then o p) ≡ is_eq o && is_eq p
then_is Less p = refl
then_is Equal p = refl
then_is Greater p = refl

at_is : (q k : ℕ × ℕ) → is_at (cell_order q) k ≡ same q k
unfolding same
at_is q k =
    then_is (nat_cmp q.0 k.0) (nat_cmp q.1 k.1)
    ∙ ap (λ (b : Bool). b && is_eq (nat_cmp q.1 k.1)) (eq_is q.0 k.0)
    ∙ ap (λ (b : Bool). nat_eq q.0 k.0 && b) (eq_is q.1 k.1)

both_true : (a b : Bool) → a && b ≡ true → (a ≡ true) × (b ≡ true)
both_true true b h = (refl, h)
both_true false b h = absurd cc

eq_from : (a b : ℕ) → nat_eq a b ≡ true → a ≡ b
eq_from a b h = elim (eqb_tells a b) [ inl k ↦ k.1 | inr k ↦ absurd (let e : true ≡ false = sym h ∙ k.0 in cc) ]

eq_refl : (a : ℕ) → nat_eq a a ≡ true
eq_refl a = elim (eqb_tells a a) [ inl k ↦ k.0 | inr k ↦ absurd (k.1 refl) ]

pair_eq : (q k : ℕ × ℕ) → q.0 ≡ k.0 → q.1 ≡ k.1 → q ≡ k
pair_eq (a, b) (c, d) one two = ap (λ (x : ℕ). (x, b)) one ∙ ap (λ (y : ℕ). (c, y)) two

pub same_keys : (q k : ℕ × ℕ) → nat_eq q.0 k.0 && nat_eq q.1 k.1 ≡ true → q ≡ k
same_keys q k h = let t = both_true (nat_eq q.0 k.0) (nat_eq q.1 k.1) h in pair_eq q k (eq_from q.0 k.0 t.0) (eq_from q.1 k.1 t.1)

pub same_from : (q k : ℕ × ℕ) → is_at (cell_order q) k ≡ true → q ≡ k
unfolding same
same_from q k h = same_keys q k (sym (at_is q k) ∙ h)

pub keys_same : (q k : ℕ × ℕ) → q ≡ k → nat_eq q.0 k.0 && nat_eq q.1 k.1 ≡ true
keys_same q k h = subst (λ (j : ℕ × ℕ). nat_eq q.0 j.0 && nat_eq q.1 j.1 ≡ true) h (rw (eq_refl q.0, eq_refl q.1) refl)

pub at_itself : (q : ℕ × ℕ) → is_at (cell_order q) q ≡ true
unfolding same
at_itself q = at_is q q ∙ rw (eq_refl q.0, eq_refl q.1) refl

-- ---- one naming more

unfoldable pub mode_at : ℕ × ℕ → Named → Option (Option Mode)
mode_at q named = lookup (is_at (cell_order q)) named

swallow : {A : Type 0} (b : Bool) (x y z : A) → cond b x z ≡ cond b x (cond b y z)
swallow true x y z = refl
swallow false x y z = refl

commute : {A : Type 0} (b c : Bool) (x y z : A) → (b ≡ true → c ≡ true → ⊥) → cond b x (cond c y z) ≡ cond c y (cond b x z)
commute true true x y z h = absurd (h refl refl)
commute true false x y z h = refl
commute false true x y z h = refl
commute false false x y z h = refl

insert_by : (q k : ℕ × ℕ) (v : Option Mode) (e : (ℕ × ℕ) × Option Mode) (es : Named) (r : Ordering) → cell_order k e.0 ≡ r
    → mode_at q (insert_entry cell_order es k v) ≡ cond (is_at (cell_order q) k) (Some v) (mode_at q es)
    → mode_at q (match_ordering r ((k, v) ∷ e ∷ es) ((e.0, v) ∷ es) (e ∷ insert_entry cell_order es k v))
    ≡ cond (is_at (cell_order q) k) (Some v) (mode_at q (e ∷ es))
unfolding mode_at
insert_by q k v e es Less is h = refl
insert_by q k v e es Equal is h =
    let keys = same_from k e.0 (ap is_eq is) in
    swallow (is_at (cell_order q) e.0) (Some v) (Some e.1) (lookup (is_at (cell_order q)) es)
    ∙ ap (λ (j : ℕ × ℕ). cond (is_at (cell_order q) j) (Some v) (cond (is_at (cell_order q) e.0) (Some e.1) (lookup (is_at (cell_order q)) es))) (sym keys)
insert_by q k v e es Greater is h =
    ap (λ (o : Option (Option Mode)). cond (is_at (cell_order q) e.0) (Some e.1) o) h
    ∙ commute (is_at (cell_order q) e.0) (is_at (cell_order q) k) (Some e.1) (Some v) (lookup (is_at (cell_order q)) es)
    (λ a b.
    let keys : k ≡ e.0 = sym (same_from q k b) ∙ same_from q e.0 a in
    let equal = at_itself k in
    let differ : is_at (cell_order k) e.0 ≡ false = ap is_eq is in
    let e : true ≡ false = sym equal ∙ ap (λ (j : ℕ × ℕ). is_at (cell_order k) j) keys ∙ differ in
    cc)

insert_at : (q k : ℕ × ℕ) (v : Option Mode) (es : Named)
    → mode_at q (insert_entry cell_order es k v) ≡ cond (is_at (cell_order q) k) (Some v) (mode_at q es)
unfolding mode_at
insert_at q k v [] = refl
insert_at q k v (e ∷ es) = insert_by q k v e es (cell_order k e.0) refl (insert_at q k v es)

-- ---- all cells of a clause

abbrev pub key : Cell → ℕ × ℕ
key c = (c.array, c.index)

again_by : (a b : Fold) (same : Bool) → same_fold a b ≡ same → together (cond same (Some (Folds a)) None) (Folds b) ≡ cond same (Some (Folds a)) None
again_by a b true is = rw is refl
again_by a b false is = refl

pub again : (s : Option (Option Mode)) (m : Mode) → with_mode (Some (with_mode s m)) m ≡ with_mode s m
again None Reads = refl
again None Writes = refl
again None (Folds op) = rw ((fold-decides op op).1 refl) refl
again (Some None) m = refl
again (Some (Some Reads)) Reads = refl
again (Some (Some Reads)) Writes = refl
again (Some (Some Reads)) (Folds op) = refl
again (Some (Some Writes)) Reads = refl
again (Some (Some Writes)) Writes = refl
again (Some (Some Writes)) (Folds op) = refl
again (Some (Some (Folds a))) Reads = refl
again (Some (Some (Folds a))) Writes = refl
again (Some (Some (Folds a))) (Folds b) = again_by a b (same_fold a b) refl

cell_by : (b rest : Bool) (s : Option (Option Mode)) (m : Mode)
    → cond rest (Some (with_mode (cond b (Some (with_mode s m)) s) m)) (cond b (Some (with_mode s m)) s)
    ≡ cond (b || rest) (Some (with_mode s m)) s
cell_by true true s m = ap Some (again s m)
cell_by true false s m = refl
cell_by false rest s m = refl

cell_named : (q : Cell) (m : Mode) (named : Named) (c : Cell) (b : Bool) → same_cell q c ≡ b
    → mode_at (key q) (name_cell m named c) ≡ cond b (Some (with_mode (mode_at (key q) named) m)) (mode_at (key q) named)
unfolding mode_at same
cell_named q m named c true is =
    let at : is_at (cell_order (key q)) (key c) ≡ true = at_is (key q) (key c) ∙ is in
    let keys = same_from (key q) (key c) at in
    insert_at (key q) (key c) (with_mode (lookup (is_at (cell_order (key c))) named) m) named
    ∙ rw at refl ∙ ap (λ (k : ℕ × ℕ). Some (with_mode (lookup (is_at (cell_order k)) named) m)) (sym keys)
cell_named q m named c false is =
    let at : is_at (cell_order (key q)) (key c) ≡ false = at_is (key q) (key c) ∙ is in
    insert_at (key q) (key c) (with_mode (lookup (is_at (cell_order (key c))) named) m) named ∙ rw at refl

cells_named : (q : Cell) (m : Mode) (cells : List Cell) (named : Named)
    → mode_at (key q) (fold (name_cell m) named cells)
    ≡ cond (list_any (same_cell q) cells) (Some (with_mode (mode_at (key q) named) m)) (mode_at (key q) named)
cells_named q m [] named = refl
cells_named q m (c ∷ cs) named =
    cells_named q m cs (name_cell m named c)
    ∙ ap (λ (s : Option (Option Mode)). cond (list_any (same_cell q) cs) (Some (with_mode s m)) s) (cell_named q m named c (same_cell q c) refl)
    ∙ cell_by (same_cell q c) (list_any (same_cell q) cs) (mode_at (key q) named) m

-- ---- all clauses

-- what is collected of a cell, with the clauses that follow
abbrev pub after : Option (Option Mode) → List Clause → Cell → Option (Option Mode)
after s [] c = s
after s (k ∷ ks) c = after (cond (names c k) (Some (with_mode s k.mode)) s) ks c

pub clauses_named : (q : Cell) (clauses : List Clause) (named : Named)
    → mode_at (key q) (fold name_clause named (map code_clause clauses)) ≡ after (mode_at (key q) named) clauses q
clauses_named q [] named = refl
clauses_named q (c ∷ cs) named =
    clauses_named q cs (name_clause named (code_clause c))
    ∙ ap (λ (s : Option (Option Mode)). after s cs q) (cells_named q c.mode (cells_of c.section) named)

-- a cell that is mixed stays so
after_mixed : (c : Cell) (ks : List Clause) → after (Some None) ks c ≡ Some None
after_mixed c [] = refl
after_mixed c (k ∷ ks) = by (names c k) (after_mixed c ks)
  where
    by : (b : Bool) → after (Some None) ks c ≡ Some None → after (cond b (Some None) (Some None)) ks c ≡ Some None
    by true h = h
    by false h = h

-- ---- what it is after the first clause that names it

-- under `red` with an operation it is mixed where a clause names it otherwise
abbrev FoldKept : Fold → Cell → List Clause → Bool → Option (Option Mode) → Type 0
FoldKept op c ks other s = s ≡ cond (other || named_otherwise (Folds op) ks c) (Some None) (Some (Some (Folds op)))

fold_same : (op : Fold) (c : Cell) (ks : List Clause) (same : Bool) → FoldKept op c ks false (after (Some (Some (Folds op))) ks c)
    → FoldKept op c ks (not same) (after (Some (cond same (Some (Folds op)) None)) ks c)
fold_same op c ks true h = h
fold_same op c ks false h = after_mixed c ks

fold_by : (op : Fold) (c : Cell) (ks : List Clause) (b : Bool) (m : Mode) → FoldKept op c ks false (after (Some (Some (Folds op))) ks c)
    → FoldKept op c ks (b && not (same_mode (Folds op) m)) (after (cond b (Some (with_mode (Some (Some (Folds op))) m)) (Some (Some (Folds op)))) ks c)
fold_by op c ks false m h = h
fold_by op c ks true Reads h = after_mixed c ks
fold_by op c ks true Writes h = after_mixed c ks
fold_by op c ks true (Folds p) h = fold_same op c ks (same_fold op p) h

after_fold : (op : Fold) (c : Cell) (ks : List Clause) → FoldKept op c ks false (after (Some (Some (Folds op))) ks c)
after_fold op c [] = refl
after_fold op c (k ∷ ks) = fold_by op c ks (names c k) k.mode (after_fold op c ks)

-- written it is mixed where a clause folds it
abbrev WritesKept : Option Fold → Option (Option Mode) → Type 0
WritesKept f s = s ≡ cond (is_some f) (Some None) (Some (Some Writes))

writes_by : (c : Cell) (ks : List Clause) (b : Bool) (m : Mode) → WritesKept (first_fold ks c) (after (Some (Some Writes)) ks c)
    → WritesKept (cond b (option_or (operation_in m) (first_fold ks c)) (first_fold ks c)) (after (cond b (Some (with_mode (Some (Some Writes)) m)) (Some (Some Writes))) ks c)
writes_by c ks false m h = h
writes_by c ks true Reads h = h
writes_by c ks true Writes h = h
writes_by c ks true (Folds op) h = after_mixed c ks

after_writes : (c : Cell) (ks : List Clause) → WritesKept (first_fold ks c) (after (Some (Some Writes)) ks c)
after_writes c [] = refl
after_writes c (k ∷ ks) = writes_by c ks (names c k) k.mode (after_writes c ks)

-- read it is mixed where a clause folds it, and written where one writes it
abbrev ReadsKept : Option Fold → Bool → Option (Option Mode) → Type 0
ReadsKept f w s = s ≡ cond (is_some f) (Some None) (cond w (Some (Some Writes)) (Some (Some Reads)))

reads_by : (c : Cell) (ks : List Clause) (b : Bool) (m : Mode) → ReadsKept (first_fold ks c) (named_as Writes ks c) (after (Some (Some Reads)) ks c)
    → ReadsKept (cond b (option_or (operation_in m) (first_fold ks c)) (first_fold ks c)) ((b && same_mode Writes m) || named_as Writes ks c)
    (after (cond b (Some (with_mode (Some (Some Reads)) m)) (Some (Some Reads))) ks c)
reads_by c ks false m h = h
reads_by c ks true Reads h = h
reads_by c ks true Writes h = after_writes c ks
reads_by c ks true (Folds op) h = after_mixed c ks

after_reads : (c : Cell) (ks : List Clause) → ReadsKept (first_fold ks c) (named_as Writes ks c) (after (Some (Some Reads)) ks c)
after_reads c [] = refl
after_reads c (k ∷ ks) = reads_by c ks (names c k) k.mode (after_reads c ks)

-- ---- what is told of it

-- that it is mixed, or its mode
abbrev pub Told : Bool → Mode → Option Mode → Type 0
Told mixed mode None = mixed ≡ true
Told mixed mode (Some m) = (mixed ≡ false) × (m ≡ mode)

told_reads : (f : Option Fold) (w : Bool) (v : Option Mode) → ReadsKept f w (Some v) → Told (is_some f && true) (cond w Writes Reads) v
told_reads None w None h = absurd (none_is_some w h)
  where
    none_is_some : (w : Bool) → Some None ≡ cond w (Some (Some Writes)) (Some (Some Reads)) → ⊥
    none_is_some true h = cc
    none_is_some false h = cc
told_reads None true (Some m) h = (refl, cc)
told_reads None false (Some m) h = (refl, cc)
told_reads (Some op) w None h = refl
told_reads (Some op) w (Some m) h = absurd cc

told_writes : (f : Option Fold) (v : Option Mode) → WritesKept f (Some v) → Told (is_some f && true) Writes v
told_writes None None h = absurd cc
told_writes None (Some m) h = (refl, cc)
told_writes (Some op) None h = refl
told_writes (Some op) (Some m) h = absurd cc

told_folds : (op : Fold) (other w r : Bool) (v : Option Mode) → (other ≡ false → w ≡ false) → (other ≡ false → r ≡ false)
    → Some v ≡ cond other (Some None) (Some (Some (Folds op))) → Told other (cond w Writes (cond r Reads (Folds op))) v
told_folds op true w r None k l h = refl
told_folds op true w r (Some m) k l h = absurd cc
told_folds op false w r None k l h = absurd cc
told_folds op false w r (Some m) k l h = rw (k refl, l refl) (refl, cc)

or_first : (a b : Bool) → a || b ≡ false → a ≡ false
or_first true b h = h
or_first false b h = refl

or_second : (a b : Bool) → a || b ≡ false → b ≡ false
or_second true b h = absurd cc
or_second false b h = h

none_of : (test weaker : Clause → Bool) (ks : List Clause) → ((k : Clause) → test k ≡ false → weaker k ≡ false)
    → list_any test ks ≡ false → list_any weaker ks ≡ false
none_of test weaker [] each h = refl
none_of test weaker (k ∷ ks) each h =
    rw (each k (or_first (test k) (list_any test ks) h)) (none_of test weaker ks each (or_second (test k) (list_any test ks) h))

not_written : (op : Fold) (b : Bool) (m : Mode) → b && not (same_mode (Folds op) m) ≡ false → b && same_mode Writes m ≡ false
not_written op false m h = refl
not_written op true Reads h = refl
not_written op true Writes h = h
not_written op true (Folds p) h = refl

not_read : (op : Fold) (b : Bool) (m : Mode) → b && not (same_mode (Folds op) m) ≡ false → b && same_mode Reads m ≡ false
not_read op false m h = refl
not_read op true Reads h = h
not_read op true Writes h = refl
not_read op true (Folds p) h = refl

-- mixed, by the first clause that folds it
abbrev mixed_by : Option Fold → List Clause → Cell → Bool
mixed_by f ks c = is_some f && named_otherwise (Folds (unwrap_or f Plus)) ks c

told_by : (c : Cell) (ks : List Clause) (b : Bool) (m : Mode) (v : Option Mode)
    → (Some v ≡ after None ks c → Told (mixed_by (first_fold ks c) ks c) (mode_among ks c) v)
    → Some v ≡ after (cond b (Some (with_mode None m)) None) ks c
    → let f = cond b (option_or (operation_in m) (first_fold ks c)) (first_fold ks c) in
    let op = unwrap_or f Plus in
    Told (is_some f && ((b && not (same_mode (Folds op) m)) || named_otherwise (Folds op) ks c))
    (cond ((b && same_mode Writes m) || named_as Writes ks c) Writes (cond ((b && same_mode Reads m) || named_as Reads ks c) Reads (Folds op))) v
told_by c ks false m v rest h = rest h
told_by c ks true Reads v rest h = told_reads (first_fold ks c) (named_as Writes ks c) v (h ∙ after_reads c ks)
told_by c ks true Writes v rest h = told_writes (first_fold ks c) v (h ∙ after_writes c ks)
told_by c ks true (Folds op) v rest h =
    rw ((fold-decides op op).1 refl)
    (told_folds op (named_otherwise (Folds op) ks c) (named_as Writes ks c) (named_as Reads ks c) v
    (none_of (λ k. names c k && not (same_mode (Folds op) k.mode)) (λ k. names c k && same_mode Writes k.mode) ks (λ k. not_written op (names c k) k.mode))
    (none_of (λ k. names c k && not (same_mode (Folds op) k.mode)) (λ k. names c k && same_mode Reads k.mode) ks (λ k. not_read op (names c k) k.mode))
    (h ∙ after_fold op c ks))

told_of : (c : Cell) (ks : List Clause) (v : Option Mode) → Some v ≡ after None ks c → Told (mixed_by (first_fold ks c) ks c) (mode_among ks c) v
told_of c [] v h = absurd cc
told_of c (k ∷ ks) v h = told_by c ks (names c k) k.mode v (told_of c ks v) h

-- ---- two clauses that differ are one that folds by the first operation and one that doesn't

abbrev some_fold : (Mode → Bool) → List Clause → Cell → Bool
some_fold test ks c = list_any (λ k. names c k && (is_fold k.mode && test k.mode)) ks

not_another : (test : Mode → Bool) (op : Fold) (b : Bool) (m : Mode) → test (Folds op) ≡ false → b && not (same_mode (Folds op) m) ≡ false
    → b && (is_fold m && test m) ≡ false
not_another test op false m none h = refl
not_another test op true Reads none h = refl
not_another test op true Writes none h = refl
not_another test op true (Folds p) none h = subst (λ (q : Fold). test (Folds q) ≡ false) ((fold-decides op p).0 (same (same_fold op p) h)) none
  where
    same : (b : Bool) → not b ≡ false → b ≡ true
    same true h = refl
    same false h = absurd cc

or_self : (a b : Bool) → (a ≡ false → b ≡ false) → a || b ≡ a
or_self true b h = refl
or_self false b h = h refl

first_by : (test : Mode → Bool) (c : Cell) (ks : List Clause) (b : Bool) (m : Mode)
    → (((op : Fold) → first_fold ks c ≡ Some op → test (Folds op) ≡ false → named_otherwise (Folds op) ks c ≡ false)
    → some_fold test ks c ≡ is_some (first_fold ks c) && test (Folds (unwrap_or (first_fold ks c) Plus)))
    → let f = cond b (option_or (operation_in m) (first_fold ks c)) (first_fold ks c) in
    ((op : Fold) → f ≡ Some op → test (Folds op) ≡ false → (b && not (same_mode (Folds op) m)) || named_otherwise (Folds op) ks c ≡ false)
    → (b && (is_fold m && test m)) || some_fold test ks c ≡ is_some f && test (Folds (unwrap_or f Plus))
first_by test c ks false m rest h = rest h
first_by test c ks true Reads rest h = rest (λ op is none. absurd (let e : true ≡ false = h op is none in cc))
first_by test c ks true Writes rest h = rest (λ op is none. absurd (let e : true ≡ false = h op is none in cc))
first_by test c ks true (Folds op) rest h =
    or_self (test (Folds op)) (some_fold test ks c)
    (λ none. none_of (λ k. names c k && not (same_mode (Folds op) k.mode)) (λ k. names c k && (is_fold k.mode && test k.mode)) ks
    (λ k. not_another test op (names c k) k.mode none)
    (or_second (not (same_fold op op)) (named_otherwise (Folds op) ks c) (h op refl none)))

first_is : (test : Mode → Bool) (c : Cell) (ks : List Clause)
    → ((op : Fold) → first_fold ks c ≡ Some op → test (Folds op) ≡ false → named_otherwise (Folds op) ks c ≡ false)
    → some_fold test ks c ≡ is_some (first_fold ks c) && test (Folds (unwrap_or (first_fold ks c) Plus))
first_is test c [] h = refl
first_is test c (k ∷ ks) h = first_by test c ks (names c k) k.mode (first_is test c ks) h

mixed_is : (c : Cell) (ks : List Clause) → is_mixed ks c ≡ mixed_by (first_fold ks c) ks c
mixed_is c ks = first_is (λ m. named_otherwise m ks c) c ks (λ op is none. none)

-- what is collected of a cell is what the clauses declare it as, or that it is mixed
pub declared_as : (c : Cell) (ks : List Clause) (v : Option Mode) → Some v ≡ after None ks c → Told (is_mixed ks c) (mode_among ks c) v
declared_as c ks v h = rw (mixed_is c ks) (told_of c ks v h)
