-- A run and the way with its values have the same events, but for what picks read.
use Rattle.std.proofs.Common.{◌≡◌, ◌+◌, ◌%◌, ◌<◌, ℕ, zero, suc, List, [], ◌∷◌, ◌++◌, length, map, refl, sym, ap, subst, ◌∙◌, inl, inr, arith}
use Rattle.std.specs.Prelude.{◌==◌, if◌then◌else◌, Option, Some, None, Contains, unwrap_or}
use Rattle.std.proofs.lemmas.Bool.{cases_eq}
use Rattle.std.proofs.lemmas.Nat.{mod_below}
use Rattle.std.proofs.lemmas.List.Elements.{Contains-append_left, Contains-append_right, Contains-append_cases}
use Rattle.std.proofs.lemmas.List.FromFn.{length-map-range_with_len, get_or-map-range_with_len}
use Rattle.ot_model.specs.Tree.{E, Literal, CellAt, Apply, PickFrom, S, Set, Fold, If, Task, Wait, Group, Body, End, Next, size, size_one, val, cell_at, cells_of, cells_named}
use Rattle.ot_model.specs.Cells.{cell_of}
use Rattle.ot_model.specs.Names.{NamedIn, OneNamedIn, ValueNamedIn}
use Rattle.ot_model.specs.Serial.{State, bump, either}
use Rattle.ot_model.specs.declared.expr.Cell.{Cell}
use Rattle.ot_model.specs.declared.expr.Section.{Section}
use Rattle.ot_model.specs.declared.stmt.Mode.TheVariants.{Reads}
use Rattle.ot_model.specs.declared.stmt.Use.{Use}
use Rattle.ot_check.specs.Offences.{use_as, Declared}
use Rattle.ot_check.proofs.Cited.{eq_apart}
use Rattle.ot_race.specs.Events.{Way, event, Begins, Leaves, events, events_one, after, after_one, reads_now, this_way}
use Rattle.ot_race_ways.specs.Known.{number_in_value, choices, may_read}
use Rattle.ot_race_ways.specs.Ways.{way_by}
use Rattle.ot_race_ways.proofs.BranchLemmas.{known_in_run}
use Rattle.ot_race_order.proofs.LikeLemmas.{AreLike, like_itself, like_append, like_length, like_if, first_of_list, later_of_list}

-- the way whose conditions have the values of the run
abbrev pub run_as_way : Way
run_as_way = way_by (λ s e. val (cell_of s.cells) e)

-- ---- what is read

record Comes {A B : Type 0} (f : A → B) (xs : List A) (u : B) : Type 0 where
  from : A
  there : Contains xs from
  same : f from ≡ u

comes_from : {A B : Type 0} (f : A → B) (xs : List A) (u : B) → Contains (map f xs) u → Comes f xs u
comes_from f [] u (k, l, e) = absurd (omega (arith, l))
comes_from f (x ∷ xs) u (zero, l, e) = record { from = x; there = first_of_list x xs; same = e }
comes_from f (x ∷ xs) u (suc k, l, e) =
    let r = comes_from f xs u (k, omega (arith, l), e) in
    record { from = r.from; there = later_of_list x r.from xs r.there; same = r.same }

is_in_map : {A B : Type 0} (f : A → B) (xs : List A) (x : A) → Contains xs x → Contains (map f xs) (f x)
is_in_map f [] x (k, l, e) = absurd (omega (arith, l))
is_in_map f (y ∷ xs) x (zero, l, e) = subst (λ z. Contains (f y ∷ map f xs) (f z)) e (first_of_list (f y) (map f xs))
is_in_map f (y ∷ xs) x (suc k, l, e) = later_of_list (f y) (f x) (map f xs) (is_in_map f xs x (k, omega (arith, l), e))

only : {A : Type 0} (x y : A) → Contains (x ∷ []) y → x ≡ y
only x y (zero, l, e) = e
only x y (suc k, l, e) = absurd (omega (arith, l))

cell_in_section : (s : Section) (k : ℕ) → k < s.len → Contains (cells_of s) (cell_at s k)
cell_in_section s k l =
    let within : k < length (cells_of s) = omega (arith, l, length-map-range_with_len (cell_at s) 0 s.len) in
    (k, within, get_or-map-range_with_len (cell_at s) 0 s.len k k (cell_at s k) l (omega arith))

-- a pick whose value is this in the run may choose the cell at it
chosen : (s : Section) (o : Option ℕ) (n : ℕ) → 0 < s.len → unwrap_or o n ≡ n → Contains (choices s o) (cell_at s (n % s.len))
chosen s None n some is = cell_in_section s (n % s.len) (mod_below n s.len some)
chosen s (Some m) n some is =
    subst (λ k. Contains (choices s (Some m)) (cell_at s (k % s.len))) is
    (subst (λ b. Contains (if b then [] else cell_at s (m % s.len) ∷ []) (cell_at s (m % s.len))) (sym (eq_apart s.len 0 (λ z. absurd (omega (arith, some, z)))))
    (first_of_list (cell_at s (m % s.len)) []))

reads_named : (lens : List ℕ) (look : Cell → Option ℕ) (e : E) → ValueNamedIn lens e → (c : Cell) → Contains (reads_now look e) c → Contains (may_read e) c
reads_named lens look (Literal n) h c r = r
reads_named lens look (CellAt d) h c r = r
reads_named lens look (Apply o a b) h c r = elim (Contains-append_cases (reads_now look a) (reads_now look b) c r) [
  | inl one ↦ Contains-append_left (may_read a) (may_read b) c (reads_named lens look a h.0 c one)
  | inr two ↦ Contains-append_right (may_read a) (may_read b) c (reads_named lens look b h.1 c two)
]
reads_named lens look (PickFrom s e) h c r = elim (Contains-append_cases (reads_now look e) (cell_at s (val look e % s.len) ∷ []) c r) [
  | inl one ↦ Contains-append_right (choices s (number_in_value e)) (may_read e) c (reads_named lens look e h.1 c one)
  | inr two ↦ Contains-append_left (choices s (number_in_value e)) (may_read e) c
      (subst (Contains (choices s (number_in_value e))) (only (cell_at s (val look e % s.len)) c two) (chosen s (number_in_value e) (val look e) h.0.some (known_in_run look e)))
]

uses_within : (lens : List ℕ) (look : Cell → Option ℕ) (e : E) (more : List Use) → ValueNamedIn lens e → (u : Use)
    → Contains (map (use_as Reads) (reads_now look e) ++ more) u → Contains (map (use_as Reads) (may_read e) ++ more) u
uses_within lens look e more h u r = elim (Contains-append_cases (map (use_as Reads) (reads_now look e)) more u r) [
  | inl one ↦
      let c = comes_from (use_as Reads) (reads_now look e) u one in
      Contains-append_left (map (use_as Reads) (may_read e)) more u
      (subst (Contains (map (use_as Reads) (may_read e))) c.same (is_in_map (use_as Reads) (may_read e) c.from (reads_named lens look e h c.from c.there)))
  | inr two ↦ Contains-append_right (map (use_as Reads) (may_read e)) more u two
]

test_within : (lens : List ℕ) (look : Cell → Option ℕ) (e : E) → ValueNamedIn lens e → (u : Use)
    → Contains (map (use_as Reads) (reads_now look e)) u → Contains (map (use_as Reads) (may_read e)) u
test_within lens look e h u r =
    let c = comes_from (use_as Reads) (reads_now look e) u r in
    subst (Contains (map (use_as Reads) (may_read e))) c.same (is_in_map (use_as Reads) (may_read e) c.from (reads_named lens look e h c.from c.there))

-- ---- what may be read is named

none_there : {A : Type 0} (x : A) → Contains [] x → ⊥
none_there x (k, l, e) = omega (arith, l)

choice_named : (s : Section) (o : Option ℕ) (c : Cell) → Contains (choices s o) c → Contains (cells_of s) c
choice_named s None c r = r
choice_named s (Some n) c r = elim (cases_eq s.len 0) [
  | inl is ↦ absurd (none_there c (subst (λ k. Contains (if k == 0 then [] else cell_at s (n % s.len) ∷ []) c) is r))
  | inr apart ↦ subst (Contains (cells_of s)) (only (cell_at s (n % s.len)) c (subst (λ b. Contains (if b then [] else cell_at s (n % s.len) ∷ []) c) (eq_apart s.len 0 apart) r))
      (cell_in_section s (n % s.len) (mod_below n s.len (omega (arith, apart))))
]

may_named : (e : E) (c : Cell) → Contains (may_read e) c → Contains (cells_named e) c
may_named (Literal n) c r = r
may_named (CellAt d) c r = r
may_named (Apply o a b) c r = elim (Contains-append_cases (may_read a) (may_read b) c r) [
  | inl one ↦ Contains-append_left (cells_named a) (cells_named b) c (may_named a c one)
  | inr two ↦ Contains-append_right (cells_named a) (cells_named b) c (may_named b c two)
]
may_named (PickFrom s e) c r = elim (Contains-append_cases (choices s (number_in_value e)) (may_read e) c r) [
  | inl one ↦ Contains-append_left (cells_of s) (cells_named e) c (choice_named s (number_in_value e) c one)
  | inr two ↦ Contains-append_right (cells_of s) (cells_named e) c (may_named e c two)
]

-- so it is used where it is named
pub may_be_used : (e : E) (u : Use) → Contains (map (use_as Reads) (may_read e)) u → Contains (map (use_as Reads) (cells_named e)) u
may_be_used e u r =
    let c = comes_from (use_as Reads) (may_read e) u r in
    subst (Contains (map (use_as Reads) (cells_named e))) c.same (is_in_map (use_as Reads) (cells_named e) c.from (may_named e c.from c.there))

-- ---- events

mutual
  after_one_same : (x : S) (s : State) → after_one this_way x s ≡ after_one run_as_way x s
  after_one_same (Set c e) s = refl
  after_one_same (Fold o c e) s = refl
  after_one_same (If e a b) s =
      let n = val (cell_of s.cells) e in
      let same : n ≡ unwrap_or (number_in_value e) n = sym (known_in_run (cell_of s.cells) e) in
      ap (λ m. either m (after this_way a (bump 0 1 s)) (after this_way b (bump 0 1 s))) same
      ∙ ap (λ t. either (unwrap_or (number_in_value e) n) t (after this_way b (bump 0 1 s))) (after_same a (bump 0 1 s)) ∙ ap (either (unwrap_or (number_in_value e) n) (after run_as_way a (bump 0 1 s))) (after_same b (bump 0 1 s))
  after_one_same (Task d b) s = after_same b (bump 1 1 s)
  after_one_same (Wait w) s = refl
  after_one_same (Group o cs b) s = after_same b (bump 0 1 s)

  after_same : (b : Body) (s : State) → after this_way b s ≡ after run_as_way b s
  after_same End s = refl
  after_same (Next x rest) s = ap (after this_way rest) (after_one_same x s) ∙ after_same rest (after_one run_as_way x s)

mutual
  like_one : (lens : List ℕ) (own : Declared) (me k : ℕ) (x : S) (s : State) → OneNamedIn lens x
      → AreLike (events_one this_way own me k x s) (events_one run_as_way own me k x s)
  like_one lens own me k (Set c e) s h = (record { task_same = refl; deed_same = refl; within = uses_within lens (cell_of s.cells) e _ h.1 }, tt)
  like_one lens own me k (Fold o c e) s h = (record { task_same = refl; deed_same = refl; within = uses_within lens (cell_of s.cells) e _ h.1 }, tt)
  like_one lens own me k (If e a b) s h = (
    record { task_same = refl; deed_same = refl; within = test_within lens (cell_of s.cells) e h.0 },
    subst
        (λ (n : ℕ). AreLike
        (either (val (cell_of s.cells) e) (events this_way own me (k + 1) a (bump 0 1 s)) (events this_way own me (k + 1 + size a) b (bump 0 1 s)))
        (either n (events run_as_way own me (k + 1) a (bump 0 1 s)) (events run_as_way own me (k + 1 + size a) b (bump 0 1 s))))
        (sym (known_in_run (cell_of s.cells) e))
        (like_if (val (cell_of s.cells) e == 0) _ _ _ _ (like_all lens own me (k + 1 + size a) b (bump 0 1 s) h.2) (like_all lens own me (k + 1) a (bump 0 1 s) h.1)),
  )
  like_one lens own me k (Task d b) s h = (like_itself (event (s.tasks + 1) k (Begins me d) []), like_all lens (Some d) (s.tasks + 1) (k + 1) b (bump 1 1 s) h.1)
  like_one lens own me k (Wait w) s h = (record { task_same = refl; deed_same = refl; within = λ u r. r }, tt)
  like_one lens own me k (Group o cs b) s h =
      let inside = like_all lens own me (k + 1) b (bump 0 1 s) h.1 in
      like_append (events this_way own me (k + 1) b (bump 0 1 s)) (events run_as_way own me (k + 1) b (bump 0 1 s)) _ _ inside
      (record { task_same = refl; deed_same = ap Leaves (like_length _ _ inside); within = λ u r. r }, tt)

  pub like_all : (lens : List ℕ) (own : Declared) (me k : ℕ) (b : Body) (s : State) → NamedIn lens b
      → AreLike (events this_way own me k b s) (events run_as_way own me k b s)
  like_all lens own me k End s h = tt
  like_all lens own me k (Next x rest) s h =
      like_append (events_one this_way own me k x s) (events_one run_as_way own me k x s) _ _ (like_one lens own me k x s h.0)
      (subst (λ (t : State). AreLike (events this_way own me (k + size_one x) rest (after_one this_way x s)) (events run_as_way own me (k + size_one x) rest t))
      (after_one_same x s) (like_all lens own me (k + size_one x) rest (after_one this_way x s) h.1))
