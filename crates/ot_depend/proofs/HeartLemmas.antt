-- Why a child that waits for none by itself waits for none at all.
use Rattle.std.proofs.Common.{◌≡◌, ◌↔◌, ◌==◌, ◌&&◌, ◌||◌, ◌+◌, ℕ, zero, suc, ◌<◌, ◌≤◌, List, [], ◌∷◌, Bool, true, false, cond, get_or, length, Option, Some, None, IsTrue, ◌⊎◌, inl, inr, refl, sym, ap, ◌∙◌, subst, arith, true≢false}
use Rattle.std.specs.List.{Any, slice_get}
use Rattle.std.specs.Option.{option_map}
use Rattle.std.proofs.lemmas.Bool.{cases_lt, cases_Bool, or_cases, and_parts, and_from, or_left, or_right}
use Rattle.std.proofs.lemmas.Option.{same_Some, none-some, slice_get-map, get_or_from_slice_get, slice_get_within}
use Rattle.std.proofs.lemmas.List.Sums.{sum_by-cons, get_or-le-sum_by}
use Rattle.ot_model.specs.Cells.{same_cell, DependsOn, one_writes}
use Rattle.ot_model.specs.declared.expr.Cell.{Cell}
use Rattle.ot_model.specs.declared.stmt.Mode.{Mode}
use Rattle.ot_model.specs.declared.stmt.Mode.TheVariants.{Reads, Writes, Folds}
use Rattle.ot_model.specs.declared.stmt.Use.{Use}
use Rattle.ot_depend.specs.Siblings.{Sibling, IsReady, FinishedAreReady, is_write, uses_cell, writes_cell, has, times}
use Rattle.ot_depend.specs.Kept.{decls, IsDirect, Kid, siblings, owes, due, IsLinked}
use Rattle.ot_depend.proofs.ReadyLemmas.{any_tested, any_found, one_cell, cell_itself}

-- one of two uses is a write
one_writes-cases : (a b : Mode) → one_writes a b ≡ (is_write a || is_write b)
one_writes-cases Reads Reads = refl
one_writes-cases Reads Writes = refl
one_writes-cases Reads (Folds o) = refl
one_writes-cases Writes b = refl
one_writes-cases (Folds o) Reads = refl
one_writes-cases (Folds o) Writes = refl
one_writes-cases (Folds o) (Folds p) = refl

-- the use of a cell in a declaration that has it
pub use_found : (c : Cell) (us : List Use) → uses_cell c us ≡ true → Any (λ u. u.cell ≡ c) us
use_found c us = any_found (λ u. u.cell ≡ c) (λ u. same_cell u.cell c) (λ u same. one_cell u.cell c same) us

pub write_found : (c : Cell) (us : List Use) → writes_cell c us ≡ true → Any (λ u. (u.cell ≡ c) × (is_write u.mode ≡ true)) us
write_found c us = any_found (λ u. (u.cell ≡ c) × (is_write u.mode ≡ true)) (λ u. same_cell u.cell c && is_write u.mode)
    (λ u both. let parts = and_parts (same_cell u.cell c) (is_write u.mode) both in (one_cell u.cell c parts.0, parts.1)) us

pub use_there : (c : Cell) (us : List Use) → Any (λ u. u.cell ≡ c) us → uses_cell c us ≡ true
use_there c us = any_tested (λ u. u.cell ≡ c) (λ u. same_cell u.cell c) (λ u is. cell_itself u.cell c is) us

pub write_there : (c : Cell) (us : List Use) → Any (λ u. (u.cell ≡ c) × (is_write u.mode ≡ true)) us → writes_cell c us ≡ true
write_there c us = any_tested (λ u. (u.cell ≡ c) × (is_write u.mode ≡ true)) (λ u. same_cell u.cell c && is_write u.mode)
    (λ u both. and_from (same_cell u.cell c) (is_write u.mode) (cell_itself u.cell c both.0) both.1) us

-- who writes a cell uses it
pub writes-uses : (c : Cell) (us : List Use) → writes_cell c us ≡ true → uses_cell c us ≡ true
writes-uses c us writes = let found = write_found c us writes in use_there c us (found.0, found.1, found.2, found.3, found.4.0)

-- a dependence is at a cell that both use and one of them writes
unfoldable pub MeetsAt : List Use → List Use → Type 0
MeetsAt us vs = (c : Cell) × (uses_cell c us ≡ true) × (uses_cell c vs ≡ true) × ((writes_cell c us || writes_cell c vs) ≡ true)

pub MeetsAt-from_DependsOn : (us vs : List Use) → DependsOn us vs → MeetsAt us vs
unfolding MeetsAt
MeetsAt-from_DependsOn us vs (k, u, within, is, (m, v, below, there, both)) =
    let used : uses_cell u.cell us ≡ true = use_there u.cell us (k, u, within, is, refl) in
    let uses : uses_cell u.cell vs ≡ true = use_there u.cell vs (m, v, below, there, sym both.0) in (
      u.cell,
      used,
      uses,
      elim (or_cases (is_write u.mode) (is_write v.mode) (sym (one_writes-cases u.mode v.mode) ∙ both.1)) [
        | inl first ↦ or_left _ _ (write_there u.cell us (k, u, within, is, (refl, first)))
        | inr second ↦ or_right _ _ (write_there u.cell vs (m, v, below, there, (sym both.0, second)))
      ],
    )

pub DependsOn-from_MeetsAt : (us vs : List Use) → MeetsAt us vs → DependsOn us vs
unfolding MeetsAt
DependsOn-from_MeetsAt us vs (c, used, uses, one) = elim (or_cases (writes_cell c us) (writes_cell c vs) one) [
  | inl first ↦ let u = write_found c us first in let v = use_found c vs uses in
      (u.0, u.1, u.2, u.3, (v.0, v.1, v.2, v.3, (u.4.0 ∙ sym v.4, one_writes-cases u.1.mode v.1.mode ∙ or_left _ _ u.4.1)))
  | inr second ↦ let u = use_found c us used in let v = write_found c vs second in
      (u.0, u.1, u.2, u.3, (v.0, v.1, v.2, v.3, (u.4 ∙ sym v.4.0, one_writes-cases u.1.mode v.1.mode ∙ or_right _ _ v.4.1)))
]

-- what stands at a known place
pub decl_at : (ss : List Sibling) (i : ℕ) (s : Sibling) → slice_get ss i ≡ Some s → get_or (decls ss) i [] ≡ s.uses
decl_at ss i s known = get_or_from_slice_get (decls ss) i s.uses [] (slice_get-map (λ t. t.uses) ss i ∙ ap (option_map (λ t. t.uses)) known)

-- a child that uses a cell is known
pub known_from_use : (ss : List Sibling) (c : Cell) (i : ℕ) → uses_cell c (get_or (decls ss) i []) ≡ true → (s : Sibling) × (slice_get ss i ≡ Some s) × (get_or (decls ss) i [] ≡ s.uses)
known_from_use [] c i uses = absurd (true≢false (sym uses))
known_from_use (s ∷ ss) c zero uses = (s, refl, refl)
known_from_use (s ∷ ss) c (suc i) uses = known_from_use ss c i uses

-- the last number between that passes, if there is one
last_between : (w : ℕ → Bool) (i j : ℕ) → ((k : ℕ) → i < k → k < j → w k ≡ false) ⊎ ((k : ℕ) × (i < k) × (k < j) × (w k ≡ true) × ((m : ℕ) → k < m → m < j → w m ≡ false))
last_between w i zero = inl (λ k past before. absurd (omega arith))
last_between w i (suc j) = by (cases_lt i j) (cases_Bool (w j)) (last_between w i j)
  where
    none : (k : ℕ) → (k < j → w k ≡ false) → w j ≡ false → k < suc j → w k ≡ false
    none k before here within = elim (cases_lt k j) [ inl below ↦ before below | inr up ↦ let is : k ≡ j = omega arith in ap w is ∙ here ]

    by : (i < j) ⊎ (j ≤ i) → (w j ≡ true) ⊎ (w j ≡ false) → ((k : ℕ) → i < k → k < j → w k ≡ false) ⊎ ((k : ℕ) × (i < k) × (k < j) × (w k ≡ true) × ((m : ℕ) → k < m → m < j → w m ≡ false)) →
        ((k : ℕ) → i < k → k < suc j → w k ≡ false) ⊎ ((k : ℕ) × (i < k) × (k < suc j) × (w k ≡ true) × ((m : ℕ) → k < m → m < suc j → w m ≡ false))
    by (inr past) here rest = inl (λ k after before. absurd (omega arith))
    by (inl past) (inl here) rest = inr (j, past, omega arith, here, λ m after before. absurd (omega arith))
    by (inl past) (inr here) rest = elim rest [
      | inl all ↦ inl (λ k after. none k (all k after) here)
      | inr last ↦ inr (last.0, last.1, omega (arith, last.2), last.3, λ m after. none m (last.4 m after) here)
    ]

-- what a ready child has waited for
pub awaited : (ss : List Sibling) (k : ℕ) (s : Sibling) (i : ℕ) (earlier : Sibling) → IsReady ss k → slice_get ss k ≡ Some s → i < k → slice_get ss i ≡ Some earlier →
    MeetsAt earlier.uses s.uses → IsTrue earlier.finished
awaited ss k s i earlier ready known before there meets =
    let same : s ≡ ready.itself = same_Some s ready.itself (sym known ∙ ready.known) in
    ready.awaited i earlier before there (DependsOn-from_MeetsAt earlier.uses ready.itself.uses (subst (λ (t : Sibling). MeetsAt earlier.uses t.uses) same meets))

-- a child whose direct predecessors have finished is ready, where each that has finished was
pub ready_from_direct : (ss : List Sibling) (j : ℕ) (itself : Sibling) → FinishedAreReady ss → slice_get ss j ≡ Some itself →
    ((i : ℕ) (s : Sibling) → slice_get ss i ≡ Some s → IsDirect (decls ss) i j → IsTrue s.finished) → IsReady ss j
unfolding MeetsAt
ready_from_direct ss j itself all known direct = record {
  itself = itself;
  known = known;
  awaited = λ i earlier before there depends. by i earlier before there (MeetsAt-from_DependsOn earlier.uses itself.uses depends);
}
  where
    by : (i : ℕ) (earlier : Sibling) → i < j → slice_get ss i ≡ Some earlier → MeetsAt earlier.uses itself.uses → IsTrue earlier.finished
    by i earlier before there (c, used, uses, one) =
        let at_i : get_or (decls ss) i [] ≡ earlier.uses = decl_at ss i earlier there in
        let at_j : get_or (decls ss) j [] ≡ itself.uses = decl_at ss j itself known in
        elim (last_between (λ k. writes_cell c (get_or (decls ss) k [])) i j) [
          | inl none ↦ direct i earlier there (record {
            cell = c;
            order = before;
            used = ap (uses_cell c) at_i ∙ used;
            uses = ap (uses_cell c) at_j ∙ uses;
            written = rw (at_i, at_j) one;
            between = none;
          })
          | inr last ↦
              let k : ℕ = last.0 in
              let found = known_from_use ss c k (writes-uses c (get_or (decls ss) k []) last.3) in
              let writes : writes_cell c found.0.uses ≡ true = ap (writes_cell c) (sym found.2) ∙ last.3 in
              let done : IsTrue found.0.finished = direct k found.0 found.1 (record {
                cell = c;
                order = last.2;
                used = writes-uses c (get_or (decls ss) k []) last.3;
                uses = ap (uses_cell c) at_j ∙ uses;
                written = or_left _ _ last.3;
                between = last.4;
              }) in
              awaited ss k found.0 i earlier (all k found.0 found.1 done) found.1 last.1 there (c, used, writes-uses c found.0.uses writes, or_right _ _ writes)
        ]

-- none that it waits for by itself is left where a child is ready
pub direct_finished : (ss : List Sibling) (i j : ℕ) (s : Sibling) → IsReady ss j → slice_get ss i ≡ Some s → IsDirect (decls ss) i j → IsTrue s.finished
unfolding MeetsAt
direct_finished ss i j s ready there direct =
    let at_i : get_or (decls ss) i [] ≡ s.uses = decl_at ss i s there in
    let at_j : get_or (decls ss) j [] ≡ ready.itself.uses = decl_at ss j ready.itself ready.known in
    awaited ss j ready.itself i s ready ready.known direct.order there
    (direct.cell, ap (uses_cell direct.cell) (sym at_i) ∙ direct.used, ap (uses_cell direct.cell) (sym at_j) ∙ direct.uses, rw (← at_i, ← at_j) direct.written)

-- a number is in a list where it is there some times
pub times-none : (n : ℕ) (xs : List ℕ) → has n xs ≡ false → times n xs ≡ 0
times-none n [] out = refl
times-none n (x ∷ xs) out = rw (sum_by-cons (λ y. cond (y == n) 1 0) x xs) (by (x == n) (has n xs) (times n xs) out (times-none n xs))
  where
    by : (b c : Bool) (m : ℕ) → (b || c) ≡ false → (c ≡ false → m ≡ 0) → cond b 1 0 + m ≡ 0
    by true c m out rest = absurd (true≢false out)
    by false c m out rest = omega (arith, rest out)

pub times-some : (n : ℕ) (xs : List ℕ) → has n xs ≡ true → 1 ≤ times n xs
times-some n [] there = absurd (true≢false (sym there))
times-some n (x ∷ xs) there = rw (sum_by-cons (λ y. cond (y == n) 1 0) x xs) (by (x == n) (has n xs) (times n xs) there (times-some n xs))
  where
    by : (b c : Bool) (m : ℕ) → (b || c) ≡ true → (c ≡ true → 1 ≤ m) → 1 ≤ cond b 1 0 + m
    by true c m there more = omega arith
    by false c m there more = omega (arith, more there)

-- what is due from a list is due from some of it
pub due-le : (j i : ℕ) (kids : List Kid) (k : Kid) → slice_get kids i ≡ Some k → owes j k ≤ due j kids
due-le j i kids k there =
    let within : i < length kids = slice_get_within kids i k there in
    rw (get_or_from_slice_get kids i k k there) at (get_or-le-sum_by (owes j) kids i k within)

pub due-none : (j : ℕ) (kids : List Kid) → ((i : ℕ) (k : Kid) → slice_get kids i ≡ Some k → owes j k ≡ 0) → due j kids ≡ 0
due-none j [] none = refl
due-none j (k ∷ kids) none = sum_by-cons (owes j) k kids ∙ omega (arith, none 0 k refl, due-none j kids (λ i. none (suc i)))

-- it waits for none exactly where it is ready
pub ready_by_count : (kids : List Kid) (j : ℕ) (k : Kid) → IsLinked kids → FinishedAreReady (siblings kids) → slice_get kids j ≡ Some k → (k.waiting ≡ 0) ↔ IsReady (siblings kids) j
ready_by_count kids j k linked all known = (to, from)
  where
    known_it : slice_get (siblings kids) j ≡ Some k.it
    known_it = slice_get-map (λ (t : Kid). t.it) kids j ∙ ap (option_map (λ (t : Kid). t.it)) known

    its : (i : ℕ) (s : Sibling) → slice_get (siblings kids) i ≡ Some s → (t : Kid) × (slice_get kids i ≡ Some t) × (t.it ≡ s)
    its i s there = by (slice_get kids i) refl
      where
        by : (found : Option Kid) → slice_get kids i ≡ found → (t : Kid) × (slice_get kids i ≡ Some t) × (t.it ≡ s)
        by None is = absurd (none-some s (sym (slice_get-map (λ (t : Kid). t.it) kids i ∙ ap (option_map (λ (t : Kid). t.it)) is) ∙ there))
        by (Some t) is = (t, is, same_Some t.it s (sym (slice_get-map (λ (t : Kid). t.it) kids i ∙ ap (option_map (λ (t : Kid). t.it)) is) ∙ there))

    owed : (i : ℕ) (t : Kid) → slice_get kids i ≡ Some t → t.it.finished ≡ false → has j t.waiters ≡ true → k.waiting ≡ 0 → ⊥
    owed i t there unfinished waits none =
        let is : owes j t ≡ times j t.waiters = ap (λ b. cond b 0 (times j t.waiters)) unfinished in
        omega (arith, due-le j i kids t there, times-some j t.waiters waits, linked.counted j k known)

    to : k.waiting ≡ 0 → IsReady (siblings kids) j
    to none = ready_from_direct (siblings kids) j k.it all known_it (λ i s there direct.
        let t = its i s there in
        elim (cases_Bool t.0.it.finished) [
          | inl done ↦ ap (λ (r : Sibling). r.finished) (sym t.2) ∙ done
          | inr not_yet ↦ absurd (owed i t.0 t.1 not_yet (linked.telling i j t.0 t.1 not_yet direct) none)
        ])

    owes_none : (i : ℕ) (t : Kid) → slice_get kids i ≡ Some t → IsReady (siblings kids) j → (done waits : Bool) → t.it.finished ≡ done → has j t.waiters ≡ waits → owes j t ≡ 0
    owes_none i t there ready true waits is has_it = ap (λ b. cond b 0 (times j t.waiters)) is
    owes_none i t there ready false false is has_it = ap (λ b. cond b 0 (times j t.waiters)) is ∙ times-none j t.waiters has_it
    owes_none i t there ready false true is has_it =
        let at_i : slice_get (siblings kids) i ≡ Some t.it = slice_get-map (λ (t : Kid). t.it) kids i ∙ ap (option_map (λ (t : Kid). t.it)) there in
        absurd (true≢false (sym (direct_finished (siblings kids) i j t.it ready at_i (linked.told i j t there is has_it)) ∙ is))

    from : IsReady (siblings kids) j → k.waiting ≡ 0
    from ready = linked.counted j k known ∙ due-none j kids (λ i t there. owes_none i t there ready t.it.finished (has j t.waiters) refl refl)
