-- What the tasks that were passed declare, as the users of cells tell it.
use Rattle.std.proofs.Common.{◌≡◌, ◌≢◌, ◌==◌, ℕ, ◌+◌, ◌<◌, ◌++◌, ◌&&◌, ◌||◌, Bool, true, false, List, [], ◌∷◌, length, take, get_or, refl, sym, ap, subst, ◌∙◌, inl, inr, arith}
use Rattle.std.specs.Prelude.{Option, Some, None, slice_get, unwrap_or}
use Rattle.std.specs.List.{list_any}
use Rattle.std.proofs.lemmas.List.Folds.{list_any_more}
use Rattle.ot_model.specs.Cells.{same_cell, conflicts, depends_on, one_writes}
use Rattle.ot_model.specs.declared.expr.Cell.{Cell}
use Rattle.ot_model.specs.declared.stmt.Mode.{Mode}
use Rattle.ot_model.specs.declared.stmt.Use.{Use}
use Rattle.ot_check.specs.Offences.{clashes}
use Rattle.ot_check.specs.walk.States.{AreOf, Tells, among, is_met_by, some_task, user_has, users_at}
use Rattle.ot_check.specs.walk.Rows.{awaited_as, found_at, rows_filled}
use Rattle.ot_sets.specs.Sets.{has}
use Rattle.ot_sets.specs.declared.numbers.Numbers.{Numbers}
use Rattle.ot_check.specs.declared.tasks.Tasks.{Tasks}
use Rattle.ot_check.specs.declared.users.User.{User}
use Rattle.ot_check.proofs.GridLemmas.{found_at-filled}
use Rattle.ot_check.proofs.Bits.{or_assoc, or_none, any-same}
use Rattle.ot_check.proofs.SameLemmas.{same_itself, same_apart, cells_equal}
use Rattle.ot_check.proofs.SetLemmas.{any-swap, some-append, some-same, some-one}

-- ---- one more user of a cell

pub entered-at : (old new : List (List (List User))) (cell : Cell) (v : User)
    → ((test : User → Bool) → list_any test (users_at new cell) ≡ (list_any test (users_at old cell) || test v))
    → ((other : Cell) → cell ≢ other → found_at new other ≡ found_at old other)
    → (test : User → Bool) (c : Cell) → list_any test (users_at new c) ≡ (list_any test (users_at old c) || (same_cell cell c && test v))
entered-at old new cell v entered others test c =
    elim (cells_equal cell c) [
      | inl is ↦
          subst (λ c. list_any test (users_at new c) ≡ (list_any test (users_at old c) || test v)) is (entered test)
          ∙ ap (λ b. list_any test (users_at old c) || (b && test v)) (sym (ap (same_cell cell) (sym is) ∙ same_itself cell))
      | inr apart ↦
          ap (λ o. list_any test (unwrap_or o [])) (others c apart) ∙ sym (or_none (list_any test (users_at old c)))
          ∙ ap (λ b. list_any test (users_at old c) || (b && test v)) (sym (same_apart cell c apart))
    ]

-- ---- one more task

pub longer_by_one : (xs : List (List Use)) (x : List Use) → length (xs ++ x ∷ []) ≡ length xs + 1
longer_by_one [] x = refl
longer_by_one (y ∷ xs) x = let l = longer_by_one xs x in omega (arith, l)

-- the first uses of a task's declaration
abbrev pub AreEntered : List (List (List User)) → List (List (List User)) → ℕ → List Use → Type 0
AreEntered old new task uses =
    (test : User → Bool) (c : Cell) → list_any test (users_at new c) ≡ (list_any test (users_at old c) || list_any (user_has test c task) uses)

pub none-entered : (users : List (List (List User))) (task : ℕ) → AreEntered users users task []
none-entered users task test c = sym (or_none (list_any test (users_at users c)))

pub one-entered : (old now new : List (List (List User))) (task : ℕ) (list : List Use) (i : ℕ) (d : Use) (v : User) → i < length list
    → AreEntered old now task (take i list) → v ≡ record { task = task; mode = (get_or list i d).mode }
    → ((test : User → Bool) (c : Cell) → list_any test (users_at new c) ≡ (list_any test (users_at now c) || (same_cell (get_or list i d).cell c && test v)))
    → AreEntered old new task (take (i + 1) list)
one-entered old now new task list i d v l so_far is entered test c =
    entered test c
    ∙ ap (λ b. b || (same_cell (get_or list i d).cell c && test v)) (so_far test c)
    ∙ ap (λ v. (list_any test (users_at old c) || list_any (user_has test c task) (take i list)) || (same_cell (get_or list i d).cell c && test v)) is
    ∙ or_assoc (list_any test (users_at old c)) (list_any (user_has test c task) (take i list)) (user_has test c task (get_or list i d))
    ∙ ap (λ b. list_any test (users_at old c) || b) (sym (list_any_more (user_has test c task) list i d l))

tells-added : (old new : List (List (List User))) (decls : List (List Use)) (task : ℕ) (uses : List Use) → Tells old decls → length decls ≡ task
    → AreEntered old new task uses → Tells new (decls ++ uses ∷ [])
tells-added old new decls task uses told counted entered test c =
    let at : 0 + length decls ≡ task = omega (arith, counted) in
    entered test c ∙ ap (λ b. b || list_any (user_has test c task) uses) (told test c)
    ∙ ap (λ b. some_task (λ k d. list_any (user_has test c k) d) 0 decls || b)
    (sym (or_none (list_any (user_has test c (0 + length decls)) uses) ∙ ap (λ n. list_any (user_has test c n) uses) at))
    ∙ sym (some-append (λ k d. list_any (user_has test c k) d) 0 decls (uses ∷ []))

pub are-added : (old new : Tasks) (decls : List (List Use)) (uses : List Use) → AreOf decls old → new.passed ≡ old.passed + 1
    → AreEntered old.users new.users old.passed uses → AreOf (decls ++ uses ∷ []) new
are-added old new decls uses are passed entered = record {
  told = tells-added old.users new.users decls old.passed uses are.told are.counted entered;
  counted = let long = longer_by_one decls uses in omega (arith, long, passed, are.counted);
}

-- ---- whom a use meets, and whom a wait awaits

guarded_bits : (s h g : Bool) → (s && (h && g)) ≡ (h && (s && g))
guarded_bits true true g = refl
guarded_bits true false g = refl
guarded_bits false true g = refl
guarded_bits false false g = refl

none_guarded : (h : Bool) → (h && false) ≡ false
none_guarded true = refl
none_guarded false = refl

both_or : (h a b : Bool) → ((h && a) || (h && b)) ≡ (h && (a || b))
both_or true a b = refl
both_or false a b = refl

guarded : (h : Bool) (c : Cell) (g : Mode → Bool) (uses : List Use)
    → list_any (λ u. same_cell u.cell c && (h && g u.mode)) uses ≡ (h && list_any (λ u. same_cell u.cell c && g u.mode) uses)
guarded h c g [] = sym (none_guarded h)
guarded h c g (u ∷ uses) =
    ap (λ b. b || list_any (λ u. same_cell u.cell c && (h && g u.mode)) uses) (guarded_bits (same_cell u.cell c) h (g u.mode))
    ∙ ap (λ b. (h && (same_cell u.cell c && g u.mode)) || b) (guarded h c g uses)
    ∙ both_or h (same_cell u.cell c && g u.mode) (list_any (λ u. same_cell u.cell c && g u.mode) uses)

module _ (users : List (List (List User))) (decls : List (List Use)) (told : Tells users decls) where
  -- those children of a set that clash
  pub met-told : (numbers : Numbers) (u : Use) → is_met_by numbers users u ≡ among numbers decls (clashes u)
  met-told numbers u =
      told (λ v. has numbers v.task && conflicts v.mode u.mode) u.cell
      ∙ some-same _ (λ k d. has numbers k && clashes u d) 0 decls (λ i d is. guarded (has numbers (0 + i)) u.cell (λ m. conflicts m u.mode) d)

  awaited-at : (k : ℕ) (d : List Use) → slice_get decls k ≡ Some d → (mode : Mode) (c : Cell)
      → list_any (awaited_as mode k) (users_at users c) ≡ list_any (λ x. same_cell x.cell c && one_writes x.mode mode) d
  awaited-at k d is mode c =
      told (awaited_as mode k) c
      ∙ some-same _ (λ j e. (j == k) && list_any (λ x. same_cell x.cell c && one_writes x.mode mode) e) 0 decls
      (λ i e at. guarded (0 + i == k) c (λ m. one_writes m mode) e)
      ∙ some-one (λ e. list_any (λ x. same_cell x.cell c && one_writes x.mode mode) e) k 0 decls k d (omega arith) is

  -- those on which a wait's declaration depends
  pub awaited-told : (k : ℕ) (d : List Use) → slice_get decls k ≡ Some d → (uses : List Use)
      → list_any (λ u. list_any (awaited_as u.mode k) (users_at users u.cell)) uses ≡ depends_on d uses
  awaited-told k d is uses =
      any-same _ (λ u. list_any (λ x. same_cell x.cell u.cell && one_writes x.mode u.mode) d) uses (λ u. awaited-at k d is u.mode u.cell)
      ∙ any-swap (λ u x. same_cell x.cell u.cell && one_writes x.mode u.mode) uses d

-- ---- no task

no-users : (o : Option (List User)) → ((users : List User) → o ≡ Some users → users ≡ []) → unwrap_or o [] ≡ []
no-users None none = refl
no-users (Some users) none = none users refl

pub told-first : (lens : List ℕ) (users : List (List (List User))) → users ≡ rows_filled [] lens → Tells users []
told-first lens users are test c =
    ap (λ users. list_any test (users_at users c)) are
    ∙ ap (list_any test) (no-users (found_at (rows_filled [] lens) c) (λ row found. found_at-filled [] row lens c.array c.index found))
