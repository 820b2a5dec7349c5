-- A clause without a fault: its section is there, and by what it folds.
use Rattle.std.proofs.Common.{◌≡◌, ◌≢◌, ℕ, zero, suc, ◌+◌, ◌*◌, ◌^◌, ◌<◌, ◌≤◌, Bool, true, false, cond, ◌||◌, min, List, [], ◌∷◌, ◌++◌, length, get_or, Option, Some, None, codes, refl, sym, ap, ◌∙◌, arith}
use Rattle.std.specs.Prelude.{◌==◌, not, nat_le, find, slice_get, bytes_eq, is_some, option_map, unwrap_or}
use Rattle.std.specs.List.{list_any, position_or_len}
use Rattle.std.proofs.lemmas.Bool.{leb-true}
use Rattle.std.proofs.lemmas.Slice.Eq.{bytes_eq-Decides}
use Rattle.serde_json.specs.Data.{Data, array, no_items, item}
use Rattle.serde_json.specs.View.{view, items_view}
use Rattle.serde_json.specs.declared.value.Value.{Value}
use Rattle.ot_model.specs.Programs.{Arrays}
use Rattle.ot_model.specs.declared.fold.Fold.{Fold}
use Rattle.ot_model.specs.declared.fold.Fold.TheVariants as by
use Rattle.ot_model.specs.declared.stmt.Mode.TheVariants.{Reads, Folds}
use Rattle.ot_program.specs.Meanings.{operation_in, letters, Bindings, size, is_called, position_of, length_of, section, fold_of, mode_of, red_by, clause, is_word}
use Rattle.ot_program.specs.Faults.{unless, deep, array_faults, size_faults, section_faults, clause_faults}
use Rattle.ot_program.specs.Limits.{size_depth}
use Rattle.ot_program.specs.declared.fault.Refusal.{Refusal}
use Rattle.ot_program.specs.declared.fault.Refusal.TheVariants.{Form, UnknownArray, OutOfRange, EmptySection}
use Rattle.ot_program.specs.declared.profile.Profile.{Profile}
use Rattle.ot_why_mixed.specs.Rows.{Row, address, row_at, row_of, Fits, place_from}

-- ---- no faults

pub no_fault : (b : Bool) (c : Refusal) → unless b c ≡ [] → b ≡ true
no_fault true c h = refl
no_fault false c h = absurd cc

pub none_first : {A : Type 0} (xs ys : List A) → xs ++ ys ≡ [] → xs ≡ []
none_first [] ys h = refl
none_first (x ∷ xs) ys h = absurd cc

pub none_second : {A : Type 0} (xs ys : List A) → xs ++ ys ≡ [] → ys ≡ []
none_second [] ys h = h
none_second (x ∷ xs) ys h = absurd cc

-- ---- the array of a section

pub record IsPlaced (i : ℕ) (arrays : List (List ℕ × ℕ)) (name : List ℕ) : Type 0 where
  pub place : ℕ × ℕ
  pub is : place_from i arrays name ≡ Some place
  pub position : place.0 ≡ i + position_or_len (λ a. bytes_eq a.0 name) arrays
  pub cells : unwrap_or (option_map (λ a. a.1) (find (λ a. bytes_eq a.0 name) arrays)) 0 ≡ place.1
  pub called : (n : ℕ) → n ≡ position_or_len (λ a. bytes_eq a.0 name) arrays → unwrap_or (option_map (λ a. a.0) (slice_get arrays n)) [] ≡ name

called_behind : (a : List ℕ × ℕ) (arrays : List (List ℕ × ℕ)) (name : List ℕ) (m n : ℕ) → n ≡ 1 + m
    → unwrap_or (option_map (λ a. a.0) (slice_get arrays m)) [] ≡ name → unwrap_or (option_map (λ a. a.0) (slice_get (a ∷ arrays) n)) [] ≡ name
called_behind a arrays name m zero is h = absurd (omega (arith, is))
called_behind a arrays name m (suc n) is h = let e : n ≡ m = omega (arith, is) in rw e h

placed_by : (i : ℕ) (a : List ℕ × ℕ) (arrays : List (List ℕ × ℕ)) (name : List ℕ) (b : Bool) → bytes_eq a.0 name ≡ b
    → (b ≡ false → IsPlaced (i + 1) arrays name) → IsPlaced i (a ∷ arrays) name
placed_by i a arrays name true is rest = record {
  place = (i, a.1);
  is = rw is refl;
  position = rw is (omega arith);
  cells = rw is refl;
  called = λ n here. rw here (rw is ((bytes_eq-Decides a.0 name).0 is));
}
placed_by i a arrays name false is rest =
    let r = rest refl in
    record {
      place = r.place;
      is = rw is (r.is);
      position = rw is (let p = r.position in omega (arith, p));
      cells = rw is (r.cells);
      called = λ n here. called_behind a arrays name (position_or_len (λ a. bytes_eq a.0 name) arrays) n (rw is at here) (r.called _ refl);
    }

pub known_placed : (i : ℕ) (arrays : List (List ℕ × ℕ)) (name : List ℕ) → list_any (λ a. bytes_eq a.0 name) arrays ≡ true → IsPlaced i arrays name
known_placed i [] name h = absurd cc
known_placed i (a ∷ arrays) name h =
    placed_by i a arrays name (bytes_eq a.0 name) refl (λ is. known_placed (i + 1) arrays name (rw is at h))

-- ---- a section

pub record IsThere (shape : Arrays) (variables : Bindings) (a b c : Data) : Type 0 where
  pub known : list_any (is_called a) shape.arrays ≡ true
  pub within : size variables b + size variables c ≤ length_of shape a
  pub some : 0 < size variables c

not_zero : (n : ℕ) → not (n == 0) ≡ true → 0 < n
not_zero zero h = absurd cc
not_zero (suc n) h = omega arith

pub section_there : (shape : Arrays) (variables : Bindings) (a b c : Data) → section_faults shape variables (array (item a (item b (item c no_items)))) ≡ []
    → IsThere shape variables a b c
section_there shape variables a b c h =
    let within = nat_le (size variables b + size variables c) (length_of shape a) in
    let some = not (size variables c == 0) in
    let parts = array_faults shape a ++ (size_faults variables b ++ size_faults variables c) in
    let cells = unless within OutOfRange ++ unless some EmptySection in
    let depths = deep (size_depth b) ++ deep (size_depth c) in
    let array_none = none_first (array_faults shape a) (size_faults variables b ++ size_faults variables c) (none_first parts (cells ++ depths) h) in
    let known_none = none_second _ (unless (list_any (is_called a) shape.arrays) UnknownArray) array_none in
    let cells_none = none_first cells depths (none_second parts (cells ++ depths) h) in
    record {
      known = no_fault (list_any (is_called a) shape.arrays) UnknownArray known_none;
      within = leb-true (size variables b + size variables c) (length_of shape a)
          (no_fault within OutOfRange (none_first (unless within OutOfRange) (unless some EmptySection) cells_none));
      some = not_zero (size variables c) (no_fault some EmptySection (none_second (unless within OutOfRange) (unless some EmptySection) cells_none));
    }

-- ---- by what a clause folds

pub mode_operation : (profile : Profile) (t : Data) → is_some (mode_of profile t) ≡ true
    → operation_in (unwrap_or (mode_of profile t) Reads)
    ≡ cond (is_word t (codes "in") || (is_word t (codes "out") || is_word t (codes "inout"))) None (Some by.Plus)
mode_operation profile t h = grind arith

red_operation : (b : Bool) (o : Option Fold) → is_some (cond b (option_map Folds o) None) ≡ true
    → operation_in (unwrap_or (cond b (option_map Folds o) None) Reads) ≡ o
red_operation true None h = absurd cc
red_operation true (Some f) h = refl
red_operation false o h = absurd cc

-- ---- a clause by how many items it has

-- what is known of a clause with this section that folds so
pub record FoldsBy (shape : Arrays) (profile : Profile) (variables : Bindings) (d s : Data) (fold : Option Fold) : Type 0 where
  pub faultless : section_faults shape variables s ≡ []
  pub section_is : (clause shape profile variables d).section ≡ section shape variables s
  pub fold_is : operation_in (clause shape profile variables d).mode ≡ fold

pub two_folds : (shape : Arrays) (profile : Profile) (variables : Bindings) (t a : Data)
    → clause_faults shape profile variables (array (item t (item a no_items))) ≡ []
    → FoldsBy shape profile variables (array (item t (item a no_items))) a
    (cond (is_word t (codes "in") || (is_word t (codes "out") || is_word t (codes "inout"))) None (Some by.Plus))
two_folds shape profile variables t a h =
    let known = no_fault (is_some (mode_of profile t)) Form (none_first (unless (is_some (mode_of profile t)) Form) (section_faults shape variables a) h) in
    record {
      faultless = none_second (unless (is_some (mode_of profile t)) Form) (section_faults shape variables a) h;
      section_is = refl;
      fold_is = mode_operation profile t known;
    }

pub three_folds : (shape : Arrays) (profile : Profile) (variables : Bindings) (t op a : Data)
    → clause_faults shape profile variables (array (item t (item op (item a no_items)))) ≡ []
    → FoldsBy shape profile variables (array (item t (item op (item a no_items)))) a (fold_of op)
three_folds shape profile variables t op a h =
    let none : unless (is_some (red_by t op)) Form ++ section_faults shape variables a ≡ [] = grind arith in
    let section_is : (clause shape profile variables (array (item t (item op (item a no_items))))).section ≡ section shape variables a = grind arith in
    let mode_is : (clause shape profile variables (array (item t (item op (item a no_items))))).mode ≡ unwrap_or (red_by t op) Reads = grind arith in
    let known = no_fault (is_some (red_by t op)) Form (none_first (unless (is_some (red_by t op)) Form) (section_faults shape variables a) none) in
    record {
      faultless = none_second (unless (is_some (red_by t op)) Form) (section_faults shape variables a) none;
      section_is = section_is;
      fold_is = ap operation_in mode_is ∙ red_operation (is_word t (codes "red")) (fold_of op) known;
    }

pub two_items : (vs : List Value) (a b : Value) → length vs ≡ 2 → a ≡ get_or vs 0 a → b ≡ get_or vs 1 b
    → array (items_view vs) ≡ array (item (view a) (item (view b) no_items))
two_items (x ∷ y ∷ []) a b two p q = rw (sym p, sym q) refl
two_items _ a b two p q = absurd (omega arith)

pub three_items : (vs : List Value) (a b c : Value) → length vs ≡ 3 → a ≡ get_or vs 0 a → b ≡ get_or vs 1 b → c ≡ get_or vs 2 c
    → array (items_view vs) ≡ array (item (view a) (item (view b) (item (view c) no_items)))
three_items (x ∷ y ∷ z ∷ []) a b c three p q r = rw (sym p, sym q, sym r) refl
three_items _ a b c three p q r = absurd (omega arith)

-- a clause has two items or three, and a section three
pub clause_wrong : (shape : Arrays) (profile : Profile) (variables : Bindings) (vs : List Value) → length vs ≢ 2 → length vs ≢ 3
    → clause_faults shape profile variables (array (items_view vs)) ≡ [] → ⊥
clause_wrong shape profile variables (a ∷ b ∷ []) two three h = absurd (two refl)
clause_wrong shape profile variables (a ∷ b ∷ c ∷ []) two three h = absurd (three refl)
clause_wrong shape profile variables _ two three h = grind arith

pub section_wrong : (shape : Arrays) (variables : Bindings) (vs : List Value) → length vs ≢ 3 → section_faults shape variables (array (items_view vs)) ≡ [] → ⊥
section_wrong shape variables (a ∷ b ∷ c ∷ []) three h = absurd (three refl)
section_wrong shape variables _ three h = absurd cc

-- ---- the row of a clause

pub folds_row : (shape : Arrays) (profile : Profile) (variables : Bindings) (d s : Data) (fold f : Option Fold) → FoldsBy shape profile variables d s fold → f ≡ fold
    → row_at shape (section shape variables s) f ≡ row_of shape (clause shape profile variables d)
folds_row shape profile variables d s fold f h is = rw (h.section_is, h.fold_is, is) refl

pub place_known : (shape : Arrays) (arrays : List (List ℕ × ℕ)) (variables : Bindings) (a b c : Data) → shape.arrays ≡ arrays → IsThere shape variables a b c
    → IsPlaced 0 arrays (letters a)
place_known shape arrays variables a b c is h = known_placed 0 arrays (letters a) (rw is at h.known)

pub row_is : (shape : Arrays) (arrays : List (List ℕ × ℕ)) (variables : Bindings) (a b c : Data) (fold : Option Fold) (r : Row) (position cells : ℕ)
    → shape.arrays ≡ arrays → IsThere shape variables a b c → Some (position, cells) ≡ place_from 0 arrays r.name → r.name ≡ letters a
    → r.start ≡ min (size variables b) cells → r.from ≡ position * 2 ^ 32 + size variables b → r.to ≡ position * 2 ^ 32 + size variables b + size variables c
    → r.fold ≡ fold → r ≡ row_at shape (section shape variables (array (item a (item b (item c no_items))))) fold
row_is shape arrays variables a b c fold r position cells is there found name start from to folds =
    let p = place_known shape arrays variables a b c is there in
    let place : (position, cells) ≡ p.place = some_is (found ∙ ap (place_from 0 arrays) name ∙ p.is) in
    let first : position ≡ p.place.0 = ap (λ (k : ℕ × ℕ). k.0) place in
    let second : cells ≡ p.place.1 = ap (λ (k : ℕ × ℕ). k.1) place in
    let same : position_or_len (is_called a) arrays ≡ position_of shape a = ap (λ (xs : List (List ℕ × ℕ)). position_or_len (is_called a) xs) (sym is) in
    let counted : p.place.0 ≡ 0 + position_or_len (is_called a) arrays = p.position in
    let here : position ≡ position_of shape a = omega (arith, first, counted, same) in
    let called : unwrap_or (option_map (λ a. a.0) (slice_get shape.arrays (position_of shape a))) [] ≡ letters a = rw is (p.called (position_or_len (is_called a) arrays) refl) in
    let has : length_of shape a ≡ cells = rw is (p.cells ∙ sym second) in
    let within = there.within in
    let begins : r.start ≡ size variables b = omega (arith, start, within, has) in
    same_row r _ (name ∙ sym called) begins (from ∙ ap (λ (n : ℕ). address n (size variables b)) here)
    (to ∙ rw here (omega arith)) folds
  where
    some_is : {A : Type 0} {x y : A} → Some x ≡ Some y → x ≡ y
    some_is h = cc

    same_row : (r q : Row) → r.name ≡ q.name → r.start ≡ q.start → r.from ≡ q.from → r.to ≡ q.to → r.fold ≡ q.fold → r ≡ q
    same_row r q name start from to fold = rw (name, start, from, to, fold) refl

pub section_fits : (shape : Arrays) (arrays : List (List ℕ × ℕ)) (variables : Bindings) (a b c : Data) (position cells : ℕ) → shape.arrays ≡ arrays
    → IsThere shape variables a b c → (name : List ℕ) → name ≡ letters a → Some (position, cells) ≡ place_from 0 arrays name → cells < 2 ^ 32
    → Fits (section shape variables (array (item a (item b (item c no_items)))))
section_fits shape arrays variables a b c position cells is there name called found short =
    let p = place_known shape arrays variables a b c is there in
    let place : cells ≡ p.place.1 = some_second (found ∙ ap (place_from 0 arrays) called ∙ p.is) in
    let has : length_of shape a ≡ cells = rw is (p.cells ∙ sym place) in
    let within = there.within in
    let some = there.some in
    record { short = omega (arith, within, has, short); some = some }
  where
    some_second : {x y : ℕ × ℕ} → Some x ≡ Some y → x.1 ≡ y.1
    some_second h = cc

pub place_missing : (shape : Arrays) (arrays : List (List ℕ × ℕ)) (variables : Bindings) (a b c : Data) (name : List ℕ) → shape.arrays ≡ arrays
    → section_faults shape variables (array (item a (item b (item c no_items)))) ≡ [] → name ≡ letters a → None ≡ place_from 0 arrays name → ⊥
place_missing shape arrays variables a b c name is none called found =
    let p = place_known shape arrays variables a b c is (section_there shape variables a b c none) in
    let e = found ∙ ap (place_from 0 arrays) called ∙ p.is in cc
