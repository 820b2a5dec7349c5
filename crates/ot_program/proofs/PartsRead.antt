-- A part of a statement is read as what it denotes, or the first of its faults is told.
use Rattle.std.proofs.Common.{◌≡◌, ℕ, suc, ◌+◌, ◌-◌, ◌*◌, ◌^◌, ◌≤◌, Bool, true, false, cond, ◌||◌, List, [], ◌∷◌, ◌++◌, map, Option, Some, None, Result, Ok, Err, nat_le, nat_lt, nat_eq, bytes_eq, codes, refl, sym, ap, ◌∙◌, subst, arith, zero-add, add-zero}
use Rattle.std.specs.Prelude.{is_some, not, unwrap_or, option_map, find}
use Rattle.std.specs.List.{list_any, position_or_len}
use Rattle.serde_json.specs.Data.{Data, number, string, array, no_items, item}
use Rattle.ot_model.specs.Programs.{Arrays}
use Rattle.ot_model.specs.Tree.{E, Literal, CellAt, Apply, PickFrom}
use Rattle.ot_model.specs.declared.expr.Op.{Op}
use Rattle.ot_model.specs.declared.expr.Op.TheVariants as op
use Rattle.ot_model.specs.declared.expr.Section.{Section}
use Rattle.ot_model.specs.declared.stmt.Mode.{Mode}
use Rattle.ot_model.specs.declared.stmt.Mode.TheVariants.{Reads as AsRead}
use Rattle.ot_program.specs.declared.shape.KnownArray.{KnownArray}
use Rattle.ot_program.specs.declared.size.Sign.{Sign}
use Rattle.ot_program.specs.declared.size.Sign.TheVariants.{Plus, Minus, Times}
use Rattle.ot_program.specs.declared.fault.Refusal.{Refusal}
use Rattle.ot_program.specs.declared.fault.Refusal.TheVariants.{Form, Size, UnknownArray, OutOfRange, EmptySection, TooLarge}
use Rattle.ot_program.specs.declared.profile.Profile.{Profile}
use Rattle.ot_program.specs.declared.profile.Profile.TheVariants.{One, Two}
use Rattle.ot_program.specs.Limits.{max_depth, size_depth, depth_of}
use Rattle.ot_program.specs.Meanings.{each, items, Bindings, number_bound, sign_of, op_of, mode_of, red_by, in_range, exact, size, is_called, position_of, cell_indexed, cell, section, value, clause, whole_number, is_name, is_word}
use Rattle.ot_program.specs.Faults.{unless, list_faults, deep, variable_faults, size_faults, array_faults, indexed_faults, cell_faults, section_faults, value_faults, expression_faults, clause_faults}
use Rattle.ot_program.specs.walk.Reading.{◌>>=◌, both_of}
use Rattle.ot_program.specs.walk.Sizes.{known_number, variable_of, number_size, size_operation, size_of, shallow}
use Rattle.ot_program.specs.walk.Sizes as sizes
use Rattle.ot_program.specs.walk.Parts.{known_from, known_of, array_of, cell_in, cell_at, cell_of, section_in, section_at, section_of, sections_of, literal_of, cell_value, operation, pick_of, value_of, not_too_deep, expression_of, clause_at, clause_of, clauses_of}
use Rattle.ot_program.proofs.Coded.{op_of_sign, known_array, code_clause}
use Rattle.ot_program.proofs.Firsts.{AreFrom, Reads, reads_both, reads_later, reads_then, reads_made, reads_test, reads_right, reads_no_form, reads_form_first, reads_if, reads_word, reads_each, reads_guard, unless-from, append-from}

-- ---- variables

known_number-reads : (o : Option ℕ) → Reads 1 (known_number o) (unwrap_or o 0) (unless (is_some o) Size)
known_number-reads None = record { is = refl; up_to = omega arith }
known_number-reads (Some n) = reads_right 1 n

pub variable_reads : (variables : Bindings) (s : List ℕ) → Reads 1 (variable_of variables s) (unwrap_or (number_bound variables s) 0) (variable_faults variables s)
variable_reads variables s =
    reads_word 1 (is_name s) (known_number (number_bound variables s)) (unwrap_or (number_bound variables s) 0) (unless (is_some (number_bound variables s)) Size)
    (known_number-reads (number_bound variables s))

-- ---- sizes

signs_by : (p q r : Bool)
    → cond p (Some op.Plus) (cond q (Some op.Minus) (cond r (Some op.Times) None))
    ≡ option_map op_of_sign (cond p (Some Plus) (cond q (Some Minus) (cond r (Some Times) None)))
signs_by true q r = refl
signs_by false true r = refl
signs_by false false true = refl
signs_by false false false = refl

signs_are : (t : Data) → sign_of t ≡ option_map op_of_sign (sizes.sign_of t)
signs_are (string s) = signs_by (bytes_eq s (codes "+")) (bytes_eq s (codes "-")) (bytes_eq s (codes "*"))
signs_are _ = refl

number_by : (b : Bool) (n : ℕ) → Reads 1 (cond b (Ok n) (Err Size)) n (unless (is_some (cond b (Some n) None)) Size)
number_by true n = reads_right 1 n
number_by false n = record { is = refl; up_to = omega arith }

number_reads : (o : Option ℕ)
    → Reads 1 (number_size o) (unwrap_or o 0) (unless (is_some o) Form ++ unless (is_some (in_range (unwrap_or o 0))) Size)
number_reads None = reads_form_first 1 0 (unless (is_some (in_range 0)) Size)
number_reads (Some n) = number_by (nat_lt n (2 ^ 32)) n

-- a result that is read, where there is one
abbrev pub Ranged : Result ℕ Refusal → Option ℕ → Type 0
Ranged r o = Reads 1 r (unwrap_or o 0) (unless (is_some o) Size)

ranged : (b : Bool) (n : ℕ) → Ranged (cond b (Ok n) (Err Size)) (cond b (Some n) None)
ranged true n = reads_right 1 n
ranged false n = record { is = refl; up_to = omega arith }

ranged_if : (b : Bool) (r : Result ℕ Refusal) (o : Option ℕ) → Ranged r o → Ranged (cond b r (Err Size)) (cond b o None)
ranged_if true r o h = h
ranged_if false r o h = record { is = refl; up_to = omega arith }

exact_reads : (sign : Sign) (a b : ℕ) → Ranged (sizes.exact sign a b) (exact (Some (op_of_sign sign)) a b)
exact_reads Plus a b = ranged (nat_lt (a + b) (2 ^ 32)) (a + b)
exact_reads Minus a b = ranged_if (nat_le b a) (sizes.in_range (a - b)) (in_range (a - b)) (ranged (nat_lt (a - b) (2 ^ 32)) (a - b))
exact_reads Times a b = ranged (nat_lt (a * b) (2 ^ 32)) (a * b)

-- an operation of sizes, by what it is called
abbrev pub Operates : Result ℕ Refusal → Option Op → ℕ → ℕ → List Refusal → Type 0
Operates r o a b fs = Reads 1 r (unwrap_or (exact o a b) 0) (unless (is_some o) Form ++ (fs ++ unless (is_some (exact o a b)) Size))

size_operation_reads : (o : Option Sign) (r s : Result ℕ Refusal) (a b : ℕ) (fs gs : List Refusal) → Reads 1 r a fs → Reads 1 s b gs
    → Operates (size_operation o r s) (option_map op_of_sign o) a b (fs ++ gs)
size_operation_reads None r s a b fs gs h k = reads_form_first 1 0 ((fs ++ gs) ++ unless false Size)
size_operation_reads (Some sign) r s a b fs gs h k =
    let o = exact (Some (op_of_sign sign)) a b in
    reads_then {A = ℕ × ℕ} 1 1 (both_of r s) (λ p. sizes.exact sign p.0 p.1) (a, b) (unwrap_or o 0) (fs ++ gs) (unless (is_some o) Size) (omega arith)
    (reads_both 1 r s a b fs gs h k) (unless-from 1 (is_some o) Size (omega arith)) (exact_reads sign a b)

size_reads_1 : (variables : Bindings) (d : Data) → Reads 1 (size_of variables d) (size variables d) (size_faults variables d)
unfolding size_of size size_faults
size_reads_1 variables (number n) = number_reads (whole_number n)
size_reads_1 variables (string s) = variable_reads variables s
size_reads_1 variables (array (item t (item a (item b no_items)))) =
    let r = size_operation (sizes.sign_of t) (size_of variables a) (size_of variables b) in
    let fs = size_faults variables a ++ size_faults variables b in
    subst (λ (o : Option Op). Operates r o (size variables a) (size variables b) fs) (sym (signs_are t))
    (size_operation_reads (sizes.sign_of t) (size_of variables a) (size_of variables b) (size variables a) (size variables b)
    (size_faults variables a) (size_faults variables b) (size_reads_1 variables a) (size_reads_1 variables b))
size_reads_1 variables _ = reads_no_form 1 0

pub size_reads : (variables : Bindings) (d : Data) → Reads 2 (size_of variables d) (size variables d) (size_faults variables d)
size_reads variables d = reads_later 1 2 (size_of variables d) (size variables d) (size_faults variables d) (omega arith) (size_reads_1 variables d)

pub deep-from : (k n : ℕ) → k ≤ 5 → AreFrom k (deep n)
deep-from k n below = unless-from k (nat_le n max_depth) TooLarge (omega arith)

pub shallow_reads : (d : Data) → Reads 5 (shallow d) tt (deep (size_depth d))
shallow_reads d = reads_test 5 (nat_le (size_depth d) max_depth) tt TooLarge (omega arith)

-- ---- arrays

-- the array that these arrays have from a position on
abbrev pub found_from : ℕ → List (List ℕ × ℕ) → Data → KnownArray
found_from k arrays name = record {
  position = k + position_or_len (is_called name) arrays;
  len = unwrap_or (option_map (λ a. a.1) (find (is_called name) arrays)) 0;
}

found_by : (b any : Bool) (k p n len : ℕ) (later : Option KnownArray)
    → later ≡ cond any (Some (record { position = suc k + p; len = len })) None
    → cond b (Some (record { position = k; len = n })) later
    ≡ cond (b || any) (Some (record { position = k + cond (not b) (1 + p) 0; len = cond b n len })) None
found_by true any k p n len later is = rw (add-zero k) refl
found_by false any k p n len later is = let e : suc k + p ≡ k + (1 + p) = omega arith in is ∙ rw e refl

len_by : (b : Bool) (a : List ℕ × ℕ) (o : Option (List ℕ × ℕ))
    → cond b a.1 (unwrap_or (option_map (λ a. a.1) o) 0) ≡ unwrap_or (option_map (λ a. a.1) (cond b (Some a) o)) 0
len_by true a o = refl
len_by false a o = refl

found_is : (k : ℕ) (s : List ℕ) (arrays : List (List ℕ × ℕ))
    → known_from k arrays s ≡ cond (list_any (is_called (string s)) arrays) (Some (found_from k arrays (string s))) None
found_is k s [] = refl
found_is k s (a ∷ rest) =
    let b = bytes_eq a.0 s in
    let o = find (is_called (string s)) rest in
    found_by b (list_any (is_called (string s)) rest) k (position_or_len (is_called (string s)) rest) a.1
    (unwrap_or (option_map (λ a. a.1) o) 0) (known_from (suc k) rest s) (found_is (suc k) s rest)
    ∙ rw (len_by b a o) refl

known_is : (shape : Arrays) (s : List ℕ)
    → known_from 0 shape.arrays s ≡ cond (list_any (is_called (string s)) shape.arrays) (Some (known_array shape (string s))) None
known_is shape s = found_is 0 s shape.arrays ∙ rw (zero-add (position_of shape (string s))) refl

known_reads : (any : Bool) (k : KnownArray) → Reads 2 (known_of (cond any (Some k) None)) k (unless any UnknownArray)
known_reads true k = reads_right 2 k
known_reads false k = record { is = refl; up_to = omega arith }

array_reads : (shape : Arrays) (d : Data) → Reads 2 (array_of shape d) (known_array shape d) (array_faults shape d)
array_reads shape (string s) =
    let any = list_any (is_called (string s)) shape.arrays in
    reads_word 2 (is_name s) (known_of (known_from 0 shape.arrays s)) (known_array shape (string s)) (unless any UnknownArray)
    (rw (known_is shape s) (known_reads any (known_array shape (string s))))
array_reads shape d = reads_form_first 2 (known_array shape d) (unless (list_any (is_called d) shape.arrays) UnknownArray)

-- ---- cells and sections

-- what was read stays what it is behind a test
pub reads_kept : {A B : Type 0} (last more : ℕ) (r : Result A Refusal) (test : Result B Refusal) (x : A) (y : B) (fs hs : List Refusal)
    → last ≤ more → Reads last r x fs → AreFrom last hs → Reads more test y hs → Reads more (r >>= λ z. test >>= λ u. Ok z) x (fs ++ hs)
reads_kept {A} last more r test x y fs hs below h later then =
    reads_then last more r (λ z. test >>= λ u. Ok z) x x fs hs below h later
    (reads_made more test (λ u. x) y hs then)

cell_at-reads : (shape : Arrays) (variables : Bindings) (name index : Data)
    → Reads 5 (cell_at shape variables name index) (cell_indexed shape variables name index) (indexed_faults shape variables name index)
cell_at-reads shape variables name index =
    let r = array_of shape name in
    let s = size_of variables index in
    let known = known_array shape name in
    let i = size variables index in
    let test = nat_lt i known.len in
    reads_then {A = KnownArray × ℕ} 2 5 (both_of r s) (λ p. cell_in p.0 p.1 >>= λ cell. shallow index >>= λ fits. Ok cell) (known, i) (cell_indexed shape variables name index)
    (array_faults shape name ++ size_faults variables index) (unless test OutOfRange ++ deep (size_depth index)) (omega arith)
    (reads_both 2 r s known i (array_faults shape name) (size_faults variables index) (array_reads shape name) (size_reads variables index))
    (append-from 2 (unless test OutOfRange) (deep (size_depth index)) (unless-from 2 test OutOfRange (omega arith)) (deep-from 2 (size_depth index) (omega arith)))
    (reads_kept 3 5 (cell_in known i) (shallow index) (cell_indexed shape variables name index) tt (unless test OutOfRange) (deep (size_depth index)) (omega arith)
    (reads_test 3 test (cell_indexed shape variables name index) OutOfRange (omega arith))
    (deep-from 3 (size_depth index) (omega arith)) (shallow_reads index))

pub cell_reads : (shape : Arrays) (variables : Bindings) (d : Data)
    → Reads 5 (cell_of shape variables d) (cell shape variables d) (cell_faults shape variables d)
cell_reads shape variables (array (item t (item a (item b no_items)))) =
    reads_word 5 (is_word t (codes "c")) (cell_at shape variables a b) (cell_indexed shape variables a b) (indexed_faults shape variables a b)
    (cell_at-reads shape variables a b)
cell_reads shape variables _ = reads_no_form 5 _

empty_reads : (zero : Bool) (s : Section) → Reads 4 (cond zero (Err EmptySection) (Ok s)) s (unless (not zero) EmptySection)
empty_reads true s = record { is = refl; up_to = omega arith }
empty_reads false s = reads_right 4 s

section_at-reads : (shape : Arrays) (variables : Bindings) (a b c : Data)
    → Reads 5 (section_at shape variables a b c) (section shape variables (array (item a (item b (item c no_items)))))
    (section_faults shape variables (array (item a (item b (item c no_items)))))
section_at-reads shape variables a b c =
    let r = array_of shape a in
    let s = size_of variables b in
    let t = size_of variables c in
    let known = known_array shape a in
    let i = size variables b in
    let n = size variables c in
    let x = section shape variables (array (item a (item b (item c no_items)))) in
    let inside = nat_le (i + n) known.len in
    let some = not (nat_eq n 0) in
    let ends = unless inside OutOfRange ++ unless some EmptySection in
    let deeps = deep (size_depth b) ++ deep (size_depth c) in
    reads_then {A = KnownArray × (ℕ × ℕ)} 2 5 (both_of r (both_of s t))
    (λ p. section_in p.0 p.1.0 p.1.1 >>= λ section. both_of (shallow b) (shallow c) >>= λ fit. Ok section) (known, (i, n)) x
    (array_faults shape a ++ (size_faults variables b ++ size_faults variables c)) (ends ++ deeps) (omega arith)
    (reads_both 2 r (both_of s t) known (i, n) (array_faults shape a) (size_faults variables b ++ size_faults variables c) (array_reads shape a)
    (reads_both 2 s t i n (size_faults variables b) (size_faults variables c) (size_reads variables b) (size_reads variables c)))
    (append-from 2 ends deeps
    (append-from 2 (unless inside OutOfRange) (unless some EmptySection) (unless-from 2 inside OutOfRange (omega arith)) (unless-from 2 some EmptySection (omega arith)))
    (append-from 2 (deep (size_depth b)) (deep (size_depth c)) (deep-from 2 (size_depth b) (omega arith)) (deep-from 2 (size_depth c) (omega arith))))
    (reads_kept 4 5 (section_in known i n) (both_of (shallow b) (shallow c)) x (tt, tt) ends deeps (omega arith)
    (reads_guard 4 inside OutOfRange (cond (nat_eq n 0) (Err EmptySection) (Ok x)) x (unless some EmptySection) (omega arith)
    (unless-from 3 some EmptySection (omega arith)) (empty_reads (nat_eq n 0) x))
    (append-from 4 (deep (size_depth b)) (deep (size_depth c)) (deep-from 4 (size_depth b) (omega arith)) (deep-from 4 (size_depth c) (omega arith)))
    (reads_both 5 (shallow b) (shallow c) tt tt (deep (size_depth b)) (deep (size_depth c)) (shallow_reads b) (shallow_reads c)))

pub section_reads : (shape : Arrays) (variables : Bindings) (d : Data)
    → Reads 5 (section_of shape variables d) (section shape variables d) (section_faults shape variables d)
section_reads shape variables (array (item a (item b (item c no_items)))) = section_at-reads shape variables a b c
section_reads shape variables _ = reads_no_form 5 _

pub sections_reads : (shape : Arrays) (variables : Bindings) (d : Data)
    → Reads 5 (sections_of shape variables d) (map (section shape variables) (items d)) (list_faults (section_faults shape variables) d)
sections_reads shape variables (array ds) =
    reads_each 5 (section_of shape variables) (section shape variables) (section_faults shape variables) (section_reads shape variables) ds
sections_reads shape variables _ = reads_no_form 5 _

-- ---- values

literal_reads : (o : Option ℕ) → Reads 5 (literal_of o) (Literal (unwrap_or o 0)) (unless (is_some o) Form)
literal_reads None = reads_no_form 5 _
literal_reads (Some n) = reads_right 5 (Literal n)

operation_reads : (o : Option Op) (r s : Result E Refusal) (x y : E) (fs gs : List Refusal) → Reads 5 r x fs → Reads 5 s y gs
    → Reads 5 (operation o r s) (Apply (unwrap_or o op.Plus) x y) (unless (is_some o) Form ++ (fs ++ gs))
operation_reads None r s x y fs gs h k = reads_form_first 5 _ (fs ++ gs)
operation_reads (Some o) r s x y fs gs h k = reads_made {A = E × E} 5 (both_of r s) (λ p. Apply o p.0 p.1) (x, y) (fs ++ gs)
    (reads_both 5 r s x y fs gs h k)

pub value_reads : (shape : Arrays) (variables : Bindings) (d : Data)
    → Reads 5 (value_of shape variables d) (value shape variables d) (value_faults shape variables d)
unfolding value_of value value_faults
value_reads shape variables (number n) = literal_reads (whole_number n)
value_reads shape variables (string s) =
    reads_made 5 (variable_of variables s) (λ n. Literal n) (unwrap_or (number_bound variables s) 0) (variable_faults variables s)
    (reads_later 1 5 (variable_of variables s) (unwrap_or (number_bound variables s) 0) (variable_faults variables s) (omega arith) (variable_reads variables s))
value_reads shape variables (array (item t (item a (item b no_items)))) =
    let one = value_of shape variables a in
    let two = value_of shape variables b in
    let x = value shape variables a in
    let y = value shape variables b in
    let fs = value_faults shape variables a in
    let gs = value_faults shape variables b in
    let o = op_of t in
    reads_if 5 (is_word t (codes "c")) (cell_value (cell_at shape variables a b))
    (cond (is_word t (codes "pick")) (pick_of (section_of shape variables a) two) (operation o one two))
    (CellAt (cell_indexed shape variables a b))
    (cond (is_word t (codes "pick")) (PickFrom (section shape variables a) y) (Apply (unwrap_or o op.Plus) x y))
    (indexed_faults shape variables a b)
    (cond (is_word t (codes "pick")) (section_faults shape variables a ++ gs) (unless (is_some o) Form ++ (fs ++ gs)))
    (reads_made 5 (cell_at shape variables a b) (λ c. CellAt c) (cell_indexed shape variables a b) (indexed_faults shape variables a b)
    (cell_at-reads shape variables a b))
    (reads_if 5 (is_word t (codes "pick")) (pick_of (section_of shape variables a) two) (operation o one two)
    (PickFrom (section shape variables a) y) (Apply (unwrap_or o op.Plus) x y)
    (section_faults shape variables a ++ gs) (unless (is_some o) Form ++ (fs ++ gs))
    (reads_made {A = Section × E} 5 (both_of (section_of shape variables a) two) (λ p. PickFrom p.0 p.1) (section shape variables a, y) (section_faults shape variables a ++ gs)
    (reads_both 5 (section_of shape variables a) two (section shape variables a) y (section_faults shape variables a) gs (section_reads shape variables a)
    (value_reads shape variables b)))
    (operation_reads o one two x y fs gs (value_reads shape variables a) (value_reads shape variables b)))
value_reads shape variables _ = reads_no_form 5 _

pub expression_reads : (shape : Arrays) (variables : Bindings) (d : Data)
    → Reads 5 (expression_of shape variables d) (value shape variables d) (expression_faults shape variables d)
expression_reads shape variables d =
    let e = value shape variables d in
    let test = nat_le (depth_of e) max_depth in
    reads_then 5 5 (value_of shape variables d) not_too_deep e e (value_faults shape variables d) (unless test TooLarge)
    (omega arith) (value_reads shape variables d) (unless-from 5 test TooLarge (omega arith))
    (reads_test 5 test e TooLarge (omega arith))

-- ---- clauses

pub clause_at-reads : (o : Option Mode) (r : Result Section Refusal) (s : Section) (fs : List Refusal) → Reads 5 r s fs
    → Reads 5 (clause_at o r) (record { mode = unwrap_or o AsRead; section = s }) (unless (is_some o) Form ++ fs)
clause_at-reads None r s fs h = reads_form_first 5 _ fs
clause_at-reads (Some mode) r s fs h = reads_made 5 r (λ z. record { mode = mode; section = z }) s fs h

clause_reads : (shape : Arrays) (profile : Profile) (variables : Bindings) (d : Data)
    → Reads 5 (clause_of shape profile variables d) (code_clause (clause shape profile variables d)) (clause_faults shape profile variables d)
clause_reads shape profile variables (array (item t (item a no_items))) =
    clause_at-reads (mode_of profile t) (section_of shape variables a) (section shape variables a) (section_faults shape variables a) (section_reads shape variables a)
clause_reads shape Two variables (array (item t (item op (item a no_items)))) =
    clause_at-reads (red_by t op) (section_of shape variables a) (section shape variables a) (section_faults shape variables a) (section_reads shape variables a)
clause_reads shape One variables (array (item t (item op (item a no_items)))) = reads_no_form 5 _
clause_reads shape One variables _ = reads_no_form 5 _
clause_reads shape Two variables _ = reads_no_form 5 _

pub map_map : {A B C : Type 0} (f : A → B) (g : B → C) (xs : List A) → map (λ x. g (f x)) xs ≡ map g (map f xs)
map_map f g [] = refl
map_map {A} {B} {C} f g (x ∷ xs) = ap (λ (ys : List C). g (f x) ∷ ys) (map_map f g xs)

pub clauses_reads : (shape : Arrays) (profile : Profile) (variables : Bindings) (d : Data)
    → Reads 5 (clauses_of shape profile variables d) (map code_clause (map (clause shape profile variables) (items d))) (list_faults (clause_faults shape profile variables) d)
clauses_reads shape profile variables (array ds) =
    rw (← map_map (clause shape profile variables) code_clause (each ds))
    (reads_each 5 (clause_of shape profile variables) (λ d. code_clause (clause shape profile variables d)) (clause_faults shape profile variables) (clause_reads shape profile variables) ds)
clauses_reads shape profile variables _ = reads_no_form 5 _
