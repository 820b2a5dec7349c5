-- Different sets and folds have different bytes.
use Rattle.std.proofs.Common.{nat_lt, if◌then◌else◌, tests, ◌≡◌, ℕ, ◌+◌, ◌/◌, ◌%◌, ◌^◌, List, [], ◌∷◌, ◌++◌, Bool, true, false, refl, sym, ap, ap₂, ◌∙◌, append_assoc, append-nil, true≢false, arith, ◌<◌, ◌≤◌, length, get_or, drop}
use Rattle.std.specs.Prelude.{◌↔◌, IsTrue}
use Rattle.std.proofs.lemmas.List.{drop_more, drop_all}
use Rattle.ot_model.specs.Tree.{E, Literal, CellAt, Apply, PickFrom, S, Set, Fold, Body, Next}
use Rattle.ot_model.specs.declared.expr.Cell.{Cell}
use Rattle.ot_model.specs.declared.expr.Section.{Section}
use Rattle.ot_model.specs.declared.expr.Op.{Op}
use Rattle.ot_model.specs.declared.fold.Fold.{Fold as Operation}
use Rattle.ot_model.specs.View.{expr_of}
use Rattle.ot_model.specs.Code.{op_number, op_at, op-back, operation_at, operation-back}
use Rattle.ot_model.specs.Cells.{number_of}
use Rattle.ot_parts.specs.declared.assign.Assign.{Assign}
use Rattle.ot_parts.specs.declared.assign.Assign.TheVariants as v
use Rattle.ot_parts.specs.Assigns.{assign_of, assigns_of}
use Rattle.ot_parts.specs.Bytes.{four_bytes, number_bytes, cell_bytes, value_bytes, assign_bytes, bytes_of}

abbrev first : List ℕ → ℕ
first [] = 0
first (x ∷ xs) = x

abbrev rest : List ℕ → List ℕ
rest [] = []
rest (x ∷ xs) = xs

abbrev second : List ℕ → ℕ
second xs = first (rest xs)

abbrev third : List ℕ → ℕ
third xs = first (rest (rest xs))

abbrev fourth : List ℕ → ℕ
fourth xs = first (rest (rest (rest xs)))

abbrev is_none : List ℕ → Bool
is_none [] = true
is_none (x ∷ xs) = false

same-op : (o p : Op) → 3 + op_number o ≡ 3 + op_number p → o ≡ p
same-op o p h = let e : op_number o ≡ op_number p = omega (arith, h) in sym (op-back o) ∙ ap op_at e ∙ op-back p

same-operation : (o p : Operation) → 1 + number_of o ≡ 1 + number_of p → o ≡ p
same-operation o p h = let e : number_of o ≡ number_of p = omega (arith, h) in sym (operation-back o) ∙ ap operation_at e ∙ operation-back p

same-four : (n m : ℕ) (k l : List ℕ) → four_bytes n ++ k ≡ four_bytes m ++ l → (n ≡ m) × (k ≡ l)
same-four n m k l h =
    let a : n % 256 ≡ m % 256 = ap first h in
    let b : n / 256 % 256 ≡ m / 256 % 256 = ap second h in
    let c : n / 65536 % 256 ≡ m / 65536 % 256 = ap third h in
    let d : n / 16777216 ≡ m / 16777216 = ap fourth h in
    (omega (arith, a, b, c, d), ap (λ xs. rest (rest (rest (rest xs)))) h)

same-long : (n m : ℕ) → n % 2 ^ 32 ≡ m % 2 ^ 32 → n / 2 ^ 32 ≡ m / 2 ^ 32 → n ≡ m
same-long n m p q = omega (arith, p, q)

same-short : (n m : ℕ) → n / 256 ≡ m / 256 → n % 256 ≡ m % 256 → n ≡ m
same-short n m p q = omega (arith, p, q)

-- by whether each is short
same-numbers : (n m : ℕ) (k l : List ℕ) (a b : Bool) → nat_lt n 65280 ≡ a → nat_lt m 65280 ≡ b
    → (if a then n / 256 ∷ n % 256 ∷ [] else 255 ∷ (four_bytes (n % 2 ^ 32) ++ four_bytes (n / 2 ^ 32))) ++ k
    ≡ (if b then m / 256 ∷ m % 256 ∷ [] else 255 ∷ (four_bytes (m % 2 ^ 32) ++ four_bytes (m / 2 ^ 32))) ++ l
    → (n ≡ m) × (k ≡ l)
same-numbers n m k l true true p q h = (same-short n m (ap first h) (ap second h), ap (λ xs. rest (rest xs)) h)
same-numbers n m k l true false p q h = let e : n / 256 ≡ 255 = ap first h in absurd (grind (arith, tests, e, p))
same-numbers n m k l false true p q h = let e : 255 ≡ m / 256 = ap first h in absurd (grind (arith, tests, e, q))
same-numbers n m k l false false p q h =
    let one = same-four (n % 2 ^ 32) (m % 2 ^ 32) (four_bytes (n / 2 ^ 32) ++ k) (four_bytes (m / 2 ^ 32) ++ l) (ap rest h) in
    let two = same-four (n / 2 ^ 32) (m / 2 ^ 32) k l one.1 in
    (same-long n m one.0 two.0, two.1)

same-number : (n m : ℕ) (k l : List ℕ) → number_bytes n ++ k ≡ number_bytes m ++ l → (n ≡ m) × (k ≡ l)
same-number n m k l h = same-numbers n m k l (nat_lt n 65280) (nat_lt m 65280) refl refl h

same-cell : (c d : Cell) (k l : List ℕ) → cell_bytes c ++ k ≡ cell_bytes d ++ l → (c ≡ d) × (k ≡ l)
same-cell c d k l h =
    let one = same-number c.array d.array (number_bytes c.index ++ k) (number_bytes d.index ++ l)
    (sym (append_assoc (number_bytes c.array) (number_bytes c.index) k) ∙ h ∙ append_assoc (number_bytes d.array) (number_bytes d.index) l) in
    let two = same-number c.index d.index k l one.1 in
    (ap₂ (λ x y. record { array = x; index = y }) one.0 two.0, two.1)

-- what stands behind three numbers
behind : (a b c d k : List ℕ) → (a ++ (b ++ (c ++ d))) ++ k ≡ a ++ (b ++ (c ++ (d ++ k)))
behind a b c d k =
    append_assoc a (b ++ (c ++ d)) k ∙ ap (λ x. a ++ x) (append_assoc b (c ++ d) k ∙ ap (λ x. b ++ x) (append_assoc c d k))

same-section : (s t : Section) (x y : List ℕ) → number_bytes s.array ++ (number_bytes s.start ++ (number_bytes s.len ++ x)) ≡ number_bytes t.array ++ (number_bytes t.start ++ (number_bytes t.len ++ y)) → (s ≡ t) × (x ≡ y)
same-section s t x y h =
    let one = same-number s.array t.array (number_bytes s.start ++ (number_bytes s.len ++ x)) (number_bytes t.start ++ (number_bytes t.len ++ y)) h in
    let two = same-number s.start t.start (number_bytes s.len ++ x) (number_bytes t.len ++ y) one.1 in
    let last = same-number s.len t.len x y two.1 in
    (ap₂ (λ (p : ℕ × ℕ) z. record { array = p.0; start = p.1; len = z }) (ap₂ (λ u v. (u, v)) one.0 two.0) last.0, last.1)

-- a value's bytes tell where they end
pub same-value : (a b : E) (k l : List ℕ) → value_bytes a ++ k ≡ value_bytes b ++ l → (a ≡ b) × (k ≡ l)
same-value (Literal n) (Literal m) k l h = let r = same-number n m k l (ap rest h) in (ap Literal r.0, r.1)
same-value (Literal n) (CellAt d) k l h = let e : 0 ≡ 1 = ap first h in absurd (grind (arith, e))
same-value (Literal n) (PickFrom t b) k l h = let e : 0 ≡ 2 = ap first h in absurd (grind (arith, e))
same-value (Literal n) (Apply p x y) k l h = let e : 0 ≡ 3 + op_number p = ap first h in absurd (grind (arith, e))
same-value (CellAt c) (Literal m) k l h = let e : 1 ≡ 0 = ap first h in absurd (grind (arith, e))
same-value (CellAt c) (CellAt d) k l h = let r = same-cell c d k l (ap rest h) in (ap CellAt r.0, r.1)
same-value (CellAt c) (PickFrom t b) k l h = let e : 1 ≡ 2 = ap first h in absurd (grind (arith, e))
same-value (CellAt c) (Apply p x y) k l h = let e : 1 ≡ 3 + op_number p = ap first h in absurd (grind (arith, e))
same-value (PickFrom s a) (Literal m) k l h = let e : 2 ≡ 0 = ap first h in absurd (grind (arith, e))
same-value (PickFrom s a) (CellAt d) k l h = let e : 2 ≡ 1 = ap first h in absurd (grind (arith, e))
same-value (PickFrom s a) (PickFrom t b) k l h =
    let r = same-section s t (value_bytes a ++ k) (value_bytes b ++ l)
    (sym (behind (number_bytes s.array) (number_bytes s.start) (number_bytes s.len) (value_bytes a) k) ∙ ap rest h ∙ behind (number_bytes t.array) (number_bytes t.start) (number_bytes t.len) (value_bytes b) l) in
    let v = same-value a b k l r.1 in
    (ap₂ PickFrom r.0 v.0, v.1)
same-value (PickFrom s a) (Apply p x y) k l h = let e : 2 ≡ 3 + op_number p = ap first h in absurd (grind (arith, e))
same-value (Apply o a b) (Literal m) k l h = let e : 3 + op_number o ≡ 0 = ap first h in absurd (grind (arith, e))
same-value (Apply o a b) (CellAt d) k l h = let e : 3 + op_number o ≡ 1 = ap first h in absurd (grind (arith, e))
same-value (Apply o a b) (PickFrom t c) k l h = let e : 3 + op_number o ≡ 2 = ap first h in absurd (grind (arith, e))
same-value (Apply o a b) (Apply p x y) k l h =
    let one = same-value a x (value_bytes b ++ k) (value_bytes y ++ l) (sym (append_assoc (value_bytes a) (value_bytes b) k) ∙ ap rest h ∙ append_assoc (value_bytes x) (value_bytes y) l) in
    let two = same-value b y k l one.1 in
    (ap₂ (λ (f : E → E) (z : E). f z) (ap₂ (λ q x z. Apply q x z) (same-op o p (ap first h)) one.0) two.0, two.1)

-- a cell and a value
same-both : (c d : Cell) (a b : E) (k l : List ℕ) → (cell_bytes c ++ value_bytes a) ++ k ≡ (cell_bytes d ++ value_bytes b) ++ l → (c ≡ d) × (a ≡ b) × (k ≡ l)
same-both c d a b k l h =
    let one = same-cell c d (value_bytes a ++ k) (value_bytes b ++ l) (sym (append_assoc (cell_bytes c) (value_bytes a) k) ∙ h ∙ append_assoc (cell_bytes d) (value_bytes b) l) in
    let two = same-value a b k l one.1 in
    (one.0, two.0, two.1)

pub same-assign : (x y : Assign) (k l : List ℕ) → assign_bytes (assign_of x) ++ k ≡ assign_bytes (assign_of y) ++ l → (assign_of x ≡ assign_of y) × (k ≡ l)
same-assign (v.Set c a) (v.Set d b) k l h = let r = same-both c d (expr_of a) (expr_of b) k l (ap rest h) in (ap₂ Set r.0 r.1, r.2)
same-assign (v.Set c a) (v.Fold p d b) k l h = let e : 0 ≡ 1 + number_of p = ap first h in absurd (grind (arith, e))
same-assign (v.Fold o c a) (v.Set d b) k l h = let e : 1 + number_of o ≡ 0 = ap first h in absurd (grind (arith, e))
same-assign (v.Fold o c a) (v.Fold p d b) k l h =
    let r = same-both c d (expr_of a) (expr_of b) k l (ap rest h) in
    (ap₂ (λ (f : E → S) (z : E). f z) (ap₂ (λ q x z. Fold q x z) (same-operation o p (ap first h)) r.0) r.1, r.2)

has-bytes : (x : Assign) (k : List ℕ) → is_none (assign_bytes (assign_of x) ++ k) ≡ false
has-bytes (v.Set c a) k = refl
has-bytes (v.Fold o c a) k = refl

-- equal bytes are of equal sets and folds
pub same-bytes : (xs ys : List Assign) → bytes_of (assigns_of xs) ≡ bytes_of (assigns_of ys) → assigns_of xs ≡ assigns_of ys
same-bytes [] [] h = refl
same-bytes [] (y ∷ ys) h = absurd (true≢false (ap is_none h ∙ has-bytes y (bytes_of (assigns_of ys))))
same-bytes (x ∷ xs) [] h = absurd (true≢false (sym (ap is_none h) ∙ has-bytes x (bytes_of (assigns_of xs))))
same-bytes (x ∷ xs) (y ∷ ys) h =
    let r = same-assign x y (bytes_of (assigns_of xs)) (bytes_of (assigns_of ys)) h in
    ap₂ Next r.0 (same-bytes xs ys r.1)

pub split : (xs : List Assign) (i : ℕ) (x : Assign) → i < length xs → x ≡ get_or xs i x → assigns_of (drop i xs) ≡ Next (assign_of x) (assigns_of (drop (i + 1) xs))
split xs i x within is = ap assigns_of (drop_more xs i x within) ∙ ap (λ a. Next (assign_of a) (assigns_of (drop (i + 1) xs))) (sym is)

-- the bytes of one more are written
pub written : (xs : List Assign) (old new : List ℕ) (i : ℕ) (x : Assign) → i < length xs → x ≡ get_or xs i x → new ≡ old ++ assign_bytes (assign_of x)
    → new ++ bytes_of (assigns_of (drop (i + 1) xs)) ≡ old ++ bytes_of (assigns_of (drop i xs))
written xs old new i x within is put =
    ap (λ w. w ++ bytes_of (assigns_of (drop (i + 1) xs))) put ∙ append_assoc old (assign_bytes (assign_of x)) (bytes_of (assigns_of (drop (i + 1) xs)))
    ∙ ap (λ b. old ++ bytes_of b) (sym (split xs i x within is))

-- all are written
pub ended : (xs : List Assign) (old : List ℕ) (i : ℕ) → length xs ≤ i → old ≡ old ++ bytes_of (assigns_of (drop i xs))
ended xs old i past = sym (append-nil old) ∙ ap (λ l. old ++ bytes_of (assigns_of l)) (sym (drop_all i xs past))

-- the bytes decide
pub decided : (r : Bool) (xs ys : List Assign) (a b : Body) (v w : List ℕ) → assigns_of xs ≡ a → assigns_of ys ≡ b → v ≡ bytes_of a → w ≡ bytes_of b → (IsTrue r ↔ v ≡ w) → (IsTrue r ↔ a ≡ b)
decided r xs ys a b v w ea eb ev ew t = (
  (λ h. sym ea ∙ same-bytes xs ys (ap bytes_of ea ∙ sym ev ∙ t.0 h ∙ ew ∙ sym (ap bytes_of eb)) ∙ eb),
  λ h. t.1 (ev ∙ ap bytes_of h ∙ sym ew),
)
