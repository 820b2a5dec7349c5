-- In C, the clauses of a task or a wait determine what it declares.
use Rattle.std.proofs.Common.{◌≡◌, ℕ, suc, ◌+◌, ◌<◌, ◌^◌, ◌==◌, List, [], ◌∷◌, ◌++◌, length, drop, Bool, true, false, not, ◌&&◌, if◌then◌else◌, refl, sym, ap, subst, ◌∙◌, append_assoc, arith, true≢false}
use Rattle.std.specs.Prelude.{codes, decimal}
use Rattle.std.proofs.lemmas.Fmt.{decimal_injective}
use Rattle.std.proofs.lemmas.List.{append_cancel_left, append_cancel_right, append-nil}
use Rattle.ot_model.specs.declared.expr.Cell.{Cell}
use Rattle.ot_model.specs.declared.expr.Section.{Section}
use Rattle.ot_model.specs.declared.fold.Fold.{Fold as Operation}
use Rattle.ot_model.specs.declared.fold.Fold.TheVariants as f
use Rattle.ot_model.specs.declared.stmt.Mode.{Mode}
use Rattle.ot_model.specs.declared.stmt.Mode.TheVariants as m
use Rattle.ot_model.specs.declared.stmt.Use.{Use}
use Rattle.ot_model.specs.Signs.{identifier}
use Rattle.ot_model.specs.Cells.{AreInOrder, number_of}
use Rattle.ot_show_print.specs.Shown.{Text, name, cells_in, sections_of, section_cells}
use Rattle.ot_show_print.specs.Laws.{is_digit, CellsFit}
use Rattle.ot_show_print.proofs.WordLemmas.{and_true, head_of, tail_of}
use Rattle.ot_show_print.proofs.ValueLemmas.{same_cell, same_section}
use Rattle.ot_show_print.proofs.SectionLemmas.{come_back}
use Rattle.ot_show_print.proofs.ClauseLemmas.{same_uses}
use Rattle.ot_show_c.specs.Statements.{short, list_clause, iterations, c_dependences, pointer_word, pointer, pointer_items, c_reduction, fold_clauses, c_clauses}
use Rattle.ot_show_c.specs.Laws.{all_identifier, AreIdentifiers, CUsesFit, DeclarationIsDetermined}
use Rattle.ot_show_c.proofs.WordLemmas.{all_of, all_append, split_by, starts, split, all_digits, only_digits, number_word, word_append, same_number, name_word, same_array, one_cell}
use Rattle.ot_show_c.proofs.OrderLemmas.{long, AreSorted, sorted_in, by_parts}
use Rattle.ot_show_c.proofs.DependenceLemmas.{quiet, all_quiet, word_quiet, quiet_append, number_quiet, name_quiet, keep, keep_copying, kind_text, cells_text, listed_cells, SectionFits, SectionsFit, one_iterated, all_iterated, short_fit, long_fit, cells_fit, sections_fit, small_in, cells_are_small, deps_are, cells_quiet, listed_shown, iterated_rest, iterated_shown, keep_deps, HoldOfClauses, in_deps, Outside}

-- ---- reductions are kept

word_pointer : (op : Operation) → all_identifier (pointer_word op) ≡ true
word_pointer f.Plus = refl
word_pointer _ = refl

identifier_quiet : (op : Operation) → all_quiet (identifier op) ≡ true
identifier_quiet f.Plus = refl
identifier_quiet _ = refl

pub pointer_is_word : (names : List Text) → AreIdentifiers names → (op : Operation) (c : Cell) → c.array < length names → c.index < 2 ^ 64 → all_identifier (pointer names op c) ≡ true
pointer_is_word names are op c array index =
    word_append (pointer_word op ++ name names c.array ++ codes "_") (decimal c.index)
    (word_append (pointer_word op ++ name names c.array) (codes "_") (word_append (pointer_word op) (name names c.array) (word_pointer op) (name_word (name names c.array) (are.each c.array array))) refl)
    (number_word c.index index)

pointed_quiet : (names : List Text) → AreIdentifiers names → (w : Text) (op : Operation) (cs : List Cell) → all_quiet w ≡ true → CellsFit names cs → all_quiet (pointer_items names w op cs) ≡ true
pointed_quiet names are w op [] h fit = refl
pointed_quiet names are w op (c ∷ cs) h fit =
    quiet_append (w ++ pointer names op c ++ codes "[0:1]") (pointer_items names (codes ", ") op cs)
    (quiet_append (w ++ pointer names op c) (codes "[0:1]") (quiet_append w (pointer names op c) h (word_quiet (pointer names op c) (pointer_is_word names are op c fit.0.0 fit.0.1))) refl)
    (pointed_quiet names are (codes ", ") op cs refl fit.1)

abbrev one_reduction : List Text → Operation → List Cell → Text
one_reduction names op cs = c_reduction names (codes " in_reduction(") op cs

reduction_shown : (names : List Text) (op : Operation) (c : Cell) (cs : List Cell) (t : Text) → one_reduction names op (c ∷ cs) ++ t ≡ codes " in_reduction(" ++ (identifier op ++ (pointer_items names (codes ": ") op (c ∷ cs) ++ (41 ∷ t)))
reduction_shown names op c cs t = parts (codes " in_reduction(") (identifier op) (pointer_items names (codes ": ") op (c ∷ cs)) t
  where
    parts : (a b x t : Text) → (a ++ b ++ x ++ (41 ∷ [])) ++ t ≡ a ++ (b ++ (x ++ (41 ∷ t)))
    parts a b x t = simp append_assoc refl

keep_reduction : (names : List Text) → AreIdentifiers names → (op : Operation) (cs : List Cell) (t : Text) → CellsFit names cs → keep Outside (one_reduction names op cs ++ t) ≡ one_reduction names op cs ++ keep Outside t
keep_reduction names are op [] t fit = refl
keep_reduction names are op (c ∷ cs) t fit =
    let x = pointer_items names (codes ": ") op (c ∷ cs) in
    ap (keep Outside) (reduction_shown names op c cs t)
    ∙ ap (λ u. codes " in_reduction(" ++ u) (keep_copying (identifier op) (x ++ (41 ∷ t)) (identifier_quiet op) ∙ ap (λ u. identifier op ++ u) (keep_copying x (41 ∷ t) (pointed_quiet names are (codes ": ") op (c ∷ cs) refl fit)))
    ∙ sym (reduction_shown names op c cs (keep Outside t))

-- ---- all that is folded, and its reductions

abbrev pub all_folded : List Text → List Use → List Operation → Text
all_folded names us [] = []
all_folded names us (op ∷ ops) = fold_clauses names us op ++ all_folded names us ops

abbrev reductions : List Text → List Use → List Operation → Text
reductions names us [] = []
reductions names us (op ∷ ops) = one_reduction names op (cells_in us (m.Folds op)) ++ reductions names us ops

keep_folded : (names : List Text) → AreIdentifiers names → (us : List Use) (ops : List Operation) → CUsesFit names us → keep Outside (all_folded names us ops) ≡ reductions names us ops
keep_folded names are us [] fit = refl
keep_folded names are us (op ∷ ops) fit =
    let cs = cells_in us (m.Folds op) in
    let deps = c_dependences names (codes "in") us (m.Folds op) in
    let red = one_reduction names op cs in
    let rest = all_folded names us ops in
    ap (keep Outside) (append_assoc deps red rest) ∙ keep_deps names are true us (m.Folds op) (red ++ rest) fit
    ∙ keep_reduction names are op cs rest (cells_are_small names cs (small_in names us (m.Folds op) fit)) ∙ ap (λ t. red ++ t) (keep_folded names are us ops fit)

abbrev pub operations : List Operation
operations = f.Plus ∷ f.Times ∷ f.And ∷ f.Or ∷ f.Xor ∷ f.Min ∷ f.Max ∷ []

abbrev pub depends : List Text → List Use → Text
depends names us = c_dependences names (codes "in") us m.Reads ++ c_dependences names (codes "out") us m.Writes

pub declared_shown : (names : List Text) (us : List Use) → c_clauses names us ≡ depends names us ++ all_folded names us operations
declared_shown names us = simp (append_assoc, append-nil) refl

keep_declared : (names : List Text) → AreIdentifiers names → (us : List Use) → CUsesFit names us → keep Outside (c_clauses names us) ≡ reductions names us operations
keep_declared names are us fit =
    let one = c_dependences names (codes "in") us m.Reads in
    let two = c_dependences names (codes "out") us m.Writes in
    let rest = all_folded names us operations in
    ap (keep Outside) (declared_shown names us ∙ append_assoc one two rest) ∙ keep_deps names are true us m.Reads (two ++ rest) fit ∙ keep_deps names are false us m.Writes rest fit ∙ keep_folded names are us operations fit

-- what holds of clauses holds of all that are declared
pub in_declared : (names : List Text) (P : Text → Type 0) → HoldOfClauses names P → ((op : Operation) (c : Cell) (cs : List Cell) → CellsFit names (c ∷ cs) → P (one_reduction names op (c ∷ cs))) → (us : List Use) → CUsesFit names us → P (c_clauses names us)
in_declared names P h reduces us fit =
    subst P (sym (declared_shown names us))
    (h.both (depends names us) (all_folded names us operations)
    (h.both (c_dependences names (codes "in") us m.Reads) (c_dependences names (codes "out") us m.Writes) (in_deps names P h true us m.Reads fit) (in_deps names P h false us m.Writes fit)) (folds operations))
  where
    reduced : (op : Operation) (cs : List Cell) → CellsFit names cs → P (one_reduction names op cs)
    reduced op [] f = h.none
    reduced op (c ∷ cs) f = reduces op c cs f

    folds : (ops : List Operation) → P (all_folded names us ops)
    folds [] = h.none
    folds (op ∷ ops) =
        let cs = cells_in us (m.Folds op) in
        h.both (fold_clauses names us op) (all_folded names us ops)
        (h.both (c_dependences names (codes "in") us (m.Folds op)) (one_reduction names op cs) (in_deps names P h true us (m.Folds op) fit) (reduced op cs (cells_are_small names cs (small_in names us (m.Folds op) fit)))) (folds ops)

-- ---- reductions determine what is folded

op_number : Text → ℕ
op_number [] = 9
op_number (b ∷ []) = 9
op_number (b ∷ c ∷ t) = if b == 43 then 0 else if b == 42 then 1 else if b == 38 then 2 else if b == 124 then 3 else if b == 94 then 4 else if c == 105 then 5 else 6

-- the number of the operation of the clause in front, or 9
first_op : Text → ℕ
first_op t = op_number (drop 14 t)

no_clause : first_op [] ≡ 9
unfolding first_op op_number
no_clause = refl

op_in_front : (op : Operation) (t : Text) → first_op (codes " in_reduction(" ++ (identifier op ++ (58 ∷ t))) ≡ number_of op
unfolding first_op op_number
op_in_front f.Plus t = refl
op_in_front _ t = refl

first_reduction : (names : List Text) (op : Operation) (c : Cell) (cs : List Cell) (t : Text) → first_op (one_reduction names op (c ∷ cs) ++ t) ≡ number_of op
first_reduction names op c cs t =
    ap first_op (reduction_shown names op c cs t) ∙ op_in_front op (tail_of (pointer_items names (codes ": ") op (c ∷ cs) ++ (41 ∷ t)))

-- operations one after the other, by their numbers
abbrev AreFrom : ℕ → List Operation → Type 0
AreFrom n [] = Unit {0}
AreFrom n (op ∷ ops) = (number_of op ≡ n) × AreFrom (suc n) ops

small_number : (op : Operation) → number_of op < 9
small_number f.Plus = omega arith
small_number _ = omega arith

later_op : (names : List Text) (us : List Use) (k n : ℕ) (ops : List Operation) → k < 9 → k < n → AreFrom n ops → k < first_op (reductions names us ops)
later_op names us k n [] small below from = let e = no_clause in omega (arith, e, small)
later_op names us k n (op ∷ ops) small below from = at_once (cells_in us (m.Folds op)) (later_op names us k (suc n) ops small (omega (arith, below)) from.1)
  where
    at_once : (cs : List Cell) → k < first_op (reductions names us ops) → k < first_op (one_reduction names op cs ++ reductions names us ops)
    at_once [] rest = rest
    at_once (c ∷ cs) rest = let e = first_reduction names op c cs (reductions names us ops) in let h = from.0 in omega (arith, e, h, below)

-- a name and digits, with `_` between them
no_digits : (xs d : Text) → all_digits (xs ++ (95 ∷ d)) ≡ false
no_digits [] d = refl
no_digits (x ∷ xs) d = step (is_digit x) (all_digits (xs ++ (95 ∷ d))) (no_digits xs d)
  where
    step : (a b : Bool) → b ≡ false → (a && b) ≡ false
    step true b h = h
    step false b h = refl

same_ends : (v w d e : Text) → all_digits d ≡ true → all_digits e ≡ true → v ++ (95 ∷ d) ≡ w ++ (95 ∷ e) → (v ≡ w) × (d ≡ e)
same_ends [] [] d e hd he is = (refl, ap tail_of is)
same_ends [] (x ∷ xs) d e hd he is = absurd (true≢false (sym hd ∙ ap all_digits (ap tail_of is) ∙ no_digits xs e))
same_ends (x ∷ xs) [] d e hd he is = absurd (true≢false (sym he ∙ ap all_digits (sym (ap tail_of is)) ∙ no_digits xs d))
same_ends (x ∷ xs) (y ∷ ys) d e hd he is =
    let inner = same_ends xs ys d e hd he (ap tail_of is) in
    (ap (λ b. b ∷ xs) (ap head_of is) ∙ ap (λ bs. y ∷ bs) inner.0, inner.1)

pointer_shown : (names : List Text) (w : Text) (op : Operation) (c : Cell) (cs : List Cell) (t : Text) → pointer_items names w op (c ∷ cs) ++ t ≡ w ++ (pointer names op c ++ (91 ∷ 48 ∷ 58 ∷ 49 ∷ 93 ∷ (pointer_items names (codes ", ") op cs ++ t)))
pointer_shown names w op c cs t = simp append_assoc refl

pointer_parts : (names : List Text) (op : Operation) (c : Cell) → pointer names op c ≡ pointer_word op ++ (name names c.array ++ (95 ∷ decimal c.index))
pointer_parts names op c = simp append_assoc refl

pub same_pointer : (names : List Text) → AreIdentifiers names → (op : Operation) (c d : Cell) (t u : Text) → c.array < length names → c.index < 2 ^ 64 → d.array < length names → d.index < 2 ^ 64 → starts t ≡ false → starts u ≡ false
    → pointer names op c ++ t ≡ pointer names op d ++ u → (c ≡ d) × (t ≡ u)
same_pointer names are op c d t u hc ic hd id ht hu is =
    let words = split (pointer names op c) (pointer names op d) t u (pointer_is_word names are op c hc ic) (pointer_is_word names are op d hd id) ht hu is in
    let inner = append_cancel_left (pointer_word op) (name names c.array ++ (95 ∷ decimal c.index)) (name names d.array ++ (95 ∷ decimal d.index)) (sym (pointer_parts names op c) ∙ words.0 ∙ pointer_parts names op d) in
    let ends = same_ends (name names c.array) (name names d.array) (decimal c.index) (decimal d.index) (only_digits c.index ic) (only_digits d.index id) inner in
    (same_cell c d (are.differ c.array d.array hc hd ends.0) (decimal_injective c.index d.index ic id ends.1), words.1)

first_pointed : (names : List Text) → AreIdentifiers names → (w : Text) (op : Operation) (c d : Cell) (cs ds : List Cell) (t u : Text) → CellsFit names (c ∷ cs) → CellsFit names (d ∷ ds) → pointer_items names w op (c ∷ cs) ++ t ≡ pointer_items names w op (d ∷ ds) ++ u
    → (c ≡ d) × (pointer_items names (codes ", ") op cs ++ t ≡ pointer_items names (codes ", ") op ds ++ u)
first_pointed names are w op c d cs ds t u f g is =
    let x = pointer_items names (codes ", ") op cs ++ t in
    let y = pointer_items names (codes ", ") op ds ++ u in
    let one = same_pointer names are op c d (codes "[0:1]" ++ x) (codes "[0:1]" ++ y) f.0.0 f.0.1 g.0.0 g.0.1 refl refl
    (append_cancel_left w (pointer names op c ++ (codes "[0:1]" ++ x)) (pointer names op d ++ (codes "[0:1]" ++ y)) (sym (pointer_shown names w op c cs t) ∙ is ∙ pointer_shown names w op d ds u)) in
    (one.0, append_cancel_left (codes "[0:1]") x y one.1)

same_further : (names : List Text) → AreIdentifiers names → (op : Operation) (cs ds : List Cell) (r u : Text) → CellsFit names cs → CellsFit names ds → pointer_items names (codes ", ") op cs ++ (41 ∷ r) ≡ pointer_items names (codes ", ") op ds ++ (41 ∷ u) → (cs ≡ ds) × (r ≡ u)
same_further names are op [] [] r u f g is = (refl, ap tail_of is)
same_further names are op [] (d ∷ ds) r u f g is = absurd (omega (arith, ap head_of (is ∙ pointer_shown names (codes ", ") op d ds (41 ∷ u))))
same_further names are op (c ∷ cs) [] r u f g is = absurd (omega (arith, ap head_of (sym is ∙ pointer_shown names (codes ", ") op c cs (41 ∷ r))))
same_further names are op (c ∷ cs) (d ∷ ds) r u f g is =
    let one = first_pointed names are (codes ", ") op c d cs ds (41 ∷ r) (41 ∷ u) f g is in
    let rest = same_further names are op cs ds r u f.1 g.1 one.1 in
    (ap (λ e. e ∷ cs) one.0 ∙ ap (λ es. d ∷ es) rest.0, rest.1)

same_reduction : (names : List Text) → AreIdentifiers names → (op : Operation) (cs ds : List Cell) (t u : Text) → CellsFit names cs → CellsFit names ds → number_of op < first_op t → number_of op < first_op u → one_reduction names op cs ++ t ≡ one_reduction names op ds ++ u → (cs ≡ ds) × (t ≡ u)
same_reduction names are op [] [] t u f g ht hu is = (refl, is)
same_reduction names are op [] (d ∷ ds) t u f g ht hu is = let e : first_op t ≡ number_of op = ap first_op is ∙ first_reduction names op d ds u in absurd (omega (arith, e, ht))
same_reduction names are op (c ∷ cs) [] t u f g ht hu is = let e : first_op u ≡ number_of op = ap first_op (sym is) ∙ first_reduction names op c cs t in absurd (omega (arith, e, hu))
same_reduction names are op (c ∷ cs) (d ∷ ds) t u f g ht hu is =
    let x = pointer_items names (codes ": ") op (c ∷ cs) ++ (41 ∷ t) in
    let y = pointer_items names (codes ": ") op (d ∷ ds) ++ (41 ∷ u) in
    let one = first_pointed names are (codes ": ") op c d cs ds (41 ∷ t) (41 ∷ u) f g
    (append_cancel_left (identifier op) x y (append_cancel_left (codes " in_reduction(") (identifier op ++ x) (identifier op ++ y) (sym (reduction_shown names op c cs t) ∙ is ∙ reduction_shown names op d ds u))) in
    let rest = same_further names are op cs ds t u f.1 g.1 one.1 in
    (ap (λ e. e ∷ cs) one.0 ∙ ap (λ es. d ∷ es) rest.0, rest.1)

abbrev Agree : List Operation → List Use → List Use → Type 0
Agree [] us vs = Unit {0}
Agree (op ∷ ops) us vs = (cells_in us (m.Folds op) ≡ cells_in vs (m.Folds op)) × Agree ops us vs

same_reductions : (names : List Text) → AreIdentifiers names → (us vs : List Use) (n : ℕ) (ops : List Operation) → CUsesFit names us → CUsesFit names vs → AreFrom n ops → reductions names us ops ≡ reductions names vs ops → Agree ops us vs
same_reductions names are us vs n [] f g from is = tt
same_reductions names are us vs n (op ∷ ops) f g from is =
    let cs = cells_in us (m.Folds op) in
    let ds = cells_in vs (m.Folds op) in
    let e = from.0 in
    let below : number_of op < suc n = omega (arith, e) in
    let both = same_reduction names are op cs ds (reductions names us ops) (reductions names vs ops) (cells_are_small names cs (small_in names us (m.Folds op) f)) (cells_are_small names ds (small_in names vs (m.Folds op) g))
    (later_op names us (number_of op) (suc n) ops (small_number op) below from.1) (later_op names vs (number_of op) (suc n) ops (small_number op) below from.1) is in
    (both.0, same_reductions names are us vs (suc n) ops f g from.1 both.1)

same_folded : (names : List Text) (us vs : List Use) (ops : List Operation) → Agree ops us vs → all_folded names us ops ≡ all_folded names vs ops
same_folded names us vs [] h = refl
same_folded names us vs (op ∷ ops) h =
    let by : List Cell → Text = λ cs. (list_clause names (codes " depend(") (codes "in") (short (sections_of cs)) ++ iterations names (codes " depend(iterator(at = ") (codes "in") (sections_of cs)) ++ one_reduction names op cs in
    ap (λ cs. by cs ++ all_folded names us ops) h.0 ∙ ap (λ t. by (cells_in vs (m.Folds op)) ++ t) (same_folded names us vs ops h.1)

-- ---- dependences determine what is read and what is written

clause_at : Text → ℕ
clause_at [] = 0
clause_at (b ∷ []) = 0
clause_at (b ∷ c ∷ t) = if b == 111 then 3 else if c == 110 then 1 else 2

-- the clause in front: 1 lists cells that are read, 3 cells that are written, 2 has an iterator, 0 there is none
clause_of : Text → ℕ
clause_of t = clause_at (drop 8 t)

abbrev list_number : Bool → ℕ
list_number k = if k then 1 else 3

nothing_there : clause_of [] ≡ 0
unfolding clause_of clause_at
nothing_there = refl

list_there : (k : Bool) (t : Text) → clause_of (codes " depend(" ++ (kind_text k ++ t)) ≡ list_number k
unfolding clause_of clause_at
list_there true t = refl
list_there false t = refl

iterator_there : (t : Text) → clause_of (codes " depend(iterator(at = " ++ t) ≡ 2
unfolding clause_of clause_at
iterator_there t = refl

first_list : (names : List Text) (k : Bool) (c : Cell) (cs : List Cell) (t : Text) → clause_of (listed_cells names k (c ∷ cs) ++ t) ≡ list_number k
first_list names k c cs t = ap clause_of (listed_shown names k c cs t) ∙ list_there k (cells_text names (codes ": ") (c ∷ cs) ++ (41 ∷ t))

first_iterator : (names : List Text) (k : Bool) (s : Section) (t : Text) → clause_of (one_iterated names k s ++ t) ≡ 2
first_iterator names k s t = ap clause_of (iterated_shown names k s t) ∙ iterator_there (iterated_rest names k s t)

-- ---- lists

cells_shown : (names : List Text) (w : Text) (c : Cell) (cs : List Cell) (t : Text) → cells_text names w (c ∷ cs) ++ t ≡ w ++ (name names c.array ++ (91 ∷ (decimal c.index ++ (93 ∷ (cells_text names (codes ", ") cs ++ t)))))
cells_shown names w c cs t = simp append_assoc refl

first_cells : (names : List Text) → AreIdentifiers names → (w : Text) (c d : Cell) (cs ds : List Cell) (t u : Text) → CellsFit names (c ∷ cs) → CellsFit names (d ∷ ds) → cells_text names w (c ∷ cs) ++ t ≡ cells_text names w (d ∷ ds) ++ u
    → (c ≡ d) × (cells_text names (codes ", ") cs ++ t ≡ cells_text names (codes ", ") ds ++ u)
first_cells names are w c d cs ds t u f g is =
    one_cell names are c d (cells_text names (codes ", ") cs ++ t) (cells_text names (codes ", ") ds ++ u) f.0.0 f.0.1 g.0.0 g.0.1
    (append_cancel_left w (name names c.array ++ (91 ∷ (decimal c.index ++ (93 ∷ (cells_text names (codes ", ") cs ++ t))))) (name names d.array ++ (91 ∷ (decimal d.index ++ (93 ∷ (cells_text names (codes ", ") ds ++ u)))))
    (sym (cells_shown names w c cs t) ∙ is ∙ cells_shown names w d ds u))

further_cells : (names : List Text) → AreIdentifiers names → (cs ds : List Cell) (t u : Text) → CellsFit names cs → CellsFit names ds → cells_text names (codes ", ") cs ++ (41 ∷ t) ≡ cells_text names (codes ", ") ds ++ (41 ∷ u) → (cs ≡ ds) × (t ≡ u)
further_cells names are [] [] t u f g is = (refl, ap tail_of is)
further_cells names are [] (d ∷ ds) t u f g is = absurd (omega (arith, ap head_of (is ∙ cells_shown names (codes ", ") d ds (41 ∷ u))))
further_cells names are (c ∷ cs) [] t u f g is = absurd (omega (arith, ap head_of (sym is ∙ cells_shown names (codes ", ") c cs (41 ∷ t))))
further_cells names are (c ∷ cs) (d ∷ ds) t u f g is =
    let one = first_cells names are (codes ", ") c d cs ds (41 ∷ t) (41 ∷ u) f g is in
    let rest = further_cells names are cs ds t u f.1 g.1 one.1 in
    (ap (λ e. e ∷ cs) one.0 ∙ ap (λ es. d ∷ es) rest.0, rest.1)

same_list : (names : List Text) → AreIdentifiers names → (k : Bool) (cs ds : List Cell) (t u : Text) → CellsFit names cs → CellsFit names ds → (clause_of t ≡ list_number k → ⊥) → (clause_of u ≡ list_number k → ⊥)
    → listed_cells names k cs ++ t ≡ listed_cells names k ds ++ u → (cs ≡ ds) × (t ≡ u)
same_list names are k [] [] t u f g ht hu is = (refl, is)
same_list names are k [] (d ∷ ds) t u f g ht hu is = absurd (ht (ap clause_of is ∙ first_list names k d ds u))
same_list names are k (c ∷ cs) [] t u f g ht hu is = absurd (hu (ap clause_of (sym is) ∙ first_list names k c cs t))
same_list names are k (c ∷ cs) (d ∷ ds) t u f g ht hu is =
    let x = cells_text names (codes ": ") (c ∷ cs) ++ (41 ∷ t) in
    let y = cells_text names (codes ": ") (d ∷ ds) ++ (41 ∷ u) in
    let inner = append_cancel_left (kind_text k) x y (append_cancel_left (codes " depend(") (kind_text k ++ x) (kind_text k ++ y) (sym (listed_shown names k c cs t) ∙ is ∙ listed_shown names k d ds u)) in
    let one = first_cells names are (codes ": ") c d cs ds (41 ∷ t) (41 ∷ u) f g inner in
    let rest = further_cells names are cs ds t u f.1 g.1 one.1 in
    (ap (λ e. e ∷ cs) one.0 ∙ ap (λ es. d ∷ es) rest.0, rest.1)

-- ---- iterators

same_kind : (k l : Bool) (t u : Text) → kind_text k ++ t ≡ kind_text l ++ u → (k ≡ l) × (t ≡ u)
same_kind true true t u is = (refl, ap (λ w. tail_of (tail_of w)) is)
same_kind true false t u is = absurd (omega (arith, ap head_of is))
same_kind false true t u is = absurd (omega (arith, ap head_of is))
same_kind false false t u is = (refl, ap (λ w. tail_of (tail_of (tail_of w))) is)

same_iterated : (names : List Text) → AreIdentifiers names → (k l : Bool) (s t : Section) (r u : Text) → SectionFits names s → SectionFits names t → one_iterated names k s ++ r ≡ one_iterated names l t ++ u → (k ≡ l) × (s ≡ t) × (r ≡ u)
same_iterated names are k l s t r u f g is =
    let name_s = name names s.array ++ (91 ∷ 97 ∷ 116 ∷ 93 ∷ 41 ∷ r) in
    let name_t = name names t.array ++ (91 ∷ 97 ∷ 116 ∷ 93 ∷ 41 ∷ u) in
    let kind_s = kind_text k ++ (58 ∷ 32 ∷ name_s) in
    let kind_t = kind_text l ++ (58 ∷ 32 ∷ name_t) in
    let end_s = decimal (s.start + s.len) ++ (41 ∷ 44 ∷ 32 ∷ kind_s) in
    let end_t = decimal (t.start + t.len) ++ (41 ∷ 44 ∷ 32 ∷ kind_t) in
    let f1 = f.1 in
    let f3 = f.3 in
    let g1 = g.1 in
    let g3 = g.3 in
    let inner = append_cancel_left (codes " depend(iterator(at = ") (iterated_rest names k s r) (iterated_rest names l t u) (sym (iterated_shown names k s r) ∙ is ∙ iterated_shown names l t u) in
    let starts_are = same_number s.start t.start (58 ∷ end_s) (58 ∷ end_t) (omega (arith, f1)) (omega (arith, g1)) refl refl inner in
    let ends_are = same_number (s.start + s.len) (t.start + t.len) (41 ∷ 44 ∷ 32 ∷ kind_s) (41 ∷ 44 ∷ 32 ∷ kind_t) (omega (arith, f1, f3)) (omega (arith, g1, g3)) refl refl (ap tail_of starts_are.1) in
    let kinds = same_kind k l (58 ∷ 32 ∷ name_s) (58 ∷ 32 ∷ name_t) (ap (λ w. tail_of (tail_of (tail_of w))) ends_are.1) in
    let arrays = same_array names are s.array t.array (91 ∷ 97 ∷ 116 ∷ 93 ∷ 41 ∷ r) (91 ∷ 97 ∷ 116 ∷ 93 ∷ 41 ∷ u) f.0 g.0 refl refl (ap (λ w. tail_of (tail_of w)) kinds.1) in
    let e1 = starts_are.0 in
    let e2 = ends_are.0 in
    let len : s.len ≡ t.len = omega (arith, e1, e2) in
    (kinds.0, same_section s t arrays.0 e1 len, ap (λ w. tail_of (tail_of (tail_of (tail_of (tail_of w))))) arrays.1)

-- no clause with an iterator of this kind stands in front
abbrev NoMore : List Text → Bool → Text → Type 0
NoMore names k t = (s : Section) (r : Text) → SectionFits names s → one_iterated names k s ++ r ≡ t → ⊥

same_iterators : (names : List Text) → AreIdentifiers names → (k : Bool) (ss ts : List Section) (r u : Text) → SectionsFit names ss → SectionsFit names ts → NoMore names k r → NoMore names k u → all_iterated names k ss ++ r ≡ all_iterated names k ts ++ u → (ss ≡ ts) × (r ≡ u)
same_iterators names are k [] [] r u f g hr hu is = (refl, is)
same_iterators names are k [] (t ∷ ts) r u f g hr hu is = absurd (hr t (all_iterated names k ts ++ u) g.0 (sym (is ∙ append_assoc (one_iterated names k t) (all_iterated names k ts) u)))
same_iterators names are k (s ∷ ss) [] r u f g hr hu is = absurd (hu s (all_iterated names k ss ++ r) f.0 (sym (append_assoc (one_iterated names k s) (all_iterated names k ss) r) ∙ is))
same_iterators names are k (s ∷ ss) (t ∷ ts) r u f g hr hu is =
    let one = same_iterated names are k k s t (all_iterated names k ss ++ r) (all_iterated names k ts ++ u) f.0 g.0
    (sym (append_assoc (one_iterated names k s) (all_iterated names k ss) r) ∙ is ∙ append_assoc (one_iterated names k t) (all_iterated names k ts) u) in
    let rest = same_iterators names are k ss ts r u f.1 g.1 hr hu one.2 in
    (ap (λ x. x ∷ ss) one.1 ∙ ap (λ xs. t ∷ xs) rest.0, rest.1)

-- ---- all dependences

-- by cells that are read, and sections, then by those that are written
abbrev four : List Text → List Cell → List Section → List Cell → List Section → Text
four names a b c d = listed_cells names true a ++ (all_iterated names true b ++ (listed_cells names false c ++ (all_iterated names false d ++ [])))

-- behind iterators stands a clause with an iterator, or what stands behind them all
no_iterator : (names : List Text) (k : Bool) (ss : List Section) (t : Text) (n : ℕ) → (n ≡ 2 → ⊥) → (clause_of t ≡ n → ⊥) → clause_of (all_iterated names k ss ++ t) ≡ n → ⊥
no_iterator names k [] t n two later e = later e
no_iterator names k (s ∷ ss) t n two later e = two (sym e ∙ ap clause_of (append_assoc (one_iterated names k s) (all_iterated names k ss) t) ∙ first_iterator names k s (all_iterated names k ss ++ t))

nothing_else : (n : ℕ) → 0 < n → clause_of [] ≡ n → ⊥
nothing_else n some e = let z = nothing_there in omega (arith, e, z, some)

no_list : (names : List Text) (d : List Section) → clause_of (all_iterated names false d ++ []) ≡ 3 → ⊥
no_list names d = no_iterator names false d [] 3 (λ e. omega (arith, e)) (nothing_else 3 (omega arith))

abbrev last_two : List Text → List Cell → List Section → Text
last_two names c d = listed_cells names false c ++ (all_iterated names false d ++ [])

no_first : (names : List Text) (b : List Section) (c : List Cell) (d : List Section) → clause_of (all_iterated names true b ++ last_two names c d) ≡ 1 → ⊥
no_first names b c d = no_iterator names true b (last_two names c d) 1 (λ e. omega (arith, e)) (at_once c)
  where
    at_once : (c : List Cell) → clause_of (last_two names c d) ≡ 1 → ⊥
    at_once [] e = no_iterator names false d [] 1 (λ e. omega (arith, e)) (nothing_else 1 (omega arith)) e
    at_once (x ∷ xs) e = let y = first_list names false x xs (all_iterated names false d ++ []) in omega (arith, e, y)

no_read : (names : List Text) → AreIdentifiers names → (c : List Cell) (d : List Section) → SectionsFit names d → NoMore names true (last_two names c d)
no_read names are (x ∷ xs) d fit s r ok is = let y = sym (first_iterator names true s r) ∙ ap clause_of is ∙ first_list names false x xs (all_iterated names false d ++ []) in omega (arith, y)
no_read names are [] [] fit s r ok is = let y = sym (first_iterator names true s r) ∙ ap clause_of is ∙ nothing_there in omega (arith, y)
no_read names are [] (t ∷ ts) fit s r ok is =
    true≢false (same_iterated names are true false s t r (all_iterated names false ts ++ []) ok fit.0 (is ∙ append_assoc (one_iterated names false t) (all_iterated names false ts) [])).0

nothing_more : (names : List Text) (k : Bool) → NoMore names k []
nothing_more names k s r ok is = let y = sym (first_iterator names k s r) ∙ ap clause_of is ∙ nothing_there in omega (arith, y)

same_four : (names : List Text) → AreIdentifiers names → (a : List Cell) (b : List Section) (c : List Cell) (d : List Section) (w : List Cell) (x : List Section) (y : List Cell) (z : List Section)
    → CellsFit names a → SectionsFit names b → CellsFit names c → SectionsFit names d → CellsFit names w → SectionsFit names x → CellsFit names y → SectionsFit names z
    → four names a b c d ≡ four names w x y z → (a ≡ w) × (b ≡ x) × (c ≡ y) × (d ≡ z)
same_four names are a b c d w x y z fa fb fc fd fw fx fy fz is =
    let one = same_list names are true a w (all_iterated names true b ++ last_two names c d) (all_iterated names true x ++ last_two names y z) fa fw (no_first names b c d) (no_first names x y z) is in
    let two = same_iterators names are true b x (last_two names c d) (last_two names y z) fb fx (no_read names are c d fd) (no_read names are y z fz) one.1 in
    let three = same_list names are false c y (all_iterated names false d ++ []) (all_iterated names false z ++ []) fc fy (no_list names d) (no_list names z) two.1 in
    let last = same_iterators names are false d z [] [] fd fz (nothing_more names false) (nothing_more names false) three.1 in
    (one.0, two.0, three.0, last.0)

abbrev few : List Use → Mode → List Cell
few us mode = section_cells (short (sections_of (cells_in us mode)))

abbrev many : List Use → Mode → List Section
many us mode = long (sections_of (cells_in us mode))

depends_shown : (names : List Text) (us : List Use) → CUsesFit names us → depends names us ≡ four names (few us m.Reads) (many us m.Reads) (few us m.Writes) (many us m.Writes)
depends_shown names us fit =
    ap (λ t. t ++ c_dependences names (codes "out") us m.Writes) (deps_are names true us m.Reads fit)
    ∙ ap (λ t. (listed_cells names true (few us m.Reads) ++ all_iterated names true (many us m.Reads)) ++ t) (deps_are names false us m.Writes fit)
    ∙ parts (listed_cells names true (few us m.Reads)) (all_iterated names true (many us m.Reads)) (listed_cells names false (few us m.Writes)) (all_iterated names false (many us m.Writes))
  where
    parts : (a b c d : Text) → (a ++ b) ++ (c ++ d) ≡ a ++ (b ++ (c ++ (d ++ [])))
    parts a b c d = simp (append_assoc, append-nil) refl

few_fit : (names : List Text) (us : List Use) (mode : Mode) → CUsesFit names us → CellsFit names (few us mode)
few_fit names us mode fit =
    let ss = sections_of (cells_in us mode) in
    cells_fit names (short ss) (short_fit names ss (sections_fit names (cells_in us mode) (small_in names us mode fit)))

many_fit : (names : List Text) (us : List Use) (mode : Mode) → CUsesFit names us → SectionsFit names (many us mode)
many_fit names us mode fit = long_fit names (sections_of (cells_in us mode)) (sections_fit names (cells_in us mode) (small_in names us mode fit))

-- a mode's cells come from those that are listed and the sections that aren't
from_parts : (us vs : List Use) (mode : Mode) → AreInOrder us → AreInOrder vs → few us mode ≡ few vs mode → many us mode ≡ many vs mode → cells_in us mode ≡ cells_in vs mode
from_parts us vs mode o p one two =
    let cs = cells_in us mode in
    let ds = cells_in vs mode in
    let sorted_c = subst AreSorted (sym (come_back cs)) (sorted_in us mode o) in
    let sorted_d = subst AreSorted (sym (come_back ds)) (sorted_in vs mode p) in
    sym (come_back cs) ∙ by_parts (sections_of cs) (sections_of ds) sorted_c sorted_d one two ∙ come_back ds

all_modes : (us vs : List Use) → cells_in us m.Reads ≡ cells_in vs m.Reads → cells_in us m.Writes ≡ cells_in vs m.Writes → Agree operations us vs → (mode : Mode) → cells_in us mode ≡ cells_in vs mode
all_modes us vs r w h m.Reads = r
all_modes us vs r w h m.Writes = w
all_modes us vs r w h (m.Folds f.Plus) = h.0
all_modes us vs r w h (m.Folds f.Times) = h.1.0
all_modes us vs r w h (m.Folds f.And) = h.1.1.0
all_modes us vs r w h (m.Folds f.Or) = h.1.1.1.0
all_modes us vs r w h (m.Folds f.Xor) = h.1.1.1.1.0
all_modes us vs r w h (m.Folds f.Min) = h.1.1.1.1.1.0
all_modes us vs r w h (m.Folds f.Max) = h.1.1.1.1.1.1.0

pub declaration_law : DeclarationIsDetermined
declaration_law names are us vs o p f g is =
    let folds = same_reductions names are us vs 0 operations f g (refl, (refl, (refl, (refl, (refl, (refl, (refl, tt))))))) (sym (keep_declared names are us f) ∙ ap (keep Outside) is ∙ keep_declared names are vs g) in
    let deps : depends names us ≡ depends names vs =
    append_cancel_right (depends names us) (depends names vs) (all_folded names us operations)
    (sym (declared_shown names us) ∙ is ∙ declared_shown names vs ∙ ap (λ t. depends names vs ++ t) (sym (same_folded names us vs operations folds))) in
    let parts = same_four names are (few us m.Reads) (many us m.Reads) (few us m.Writes) (many us m.Writes) (few vs m.Reads) (many vs m.Reads) (few vs m.Writes) (many vs m.Writes)
    (few_fit names us m.Reads f) (many_fit names us m.Reads f) (few_fit names us m.Writes f) (many_fit names us m.Writes f) (few_fit names vs m.Reads g) (many_fit names vs m.Reads g) (few_fit names vs m.Writes g) (many_fit names vs m.Writes g)
    (sym (depends_shown names us f) ∙ deps ∙ depends_shown names vs g) in
    same_uses us vs o p (all_modes us vs (from_parts us vs m.Reads o p parts.0 parts.1) (from_parts us vs m.Writes o p parts.2 parts.3) folds)

-- ---- a line of clauses

abbrev no_end : ℕ → Bool
no_end b = not (b == 10)

abbrev pub is_line : Text → Bool
is_line t = all_of no_end t

pub line_append : (xs ys : Text) → is_line xs ≡ true → is_line ys ≡ true → is_line (xs ++ ys) ≡ true
line_append = all_append no_end

quiet_line : (w : Text) → all_quiet w ≡ true → is_line w ≡ true
quiet_line [] h = refl
quiet_line (b ∷ bs) h =
    let both = and_true (quiet b) (all_quiet bs) h in
    rw ((and_true (not (b == 40) && not (b == 41)) (not (b == 10)) both.0).1) (quiet_line bs both.1)

-- two lines, each ended
pub same_line : (v w t u : Text) → is_line v ≡ true → is_line w ≡ true → v ++ (10 ∷ t) ≡ w ++ (10 ∷ u) → (v ≡ w) × (t ≡ u)
same_line v w t u hv hw is = let both = split_by no_end v w (10 ∷ t) (10 ∷ u) hv hw refl refl is in (both.0, ap tail_of both.1)

kind_line : (k : Bool) → is_line (kind_text k) ≡ true
kind_line true = refl
kind_line false = refl

list_line : (names : List Text) → AreIdentifiers names → (k : Bool) (c : Cell) (cs : List Cell) → CellsFit names (c ∷ cs) → is_line (listed_cells names k (c ∷ cs)) ≡ true
list_line names are k c cs fit =
    let x = cells_text names (codes ": ") (c ∷ cs) in
    line_append (codes " depend(") (kind_text k ++ (x ++ codes ")")) refl
    (line_append (kind_text k) (x ++ codes ")") (kind_line k) (line_append x (codes ")") (quiet_line x (cells_quiet names are (codes ": ") (c ∷ cs) refl fit)) refl))

iterated_line : (names : List Text) → AreIdentifiers names → (k : Bool) (s : Section) → SectionFits names s → is_line (one_iterated names k s) ≡ true
iterated_line names are k s fit =
    let start = fit.1 in
    let len = fit.3 in
    let w = name names s.array ++ codes "[at])" in
    let ks = kind_text k ++ (58 ∷ 32 ∷ w) in
    let ends = decimal (s.start + s.len) ++ (41 ∷ 44 ∷ 32 ∷ ks) in
    ap is_line (sym (append-nil (one_iterated names k s)) ∙ iterated_shown names k s [])
    ∙ line_append (codes " depend(iterator(at = ") (decimal s.start ++ (58 ∷ ends)) refl
    (line_append (decimal s.start) (58 ∷ ends) (quiet_line (decimal s.start) (number_quiet s.start (omega (arith, start))))
    (line_append (decimal (s.start + s.len)) (41 ∷ 44 ∷ 32 ∷ ks) (quiet_line (decimal (s.start + s.len)) (number_quiet (s.start + s.len) (omega (arith, start, len))))
    (line_append (kind_text k) (58 ∷ 32 ∷ w) (kind_line k) (line_append (name names s.array) (codes "[at])") (quiet_line (name names s.array) (name_quiet names are s.array fit.0)) refl))))

reduction_line : (names : List Text) → AreIdentifiers names → (op : Operation) (c : Cell) (cs : List Cell) → CellsFit names (c ∷ cs) → is_line (one_reduction names op (c ∷ cs)) ≡ true
reduction_line names are op c cs fit =
    let x = pointer_items names (codes ": ") op (c ∷ cs) in
    line_append (codes " in_reduction(" ++ identifier op ++ x) (codes ")")
    (line_append (codes " in_reduction(" ++ identifier op) x (line_append (codes " in_reduction(") (identifier op) refl (quiet_line (identifier op) (identifier_quiet op))) (quiet_line x (pointed_quiet names are (codes ": ") op (c ∷ cs) refl fit))) refl

pub declared_line : (names : List Text) → AreIdentifiers names → (us : List Use) → CUsesFit names us → is_line (c_clauses names us) ≡ true
declared_line names are = in_declared names (λ w. is_line w ≡ true) (record { none = refl; both = line_append; list = list_line names are; iterator = iterated_line names are }) (reduction_line names are)
