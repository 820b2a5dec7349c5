-- In C, dependences by the cells that are listed and by the sections that have an iterator; a line's reductions alone.
use Rattle.std.proofs.Common.{◌≡◌, ℕ, zero, suc, ◌+◌, ◌<◌, ◌^◌, ◌==◌, List, [], ◌∷◌, ◌++◌, length, Bool, true, false, not, ◌&&◌, if◌then◌else◌, refl, sym, ap, subst, ◌∙◌, append_assoc, arith}
use Rattle.std.specs.Prelude.{codes, decimal}
use Rattle.std.proofs.lemmas.Bool.{not-true}
use Rattle.std.proofs.lemmas.Bool.Decides.{nat_tests}
use Rattle.ot_model.specs.declared.expr.Cell.{Cell}
use Rattle.ot_model.specs.declared.expr.Section.{Section}
use Rattle.ot_model.specs.declared.stmt.Mode.{Mode}
use Rattle.ot_model.specs.declared.stmt.Use.{Use}
use Rattle.ot_model.specs.Cells.{same_mode}
use Rattle.ot_show_print.specs.Shown.{Text, name, cell, cells_in, sections_of, section_cells, row as row_of, sections_behind, alone, longer, goes_on}
use Rattle.ot_show_print.specs.Laws.{CellsFit}
use Rattle.ot_show_print.proofs.WordLemmas.{and_true}
use Rattle.ot_show_print.proofs.SectionLemmas.{goes_on_is}
use Rattle.ot_show_c.specs.Statements.{item, item_row, items, is_long, short, list_clause, iterator_clause, iterations, c_dependences}
use Rattle.ot_show_c.specs.Laws.{in_identifier, all_identifier, AreIdentifiers, CUsesFit}
use Rattle.ot_show_c.proofs.WordLemmas.{all_of, all_append, number_word, name_word}
use Rattle.ot_show_c.proofs.OrderLemmas.{long}

-- ---- bytes that are no bracket, and end no line

abbrev pub quiet : ℕ → Bool
quiet b = (not (b == 40) && not (b == 41)) && not (b == 10)

abbrev pub all_quiet : Text → Bool
all_quiet t = all_of quiet t

pub quiet_word : (b : ℕ) → in_identifier b ≡ true → quiet b ≡ true
quiet_word b h = grind (arith, nat_tests)

pub word_quiet : (w : Text) → all_identifier w ≡ true → all_quiet w ≡ true
word_quiet [] h = refl
word_quiet (b ∷ bs) h =
    let both = and_true (in_identifier b) (all_identifier bs) h in
    rw (quiet_word b both.0) (word_quiet bs both.1)

pub quiet_append : (xs ys : Text) → all_quiet xs ≡ true → all_quiet ys ≡ true → all_quiet (xs ++ ys) ≡ true
quiet_append = all_append quiet

pub number_quiet : (n : ℕ) → n < 2 ^ 64 → all_quiet (decimal n) ≡ true
number_quiet n small = word_quiet (decimal n) (number_word n small)

pub name_quiet : (names : List Text) → AreIdentifiers names → (i : ℕ) → i < length names → all_quiet (name names i) ≡ true
name_quiet names are i h = word_quiet (name names i) (name_word (name names i) (are.each i h))

-- ---- what reductions there are, of a line of clauses

pub data State : Type 0 where
  Outside : State
  Begun : State
  Opening : State
  One : State
  Two : State
  Copying : State

-- the clauses that don't begin with `d`
abbrev pub keep : State → Text → Text
keep s [] = []
keep Outside (b ∷ t) = keep Begun t
keep Begun (b ∷ t) = if b == 100 then keep Opening t else 32 ∷ b ∷ keep Copying t
keep Opening (b ∷ t) = if b == 40 then keep One t else keep Opening t
keep One (b ∷ t) = if b == 40 then keep Two t else (if b == 41 then keep Outside t else keep One t)
keep Two (b ∷ t) = if b == 41 then keep One t else keep Two t
keep Copying (b ∷ t) = b ∷ (if b == 41 then keep Outside t else keep Copying t)

quiet_front : (b : ℕ) (bs : Text) → all_quiet (b ∷ bs) ≡ true → ((b == 40) ≡ false) × ((b == 41) ≡ false) × (all_quiet bs ≡ true)
quiet_front b bs h =
    let all = and_true (quiet b) (all_quiet bs) h in
    let both = and_true (not (b == 40)) (not (b == 41)) (and_true (not (b == 40) && not (b == 41)) (not (b == 10)) all.0).0 in
    (not-true (b == 40) both.0, not-true (b == 41) both.1, all.1)

keep_one : (x t : Text) → all_quiet x ≡ true → keep One (x ++ t) ≡ keep One t
keep_one [] t h = refl
keep_one (b ∷ bs) t h = let front = quiet_front b bs h in rw (front.0, front.1) (keep_one bs t front.2)

keep_two : (x t : Text) → all_quiet x ≡ true → keep Two (x ++ t) ≡ keep Two t
keep_two [] t h = refl
keep_two (b ∷ bs) t h = let front = quiet_front b bs h in rw front.1 (keep_two bs t front.2)

pub keep_copying : (x t : Text) → all_quiet x ≡ true → keep Copying (x ++ t) ≡ x ++ keep Copying t
keep_copying [] t h = refl
keep_copying (b ∷ bs) t h = let front = quiet_front b bs h in rw front.1 (ap (λ u. b ∷ u) (keep_copying bs t front.2))

-- ---- dependences, by their cells and their long sections

-- `in` or `out`
abbrev pub kind_text : Bool → Text
kind_text k = if k then codes "in" else codes "out"

pub kind_quiet : (k : Bool) → all_quiet (kind_text k) ≡ true
kind_quiet true = refl
kind_quiet false = refl

abbrev pub cells_text : List Text → Text → List Cell → Text
cells_text names w [] = []
cells_text names w (c ∷ cs) = item names w c.array c.index ++ cells_text names (codes ", ") cs

pub row_further : (names : List Text) (a i n : ℕ) (cs : List Cell) → item_row names (codes ", ") a i n ++ cells_text names (codes ", ") cs ≡ cells_text names (codes ", ") (row_of a i n ++ cs)
row_further names a i zero cs = refl
row_further names a i (suc n) cs =
    append_assoc (item names (codes ", ") a i) (item_row names (codes ", ") a (i + 1) n) (cells_text names (codes ", ") cs) ∙ ap (λ t. item names (codes ", ") a i ++ t) (row_further names a (i + 1) n cs)

pub items_further : (names : List Text) (ss : List Section) → items names (codes ", ") ss ≡ cells_text names (codes ", ") (section_cells ss)
items_further names [] = refl
items_further names (s ∷ ss) = ap (λ t. item_row names (codes ", ") s.array s.start s.len ++ t) (items_further names ss) ∙ row_further names s.array s.start s.len (section_cells ss)

abbrev pub listed_cells : List Text → Bool → List Cell → Text
listed_cells names k [] = []
listed_cells names k (c ∷ cs) = codes " depend(" ++ (kind_text k ++ (cells_text names (codes ": ") (c ∷ cs) ++ codes ")"))

abbrev pub SectionFits : List Text → Section → Type 0
SectionFits names s = (s.array < length names) × (s.start < 2 ^ 32) × (0 < s.len) × (s.len < 2 ^ 32)

abbrev pub SectionsFit : List Text → List Section → Type 0
SectionsFit names [] = Unit {0}
SectionsFit names (s ∷ ss) = SectionFits names s × SectionsFit names ss

pub grouped : (a b c d : Text) → a ++ b ++ c ++ d ≡ a ++ (b ++ (c ++ d))
grouped a b c d = simp append_assoc refl

pub first_items : (names : List Text) (k : Bool) (a i n : ℕ) (ss : List Section) → 0 < n
    → codes " depend(" ++ kind_text k ++ (item_row names (codes ": ") a i n ++ items names (codes ", ") ss) ++ codes ")" ≡ listed_cells names k (row_of a i n ++ section_cells ss)
first_items names k a i zero ss some = absurd (omega (arith, some))
first_items names k a i (suc n) ss some =
    let one = item names (codes ": ") a i in
    let others = item_row names (codes ", ") a (i + 1) n in
    let inner : (one ++ others) ++ items names (codes ", ") ss ≡ one ++ cells_text names (codes ", ") (row_of a (i + 1) n ++ section_cells ss) =
    append_assoc one others (items names (codes ", ") ss) ∙ ap (λ t. one ++ (others ++ t)) (items_further names ss) ∙ ap (λ t. one ++ t) (row_further names a (i + 1) n (section_cells ss)) in
    grouped (codes " depend(") (kind_text k) ((one ++ others) ++ items names (codes ", ") ss) (codes ")") ∙ ap (λ t. codes " depend(" ++ (kind_text k ++ (t ++ codes ")"))) inner

pub listed_is : (names : List Text) (k : Bool) (ss : List Section) → SectionsFit names ss → list_clause names (codes " depend(") (kind_text k) ss ≡ listed_cells names k (section_cells ss)
listed_is names k [] fit = refl
listed_is names k (s ∷ ss) fit = first_items names k s.array s.start s.len ss fit.0.2

abbrev pub one_iterated : List Text → Bool → Section → Text
one_iterated names k s = iterator_clause names (codes " depend(iterator(at = ") (kind_text k) s

abbrev pub all_iterated : List Text → Bool → List Section → Text
all_iterated names k [] = []
all_iterated names k (s ∷ ss) = one_iterated names k s ++ all_iterated names k ss

pub iterations_are : (names : List Text) (k : Bool) (ss : List Section) → iterations names (codes " depend(iterator(at = ") (kind_text k) ss ≡ all_iterated names k (long ss)
iterations_are names k [] = refl
iterations_are names k (s ∷ ss) = at_once (is_long s) refl (iterations_are names k ss)
  where
    at_once : (b : Bool) → is_long s ≡ b → iterations names (codes " depend(iterator(at = ") (kind_text k) ss ≡ all_iterated names k (long ss) → iterations names (codes " depend(iterator(at = ") (kind_text k) (s ∷ ss) ≡ all_iterated names k (long (s ∷ ss))
    at_once true h rest = rw h (ap (λ t. one_iterated names k s ++ t) rest)
    at_once false h rest = rw h rest

-- ---- what fits

parts_fit : (names : List Text) (ss : List Section) → SectionsFit names ss → SectionsFit names (short ss) × SectionsFit names (long ss)
parts_fit names [] fit = (tt, tt)
parts_fit names (s ∷ ss) fit = at_once (is_long s) refl (parts_fit names ss fit.1)
  where
    at_once : (b : Bool) → is_long s ≡ b → SectionsFit names (short ss) × SectionsFit names (long ss) → SectionsFit names (short (s ∷ ss)) × SectionsFit names (long (s ∷ ss))
    at_once true h rest = rw h (rest.0, (fit.0, rest.1))
    at_once false h rest = rw h ((fit.0, rest.0), rest.1)

pub short_fit : (names : List Text) (ss : List Section) → SectionsFit names ss → SectionsFit names (short ss)
short_fit names ss fit = (parts_fit names ss fit).0

pub long_fit : (names : List Text) (ss : List Section) → SectionsFit names ss → SectionsFit names (long ss)
long_fit names ss fit = (parts_fit names ss fit).1

pub fit_append : (names : List Text) (xs ys : List Cell) → CellsFit names xs → CellsFit names ys → CellsFit names (xs ++ ys)
fit_append names [] ys p q = q
fit_append names (x ∷ xs) ys p q = (p.0, fit_append names xs ys p.1 q)

pub row_fits : (names : List Text) (a i n : ℕ) → a < length names → i + n < 2 ^ 64 → CellsFit names (row_of a i n)
row_fits names a i zero h k = tt
row_fits names a i (suc n) h k = ((h, omega (arith, k)), row_fits names a (i + 1) n h (omega (arith, k)))

pub cells_fit : (names : List Text) (ss : List Section) → SectionsFit names ss → CellsFit names (section_cells ss)
cells_fit names [] fit = tt
cells_fit names (s ∷ ss) fit =
    let start = fit.0.1 in
    let len = fit.0.3 in
    fit_append names (row_of s.array s.start s.len) (section_cells ss) (row_fits names s.array s.start s.len fit.0.0 (omega (arith, start, len))) (cells_fit names ss fit.1)

abbrev pub SmallCells : List Text → List Cell → Type 0
SmallCells names [] = Unit {0}
SmallCells names (c ∷ cs) = ((c.array < length names) × (c.index < 2 ^ 32)) × SmallCells names cs

pub behind_fits : (names : List Text) (s : Section) (cs : List Cell) → SectionFits names s → SmallCells names cs → SectionsFit names (sections_behind s cs)
behind_fits names s [] f g = (f, tt)
behind_fits names s (c ∷ cs) f g = at_once (goes_on s c) refl (λ more. behind_fits names (longer s) cs more g.1) (behind_fits names (alone c) cs (g.0.0, g.0.1, omega arith, omega arith) g.1)
  where
    at_once : (b : Bool) → goes_on s c ≡ b → (SectionFits names (longer s) → SectionsFit names (sections_behind (longer s) cs)) → SectionsFit names (sections_behind (alone c) cs) → SectionsFit names (sections_behind s (c ∷ cs))
    at_once true h more new = rw h (more (f.0, f.1, omega arith, (goes_on_is s c h).small))
    at_once false h more new = rw h (f, new)

pub sections_fit : (names : List Text) (cs : List Cell) → SmallCells names cs → SectionsFit names (sections_of cs)
sections_fit names [] g = tt
sections_fit names (c ∷ cs) g = behind_fits names (alone c) cs (g.0.0, g.0.1, omega arith, omega arith) g.1

pub small_in : (names : List Text) (us : List Use) (mode : Mode) → CUsesFit names us → SmallCells names (cells_in us mode)
small_in names [] mode g = tt
small_in names (u ∷ us) mode g = at_once (same_mode u.mode mode) refl (small_in names us mode g.1)
  where
    at_once : (b : Bool) → same_mode u.mode mode ≡ b → SmallCells names (cells_in us mode) → SmallCells names (cells_in (u ∷ us) mode)
    at_once true h rest = rw h (g.0, rest)
    at_once false h rest = rw h rest

pub cells_are_small : (names : List Text) (cs : List Cell) → SmallCells names cs → CellsFit names cs
cells_are_small names [] g = tt
cells_are_small names (c ∷ cs) g = let small = g.0.1 in ((g.0.0, omega (arith, small)), cells_are_small names cs g.1)

-- the dependences of a mode by its sections
pub deps_are : (names : List Text) (k : Bool) (us : List Use) (mode : Mode) → CUsesFit names us
    → c_dependences names (kind_text k) us mode ≡ listed_cells names k (section_cells (short (sections_of (cells_in us mode)))) ++ all_iterated names k (long (sections_of (cells_in us mode)))
deps_are names k us mode fit =
    let ss = sections_of (cells_in us mode) in
    let ok = sections_fit names (cells_in us mode) (small_in names us mode fit) in
    ap (λ t. t ++ iterations names (codes " depend(iterator(at = ") (kind_text k) ss) (listed_is names k (short ss) (short_fit names ss ok))
    ∙ ap (λ t. listed_cells names k (section_cells (short ss)) ++ t) (iterations_are names k ss)

-- what holds of clauses, each alone and side by side
pub record HoldOfClauses (names : List Text) (P : Text → Type 0) : Type 0 where
  pub none : P []
  pub both : (x y : Text) → P x → P y → P (x ++ y)
  pub list : (k : Bool) (c : Cell) (cs : List Cell) → CellsFit names (c ∷ cs) → P (listed_cells names k (c ∷ cs))
  pub iterator : (k : Bool) (s : Section) → SectionFits names s → P (one_iterated names k s)

-- holds of a mode's dependences
pub in_deps : (names : List Text) (P : Text → Type 0) → HoldOfClauses names P → (k : Bool) (us : List Use) (mode : Mode) → CUsesFit names us → P (c_dependences names (kind_text k) us mode)
in_deps names P h k us mode fit =
    let ss = sections_of (cells_in us mode) in
    let ok = sections_fit names (cells_in us mode) (small_in names us mode fit) in
    subst P (sym (deps_are names k us mode fit)) (h.both (listed_cells names k (section_cells (short ss))) (all_iterated names k (long ss)) (lists (section_cells (short ss)) (cells_fit names (short ss) (short_fit names ss ok))) (iterators (long ss) (long_fit names ss ok)))
  where
    lists : (cs : List Cell) → CellsFit names cs → P (listed_cells names k cs)
    lists [] f = h.none
    lists (c ∷ cs) f = h.list k c cs f

    iterators : (ss : List Section) → SectionsFit names ss → P (all_iterated names k ss)
    iterators [] f = h.none
    iterators (s ∷ ss) f = h.both (one_iterated names k s) (all_iterated names k ss) (h.iterator k s f.0) (iterators ss f.1)

-- ---- no dependence is kept

pub item_quiet : (names : List Text) → AreIdentifiers names → (w : Text) (c : Cell) → all_quiet w ≡ true → c.array < length names → c.index < 2 ^ 64 → all_quiet (item names w c.array c.index) ≡ true
item_quiet names are w c h array index =
    quiet_append w (cell names c) h
    (quiet_append (name names c.array ++ codes "[" ++ decimal c.index) (codes "]")
    (quiet_append (name names c.array ++ codes "[") (decimal c.index) (quiet_append (name names c.array) (codes "[") (name_quiet names are c.array array) refl) (number_quiet c.index index)) refl)

pub cells_quiet : (names : List Text) → AreIdentifiers names → (w : Text) (cs : List Cell) → all_quiet w ≡ true → CellsFit names cs → all_quiet (cells_text names w cs) ≡ true
cells_quiet names are w [] h fit = refl
cells_quiet names are w (c ∷ cs) h fit =
    quiet_append (item names w c.array c.index) (cells_text names (codes ", ") cs) (item_quiet names are w c h fit.0.0 fit.0.1) (cells_quiet names are (codes ", ") cs refl fit.1)

pub listed_shown : (names : List Text) (k : Bool) (c : Cell) (cs : List Cell) (t : Text) → listed_cells names k (c ∷ cs) ++ t ≡ codes " depend(" ++ (kind_text k ++ (cells_text names (codes ": ") (c ∷ cs) ++ (41 ∷ t)))
listed_shown names k c cs t = simp append_assoc refl

pub keep_listed : (names : List Text) → AreIdentifiers names → (k : Bool) (cs : List Cell) (t : Text) → CellsFit names cs → keep Outside (listed_cells names k cs ++ t) ≡ keep Outside t
keep_listed names are k [] t fit = refl
keep_listed names are k (c ∷ cs) t fit =
    let x = cells_text names (codes ": ") (c ∷ cs) in
    ap (keep Outside) (listed_shown names k c cs t) ∙ keep_one (kind_text k) (x ++ (41 ∷ t)) (kind_quiet k) ∙ keep_one x (41 ∷ t) (cells_quiet names are (codes ": ") (c ∷ cs) refl fit)

-- an iterated clause behind its first words
abbrev pub iterated_rest : List Text → Bool → Section → Text → Text
iterated_rest names k s t = decimal s.start ++ (58 ∷ (decimal (s.start + s.len) ++ (41 ∷ 44 ∷ 32 ∷ (kind_text k ++ (58 ∷ 32 ∷ (name names s.array ++ (91 ∷ 97 ∷ 116 ∷ 93 ∷ 41 ∷ t)))))))

pub iterated_shown : (names : List Text) (k : Bool) (s : Section) (t : Text) → one_iterated names k s ++ t ≡ codes " depend(iterator(at = " ++ iterated_rest names k s t
iterated_shown names k s t = simp append_assoc refl

pub keep_iterated : (names : List Text) → AreIdentifiers names → (k : Bool) (s : Section) (t : Text) → SectionFits names s → keep Outside (one_iterated names k s ++ t) ≡ keep Outside t
keep_iterated names are k s t fit =
    let start = fit.1 in
    let len = fit.3 in
    let behind_name = 91 ∷ 97 ∷ 116 ∷ 93 ∷ 41 ∷ t in
    let behind_kind = 58 ∷ 32 ∷ (name names s.array ++ behind_name) in
    let behind_end = 41 ∷ 44 ∷ 32 ∷ (kind_text k ++ behind_kind) in
    ap (keep Outside) (iterated_shown names k s t)
    ∙ keep_two (decimal s.start) (58 ∷ (decimal (s.start + s.len) ++ behind_end)) (number_quiet s.start (omega (arith, start)))
    ∙ keep_two (decimal (s.start + s.len)) behind_end (number_quiet (s.start + s.len) (omega (arith, start, len)))
    ∙ keep_one (kind_text k) behind_kind (kind_quiet k)
    ∙ keep_one (name names s.array) behind_name (name_quiet names are s.array fit.0)

pub keep_deps : (names : List Text) → AreIdentifiers names → (k : Bool) (us : List Use) (mode : Mode) (t : Text) → CUsesFit names us → keep Outside (c_dependences names (kind_text k) us mode ++ t) ≡ keep Outside t
keep_deps names are k us mode t fit = in_deps names (λ x. (t : Text) → keep Outside (x ++ t) ≡ keep Outside t) holds k us mode fit t
  where
    holds : HoldOfClauses names (λ x. (t : Text) → keep Outside (x ++ t) ≡ keep Outside t)
    holds = record {
      none = λ t. refl;
      both = λ x y p q t. ap (keep Outside) (append_assoc x y t) ∙ p (y ++ t) ∙ q t;
      list = λ k c cs f t. keep_listed names are k (c ∷ cs) t f;
      iterator = λ k s f t. keep_iterated names are k s t f;
    }
