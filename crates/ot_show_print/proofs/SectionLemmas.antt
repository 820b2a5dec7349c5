-- Sections' text determines them, and cells come back from their sections.
use Rattle.std.proofs.Common.{◌≡◌, ℕ, zero, suc, ◌+◌, ◌<◌, ◌≤◌, ◌^◌, ◌==◌, List, [], ◌∷◌, ◌++◌, length, Bool, true, false, ◌&&◌, refl, sym, ap, ◌∙◌, append_assoc, arith}
use Rattle.std.specs.Prelude.{decimal, nat_lt}
use Rattle.std.proofs.lemmas.Bool.Decides.{nat_tests}
use Rattle.std.proofs.lemmas.Fmt.{decimal_injective}
use Rattle.ot_model.specs.declared.expr.Cell.{Cell}
use Rattle.ot_model.specs.declared.expr.Section.{Section}
use Rattle.ot_show_print.specs.Shown.{Text, name, length_of, section, further, sections, alone, longer, goes_on, sections_behind, sections_of, row, section_cells}
use Rattle.ot_show_print.specs.Laws.{AreNames, FitsSection, AllFit, CellsFit, CellsComeBack, SectionsAreDetermined, CellsAreDetermined}
use Rattle.ot_show_print.proofs.WordLemmas.{and_true, head_of, tail_of, starts, split, digits_are}
use Rattle.ot_show_print.proofs.ValueLemmas.{opened, same_cell, same_section}

eq_true : (a b : ℕ) → (a == b) ≡ true → a ≡ b
eq_true a b h = grind (arith, nat_tests)

lt_true : (a b : ℕ) → nat_lt a b ≡ true → a < b
lt_true a b h = grind (arith, nat_tests)

lt_false : (a b : ℕ) → nat_lt a b ≡ false → b ≤ a
lt_false a b h = grind (arith, nat_tests)

-- ---- cells come back

abbrev at : ℕ → ℕ → Cell
at a i = record { array = a; index = i }

row_more : (a i n : ℕ) → row a i (suc n) ≡ row a i n ++ (at a (i + n) ∷ [])
row_more a i zero = ap (λ k. at a k ∷ []) (omega arith)
row_more a i (suc n) =
    let last : (i + 1) + n ≡ i + suc n = omega arith in
    ap (λ t. at a i ∷ t) (row_more a (i + 1) n ∙ ap (λ k. row a (i + 1) n ++ (at a k ∷ [])) last)

pub record GoesOn (s : Section) (c : Cell) : Type 0 where
  pub array : s.array ≡ c.array
  pub index : s.start + s.len ≡ c.index
  pub small : s.len + 1 < 2 ^ 32

pub goes_on_is : (s : Section) (c : Cell) → goes_on s c ≡ true → GoesOn s c
goes_on_is s c h =
    let one = and_true (s.array == c.array) ((s.start + s.len == c.index) && nat_lt (s.len + 1) (2 ^ 32)) h in
    let two = and_true (s.start + s.len == c.index) (nat_lt (s.len + 1) (2 ^ 32)) one.1 in
    record { array = eq_true s.array c.array one.0; index = eq_true (s.start + s.len) c.index two.0; small = lt_true (s.len + 1) (2 ^ 32) two.1 }

longer_row : (s : Section) (c : Cell) (cs : List Cell) → goes_on s c ≡ true → row s.array s.start (s.len + 1) ++ cs ≡ row s.array s.start s.len ++ (c ∷ cs)
longer_row s c cs h =
    let is = goes_on_is s c h in
    let one_more : s.len + 1 ≡ suc s.len = omega arith in
    ap (λ n. row s.array s.start n ++ cs) one_more
    ∙ ap (λ t. t ++ cs) (row_more s.array s.start s.len ∙ ap (λ d. row s.array s.start s.len ++ (d ∷ [])) (same_cell (at s.array (s.start + s.len)) c is.array is.index))
    ∙ append_assoc (row s.array s.start s.len) (c ∷ []) cs

back : (s : Section) (cs : List Cell) → section_cells (sections_behind s cs) ≡ row s.array s.start s.len ++ cs
back s [] = refl
back s (c ∷ cs) = at_once (goes_on s c) refl (back (longer s) cs) (back (alone c) cs)
  where
    at_once : (b : Bool) → goes_on s c ≡ b → section_cells (sections_behind (longer s) cs) ≡ row s.array s.start (s.len + 1) ++ cs → section_cells (sections_behind (alone c) cs) ≡ c ∷ cs → section_cells (sections_behind s (c ∷ cs)) ≡ row s.array s.start s.len ++ (c ∷ cs)
    at_once true h long new = rw h (long ∙ longer_row s c cs h)
    at_once false h long new = rw h (ap (λ t. row s.array s.start s.len ++ t) new)

pub comes_back : (cs : List Cell) → section_cells (sections_of cs) ≡ cs
comes_back [] = refl
comes_back (c ∷ cs) = back (alone c) cs

pub come_back : CellsComeBack
come_back [] = refl
come_back (c ∷ cs) = back (alone c) cs

-- ---- sections are determined

abbrev pub behind_start : ℕ → Text → Text
behind_start n r = length_of n ++ (93 ∷ r)

pub section_shown : (names : List Text) (s : Section) (r : Text) → section names s ++ r ≡ name names s.array ++ (91 ∷ (decimal s.start ++ behind_start s.len r))
section_shown names s r = parts (name names s.array) (decimal s.start) (length_of s.len) r
  where
    parts : (w ds ls r : Text) → (w ++ (91 ∷ []) ++ ds ++ ls ++ (93 ∷ [])) ++ r ≡ w ++ (91 ∷ (ds ++ (ls ++ (93 ∷ r))))
    parts w ds ls r = simp append_assoc refl

many : (n : ℕ) (r : Text) → nat_lt 1 n ≡ true → behind_start n r ≡ 58 ∷ (decimal n ++ (93 ∷ r))
many n r h = rw h refl

one : (n : ℕ) (r : Text) → nat_lt 1 n ≡ false → behind_start n r ≡ 93 ∷ r
one n r h = rw h refl

length_stops : (n : ℕ) (r : Text) (c : Bool) → nat_lt 1 n ≡ c → starts (behind_start n r) ≡ false
length_stops n r true h = ap starts (many n r h)
length_stops n r false h = ap starts (one n r h)

same_length : (m n : ℕ) (r s : Text) → 0 < m → 0 < n → m < 2 ^ 64 → n < 2 ^ 64 → (c d : Bool) → nat_lt 1 m ≡ c → nat_lt 1 n ≡ d → behind_start m r ≡ behind_start n s → (m ≡ n) × (r ≡ s)
same_length m n r s pm pn fm fn true true hm hn is =
    let both = split (decimal m) (decimal n) (93 ∷ r) (93 ∷ s) (digits_are m fm).word (digits_are n fn).word refl refl (ap tail_of (sym (many m r hm) ∙ is ∙ many n s hn)) in
    (decimal_injective m n fm fn both.0, ap tail_of both.1)
same_length m n r s pm pn fm fn true false hm hn is = absurd (omega (arith, ap head_of (sym (many m r hm) ∙ is ∙ one n s hn)))
same_length m n r s pm pn fm fn false true hm hn is = absurd (omega (arith, ap head_of (sym (one m r hm) ∙ is ∙ many n s hn)))
same_length m n r s pm pn fm fn false false hm hn is =
    (omega (arith, pm, pn, lt_false 1 m hm, lt_false 1 n hn), ap tail_of (sym (one m r hm) ∙ is ∙ one n s hn))

pub same_one : (names : List Text) → AreNames names → (s t : Section) (r u : Text) → FitsSection names s → FitsSection names t → section names s ++ r ≡ section names t ++ u → (s ≡ t) × (r ≡ u)
same_one names are s t r u f g is =
    let all = opened names are s.array t.array s.start t.start (behind_start s.len r) (behind_start t.len u) f.0 g.0 f.1 g.1 (length_stops s.len r (nat_lt 1 s.len) refl) (length_stops t.len u (nat_lt 1 t.len) refl) (sym (section_shown names s r) ∙ is ∙ section_shown names t u) in
    let lens = same_length s.len t.len r u f.2 g.2 f.3 g.3 (nat_lt 1 s.len) (nat_lt 1 t.len) refl refl all.2 in
    (same_section s t all.0 all.1 lens.0, lens.1)

further_shown : (names : List Text) (s : Section) (ss : List Section) (r : Text) → further names (s ∷ ss) ++ r ≡ 44 ∷ 32 ∷ (section names s ++ (further names ss ++ r))
further_shown names s ss r = parts (section names s) (further names ss) r
  where
    parts : (x y r : Text) → ((44 ∷ 32 ∷ []) ++ x ++ y) ++ r ≡ 44 ∷ 32 ∷ (x ++ (y ++ r))
    parts x y r = ap (λ t. 44 ∷ 32 ∷ t) (append_assoc x y r)

pub same_further : (names : List Text) → AreNames names → (ss ts : List Section) (r u : Text) → AllFit names ss → AllFit names ts → (head_of r ≡ 44 → ⊥) → (head_of u ≡ 44 → ⊥) → further names ss ++ r ≡ further names ts ++ u → (ss ≡ ts) × (r ≡ u)
same_further names are [] [] r u f g hr hu is = (refl, is)
same_further names are [] (t ∷ ts) r u f g hr hu is = absurd (hr (ap head_of (is ∙ further_shown names t ts u)))
same_further names are (s ∷ ss) [] r u f g hr hu is = absurd (hu (ap head_of (sym is ∙ further_shown names s ss r)))
same_further names are (s ∷ ss) (t ∷ ts) r u f g hr hu is =
    let first = same_one names are s t (further names ss ++ r) (further names ts ++ u) f.0 g.0 (ap (λ w. tail_of (tail_of w)) (sym (further_shown names s ss r) ∙ is ∙ further_shown names t ts u)) in
    let rest = same_further names are ss ts r u f.1 g.1 hr hu first.1 in
    (ap (λ x. x ∷ ss) first.0 ∙ ap (λ x. t ∷ x) rest.0, rest.1)

-- sections, at least one of each
pub same_sections : (names : List Text) → AreNames names → (s : Section) (ss : List Section) (t : Section) (ts : List Section) (r u : Text) → AllFit names (s ∷ ss) → AllFit names (t ∷ ts) → (head_of r ≡ 44 → ⊥) → (head_of u ≡ 44 → ⊥)
    → sections names (s ∷ ss) ++ r ≡ sections names (t ∷ ts) ++ u → ((s ∷ ss) ≡ (t ∷ ts)) × (r ≡ u)
same_sections names are s ss t ts r u f g hr hu is =
    let first = same_one names are s t (further names ss ++ r) (further names ts ++ u) f.0 g.0 (sym (append_assoc (section names s) (further names ss) r) ∙ is ∙ append_assoc (section names t) (further names ts) u) in
    let rest = same_further names are ss ts r u f.1 g.1 hr hu first.1 in
    (ap (λ x. x ∷ ss) first.0 ∙ ap (λ x. t ∷ x) rest.0, rest.1)

-- some text stands where a section does
not_nothing : (names : List Text) (s : Section) (ss : List Section) → [] ≡ sections names (s ∷ ss) → ⊥
not_nothing names s ss is = none (name names s.array) (decimal s.start ++ behind_start s.len (further names ss)) (is ∙ section_shown names s (further names ss))
  where
    none : (w t : Text) → [] ≡ w ++ (91 ∷ t) → ⊥
    none [] t e = omega (arith, ap length e)
    none (b ∷ bs) t e = cc

not_44 : head_of [] ≡ 44 → ⊥
not_44 h = omega (arith, h)

pub sections_law : SectionsAreDetermined
sections_law names are [] [] f g is = refl
sections_law names are [] (t ∷ ts) f g is = absurd (not_nothing names t ts is)
sections_law names are (s ∷ ss) [] f g is = absurd (not_nothing names s ss (sym is))
sections_law names are (s ∷ ss) (t ∷ ts) f g is = (same_sections names are s ss t ts [] [] f g not_44 not_44 (ap (λ w. w ++ []) is)).0

-- ---- sections of cells fit

behind_fit : (names : List Text) (s : Section) (cs : List Cell) → FitsSection names s → CellsFit names cs → AllFit names (sections_behind s cs)
behind_fit names s [] f g = (f, tt)
behind_fit names s (c ∷ cs) f g = at_once (goes_on s c) refl (λ long. behind_fit names (longer s) cs long g.1) (behind_fit names (alone c) cs (g.0.0, g.0.1, omega arith, omega arith) g.1)
  where
    at_once : (b : Bool) → goes_on s c ≡ b → (FitsSection names (longer s) → AllFit names (sections_behind (longer s) cs)) → AllFit names (sections_behind (alone c) cs) → AllFit names (sections_behind s (c ∷ cs))
    at_once true h long new = rw h (long (f.0, f.1, omega arith, omega (arith, (goes_on_is s c h).small)))
    at_once false h long new = rw h (f, new)

pub all_fit : (names : List Text) (cs : List Cell) → CellsFit names cs → AllFit names (sections_of cs)
all_fit names [] g = tt
all_fit names (c ∷ cs) g = behind_fit names (alone c) cs (g.0.0, g.0.1, omega arith, omega arith) g.1

pub cells_law : CellsAreDetermined
cells_law names are cs ds f g is = sym (come_back cs) ∙ ap section_cells (sections_law names are (sections_of cs) (sections_of ds) (all_fit names cs f) (all_fit names ds g) is) ∙ come_back ds
