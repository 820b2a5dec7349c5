-- Clauses' text determines what they declare.
use Rattle.std.proofs.Common.{◌≡◌, ℕ, ◌==◌, List, [], ◌∷◌, ◌++◌, Bool, true, false, ◌&&◌, refl, sym, ap, subst, ◌∙◌, append_assoc, arith, true≢false}
use Rattle.std.specs.Prelude.{codes}
use Rattle.std.proofs.lemmas.Bool.Decides.{nat_tests}
use Rattle.std.proofs.lemmas.List.{append_cancel_left, append-nil}
use Rattle.ot_model.specs.declared.expr.Cell.{Cell}
use Rattle.ot_model.specs.declared.expr.Section.{Section}
use Rattle.ot_model.specs.declared.fold.Fold.{Fold as Operation}
use Rattle.ot_model.specs.declared.fold.Fold.TheVariants as f
use Rattle.ot_model.specs.declared.stmt.Mode.{Mode}
use Rattle.ot_model.specs.declared.stmt.Mode.TheVariants as m
use Rattle.ot_model.specs.declared.stmt.Use.{Use}
use Rattle.ot_model.specs.Cells.{AreInOrder, Precedes, same_mode}
use Rattle.ot_model.proofs.EqualLemmas.{mode-decides}
use Rattle.ot_model.proofs.OrderLemmas.{precedes_trans, precedes_apart, rest_in_order}
use Rattle.ot_show_print.specs.Shown.{Text, sections, clause, mode_clause, fold_clause, task, cells_in, sections_of, section_cells}
use Rattle.ot_model.specs.Signs.{identifier}
use Rattle.ot_show_print.specs.Laws.{AreNames, AllFit, CellsFit, UsesFit, TaskIsDetermined}
use Rattle.ot_show_print.proofs.WordLemmas.{head_of, tail_of}
use Rattle.ot_show_print.proofs.SectionLemmas.{come_back, same_sections, all_fit}

-- whether a text begins with these words
abbrev begins : Text → Text → Bool
begins [] t = true
begins (w ∷ ws) [] = false
begins (w ∷ ws) (b ∷ bs) = (w == b) && begins ws bs

same_byte : (w : ℕ) → (w == w) ≡ true
same_byte w = grind (arith, nat_tests)

begins_own : (ws t : Text) → begins ws (ws ++ t) ≡ true
begins_own [] t = refl
begins_own (w ∷ ws) t = rw (same_byte w) (begins_own ws t)

pub clause_shown : (names : List Text) (words : Text) (s : Section) (ss : List Section) (r : Text) → clause names words (s ∷ ss) ++ r ≡ words ++ (sections names (s ∷ ss) ++ (41 ∷ r))
clause_shown names words s ss r = parts words (sections names (s ∷ ss)) r
  where
    parts : (w x r : Text) → (w ++ x ++ (41 ∷ [])) ++ r ≡ w ++ (x ++ (41 ∷ r))
    parts w x r = simp append_assoc refl

pub no_comma : (r : Text) → head_of (41 ∷ r) ≡ 44 → ⊥
no_comma r h = omega (arith, h)

same_clause : (names : List Text) → AreNames names → (words : Text) (ss ts : List Section) (r u : Text) → AllFit names ss → AllFit names ts → begins words r ≡ false → begins words u ≡ false
    → clause names words ss ++ r ≡ clause names words ts ++ u → (ss ≡ ts) × (r ≡ u)
same_clause names are words [] [] r u f g hr hu is = (refl, is)
same_clause names are words [] (t ∷ ts) r u f g hr hu is =
    absurd (true≢false (sym (begins_own words (sections names (t ∷ ts) ++ (41 ∷ u))) ∙ sym (ap (begins words) (is ∙ clause_shown names words t ts u)) ∙ hr))
same_clause names are words (s ∷ ss) [] r u f g hr hu is =
    absurd (true≢false (sym (begins_own words (sections names (s ∷ ss) ++ (41 ∷ r))) ∙ ap (begins words) (sym (clause_shown names words s ss r) ∙ is) ∙ hu))
same_clause names are words (s ∷ ss) (t ∷ ts) r u f g hr hu is =
    let inner = append_cancel_left words (sections names (s ∷ ss) ++ (41 ∷ r)) (sections names (t ∷ ts) ++ (41 ∷ u)) (sym (clause_shown names words s ss r) ∙ is ∙ clause_shown names words t ts u) in
    let both = same_sections names are s ss t ts (41 ∷ r) (41 ∷ u) f g (no_comma r) (no_comma u) inner in
    (both.0, ap tail_of both.1)

-- ---- clauses behind one another

pub record Kind : Type 0 where
  pub words : Text
  pub mode : Mode

abbrev pub clauses : List Text → List Kind → List Use → Text → Text
clauses names [] us r = r
clauses names (k ∷ ks) us r = clause names k.words (sections_of (cells_in us k.mode)) ++ clauses names ks us r

-- no other clause, and nothing that follows, begins with these words
pub record Alone (w : Text) (ks : List Kind) : Type 0 where
  pub others : (us : List Use) (names : List Text) (r : Text) → begins w r ≡ false → begins w (clauses names ks us r) ≡ false

abbrev pub Ends : List Kind → Text → Type 0
Ends [] r = Unit {0}
Ends (k ∷ ks) r = (begins k.words r ≡ false) × Ends ks r

abbrev pub Apart : List Kind → Type 0
Apart [] = Unit {0}
Apart (k ∷ ks) = Alone k.words ks × Apart ks

abbrev pub Agree : List Kind → List Use → List Use → Type 0
Agree [] us vs = Unit {0}
Agree (k ∷ ks) us vs = (cells_in us k.mode ≡ cells_in vs k.mode) × Agree ks us vs

pub cells_fit : (names : List Text) (us : List Use) (m : Mode) → UsesFit names us → CellsFit names (cells_in us m)
cells_fit names [] m g = tt
cells_fit names (u ∷ us) m g = at_once (same_mode u.mode m) refl (cells_fit names us m g.1)
  where
    at_once : (b : Bool) → same_mode u.mode m ≡ b → CellsFit names (cells_in us m) → CellsFit names (cells_in (u ∷ us) m)
    at_once true h rest = rw h (g.0, rest)
    at_once false h rest = rw h rest

pub same_clauses : (names : List Text) → AreNames names → (ks : List Kind) (us vs : List Use) (r u : Text) → Apart ks → UsesFit names us → UsesFit names vs → Ends ks r → Ends ks u → clauses names ks us r ≡ clauses names ks vs u → Agree ks us vs × (r ≡ u)
same_clauses names are [] us vs r u apart f g hr hu is = (tt, is)
same_clauses names are (k ∷ ks) us vs r u apart f g hr hu is =
    let first = same_clause names are k.words (sections_of (cells_in us k.mode)) (sections_of (cells_in vs k.mode)) (clauses names ks us r) (clauses names ks vs u)
    (all_fit names (cells_in us k.mode) (cells_fit names us k.mode f)) (all_fit names (cells_in vs k.mode) (cells_fit names vs k.mode g))
    (apart.0.others us names r hr.0) (apart.0.others vs names u hu.0) is in
    let rest = same_clauses names are ks us vs r u apart.1 f g hr.1 hu.1 first.1 in
    ((sym (come_back (cells_in us k.mode)) ∙ ap section_cells first.0 ∙ come_back (cells_in vs k.mode), rest.0), rest.1)

alone_nil : (w : Text) → Alone w []
alone_nil w = record { others = λ us names r h. h }

alone_cons : (w : Text) (k : Kind) (ks : List Kind) → ((t : Text) → begins w (k.words ++ t) ≡ false) → Alone w ks → Alone w (k ∷ ks)
alone_cons w k ks apart rest = record { others = λ us names r h. step names us r (sections_of (cells_in us k.mode)) (rest.others us names r h) }
  where
    step : (names : List Text) (us : List Use) (r : Text) (ss : List Section) → begins w (clauses names ks us r) ≡ false → begins w (clause names k.words ss ++ clauses names ks us r) ≡ false
    step names us r [] h = h
    step names us r (s ∷ ss) h = ap (begins w) (clause_shown names k.words s ss (clauses names ks us r)) ∙ apart (sections names (s ∷ ss) ++ (41 ∷ clauses names ks us r))

-- ---- a task's clauses

abbrev pub reads : Kind
reads = record { words = codes " in("; mode = m.Reads }

abbrev pub writes : Kind
writes = record { words = codes " out("; mode = m.Writes }

abbrev folds : Operation → Kind
folds op = record { words = codes " in_reduction(" ++ identifier op ++ codes ": "; mode = m.Folds op }

abbrev max_kinds : List Kind
max_kinds = folds f.Max ∷ []

abbrev min_kinds : List Kind
min_kinds = folds f.Min ∷ max_kinds

abbrev xor_kinds : List Kind
xor_kinds = folds f.Xor ∷ min_kinds

abbrev or_kinds : List Kind
or_kinds = folds f.Or ∷ xor_kinds

abbrev and_kinds : List Kind
and_kinds = folds f.And ∷ or_kinds

abbrev times_kinds : List Kind
times_kinds = folds f.Times ∷ and_kinds

abbrev fold_kinds : List Kind
fold_kinds = folds f.Plus ∷ times_kinds

abbrev pub task_kinds : List Kind
task_kinds = reads ∷ writes ∷ fold_kinds

abbrev IsApart : Text → List Kind → Type 0
IsApart w [] = Unit {0}
IsApart w (k ∷ ks) = ((t : Text) → begins w (k.words ++ t) ≡ false) × IsApart w ks

pub alone : (w : Text) (ks : List Kind) → IsApart w ks → Alone w ks
alone w [] h = alone_nil w
alone w (k ∷ ks) h = alone_cons w k ks h.0 (alone w ks h.1)

reads_alone : Alone reads.words (writes ∷ fold_kinds)
reads_alone = alone reads.words (writes ∷ fold_kinds) (λ t. refl, (λ t. refl, (λ t. refl, (λ t. refl, (λ t. refl, (λ t. refl, (λ t. refl, (λ t. refl, tt))))))))

writes_alone : Alone writes.words fold_kinds
writes_alone = alone writes.words fold_kinds (λ t. refl, (λ t. refl, (λ t. refl, (λ t. refl, (λ t. refl, (λ t. refl, (λ t. refl, tt)))))))

plus_alone : Alone (folds f.Plus).words times_kinds
plus_alone = alone (folds f.Plus).words times_kinds (λ t. refl, (λ t. refl, (λ t. refl, (λ t. refl, (λ t. refl, (λ t. refl, tt))))))

times_alone : Alone (folds f.Times).words and_kinds
times_alone = alone (folds f.Times).words and_kinds (λ t. refl, (λ t. refl, (λ t. refl, (λ t. refl, (λ t. refl, tt)))))

and_alone : Alone (folds f.And).words or_kinds
and_alone = alone (folds f.And).words or_kinds (λ t. refl, (λ t. refl, (λ t. refl, (λ t. refl, tt))))

or_alone : Alone (folds f.Or).words xor_kinds
or_alone = alone (folds f.Or).words xor_kinds (λ t. refl, (λ t. refl, (λ t. refl, tt)))

xor_alone : Alone (folds f.Xor).words min_kinds
xor_alone = alone (folds f.Xor).words min_kinds (λ t. refl, (λ t. refl, tt))

min_alone : Alone (folds f.Min).words max_kinds
min_alone = alone (folds f.Min).words max_kinds (λ t. refl, tt)

max_alone : Alone (folds f.Max).words []
max_alone = alone (folds f.Max).words [] tt

pub task_apart : Apart task_kinds
task_apart = (reads_alone, (writes_alone, (plus_alone, (times_alone, (and_alone, (or_alone, (xor_alone, (min_alone, (max_alone, tt)))))))))

pub task_ends : Ends task_kinds []
task_ends = (refl, (refl, (refl, (refl, (refl, (refl, (refl, (refl, (refl, tt)))))))))

pub task_shown : (names : List Text) (us : List Use) → task names us ≡ codes "task" ++ clauses names task_kinds us []
task_shown names us =
    parts (codes "task") (mode_clause names (codes " in(") us m.Reads) (mode_clause names (codes " out(") us m.Writes)
    (fold_clause names us f.Plus) (fold_clause names us f.Times) (fold_clause names us f.And) (fold_clause names us f.Or) (fold_clause names us f.Xor) (fold_clause names us f.Min) (fold_clause names us f.Max)
  where
    parts : (a i o x1 x2 x3 x4 x5 x6 x7 : Text) → a ++ (i ++ o) ++ x1 ++ x2 ++ x3 ++ x4 ++ x5 ++ x6 ++ x7 ≡ a ++ (i ++ (o ++ (x1 ++ (x2 ++ (x3 ++ (x4 ++ (x5 ++ (x6 ++ (x7 ++ [])))))))))
    parts a i o x1 x2 x3 x4 x5 x6 x7 = simp (append_assoc, append-nil) refl

agree_all : (us vs : List Use) → Agree task_kinds us vs → (m : Mode) → cells_in us m ≡ cells_in vs m
agree_all us vs h m.Reads = h.0
agree_all us vs h m.Writes = h.1.0
agree_all us vs h (m.Folds f.Plus) = h.1.1.0
agree_all us vs h (m.Folds f.Times) = h.1.1.1.0
agree_all us vs h (m.Folds f.And) = h.1.1.1.1.0
agree_all us vs h (m.Folds f.Or) = h.1.1.1.1.1.0
agree_all us vs h (m.Folds f.Xor) = h.1.1.1.1.1.1.0
agree_all us vs h (m.Folds f.Min) = h.1.1.1.1.1.1.1.0
agree_all us vs h (m.Folds f.Max) = h.1.1.1.1.1.1.1.1.0

-- ---- a declaration from its cells by mode

abbrev first_or : Cell → List Cell → Cell
first_or d [] = d
first_or d (c ∷ cs) = c

abbrev others_of : List Cell → List Cell
others_of [] = []
others_of (c ∷ cs) = cs

taken : (u : Use) (us : List Use) (m : Mode) → same_mode u.mode m ≡ true → cells_in (u ∷ us) m ≡ u.cell ∷ cells_in us m
taken u us m h = rw h refl

pub passed : (u : Use) (us : List Use) (m : Mode) → same_mode u.mode m ≡ false → cells_in (u ∷ us) m ≡ cells_in us m
passed u us m h = rw h refl

itself : (m : Mode) → same_mode m m ≡ true
itself m = (mode-decides m m).1 refl

not_none : (c : Cell) (cs : List Cell) → [] ≡ c ∷ cs → ⊥
not_none c cs is = cc

later : (v : Use) (vs : List Use) (m : Mode) (c : Cell) (cs : List Cell) → AreInOrder (v ∷ vs) → cells_in vs m ≡ c ∷ cs → Precedes v.cell c
later v [] m c cs order is = absurd (not_none c cs is)
later v (w ∷ ws) m c cs order is = at_once (same_mode w.mode m) refl (λ e. precedes_trans v.cell w.cell c order.0 (later w ws m c cs order.1 e))
  where
    at_once : (b : Bool) → same_mode w.mode m ≡ b → (cells_in ws m ≡ c ∷ cs → Precedes v.cell c) → Precedes v.cell c
    at_once true h rest = subst (λ (d : Cell). Precedes v.cell d) (ap (first_or c) (sym (taken w ws m h) ∙ is)) order.0
    at_once false h rest = rest (sym (passed w ws m h) ∙ is)

same_use : (u v : Use) → u.cell ≡ v.cell → u.mode ≡ v.mode → u ≡ v
same_use u v cell mode =
    let at : Cell → Mode → Use = λ c n. record { cell = c; mode = n } in
    ap (λ c. at c u.mode) cell ∙ ap (at v.cell) mode

-- the first uses are one
same_first : (u : Use) (us : List Use) (v : Use) (vs : List Use) → AreInOrder (u ∷ us) → AreInOrder (v ∷ vs) → ((m : Mode) → cells_in (u ∷ us) m ≡ cells_in (v ∷ vs) m) → (b c : Bool) → same_mode v.mode u.mode ≡ b → same_mode u.mode v.mode ≡ c → u ≡ v
same_first u us v vs o p all true c h k =
    same_use u v (ap (first_or u.cell) (sym (taken u us u.mode (itself u.mode)) ∙ all u.mode ∙ taken v vs u.mode h)) (sym ((mode-decides v.mode u.mode).0 h))
same_first u us v vs o p all false true h k =
    same_use u v (ap (first_or u.cell) (sym (taken u us v.mode k) ∙ all v.mode ∙ taken v vs v.mode (itself v.mode))) ((mode-decides u.mode v.mode).0 k)
same_first u us v vs o p all false false h k =
    let one = later v vs u.mode u.cell (cells_in us u.mode) p (sym (passed v vs u.mode h) ∙ sym (all u.mode) ∙ taken u us u.mode (itself u.mode)) in
    let two = later u us v.mode v.cell (cells_in vs v.mode) o (sym (passed u us v.mode k) ∙ all v.mode ∙ taken v vs v.mode (itself v.mode)) in
    absurd (precedes_apart u.cell u.cell (precedes_trans u.cell v.cell u.cell two one) refl)

same_rest : (u : Use) (us vs : List Use) (m : Mode) (b : Bool) → same_mode u.mode m ≡ b → cells_in (u ∷ us) m ≡ cells_in (u ∷ vs) m → cells_in us m ≡ cells_in vs m
same_rest u us vs m true h is = ap others_of (sym (taken u us m h) ∙ is ∙ taken u vs m h)
same_rest u us vs m false h is = sym (passed u us m h) ∙ is ∙ passed u vs m h

pub same_uses : (us vs : List Use) → AreInOrder us → AreInOrder vs → ((m : Mode) → cells_in us m ≡ cells_in vs m) → us ≡ vs
same_uses [] [] o p all = refl
same_uses [] (v ∷ vs) o p all = absurd (not_none v.cell (cells_in vs v.mode) (all v.mode ∙ taken v vs v.mode (itself v.mode)))
same_uses (u ∷ us) [] o p all = absurd (not_none u.cell (cells_in us u.mode) (sym (all u.mode) ∙ taken u us u.mode (itself u.mode)))
same_uses (u ∷ us) (v ∷ vs) o p all =
    let first : u ≡ v = same_first u us v vs o p all (same_mode v.mode u.mode) (same_mode u.mode v.mode) refl refl in
    let rest : (m : Mode) → cells_in us m ≡ cells_in vs m = λ m. same_rest u us vs m (same_mode u.mode m) refl (all m ∙ ap (λ w. cells_in (w ∷ vs) m) (sym first)) in
    ap (λ w. w ∷ us) first ∙ ap (λ ws. v ∷ ws) (same_uses us vs (rest_in_order u us o) (rest_in_order v vs p) rest)

pub task_law : TaskIsDetermined
task_law names are us vs o p f g is =
    let inner = append_cancel_left (codes "task") (clauses names task_kinds us []) (clauses names task_kinds vs []) (sym (task_shown names us) ∙ is ∙ task_shown names vs) in
    same_uses us vs o p (agree_all us vs (same_clauses names are task_kinds us vs [] [] task_apart f g task_ends task_ends inner).0)
