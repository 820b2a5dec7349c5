-- A wait's text determines what it declares.
use Rattle.std.proofs.Common.{◌≡◌, List, [], ◌∷◌, ◌++◌, true, false, not, refl, sym, ap, ◌∙◌, arith, true≢false, append_assoc}
use Rattle.std.specs.Prelude.{Some, None, codes, decimal}
use Rattle.std.proofs.lemmas.List.{append_cancel_left, append-nil}
use Rattle.ot_model.specs.declared.expr.Section.{Section}
use Rattle.ot_model.specs.declared.fold.Fold.{Fold as Operation}
use Rattle.ot_model.specs.declared.stmt.Mode.{Mode}
use Rattle.ot_model.specs.declared.stmt.Mode.TheVariants as m
use Rattle.ot_model.specs.declared.stmt.Use.{Use}
use Rattle.ot_model.specs.Cells.{is_fold, same_mode}
use Rattle.ot_show_print.specs.Shown.{Text, name, section, sections, further, clause, mode_clause, dependences, wait_declares, cells_in, sections_of}
use Rattle.ot_show_print.specs.Laws.{in_word, all_word, is_digit, is_name, AreNames, AllFit, UsesFit, OnlyDepends, WaitFits, WaitIsDetermined}
use Rattle.ot_show_print.proofs.WordLemmas.{and_true, head_of, tail_of}
use Rattle.ot_show_print.proofs.SectionLemmas.{section_shown, all_fit, behind_start}
use Rattle.ot_show_print.proofs.ClauseLemmas.{clause_shown, Kind, clauses, Agree, Apart, Ends, same_clauses, reads, writes, alone, passed, cells_fit, same_uses}

abbrev pub wait_kinds : List Kind
wait_kinds = reads ∷ writes ∷ []

wait_apart : Apart wait_kinds
wait_apart = (alone reads.words (writes ∷ []) (λ t. refl, tt), (alone writes.words [] tt, tt))

pub dependences_shown : (names : List Text) (us : List Use) → dependences names us ≡ clauses names wait_kinds us []
dependences_shown names us =
    ap (λ t. mode_clause names (codes " in(") us m.Reads ++ t) (sym (append-nil (mode_clause names (codes " out(") us m.Writes)))

-- ---- none of the uses folds

not_fold : (n : Mode) (op : Operation) → is_fold n ≡ false → same_mode n (m.Folds op) ≡ false
not_fold m.Reads op h = refl
not_fold m.Writes op h = refl
not_fold (m.Folds other) op h = absurd (true≢false h)

no_folds : (us : List Use) (op : Operation) → OnlyDepends us → cells_in us (m.Folds op) ≡ []
no_folds [] op h = refl
no_folds (u ∷ us) op h = passed u us (m.Folds op) (not_fold u.mode op h.0) ∙ no_folds us op h.1

agree_all : (us vs : List Use) → Agree wait_kinds us vs → OnlyDepends us → OnlyDepends vs → (n : Mode) → cells_in us n ≡ cells_in vs n
agree_all us vs h p q m.Reads = h.0
agree_all us vs h p q m.Writes = h.1.0
agree_all us vs h p q (m.Folds op) = no_folds us op p ∙ sym (no_folds vs op q)

wait_ends : Ends wait_kinds []
wait_ends = (refl, (refl, tt))

same_dependences : (names : List Text) → AreNames names → (us vs : List Use) → WaitFits names (Some us) → WaitFits names (Some vs) → dependences names us ≡ dependences names vs → us ≡ vs
same_dependences names are us vs f g is =
    let both = same_clauses names are wait_kinds us vs [] [] wait_apart f.1 g.1 wait_ends wait_ends (sym (dependences_shown names us) ∙ is ∙ dependences_shown names vs) in
    same_uses us vs f.0 g.0 (agree_all us vs both.0 f.2 g.2)

-- ---- an empty clause

word_head : (w t : Text) → is_name w ≡ true → in_word (head_of (w ++ t)) ≡ true
word_head [] t h = absurd (true≢false (sym h))
word_head (b ∷ bs) t h = (and_true (in_word b) (all_word bs) (and_true (not (is_digit b)) (all_word (b ∷ bs)) h).1).0

-- sections begin with a name
section_head : (names : List Text) → AreNames names → (s : Section) (ss : List Section) (r : Text) → AllFit names (s ∷ ss) → in_word (head_of (sections names (s ∷ ss) ++ r)) ≡ true
section_head names are s ss r f =
    ap (λ t. in_word (head_of t)) (append_assoc (section names s) (further names ss) r ∙ section_shown names s (further names ss ++ r))
    ∙ word_head (name names s.array) (91 ∷ (decimal s.start ++ behind_start s.len (further names ss ++ r))) (are.each s.array f.0.0)

no_cells : (names : List Text) → AreNames names → (ss ts : List Section) → AllFit names ss → codes " in()" ≡ clause names (codes " in(") ss ++ clause names (codes " out(") ts → ⊥
no_cells names are [] [] f is = omega (arith, ap head_of is)
no_cells names are [] (t ∷ ts) f is = omega (arith, ap (λ w. head_of (tail_of w)) is)
no_cells names are (s ∷ ss) ts f is =
    let rest = append_cancel_left (codes " in(") (41 ∷ []) (sections names (s ∷ ss) ++ (41 ∷ clause names (codes " out(") ts)) (is ∙ clause_shown names (codes " in(") s ss (clause names (codes " out(") ts)) in
    true≢false (sym (section_head names are s ss (41 ∷ clause names (codes " out(") ts) f) ∙ sym (ap (λ w. in_word (head_of w)) rest))

not_empty : (names : List Text) → AreNames names → (us : List Use) → UsesFit names us → codes " in()" ≡ dependences names us → ⊥
not_empty names are us f is = no_cells names are (sections_of (cells_in us m.Reads)) (sections_of (cells_in us m.Writes)) (all_fit names (cells_in us m.Reads) (cells_fit names us m.Reads f)) is

-- ---- waits

not_none : (u : Use) (us : List Use) → [] ≡ u ∷ us → ⊥
not_none u us is = cc

same_waited : (names : List Text) → AreNames names → (us vs : List Use) → WaitFits names (Some us) → WaitFits names (Some vs) → wait_declares names us ≡ wait_declares names vs → us ≡ vs
same_waited names are [] [] f g is = refl
same_waited names are [] (v ∷ vs) f g is = absurd (not_empty names are (v ∷ vs) g.1 is)
same_waited names are (u ∷ us) [] f g is = absurd (not_empty names are (u ∷ us) f.1 (sym is))
same_waited names are (u ∷ us) (v ∷ vs) f g is = same_dependences names are (u ∷ us) (v ∷ vs) f g is

something : (names : List Text) → AreNames names → (us : List Use) → WaitFits names (Some us) → [] ≡ wait_declares names us → ⊥
something names are [] f is = omega (arith, ap head_of is)
something names are (u ∷ us) f is = not_none u us (same_dependences names are [] (u ∷ us) (tt, tt, tt) f is)

pub wait_law : WaitIsDetermined
wait_law names are None None f g is = refl
wait_law names are None (Some vs) f g is = absurd (something names are vs g (append_cancel_left (codes "taskwait") [] (wait_declares names vs) is))
wait_law names are (Some us) None f g is = absurd (something names are us f (append_cancel_left (codes "taskwait") [] (wait_declares names us) (sym is)))
wait_law names are (Some us) (Some vs) f g is = ap Some (same_waited names are us vs f g (append_cancel_left (codes "taskwait") (wait_declares names us) (wait_declares names vs) is))
