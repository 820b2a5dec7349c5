-- A statement's text determines what is told of it.
use Rattle.std.proofs.Common.{◌≡◌, ℕ, ◌==◌, List, [], ◌∷◌, ◌++◌, length, Bool, true, false, if◌then◌else◌, refl, sym, ap, ◌∙◌, arith}
use Rattle.std.specs.Prelude.{Option, Some, None, codes, decimal}
use Rattle.std.proofs.lemmas.Bool.Decides.{nat_tests}
use Rattle.std.proofs.lemmas.List.{append_cancel_left, append-nil}
use Rattle.ot_model.specs.declared.expr.Cell.{Cell}
use Rattle.ot_model.specs.declared.expr.Section.{Section}
use Rattle.ot_model.specs.declared.expr.Op.TheVariants as o
use Rattle.ot_model.specs.declared.fold.Fold.{Fold as Operation}
use Rattle.ot_model.specs.declared.fold.Fold.TheVariants as f
use Rattle.ot_model.specs.declared.stmt.Use.{Use}
use Rattle.ot_model.specs.Tree.{E, CellAt, Apply, S, Set, Fold, If, Task, Wait, Group, Body, End}
use Rattle.ot_model.specs.Signs.{identifier}
use Rattle.ot_show_print.specs.Shown.{Text, name, cell, value, clause, condition, group, statement, cells_in, sections_of}
use Rattle.ot_show_print.specs.Laws.{all_word, AreNames, Fits, CellsFit, FitsStatement, write_sign, HasSign, as_shown, group_as_shown, StatementIsShownSo, StatementIsDetermined}
use Rattle.ot_show_print.proofs.WordLemmas.{head_of, starts, split}
use Rattle.ot_show_print.proofs.ValueLemmas.{determined, name_word}
use Rattle.ot_show_print.proofs.ClauseLemmas.{Kind, clauses, task_kinds, task_shown, task_law, clause_shown}
use Rattle.ot_show_print.proofs.WaitLemmas.{wait_kinds, dependences_shown, wait_law}
use Rattle.ot_show_print.proofs.GroupLemmas.{group_law}
use Rattle.ot_show_print.proofs.WriteLemmas.{write_law, write_shown, called_law}

-- ---- writes: sets, and folds

-- a set, or a fold by an operation that has a sign
abbrev as_write : Option Operation → Cell → E → S
as_write None c e = Set c e
as_write (Some op) c e = Fold op c e

-- a write's cell, sign and value, as they are told
record IsWrite (names : List Text) (s : S) : Type 0 where
  pub sign : Option Operation
  pub target : Cell
  pub source : E
  pub has : HasSign sign
  pub cell_fits : Fits names (CellAt target)
  pub value_fits : Fits names source
  pub is : as_shown s ≡ as_write sign target source
  pub text : statement names s ≡ cell names target ++ write_sign sign ++ value names source

set_is : (names : List Text) (c : Cell) (e : E) → FitsStatement names (Set c e) → IsWrite names (Set c e)
set_is names c e fits = record { sign = None; target = c; source = e; has = tt; cell_fits = fits.0; value_fits = fits.1; is = refl; text = refl }

fold_is : (names : List Text) (op : Operation) (c : Cell) (e : E) → FitsStatement names (Fold op c e) → IsWrite names (Fold op c e)
fold_is names f.Min c e fits = record { sign = None; target = c; source = Apply o.Min (CellAt c) e; has = tt; cell_fits = fits.0; value_fits = (fits.0, fits.1); is = refl; text = (called_law names c e).1 }
fold_is names f.Max c e fits = record { sign = None; target = c; source = Apply o.Max (CellAt c) e; has = tt; cell_fits = fits.0; value_fits = (fits.0, fits.1); is = refl; text = (called_law names c e).0 }
fold_is names f.Plus c e fits = record { sign = Some f.Plus; target = c; source = e; has = refl; cell_fits = fits.0; value_fits = fits.1; is = refl; text = refl }
fold_is names f.Times c e fits = record { sign = Some f.Times; target = c; source = e; has = refl; cell_fits = fits.0; value_fits = fits.1; is = refl; text = refl }
fold_is names f.And c e fits = record { sign = Some f.And; target = c; source = e; has = refl; cell_fits = fits.0; value_fits = fits.1; is = refl; text = refl }
fold_is names f.Or c e fits = record { sign = Some f.Or; target = c; source = e; has = refl; cell_fits = fits.0; value_fits = fits.1; is = refl; text = refl }
fold_is names f.Xor c e fits = record { sign = Some f.Xor; target = c; source = e; has = refl; cell_fits = fits.0; value_fits = fits.1; is = refl; text = refl }

same_write : (names : List Text) → AreNames names → (s t : S) → IsWrite names s → IsWrite names t → statement names s ≡ statement names t → as_shown s ≡ as_shown t
same_write names are s t one two is =
    let all = write_law names are one.sign two.sign one.target two.target one.source two.source one.has two.has one.cell_fits two.cell_fits one.value_fits two.value_fits (sym one.text ∙ is ∙ two.text) in
    one.is ∙ ap (λ k. as_write k one.target one.source) all.0 ∙ ap (λ c. as_write two.sign c one.source) all.1 ∙ ap (as_write two.sign two.target) all.2 ∙ sym two.is

-- ---- kinds of statements, by the first word and what stands behind it

abbrev kind_of : Text → Text → ℕ
kind_of word rest = if head_of rest == 91 then 0 else length word

record Begins (names : List Text) (s : S) (kind : ℕ) : Type 0 where
  pub word : Text
  pub rest : Text
  pub is_word : all_word word ≡ true
  pub stops : starts rest ≡ false
  pub is : kind_of word rest ≡ kind
  pub text : statement names s ≡ word ++ rest

write_begins : (names : List Text) → AreNames names → (s : S) → IsWrite names s → Begins names s 0
write_begins names are s w = record {
  word = name names w.target.array;
  rest = 91 ∷ (decimal w.target.index ++ (93 ∷ (write_sign w.sign ++ value names w.source)));
  is_word = name_word (name names w.target.array) (are.each w.target.array w.cell_fits.0);
  stops = refl;
  is = refl;
  text = w.text ∙ write_shown names w.sign w.target w.source;
}

if_begins : (names : List Text) (s : S) (e : E) → statement names s ≡ codes "if (" ++ value names e ++ codes ")" → Begins names s 2
if_begins names s e is = record { word = codes "if"; rest = 32 ∷ 40 ∷ (value names e ++ codes ")"); is_word = refl; stops = refl; is = refl; text = is }

-- whether nothing stands here, or a blank
abbrev blank : Text → Bool
blank [] = true
blank (b ∷ bs) = b == 32

is_32 : (b : ℕ) → (b == 32) ≡ true → b ≡ 32
is_32 b h = grind (arith, nat_tests)

-- a directive's words, and clauses behind them
directive_begins : (names : List Text) (s : S) (word rest : Text) → all_word word ≡ true → blank rest ≡ true → statement names s ≡ word ++ rest → Begins names s (length word)
directive_begins names s word [] is_word h is = record { word = word; rest = []; is_word = is_word; stops = refl; is = refl; text = is }
directive_begins names s word (b ∷ bs) is_word h is =
    record { word = word; rest = b ∷ bs; is_word = is_word; stops = rw (is_32 b h) refl; is = rw (is_32 b h) refl; text = is }

blank_clause : (names : List Text) (w : Text) (ss : List Section) (r : Text) → blank r ≡ true → blank (clause names (32 ∷ w) ss ++ r) ≡ true
blank_clause names w [] r h = h
blank_clause names w (s ∷ ss) r h = ap blank (clause_shown names (32 ∷ w) s ss r)

abbrev AllBlank : List Kind → Type 0
AllBlank [] = Unit {0}
AllBlank (k ∷ ks) = ((w : Text) × (k.words ≡ 32 ∷ w)) × AllBlank ks

blank_clauses : (names : List Text) (ks : List Kind) (us : List Use) → AllBlank ks → blank (clauses names ks us []) ≡ true
blank_clauses names [] us h = refl
blank_clauses names (k ∷ ks) us h =
    ap (λ w. blank (clause names w (sections_of (cells_in us k.mode)) ++ clauses names ks us [])) h.0.1
    ∙ blank_clause names h.0.0 (sections_of (cells_in us k.mode)) (clauses names ks us []) (blank_clauses names ks us h.1)

task_blank : AllBlank task_kinds
task_blank = ((_, refl), ((_, refl), ((_, refl), ((_, refl), ((_, refl), ((_, refl), ((_, refl), ((_, refl), ((_, refl), tt)))))))))

wait_blank : AllBlank wait_kinds
wait_blank = ((_, refl), ((_, refl), tt))

task_begins : (names : List Text) (us : List Use) (b : Body) → Begins names (Task us b) 4
task_begins names us b = directive_begins names (Task us b) (codes "task") (clauses names task_kinds us []) refl (blank_clauses names task_kinds us task_blank) (task_shown names us)

wait_begins : (names : List Text) (w : Option (List Use)) → Begins names (Wait w) 8
wait_begins names None = directive_begins names (Wait None) (codes "taskwait") [] refl refl refl
wait_begins names (Some []) = directive_begins names (Wait (Some [])) (codes "taskwait") (codes " in()") refl refl refl
wait_begins names (Some (u ∷ us)) =
    directive_begins names (Wait (Some (u ∷ us))) (codes "taskwait") (clauses names wait_kinds (u ∷ us) []) refl (blank_clauses names wait_kinds (u ∷ us) wait_blank) (ap (λ t. codes "taskwait" ++ t) (dependences_shown names (u ∷ us)))

group_begins : (names : List Text) (op : Operation) (cs : List Cell) (b : Body) → Begins names (Group op cs b) 9
group_begins names op cs b =
    let words = codes " task_reduction(" ++ identifier op ++ codes ": " in
    let ss = sections_of cs in
    directive_begins names (Group op cs b) (codes "taskgroup") (clause names words ss) refl
    (ap blank (sym (append-nil (clause names words ss))) ∙ blank_clause names (codes "task_reduction(" ++ identifier op ++ codes ": ") ss [] refl) refl

-- statements of one text are of one kind
same_kind : (names : List Text) (s t : S) (k l : ℕ) → Begins names s k → Begins names t l → statement names s ≡ statement names t → k ≡ l
same_kind names s t k l one two is =
    let both = split one.word two.word one.rest two.rest one.is_word two.is_word one.stops two.stops (sym one.text ∙ is ∙ two.text) in
    sym one.is ∙ ap (λ w. kind_of w one.rest) both.0 ∙ ap (kind_of two.word) both.1 ∙ two.is

-- ---- two of a kind

same_if : (names : List Text) → AreNames names → (d e : E) → Fits names d → Fits names e → condition names (codes "if (") d ≡ condition names (codes "if (") e → d ≡ e
same_if names are d e f g is =
    ((determined names are d f).value e (codes ")") (codes ")") g refl refl (append_cancel_left (codes "if (") (value names d ++ codes ")") (value names e ++ codes ")") is)).0

same_group : (names : List Text) → AreNames names → (op other : Operation) (cs ds : List Cell) → CellsFit names cs → CellsFit names ds → group names op cs ≡ group names other ds → group_as_shown op cs ≡ group_as_shown other ds
same_group names are op other [] [] f g is = refl
same_group names are op other (c ∷ cs) ds f g is =
    let both = group_law names are op other c cs ds f g is in
    ap (λ k. Group k (c ∷ cs) End) both.0 ∙ ap (group_as_shown other) both.1
same_group names are op other [] (d ∷ ds) f g is =
    let both = group_law names are other op d ds [] g f (sym is) in
    sym (ap (λ k. Group k (d ∷ ds) End) both.0 ∙ ap (group_as_shown op) both.1)

-- ---- kinds by numbers: writes, an `if`, a task, a wait, a group

abbrev number : S → ℕ
number (Set c e) = 0
number (Fold op c e) = 0
number (If e a b) = 2
number (Task us b) = 4
number (Wait w) = 8
number (Group op cs b) = 9

write_of : (names : List Text) (s : S) → number s ≡ 0 → FitsStatement names s → IsWrite names s
write_of names (Set c e) h f = set_is names c e f
write_of names (Fold op c e) h f = fold_is names op c e f
write_of names (If e a b) h f = absurd (omega (arith, h))
write_of names (Task us b) h f = absurd (omega (arith, h))
write_of names (Wait w) h f = absurd (omega (arith, h))
write_of names (Group op cs b) h f = absurd (omega (arith, h))

begins : (names : List Text) → AreNames names → (s : S) → FitsStatement names s → Begins names s (number s)
begins names are (Set c e) f = write_begins names are (Set c e) (set_is names c e f)
begins names are (Fold op c e) f = write_begins names are (Fold op c e) (fold_is names op c e f)
begins names are (If e a b) f = if_begins names (If e a b) e refl
begins names are (Task us b) f = task_begins names us b
begins names are (Wait w) f = wait_begins names w
begins names are (Group op cs b) f = group_begins names op cs b

-- ---- a statement beside one of the same kind

both_writes : (names : List Text) → AreNames names → (s t : S) → number s ≡ 0 → number s ≡ number t → FitsStatement names s → FitsStatement names t → statement names s ≡ statement names t → as_shown s ≡ as_shown t
both_writes names are s t h k f g is = same_write names are s t (write_of names s h f) (write_of names t (sym k ∙ h) g) is

both_if : (names : List Text) → AreNames names → (e : E) (a b : Body) (t : S) → 2 ≡ number t → Fits names e → FitsStatement names t → statement names (If e a b) ≡ statement names t → as_shown (If e a b) ≡ as_shown t
both_if names are e a b (If d x y) k f g is = ap (λ v. If v End End) (same_if names are e d f g is)
both_if names are e a b (Set c d) k f g is = absurd (omega (arith, k))
both_if names are e a b (Fold op c d) k f g is = absurd (omega (arith, k))
both_if names are e a b (Task us x) k f g is = absurd (omega (arith, k))
both_if names are e a b (Wait w) k f g is = absurd (omega (arith, k))
both_if names are e a b (Group op cs x) k f g is = absurd (omega (arith, k))

both_tasks : (names : List Text) → AreNames names → (us : List Use) (a : Body) (t : S) → 4 ≡ number t → FitsStatement names (Task us a) → FitsStatement names t → statement names (Task us a) ≡ statement names t → as_shown (Task us a) ≡ as_shown t
both_tasks names are us a (Task vs b) k f g is = ap (λ w. Task w End) (task_law names are us vs f.0 g.0 f.1 g.1 is)
both_tasks names are us a (Set c d) k f g is = absurd (omega (arith, k))
both_tasks names are us a (Fold op c d) k f g is = absurd (omega (arith, k))
both_tasks names are us a (If d x y) k f g is = absurd (omega (arith, k))
both_tasks names are us a (Wait w) k f g is = absurd (omega (arith, k))
both_tasks names are us a (Group op cs x) k f g is = absurd (omega (arith, k))

both_waits : (names : List Text) → AreNames names → (v : Option (List Use)) (t : S) → 8 ≡ number t → FitsStatement names (Wait v) → FitsStatement names t → statement names (Wait v) ≡ statement names t → as_shown (Wait v) ≡ as_shown t
both_waits names are v (Wait w) k f g is = ap Wait (wait_law names are v w f g is)
both_waits names are v (Set c d) k f g is = absurd (omega (arith, k))
both_waits names are v (Fold op c d) k f g is = absurd (omega (arith, k))
both_waits names are v (If d x y) k f g is = absurd (omega (arith, k))
both_waits names are v (Task us x) k f g is = absurd (omega (arith, k))
both_waits names are v (Group op cs x) k f g is = absurd (omega (arith, k))

both_groups : (names : List Text) → AreNames names → (op : Operation) (cs : List Cell) (a : Body) (t : S) → 9 ≡ number t → CellsFit names cs → FitsStatement names t → statement names (Group op cs a) ≡ statement names t → as_shown (Group op cs a) ≡ as_shown t
both_groups names are op cs a (Group other ds b) k f g is = same_group names are op other cs ds f g is
both_groups names are op cs a (Set c d) k f g is = absurd (omega (arith, k))
both_groups names are op cs a (Fold other c d) k f g is = absurd (omega (arith, k))
both_groups names are op cs a (If d x y) k f g is = absurd (omega (arith, k))
both_groups names are op cs a (Task us x) k f g is = absurd (omega (arith, k))
both_groups names are op cs a (Wait w) k f g is = absurd (omega (arith, k))

by_kind : (names : List Text) → AreNames names → (s t : S) → FitsStatement names s → FitsStatement names t → number s ≡ number t → statement names s ≡ statement names t → as_shown s ≡ as_shown t
by_kind names are (Set c e) t f g k is = both_writes names are (Set c e) t refl k f g is
by_kind names are (Fold op c e) t f g k is = both_writes names are (Fold op c e) t refl k f g is
by_kind names are (If e a b) t f g k is = both_if names are e a b t k f g is
by_kind names are (Task us b) t f g k is = both_tasks names are us b t k f g is
by_kind names are (Wait w) t f g k is = both_waits names are w t k f g is
by_kind names are (Group op cs b) t f g k is = both_groups names are op cs b t k f g is

pub statement_law : StatementIsDetermined
statement_law names are s t f g is = by_kind names are s t f g (same_kind names s t (number s) (number t) (begins names are s f) (begins names are t g) is) is

-- ---- what is told is shown alike

fold_shown_so : (names : List Text) (op : Operation) (c : Cell) (e : E) → statement names (as_shown (Fold op c e)) ≡ statement names (Fold op c e)
fold_shown_so names f.Min c e = sym (called_law names c e).1
fold_shown_so names f.Max c e = sym (called_law names c e).0
fold_shown_so names f.Plus c e = refl
fold_shown_so names f.Times c e = refl
fold_shown_so names f.And c e = refl
fold_shown_so names f.Or c e = refl
fold_shown_so names f.Xor c e = refl

pub shown_so_law : StatementIsShownSo
shown_so_law names (Set c e) = refl
shown_so_law names (Fold op c e) = fold_shown_so names op c e
shown_so_law names (If e a b) = refl
shown_so_law names (Task us b) = refl
shown_so_law names (Wait w) = refl
shown_so_law names (Group op [] b) = refl
shown_so_law names (Group op (c ∷ cs) b) = refl
