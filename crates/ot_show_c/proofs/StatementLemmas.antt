-- In C, a body is determined as far as it is told.
use Rattle.std.proofs.Common.{◌≡◌, ℕ, ◌<◌, ◌^◌, ◌==◌, List, [], ◌∷◌, ◌++◌, length, drop, map, Bool, true, false, ◌||◌, if◌then◌else◌, refl, sym, ap, ◌∙◌, append_assoc, arith, true≢false}
use Rattle.std.specs.Prelude.{Option, Some, None, codes}
use Rattle.std.proofs.lemmas.Bool.Decides.{nat_tests}
use Rattle.std.proofs.lemmas.List.{append_cancel_left}
use Rattle.ot_model.specs.Cells.{is_before, same_cell, AreInOrder}
use Rattle.ot_model.specs.declared.expr.Cell.{Cell}
use Rattle.ot_model.specs.declared.fold.Fold.{Fold as Operation}
use Rattle.ot_model.specs.declared.fold.Fold.TheVariants as f
use Rattle.ot_model.specs.declared.stmt.Use.{Use}
use Rattle.ot_model.specs.Tree.{E, CellAt, S, Set, Fold, If, Task, Wait, Group, Body, End, Next}
use Rattle.ot_show_print.specs.Shown.{Text, name, cell}
use Rattle.ot_show_print.specs.Laws.{Fits, CellsFit}
use Rattle.ot_show_print.proofs.WordLemmas.{and_true, head_of, tail_of}
use Rattle.ot_c_names.specs.Names.{name_in_c}
use Rattle.ot_show_c.specs.Statements.{c_clauses, pointer, c_reduction, c_fold, deeper, block, otherwise, cell_in_order, put_all, each_once, pointers, c_statement, body, c_value}
use Rattle.ot_show_c.specs.Laws.{in_identifier, all_identifier, is_identifier, AreIdentifiers, normal_fold, is_nothing, normal_statement, normal, CUsesFit, StatementFits, BodyFits, BodyIsDetermined, CalledFoldIsWrittenAsSet}
use Rattle.ot_show_c.proofs.WordLemmas.{name_word}
use Rattle.ot_show_c.proofs.DependenceLemmas.{HoldOfClauses}
use Rattle.ot_show_c.proofs.ClauseLemmas.{in_declared, same_line, declared_line, pointer_is_word, declaration_law}
use Rattle.ot_show_c.proofs.WriteLemmas.{AreApart, apart, Write, of_plain, of_own, set_write, fold_write, same_write, same_pointers, same_value}

-- ---- groups: cells in order, each once

abbrev is_some : {A : Type 0} → List A → Bool
is_some [] = false
is_some (x ∷ xs) = true

put_some : (ds : List Cell) (c : Cell) → is_some (cell_in_order ds c) ≡ true
put_some [] c = refl
put_some (d ∷ ds) c = by_tests (is_before c d) (same_cell c d) refl refl
  where
    by_tests : (a b : Bool) → is_before c d ≡ a → same_cell c d ≡ b → is_some (cell_in_order (d ∷ ds) c) ≡ true
    by_tests true b h k = rw h refl
    by_tests false true h k = rw (h, k) refl
    by_tests false false h k = rw (h, k) refl

put_all_some : (ds cs : List Cell) → is_some ds ≡ true → is_some (put_all ds cs) ≡ true
put_all_some ds [] h = h
put_all_some ds (c ∷ cs) h = put_all_some (cell_in_order ds c) cs (put_some ds c)

some_once : (c : Cell) (cs : List Cell) → is_some (each_once (c ∷ cs)) ≡ true
some_once c cs = put_all_some (cell_in_order [] c) cs (put_some [] c)

put_fit : (names : List Text) (ds : List Cell) (c : Cell) → CellsFit names ds → (c.array < length names) × (c.index < 2 ^ 64) → CellsFit names (cell_in_order ds c)
put_fit names [] c p q = (q, tt)
put_fit names (d ∷ ds) c p q = by_tests (is_before c d) (same_cell c d) refl refl (put_fit names ds c p.1 q)
  where
    by_tests : (a b : Bool) → is_before c d ≡ a → same_cell c d ≡ b → CellsFit names (cell_in_order ds c) → CellsFit names (cell_in_order (d ∷ ds) c)
    by_tests true b h k rest = rw h (q, p)
    by_tests false true h k rest = rw (h, k) p
    by_tests false false h k rest = rw (h, k) (p.0, rest)

put_all_fit : (names : List Text) (ds cs : List Cell) → CellsFit names ds → CellsFit names cs → CellsFit names (put_all ds cs)
put_all_fit names ds [] p q = p
put_all_fit names ds (c ∷ cs) p q = put_all_fit names (cell_in_order ds c) cs (put_fit names ds c p q.0) q.1

once_fit : (names : List Text) (cs : List Cell) → CellsFit names cs → CellsFit names (each_once cs)
once_fit names cs fit = put_all_fit names [] cs tt fit

-- ---- what stands behind the margin of a statement, with what follows

abbrev task_rest : List Text → Text → List Use → Body → Text → Text
task_rest names margin us b r = c_clauses names us ++ (10 ∷ (margin ++ (123 ∷ 10 ∷ (body names (deeper margin) us b ++ (margin ++ (125 ∷ 10 ∷ r))))))

abbrev if_rest : List Text → Text → List Use → E → Body → Body → Text → Text
if_rest names margin own e a b r = c_value names e ++ (41 ∷ 32 ∷ 123 ∷ 10 ∷ (body names (deeper margin) own a ++ (otherwise margin b (body names (deeper margin) own b) ++ (margin ++ (125 ∷ 10 ∷ r)))))

abbrev block_rest : List Text → Text → List Use → Body → Text → Text
block_rest names margin own b r = margin ++ (123 ∷ 10 ∷ (body names (deeper margin) own b ++ (margin ++ (125 ∷ 10 ∷ r))))

-- a group's lines, its pointers' cells in order
abbrev group_rest : List Text → Text → List Use → Operation → List Cell → Body → Text → Text
group_rest names margin own op es b r =
    pointers names (deeper margin) op es
    ++ (deeper margin ++ (codes "#pragma omp taskgroup" ++ (c_reduction names (codes " task_reduction(") op es ++ (10 ∷ block_rest names (deeper margin) own b (margin ++ (125 ∷ 10 ∷ r))))))

-- 0 a write, 1 an `if`, 2 a task, 3 a wait, 4 a group over no cell, 5 one over cells
behind_word : Text → ℕ
behind_word [] = 9
behind_word (b ∷ t) = if in_identifier b then behind_word t else (if b == 91 then 0 else 1)

directive_of : Text → ℕ
directive_of [] = 9
directive_of (b ∷ t) = if b == 119 then 3 else (if b == 103 then 4 else 2)

kind_of : Text → ℕ
kind_of [] = 9
kind_of (b ∷ t) = if b == 35 then directive_of (drop 15 t) else (if b == 123 then 5 else behind_word (b ∷ t))

wait_kind : (t : Text) → kind_of (codes "#pragma omp taskwait" ++ t) ≡ 3
unfolding kind_of directive_of
wait_kind t = refl

group_kind : (t : Text) → kind_of (codes "#pragma omp taskgroup" ++ t) ≡ 4
unfolding kind_of directive_of
group_kind t = refl

block_kind : (t : Text) → kind_of (123 ∷ t) ≡ 5
unfolding kind_of
block_kind t = refl

if_kind : (t : Text) → kind_of (codes "if (" ++ t) ≡ 1
unfolding kind_of behind_word
if_kind t = refl

word_behind : (w t : Text) → all_identifier w ≡ true → behind_word (w ++ (91 ∷ t)) ≡ 0
unfolding behind_word
word_behind [] t h = refl
word_behind (b ∷ bs) t h = rw ((and_true (in_identifier b) (all_identifier bs) h).0) (word_behind bs t (and_true (in_identifier b) (all_identifier bs) h).1)

no_sign : (b : ℕ) → in_identifier b ≡ true → ((b == 35) ≡ false) × ((b == 123) ≡ false)
no_sign b h = (grind (arith, nat_tests), grind (arith, nat_tests))

write_kind : (w t : Text) → all_identifier w ≡ true → is_some w ≡ true → kind_of (w ++ (91 ∷ t)) ≡ 0
unfolding kind_of
write_kind [] t h k = absurd (true≢false (sym k))
write_kind (b ∷ bs) t h k =
    let none = no_sign b (and_true (in_identifier b) (all_identifier bs) h).0 in
    rw (none.0, none.1) (word_behind (b ∷ bs) t h)

-- behind the words of a task stands a clause, or the line ends
abbrev calm : Text → Bool
calm [] = false
calm (b ∷ t) = b == 32 || b == 10

calm_declared : (names : List Text) (us : List Use) (t : Text) → CUsesFit names us → calm (c_clauses names us ++ (10 ∷ t)) ≡ true
calm_declared names us t fit = in_declared names (λ x. (t : Text) → calm t ≡ true → calm (x ++ t) ≡ true) holds (λ op c cs f t h. refl) us fit (10 ∷ t) refl
  where
    holds : HoldOfClauses names (λ x. (t : Text) → calm t ≡ true → calm (x ++ t) ≡ true)
    holds = record {
      none = λ t h. h;
      both = λ x y p q t h. ap calm (append_assoc x y t) ∙ p (y ++ t) (q t h);
      list = λ k c cs f t h. refl;
      iterator = λ k s f t h. refl;
    }

no_letter : (b : ℕ) → (b == 32 || b == 10) ≡ true → ((b == 119) ≡ false) × ((b == 103) ≡ false)
no_letter b h = (grind (arith, nat_tests), grind (arith, nat_tests))

calm_task : (t : Text) → calm t ≡ true → kind_of (codes "#pragma omp task" ++ t) ≡ 2
unfolding kind_of directive_of
calm_task [] h = absurd (true≢false (sym h))
calm_task (b ∷ t) h = let none = no_letter b h in rw (none.0, none.1) refl

-- ---- each statement behind its margin

abbrev uses_of : Option (List Use) → List Use
uses_of None = []
uses_of (Some us) = us

abbrev group_after : List Text → Text → List Use → Operation → List Cell → Body → Text → Text
group_after names margin own op [] b r = codes "#pragma omp taskgroup" ++ (10 ∷ block_rest names margin own b r)
group_after names margin own op (c ∷ cs) b r = 123 ∷ 10 ∷ group_rest names margin own op (each_once (c ∷ cs)) b r

abbrev after : List Text → Text → List Use → S → Text → Text
after names margin own (Set c e) r = (cell names c ++ codes " = " ++ c_value names e ++ codes ";\n") ++ r
after names margin own (Fold op c e) r = c_fold names own op c e ++ r
after names margin own (If e a b) r = codes "if (" ++ if_rest names margin own e a b r
after names margin own (Task us b) r = codes "#pragma omp task" ++ task_rest names margin us b r
after names margin own (Wait w) r = codes "#pragma omp taskwait" ++ (c_clauses names (uses_of w) ++ (10 ∷ r))
after names margin own (Group op cs b) r = group_after names margin own op cs b r

shown : (names : List Text) (margin : Text) (own : List Use) (s : S) (r : Text) → is_nothing s ≡ false → c_statement names margin own s ++ r ≡ margin ++ after names margin own s r
shown names margin own (Set c e) r h = simp append_assoc refl
shown names margin own (Fold op c e) r h = append_assoc margin (c_fold names own op c e) r
shown names margin own (If e a b) r h = simp append_assoc refl
shown names margin own (Task us b) r h = simp append_assoc refl
shown names margin own (Wait None) r h = simp append_assoc refl
shown names margin own (Wait (Some [])) r h = absurd (true≢false h)
shown names margin own (Wait (Some (u ∷ us))) r h = simp append_assoc refl
shown names margin own (Group op [] b) r h = simp append_assoc refl
shown names margin own (Group op (c ∷ cs) b) r h = simp append_assoc refl

abbrev group_number : List Cell → ℕ
group_number [] = 4
group_number (c ∷ cs) = 5

abbrev number : S → ℕ
number (Set c e) = 0
number (Fold op c e) = 0
number (If e a b) = 1
number (Task us b) = 2
number (Wait w) = 3
number (Group op cs b) = group_number cs

group_above : (cs : List Cell) → 3 < group_number cs
group_above [] = omega arith
group_above (c ∷ cs) = omega arith

some_name : (w : Text) → is_identifier w ≡ true → is_some w ≡ true
some_name [] h = h
some_name (b ∷ bs) h = refl

cell_kind : (names : List Text) → AreIdentifiers names → (c : Cell) (t : Text) → Fits names (CellAt c) → kind_of (name names c.array ++ (91 ∷ t)) ≡ 0
cell_kind names are c t fit = write_kind (name names c.array) t (name_word (name names c.array) (are.each c.array fit.0)) (some_name (name names c.array) (are.each c.array fit.0))

some_pointer : (names : List Text) (op : Operation) (c : Cell) → is_some (pointer names op c) ≡ true
some_pointer names f.Plus c = refl
some_pointer names _ c = refl

pointer_kind : (names : List Text) → AreIdentifiers names → (op : Operation) (c : Cell) (t : Text) → Fits names (CellAt c) → kind_of (pointer names op c ++ (91 ∷ t)) ≡ 0
pointer_kind names are op c t fit = write_kind (pointer names op c) t (pointer_is_word names are op c fit.0 fit.1) (some_pointer names op c)

of_write : (names : List Text) → AreIdentifiers names → (told : S) (t : Text → Text) (r : Text) → Write names told t → kind_of (t r) ≡ 0
of_write names are told t r (of_plain k c e hk fc fe is text) = ap kind_of (text r) ∙ cell_kind names are c _ fc
of_write names are told t r (of_own op c e fc fe is text) = ap kind_of (text r) ∙ pointer_kind names are op c _ fc

kinds : (names : List Text) → AreIdentifiers names → (margin : Text) (own : List Use) (s : S) (r : Text) → StatementFits names s → kind_of (after names margin own s r) ≡ number s
kinds names are margin own (Set c e) r fit = of_write names are (Set c e) (λ t. (cell names c ++ codes " = " ++ c_value names e ++ codes ";\n") ++ t) r (set_write names c e fit.0 fit.1)
kinds names are margin own (Fold op c e) r fit = of_write names are (normal_fold own op c e) (λ t. c_fold names own op c e ++ t) r (fold_write names own op c e fit.0 fit.1)
kinds names are margin own (If e a b) r fit = if_kind (if_rest names margin own e a b r)
kinds names are margin own (Task us b) r fit = calm_task (task_rest names margin us b r) (calm_declared names us (block_rest names margin us b r) fit.1)
kinds names are margin own (Wait w) r fit = wait_kind (c_clauses names (uses_of w) ++ (10 ∷ r))
kinds names are margin own (Group op [] b) r fit = group_kind (10 ∷ block_rest names margin own b r)
kinds names are margin own (Group op (c ∷ cs) b) r fit = block_kind (10 ∷ group_rest names margin own op (each_once (c ∷ cs)) b r)

-- ---- two statements of one kind

-- a body in a block is determined as far as it is told, and so is what follows
abbrev IsByBody : List Text → Body → Type 0
IsByBody names a = (own : List Use) (margin : Text) (b : Body) (x y : Text) → BodyFits names b → body names (deeper margin) own a ++ (margin ++ (125 ∷ x)) ≡ body names (deeper margin) own b ++ (margin ++ (125 ∷ y))
    → (normal own a ≡ normal own b) × (x ≡ y)

abbrev IsByStatement : List Text → S → Type 0
IsByStatement names s = (own : List Use) (margin : Text) (t : S) (r u : Text) → is_nothing t ≡ false → StatementFits names t → c_statement names margin own s ++ r ≡ c_statement names margin own t ++ u → (normal_statement own s ≡ normal_statement own t) × (r ≡ u)

-- the same behind the margin, for statements of one kind
abbrev IsAfter : List Text → S → S → Type 0
IsAfter names s t = (own : List Use) (margin : Text) (r u : Text) → after names margin own s r ≡ after names margin own t u → (normal_statement own s ≡ normal_statement own t) × (r ≡ u)

tails : (t u : Text) (a b c d : ℕ) → a ∷ b ∷ t ≡ c ∷ d ∷ u → t ≡ u
tails t u a b c d e = ap (λ w. tail_of (tail_of w)) e

-- a block's text behind its margin
same_block : (names : List Text) (a b : Body) → IsByBody names a → BodyFits names b → (own : List Use) (margin : Text) (r u : Text) → block_rest names margin own a r ≡ block_rest names margin own b u → (normal own a ≡ normal own b) × (r ≡ u)
same_block names a b by fit own margin r u is =
    let x = body names (deeper margin) own a ++ (margin ++ (125 ∷ 10 ∷ r)) in
    let y = body names (deeper margin) own b ++ (margin ++ (125 ∷ 10 ∷ u)) in
    let both = by own margin b (10 ∷ r) (10 ∷ u) fit (tails x y 123 10 123 10 (append_cancel_left margin (123 ∷ 10 ∷ x) (123 ∷ 10 ∷ y) is)) in
    (both.0, ap tail_of both.1)

-- what stands behind the bracket that closes the first body of an `if`
abbrev else_rest : List Text → Text → List Use → Body → Text → Text
else_rest names margin own End r = 10 ∷ r
else_rest names margin own (Next s rest) r = codes " else {\n" ++ (body names (deeper margin) own (Next s rest) ++ (margin ++ (125 ∷ 10 ∷ r)))

else_shown : (names : List Text) (margin : Text) (own : List Use) (b : Body) (r : Text) → otherwise margin b (body names (deeper margin) own b) ++ (margin ++ (125 ∷ 10 ∷ r)) ≡ margin ++ (125 ∷ else_rest names margin own b r)
else_shown names margin own End r = refl
else_shown names margin own (Next s rest) r = simp append_assoc refl

same_else : (names : List Text) (a b : Body) → IsByBody names a → BodyFits names b → (own : List Use) (margin : Text) (r u : Text) → else_rest names margin own a r ≡ else_rest names margin own b u → (normal own a ≡ normal own b) × (r ≡ u)
same_else names End End by fit own margin r u is = (refl, ap tail_of is)
same_else names End (Next t more) by fit own margin r u is = absurd (omega (arith, ap head_of is))
same_else names (Next s rest) End by fit own margin r u is = absurd (omega (arith, ap head_of is))
same_else names (Next s rest) (Next t more) by fit own margin r u is =
    let x = body names (deeper margin) own (Next s rest) ++ (margin ++ (125 ∷ 10 ∷ r)) in
    let y = body names (deeper margin) own (Next t more) ++ (margin ++ (125 ∷ 10 ∷ u)) in
    let both = by own margin (Next t more) (10 ∷ r) (10 ∷ u) fit (append_cancel_left (codes " else {\n") x y is) in
    (both.0, ap tail_of both.1)

both_if : (names : List Text) → AreIdentifiers names → (d : E) (a b : Body) (e : E) (x y : Body) → Fits names d → IsByBody names a → IsByBody names b → StatementFits names (If e x y) → IsAfter names (If d a b) (If e x y)
both_if names are d a b e x y fd by_a by_b fit own margin r u is =
    let left = body names (deeper margin) own a ++ (otherwise margin b (body names (deeper margin) own b) ++ (margin ++ (125 ∷ 10 ∷ r))) in
    let right = body names (deeper margin) own x ++ (otherwise margin y (body names (deeper margin) own y) ++ (margin ++ (125 ∷ 10 ∷ u))) in
    let values = same_value names are d e (32 ∷ 123 ∷ 10 ∷ left) (32 ∷ 123 ∷ 10 ∷ right) fd fit.0 41 41 refl refl
    (append_cancel_left (codes "if (") (if_rest names margin own d a b r) (if_rest names margin own e x y u) is) in
    let bodies : left ≡ right = ap (λ t. tail_of (tail_of (tail_of (tail_of t)))) values.1 in
    let first = by_a own margin x (else_rest names margin own b r) (else_rest names margin own y u) fit.1
    (sym (ap (λ t. body names (deeper margin) own a ++ t) (else_shown names margin own b r)) ∙ bodies ∙ ap (λ t. body names (deeper margin) own x ++ t) (else_shown names margin own y u)) in
    let second = same_else names b y by_b fit.2 own margin r u first.1 in
    (cc (values.0, first.0, second.0), second.1)

both_tasks : (names : List Text) → AreIdentifiers names → (us : List Use) (a : Body) (vs : List Use) (b : Body) → AreInOrder us → CUsesFit names us → IsByBody names a → StatementFits names (Task vs b) → IsAfter names (Task us a) (Task vs b)
both_tasks names are us a vs b order f_us by fit own margin r u is =
    let lines = same_line (c_clauses names us) (c_clauses names vs) (block_rest names margin us a r) (block_rest names margin vs b u) (declared_line names are us f_us) (declared_line names are vs fit.1)
    (append_cancel_left (codes "#pragma omp task") (task_rest names margin us a r) (task_rest names margin vs b u) is) in
    let uses : us ≡ vs = declaration_law names are us vs order fit.0 f_us fit.1 lines.0 in
    let both = same_block names a b by fit.2 us margin r u (lines.1 ∙ ap (λ ws. block_rest names margin ws b u) (sym uses)) in
    (cc (uses, both.0), both.1)

waits_fit : (names : List Text) (w : Option (List Use)) → StatementFits names (Wait w) → AreInOrder (uses_of w) × CUsesFit names (uses_of w)
waits_fit names None fit = (tt, tt)
waits_fit names (Some us) fit = fit

same_wait : (v w : Option (List Use)) → is_nothing (Wait v) ≡ false → is_nothing (Wait w) ≡ false → uses_of v ≡ uses_of w → v ≡ w
same_wait None None h k is = refl
same_wait (Some (u ∷ us)) (Some vs) h k is = ap Some is
same_wait _ _ h k is = absurd (cc)

both_waits : (names : List Text) → AreIdentifiers names → (v w : Option (List Use)) → is_nothing (Wait v) ≡ false → is_nothing (Wait w) ≡ false → StatementFits names (Wait v) → StatementFits names (Wait w) → IsAfter names (Wait v) (Wait w)
both_waits names are v w h k f_v f_w own margin r u is =
    let fv = waits_fit names v f_v in
    let fw = waits_fit names w f_w in
    let lines = same_line (c_clauses names (uses_of v)) (c_clauses names (uses_of w)) r u (declared_line names are (uses_of v) fv.1) (declared_line names are (uses_of w) fw.1)
    (append_cancel_left (codes "#pragma omp taskwait") (c_clauses names (uses_of v) ++ (10 ∷ r)) (c_clauses names (uses_of w) ++ (10 ∷ u)) is) in
    (ap Wait (same_wait v w h k (declaration_law names are (uses_of v) (uses_of w) fv.0 fw.0 fv.1 fw.1 lines.0)), lines.1)

-- a pointer's declaration, and what follows
pointer_line : (names : List Text) (m : Text) (op : Operation) (c : Cell) (cs : List Cell) (t : Text)
    → pointers names m op (c ∷ cs) ++ t ≡ m ++ (codes "uint64_t *" ++ (pointer names op c ++ (32 ∷ 61 ∷ 32 ∷ 38 ∷ (cell names c ++ (59 ∷ 10 ∷ (pointers names m op cs ++ t))))))
pointer_line names m op c cs t = simp append_assoc refl

record SameLines (op other : Operation) (cs ds : List Cell) (t u : Text) : Type 0 where
  pub cells : cs ≡ ds
  pub rest : t ≡ u
  pub ops : is_some cs ≡ true → op ≡ other

same_pointer_lines : (names : List Text) → AreIdentifiers names → (margin : Text) (op other : Operation) (cs ds : List Cell) (t u : Text) → CellsFit names cs → CellsFit names ds
    → pointers names margin op cs ++ (margin ++ (35 ∷ t)) ≡ pointers names margin other ds ++ (margin ++ (35 ∷ u)) → SameLines op other cs ds t u
same_pointer_lines names are margin op other [] [] t u fc fd is = record { cells = refl; rest = ap tail_of (append_cancel_left margin (35 ∷ t) (35 ∷ u) is); ops = λ h. absurd (true≢false (sym h)) }
same_pointer_lines names are margin op other [] (d ∷ ds) t u fc fd is =
    let line = codes "uint64_t *" ++ (pointer names other d ++ (32 ∷ 61 ∷ 32 ∷ 38 ∷ (cell names d ++ (59 ∷ 10 ∷ (pointers names margin other ds ++ (margin ++ (35 ∷ u))))))) in
    absurd (omega (arith, ap head_of (append_cancel_left margin (35 ∷ t) line (is ∙ pointer_line names margin other d ds (margin ++ (35 ∷ u))))))
same_pointer_lines names are margin op other (c ∷ cs) [] t u fc fd is =
    let line = codes "uint64_t *" ++ (pointer names op c ++ (32 ∷ 61 ∷ 32 ∷ 38 ∷ (cell names c ++ (59 ∷ 10 ∷ (pointers names margin op cs ++ (margin ++ (35 ∷ t))))))) in
    absurd (omega (arith, ap head_of (append_cancel_left margin line (35 ∷ u) (sym (pointer_line names margin op c cs (margin ++ (35 ∷ t))) ∙ is))))
same_pointer_lines names are margin op other (c ∷ cs) (d ∷ ds) t u fc fd is =
    let rest_c = pointers names margin op cs ++ (margin ++ (35 ∷ t)) in
    let rest_d = pointers names margin other ds ++ (margin ++ (35 ∷ u)) in
    let cell_c = cell names c ++ (59 ∷ 10 ∷ rest_c) in
    let cell_d = cell names d ++ (59 ∷ 10 ∷ rest_d) in
    let x = pointer names op c ++ (32 ∷ 61 ∷ 32 ∷ 38 ∷ cell_c) in
    let y = pointer names other d ++ (32 ∷ 61 ∷ 32 ∷ 38 ∷ cell_d) in
    let inner : x ≡ y = append_cancel_left (codes "uint64_t *") x y
    (append_cancel_left margin (codes "uint64_t *" ++ x) (codes "uint64_t *" ++ y) (sym (pointer_line names margin op c cs (margin ++ (35 ∷ t))) ∙ is ∙ pointer_line names margin other d ds (margin ++ (35 ∷ u)))) in
    let one = same_pointers names are op other c d (32 ∷ 61 ∷ 32 ∷ 38 ∷ cell_c) (32 ∷ 61 ∷ 32 ∷ 38 ∷ cell_d) fc.0 fd.0 refl refl inner in
    let cells_are : cell_c ≡ cell_d = ap (λ w. tail_of (tail_of (tail_of (tail_of w)))) one.2 in
    let behind = append_cancel_left (cell names c) (59 ∷ 10 ∷ rest_c) (59 ∷ 10 ∷ rest_d) (cells_are ∙ ap (λ z. cell names z ++ (59 ∷ 10 ∷ rest_d)) (sym one.1)) in
    let more = same_pointer_lines names are margin op other cs ds t u fc.1 fd.1 (tails rest_c rest_d 59 10 59 10 behind) in
    record { cells = ap (λ z. z ∷ cs) one.1 ∙ ap (λ zs. d ∷ zs) more.cells; rest = more.rest; ops = λ h. one.0 }

-- a group's text behind its first bracket
same_group : (names : List Text) → AreIdentifiers names → (op other : Operation) (es fs : List Cell) (a b : Body) → is_some es ≡ true → CellsFit names es → CellsFit names fs → IsByBody names a → BodyFits names b → (own : List Use) (margin : Text) (r u : Text)
    → group_rest names margin own op es a r ≡ group_rest names margin own other fs b u → (Group op es (normal own a) ≡ Group other fs (normal own b)) × (r ≡ u)
same_group names are op other es fs a b some fe ff by fit own margin r u is =
    let inner = deeper margin in
    let block_a = block_rest names inner own a (margin ++ (125 ∷ 10 ∷ r)) in
    let block_b = block_rest names inner own b (margin ++ (125 ∷ 10 ∷ u)) in
    let words = codes "pragma omp taskgroup" in
    let clause : Operation → List Cell → Text = λ p xs. c_reduction names (codes " task_reduction(") p xs in
    let lines = same_pointer_lines names are inner op other es fs (words ++ (clause op es ++ (10 ∷ block_a))) (words ++ (clause other fs ++ (10 ∷ block_b))) fe ff is in
    let ops = lines.ops some in
    let clauses = append_cancel_left words (clause op es ++ (10 ∷ block_a)) (clause other fs ++ (10 ∷ block_b)) lines.rest in
    let same : clause other fs ≡ clause op es = ap (λ p. clause p fs) (sym ops) ∙ ap (clause op) (sym lines.cells) in
    let blocks = append_cancel_left (clause op es) (10 ∷ block_a) (10 ∷ block_b) (clauses ∙ ap (λ t. t ++ (10 ∷ block_b)) same) in
    let both = same_block names a b by fit own inner (margin ++ (125 ∷ 10 ∷ r)) (margin ++ (125 ∷ 10 ∷ u)) (ap tail_of blocks) in
    (cc (ops, lines.cells, both.0), tails r u 125 10 125 10 (append_cancel_left margin (125 ∷ 10 ∷ r) (125 ∷ 10 ∷ u) both.1))

both_groups : (names : List Text) → AreIdentifiers names → (op : Operation) (cs : List Cell) (a : Body) (other : Operation) (ds : List Cell) (b : Body) → CellsFit names cs → IsByBody names a → StatementFits names (Group other ds b) → group_number cs ≡ group_number ds → IsAfter names (Group op cs a) (Group other ds b)
both_groups names are op [] a other [] b f_cs by fit k own margin r u is =
    let both = same_block names a b by fit.1 own margin r u (ap tail_of (append_cancel_left (codes "#pragma omp taskgroup") (10 ∷ block_rest names margin own a r) (10 ∷ block_rest names margin own b u) is)) in
    (ap (Group f.Plus []) both.0, both.1)
both_groups names are op (c ∷ cs) a other (d ∷ ds) b f_cs by fit k own margin r u is =
    same_group names are op other (each_once (c ∷ cs)) (each_once (d ∷ ds)) a b (some_once c cs) (once_fit names (c ∷ cs) f_cs) (once_fit names (d ∷ ds) fit.0) by fit.1 own margin r u
    (tails (group_rest names margin own op (each_once (c ∷ cs)) a r) (group_rest names margin own other (each_once (d ∷ ds)) b u) 123 10 123 10 is)
both_groups names are op _ a other _ b f_cs by fit k own margin r u is = absurd (omega (arith, k))

-- ---- a statement beside any other

-- a write's, by its text
write_of : (names : List Text) (own : List Use) (s : S) → number s ≡ 0 → StatementFits names s → (margin : Text) → Write names (normal_statement own s) (after names margin own s)
write_of names own (Set c e) h fit margin = set_write names c e fit.0 fit.1
write_of names own (Fold op c e) h fit margin = fold_write names own op c e fit.0 fit.1
write_of names own _ h fit margin = absurd (omega (arith, h, group_above))

both_writes : (names : List Text) → AreApart names → (s t : S) → number s ≡ 0 → number t ≡ 0 → StatementFits names s → StatementFits names t → IsAfter names s t
both_writes names are s t h k f_s f_t own margin r u is =
    same_write names are (normal_statement own s) (normal_statement own t) (after names margin own s) (after names margin own t) r u (write_of names own s h f_s margin) (write_of names own t k f_t margin) is

-- from what stands behind the margin
behind_margin : (names : List Text) → AreApart names → (s : S) → is_nothing s ≡ false → StatementFits names s → ((t : S) → is_nothing t ≡ false → number s ≡ number t → StatementFits names t → IsAfter names s t) → IsByStatement names s
behind_margin names are s h f_s by own margin t r u k f_t is =
    let x = after names margin own s r in
    let y = after names margin own t u in
    let inner : x ≡ y = append_cancel_left margin x y (sym (shown names margin own s r h) ∙ is ∙ shown names margin own t u k) in
    by t k (sym (kinds names are.are margin own s r f_s) ∙ ap kind_of inner ∙ kinds names are.are margin own t u f_t) f_t own margin r u inner

-- ---- bodies

nothing_text : (names : List Text) (margin : Text) (own : List Use) (t : S) → is_nothing t ≡ true → c_statement names margin own t ≡ []
nothing_text names margin own (Wait (Some [])) h = refl
nothing_text names margin own _ h = absurd (true≢false (sym h))

passed : (own : List Use) (t : S) (more : Body) → is_nothing t ≡ true → normal own (Next t more) ≡ normal own more
passed own t more h = rw h refl

told : (own : List Use) (t : S) (more : Body) → is_nothing t ≡ false → normal own (Next t more) ≡ Next (normal_statement own t) (normal own more)
told own t more h = rw h refl

passed_text : (names : List Text) (margin : Text) (own : List Use) (t : S) (more : Body) (r : Text) → is_nothing t ≡ true → body names margin own (Next t more) ++ r ≡ body names margin own more ++ r
passed_text names margin own t more r h = ap (λ x. (x ++ body names margin own more) ++ r) (nothing_text names margin own t h)

told_text : (names : List Text) (margin : Text) (own : List Use) (t : S) (more : Body) (r : Text) → body names margin own (Next t more) ++ r ≡ c_statement names margin own t ++ (body names margin own more ++ r)
told_text names margin own t more r = append_assoc (c_statement names margin own t) (body names margin own more) r

-- a body's end is no statement
end_apart : (names : List Text) (own : List Use) (margin : Text) (t : S) (x r : Text) → is_nothing t ≡ false → margin ++ (125 ∷ x) ≡ c_statement names (deeper margin) own t ++ r → ⊥
end_apart names own margin t x r h is =
    let rest = after names (deeper margin) own t r in
    let inner = append_cancel_left margin (125 ∷ x) (codes "    " ++ rest) (is ∙ shown names (deeper margin) own t r h ∙ append_assoc margin (codes "    ") rest) in
    omega (arith, ap head_of inner)

end_beside : (names : List Text) (own : List Use) (margin : Text) (b : Body) (x y : Text) → BodyFits names b → margin ++ (125 ∷ x) ≡ body names (deeper margin) own b ++ (margin ++ (125 ∷ y)) → (End ≡ normal own b) × (x ≡ y)
end_beside names own margin End x y fit is = (refl, ap tail_of (append_cancel_left margin (125 ∷ x) (125 ∷ y) is))
end_beside names own margin (Next t more) x y fit is = at_once (is_nothing t) refl (end_beside names own margin more x y fit.1)
  where
    at_once : (b : Bool) → is_nothing t ≡ b → (margin ++ (125 ∷ x) ≡ body names (deeper margin) own more ++ (margin ++ (125 ∷ y)) → (End ≡ normal own more) × (x ≡ y)) → (End ≡ normal own (Next t more)) × (x ≡ y)
    at_once true h rest =
        let both = rest (is ∙ passed_text names (deeper margin) own t more (margin ++ (125 ∷ y)) h) in
        (both.0 ∙ sym (passed own t more h), both.1)
    at_once false h rest = absurd (end_apart names own margin t x (body names (deeper margin) own more ++ (margin ++ (125 ∷ y))) h (is ∙ told_text names (deeper margin) own t more (margin ++ (125 ∷ y))))

next_eq : (s t : S) (a b : Body) → s ≡ t → a ≡ b → Next s a ≡ Next t b
next_eq s t a b i j = ap (λ x. Next x a) i ∙ ap (Next t) j

next_beside : (names : List Text) (s : S) (rest : Body) → is_nothing s ≡ false → IsByStatement names s → IsByBody names rest → (own : List Use) (margin : Text) (b : Body) (x y : Text) → BodyFits names b
    → body names (deeper margin) own (Next s rest) ++ (margin ++ (125 ∷ x)) ≡ body names (deeper margin) own b ++ (margin ++ (125 ∷ y)) → (normal own (Next s rest) ≡ normal own b) × (x ≡ y)
next_beside names s rest h by by_rest own margin End x y fit is =
    absurd (end_apart names own margin s y (body names (deeper margin) own rest ++ (margin ++ (125 ∷ x))) h (sym is ∙ told_text names (deeper margin) own s rest (margin ++ (125 ∷ x))))
next_beside names s rest h by by_rest own margin (Next t more) x y fit is = at_once (is_nothing t) refl (next_beside names s rest h by by_rest own margin more x y fit.1)
  where
    here : Text
    here = margin ++ (125 ∷ x)

    there : Text
    there = margin ++ (125 ∷ y)

    at_once : (b : Bool) → is_nothing t ≡ b → (body names (deeper margin) own (Next s rest) ++ (margin ++ (125 ∷ x)) ≡ body names (deeper margin) own more ++ (margin ++ (125 ∷ y)) → (normal own (Next s rest) ≡ normal own more) × (x ≡ y))
        → (normal own (Next s rest) ≡ normal own (Next t more)) × (x ≡ y)
    at_once true k later =
        let both = later (is ∙ passed_text names (deeper margin) own t more (margin ++ (125 ∷ y)) k) in
        (both.0 ∙ sym (passed own t more k), both.1)
    at_once false k later =
        let firsts = by own (deeper margin) t (body names (deeper margin) own rest ++ (margin ++ (125 ∷ x))) (body names (deeper margin) own more ++ (margin ++ (125 ∷ y))) k fit.0
        (sym (told_text names (deeper margin) own s rest (margin ++ (125 ∷ x))) ∙ is ∙ told_text names (deeper margin) own t more (margin ++ (125 ∷ y))) in
        let rests = by_rest own margin more x y fit.1 firsts.1 in
        (told own s rest h ∙ next_eq (normal_statement own s) (normal_statement own t) (normal own rest) (normal own more) firsts.0 rests.0 ∙ sym (told own t more k), rests.1)

next_of : (names : List Text) (s : S) (rest : Body) → (is_nothing s ≡ false → IsByStatement names s) → IsByBody names rest → (c : Bool) → is_nothing s ≡ c → IsByBody names (Next s rest)
next_of names s rest by by_rest true h own margin b x y fit is =
    let both = by_rest own margin b x y fit (sym (passed_text names (deeper margin) own s rest (margin ++ (125 ∷ x)) h) ∙ is) in
    (passed own s rest h ∙ both.0, both.1)
next_of names s rest by by_rest false h own margin b x y fit is = next_beside names s rest h (by h) by_rest own margin b x y fit is

mutual
  by_statement : (names : List Text) → AreApart names → (s t : S) → StatementFits names s → StatementFits names t → is_nothing s ≡ false → is_nothing t ≡ false → number s ≡ number t → IsAfter names s t
  by_statement names are (Set c e) t f_s f_t h g k = both_writes names are (Set c e) t refl (sym k) f_s f_t
  by_statement names are (Fold op c e) t f_s f_t h g k = both_writes names are (Fold op c e) t refl (sym k) f_s f_t
  by_statement names are (If d a b) (If e x y) f_s f_t h g k = both_if names are.are d a b e x y f_s.0 (by_body names are a f_s.1) (by_body names are b f_s.2) f_t
  by_statement names are (Task us a) (Task vs b) f_s f_t h g k = both_tasks names are.are us a vs b f_s.0 f_s.1 (by_body names are a f_s.2) f_t
  by_statement names are (Wait v) (Wait w) f_s f_t h g k = both_waits names are.are v w h g f_s f_t
  by_statement names are (Group op cs a) (Group other ds b) f_s f_t h g k = both_groups names are.are op cs a other ds b f_s.0 (by_body names are a f_s.1) f_t k
  by_statement names are _ _ f_s f_t h g k = absurd (omega (arith, k, group_above))

  pub by_body : (names : List Text) → AreApart names → (a : Body) → BodyFits names a → IsByBody names a
  by_body names are End fit = end_beside names
  by_body names are (Next s rest) fit = next_of names s rest (λ h. behind_margin names are s h fit.0 (λ t g k f_t. by_statement names are s t fit.0 f_t h g k)) (by_body names are rest fit.1) (is_nothing s) refl

block_shown : (names : List Text) (margin : Text) (own : List Use) (b : Body) (r : Text) → block margin (body names (deeper margin) own b) ++ r ≡ block_rest names margin own b r
block_shown names margin own b r = simp append_assoc refl

-- blocks, with what follows
pub same_blocks : (names : List Text) → AreApart names → (own : List Use) (margin : Text) (a b : Body) (r u : Text) → BodyFits names a → BodyFits names b
    → block margin (body names (deeper margin) own a) ++ r ≡ block margin (body names (deeper margin) own b) ++ u → (normal own a ≡ normal own b) × (r ≡ u)
same_blocks names are own margin a b r u f_a f_b is =
    same_block names a b (by_body names are a f_a) f_b own margin r u (sym (block_shown names margin own a r) ∙ is ∙ block_shown names margin own b u)

pub body_law : BodyIsDetermined
body_law names are own margin a b f_a f_b is =
    (same_blocks (map name_in_c names) (apart names are) own margin a b [] [] f_a f_b (ap (λ t. t ++ []) is)).0

-- ---- a fold that is written as a set

pub as_set_law : CalledFoldIsWrittenAsSet
as_set_law names margin own c e f.Min h k = rw k (simp append_assoc refl)
as_set_law names margin own c e f.Max h k = rw k (simp append_assoc refl)
as_set_law names margin own c e _ h k = absurd (true≢false (sym h))
