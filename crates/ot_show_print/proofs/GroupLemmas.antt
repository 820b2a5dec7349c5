-- A group's text determines its operation and its cells.
use Rattle.std.proofs.Common.{◌≡◌, ◌==◌, List, [], ◌∷◌, ◌++◌, if◌then◌else◌, refl, sym, ap, ◌∙◌, append_assoc, arith}
use Rattle.std.specs.Prelude.{codes}
use Rattle.std.proofs.lemmas.List.{append_cancel_left}
use Rattle.ot_model.specs.declared.expr.Cell.{Cell}
use Rattle.ot_model.specs.declared.expr.Section.{Section}
use Rattle.ot_model.specs.declared.fold.Fold.{Fold as Operation}
use Rattle.ot_model.specs.declared.fold.Fold.TheVariants as f
use Rattle.ot_show_print.specs.Shown.{Text, sections, clause, sections_of, section_cells}
use Rattle.ot_model.specs.Signs.{identifier}
use Rattle.ot_show_print.specs.Laws.{AreNames, AllFit, GroupIsDetermined}
use Rattle.ot_show_print.proofs.WordLemmas.{head_of, tail_of}
use Rattle.ot_show_print.proofs.SectionLemmas.{come_back, same_sections, all_fit}
use Rattle.ot_show_print.proofs.ClauseLemmas.{no_comma}

abbrev op_at : Text → Operation
op_at [] = f.Plus
op_at (b ∷ []) = f.Plus
op_at (b ∷ c ∷ t) = if b == 43 then f.Plus else if b == 42 then f.Times else if b == 38 then f.And else if b == 124 then f.Or else if b == 94 then f.Xor else if c == 105 then f.Min else f.Max

op_back : (op : Operation) (t : Text) → op_at (identifier op ++ (58 ∷ t)) ≡ op
op_back f.Plus t = refl
op_back f.Times t = refl
op_back f.And t = refl
op_back f.Or t = refl
op_back f.Xor t = refl
op_back f.Min t = refl
op_back f.Max t = refl

same_op : (op other : Operation) (t u : Text) → identifier op ++ (58 ∷ t) ≡ identifier other ++ (58 ∷ u) → (op ≡ other) × (t ≡ u)
same_op op other t u is =
    let one : op ≡ other = sym (op_back op (t)) ∙ ap op_at is ∙ op_back other u in
    (one, ap tail_of (append_cancel_left (identifier op) (58 ∷ t) (58 ∷ u) (is ∙ ap (λ q. identifier q ++ (58 ∷ u)) (sym one))))

abbrev words_of : Operation → Text
words_of op = codes " task_reduction(" ++ identifier op ++ codes ": "

group_shown : (names : List Text) (op : Operation) (s : Section) (ss : List Section) → clause names (words_of op) (s ∷ ss) ≡ codes " task_reduction(" ++ (identifier op ++ (58 ∷ 32 ∷ (sections names (s ∷ ss) ++ (41 ∷ []))))
group_shown names op s ss = parts (codes " task_reduction(") (identifier op) (sections names (s ∷ ss))
  where
    parts : (w i x : Text) → (w ++ i ++ (58 ∷ 32 ∷ [])) ++ x ++ (41 ∷ []) ≡ w ++ (i ++ (58 ∷ 32 ∷ (x ++ (41 ∷ []))))
    parts w i x = simp append_assoc refl

nothing : (names : List Text) (op : Operation) (s : Section) (ss : List Section) → [] ≡ clause names (words_of op) (s ∷ ss) → ⊥
nothing names op s ss is = omega (arith, ap head_of (is ∙ group_shown names op s ss))

same_reduction : (names : List Text) → AreNames names → (op other : Operation) (s : Section) (ss ts : List Section) → AllFit names (s ∷ ss) → AllFit names ts → clause names (words_of op) (s ∷ ss) ≡ clause names (words_of other) ts → (op ≡ other) × ((s ∷ ss) ≡ ts)
same_reduction names are op other s ss [] p q is = absurd (nothing names op s ss (sym is))
same_reduction names are op other s ss (t ∷ ts) p q is =
    let inner = append_cancel_left (codes " task_reduction(") (identifier op ++ (58 ∷ 32 ∷ (sections names (s ∷ ss) ++ (41 ∷ [])))) (identifier other ++ (58 ∷ 32 ∷ (sections names (t ∷ ts) ++ (41 ∷ [])))) (sym (group_shown names op s ss) ∙ is ∙ group_shown names other t ts) in
    let ops = same_op op other (32 ∷ (sections names (s ∷ ss) ++ (41 ∷ []))) (32 ∷ (sections names (t ∷ ts) ++ (41 ∷ []))) inner in
    (ops.0, (same_sections names are s ss t ts (41 ∷ []) (41 ∷ []) p q (no_comma []) (no_comma []) (ap tail_of ops.1)).0)

same_lists : (names : List Text) → AreNames names → (op other : Operation) (ss ts : List Section) → ([] ≡ ss → ⊥) → AllFit names ss → AllFit names ts → clause names (words_of op) ss ≡ clause names (words_of other) ts → (op ≡ other) × (ss ≡ ts)
same_lists names are op other [] ts some p q is = absurd (some refl)
same_lists names are op other (s ∷ ss) ts some p q is = same_reduction names are op other s ss ts p q is

not_none : (c : Cell) (cs : List Cell) → [] ≡ c ∷ cs → ⊥
not_none c cs is = cc

pub group_law : GroupIsDetermined
group_law names are op other c cs ds p q is =
    let both = same_lists names are op other (sections_of (c ∷ cs)) (sections_of ds) (λ none. not_none c cs (ap section_cells none ∙ come_back (c ∷ cs))) (all_fit names (c ∷ cs) p) (all_fit names ds q)
    (append_cancel_left (codes "taskgroup") (clause names (words_of op) (sections_of (c ∷ cs))) (clause names (words_of other) (sections_of ds)) is) in
    (both.0, sym (come_back (c ∷ cs)) ∙ ap section_cells both.1 ∙ come_back ds)
