-- What `==` says of sections and of lists of numbers, and programs that are the same.
use Rattle.std.proofs.Common.{Vec, Global, ◌≡◌, ◌&&◌, ◌∙◌, ℕ, Bool, true, List, [], ◌∷◌, map, Decides, refl, sym, ap, subst, arith}
use Rattle.std.specs.Prelude.{◌==◌}
use Rattle.std.specs.Cmp.Lexicographic.{pointwise}
use Rattle.std.specs.Str.{bytes_eq}
use Rattle.std.proofs.lemmas.Bool.Decides.{nat_tests}
use Rattle.std.proofs.lemmas.Slice.Eq.{slice_eq-Decides, bytes_eq-Decides}
use Rattle.ot_model.specs.Tree.{Body, size, tasks_in}
use Rattle.ot_model.specs.View.{stmts_of}
use Rattle.ot_model.specs.Programs.{Expanded, expanded_of}
use Rattle.ot_model.specs.declared.expr.Section.{Section}
use Rattle.ot_model.specs.declared.program.Program.{Program}
use Rattle.ot_check.specs.Jobs.{Spec, AreSame}

-- ---- sections

abbrev same_section : Section → Section → Bool
same_section a b = (a.array == b.array) && ((a.start == b.start) && (a.len == b.len))

section_itself : (a : Section) → same_section a a ≡ true
section_itself a = grind (arith, nat_tests)

one_section : (a b : Section) → same_section a b ≡ true → a ≡ b
one_section a b same =
    let array : a.array ≡ b.array = grind (arith, nat_tests) in
    let start : a.start ≡ b.start = grind (arith, nat_tests) in
    let len : a.len ≡ b.len = grind (arith, nat_tests) in
    let make : ℕ → ℕ → ℕ → Section = λ x y z. record { array = x; start = y; len = z } in
    ap (λ x. make x a.start a.len) array ∙ ap (λ y. make b.array y a.len) start ∙ ap (make b.array b.start) len

pub section-decides : (a b : Section) → Decides (same_section a b) (a ≡ b)
section-decides a b = (one_section a b, λ is. subst (λ (s : Section). same_section a s ≡ true) is (section_itself a))

-- ---- rows

pointwise-map : {A B : Type 0} (g : A → B) (E : B → B → Bool) (xs ys : List A) → pointwise (λ x y. E (g x) (g y)) xs ys ≡ pointwise E (map g xs) (map g ys)
pointwise-map g E [] [] = refl
pointwise-map g E [] (y ∷ ys) = refl
pointwise-map g E (x ∷ xs) [] = refl
pointwise-map g E (x ∷ xs) (y ∷ ys) = ap (λ b. E (g x) (g y) && b) (pointwise-map g E xs ys)

pub rows-decide : (xs ys : List (Vec ℕ Global)) (r : Bool) → r ≡ pointwise (λ x y. bytes_eq x.items y.items) xs ys
    → Decides r (map (λ v. v.items) xs ≡ map (λ v. v.items) ys)
rows-decide xs ys r is =
    slice_eq-Decides bytes_eq-Decides (map (λ v. v.items) xs) (map (λ v. v.items) ys) r (is ∙ pointwise-map (λ v. v.items) bytes_eq xs ys)

-- ---- programs

-- what they show and their bodies tell them
pub expanded-same : (p q : Program) → p.shows.items ≡ q.shows.items → stmts_of p.body.items ≡ stmts_of q.body.items → expanded_of p ≡ expanded_of q
expanded-same p q shows body =
    let make : List Section → Body → ℕ → ℕ → Expanded = λ a b c d. record { shows = a; body = b; statements = c; tasks = d } in
    ap (λ a. make a (stmts_of p.body.items) p.statements p.tasks) shows
    ∙ ap (λ b. make q.shows.items b p.statements p.tasks) body
    ∙ ap (λ n. make q.shows.items (stmts_of q.body.items) n p.tasks) (p.statements_are ∙ ap size body ∙ sym q.statements_are)
    ∙ ap (make q.shows.items (stmts_of q.body.items) q.statements) (p.tasks_are ∙ ap tasks_in body ∙ sym q.tasks_are)

-- specs that are seen as these
pub same-seen : (one other seen shown : Spec) → one ≡ seen → other ≡ shown → AreSame one other → AreSame seen shown
same-seen one other seen shown p q h = record {
  program = sym (ap (λ (s : Spec). expanded_of s.checked.program) p) ∙ h.program ∙ ap (λ (s : Spec). expanded_of s.checked.program) q;
  before = sym (ap (λ (s : Spec). s.before) p) ∙ h.before ∙ ap (λ (s : Spec). s.before) q;
}
