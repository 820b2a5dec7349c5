-- Statements that are compared one after another.
use Rattle.std.proofs.Common.{◌≡◌, ◌∙◌, ℕ, suc, ◌+◌, ◌<◌, ◌≤◌, List, [], ◌∷◌, length, drop, drop-cons, get_or, true, false, true≢false, refl, sym, ap, ap₂, subst, inl, inr, arith}
use Rattle.std.proofs.lemmas.List.{drop_all}
use Rattle.ot_model.specs.Tree.{S, Set, Fold, If, Task, Wait, Group, Body, End, Next, size, size_one}
use Rattle.ot_model.specs.View.{stmt_of, stmts_of}
use Rattle.ot_model.specs.declared.stmt.Stmt.{Stmt}
use Rattle.ot_model.specs.declared.stmt.Use.{Use}
use Rattle.ot_show_c.specs.Laws.{is_nothing}
use Rattle.ot_c_printed.specs.Apart.{BodiesApart, ApartAt, TellsOne, told_body, told_statement}
use Rattle.ot_c_printed.specs.declared.fault.NoC.{NoC}
use Rattle.ot_c_printed.specs.declared.fault.NoC.TheVariants as no

pub tells_weaker : (A B : ℕ → Type 0) (fault : NoC) → ((n : ℕ) → A n → B n) → TellsOne A fault → TellsOne B fault
tells_weaker A B (no.OtherProgram n) f t = f n t
tells_weaker A B no.Memory f t = tt
tells_weaker A B (no.NotReadBack byte reason) f t = absurd t
tells_weaker A B (no.Refused refusal) f t = absurd t
tells_weaker A B no.OtherArrays f t = absurd t

nothing_is_one : (s : S) → is_nothing s ≡ true → size_one s ≡ 1
nothing_is_one (Wait w) h = refl
nothing_is_one (Set c e) h = absurd (true≢false (sym h))
nothing_is_one (Fold op c e) h = absurd (true≢false (sym h))
nothing_is_one (If e a b) h = absurd (true≢false (sym h))
nothing_is_one (Task us b) h = absurd (true≢false (sym h))
nothing_is_one (Group op cs b) h = absurd (true≢false (sym h))

apart_nothing : (own : List Use) (k : ℕ) (s : S) (left rest : Body) (n : ℕ) → is_nothing s ≡ true → BodiesApart own (k + 1) left rest n → BodiesApart own k (Next s left) rest n
apart_nothing own k s left End n h a = inl (h, a)
apart_nothing own k s left (Next t others) n h a = inl (h, a)

told_nothing : (own : List Use) (s : S) (left : Body) → is_nothing s ≡ true → told_body own (Next s left) ≡ told_body own left
told_nothing own s left h = rw h refl

told_something : (own : List Use) (s : S) (left : Body) → is_nothing s ≡ false → told_body own (Next s left) ≡ Next (told_statement own s) (told_body own left)
told_something own s left h = rw h refl

-- what holds of those that are left, of which the first has a number, holds of all
pub record Holds (own : List Use) (number : ℕ) (left rest : Body) (first : ℕ) (whole back : Body) : Type 0 where
  pub count : number + size left ≡ first + size whole
  pub apart : (n : ℕ) → BodiesApart own number left rest n → BodiesApart own first whole back n
  pub same : told_body own left ≡ rest → told_body own whole ≡ back

pub past_nothing : (own : List Use) (number : ℕ) (s : S) (left rest : Body) (first : ℕ) (whole back : Body) → is_nothing s ≡ true
    → Holds own number (Next s left) rest first whole back → Holds own (number + 1) left rest first whole back
past_nothing own number s left rest first whole back h holds =
    let one = nothing_is_one s h in
    record {
      count = omega (arith, one, holds.count);
      apart = λ n a. holds.apart n (apart_nothing own number s left rest n h a);
      same = λ e. holds.same (told_nothing own s left h ∙ e);
    }

pub past_one : (own : List Use) (number : ℕ) (s : S) (left : Body) (t : S) (others : Body) (first : ℕ) (whole back : Body) (next : ℕ) → is_nothing s ≡ false
    → next ≡ number + size_one s → told_statement own s ≡ t → Holds own number (Next s left) (Next t others) first whole back → Holds own next left others first whole back
past_one own number s left t others first whole back next h counted same holds = record {
  count = omega (arith, counted, holds.count);
  apart = λ n a. holds.apart n (inr (h, inr (same, subst (λ k. BodiesApart own k left others n) counted a)));
  same = λ e. holds.same (told_something own s left h ∙ ap₂ Next same e);
}

-- another came back
pub other_came : (own : List Use) (number : ℕ) (s : S) (left : Body) (t : S) (others : Body) (first : ℕ) (whole back : Body) (fault : NoC) → is_nothing s ≡ false
    → Holds own number (Next s left) (Next t others) first whole back → TellsOne (ApartAt own number s t) fault → TellsOne (BodiesApart own first whole back) fault
other_came own number s left t others first whole back fault h holds tells =
    tells_weaker (ApartAt own number s t) (BodiesApart own first whole back) fault (λ n a. holds.apart n (inr (h, inl a))) tells

-- more came back
more_came_by : (own : List Use) (number : ℕ) (left rest : Body) (t : S) (others : Body) (first : ℕ) (whole back : Body) → left ≡ End → rest ≡ Next t others
    → Holds own number left rest first whole back → BodiesApart own first whole back number
more_came_by own number left rest t others first whole back none some holds =
    holds.apart number (subst (λ r. BodiesApart own number left r number) (sym some) (subst (λ b. BodiesApart own number b (Next t others) number) (sym none) refl))

-- the first of those that are left
some_left : (ss : List Stmt) (j : ℕ) → j < length ss → (x : Stmt) × (stmts_of (drop j ss) ≡ Next (stmt_of x) (stmts_of (drop (suc j) ss)))
some_left [] j h = absurd (omega (arith, h))
some_left (s ∷ ss) j h = (get_or (s ∷ ss) j s, ap stmts_of (drop-cons (s ∷ ss) j s h))

pub more_came : (own : List Use) (number : ℕ) (stmts : List Stmt) (i : ℕ) (back : List Stmt) (j first : ℕ) → length stmts ≤ i → j < length back
    → Holds own number (stmts_of (drop i stmts)) (stmts_of (drop j back)) first (stmts_of stmts) (stmts_of back) → BodiesApart own first (stmts_of stmts) (stmts_of back) number
more_came own number stmts i back j first none some holds =
    let one = some_left back j some in
    more_came_by own number (stmts_of (drop i stmts)) (stmts_of (drop j back)) (stmt_of one.0) (stmts_of (drop (suc j) back)) first (stmts_of stmts) (stmts_of back)
    (ap stmts_of (drop_all i stmts none)) one.1 holds
