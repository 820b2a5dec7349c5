-- Parts as they are made from statements.
use Rattle.std.proofs.Common.{◌≡◌, ◌<◌, ℕ, zero, suc, ◌+◌, List, [], ◌∷◌, ◌++◌, length, get_or, drop, sym, ap, ◌∙◌, subst, arith}
use Rattle.std.specs.Prelude.{Some, None}
use Rattle.std.proofs.lemmas.List.{at_drop_more}
use Rattle.ot_model.specs.Names.{OneNamedIn, NamedIn}
use Rattle.ot_model.specs.Tree.{E, S, If, Body, End, Next, append}
use Rattle.ot_model.specs.View.{expr_of, stmt_of, stmts_of}
use Rattle.ot_model.specs.declared.stmt.Stmt.{Stmt}
use Rattle.ot_model.proofs.TreeLemmas as tree
use Rattle.ot_parts.specs.Assigns.{assign_of, assigns_of}
use Rattle.ot_parts.specs.Modes.{AssignsFit, PicksFit}
use Rattle.ot_parts.specs.Parts.{Meaning, alone, part_of, parts_of}
use Rattle.ot_parts.specs.declared.assign.Assign.{Assign}
use Rattle.ot_parts.specs.declared.assign.Assign.TheVariants as v
use Rattle.ot_parts.specs.declared.part.Part.{Part}
use Rattle.ot_parts.proofs.FitLemmas.{value-fits}
use Rattle.ot_parts.proofs.LeadingLemmas.{assigns-push}

pub parts-push : (ps : List Part) (p : Part) → parts_of (ps ++ p ∷ []) ≡ append (parts_of ps) (append (part_of p).run (alone (part_of p).control))
parts-push [] p = tree.append-End (append (part_of p).run (alone (part_of p).control))
parts-push (q ∷ ps) p =
    ap (append (append (part_of q).run (alone (part_of q).control))) (parts-push ps p)
    ∙ sym (tree.append-append (append (part_of q).run (alone (part_of q).control)) (parts_of ps) (append (part_of p).run (alone (part_of p).control)))

-- a control statement more
pub add-control : (ps more : List Part) (p : Part) (xs gone : List Assign) (s : S) → more ≡ ps ++ p ∷ [] → gone ≡ [] → (part_of p).run ≡ assigns_of xs → (part_of p).control ≡ Some s
    → append (parts_of more) (assigns_of gone) ≡ append (append (parts_of ps) (assigns_of xs)) (Next s End)
add-control ps more p xs gone s put none run control =
    ap (λ l. append (parts_of more) (assigns_of l)) none ∙ tree.append-End (parts_of more) ∙ ap parts_of put ∙ parts-push ps p
    ∙ ap (λ r. append (parts_of ps) (append r (alone (part_of p).control))) run ∙ ap (λ c. append (parts_of ps) (append (assigns_of xs) (alone c))) control
    ∙ sym (tree.append-append (parts_of ps) (assigns_of xs) (Next s End))

-- a set or a fold more
pub add-assign : (ps : List Part) (xs more : List Assign) (a : Assign) (s : S) → more ≡ xs ++ a ∷ [] → assign_of a ≡ s
    → append (parts_of ps) (assigns_of more) ≡ append (append (parts_of ps) (assigns_of xs)) (Next s End)
add-assign ps xs more a s put is =
    ap (λ l. append (parts_of ps) (assigns_of l)) put
    ∙ ap (append (parts_of ps)) (sym (tree.append-End (assigns_of (xs ++ a ∷ []))) ∙ assigns-push xs a End ∙ ap (λ t. append (assigns_of xs) (Next t End)) is)
    ∙ sym (tree.append-append (parts_of ps) (assigns_of xs) (Next s End))

pub fits-push : (xs more : List Assign) (a : Assign) → more ≡ xs ++ a ∷ [] → AssignsFit (assigns_of xs) → AssignsFit (assigns_of (a ∷ [])) → AssignsFit (assigns_of more)
fits-push xs more a put h k = subst (λ l. AssignsFit (assigns_of l)) (sym put) (on xs h)
  where
    on : (ys : List Assign) → AssignsFit (assigns_of ys) → AssignsFit (assigns_of (ys ++ a ∷ []))
    on [] h = k
    on (v.Set c e ∷ ys) h = (h.0, on ys h.1)
    on (v.Fold o c e ∷ ys) h = (h.0, on ys h.1)

pub fits-one : (lens : List ℕ) (a : Assign) (s : S) → assign_of a ≡ s → OneNamedIn lens s → AssignsFit (assigns_of (a ∷ []))
fits-one lens a s is h = on a (subst (OneNamedIn lens) (sym is) h)
  where
    on : (a : Assign) → OneNamedIn lens (assign_of a) → AssignsFit (assigns_of (a ∷ []))
    on (v.Set c e) h = (value-fits lens (expr_of e) h.1, tt)
    on (v.Fold o c e) h = (value-fits lens (expr_of e) h.1, tt)

-- a run at the end
pub add-end : (ps more : List Part) (p : Part) (xs : List Assign) → more ≡ ps ++ p ∷ [] → part_of p ≡ record { run = assigns_of xs; control = None }
    → parts_of more ≡ append (parts_of ps) (assigns_of xs)
add-end ps more p xs put is =
    ap parts_of put ∙ parts-push ps p ∙ ap (λ (m : Meaning). append (parts_of ps) (append m.run (alone m.control))) is
    ∙ ap (append (parts_of ps)) (tree.append-End (assigns_of xs))

-- ---- statement by statement

pub add-step : (now next left rest whole : Body) (x : S) → next ≡ append now (Next x End) → left ≡ Next x rest → append now left ≡ whole → append next rest ≡ whole
add-step now next left rest whole x more is h =
    ap (λ b. append b rest) more ∙ tree.append-append now (Next x End) rest ∙ ap (append now) (sym is) ∙ h

pub stmts-drop : (ss : List Stmt) (i : ℕ) (x : Stmt) → i < length ss → x ≡ get_or ss i x → stmts_of (drop i ss) ≡ Next (stmt_of x) (stmts_of (drop (i + 1) ss))
stmts-drop ss i x within is = at_drop_more stmts_of ss i x within ∙ ap (λ y. Next (stmt_of y) (stmts_of (drop (i + 1) ss))) (sym is)

pub named-at : (lens : List ℕ) (ss : List Stmt) (i : ℕ) (x : Stmt) → i < length ss → x ≡ get_or ss i x → NamedIn lens (stmts_of ss) → OneNamedIn lens (stmt_of x)
named-at lens [] i x within is h = absurd (omega (arith, within))
named-at lens (s ∷ ss) zero x within is h = subst (λ y. OneNamedIn lens (stmt_of y)) (sym is) h.0
named-at lens (s ∷ ss) (suc i) x within is h = named-at lens ss i x (omega (arith, within)) is h.1

pub all-made : (made now left whole : Body) → made ≡ now → left ≡ End → append now left ≡ whole → made ≡ whole
all-made made now left whole is none h = is ∙ sym (tree.append-End now) ∙ ap (append now) (sym none) ∙ h

-- the condition of an `if` that is named
pub condition-fits : (lens : List ℕ) (s : S) (e : E) (a b : Body) → s ≡ If e a b → OneNamedIn lens s → PicksFit e
condition-fits lens s e a b is h = value-fits lens e (subst (OneNamedIn lens) is h).0
