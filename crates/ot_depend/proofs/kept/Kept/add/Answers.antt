use Rattle.std.proofs.Common.{◌≡◌, ◌<◌, ◌+◌, ◌==◌, ◌++◌, ◌∷◌, [], ℕ, List, cond, length, All, sym, ap, subst, ◌∙◌, arith}
use Rattle.std.specs.List.{list_any}
use Rattle.std.proofs.lemmas.List.{length-map, map-append}
use Rattle.std.specs.Arc.{arc_value}
use Rattle.ot_model.specs.declared.stmt.Use.{Use}
use Rattle.ot_depend.specs.Siblings.{sibling_created}
use Rattle.ot_depend.specs.Kept.{Kid, siblings, kids_enlisted}
use Rattle.ot_depend.specs.Cells.{lines_of, enter_all}
use Rattle.ot_depend.specs.Groups.{count_of}
use Rattle.ot_depend.specs.Children.{kid_of, kids_of}
use Rattle.ot_depend.specs.View.{IsTrueOf}
use Rattle.ot_depend.proofs.LinkLemmas.{length-enlisted}
use Rattle.ot_depend.proofs.KeptLemmas.{earlier_known, after_add}
use Rattle.ot_depend.proofs.kept.Kept.add.Goals as goal

-- a child with these waiters
abbrev fresh : List Use → List ℕ → ℕ → List ℕ → Kid
fresh us gs waiting waiters = record { it = sibling_created us gs; waiting = waiting; waiters = waiters }

pub enlist-waiting-requires-clause-known : goal.enlist-waiting-requires-clause-known
enlist-waiting-requires-clause-known c =
    let kids : List Kid = kids_of c.args.self.now.children.items in
    let known : All (λ p. p < length kids) c.args.self.now.earlier.items =
    earlier_known kids c.args.self.now.cells c.args.self.now.spots.items c.args.self.now.earlier.items c.requires.kept.rows c.requires.planned.placed c.requires.planned.found in
    subst (λ (es : List ℕ). All (λ p. p < length c.args.self.now.children.items) es) (sym c.deref.ensures.value)
    (subst (λ (n : ℕ). All (λ p. p < n) c.args.self.now.earlier.items) (length-map c.args.self.now.children.items kid_of) known)

pub push_reserved-requires : goal.push_reserved-requires
push_reserved-requires c =
    let kids : List Kid = kids_of c.args.self.now.children.items in
    omega (
      arith,
      c.enlist-waiting.ensures.capacity,
      c.requires.planned.room,
      ap length c.enlist-waiting.ensures.exact,
      length-enlisted c.len-child.result c.deref.result.now kids,
      length-map c.enlist-waiting.new.children.items kid_of,
      length-map c.args.self.now.children.items kid_of,
      c.enlist-waiting.new.children.ok.0,
      c.args.self.now.children.ok.0,
    )

pub returns : goal.returns
returns c =
    let kids : List Kid = kids_of c.args.self.now.children.items in
    let kids2 : List Kid = kids_of c.enlist-waiting.new.children.items in
    let n_is : c.len-child.result ≡ length kids = omega (arith, c.len-child.ensures, c.args.self.now.children.ok.0, length-map c.args.self.now.children.items kid_of) in
    let after = after_add kids c.args.self.now.cells c.args.self.now.groups c.args.self.now.unfinished c.requires.kept c.enter.new.self c.raise.new.self (arc_value c.args.decl) c.args.groups.items
    c.len-child.result c.enlist-waiting.result c.args.self.now.spots.items c.args.self.now.earlier.items kids2 n_is c.requires.planned.uses_are c.requires.planned.placed c.requires.planned.found
    (c.enlist-waiting.ensures.exact ∙ ap (kids_enlisted c.len-child.result kids) c.deref.ensures.value) c.enlist-waiting.ensures.waiting
    (c.enter.ensures.lines ∙ ap (enter_all c.len-child.result (lines_of c.args.self.now.cells.rows.items)) c.deref-2.ensures.value) c.enter.ensures.places
    (λ g. c.raise.ensures g ∙ ap (λ xs. count_of c.args.self.now.groups g + cond {A = ℕ} (list_any (λ x. x == g) xs) 1 0) c.deref-3.ensures.value) in
    let put : kids_of c.push_reserved.new.self.items ≡ kids2 ++ fresh (arc_value c.args.decl) c.args.groups.items c.enlist-waiting.result [] ∷ [] =
    ap kids_of c.push_reserved.ensures.items ∙ map-append kid_of c.enlist-waiting.new.children.items _ ∙ ap (λ ws. kids2 ++ fresh (arc_value c.args.decl) c.args.groups.items c.enlist-waiting.result ws ∷ []) c.new.ensures.items in
    record {
      number = n_is ∙ sym (length-map kids (λ (k : Kid). k.it));
      added = ap siblings put ∙ after.0;
      kept = subst (λ (ks : List Kid). IsTrueOf ks c.enter.new.self c.raise.new.self (c.args.self.now.unfinished + 1)) (sym put) after.1;
    }
