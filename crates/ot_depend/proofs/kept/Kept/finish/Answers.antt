use Rattle.std.proofs.Common.{◌≡◌, ◌<◌, ◌+◌, ◌-◌, ◌==◌, ℕ, List, cond, true, false, set, length, get_or, Some, sym, ap, subst, ◌∙◌, refl, arith}
use Rattle.std.specs.List.{list_any, slice_get}
use Rattle.std.proofs.lemmas.Option.{slice_get_within}
use Rattle.std.proofs.lemmas.List.{length-map}
use Rattle.ot_model.specs.Cells.{updated}
use Rattle.ot_depend.specs.Siblings.{Sibling}
use Rattle.ot_depend.specs.Kept.{Kid, siblings, woken, kid_ended, waiters_of}
use Rattle.ot_depend.specs.Groups.{count_of}
use Rattle.ot_depend.specs.Children.{kid_of, kids_of}
use Rattle.ot_depend.specs.View.{IsTrueOf}
use Rattle.ot_depend.specs.declared.child.Child.{Child}
use Rattle.ot_depend.specs.declared.kept.Kept.{Kept}
use Rattle.ot_depend.proofs.ChildrenLemmas.{kids_of-set, kid_at, length-woken}
use Rattle.ot_depend.proofs.KeptLemmas.{kid_with, woken_it, told_wait, counted_in, counted_all, siblings_finished, kept_finished}
use Rattle.ot_depend.proofs.kept.Kept.finish.Goals as goal

-- a child that is known stays so while others are told
within_woken : (old now : List Child) (told : List ℕ) (i : ℕ) (s : Sibling) → kids_of now ≡ woken (kids_of old) told → slice_get (siblings (kids_of old)) i ≡ Some s → i < length now
within_woken old now told i s is known =
    let inside = slice_get_within (siblings (kids_of old)) i s known in
    omega (arith, ap length is, length-woken told (kids_of old), length-map now kid_of, length-map (kids_of old) (λ (k : Kid). k.it))

-- its groups are the same then
groups_woken : (old now : List Child) (told : List ℕ) (i : ℕ) (me : Kid) (r : Child) → kids_of now ≡ woken (kids_of old) told → slice_get (kids_of old) i ≡ Some me → i < length now → r ≡ get_or now i r → r.groups.items ≡ me.it.groups
groups_woken old now told i me r is known within read =
    ap (λ (s : Sibling). s.groups) (woken_it (kids_of old) told i me (kid_of r) known (ap (λ ks. slice_get ks i) (sym is) ∙ kid_at now i r within read))

pub wake-requires-clause-wait : goal.wake-requires-clause-wait
wake-requires-clause-wait c =
    let k : Kept = c.args.self.now in
    let me = kid_with (kids_of k.children.items) c.args.child c.requires.unfinished.itself c.requires.unfinished.known in
    let not_yet : me.0.it.finished ≡ false = ap (λ (s : Sibling). s.finished) me.2 ∙ c.requires.unfinished.unfinished in
    told_wait (kids_of k.children.items) k.cells k.groups k.unfinished c.requires.kept c.args.child me.0 me.1 not_yet

pub index-requires : goal.index-requires
index-requires c =
    let within = within_woken c.args.self.now.children.items c.wake.new.children.items (waiters_of (kids_of c.args.self.now.children.items) c.args.child) c.args.child c.requires.unfinished.itself c.wake.ensures c.requires.unfinished.known in
    omega (arith, c.wake.new.children.ok.0)

pub lower-requires : goal.lower-requires
lower-requires c =
    let k : Kept = c.args.self.now in
    let me = kid_with (kids_of k.children.items) c.args.child c.requires.unfinished.itself c.requires.unfinished.known in
    let not_yet : me.0.it.finished ≡ false = ap (λ (s : Sibling). s.finished) me.2 ∙ c.requires.unfinished.unfinished in
    let told : List ℕ = waiters_of (kids_of k.children.items) c.args.child in
    let within = within_woken k.children.items c.wake.new.children.items told c.args.child c.requires.unfinished.itself c.wake.ensures c.requires.unfinished.known in
    let same = groups_woken k.children.items c.wake.new.children.items told c.args.child me.0 c.index.result.now c.wake.ensures me.1 within c.index.ensures in
    λ g inside. counted_in (kids_of k.children.items) k.cells k.groups k.unfinished c.requires.kept c.args.child me.0 me.1 not_yet g
    (ap (list_any (λ x. x == g)) (sym same) ∙ ap (list_any (λ x. x == g)) (sym c.deref.ensures.value) ∙ inside)

pub overflow_sub-self : goal.overflow_sub-self
overflow_sub-self c =
    let k : Kept = c.args.self.now in
    let me = kid_with (kids_of k.children.items) c.args.child c.requires.unfinished.itself c.requires.unfinished.known in
    let not_yet : me.0.it.finished ≡ false = ap (λ (s : Sibling). s.finished) me.2 ∙ c.requires.unfinished.unfinished in
    counted_all (kids_of k.children.items) k.cells k.groups k.unfinished c.requires.kept c.args.child me.0 me.1 not_yet

pub index_mut-requires : goal.index_mut-requires
index_mut-requires c =
    let within = within_woken c.args.self.now.children.items c.wake.new.children.items (waiters_of (kids_of c.args.self.now.children.items) c.args.child) c.args.child c.requires.unfinished.itself c.wake.ensures c.requires.unfinished.known in
    omega (arith, c.wake.new.children.ok.0)

pub returns : goal.returns
returns c =
    let k : Kept = c.args.self.now in
    let me = kid_with (kids_of k.children.items) c.args.child c.requires.unfinished.itself c.requires.unfinished.known in
    let not_yet : me.0.it.finished ≡ false = ap (λ (s : Sibling). s.finished) me.2 ∙ c.requires.unfinished.unfinished in
    let told : List ℕ = waiters_of (kids_of k.children.items) c.args.child in
    let within = within_woken k.children.items c.wake.new.children.items told c.args.child c.requires.unfinished.itself c.wake.ensures c.requires.unfinished.known in
    let same = groups_woken k.children.items c.wake.new.children.items told c.args.child me.0 c.index.result.now c.wake.ensures me.1 within c.index.ensures in
    let now : Child = record c.index_mut.result.now { finished = true } in
    let put : kids_of (set c.wake.new.children.items c.args.child now) ≡ updated (woken (kids_of k.children.items) told) c.args.child kid_ended =
    kids_of-set kid_ended c.wake.new.children.items c.args.child c.index_mut.result.now now within c.index_mut.ensures.value refl ∙ ap (λ ks. updated ks c.args.child kid_ended) c.wake.ensures in
    record {
      marked = ap siblings put ∙ siblings_finished (kids_of k.children.items) k.cells k.groups k.unfinished c.requires.kept c.args.child me.0 me.1 not_yet;
      kids = put;
      kept = subst (λ (ks : List Kid). IsTrueOf ks k.cells c.lower.new.self (k.unfinished - 1)) (sym put)
          (kept_finished (kids_of k.children.items) k.cells k.groups k.unfinished c.requires.kept c.args.child me.0 me.1 not_yet c.lower.new.self c.requires.ready
          (λ g. ap (λ xs. count_of c.lower.new.self g + cond {A = ℕ} (list_any (λ x. x == g) xs) 1 0) (sym same ∙ sym c.deref.ensures.value) ∙ c.lower.ensures g));
    }
