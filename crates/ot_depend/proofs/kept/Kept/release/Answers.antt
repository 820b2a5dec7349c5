use Rattle.std.proofs.Common.{◌≡◌, ◌<◌, ◌+◌, ℕ, List, All, false, set, length, Some, sym, ap, subst, ◌∙◌, arith}
use Rattle.std.specs.List.{slice_get}
use Rattle.std.proofs.lemmas.Option.{slice_get_within}
use Rattle.std.proofs.lemmas.List.{length-map}
use Rattle.ot_model.specs.Cells.{updated}
use Rattle.ot_model.proofs.CellsLemmas.{length-updated}
use Rattle.ot_depend.specs.Siblings.{Sibling, FinishedAreReady, is_ready, waiting_for, has, times}
use Rattle.ot_depend.specs.Kept.{Kid, siblings, woken, kid_ended, waiters_of, WaitForAll}
use Rattle.ot_depend.specs.Children.{kid_of, kids_of}
use Rattle.ot_depend.specs.View.{IsTrueOf}
use Rattle.ot_depend.specs.declared.child.Child.{Child}
use Rattle.ot_depend.specs.declared.kept.Kept.{Kept}
use Rattle.ot_depend.proofs.ChildrenLemmas.{kids_of-set, kid_at, length-woken}
use Rattle.ot_depend.proofs.KeptLemmas.{kid_with, told_wait}
use Rattle.ot_depend.proofs.ReleaseLemmas.{quiet, siblings-quiet, kept-quiet, ready-kept, waiters-known, waiters-are, released, waits-less}
use Rattle.ot_depend.proofs.kept.Kept.release.Goals as goal

-- a child that is known is known once it has finished
within_finished : (kids : List Kid) (now : List Child) (i : ℕ) (s : Sibling) → kids_of now ≡ updated (woken kids (waiters_of kids i)) i kid_ended → slice_get (siblings kids) i ≡ Some s → i < length now
within_finished kids now i s is known =
    let inside = slice_get_within (siblings kids) i s known in
    omega (arith, ap length is, length-updated (woken kids (waiters_of kids i)) i kid_ended, length-woken (waiters_of kids i) kids, length-map now kid_of, length-map kids (λ (k : Kid). k.it))

pub index_mut-requires : goal.index_mut-requires
index_mut-requires c =
    let within = within_finished (kids_of c.args.self.now.children.items) c.finish.new.self.children.items c.args.child c.requires.unfinished.itself c.finish.ensures.kids c.requires.unfinished.known in
    omega (arith, c.finish.new.self.children.ok.0)

pub returns : goal.returns
returns c =
    let k : Kept = c.args.self.now in
    let kids : List Kid = kids_of k.children.items in
    let kids1 : List Kid = kids_of c.finish.new.self.children.items in
    let i = c.args.child in
    let me = kid_with kids i c.requires.unfinished.itself c.requires.unfinished.known in
    let not_yet : me.0.it.finished ≡ false = ap (λ (s : Sibling). s.finished) me.2 ∙ c.requires.unfinished.unfinished in
    let within = within_finished kids c.finish.new.self.children.items i c.requires.unfinished.itself c.finish.ensures.kids c.requires.unfinished.known in
    let r : Child = c.index_mut.result.now in
    let there = kid_at c.finish.new.self.children.items i r within c.index_mut.ensures.value in
    let is = c.finish.ensures.kids ∙ ap (λ ws. updated (woken kids ws) i kid_ended) (waiters-are kids i me.0 me.1) in
    let over = released kids i me.0 kids1 (kid_of r) me.1 is there in
    let none = ap (λ v. v.items) c.replace.ensures.after ∙ c.new.ensures.items in
    let now : Child = record r { waiters = c.replace.new.dest } in
    let put = kids_of-set quiet c.finish.new.self.children.items i r now within c.index_mut.ensures.value (ap (λ ws. let k : Kid = record (kid_of r) { waiters = ws } in k) none) in
    let handed : c.replace.result.items ≡ me.0.waiters = ap (λ v. v.items) c.replace.ensures.value ∙ over.1 in
    let same = ap siblings put ∙ siblings-quiet kids1 i (kid_of r) there over.0 ∙ ap siblings is in
    let all = subst (λ (ks : List Kid). FinishedAreReady (siblings ks)) is c.finish.ensures.kept.ready in
    let wait : WaitForAll kids me.0.waiters = subst (WaitForAll kids) (waiters-are kids i me.0 me.1) (told_wait kids k.cells k.groups k.unfinished c.requires.kept i me.0 me.1 not_yet) in
    record {
      marked = ap siblings put ∙ siblings-quiet kids1 i (kid_of r) there over.0 ∙ c.finish.ensures.marked;
      kept = subst (λ (ks : List Kid). IsTrueOf ks c.finish.new.self.cells c.finish.new.self.groups c.finish.new.self.unfinished) (sym put)
          (kept-quiet kids1 i (kid_of r) there over.0 c.finish.new.self.cells c.finish.new.self.groups c.finish.new.self.unfinished c.finish.ensures.kept);
      known = subst (λ (ws : List ℕ). All (λ w. w < length (siblings kids)) ws) (sym handed) (waiters-known kids i me.0 c.requires.kept.linked me.1 not_yet);
      others = λ j away. ap (λ (ss : List Sibling). is_ready ss j) same
          ∙ ready-kept kids i me.0 c.requires.kept.linked c.requires.kept.ready me.1 not_yet all j (ap (has j) (sym handed) ∙ away);
      exact = λ j. waits-less kids i me.0 c.requires.kept.linked me.1 not_yet wait j
          ∙ ap (λ (ss : List Sibling). waiting_for ss j + times j me.0.waiters) (sym same)
          ∙ ap (λ ws. waiting_for (siblings (kids_of (set c.finish.new.self.children.items i now))) j + times j ws) (sym handed);
    }
