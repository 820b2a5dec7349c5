use Rattle.std.proofs.Common.{◌≡◌, ◌<◌, ◌-◌, ℕ, List, length, get_or, set, sym, ap, subst, ◌∙◌, refl, arith}
use Rattle.std.proofs.lemmas.List.{get_or_read}
use Rattle.ot_depend.specs.Kept.{waiters_of}
use Rattle.ot_depend.specs.Children.{kids_of}
use Rattle.ot_depend.specs.declared.child.Child.{Child}
use Rattle.ot_depend.proofs.WakeLemmas.{list_kept, next_known, next_waits, woken_more}
use Rattle.ot_depend.proofs.child.wake.Goals as goal

-- what is read from the list that is gone through
read : (xs ys : List ℕ) (i x : ℕ) → xs ≡ ys → i < length xs → x ≡ get_or ys i x → x ≡ get_or xs i 0
read xs ys i x same within is = get_or_read ys i x (omega (arith, ap length same)) is 0 ∙ ap (λ zs. get_or zs i 0) (sym same)

pub index-later-requires : goal.index-later-requires
index-later-requires c =
    let list = list_kept c.args.children.now.items c.loop-i.children.items c.args.finished c.loop-i.i c.requires.known c.requires.wait c.loop-i.invariant.told c.index-in-loop-i.result.now c.index-in-loop-i.ensures in
    omega (arith, ap length list, c.index-in-loop-i.result.now.waiters.ok.0)

pub index_mut-requires : goal.index_mut-requires
index_mut-requires c =
    let all : List ℕ = waiters_of (kids_of c.args.children.now.items) c.args.finished in
    let list = list_kept c.args.children.now.items c.loop-i.children.items c.args.finished c.loop-i.i c.requires.known c.requires.wait c.loop-i.invariant.told c.index-in-loop-i.result.now c.index-in-loop-i.ensures in
    let within : c.loop-i.i < length all = omega (arith, c.loop-i.invariant.all, c.loop-i-test.true) in
    let is = read all c.index-in-loop-i.result.now.waiters.items c.loop-i.i c.index-later.result.now list within c.index-later.ensures in
    omega (arith, is, c.loop-i.children.ok.0, next_known c.args.children.now.items c.loop-i.children.items c.args.finished c.loop-i.i c.requires.known c.requires.wait c.loop-i.invariant.told within)

pub overflow_sub-index_mut : goal.overflow_sub-index_mut
overflow_sub-index_mut c =
    let all : List ℕ = waiters_of (kids_of c.args.children.now.items) c.args.finished in
    let list = list_kept c.args.children.now.items c.loop-i.children.items c.args.finished c.loop-i.i c.requires.known c.requires.wait c.loop-i.invariant.told c.index-in-loop-i.result.now c.index-in-loop-i.ensures in
    let within : c.loop-i.i < length all = omega (arith, c.loop-i.invariant.all, c.loop-i-test.true) in
    let is = read all c.index-in-loop-i.result.now.waiters.items c.loop-i.i c.index-later.result.now list within c.index-later.ensures in
    next_waits c.args.children.now.items c.loop-i.children.items c.args.finished c.loop-i.i c.requires.known c.requires.wait c.loop-i.invariant.told within c.index_mut.result.now
    (subst (λ (n : ℕ). c.index_mut.result.now ≡ get_or c.loop-i.children.items n c.index_mut.result.now) is c.index_mut.ensures.value)

pub loop-i-preserved : goal.loop-i-preserved
loop-i-preserved c =
    let all : List ℕ = waiters_of (kids_of c.args.children.now.items) c.args.finished in
    let list = list_kept c.args.children.now.items c.loop-i.children.items c.args.finished c.loop-i.i c.requires.known c.requires.wait c.loop-i.invariant.told c.index-in-loop-i.result.now c.index-in-loop-i.ensures in
    let within : c.loop-i.i < length all = omega (arith, c.loop-i.invariant.all, c.loop-i-test.true) in
    let is = read all c.index-in-loop-i.result.now.waiters.items c.loop-i.i c.index-later.result.now list within c.index-later.ensures in
    let less : Child = record c.index_mut.result.now { waiting = c.index_mut.result.now.waiting - 1 } in
    record {
      told = ap (λ n. kids_of (set c.loop-i.children.items n less)) is
          ∙ woken_more c.args.children.now.items c.loop-i.children.items c.args.finished c.loop-i.i c.requires.known c.requires.wait c.loop-i.invariant.told within c.index_mut.result.now less
          (subst (λ (n : ℕ). c.index_mut.result.now ≡ get_or c.loop-i.children.items n c.index_mut.result.now) is c.index_mut.ensures.value) refl;
      all = c.loop-i.invariant.all;
    }
