use Rattle.std.proofs.Common.{sym, ap, ◌∙◌, arith}
use Rattle.std.specs.Prelude.{Ok}
use Rattle.ot_store.specs.Arrays.{array_freed, named_of}
use Rattle.ot_store.proofs.CallLemmas.{freed-unknown, freed-there}
use Rattle.ot_store.proofs.HeldLemmas.{cells_called-none, cells_called-some, found-≤-count, others-named, AreCounted-remove}
use Rattle.ot_store.proofs.store.Store.free.Goals as goal

pub returns-in_default-clause-refused : goal.returns-in_default-clause-refused
returns-in_default-clause-refused c =
    let name = c.args.name.now in
    let entries = c.self.inside.arrays.entries in
    let none = cells_called-none name entries (sym c.shift_remove.ensures.value ∙ c.in_default.is) in
    ap (array_freed name) (sym c.self.view_is) ∙ freed-unknown name (named_of entries) none

pub overflow_cast-self : goal.overflow_cast-self
overflow_cast-self c =
    let found = sym c.shift_remove.ensures.value ∙ c.in-Some.is in
    let few = found-≤-count c.args.name.now c.self.inside.arrays.entries c.in-Some.cells c.self.inside.count found c.self.invariant in
    omega (arith, few, c.len.ensures, c.in-Some.cells.ok.0, c.self.invariant.counted, c.self.invariant.sound.few)

pub overflow_sub-self : goal.overflow_sub-self
overflow_sub-self c =
    let found = sym c.shift_remove.ensures.value ∙ c.in-Some.is in
    let few = found-≤-count c.args.name.now c.self.inside.arrays.entries c.in-Some.cells c.self.inside.count found c.self.invariant in
    omega (arith, few, c.len.ensures, c.in-Some.cells.ok.0)

pub invariant_of-self-2 : goal.invariant_of-self-2
invariant_of-self-2 c =
    let found = sym c.shift_remove.ensures.value ∙ c.in-Some.is in
    AreCounted-remove c.args.name.now c.self.inside.arrays.entries c.shift_remove.new.self.entries c.in-Some.cells c.self.inside.count c.len.result
    c.shift_remove.ensures.entries found (omega (arith, c.len.ensures, c.in-Some.cells.ok.0)) c.shift_remove.ensures.unique c.self.invariant

pub returns-clause-ok : goal.returns-clause-ok
returns-clause-ok c =
    let name = c.args.name.now in
    let entries = c.self.inside.arrays.entries in
    let found = cells_called-some name entries c.in-Some.cells (sym c.shift_remove.ensures.value ∙ c.in-Some.is) in
    ap (array_freed name) (sym c.self.view_is)
    ∙ freed-there name (named_of entries) c.in-Some.cells.items found
    ∙ ap Ok (others-named name entries c.shift_remove.new.self.entries c.self.inside.count c.shift_remove.ensures.entries c.self.invariant)
