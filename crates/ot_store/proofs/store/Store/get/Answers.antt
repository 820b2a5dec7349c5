use Rattle.std.proofs.Common.{◌+◌, sym, ap, ◌∙◌, arith}
use Rattle.std.specs.Prelude.{Ok, slice_range}
use Rattle.std.specs.Option.{option_copied}
use Rattle.ot_store.specs.Arrays.{got, named_of}
use Rattle.ot_store.proofs.CallLemmas.{got-unknown, got-outside, got-there}
use Rattle.ot_store.proofs.HeldLemmas.{cells_called-none, cells_called-some}
use Rattle.ot_store.proofs.store.Store.get.Goals as goal

pub returns-in_default-clause-refused : goal.returns-in_default-clause-refused
returns-in_default-clause-refused c =
    let name = c.args.name.now in
    let entries = c.self.inside.arrays.entries in
    let none = cells_called-none name entries (sym c.get.ensures.value ∙ ap option_copied c.in_default.is) in
    ap (got name c.args.start c.args.len) (sym c.self.view_is) ∙ got-unknown name (named_of entries) c.args.start c.args.len none

pub returns-then-end-len-clause-refused : goal.returns-then-end-len-clause-refused
returns-then-end-len-clause-refused c =
    let name = c.args.name.now in
    let entries = c.self.inside.arrays.entries in
    let cells = c.in-Some.cells.now in
    let found = cells_called-some name entries cells (sym c.get.ensures.value ∙ ap option_copied c.in-Some.is) in
    ap (got name c.args.start c.args.len) (sym c.self.view_is)
    ∙ got-outside name (named_of entries) c.args.start c.args.len cells.items found (omega (arith, c.if-end-len.true, c.len.ensures, cells.ok.0))

pub returns-clause-ok : goal.returns-clause-ok
returns-clause-ok c =
    let name = c.args.name.now in
    let entries = c.self.inside.arrays.entries in
    let cells = c.in-Some.cells.now in
    let found = cells_called-some name entries cells (sym c.get.ensures.value ∙ ap option_copied c.in-Some.is) in
    ap (got name c.args.start c.args.len) (sym c.self.view_is)
    ∙ got-there name (named_of entries) c.args.start c.args.len cells.items found (omega (arith, c.if-end-len.false, c.len.ensures, cells.ok.0))
    ∙ ap (λ xs. Ok (slice_range xs c.args.start (c.args.start + c.args.len))) (sym c.deref.ensures.value)
    ∙ ap Ok (sym c.in_ok-from_slice.ensures.items)
