use Rattle.std.proofs.Common.{refl, sym, ap, ◌∙◌, arith}
use Rattle.std.specs.Prelude.{Ok, bytes_eq}
use Rattle.std.specs.Option.{option_copied_mut}
use Rattle.std.specs.Map.{set_value}
use Rattle.std.proofs.lemmas.Map.Steps.{set_value_same}
use Rattle.ot_store.specs.Arrays.{numbers_put, named_of}
use Rattle.ot_store.proofs.CallLemmas.{put-unknown, put-outside, put-there}
use Rattle.ot_store.proofs.HeldLemmas.{is_called, cells_called-none, cells_called-some, set_value-named, AreCounted-put}
use Rattle.ot_store.proofs.store.Store.put.Goals as goal

pub returns-in_default-clause-refused : goal.returns-in_default-clause-refused
returns-in_default-clause-refused c =
    let name = c.args.name.now in
    let entries = c.self.inside.arrays.entries in
    let none = cells_called-none name entries (sym c.get_mut.ensures.value ∙ ap option_copied_mut c.in_default.is) in
    ap (numbers_put name c.args.start c.args.numbers.now) (sym c.self.view_is)
    ∙ put-unknown name (named_of entries) c.args.start c.args.numbers.now none

pub invariant_of-self-then-end-len : goal.invariant_of-self-then-end-len
invariant_of-self-then-end-len c =
    let cells = c.in-Some.cells.now in
    let found = sym c.get_mut.ensures.value ∙ ap option_copied_mut c.in-Some.is in
    AreCounted-put c.args.name.now c.self.inside.arrays.entries (c.get_mut.follows.lender cells).entries cells cells c.self.inside.count
    (c.get_mut.follows.holds cells).0 found refl c.self.invariant

pub returns-then-end-len-clause-refused : goal.returns-then-end-len-clause-refused
returns-then-end-len-clause-refused c =
    let name = c.args.name.now in
    let entries = c.self.inside.arrays.entries in
    let cells = c.in-Some.cells.now in
    let found = cells_called-some name entries cells (sym c.get_mut.ensures.value ∙ ap option_copied_mut c.in-Some.is) in
    ap (numbers_put name c.args.start c.args.numbers.now) (sym c.self.view_is)
    ∙ put-outside name (named_of entries) c.args.start c.args.numbers.now cells.items found (omega (arith, c.if-end-len.true, c.len.ensures, cells.ok.0))

pub returns-then-end-len-clause-kept : goal.returns-then-end-len-clause-kept
returns-then-end-len-clause-kept c =
    let cells = c.in-Some.cells.now in
    let found = sym c.get_mut.ensures.value ∙ ap option_copied_mut c.in-Some.is in
    ap named_of ((c.get_mut.follows.holds cells).0 ∙ set_value_same (is_called c.args.name.now) c.self.inside.arrays.entries cells found)
    ∙ c.self.view_is

pub invariant_of-self-2 : goal.invariant_of-self-2
invariant_of-self-2 c =
    let cells = c.in-Some.cells.now in
    let new = c.overwrite.new.cells in
    let found = sym c.get_mut.ensures.value ∙ ap option_copied_mut c.in-Some.is in
    AreCounted-put c.args.name.now c.self.inside.arrays.entries (c.get_mut.follows.lender new).entries cells new c.self.inside.count
    (c.get_mut.follows.holds new).0 found (omega (arith, c.overwrite.ensures.len, cells.ok.0, new.ok.0)) c.self.invariant

pub returns-clause-ok : goal.returns-clause-ok
returns-clause-ok c =
    let name = c.args.name.now in
    let entries = c.self.inside.arrays.entries in
    let cells = c.in-Some.cells.now in
    let new = c.overwrite.new.cells in
    let found = cells_called-some name entries cells (sym c.get_mut.ensures.value ∙ ap option_copied_mut c.in-Some.is) in
    ap (numbers_put name c.args.start c.args.numbers.now) (sym c.self.view_is)
    ∙ put-there name (named_of entries) c.args.start c.args.numbers.now cells.items found (omega (arith, c.if-end-len.false, c.len.ensures, cells.ok.0))
    ∙ ap (λ xs. Ok (set_value (bytes_eq name) (named_of entries) xs)) (sym c.overwrite.ensures.written)
    ∙ ap Ok (set_value-named name entries new ∙ ap named_of (sym (c.get_mut.follows.holds new).0))
