use Rattle.std.proofs.Common.{◌≡◌, length, sym, ap, ◌∙◌, arith}
use Rattle.std.specs.Prelude.{Ok, replicate}
use Rattle.std.proofs.Math.ListN.{length-map}
use Rattle.std.proofs.lemmas.List.{length-replicate}
use Rattle.ot_store.specs.Arrays.{array_created, named_of}
use Rattle.ot_store.proofs.CallLemmas.{created-taken, created-full, created-large, created-there}
use Rattle.ot_store.proofs.HeldLemmas.{is_some-named, named_of-insert, AreCounted-insert}
use Rattle.ot_store.proofs.store.Store.create.Goals as goal

pub returns-then-contains_key-clause-refused : goal.returns-then-contains_key-clause-refused
returns-then-contains_key-clause-refused c =
    let name = c.args.name.now in
    let entries = c.self.inside.arrays.entries in
    let taken = is_some-named name entries ∙ sym c.contains_key.ensures ∙ c.if-contains_key.true in
    ap (array_created name c.args.len c.args.limits.now) (sym c.self.view_is)
    ∙ created-taken name c.args.len c.args.limits.now (named_of entries) taken

pub returns-then-len-limits-clause-refused : goal.returns-then-len-limits-clause-refused
returns-then-len-limits-clause-refused c =
    let name = c.args.name.now in
    let entries = c.self.inside.arrays.entries in
    let free = is_some-named name entries ∙ sym c.contains_key.ensures ∙ c.if-contains_key.false in
    let len : length (named_of entries) ≡ length entries = length-map entries _ in
    ap (array_created name c.args.len c.args.limits.now) (sym c.self.view_is)
    ∙ created-full name c.args.len c.args.limits.now (named_of entries) free (omega (arith, len, c.if-len-limits.true, c.len.ensures.len))

pub returns-then-from-clause-refused : goal.returns-then-from-clause-refused
returns-then-from-clause-refused c =
    let name = c.args.name.now in
    let entries = c.self.inside.arrays.entries in
    let free = is_some-named name entries ∙ sym c.contains_key.ensures ∙ c.if-contains_key.false in
    let len : length (named_of entries) ≡ length entries = length-map entries _ in
    ap (array_created name c.args.len c.args.limits.now) (sym c.self.view_is)
    ∙ created-large name c.args.len c.args.limits.now (named_of entries) free
    (omega (arith, len, c.if-len-limits.false, c.len.ensures.len)) (omega (arith, c.if-from.true, c.self.invariant.counted))

pub invariant_of-self-2 : goal.invariant_of-self-2
invariant_of-self-2 c =
    let map = c.self.inside.arrays in
    let name = c.args.name.now in
    let free = sym c.contains_key.ensures ∙ c.if-contains_key.false in
    let zeros : c.in_ok-cells.cells.items ≡ replicate c.args.len 0 = c.in_ok-cells.ensures.items_if_clones_equal (λ y e. e) in
    let is = ap named_of c.in_ok-insert.ensures.entries
    ∙ named_of-insert map name c.in_ok-name.name c.in_ok-cells.cells (replicate c.args.len 0) free c.in_ok-name.ensures.ok zeros in
    AreCounted-insert map.entries c.insert.new.self.entries (name, replicate c.args.len 0) c.self.inside.count c.args.len is
    c.in_ok-insert.ensures.unique (length-replicate c.args.len 0) c.requires (omega (arith, c.if-from.false)) c.self.invariant

pub returns-clause-ok : goal.returns-clause-ok
returns-clause-ok c =
    let map = c.self.inside.arrays in
    let name = c.args.name.now in
    let free = sym c.contains_key.ensures ∙ c.if-contains_key.false in
    let zeros : c.in_ok-cells.cells.items ≡ replicate c.args.len 0 = c.in_ok-cells.ensures.items_if_clones_equal (λ y e. e) in
    let is = ap named_of c.in_ok-insert.ensures.entries
    ∙ named_of-insert map name c.in_ok-name.name c.in_ok-cells.cells (replicate c.args.len 0) free c.in_ok-name.ensures.ok zeros in
    let len : length (named_of map.entries) ≡ length map.entries = length-map map.entries _ in
    ap (array_created name c.args.len c.args.limits.now) (sym c.self.view_is)
    ∙ created-there name c.args.len c.args.limits.now (named_of map.entries) (is_some-named name map.entries ∙ free)
    (omega (arith, len, c.if-len-limits.false, c.len.ensures.len)) (omega (arith, c.if-from.false, c.self.invariant.counted))
    ∙ ap Ok (sym is)
