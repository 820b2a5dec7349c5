use Rattle.std.proofs.Common.{◌∙◌, sym, ap}
use Rattle.ot_store.specs.Arrays.{arrays_listed}
use Rattle.ot_client_mirror.proofs.GivenLemmas.{given_leaves, copied}
use Rattle.ot_client_mirror.proofs.sizes.store_behind.Goals as goal

pub returns : goal.returns
returns c =
    copied c.copy.result c.store.result.now _ c.copy.ensures
    (ap arrays_listed c.store.ensures ∙ given_leaves c.args.store.now c.args.line.now c.in_ok-book.book c.in_ok-book.ensures (sym c.ran_out.ensures ∙ c.if-ran_out.false))
