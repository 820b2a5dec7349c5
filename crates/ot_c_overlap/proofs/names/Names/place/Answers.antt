use Rattle.std.proofs.Common.{◌∙◌, ap}
use Rattle.std.specs.Prelude.{bytes_eq}
use Rattle.std.specs.List.{position_or_len}
use Rattle.ot_c_overlap.proofs.NameLemmas.{placed_some, placed_none}
use Rattle.ot_c_overlap.proofs.names.Names.place.Goals as goal

pub returns-in-Some : goal.returns-in-Some
returns-in-Some c =
    placed_some c.self.inside.arrays.now c.self.inside.positions c.args.name.now c.self.invariant c.in-Some.position.now c.in-Some.ensures.value
    ∙ ap (position_or_len (λ a. bytes_eq a.0 c.args.name.now)) c.self.view_is

pub returns-in-None : goal.returns-in-None
returns-in-None c =
    placed_none c.self.inside.arrays.now c.self.inside.positions c.args.name.now c.self.invariant c.in-None.ensures.value
    ∙ ap (position_or_len (λ a. bytes_eq a.0 c.args.name.now)) c.self.view_is
