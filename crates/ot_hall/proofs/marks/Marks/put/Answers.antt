use Rattle.std.proofs.Common.{◌<◌, ap, ◌∙◌, set, ◌/◌, arith}
use Rattle.std.proofs.lemmas.List.{get_or_default, length-set}
use Rattle.ot_hall.specs.Marking.{has_bit_at}
use Rattle.ot_hall.proofs.MarkLemmas.{Puts, put-marks, put-other, below-count, within-words}
use Rattle.ot_hall.proofs.marks.Marks.put.Goals as goal
use Rattle.ot_hall.proofs.marks.Marks.put.Goals.{After-with_bit}

pub index-requires : goal.index-requires
index-requires c =
    omega (arith, within-words _ _ c.args.number c.self.invariant.many (below-count _ _ c.args.number _ c.self.view_is c.requires), c.self.inside.words.ok.0)

pub index_mut-requires : goal.index_mut-requires
index_mut-requires c =
    omega (arith, within-words _ _ c.args.number c.self.invariant.many (below-count _ _ c.args.number _ c.self.view_is c.requires), c.self.inside.words.ok.0)

puts : (c : After-with_bit) → (c.args.number < c.self.inside.count) × Puts c.self.inside.words.items c.args.number c.with_bit.result c.args.is_set
puts c =
    let words = c.self.inside.words.items in
    let below = below-count words c.self.inside.count c.args.number _ c.self.view_is c.requires in
    let within = within-words words c.self.inside.count c.args.number c.self.invariant.many below in (
      below,
      record {
        within = within;
        here = c.with_bit.ensures.here;
        others = λ i low apart. c.with_bit.ensures.others i low apart ∙ ap (λ w. has_bit_at w i) (c.index.ensures ∙ get_or_default words (c.args.number / 64) _ 0 within);
      },
    )

pub invariant_of-self : goal.invariant_of-self
invariant_of-self c =
    let words = c.self.inside.words.items in
    let p = puts (goal.at.invariant_of-self c).After-with_bit in record {
      many = length-set words (c.args.number / 64) c.with_bit.result ∙ c.self.invariant.many;
      few = c.self.invariant.few;
      clean = λ k past. put-other words c.args.number c.with_bit.result c.args.is_set p.1 k (λ e. omega (arith, e, past, p.0)) ∙ c.self.invariant.clean k past;
    }

pub returns : goal.returns
returns c =
    let p = puts (goal.at.returns c).After-with_bit in
    put-marks c.self.inside.words.items c.self.inside.count c.args.number c.with_bit.result c.args.is_set p.0 p.1 ∙ ap (λ marks. set marks c.args.number c.args.is_set) c.self.view_is
