use Rattle.serde_json.specs.View.{view}
use Rattle.ot_why_fault.specs.Walk.{told_by, shape_by}
use Rattle.ot_why_fault.proofs.PartLemmas.{array_told}
use Rattle.ot_why_fault.proofs.look.Look.array.Goals as goal

pub returns-clause-first : goal.returns-clause-first
returns-clause-first c =
    array_told (shape_by c.args.self.now) (view c.args.part.now) _ (told_by c.name.new.self) _ _ c.len_of-len.result _
    c.letters-name.ensures c.len_of-len.ensures c.name.ensures c.is_some.ensures c.unless.ensures
