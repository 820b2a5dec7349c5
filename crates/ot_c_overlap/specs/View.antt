-- What the code's values stand for.
use Rattle.ot_c_overlap.specs.Items as s
use Rattle.ot_c_overlap.specs.declared.walk.Met.{Met}
use Rattle.ot_c_overlap.specs.declared.walk.Walk.{Walk}

abbrev pub met_by : Met → s.Met
met_by m = record { entries = m.entries; items = m.items.items }

abbrev pub ground_by : Walk → s.Ground
ground_by walk = s.ground walk.names.now walk.reds
