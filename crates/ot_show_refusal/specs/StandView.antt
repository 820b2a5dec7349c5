-- The statements for which values of the code stand.
use Rattle.std.specs.Prelude.{List, map}
use Rattle.ot_model.specs.View.{stmt_of}
use Rattle.ot_show_refusal.specs.Stands.{Standing, standing}
use Rattle.ot_show_refusal.specs.declared.stand.Stand.{Stand}

abbrev pub standing_of : Stand → Standing
standing_of s = standing s.owner s.place (stmt_of s.stmt.now)

abbrev pub standings_of : List Stand → List Standing
standings_of ss = map standing_of ss
