-- The text and the places that the code's stand for.
use Rattle.std.specs.Prelude.{map}
use Rattle.serde_json.specs.View.{view}
use Rattle.ot_model.specs.Programs.{arrays_of}
use Rattle.ot_why_place.specs.Spots.{turn_by}
use Rattle.ot_c_judge.specs.Sites as s
use Rattle.ot_c_judge.specs.declared.source.Source.{Source}
use Rattle.ot_c_judge.specs.declared.source.Site.{Site}

abbrev pub source_by : Source → s.Source
source_by source =
    record { name = source.name.now; text = source.text.now; request = view source.request.now; arrays = arrays_of source.arrays.now; bytes = source.places.now; order = source.order }

abbrev pub site_by : Site → s.Site
site_by site = record { place = site.place; turns = map turn_by site.turns.items }
