-- The arrays that values of the code stand for.
use Rattle.std.specs.Prelude.{string_bytes}
use Rattle.ot_store.specs.Arrays.{Named}
use Rattle.ot_client_keep.specs.declared.array.Array.{Array}

abbrev pub named_by : Array → Named
named_by array = (string_bytes array.name, array.cells.items)
