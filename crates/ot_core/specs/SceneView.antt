-- What the fields of a world stand for.
use Rattle.ot_core.specs.Scenes.{Scene, IsScene}
use Rattle.ot_core.specs.declared.world.World.TheInside.{Inside}

abbrev pub scene_of : Inside → Scene
scene_of w = record { accounts = w.tenants.items; floor = w.hall; hands = w.hands.items }

abbrev pub IsWorld : Inside → Type 0
IsWorld w = IsScene (scene_of w)
