use Rattle.std.specs.Prelude.{None}
use Rattle.std.proofs.Common.{refl}
use Rattle.ot_race.specs.Events.{beginning}
use Rattle.ot_exec_outline.proofs.FollowLemmas.{way}
use Rattle.ot_exec_outline.proofs.laws.answers_are_a_way.Goals as goal

pub returns : goal.returns
returns c = λ answers steps cells. way answers None 0 steps (beginning cells) 0 refl
