-- What is found where no way races.
use Rattle.std.proofs.Common.{◌≡◌, ◌∙◌, inl, inr, refl, sym, ap, ℕ, List, [], ◌∷◌, length, take, true, false, true≢false, arith}
use Rattle.std.specs.Prelude.{slice_get}
use Rattle.std.proofs.lemmas.Bool.{both_ways}
use Rattle.ot_model.specs.Tree.{Body, val}
use Rattle.ot_model.specs.Cells.{cell_of, lengths}
use Rattle.ot_model.specs.Names.{NamedIn}
use Rattle.ot_race_order.specs.declared.order.Order.{Order}
use Rattle.ot_race_ways.specs.Laws.{RunsAreWays, StraightWaysAreRuns}
use Rattle.ot_race.specs.Events.{Event}
use Rattle.ot_race.specs.Races.{NothingRaces, TellsFirst}
use Rattle.ot_race.specs.declared.race.Race.{Race}
use Rattle.ot_race_all.specs.AllRaces.{IsMore, TellsAll}
use Rattle.ot_race_all.specs.declared.races.More.{More}
use Rattle.ot_race_all.specs.declared.races.More.TheVariants.{Exactly, AtLeast}
use Rattle.ot_race_all.specs.declared.races.Races.{Races}
use Rattle.ot_race_ways.specs.Straight.{is_straight}
use Rattle.ot_race_ways.specs.Verdicts.{AreFew, NoWayRaces, Tells}
use Rattle.ot_race_ways.specs.declared.verdict.Verdict.{Verdict}
use Rattle.ot_race_ways.specs.declared.verdict.Verdict.TheVariants.{RacesOnNoWay, RacesOnWay, TooManyWays}
use Rattle.ot_c_judge.specs.declared.finding.Finding.TheVariants.{Nowhere}
use Rattle.ot_c_judge.specs.Findings.{Finds, IsAccepted, AreWaysKnown, events_by, is_clean, finding_of}

-- where no way races, neither does the run, which goes one
pub run_races_not : (order : Order) (body : Body) (cells : List (List ℕ)) → RunsAreWays → NamedIn (lengths cells) body → NoWayRaces order body → NothingRaces (events_by order body cells)
run_races_not order body cells laws named none cell i j race =
    none (λ s e. val (cell_of s.cells) e) cells cell i j (laws order body cells named cell i j race)

pub finds_nowhere : (order : Order) (body : Body) (cells : List (List ℕ)) (told : Verdict) → RunsAreWays → NamedIn (lengths cells) body → Tells order body told → is_clean told ≡ true → Finds order body cells Nowhere
finds_nowhere order body cells RacesOnNoWay laws named tells is = (run_races_not order body cells laws named tells.1, inl tells.0, tells.1)
finds_nowhere order body cells (RacesOnWay taken race) laws named tells is = absurd (both_ways false refl is)
finds_nowhere order body cells TooManyWays laws named tells is = absurd (both_ways false refl is)

unknown : (order : Order) (body : Body) → is_straight body ≡ false → (AreFew body → ⊥) → (IsAccepted order body → ⊥) → AreWaysKnown order body → ⊥
unknown order body bends many refused (inl few) = many few
unknown order body bends many refused (inr (inl accepted)) = refused accepted
unknown order body bends many refused (inr (inr straight)) = true≢false (sym straight ∙ bends)

-- where the run of a straight body doesn't race, no way does
pub finds_straight : (order : Order) (body : Body) (cells : List (List ℕ)) → StraightWaysAreRuns → is_straight body ≡ true → NothingRaces (events_by order body cells) → Finds order body cells Nowhere
finds_straight order body cells laws straight none = (none, inr (inr straight), laws order body cells straight none)

-- where the run of another one doesn't race, what the ways tell is found
pub finds_told : (order : Order) (body : Body) (cells : List (List ℕ)) (told : Verdict) → is_straight body ≡ false → NothingRaces (events_by order body cells) → Tells order body told → (IsAccepted order body → ⊥) → Finds order body cells (finding_of told)
finds_told order body cells RacesOnNoWay bends none tells refused = (none, inl tells.0, tells.1)
finds_told order body cells (RacesOnWay taken race) bends none tells refused = (none, tells.0, taken.items, tells.1)
finds_told order body cells TooManyWays bends none tells refused = (none, unknown order body bends tells refused)

-- ---- all races of a list

first_told : (es : List Event) (rest : ℕ) (all : List Race) (more : More) → IsMore es all rest more → TellsFirst es (slice_get all 0)
first_told es rest all (Exactly count) is = is.0.first
first_told es rest all (AtLeast count) is = is.0.1.first

nothing_told : (es : List Event) (all : List Race) → TellsFirst es (slice_get all 0) → length (take 20 all) ≡ 0 → NothingRaces es
nothing_told es [] first none = first
nothing_told es (race ∷ others) first none = absurd (omega (arith, none))

-- where none is told, nothing races
pub none_told : (es : List Event) (races : Races) → TellsAll es 20 races → length races.told.items ≡ 0 → NothingRaces es
none_told es races tells none = nothing_told es tells.0 (first_told es _ tells.0 races.more tells.2) (sym (ap length tells.1) ∙ none)
