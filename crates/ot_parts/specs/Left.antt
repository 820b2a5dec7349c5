-- What is left of a body, as places in shared parts.
use Rattle.std.specs.Prelude.{◌≡◌, ℕ, ◌+◌, ◌-◌, ◌++◌, ◌&&◌, ◌||◌, Bool, true, false, not, List, [], ◌∷◌, drop, length, slice_get, is_some, Option, Some, MatchOption}
use Rattle.std.specs.Arc.{arc_value}
use Rattle.ot_model.specs.Tree.{Body, End, Next, append}
use Rattle.ot_parts.specs.Parts.{leading, after_parts, test_of, Meaning, IsPart, part_of, parts_of, condition_of}
use Rattle.ot_parts.specs.declared.frames.Frame.{Frame}
use Rattle.ot_parts.specs.declared.frames.Frames.{Frames}
use Rattle.ot_parts.specs.declared.part.Part.{Part}

-- what a place has left of its body
abbrev pub frame_parts : Frame → List Part
frame_parts f = drop f.at (arc_value f.body).items

-- what the bodies around have left, the innermost of these last
abbrev pub outer_parts : List Frame → List Part
outer_parts [] = []
outer_parts (f ∷ fs) = outer_parts fs ++ frame_parts f

abbrev pub parts_left : Frames → List Part
parts_left f = frame_parts f.inner ++ outer_parts f.outer.items

-- the part that comes next in the innermost body
abbrev pub next_at : Frame → Option Part
next_at f = slice_get (arc_value f.body).items f.at

-- what is left, with the sets and folds that come first passed or not
abbrev pub rest_left : Bool → Body → Body
rest_left true b = after_parts b
rest_left false b = b

abbrev pub has_some : Body → Bool
has_some End = false
has_some (Next x b) = true

-- whether something of a part comes, where the sets and folds that come first are passed or not
abbrev pub comes : Bool → Meaning → Bool
comes passed m = is_some m.control || (not passed && has_some m.run)

-- whether a part's control statement comes next
abbrev pub shows : Bool → Meaning → Bool
shows passed m = is_some m.control && (passed || not (has_some m.run))

-- the part's control statement comes next, and what holds of the part
abbrev pub IsShown : Bool → Frames → Part → Type 0
IsShown passed f p = (next_at f.inner ≡ Some p) × IsPart (part_of p) × (shows passed (part_of p) ≡ true)

-- none does
abbrev pub IsHidden : Bool → Frames → Type 0
IsHidden passed f = MatchOption (next_at f.inner) (Unit {0}) (λ p. IsPart (part_of p) × (shows passed (part_of p) ≡ false))

-- something of the part comes to which the places lead, or nothing is left
abbrev pub IsTrim : Bool → Frames → Type 0
IsTrim passed f = MatchOption (next_at f.inner) (outer_parts f.outer.items ≡ []) (λ p. comes passed (part_of p) ≡ true)

-- how many steps lead to the end
abbrev pub frame_steps : Frame → ℕ
frame_steps f = length (arc_value f.body).items - f.at

abbrev pub outer_steps : List Frame → ℕ
outer_steps [] = 0
outer_steps (f ∷ fs) = 1 + frame_steps f + outer_steps fs

abbrev pub steps_left : Frames → ℕ
steps_left f = frame_steps f.inner + outer_steps f.outer.items

-- ---- gathered

-- all of these are runs alone, which were put behind what had been gathered
abbrev pub PassesAll : List Part → (before after : Body) → Type 0
PassesAll ps before after =
    (b : Body) → (append after (leading b) ≡ append before (leading (append (parts_of ps) b))) × (after_parts (append (parts_of ps) b) ≡ after_parts b)

-- the sets and folds up to this control statement were put behind what had been gathered
abbrev pub StopsAt : List Part → (before after : Body) → Meaning → Type 0
StopsAt ps before after m =
    (b : Body) → (after ≡ append before (leading (append (parts_of ps) b))) × (condition_of m.control ≡ test_of (after_parts (append (parts_of ps) b)))
