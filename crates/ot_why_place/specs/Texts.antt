-- The parts of a statement as they stand in the text, and the copy of it.
use Rattle.std.specs.Prelude.{ℕ, max, ◌+◌, ◌-◌, ◌∷◌, ◌&&◌, if◌then◌else◌, codes}
use Rattle.serde_json.specs.Data.{Data, array, no_items, item, depth}
use Rattle.serde_json.specs.View.{view}
use Rattle.ot_program.specs.Copies.{Text, SetText, AddText, FoldText, IfText, ForText, Turn, TaskText, WaitText, WaitForText, GroupText, GroupByText, ProgramText, NoForm, Copy, Copies, Done, at, turns, copies}
use Rattle.ot_program.specs.Meanings.{letters, Bindings, size, is_word, is_one, is_two}
use Rattle.ot_program.specs.declared.profile.Profile.{Profile}
use Rattle.ot_why_place.specs.declared.text.Text.{Text as CodeText}
use Rattle.ot_why_place.specs.declared.text.Text.TheVariants as t

-- ---- what the code's values stand for

abbrev pub text_by : Profile → CodeText → Text
text_by profile (t.Set a b) = SetText (view a.now) (view b.now)
text_by profile (t.Add a b) = AddText (view a.now) (view b.now)
text_by profile (t.Fold op a b) = FoldText (view op.now) (view a.now) (view b.now)
text_by profile (t.If a b c) = IfText (view a.now) (view b.now) (view c.now)
text_by profile (t.For a b c d) = ForText (view a.now) (view b.now) (view c.now) (view d.now)
text_by profile t.Turn = Turn
text_by profile (t.Task a b) = TaskText profile (view a.now) (view b.now)
text_by profile t.Wait = WaitText
text_by profile (t.WaitFor a) = WaitForText (view a.now)
text_by profile (t.Group a b) = GroupText (view a.now) (view b.now)
text_by profile (t.GroupBy op a b) = GroupByText (view op.now) (view a.now) (view b.now)
text_by profile (t.Program a b) = ProgramText (view a.now) (view b.now)
text_by profile t.None = NoForm

-- how deep the deeper of its bodies nests
abbrev pub body_depth : CodeText → ℕ
body_depth (t.If a b c) = max (depth (view b.now)) (depth (view c.now))
body_depth (t.For a b c d) = depth (view d.now)
body_depth (t.Task a b) = depth (view b.now)
body_depth (t.Group a b) = depth (view b.now)
body_depth (t.GroupBy op a b) = depth (view b.now)
body_depth text = 0

-- ---- the parts, by how many items there are

abbrev pub of_one : Data → Text
of_one t = if is_word t (codes "wait") then WaitText else NoForm

abbrev pub of_two : Profile → Data → Data → Text
of_two profile t a = if is_two profile && is_word t (codes "wait") then WaitForText a else NoForm

abbrev pub of_three : Profile → Data → Data → Data → Text
of_three profile t a b =
    if is_word t (codes "set") then SetText a b else
    (if is_word t (codes "add") then AddText a b else
    (if is_word t (codes "task") then TaskText profile a b else
    (if is_one profile && is_word t (codes "group") then GroupText a b else NoForm)))

abbrev pub of_four : Profile → Data → Data → Data → Data → Text
of_four profile t a b c =
    if is_two profile && is_word t (codes "fold") then FoldText a b c else
    (if is_two profile && is_word t (codes "group") then GroupByText a b c else
    (if is_word t (codes "if") then IfText a b c else NoForm))

abbrev pub of_five : Data → Data → Data → Data → Data → Text
of_five t a b c d = if is_word t (codes "for") then ForText a b c d else NoForm

abbrev pub text_at : Profile → Data → Text
text_at profile (array (item t no_items)) = of_one t
text_at profile (array (item t (item a no_items))) = of_two profile t a
text_at profile (array (item t (item a (item b no_items)))) = of_three profile t a b
text_at profile (array (item t (item a (item b (item c no_items))))) = of_four profile t a b c
text_at profile (array (item t (item a (item b (item c (item d no_items)))))) = of_five t a b c d
text_at profile _ = NoForm

-- ---- the copy

abbrev pub first_copies : Profile → ℕ → Bindings → Text → Copies
first_copies profile level variables (IfText a b c) = copies profile (level + 1) b variables
first_copies profile level variables (ForText a b c d) =
    turns level variables (λ n. copies profile (level + 1) d ((letters a, n) ∷ variables)) (size variables b) (size variables c - size variables b)
first_copies profile level variables (TaskText own a b) = copies profile (level + 1) b variables
first_copies profile level variables (GroupText a b) = copies profile (level + 1) b variables
first_copies profile level variables (GroupByText op a b) = copies profile (level + 1) b variables
first_copies profile level variables text = Done

abbrev pub second_copies : Profile → ℕ → Bindings → Text → Copies
second_copies profile level variables (IfText a b c) = copies profile (level + 1) c variables
second_copies profile level variables text = Done

abbrev pub copy_by : Profile → ℕ → Bindings → Text → Copy
copy_by profile level variables text = at level variables text (first_copies profile level variables text) (second_copies profile level variables text)
