-- What happens on a way, in parts.
use Rattle.std.proofs.Common.{◌≡◌, ◌+◌, ◌/◌, ◌%◌, ℕ, List, [], ◌∷◌, ◌++◌, length, map, sym, ap, subst, ◌∙◌, arith}
use Rattle.std.specs.Prelude.{Bool, true, false, if◌then◌else◌, Some}
use Rattle.std.specs.List.{range_with_len}
use Rattle.std.proofs.lemmas.List.{append_assoc, map-append, length-append}
use Rattle.std.proofs.lemmas.List.FromFn.{map-range_with_len_more}
use Rattle.ot_model.specs.Tree.{E, S, Set, Fold, If, Task, Group, Body, Next, size, size_one, cell_at}
use Rattle.ot_model.specs.Names.{OneNamedIn, ValueNamedIn}
use Rattle.ot_model.specs.declared.expr.Cell.{Cell}
use Rattle.ot_model.specs.declared.expr.Section.{Section}
use Rattle.ot_model.specs.declared.fold.Fold.{Fold as Operation}
use Rattle.ot_model.specs.declared.stmt.Mode.TheVariants.{Reads, Writes}
use Rattle.ot_model.specs.declared.stmt.Use.{Use}
use Rattle.ot_check.specs.Offences.{use_as, Declared}
use Rattle.ot_race.specs.Events.{Event, event, Touches, Begins, Leaves}
use Rattle.ot_race_ways.specs.Known.{number_in_value, may_read}
use Rattle.ot_race_ways.specs.Ways.{ways, ways_one, turn}
use Rattle.ot_race_ways.specs.Numbered.{events_on, events_on_one, tasks_on, tasks_on_one, turns_on, turns_on_one, takes_first, left_for_second}
use Rattle.ot_race_ways.specs.declared.verdict.Turn.{Turn}
use Rattle.ot_race_ways.proofs.BranchLemmas.{if_met, if_unmet}

-- one list behind another, and a third behind both
pub join_events : {A : Type 0} (ps qs rs xs ys : List A) → qs ≡ ps ++ xs → rs ≡ qs ++ ys → rs ≡ ps ++ (xs ++ ys)
join_events ps qs rs xs ys one two = two ∙ ap (λ l. l ++ ys) one ∙ append_assoc ps xs ys

-- ---- sections

-- the value of a statement whose cells are in a shape
pub of_set : (lens : List ℕ) (s : S) (c : Cell) (e : E) → s ≡ Set c e → OneNamedIn lens s → ValueNamedIn lens e
of_set lens s c e is h = (subst (OneNamedIn lens) is h).1

pub of_fold : (lens : List ℕ) (s : S) (o : Operation) (c : Cell) (e : E) → s ≡ Fold o c e → OneNamedIn lens s → ValueNamedIn lens e
of_fold lens s o c e is h = (subst (OneNamedIn lens) is h).1

pub of_if : (lens : List ℕ) (s : S) (e : E) (a b : Body) → s ≡ If e a b → OneNamedIn lens s → ValueNamedIn lens e
of_if lens s e a b is h = (subst (OneNamedIn lens) is h).0

pub section_more : (s : Section) (i : ℕ) (es fs us : List Use) → fs ≡ es ++ map (use_as Reads) (map (cell_at s) (range_with_len 0 i))
    → us ≡ fs ++ use_as Reads (cell_at s i) ∷ [] → us ≡ es ++ map (use_as Reads) (map (cell_at s) (range_with_len 0 (i + 1)))
section_more s i es fs us so_far one =
    let here : 0 + i ≡ i = omega arith in
    let more : map (use_as Reads) (map (cell_at s) (range_with_len 0 (i + 1)))
    ≡ map (use_as Reads) (map (cell_at s) (range_with_len 0 i)) ++ use_as Reads (cell_at s i) ∷ [] =
    ap (map (use_as Reads)) (map-range_with_len_more (cell_at s) 0 i i here) ∙ map-append (use_as Reads) (map (cell_at s) (range_with_len 0 i)) (cell_at s i ∷ []) in
    join_events es fs us _ _ so_far one ∙ ap (λ l. es ++ l) (sym more)

-- ---- a statement, and then the rest

pub events_loop : (es new all : List Event) (own : Declared) (me k left w st : ℕ) (x : S) (more b : Body) (t u : ℕ)
    → b ≡ Next x more → es ++ events_on left own me k b t ≡ all → new ≡ es ++ events_on_one (left % w) own me k x t
    → u ≡ t + tasks_on_one (left % w) x → w ≡ ways_one x → st ≡ size_one x → new ++ events_on (left / w) own me (k + st) more u ≡ all
events_loop es new all own me k left w st x more b t u split so_far is behind ways_are sizes_are =
    let one : events_on_one (left % w) own me k x t ≡ events_on_one (left % ways_one x) own me k x t = ap (λ v. events_on_one (left % v) own me k x t) ways_are in
    let at : u ≡ t + tasks_on_one (left % ways_one x) x = behind ∙ ap (λ v. t + tasks_on_one (left % v) x) ways_are in
    let two : events_on (left / w) own me (k + st) more u ≡ events_on (left / ways_one x) own me (k + size_one x) more (t + tasks_on_one (left % ways_one x) x) =
    ap (λ v. events_on (left / v) own me (k + st) more u) ways_are ∙ ap (λ m. events_on (left / ways_one x) own me (k + m) more u) sizes_are
    ∙ ap (events_on (left / ways_one x) own me (k + size_one x) more) at in
    ap (λ l. l ++ events_on (left / w) own me (k + st) more u) (is ∙ ap (λ l. es ++ l) one)
    ∙ append_assoc es (events_on_one (left % ways_one x) own me k x t) _
    ∙ ap (λ l. es ++ (events_on_one (left % ways_one x) own me k x t ++ l)) two
    ∙ sym (ap (λ b. es ++ events_on left own me k b t) split) ∙ so_far

pub turns_loop : (ts new all : List Turn) (k left w st : ℕ) (x : S) (more b : Body)
    → b ≡ Next x more → ts ++ turns_on left k b ≡ all → new ≡ ts ++ turns_on_one (left % w) k x
    → w ≡ ways_one x → st ≡ size_one x → new ++ turns_on (left / w) (k + st) more ≡ all
turns_loop ts new all k left w st x more b split so_far is ways_are sizes_are =
    let one : turns_on_one (left % w) k x ≡ turns_on_one (left % ways_one x) k x = ap (λ v. turns_on_one (left % v) k x) ways_are in
    let two : turns_on (left / w) (k + st) more ≡ turns_on (left / ways_one x) (k + size_one x) more =
    ap (λ v. turns_on (left / v) (k + st) more) ways_are ∙ ap (λ m. turns_on (left / ways_one x) (k + m) more) sizes_are in
    ap (λ l. l ++ turns_on (left / w) (k + st) more) (is ∙ ap (λ l. ts ++ l) one)
    ∙ append_assoc ts (turns_on_one (left % ways_one x) k x) _
    ∙ ap (λ l. ts ++ (turns_on_one (left % ways_one x) k x ++ l)) two
    ∙ sym (ap (λ b. ts ++ turns_on left k b) split) ∙ so_far

pub tasks_loop : (t u all left w : ℕ) (x : S) (more b : Body) → b ≡ Next x more → t + tasks_on left b ≡ all → u ≡ t + tasks_on_one (left % w) x
    → w ≡ ways_one x → u + tasks_on (left / w) more ≡ all
tasks_loop t u all left w x more b split so_far is ways_are =
    let one : u ≡ t + tasks_on_one (left % ways_one x) x = is ∙ ap (λ v. t + tasks_on_one (left % v) x) ways_are in
    let two : tasks_on (left / w) more ≡ tasks_on (left / ways_one x) more = ap (λ v. tasks_on (left / v) more) ways_are in
    let both : tasks_on left b ≡ tasks_on_one (left % ways_one x) x + tasks_on (left / ways_one x) more = ap (tasks_on left) split in
    omega (arith, one, two, both, so_far)

-- ---- statements with bodies

pub if_first : (es more new : List Event) (own : Declared) (me k n : ℕ) (e : E) (a b : Body) (t u : ℕ) (uses : List Use) (s : S)
    → s ≡ If e a b → more ≡ es ++ event me k Touches uses ∷ [] → uses ≡ map (use_as Reads) (may_read e)
    → new ≡ more ++ events_on n own me (k + 1) a u → u ≡ t → takes_first (number_in_value e) n (ways a) ≡ true → new ≡ es ++ events_on_one n own me k s t
if_first es more new own me k n e a b t u uses s is put reads ran same first =
    let left = left_for_second (number_in_value e) n (ways a) in
    let taken : events_on n own me (k + 1) a u
    ≡ (if takes_first (number_in_value e) n (ways a) then events_on n own me (k + 1) a t else events_on left own me (k + 1 + size a) b t) =
    ap (events_on n own me (k + 1) a) same ∙ sym (if_met (takes_first (number_in_value e) n (ways a)) _ _ first) in
    join_events es more new _ _ put ran ∙ ap (λ l. es ++ event me k Touches uses ∷ l) taken
    ∙ ap (λ u. es ++ event me k Touches u ∷ (if takes_first (number_in_value e) n (ways a) then events_on n own me (k + 1) a t else events_on left own me (k + 1 + size a) b t)) reads
    ∙ sym (ap (λ s. es ++ events_on_one n own me k s t) is)

pub if_second : (es more new : List Event) (own : Declared) (me k n m place : ℕ) (e : E) (a b : Body) (t u : ℕ) (uses : List Use) (s : S)
    → s ≡ If e a b → more ≡ es ++ event me k Touches uses ∷ [] → uses ≡ map (use_as Reads) (may_read e)
    → new ≡ more ++ events_on m own me place b u → u ≡ t → place ≡ k + 1 + size a → m ≡ left_for_second (number_in_value e) n (ways a)
    → takes_first (number_in_value e) n (ways a) ≡ false → new ≡ es ++ events_on_one n own me k s t
if_second es more new own me k n m place e a b t u uses s is put reads ran same place_is left_is second =
    let left = left_for_second (number_in_value e) n (ways a) in
    let taken : events_on m own me place b u
    ≡ (if takes_first (number_in_value e) n (ways a) then events_on n own me (k + 1) a t else events_on left own me (k + 1 + size a) b t) =
    ap (events_on m own me place b) same ∙ ap (λ v. events_on v own me place b t) left_is ∙ ap (λ p. events_on left own me p b t) place_is
    ∙ sym (if_unmet (takes_first (number_in_value e) n (ways a)) _ _ second) in
    join_events es more new _ _ put ran ∙ ap (λ l. es ++ event me k Touches uses ∷ l) taken
    ∙ ap (λ u. es ++ event me k Touches u ∷ (if takes_first (number_in_value e) n (ways a) then events_on n own me (k + 1) a t else events_on left own me (k + 1 + size a) b t)) reads
    ∙ sym (ap (λ s. es ++ events_on_one n own me k s t) is)

pub turns_first : (ts more new : List Turn) (k n : ℕ) (first : Bool) (e : E) (a b : Body) (s : S) → s ≡ If e a b → more ≡ ts ++ turn k first ∷ []
    → first ≡ true → new ≡ more ++ turns_on n (k + 1) a → takes_first (number_in_value e) n (ways a) ≡ true → new ≡ ts ++ turns_on_one n k s
turns_first ts more new k n first e a b s is put told ran taken =
    join_events ts more new _ _ put ran ∙ ap (λ f. ts ++ turn k f ∷ turns_on n (k + 1) a) told
    ∙ ap (λ l. ts ++ l) (sym (if_met (takes_first (number_in_value e) n (ways a)) (turn k true ∷ turns_on n (k + 1) a) _ taken))
    ∙ sym (ap (λ s. ts ++ turns_on_one n k s) is)

pub turns_second : (ts more new : List Turn) (k n m place : ℕ) (first : Bool) (e : E) (a b : Body) (s : S) → s ≡ If e a b → more ≡ ts ++ turn k first ∷ []
    → first ≡ false → new ≡ more ++ turns_on m place b → place ≡ k + 1 + size a → m ≡ left_for_second (number_in_value e) n (ways a)
    → takes_first (number_in_value e) n (ways a) ≡ false → new ≡ ts ++ turns_on_one n k s
turns_second ts more new k n m place first e a b s is put told ran place_is left_is taken =
    let left = left_for_second (number_in_value e) n (ways a) in
    join_events ts more new _ _ put ran ∙ ap (λ f. ts ++ turn k f ∷ turns_on m place b) told
    ∙ ap (λ v. ts ++ turn k false ∷ turns_on v place b) left_is ∙ ap (λ p. ts ++ turn k false ∷ turns_on left p b) place_is
    ∙ ap (λ l. ts ++ l) (sym (if_unmet (takes_first (number_in_value e) n (ways a)) _ (turn k false ∷ turns_on left (k + 1 + size a) b) taken))
    ∙ sym (ap (λ s. ts ++ turns_on_one n k s) is)

pub task_begins : (es more new : List Event) (own : Declared) (me k n child : ℕ) (d : List Use) (b : Body) (t u : ℕ) (uses : List Use) (s : S)
    → s ≡ Task d b → more ≡ es ++ event child k (Begins me d) uses ∷ [] → uses ≡ [] → new ≡ more ++ events_on n (Some d) child (k + 1) b u
    → child ≡ t + 1 → u ≡ t + 1 → new ≡ es ++ events_on_one n own me k s t
task_begins es more new own me k n child d b t u uses s is put none ran child_is same =
    join_events es more new _ _ put ran ∙ ap (λ us. es ++ event child k (Begins me d) us ∷ events_on n (Some d) child (k + 1) b u) none
    ∙ ap (λ v. es ++ event child k (Begins me d) [] ∷ events_on n (Some d) child (k + 1) b v) same
    ∙ ap (λ c. es ++ event c k (Begins me d) [] ∷ events_on n (Some d) c (k + 1) b (t + 1)) child_is
    ∙ sym (ap (λ s. es ++ events_on_one n own me k s t) is)

pub group_ends : (es mid new : List Event) (own : Declared) (me k n count : ℕ) (o : Operation) (cs : List Cell) (b : Body) (t : ℕ) (uses : List Use) (s : S)
    → s ≡ Group o cs b → mid ≡ es ++ events_on n own me (k + 1) b t → new ≡ mid ++ event me k (Leaves count) uses ∷ []
    → uses ≡ map (use_as Writes) cs → count + length es ≡ length mid → new ≡ es ++ events_on_one n own me k s t
group_ends es mid new own me k n count o cs b t uses s is ran put writes counted =
    let inside = events_on n own me (k + 1) b t in
    let long : length mid ≡ length es + length inside = ap length ran ∙ length-append es inside in
    let same : count ≡ length inside = omega (arith, long, counted) in
    join_events es mid new _ _ ran put ∙ ap (λ us. es ++ (inside ++ event me k (Leaves count) us ∷ [])) writes
    ∙ ap (λ m. es ++ (inside ++ event me k (Leaves m) (map (use_as Writes) cs) ∷ [])) same
    ∙ sym (ap (λ s. es ++ events_on_one n own me k s t) is)
