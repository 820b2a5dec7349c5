-- How a task goes over its body, on any way, where nothing in the body is an offence.
use Rattle.std.proofs.Common.{◌≡◌, ℕ, zero, suc, ◌+◌, ◌<◌, ◌≤◌, Bool, true, false, not, ◌||◌, List, [], ◌∷◌, ◌++◌, length, map, inl, inr, refl, sym, subst, ◌∙◌, true≢false, arith}
use Rattle.std.specs.Prelude.{Some, None, Contains, slice_get}
use Rattle.std.specs.List.{list_any}
use Rattle.std.proofs.lemmas.Bool.{cases_Bool, cases_lt}
use Rattle.std.proofs.lemmas.List.Elements.{Contains-append_left, Contains-append_right, Contains-append_cases}
use Rattle.std.proofs.lemmas.Option.{slice_get_within}
use Rattle.ot_model.specs.Tree.{E, S, Set, Fold, If, Task, Wait, Group, Body, End, Next, size, size_one, cells_named}
use Rattle.ot_model.specs.Serial.{State, bump, either}
use Rattle.ot_model.specs.declared.expr.Cell.{Cell}
use Rattle.ot_model.specs.declared.fold.Fold.{Fold as Operation}
use Rattle.ot_model.specs.declared.stmt.Mode.{Mode}
use Rattle.ot_model.specs.declared.stmt.Mode.TheVariants.{Reads, Writes, Folds}
use Rattle.ot_model.specs.declared.stmt.Use.{Use}
use Rattle.ot_check.specs.Offences.{Touch, use_as, touches, Declared, Openings, allows, awaits, clashes, opened_by_any}
use Rattle.ot_check.specs.Discipline.{Children, anyone, nobody, nothing_open, behind, behind_one, through, through_one, with_group, may_break, is_marked, ends_with_children, IsClean, IsFineInside, IsFine, IsHarmless}
use Rattle.ot_check.specs.declared.fault.Offence.{Offence}
use Rattle.ot_check.specs.declared.fault.Offence.TheVariants.{NotDeclared, ChildBeyond, ReductionMisuse, ConflictsWithChild, EndsWithChildren}
use Rattle.ot_race.specs.Events.{Event, event, Way, Touches, Begins, Awaits, Leaves, fold_as, uses_by, events, events_one, events_of, after_one, beginning}
use Rattle.ot_race.specs.Order.{IsBy, Does, InTurn, ByCreation, IsBefore, Once}
use Rattle.ot_race.specs.Races.{IsUsed}
use Rattle.ot_race.specs.Standings.{IsKnownTo}
use Rattle.ot_race_order.specs.declared.order.Order.TheVariants.{OfLanguage}
use Rattle.ot_race_ways.specs.Known.{may_read}
use Rattle.ot_race_ways.specs.Ways.{way_by}
use Rattle.ot_race_ways.proofs.RunLemmas.{may_be_used}
use Rattle.ot_race_ways.specs.Verdicts.{NoWayRaces}
use Rattle.ot_race.proofs.OrderLemmas.{some_is, is_by, before_trans}
use Rattle.ot_check.proofs.Cited.{or_false_left, or_false_right, not_false, any-map, true_or, or_right, is_offence-ChildBeyond, is_offence-ReductionMisuse, is_offence-Group}
use Rattle.ot_law_raceless.proofs.PlaceLemmas.{StandsAt, stands_first, stands_rest, stands_left, stands_right, end_of_both, end_of_more, either_of}
use Rattle.ot_law_raceless.proofs.FitLemmas.{and_met, Setting, root_setting, child_setting, Fits, IsFree, free_from, free_fold, fold_allowed, fits_inside, setting_inside}
use Rattle.ot_law_raceless.proofs.KnownLemmas.{AreGathered, Goes, goes_nowhere, goes_on, goes_with_more}
use Rattle.ot_law_raceless.proofs.StepLemmas.{knows_itself, UsesNothing, IsWait, goes_touch, goes_wait, goes_task, goes_group}

-- ---- events at their places

what_is_used : (es : List Event) (n : ℕ) (e : Event) (c : Cell) (mode : Mode) → slice_get es n ≡ Some e → IsUsed es c mode n → Contains e.uses (use_as mode c)
what_is_used es n e c mode at used = subst (λ (x : Event). Contains x.uses (use_as mode c)) (some_is used.it e (sym used.there ∙ at)) used.uses

in_none : {A : Type 0} (x : A) → Contains [] x → ⊥
in_none x (k, l, e) = omega (arith, l)

nothing_used : (es : List Event) (n : ℕ) (e : Event) → slice_get es n ≡ Some e → e.uses ≡ [] → UsesNothing es n
nothing_used es n e at none = λ c mode used.
    in_none (use_as mode c) (subst (λ us. Contains us (use_as mode c)) none (what_is_used es n e c mode at used))

-- ---- what comes behind an event of the task

behind_own : (es : List Event) (me p n j : ℕ) → IsBy es me p → p < n → IsBy es me n → j ≡ n → IsBefore es p j
behind_own es me p n j done less also same = subst (IsBefore es p) (sym same) (Once p n (InTurn me p n done less also))

mutual
  begun_one : (es : List Event) (way : Way) (own : Declared) (me k : ℕ) (x : S) (s : State) (n p : ℕ) → StandsAt es n (events_one way own me k x s)
      → IsBy es me p → p < n → (j : ℕ) → n ≤ j → j < n + length (events_one way own me k x s) → IsBefore es p j
  begun_one es way own me k (Set c e) s n p stands done less j above below =
      behind_own es me p n j done less (is_by es n _ (stands_first es n _ [] stands)) (omega (arith, above, below))
  begun_one es way own me k (Fold o c e) s n p stands done less j above below =
      behind_own es me p n j done less (is_by es n _ (stands_first es n _ [] stands)) (omega (arith, above, below))
  begun_one es way own me k (If e a b) s n p stands done less j above below =
      let first = event me k Touches (uses_by way own s (If e a b)) in
      let one = events way own me (k + 1) a (bump 0 1 s) in
      let two = events way own me (k + 1 + size a) b (bump 0 1 s) in
      elim (cases_lt n j) [
        | inl later ↦
            either_of (λ part. StandsAt es (n + 1) part → j < n + 1 + length part → IsBefore es p j) (way.condition s e) one two
            (λ at end. begun es way own me (k + 1) a (bump 0 1 s) (n + 1) p at done (omega (arith, less)) j (omega (arith, later)) end)
            (λ at end. begun es way own me (k + 1 + size a) b (bump 0 1 s) (n + 1) p at done (omega (arith, less)) j (omega (arith, later)) end)
            (stands_rest es n first (either (way.condition s e) one two) stands) (omega (arith, below))
        | inr here ↦ behind_own es me p n j done less (is_by es n first (stands_first es n first (either (way.condition s e) one two) stands)) (omega (arith, above, here))
      ]
  begun_one es way own me k (Task d b) s n p stands done less j above below =
      let child = s.tasks + 1 in
      let begins = event child k (Begins me d) [] in
      let part = events way (Some d) child (k + 1) b (bump 1 1 s) in
      let at = stands_first es n begins part stands in
      let does : Does es child (Begins me d) n = record { it = begins; there = at; done_by = refl; does = refl } in
      let created : IsBefore es p n = Once p n (ByCreation me child p n d done less does) in
      elim (cases_lt n j) [
        | inl later ↦
            before_trans es p n j created
            (begun es way (Some d) child (k + 1) b (bump 1 1 s) (n + 1) n (stands_rest es n begins part stands) (is_by es n begins at) (omega arith) j
            (omega (arith, later)) (omega (arith, below)))
        | inr here ↦ let same : n ≡ j = omega (arith, above, here) in subst (IsBefore es p) same created
      ]
  begun_one es way own me k (Wait w) s n p stands done less j above below =
      behind_own es me p n j done less (is_by es n _ (stands_first es n _ [] stands)) (omega (arith, above, below))
  begun_one es way own me k (Group o cs b) s n p stands done less j above below =
      let inside = events way own me (k + 1) b (bump 0 1 s) in
      let leaves = event me k (Leaves (length inside)) (map (use_as Writes) cs) in
      let both = end_of_both n inside (leaves ∷ []) in
      elim (cases_lt j (n + length inside)) [
        | inl early ↦ begun es way own me (k + 1) b (bump 0 1 s) n p (stands_left es n inside (leaves ∷ []) stands) done less j above early
        | inr late ↦
            behind_own es me p (n + length inside) j done (omega (arith, less))
            (is_by es (n + length inside) leaves (stands_first es (n + length inside) leaves [] (stands_right es n inside (leaves ∷ []) stands)))
            (omega (arith, late, below, both))
      ]

  begun : (es : List Event) (way : Way) (own : Declared) (me k : ℕ) (b : Body) (s : State) (n p : ℕ) → StandsAt es n (events way own me k b s)
      → IsBy es me p → p < n → (j : ℕ) → n ≤ j → j < n + length (events way own me k b s) → IsBefore es p j
  begun es way own me k End s n p stands done less j above below = absurd (omega (arith, above, below))
  begun es way own me k (Next x rest) s n p stands done less j above below =
      let one = events_one way own me k x s in
      let later = events way own me (k + size_one x) rest (after_one way x s) in
      let both = end_of_both n one later in
      elim (cases_lt j (n + length one)) [
        | inl early ↦ begun_one es way own me k x s n p (stands_left es n one later stands) done less j above early
        | inr late ↦
            begun es way own me (k + size_one x) rest (after_one way x s) (n + length one) p (stands_right es n one later stands) done (omega (arith, less)) j late
            (omega (arith, below, both))
      ]

-- ---- waits

wait_within : (es : List Event) (me : ℕ) (uses : List Use) (n m from until : ℕ) → from ≤ n → m ≤ until → IsWait es me uses n m → IsWait es me uses from until
wait_within es me uses n m from until low high w = record {
  at = w.at;
  wait = w.wait;
  late = (let l = w.late in omega (arith, l, low));
  early = (let l = w.early in omega (arith, l, high));
  does = w.does;
  awaited = w.awaited;
}

mutual
  waits_one : (es : List Event) (way : Way) (own : Declared) (me k : ℕ) (x : S) (s : State) (n : ℕ) (uses : List Use)
      → StandsAt es n (events_one way own me k x s) → through_one uses x ≡ false → IsWait es me uses n (n + length (events_one way own me k x s))
  waits_one es way own me k (Set c e) s n uses stands h = absurd (true≢false h)
  waits_one es way own me k (Fold o c e) s n uses stands h = absurd (true≢false h)
  waits_one es way own me k (If e a b) s n uses stands h =
      let first = event me k Touches (uses_by way own s (If e a b)) in
      let one = events way own me (k + 1) a (bump 0 1 s) in
      let two = events way own me (k + 1 + size a) b (bump 0 1 s) in
      let part = either (way.condition s e) one two in
      wait_within es me uses (n + 1) (n + 1 + length part) n (n + length (first ∷ part)) (omega arith) (omega arith)
      (either_of (λ part. StandsAt es (n + 1) part → IsWait es me uses (n + 1) (n + 1 + length part)) (way.condition s e) one two
      (λ at. waits es way own me (k + 1) a (bump 0 1 s) (n + 1) uses at (or_false_left (through uses a) (through uses b) h))
      (λ at. waits es way own me (k + 1 + size a) b (bump 0 1 s) (n + 1) uses at (or_false_right (through uses a) (through uses b) h))
      (stands_rest es n first part stands))
  waits_one es way own me k (Task d b) s n uses stands h = absurd (true≢false h)
  waits_one es way own me k (Wait w) s n uses stands h = record {
    at = n;
    wait = w;
    late = omega arith;
    early = omega arith;
    does = record { it = event me k (Awaits w) []; there = stands_first es n _ [] stands; done_by = refl; does = refl };
    awaited = not_false (awaits w uses) h;
  }
  waits_one es way own me k (Group o cs b) s n uses stands h =
      let inside = events way own me (k + 1) b (bump 0 1 s) in
      let leaves = event me k (Leaves (length inside)) (map (use_as Writes) cs) in
      let both = end_of_both n inside (leaves ∷ []) in
      wait_within es me uses n (n + length inside) n (n + length (inside ++ leaves ∷ [])) (omega arith) (omega (arith, both))
      (waits es way own me (k + 1) b (bump 0 1 s) n uses (stands_left es n inside (leaves ∷ []) stands) h)

  waits : (es : List Event) (way : Way) (own : Declared) (me k : ℕ) (b : Body) (s : State) (n : ℕ) (uses : List Use)
      → StandsAt es n (events way own me k b s) → through uses b ≡ false → IsWait es me uses n (n + length (events way own me k b s))
  waits es way own me k End s n uses stands h = absurd (true≢false h)
  waits es way own me k (Next x rest) s n uses stands h =
      let one = events_one way own me k x s in
      let later = events way own me (k + size_one x) rest (after_one way x s) in
      let both = end_of_both n one later in
      elim (cases_Bool (through_one uses x)) [
        | inl past ↦
            wait_within es me uses (n + length one) (n + length one + length later) n (n + length (one ++ later)) (omega arith) (omega (arith, both))
            (waits es way own me (k + size_one x) rest (after_one way x s) (n + length one) uses (stands_right es n one later stands)
            (and_met (through_one uses x) (through uses rest) past h))
        | inr here ↦
            wait_within es me uses n (n + length one) n (n + length (one ++ later)) (omega arith) (omega (arith, both))
            (waits_one es way own me k x s n uses (stands_left es n one later stands) here)
      ]

-- ---- what is no offence

none_at : {A : Type 0} (test : A → Bool) (xs : List A) (x : A) → list_any test xs ≡ false → Contains xs x → test x ≡ false
none_at test [] x h (k, l, e) = absurd (omega (arith, l))
none_at test (y ∷ xs) x h (zero, l, e) = subst (λ z. test z ≡ false) e (or_false_left (test y) (list_any test xs) h)
none_at test (y ∷ xs) x h (suc k, l, e) = none_at test xs x (or_false_right (test y) (list_any test xs) h) (k, omega (arith, l), e)

harmless : (own : Declared) (opened : Openings) (children : Children) (uses : List Use) (u : Use)
    → ((offence : Offence) → list_any (λ m. may_break own opened children m offence) (map Touch uses) ≡ false) → Contains uses u → IsHarmless own opened children u
harmless own opened children uses u h there = λ offence.
    none_at (λ u. may_break own opened children (Touch u) offence) uses u (sym (any-map (λ m. may_break own opened children m offence) Touch uses) ∙ h offence) there

-- such a use the body declares, and no child that may be unawaited is let use the cell in conflict
abbrev MayUse : Declared → Openings → Children → Use → Type 0
MayUse own opened children u = IsFree own opened children u.cell u.mode × (allows own u ≡ true)

may_use : (own : Declared) (opened : Openings) (children : Children) (u : Use) → IsHarmless own opened children u → MayUse own opened children u
may_use own opened children u h = (free_from own opened children u.cell u.mode (h ConflictsWithChild), not_false (allows own u) (h NotDeclared))

itself : {A : Type 0} (x : A) → Contains (x ∷ []) x
itself x = (zero, (let l : 0 < length (x ∷ []) = omega arith in l), refl)

only : {A : Type 0} (x y : A) → Contains (x ∷ []) y → x ≡ y
only x y (zero, l, e) = e
only x y (suc k, l, e) = absurd (omega (arith, l))

-- what a set uses, and what it touches by what it names
touched_by_set : (c : Cell) (e : E) (u : Use) → Contains (map (use_as Reads) (may_read e) ++ use_as Writes c ∷ []) u → Contains (touches (Set c e)) u
touched_by_set c e u there = elim (Contains-append_cases (map (use_as Reads) (may_read e)) (use_as Writes c ∷ []) u there) [
  | inl read ↦ Contains-append_left (map (use_as Reads) (cells_named e)) (use_as Writes c ∷ []) u (may_be_used e u read)
  | inr written ↦ Contains-append_right (map (use_as Reads) (cells_named e)) (use_as Writes c ∷ []) u written
]

-- what a fold uses, as it is held
may_fold : (own : Declared) (opened : Openings) (children : Children) (o : Operation) (c : Cell) (e : E) → IsClean own opened children (Fold o c e) → (u : Use)
    → Contains (map (use_as Reads) (may_read e) ++ use_as (fold_as own o c) c ∷ []) u → MayUse own opened children u
may_fold own opened children o c e clean u there =
    let reads = map (use_as Reads) (cells_named e) in
    let each : (v : Use) → Contains (touches (Fold o c e)) v → IsHarmless own opened children v = λ v in_it.
    harmless own opened children (touches (Fold o c e)) v
    (λ offence. or_false_left (is_marked own opened children (Fold o c e) offence) (ends_with_children (Fold o c e) offence) (clean offence)) in_it in
    elim (Contains-append_cases (map (use_as Reads) (may_read e)) (use_as (fold_as own o c) c ∷ []) u there) [
      | inl read ↦ may_use own opened children u (each u (Contains-append_left reads (use_as (Folds o) c ∷ []) u (may_be_used e u read)))
      | inr folded ↦
          let fold = each (use_as (Folds o) c) (Contains-append_right reads (use_as (Folds o) c ∷ []) (use_as (Folds o) c) (itself (use_as (Folds o) c))) in
          subst (MayUse own opened children) (only (use_as (fold_as own o c) c) u folded)
          (free_fold own opened children o c fold, fold_allowed own o c (not_false (allows own (use_as (Folds o) c)) (fold NotDeclared)))
    ]

-- what the end of a group writes
may_leave : (own : Declared) (opened : Openings) (children : Children) (cells : List Cell)
    → list_any (λ c. children (clashes (use_as Writes c))) cells ≡ false
    → list_any (λ c. not (allows own (use_as Writes c)) || opened_by_any opened c) cells ≡ false → (u : Use)
    → Contains (map (use_as Writes) cells) u → MayUse own opened children u
may_leave own opened children cells free clean u there =
    let writes = map (use_as Writes) cells in (
      free_from own opened children u.cell u.mode
          (none_at (λ v. children (clashes v)) writes u (any-map (λ v. children (clashes v)) (use_as Writes) cells ∙ free) there),
      not_false (allows own u)
          (or_false_left (not (allows own u)) (opened_by_any opened u.cell)
          (none_at (λ v. not (allows own v) || opened_by_any opened v.cell) writes u
          (any-map (λ v. not (allows own v) || opened_by_any opened v.cell) (use_as Writes) cells ∙ clean) there)),
    )

-- ---- bodies

-- the event of a statement that uses what it may
goes_using : (es : List Event) (me : ℕ) (own : Declared) (opened : Openings) (children : Children) (from n : ℕ) (e : Event)
    → AreGathered es me own opened children from n → slice_get es n ≡ Some e → e.task ≡ me → ((u : Use) → Contains e.uses u → MayUse own opened children u)
    → Goes es me own opened children from n (n + 1)
goes_using es me own opened children from n e gathered at by may =
    goes_touch es me own opened children from n gathered (record { it = e; there = at; done_by = by })
    (λ c mode used. may (use_as mode c) (what_is_used es n e c mode at used))

-- a task that has begun
begun_known : (es : List Event) (child n : ℕ) (own : Declared) (opened : Openings) (children : Children) → IsBy es child n
    → AreGathered es child own opened children n (n + 1)
begun_known es child n own opened children done = λ i above below.
    let same : n ≡ i = omega (arith, above, below) in
    inl (subst (IsKnownTo es (n + 1) child) same (knows_itself es child n (n + 1) (omega arith) done))

-- children that were held before a group are held in it
entered : (es : List Event) (me : ℕ) (own : Declared) (opened : Openings) (children : Children) (o : Operation) (cells : List Cell) (from n : ℕ)
    → list_any (λ c. children (clashes (use_as Writes c))) cells ≡ false → AreGathered es me own opened children from n
    → AreGathered es me own (with_group opened o cells) children from n
entered es me own opened children o cells from n free gathered = λ i low below. elim (gathered i low below) [
  | inl known ↦ inl known
  | inr held ↦ inr (record {
    child = held.child;
    begin = held.begin;
    last = held.last;
    uses = held.uses;
    early = held.early;
    does = held.does;
    late = held.late;
    done = held.done;
    reached = held.reached;
    among = held.among;
    fits = fits_inside own opened children o cells held.uses held.among free held.fits;
    covered = held.covered;
  })
]

mutual
  goes_one : (es : List Event) (condition : State → E → ℕ) (own : Declared) (me k : ℕ) (x : S) (s : State) (opened : Openings) (children : Children)
      (from n : ℕ) → Setting own opened → IsClean own opened children x → IsFineInside own opened children x
      → StandsAt es n (events_one (way_by condition) own me k x s) → AreGathered es me own opened children from n
      → Goes es me own opened (behind_one children x) from n (n + length (events_one (way_by condition) own me k x s))
  goes_one es condition own me k (Set c e) s opened children from n setting clean fine stands gathered =
      let it = event me k Touches (uses_by (way_by condition) own s (Set c e)) in
      goes_using es me own opened children from n it gathered (stands_first es n it [] stands) refl
      (λ u there. may_use own opened children u
      (harmless own opened children (touches (Set c e)) u (λ offence. or_false_left (is_marked own opened children (Set c e) offence) (ends_with_children (Set c e) offence) (clean offence)) (touched_by_set c e u there)))
  goes_one es condition own me k (Fold o c e) s opened children from n setting clean fine stands gathered =
      let it = event me k Touches (uses_by (way_by condition) own s (Fold o c e)) in
      goes_using es me own opened children from n it gathered (stands_first es n it [] stands) refl (may_fold own opened children o c e clean)
  goes_one es condition own me k (If e a b) s opened children from n setting clean fine stands gathered =
      let way = way_by condition in
      let it = event me k Touches (uses_by way own s (If e a b)) in
      let one = events way own me (k + 1) a (bump 0 1 s) in
      let two = events way own me (k + 1 + size a) b (bump 0 1 s) in
      let part = either (way.condition s e) one two in
      let test = goes_using es me own opened children from n it gathered (stands_first es n it part stands) refl
      (λ u there. may_use own opened children u
      (harmless own opened children (touches (If e a b)) u (λ offence. or_false_left (is_marked own opened children (If e a b) offence) (ends_with_children (If e a b) offence) (clean offence)) (may_be_used e u there))) in
      let branch = either_of (λ part. StandsAt es (n + 1) part → Goes es me own opened (behind_one children (If e a b)) from (n + 1) (n + 1 + length part))
      (way.condition s e) one two
      (λ at. goes_with_more es me own opened (behind children a) (behind_one children (If e a b)) from (n + 1) (n + 1 + length one)
      (λ uses among test passes. true_or (behind children a test) (behind children b test) (among test passes))
      (goes es condition own me (k + 1) a (bump 0 1 s) opened children from (n + 1) setting fine.0 at test.gathered))
      (λ at. goes_with_more es me own opened (behind children b) (behind_one children (If e a b)) from (n + 1) (n + 1 + length two)
      (λ uses among test passes. or_right (behind children a test) (behind children b test) (among test passes))
      (goes es condition own me (k + 1 + size a) b (bump 0 1 s) opened children from (n + 1) setting fine.1 at test.gathered))
      (stands_rest es n it part stands) in
      subst (Goes es me own opened (behind_one children (If e a b)) from n) (end_of_more n it part)
      (goes_on es me own opened children (behind_one children (If e a b)) from n (n + 1) (n + 1 + length part) test branch)
  goes_one es condition own me k (Task d b) s opened children from n setting clean fine stands gathered =
      let way = way_by condition in
      let child = s.tasks + 1 in
      let begins = event child k (Begins me d) [] in
      let part = events way (Some d) child (k + 1) b (bump 1 1 s) in
      let at = stands_first es n begins part stands in
      let rest = stands_rest es n begins part stands in
      let does : Does es child (Begins me d) n = record { it = begins; there = at; done_by = refl; does = refl } in
      let fits : Fits own opened d = record {
        within = sym (is_offence-ChildBeyond own opened children d b) ∙ clean ChildBeyond;
        fitting = sym (is_offence-ReductionMisuse own opened children d b) ∙ clean ReductionMisuse;
      } in
      let inner = goes es condition (Some d) child (k + 1) b (bump 1 1 s) nothing_open nobody n (n + 1) (child_setting own opened d setting fits) fine rest
      (begun_known es child n (Some d) nothing_open nobody (is_by es n begins at)) in
      subst (Goes es me own opened (behind_one children (Task d b)) from n) (end_of_more n begins part)
      (goes_task es me child own opened children d b from n (n + 1 + length part) setting fits
      (or_false_right (is_marked own opened children (Task d b) EndsWithChildren) (behind nobody b anyone) (clean EndsWithChildren)) gathered does
      (nothing_used es n begins at refl)
      (λ j later below. begun es way (Some d) child (k + 1) b (bump 1 1 s) (n + 1) n rest (is_by es n begins at) (omega arith) j (omega (arith, later)) below)
      (omega arith) inner)
  goes_one es condition own me k (Wait w) s opened children from n setting clean fine stands gathered =
      let it = event me k (Awaits w) [] in
      let at = stands_first es n it [] stands in
      goes_wait es me own opened children w from n gathered (record { it = it; there = at; done_by = refl; does = refl }) (nothing_used es n it at refl)
  goes_one es condition own me k (Group o cs b) s opened children from n setting clean fine stands gathered =
      let way = way_by condition in
      let inside = events way own me (k + 1) b (bump 0 1 s) in
      let leaves = event me k (Leaves (length inside)) (map (use_as Writes) cs) in
      let at_inside = stands_left es n inside (leaves ∷ []) stands in
      let at = stands_first es (n + length inside) leaves [] (stands_right es n inside (leaves ∷ []) stands) in
      let free = sym (is_offence-Group own opened children o cs b ConflictsWithChild) ∙ clean ConflictsWithChild in
      let may = sym (is_offence-Group own opened children o cs b ReductionMisuse) ∙ clean ReductionMisuse in
      let inner = goes es condition own me (k + 1) b (bump 0 1 s) (with_group opened o cs) children from n (setting_inside own opened o cs setting may) fine
      at_inside (entered es me own opened children o cs from n free gathered) in
      let both = end_of_both n inside (leaves ∷ []) in
      let end : n + length inside + 1 ≡ n + length (inside ++ leaves ∷ []) = omega (arith, both) in
      subst (Goes es me own opened (behind_one children (Group o cs b)) from n) end
      (goes_group es me own opened children o cs b from n (n + length inside) (length inside) gathered (omega arith) (omega arith) inner
      (record { it = leaves; there = at; done_by = refl; does = refl })
      (λ c mode used. may_leave own opened children cs free may (use_as mode c) (what_is_used es (n + length inside) leaves c mode at used))
      (λ uses h. waits es way own me (k + 1) b (bump 0 1 s) n uses at_inside h))

  goes : (es : List Event) (condition : State → E → ℕ) (own : Declared) (me k : ℕ) (b : Body) (s : State) (opened : Openings) (children : Children)
      (from n : ℕ) → Setting own opened → IsFine own opened children b
      → StandsAt es n (events (way_by condition) own me k b s) → AreGathered es me own opened children from n
      → Goes es me own opened (behind children b) from n (n + length (events (way_by condition) own me k b s))
  goes es condition own me k End s opened children from n setting fine stands gathered =
      let same : n ≡ n + 0 = omega arith in
      subst (Goes es me own opened children from n) same (goes_nowhere es me own opened children from n gathered)
  goes es condition own me k (Next x rest) s opened children from n setting fine stands gathered =
      let way = way_by condition in
      let one = events_one way own me k x s in
      let later = events way own me (k + size_one x) rest (after_one way x s) in
      let first = goes_one es condition own me k x s opened children from n setting fine.0 fine.1 (stands_left es n one later stands) gathered in
      let next = goes es condition own me (k + size_one x) rest (after_one way x s) opened (behind_one children x) from (n + length one) setting fine.2
      (stands_right es n one later stands) first.gathered in
      subst (Goes es me own opened (behind children (Next x rest)) from n) (end_of_both n one later)
      (goes_on es me own opened (behind_one children x) (behind children (Next x rest)) from n (n + length one) (n + length one + length later) first next)

-- a body that is fine races on no way
pub fine_races_on_no_way : (body : Body) → IsFine None nothing_open nobody body → NoWayRaces OfLanguage body
fine_races_on_no_way body fine = λ condition cells cell i j race.
    let es = events_of (way_by condition) body cells in
    let whole : StandsAt es 0 es = λ k e is. let at : k ≡ 0 + k = omega arith in subst (λ n. slice_get es n ≡ Some e) at is in
    let all = goes es condition None 0 1 body (beginning cells) nothing_open nobody 0 0 root_setting fine whole
    (λ k low below. absurd (omega (arith, below))) in
    let within : j < length es = slice_get_within es j race.second.it race.second.there in
    race.unordered (all.ordered i j (omega arith) race.order (omega arith) (omega (arith, within)) cell race.one race.other race.first race.second race.conflict)
