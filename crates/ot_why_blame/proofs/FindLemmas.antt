-- That the walks find what there is: of each child that may be unawaited, the walk that carries it tells it.
use Rattle.std.proofs.Common.{◌≡◌, ◌≢◌, ◌<◌, ◌≤◌, ℕ, ◌+◌, Bool, true, false, not, ◌&&◌, ◌||◌, List, [], ◌∷◌, refl, sym, ap, ◌∙◌, subst, inl, inr, arith, true≢false}
use Rattle.std.proofs.lemmas.Bool.Decides.{leb_tells}
use Rattle.std.specs.Prelude.{◌⊎◌, if◌then◌else◌, Option, Some, None}
use Rattle.std.specs.List.{list_any}
use Rattle.std.specs.Option.{option_or}
use Rattle.ot_model.specs.Tree.{S, Set, Fold, If, Task, Wait, Group, Body, End, Next, size, size_one}
use Rattle.ot_model.specs.declared.stmt.Mode.TheVariants.{Writes}
use Rattle.ot_model.specs.declared.stmt.Use.{Use}
use Rattle.ot_check.specs.Offences.{Mark, Touch, Create, Await, Enter, Leave, touches, use_as, Declared, Openings, awaits, clashes, Offends}
use Rattle.ot_check.specs.Discipline.{Children, anyone, nobody, nothing_open, through, through_one, behind, behind_one, with_group, may_break, marks, ends_with_children, is_offence}
use Rattle.ot_check.specs.declared.fault.Offence.{Offence}
use Rattle.ot_check.specs.declared.fault.Offence.TheVariants.{ConflictsWithChild, EndsWithChildren}
use Rattle.ot_check.proofs.Cited.{or_true, true_or, or_right, or_false, and_left, and_right, any-map, Meets, MeetsInside, meets-on_path, meets-in_tasks}
use Rattle.ot_why_blame.specs.Races.{uses_of}
use Rattle.ot_why_blame.specs.Walk.{Pending, only, pending_carried, carried_one, met_statement, met_one, met_inside, inside_of, IsSpared}
use Rattle.ot_why_blame.proofs.FollowLemmas.{here-is, here-not, met-here, met-past, met-first}

-- ---- places

some_size : (x : S) → 0 < size_one x
some_size (Set c e) = omega arith
some_size (Fold o c e) = omega arith
some_size (If e a b) = omega arith
some_size (Task d b) = omega arith
some_size (Wait w) = omega arith
some_size (Group o cs b) = omega arith

-- the child from before, or none
abbrev Stays : Pending → Pending → Type 0
Stays before later = (later ≡ None) ⊎ (later ≡ before)

stays_only : (test : List Use → Bool) (p : Pending) → Stays p (only test p)
stays_only test None = inl refl
stays_only test (Some child) = by_test (test child.1)
  where
    by_test : (b : Bool) → ((if b then Some child else None) ≡ None) ⊎ ((if b then Some child else None) ≡ Some child)
    by_test true = inr refl
    by_test false = inl refl

stays_or : (p one two : Pending) → Stays p one → Stays p two → Stays p (option_or two one)
stays_or p one None first second = first
stays_or p one (Some child) first second = second

stays_on : (p q r : Pending) → Stays p q → Stays q r → Stays p r
stays_on p q r first (inl none) = inl none
stays_on p q r (inl none) (inr same) = inl (same ∙ none)
stays_on p q r (inr is) (inr same) = inr (same ∙ is)

-- no other task is carried where the one doesn't stand
mutual
  stays-one : (task : ℕ) (p : Pending) (k : ℕ) (x : S) → (task < k) ⊎ (k + size_one x ≤ task) → Stays p (carried_one task p k x)
  stays-one task p k (Set c e) out = inr refl
  stays-one task p k (Fold o c e) out = inr refl
  stays-one task p k (If e a b) out =
      stays_or p (pending_carried task p (k + 1) a) (pending_carried task p (k + 1 + size a) b)
      (stays-all task p (k + 1) a (elim out [ inl low ↦ inl (omega (arith, low)) | inr high ↦ inr (omega (arith, high)) ]))
      (stays-all task p (k + 1 + size a) b (elim out [ inl low ↦ inl (omega (arith, low)) | inr high ↦ inr (omega (arith, high)) ]))
  stays-one task p k (Task d b) out =
      let other : k ≢ task = λ is. elim out [ inl low ↦ omega (arith, low, is) | inr high ↦ omega (arith, high, is) ] in
      inr (ap (λ t. if t then Some (k, d) else p) (here-not k task other))
  stays-one task p k (Wait w) out = stays_only (λ d. not (awaits w d)) p
  stays-one task p k (Group o cs b) out = stays_only (λ d. through d b) p

  stays-all : (task : ℕ) (p : Pending) (k : ℕ) (b : Body) → (task < k) ⊎ (k + size b ≤ task) → Stays p (pending_carried task p k b)
  stays-all task p k End out = inr refl
  stays-all task p k (Next x rest) out =
      stays_on p (carried_one task p k x) (pending_carried task (carried_one task p k x) (k + size_one x) rest)
      (stays-one task p k x (elim out [ inl low ↦ inl low | inr high ↦ inr (omega (arith, high)) ]))
      (stays-all task (carried_one task p k x) (k + size_one x) rest (elim out [ inl low ↦ inl (omega (arith, low)) | inr high ↦ inr (omega (arith, high)) ]))

-- one that stands elsewhere isn't carried
pub carried_none : (task k : ℕ) (b : Body) → (task < k) ⊎ (k + size b ≤ task) → pending_carried task None k b ≡ None
carried_none task k b out = elim (stays-all task None k b out) [ inl none ↦ none | inr none ↦ none ]

either_stays : (child : ℕ × List Use) (one two : Bool) →
    option_or (if two then Some child else None) (if one then Some child else None) ≡ (if one || two then Some child else None)
either_stays child true true = refl
either_stays child true false = refl
either_stays child false true = refl
either_stays child false false = refl

after_test : (t : Bool) (task : ℕ) (child : ℕ × List Use) (k : ℕ) (rest : Body) → task < k
    → pending_carried task (Some child) k rest ≡ (if through child.1 rest then Some child else None)
    → pending_carried task (if t then Some child else None) k rest ≡ (if t && through child.1 rest then Some child else None)
after_test true task child k rest below so = so
after_test false task child k rest below so = carried_none task k rest (inl below)

-- behind what comes after it, a child is carried exactly where some path of that doesn't await it
mutual
  after-one : (task : ℕ) (child : ℕ × List Use) (k : ℕ) (x : S) → task < k → carried_one task (Some child) k x ≡ (if through_one child.1 x then Some child else None)
  after-one task child k (Set c e) below = refl
  after-one task child k (Fold o c e) below = refl
  after-one task child k (If e a b) below =
      ap (λ p. option_or p (pending_carried task (Some child) (k + 1) a)) (after-all task child (k + 1 + size a) b (omega (arith, below)))
      ∙ ap (λ p. option_or (if through child.1 b then Some child else None) p) (after-all task child (k + 1) a (omega (arith, below)))
      ∙ either_stays child (through child.1 a) (through child.1 b)
  after-one task child k (Task d b) below =
      let other : k ≢ task = λ is. omega (arith, below, is) in
      ap (λ t. if t then Some (k, d) else Some child) (here-not k task other)
  after-one task child k (Wait w) below = refl
  after-one task child k (Group o cs b) below = refl

  after-all : (task : ℕ) (child : ℕ × List Use) (k : ℕ) (b : Body) → task < k → pending_carried task (Some child) k b ≡ (if through child.1 b then Some child else None)
  after-all task child k End below = refl
  after-all task child k (Next x rest) below =
      ap (λ p. pending_carried task p (k + size_one x) rest) (after-one task child k x below)
      ∙ after_test (through_one child.1 x) task child (k + size_one x) rest (omega (arith, below)) (after-all task child (k + size_one x) rest (omega (arith, below)))

pub carried_after : (task : ℕ) (p : Pending) (k : ℕ) (b : Body) → task < k → pending_carried task p k b ≡ only (λ d. through d b) p
carried_after task None k b below = carried_none task k b (inl below)
carried_after task (Some child) k b below = after-all task child k b below

-- nothing is met where the place isn't
mutual
  none_inside : (place task : ℕ) (p : Pending) (k : ℕ) (x : S) → (place ≤ k) ⊎ (k + size_one x ≤ place) → met_inside place task p k x ≡ None
  none_inside place task p k (Set c e) out = refl
  none_inside place task p k (Fold o c e) out = refl
  none_inside place task p k (If e a b) out =
      ap (λ o. option_or o (met_statement place task p (k + 1 + size a) b)) (none_met place task p (k + 1) a (elim out [ inl low ↦ inl (omega (arith, low)) | inr high ↦ inr (omega (arith, high)) ]))
      ∙ none_met place task p (k + 1 + size a) b (elim out [ inl low ↦ inl (omega (arith, low)) | inr high ↦ inr (omega (arith, high)) ])
  none_inside place task p k (Task d b) out = none_met place task None (k + 1) b (elim out [ inl low ↦ inl (omega (arith, low)) | inr high ↦ inr (omega (arith, high)) ])
  none_inside place task p k (Wait w) out = refl
  none_inside place task p k (Group o cs b) out = none_met place task p (k + 1) b (elim out [ inl low ↦ inl (omega (arith, low)) | inr high ↦ inr (omega (arith, high)) ])

  pub none_met : (place task : ℕ) (p : Pending) (k : ℕ) (b : Body) → (place < k) ⊎ (k + size b ≤ place) → met_statement place task p k b ≡ None
  none_met place task p k End out = refl
  none_met place task p k (Next x rest) out =
      let some = some_size x in
      let other : k ≢ place = λ is. elim out [ inl low ↦ omega (arith, low, is) | inr high ↦ omega (arith, high, is, some) ] in
      ap (λ t. option_or (if t then Some (x, p) else met_inside place task p k x) (met_statement place task (carried_one task p k x) (k + size_one x) rest)) (here-not k place other)
      ∙ ap (λ o. option_or o (met_statement place task (carried_one task p k x) (k + size_one x) rest))
      (none_inside place task p k x (elim out [ inl low ↦ inl (omega (arith, low)) | inr high ↦ inr (omega (arith, high)) ]))
      ∙ none_met place task (carried_one task p k x) (k + size_one x) rest (elim out [ inl low ↦ inl (omega (arith, low)) | inr high ↦ inr (omega (arith, high)) ])

-- ---- all walks together carry all children

-- of each task, whether the walk that carries it does so here
abbrev Walks : Type 0
Walks = ℕ → Pending

abbrev all_one : Walks → ℕ → S → Walks
all_one walks k x task = carried_one task (walks task) k x

abbrev all : Walks → ℕ → Body → Walks
all walks k b task = pending_carried task (walks task) k b

abbrev no_walk : Walks
no_walk task = None

-- each child that passes a test is carried by a walk, and no walk carries a task that hasn't come
pub record Cover (k : ℕ) (children : Children) (walks : Walks) : Type 0 where
  pub some : 0 < k
  pub early : (task : ℕ) (child : ℕ × List Use) → walks task ≡ Some child → (0 < task) × (task < k)
  pub found : (test : List Use → Bool) → children test ≡ true → (task : ℕ) × (child : ℕ × List Use) × (walks task ≡ Some child) × (test child.1 ≡ true)

none_some : (child : ℕ × List Use) → let none : Pending = None in none ≡ Some child → ⊥
none_some child is = cc

same_some : (one two : ℕ × List Use) → let first : Pending = Some one in first ≡ Some two → one ≡ two
same_some one two is = cc

pub cover_nobody : (k : ℕ) → 0 < k → Cover k nobody no_walk
cover_nobody k some = record {
  some = some;
  early = λ task child is. absurd (none_some child is);
  found = λ test is. absurd (true≢false (sym is));
}

-- further on
cover_later : (k n : ℕ) (children : Children) (walks : Walks) → k ≤ n → Cover k children walks → Cover n children walks
cover_later k n children walks further c = record {
  some = omega (arith, further, c.some);
  early = λ task child is. let e = c.early task child is in (e.0, omega (arith, e.1, further));
  found = c.found;
}

-- what is carried at a later place was before, or has come since
early_on : (k n : ℕ) (children : Children) (walks later : Walks) → k ≤ n → Cover k children walks → ((task : ℕ) → (task < k) ⊎ (n ≤ task) → Stays (walks task) (later task)) →
    (task : ℕ) (child : ℕ × List Use) → later task ≡ Some child → (0 < task) × (task < n)
early_on k n children walks later further c stays task child is = elim (leb_tells n task) [
  | inl (test, past) ↦ by_stays (stays task (inr past))
  | inr (test, below) ↦ elim (leb_tells 1 task) [
    | inl (one, some) ↦ (omega (arith, some), omega (arith, below))
    | inr (one, none) ↦ let some = c.some in by_stays (stays task (inl (omega (arith, none, some))))
  ]
]
  where
    by_stays : Stays (walks task) (later task) → (0 < task) × (task < n)
    by_stays (inl gone) = absurd (none_some child (sym gone ∙ is))
    by_stays (inr same) = let e = c.early task child (sym same ∙ is) in (e.0, omega (arith, e.1, further))

-- of two bodies of an `if`
cover_or : (k : ℕ) (children : Children) (walks : Walks) (a b : Body) → Cover k children walks →
    (test : List Use → Bool) → ((task : ℕ) × (child : ℕ × List Use) × (all walks (k + 1) a task ≡ Some child) × (task < k + 1 + size a) × (test child.1 ≡ true)) →
    (task : ℕ) × (child : ℕ × List Use) × (option_or (all walks (k + 1 + size a) b task) (all walks (k + 1) a task) ≡ Some child) × (test child.1 ≡ true)
cover_or k children walks a b c test (task, child, is, below, passes) =
    by_second (all walks (k + 1 + size a) b task) refl (stays-all task (walks task) (k + 1 + size a) b (inl below))
  where
    by_second : (second : Pending) → all walks (k + 1 + size a) b task ≡ second → Stays (walks task) (all walks (k + 1 + size a) b task) →
        (t : ℕ) × (child : ℕ × List Use) × (option_or (all walks (k + 1 + size a) b t) (all walks (k + 1) a t) ≡ Some child) × (test child.1 ≡ true)
    by_second None second stays = (task, child, ap (λ o. option_or o (all walks (k + 1) a task)) second ∙ is, passes)
    by_second (Some other) second (inl gone) = absurd (none_some other (sym gone ∙ second))
    by_second (Some other) second (inr same) =
        let from : walks task ≡ Some other = sym same ∙ second in
        let e = c.early task other from in
        by_first (stays-all task (walks task) (k + 1) a (inl (omega (arith, e.1)))) from
      where
        by_first : Stays (walks task) (all walks (k + 1) a task) → walks task ≡ Some other →
            (t : ℕ) × (child : ℕ × List Use) × (option_or (all walks (k + 1 + size a) b t) (all walks (k + 1) a t) ≡ Some child) × (test child.1 ≡ true)
        by_first (inl gone) from = absurd (none_some child (sym gone ∙ is))
        by_first (inr same) from =
            let one : other ≡ child = same_some other child (sym from ∙ sym same ∙ is) in
            (task, other, ap (λ o. option_or o (all walks (k + 1) a task)) second, ap (λ d. test d.1) one ∙ passes)

only_some : (test : List Use → Bool) (p : Pending) (child : ℕ × List Use) → p ≡ Some child → test child.1 ≡ true → only test p ≡ Some child
only_some test p child is passes = ap (only test) is ∙ ap (λ b. if b then Some child else None) passes

-- what a walk must find behind a statement, behind a body
abbrev FindsOne : ℕ → S → Children → Walks → Type 0
FindsOne k x children walks =
    (test : List Use → Bool) → behind_one children x test ≡ true → (task : ℕ) × (child : ℕ × List Use) × (all_one walks k x task ≡ Some child) × (test child.1 ≡ true)

abbrev Finds : ℕ → Body → Children → Walks → Type 0
Finds k b children walks =
    (test : List Use → Bool) → behind children b test ≡ true → (task : ℕ) × (child : ℕ × List Use) × (all walks k b task ≡ Some child) × (test child.1 ≡ true)

one_found : (k : ℕ) (x : S) (children : Children) (walks : Walks) → Cover k children walks → FindsOne k x children walks → Cover (k + size_one x) (behind_one children x) (all_one walks k x)
one_found k x children walks c found = record {
  some = let some = c.some in omega (arith, some);
  early = early_on k (k + size_one x) children walks (all_one walks k x) (omega arith) c (λ task out. stays-one task (walks task) k x out);
  found = found;
}

all_found : (k : ℕ) (b : Body) (children : Children) (walks : Walks) → Cover k children walks → Finds k b children walks → Cover (k + size b) (behind children b) (all walks k b)
all_found k b children walks c found = record {
  some = let some = c.some in omega (arith, some);
  early = early_on k (k + size b) children walks (all walks k b) (omega arith) c (λ task out. stays-all task (walks task) k b out);
  found = found;
}

mutual
  found_one : (k : ℕ) (x : S) (children : Children) (walks : Walks) → Cover k children walks → FindsOne k x children walks
  found_one k (Set cell e) children walks c test h = c.found test h
  found_one k (Fold o cell e) children walks c test h = c.found test h
  found_one k (If e a b) children walks c test h = elim (or_true (behind children a test) (behind children b test) h) [
    | inl one ↦
        let first = cover_later k (k + 1) children walks (omega arith) c in
        let f = found_all (k + 1) a children walks first test one in
        let below = (all_found (k + 1) a children walks first (found_all (k + 1) a children walks first)).early f.0 f.1 f.2 in
        cover_or k children walks a b c test (f.0, f.1, f.2, below.1, f.3)
    | inr two ↦
        let f = found_all (k + 1 + size a) b children walks (cover_later k (k + 1 + size a) children walks (omega arith) c) test two in
        (f.0, f.1, ap (λ o. option_or o (all walks (k + 1) a f.0)) f.2, f.3)
  ]
  found_one k (Task d b) children walks c test h = elim (or_true (children test) (test d) h) [
    | inl old ↦
        let f = c.found test old in
        let e = c.early f.0 f.1 f.2 in
        let other : k ≢ f.0 = λ is. omega (arith, e.1, is) in
        (f.0, f.1, ap (λ t. if t then Some (k, d) else walks f.0) (here-not k f.0 other) ∙ f.2, f.3)
    | inr new ↦ (k, (k, d), ap (λ t. if t then Some (k, d) else walks k) (here-is k k refl), new)
  ]
  found_one k (Wait w) children walks c test h =
      let f = c.found (λ d. test d && not (awaits w d)) h in
      (f.0, f.1, only_some (λ d. not (awaits w d)) (walks f.0) f.1 f.2 (and_right (test f.1.1) (not (awaits w f.1.1)) f.3), and_left (test f.1.1) (not (awaits w f.1.1)) f.3)
  found_one k (Group o cs b) children walks c test h =
      let f = c.found (λ d. test d && through d b) h in
      (f.0, f.1, only_some (λ d. through d b) (walks f.0) f.1 f.2 (and_right (test f.1.1) (through f.1.1 b) f.3), and_left (test f.1.1) (through f.1.1 b) f.3)

  found_all : (k : ℕ) (b : Body) (children : Children) (walks : Walks) → Cover k children walks → Finds k b children walks
  found_all k End children walks c test h = c.found test h
  found_all k (Next x rest) children walks c test h =
      found_all (k + size_one x) rest (behind_one children x) (all_one walks k x) (one_found k x children walks c (found_one k x children walks c)) test h

pub cover_one : (k : ℕ) (x : S) (children : Children) (walks : Walks) → Cover k children walks → Cover (k + size_one x) (behind_one children x) (all_one walks k x)
cover_one k x children walks c = one_found k x children walks c (found_one k x children walks c)

-- ---- an offence is met by each walk, with the same statement

pub record AreThere (walks : Walks) (k : ℕ) (b : Body) (place : ℕ) (offence : Offence) : Type 0 where
  pub x : S
  pub later : Walks
  pub own : Declared
  pub opened : Openings
  pub children : Children
  pub cover : Cover place children later
  pub met_by : (task : ℕ) → met_statement place task (walks task) k b ≡ Some (x, later task)
  pub is : is_offence own opened children x offence ≡ true

record AreInside (walks : Walks) (k : ℕ) (y : S) (place : ℕ) (offence : Offence) : Type 0 where
  x : S
  later : Walks
  own : Declared
  opened : Openings
  children : Children
  cover : Cover place children later
  met_by : (task : ℕ) → met_inside place task (walks task) k y ≡ Some (x, later task)
  is : is_offence own opened children x offence ≡ true

pub not_none : (here : S × Pending) (o : Option (S × Pending)) → o ≡ Some here → o ≡ None → ⊥
not_none here o some none = cc

-- where it is met
place_past : (place task : ℕ) (p : Pending) (k : ℕ) (b : Body) (here : S × Pending) → met_statement place task p k b ≡ Some here → k ≤ place
place_past place task p k b here is = elim (leb_tells k place) [
  | inl (test, past) ↦ past
  | inr (test, below) ↦ absurd (not_none here (met_statement place task p k b) is (none_met place task p k b (inl (omega (arith, below)))))
]

place_inside : (place task : ℕ) (p : Pending) (k : ℕ) (x : S) (here : S × Pending) → met_inside place task p k x ≡ Some here → k < place
place_inside place task p k x here is = elim (leb_tells place k) [
  | inl (test, low) ↦ absurd (not_none here (met_inside place task p k x) is (none_inside place task p k x (inl low)))
  | inr (test, past) ↦ omega (arith, past)
]

mutual
  there_inside : (own : Declared) (opened : Openings) (children : Children) (walks : Walks) (k : ℕ) (y : S) (place : ℕ) (offence : Offence) → Cover k children walks →
      MeetsInside own opened children k y place offence → AreInside walks k y place offence
  there_inside own opened children walks k (Set c e) place offence cover h = absurd h
  there_inside own opened children walks k (Fold o c e) place offence cover h = absurd h
  there_inside own opened children walks k (If e a b) place offence cover (inl h) =
      let t = there own opened children walks (k + 1) a place offence (cover_later k (k + 1) children walks (omega arith) cover) h in record {
        x = t.x;
        later = t.later;
        own = t.own;
        opened = t.opened;
        children = t.children;
        cover = t.cover;
        met_by = λ task. ap (λ o. option_or o (met_statement place task (walks task) (k + 1 + size a) b)) (t.met_by task);
        is = t.is;
      }
  there_inside own opened children walks k (If e a b) place offence cover (inr h) =
      let t = there own opened children walks (k + 1 + size a) b place offence (cover_later k (k + 1 + size a) children walks (omega arith) cover) h in record {
        x = t.x;
        later = t.later;
        own = t.own;
        opened = t.opened;
        children = t.children;
        cover = t.cover;
        met_by = λ task.
            let past = place_past place task (walks task) (k + 1 + size a) b (t.x, t.later task) (t.met_by task) in
            ap (λ o. option_or o (met_statement place task (walks task) (k + 1 + size a) b)) (none_met place task (walks task) (k + 1) a (inr (omega (arith, past))))
            ∙ t.met_by task;
        is = t.is;
      }
  there_inside own opened children walks k (Task d b) place offence cover h =
      let some = cover.some in
      let t = there (Some d) nothing_open nobody no_walk (k + 1) b place offence (cover_nobody (k + 1) (omega (arith, some))) h in record {
        x = t.x;
        later = t.later;
        own = t.own;
        opened = t.opened;
        children = t.children;
        cover = t.cover;
        met_by = t.met_by;
        is = t.is;
      }
  there_inside own opened children walks k (Wait w) place offence cover h = absurd h
  there_inside own opened children walks k (Group o cs b) place offence cover h =
      let t = there own (with_group opened o cs) children walks (k + 1) b place offence (cover_later k (k + 1) children walks (omega arith) cover) h in record {
        x = t.x;
        later = t.later;
        own = t.own;
        opened = t.opened;
        children = t.children;
        cover = t.cover;
        met_by = t.met_by;
        is = t.is;
      }

  there : (own : Declared) (opened : Openings) (children : Children) (walks : Walks) (k : ℕ) (b : Body) (place : ℕ) (offence : Offence) → Cover k children walks →
      Meets own opened children k b place offence → AreThere walks k b place offence
  there own opened children walks k End place offence cover h = absurd h
  there own opened children walks k (Next x rest) place offence cover (inl (inl (here, h))) = record {
    x = x;
    later = walks;
    own = own;
    opened = opened;
    children = children;
    cover = subst (λ n. Cover n children walks) (sym here) cover;
    met_by = λ task. met-first place task (walks task) k x rest (x, walks task) (met-here place task (walks task) k x (sym here));
    is = h;
  }
  there own opened children walks k (Next x rest) place offence cover (inl (inr h)) =
      let t = there_inside own opened children walks k x place offence cover h in record {
        x = t.x;
        later = t.later;
        own = t.own;
        opened = t.opened;
        children = t.children;
        cover = t.cover;
        met_by = λ task.
            let past = place_inside place task (walks task) k x (t.x, t.later task) (t.met_by task) in
            let other : k ≢ place = λ is. omega (arith, past, is) in
            met-first place task (walks task) k x rest (t.x, t.later task) (met-past place task (walks task) k x other ∙ t.met_by task);
        is = t.is;
      }
  there own opened children walks k (Next x rest) place offence cover (inr h) =
      let t = there own opened (behind_one children x) (all_one walks k x) (k + size_one x) rest place offence (cover_one k x children walks cover) h in record {
        x = t.x;
        later = t.later;
        own = t.own;
        opened = t.opened;
        children = t.children;
        cover = t.cover;
        met_by = λ task.
            let some = some_size x in
            let past = place_past place task (all_one walks k x task) (k + size_one x) rest (t.x, t.later task) (t.met_by task) in
            let other : k ≢ place = λ is. omega (arith, past, is, some) in
            let none : met_one place task (walks task) k x ≡ None =
            met-past place task (walks task) k x other ∙ none_inside place task (walks task) k x (inr past) in
            ap (λ o. option_or o (met_statement place task (all_one walks k x task) (k + size_one x) rest)) none ∙ t.met_by task;
        is = t.is;
      }

-- so is one of a program
pub there_of : (b : Body) (place : ℕ) (offence : Offence) → Offends b place offence → AreThere no_walk 1 b place offence
there_of b place offence (inl h) = there None nothing_open nobody no_walk 1 b place offence (cover_nobody 1 (omega arith)) (meets-on_path 1 b None place offence h)
there_of b place offence (inr h) = there None nothing_open nobody no_walk 1 b place offence (cover_nobody 1 (omega arith)) (meets-in_tasks None nothing_open nobody 1 b place offence h)

-- ---- a task that ends with a child

-- a statement's body, where it is a task
pub ends_inside : (own : Declared) (opened : Openings) (children : Children) (x : S) → is_offence own opened children x EndsWithChildren ≡ true →
    (d : List Use) × (b : Body) × (x ≡ Task d b) × (behind nobody b anyone ≡ true)
ends_inside own opened children x h = by_statement x (by_marks (marks x) (ends_with_children x EndsWithChildren) h)
  where
    no_mark : (m : Mark) → may_break own opened children m EndsWithChildren ≡ false
    no_mark (Touch u) = refl
    no_mark (Create d) = refl
    no_mark (Await w) = refl
    no_mark (Enter o cs) = refl
    no_mark Leave = refl

    by_marks : (ms : List Mark) (ends : Bool) → (list_any (λ m. may_break own opened children m EndsWithChildren) ms || ends) ≡ true → ends ≡ true
    by_marks [] ends h = h
    by_marks (m ∷ ms) ends h = by_marks ms ends (ap (λ b. (b || list_any (λ m. may_break own opened children m EndsWithChildren) ms) || ends) (sym (no_mark m)) ∙ h)

    by_statement : (x : S) → ends_with_children x EndsWithChildren ≡ true → (d : List Use) × (b : Body) × (x ≡ Task d b) × (behind nobody b anyone ≡ true)
    by_statement (Set c e) h = absurd (true≢false (sym h))
    by_statement (Fold o c e) h = absurd (true≢false (sym h))
    by_statement (If e a b) h = absurd (true≢false (sym h))
    by_statement (Task d b) h = (d, b, refl, h)
    by_statement (Wait w) h = absurd (true≢false (sym h))
    by_statement (Group o cs b) h = absurd (true≢false (sym h))

-- a walk carries one to the end of a body in which one may be left
pub carried_some : (k : ℕ) (b : Body) → 0 < k → behind nobody b anyone ≡ true → (task : ℕ) × (child : ℕ × List Use) × (pending_carried task None k b ≡ Some child)
carried_some k b some h = let f = found_all k b nobody no_walk (cover_nobody k some) anyone h in (f.0, f.1, f.2)

-- ---- a statement that conflicts with a child

-- some use of the statement conflicts with a child
uses_child : (own : Declared) (opened : Openings) (children : Children) (x : S) → is_offence own opened children x ConflictsWithChild ≡ true →
    list_any (λ u. children (clashes u)) (uses_of x) ≡ true
uses_child own opened children (Set c e) h = sym (any-map (λ m. may_break own opened children m ConflictsWithChild) Touch (touches (Set c e))) ∙ or_false _ h
uses_child own opened children (Fold o c e) h = sym (any-map (λ m. may_break own opened children m ConflictsWithChild) Touch (touches (Fold o c e))) ∙ or_false _ h
uses_child own opened children (If e a b) h = sym (any-map (λ m. may_break own opened children m ConflictsWithChild) Touch (touches (If e a b))) ∙ or_false _ h
uses_child own opened children (Task d b) h = absurd (true≢false (sym h))
uses_child own opened children (Wait w) h = absurd (true≢false (sym h))
uses_child own opened children (Group o cs b) h = any-map (λ u. children (clashes u)) (use_as Writes) cs ∙ or_false _ (or_false _ h)

-- a walk carries that child
child_of : (k : ℕ) (children : Children) (walks : Walks) (uses : List Use) → Cover k children walks → list_any (λ u. children (clashes u)) uses ≡ true →
    (task : ℕ) × (child : ℕ × List Use) × (walks task ≡ Some child) × (list_any (λ u. clashes u child.1) uses ≡ true)
child_of k children walks [] cover h = absurd (true≢false (sym h))
child_of k children walks (u ∷ uses) cover h = elim (or_true (children (clashes u)) (list_any (λ u. children (clashes u)) uses) h) [
  | inl one ↦ let f = cover.found (clashes u) one in (f.0, f.1, f.2, true_or (clashes u f.1.1) (list_any (λ u. clashes u f.1.1) uses) f.3)
  | inr more ↦ let f = child_of k children walks uses cover more in (f.0, f.1, f.2, or_right (clashes u f.1.1) (list_any (λ u. clashes u f.1.1) uses) f.3)
]

-- the walk that carries it comes to the statement with it
pub race_met : (b : Body) (place : ℕ) → Offends b place ConflictsWithChild →
    (task : ℕ) × (0 < task) × (task < place) × (x : S) × (child : ℕ × List Use) × (met_statement place task None 1 b ≡ Some (x, Some child)) × (list_any (λ u. clashes u child.1) (uses_of x) ≡ true)
race_met b place h =
    let t = there_of b place ConflictsWithChild h in
    let f = child_of place t.children t.later (uses_of t.x) t.cover (uses_child t.own t.opened t.children t.x t.is) in
    let e = t.cover.early f.0 f.1 f.2 in
    (f.0, e.0, e.1, t.x, f.1, t.met_by f.0 ∙ ap (λ p. Some (t.x, p)) f.2, f.3)

-- ---- nothing is found only where there is nothing

-- no statement stands at the place
pub nothing_there : (b : Body) (place : ℕ) (offence : Offence) → met_statement place 0 None 1 b ≡ None → Offends b place offence → ⊥
nothing_there b place offence none h = let t = there_of b place offence h in not_none (t.x, t.later 0) (met_statement place 0 None 1 b) (t.met_by 0) none

same_here : (one two : S × Pending) (o : Option (S × Pending)) → o ≡ Some one → o ≡ Some two → one.0 ≡ two.0
same_here one two o first second = cc

-- the statement that stands there is a task that can end with a child
left_there : (b : Body) (place : ℕ) (x : S) (child : Pending) → met_statement place 0 None 1 b ≡ Some (x, child) → Offends b place EndsWithChildren →
    (inside : Body) × (inside_of x ≡ Some inside) × (behind nobody inside anyone ≡ true)
left_there b place x child here h =
    let t = there_of b place EndsWithChildren h in
    let e = ends_inside t.own t.opened t.children t.x t.is in
    let same : x ≡ t.x = same_here (x, child) (t.x, t.later 0) (met_statement place 0 None 1 b) here (t.met_by 0) in
    (e.1, ap inside_of (same ∙ e.2), e.3)

pub left_no_task : (b : Body) (place : ℕ) (x : S) (child : Pending) → met_statement place 0 None 1 b ≡ Some (x, child) → inside_of x ≡ None → Offends b place EndsWithChildren → ⊥
left_no_task b place x child here none h = let l = left_there b place x child here h in no_body l.0 (inside_of x) l.1 none
  where
    no_body : (inside : Body) (o : Option Body) → o ≡ Some inside → o ≡ None → ⊥
    no_body inside o some none = cc

pub left_none : (b : Body) (place : ℕ) (x : S) (child : Pending) (inside : Body) → met_statement place 0 None 1 b ≡ Some (x, child) → inside_of x ≡ Some inside →
    ((task : ℕ) → pending_carried task None (place + 1) inside ≡ None) → Offends b place EndsWithChildren → ⊥
left_none b place x child inside here is none h =
    let l = left_there b place x child here h in
    let same : l.0 ≡ inside = same_body l.0 inside (inside_of x) l.1 is in
    let f = carried_some (place + 1) inside (omega arith) (subst (λ b. behind nobody b anyone ≡ true) same l.2) in
    none_some f.1 (sym (none f.0) ∙ f.2)
  where
    same_body : (one two : Body) (o : Option Body) → o ≡ Some one → o ≡ Some two → one ≡ two
    same_body one two o first second = cc

-- no walk comes to it with a child in conflict
pub race_none : (b : Body) (place : ℕ) → ((task : ℕ) → 0 < task → task < place → IsSpared place task b) → Offends b place ConflictsWithChild → ⊥
race_none b place spared h = let (task, some, below, x, child, here, conflict) = race_met b place h in spared task some below x child here conflict

-- ---- a task and its body
