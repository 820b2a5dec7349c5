-- Lists of events that are alike but for what more one of them uses: what races in the one races in the other.
use Rattle.std.proofs.Common.{◌≡◌, ◌<◌, ℕ, zero, suc, List, [], ◌∷◌, ◌++◌, length, map, refl, sym, ap, subst, ◌∙◌, arith}
use Rattle.std.specs.Prelude.{Bool, true, false, if◌then◌else◌, cond, not, Some, None, Contains, slice_get}
use Rattle.ot_model.specs.Cells.{is_fold}
use Rattle.ot_model.specs.declared.expr.Cell.{Cell}
use Rattle.ot_model.specs.declared.stmt.Mode.{Mode}
use Rattle.ot_model.specs.declared.stmt.Use.{Use}
use Rattle.ot_race_order.specs.Orders.{event_in_c, event_by_pointers, deed_in_c, touched_of, ordered_by}
use Rattle.ot_race_order.specs.declared.order.Order.{Order}
use Rattle.ot_race_order.specs.declared.order.Order.TheVariants.{OfLanguage, OfC, OfCByPointers}
use Rattle.ot_race.specs.Events.{Event, Deed}
use Rattle.ot_race.specs.Order.{IsBy, Does, Leads, InTurn, ByCreation, ByDependence, ByWait, ByEnd, IsBefore, Once, Then}
use Rattle.ot_race.specs.Races.{IsUsed, IsRace}

-- the second is the same event, and uses all that the first uses
pub record LikeEvent (e f : Event) : Type 0 where
  pub task_same : e.task ≡ f.task
  pub deed_same : e.deed ≡ f.deed
  pub within : (u : Use) → Contains e.uses u → Contains f.uses u

abbrev pub AreLike : List Event → List Event → Type 0
AreLike [] [] = Unit {0}
AreLike [] (f ∷ fs) = ⊥
AreLike (e ∷ es) [] = ⊥
AreLike (e ∷ es) (f ∷ fs) = LikeEvent e f × AreLike es fs

pub like_itself : (e : Event) → LikeEvent e e
like_itself e = record { task_same = refl; deed_same = refl; within = λ u h. h }

pub like_append : (es fs gs hs : List Event) → AreLike es fs → AreLike gs hs → AreLike (es ++ gs) (fs ++ hs)
like_append [] [] gs hs l m = m
like_append [] (f ∷ fs) gs hs l m = absurd l
like_append (e ∷ es) [] gs hs l m = absurd l
like_append (e ∷ es) (f ∷ fs) gs hs l m = (l.0, like_append es fs gs hs l.1 m)

pub like_length : (es fs : List Event) → AreLike es fs → length es ≡ length fs
like_length [] [] l = refl
like_length [] (f ∷ fs) l = absurd l
like_length (e ∷ es) [] l = absurd l
like_length (e ∷ es) (f ∷ fs) l = ap suc (like_length es fs l.1)

pub like_if : (b : Bool) (es fs gs hs : List Event) → AreLike es gs → AreLike fs hs → AreLike (if b then es else fs) (if b then gs else hs)
like_if true es fs gs hs l m = l
like_if false es fs gs hs l m = m

-- ---- as tasks are ordered

pub first_of_list : {A : Type 0} (x : A) (xs : List A) → Contains (x ∷ xs) x
first_of_list x xs = (zero, (let l : 0 < length (x ∷ xs) = omega arith in l), refl)

pub later_of_list : {A : Type 0} (x y : A) (xs : List A) → Contains xs y → Contains (x ∷ xs) y
later_of_list x y xs h = (suc h.0, (let l : suc h.0 < length (x ∷ xs) = omega (arith, h.1) in l), h.2)

-- a use that is touched is used, and is no fold
there_if : (v u : Use) (us kept : List Use) → (Contains kept u → Contains us u × (is_fold u.mode ≡ false)) → (b : Bool) → is_fold v.mode ≡ b
    → Contains (cond (not b) (v ∷ kept) kept) u → Contains (v ∷ us) u × (is_fold u.mode ≡ false)
there_if v u us kept later true is h = let r = later h in (later_of_list v u us r.0, r.1)
there_if v u us kept later false is (zero, l, e) =
    (subst (Contains (v ∷ us)) e (first_of_list v us), subst (λ (u : Use). is_fold u.mode ≡ false) e is)
there_if v u us kept later false is (suc k, l, e) = let r = later (k, omega (arith, l), e) in (later_of_list v u us r.0, r.1)

touched_there : (us : List Use) (u : Use) → Contains (touched_of us) u → Contains us u × (is_fold u.mode ≡ false)
touched_there [] u (k, l, e) = absurd (omega (arith, l))
touched_there (v ∷ us) u h = there_if v u us (touched_of us) (touched_there us u) (is_fold v.mode) refl h

-- and one that is used, and is no fold, is touched
here_if : (b : Bool) (u : Use) (kept : List Use) → b ≡ false → Contains (cond (not b) (u ∷ kept) kept) u
here_if true u kept h = cc
here_if false u kept h = first_of_list u kept

later_if : (b : Bool) (v u : Use) (kept : List Use) → Contains kept u → Contains (cond (not b) (v ∷ kept) kept) u
later_if true v u kept h = h
later_if false v u kept h = later_of_list v u kept h

touched_here : (us : List Use) (u : Use) → Contains us u → is_fold u.mode ≡ false → Contains (touched_of us) u
touched_here [] u (k, l, e) other = absurd (omega (arith, l))
touched_here (v ∷ us) u (zero, l, e) other =
    subst (λ (w : Use). Contains (touched_of (v ∷ us)) w) e (here_if (is_fold v.mode) v (touched_of us) (subst (λ (w : Use). is_fold w.mode ≡ false) (sym e) other))
touched_here (v ∷ us) u (suc k, l, e) other = later_if (is_fold v.mode) v u (touched_of us) (touched_here us u (k, omega (arith, l), e) other)

touched_within : (us vs : List Use) → ((u : Use) → Contains us u → Contains vs u) → (u : Use) → Contains (touched_of us) u → Contains (touched_of vs) u
touched_within us vs within u h = let r = touched_there us u h in touched_here vs u (within u r.0) r.1

like_in_c : (es fs : List Event) → AreLike es fs → AreLike (map event_in_c es) (map event_in_c fs)
like_in_c [] [] l = tt
like_in_c [] (f ∷ fs) l = absurd l
like_in_c (e ∷ es) [] l = absurd l
like_in_c (e ∷ es) (f ∷ fs) l =
    (record { task_same = l.0.task_same; deed_same = ap deed_in_c l.0.deed_same; within = touched_within e.uses f.uses l.0.within }, like_in_c es fs l.1)

like_by_pointers : (es fs : List Event) → AreLike es fs → AreLike (map event_by_pointers es) (map event_by_pointers fs)
like_by_pointers [] [] l = tt
like_by_pointers [] (f ∷ fs) l = absurd l
like_by_pointers (e ∷ es) [] l = absurd l
like_by_pointers (e ∷ es) (f ∷ fs) l =
    (record { task_same = l.0.task_same; deed_same = l.0.deed_same; within = touched_within e.uses f.uses l.0.within }, like_by_pointers es fs l.1)

-- what is touched is used
pub pointers_like : (es : List Event) → AreLike (map event_by_pointers es) es
pointers_like [] = tt
pointers_like (e ∷ es) = (record { task_same = refl; deed_same = refl; within = λ u h. (touched_there e.uses u h).0 }, pointers_like es)

pub like_ordered : (order : Order) (es fs : List Event) → AreLike es fs → AreLike (ordered_by order es) (ordered_by order fs)
like_ordered OfLanguage es fs l = l
like_ordered OfC es fs l = like_in_c es fs l
like_ordered OfCByPointers es fs l = like_by_pointers es fs l

-- ---- the event at a place

record HasLike (e : Event) (fs : List Event) (i : ℕ) : Type 0 where
  it : Event
  there : slice_get fs i ≡ Some it
  like : LikeEvent e it

record IsLike (es : List Event) (f : Event) (i : ℕ) : Type 0 where
  it : Event
  there : slice_get es i ≡ Some it
  like : LikeEvent it f

no_event : (e : Event) → None ≡ Some e → ⊥
no_event e h = cc

one_event : (e f : Event) → Some e ≡ Some f → e ≡ f
one_event e f h = cc

like_there : (es fs : List Event) (i : ℕ) (e : Event) → AreLike es fs → slice_get es i ≡ Some e → HasLike e fs i
like_there [] fs i e l h = absurd (no_event e h)
like_there (x ∷ es) [] i e l h = absurd l
like_there (x ∷ es) (f ∷ fs) zero e l h = record { it = f; there = refl; like = subst (λ (x : Event). LikeEvent x f) (one_event x e h) l.0 }
like_there (x ∷ es) (f ∷ fs) (suc i) e l h =
    let r = like_there es fs i e l.1 h in
    record { it = r.it; there = r.there; like = r.like }

like_here : (es fs : List Event) (i : ℕ) (f : Event) → AreLike es fs → slice_get fs i ≡ Some f → IsLike es f i
like_here es [] i f l h = absurd (no_event f h)
like_here [] (x ∷ fs) i f l h = absurd l
like_here (e ∷ es) (x ∷ fs) zero f l h = record { it = e; there = refl; like = subst (λ (x : Event). LikeEvent e x) (one_event x f h) l.0 }
like_here (e ∷ es) (x ∷ fs) (suc i) f l h =
    let r = like_here es fs i f l.1 h in
    record { it = r.it; there = r.there; like = r.like }

-- ---- order

by_back : (es fs : List Event) (t i : ℕ) → AreLike es fs → IsBy fs t i → IsBy es t i
by_back es fs t i l b =
    let r = like_here es fs i b.it l b.there in
    record { it = r.it; there = r.there; done_by = r.like.task_same ∙ b.done_by }

does_back : (es fs : List Event) (t i : ℕ) (d : Deed) → AreLike es fs → Does fs t d i → Does es t d i
does_back es fs t i d l b =
    let r = like_here es fs i b.it l b.there in
    record { it = r.it; there = r.there; done_by = r.like.task_same ∙ b.done_by; does = r.like.deed_same ∙ b.does }

leads_back : (es fs : List Event) (i j : ℕ) → AreLike es fs → Leads fs i j → Leads es i j
leads_back es fs _ _ l (InTurn me i j a less b) = InTurn me i j (by_back es fs me i l a) less (by_back es fs me j l b)
leads_back es fs _ _ l (ByCreation p c i j w a less b) = ByCreation p c i j w (by_back es fs p i l a) less (does_back es fs c j _ l b)
leads_back es fs _ _ l (ByDependence p c d h i j u w a early b dep by less) =
    ByDependence p c d h i j u w (does_back es fs c h _ l a) early (does_back es fs d j _ l b) dep (by_back es fs c i l by) less
leads_back es fs _ _ l (ByWait me c h i j u w a early b aw by less) =
    ByWait me c h i j u w (does_back es fs c h _ l a) early (does_back es fs me j _ l b) aw (by_back es fs c i l by) less
leads_back es fs _ _ l (ByEnd me n i j a less near) = ByEnd me n i j (does_back es fs me j _ l a) less near

before_back : (es fs : List Event) (i j : ℕ) → AreLike es fs → IsBefore fs i j → IsBefore es i j
before_back es fs _ _ l (Once i j s) = Once i j (leads_back es fs i j l s)
before_back es fs _ _ l (Then i j k b s) = Then i j k (before_back es fs i j l b) (leads_back es fs j k l s)

-- ---- races

used_there : (es fs : List Event) (c : Cell) (m : Mode) (i : ℕ) → AreLike es fs → IsUsed es c m i → IsUsed fs c m i
used_there es fs c m i l b =
    let r = like_there es fs i b.it l b.there in
    record { it = r.it; there = r.there; uses = r.like.within _ b.uses }

pub race_there : (es fs : List Event) (c : Cell) (i j : ℕ) → AreLike es fs → IsRace es c i j → IsRace fs c i j
race_there es fs c i j l r = record {
  order = r.order;
  one = r.one;
  other = r.other;
  first = used_there es fs c r.one i l r.first;
  second = used_there es fs c r.other j l r.second;
  conflict = r.conflict;
  unordered = λ b. r.unordered (before_back es fs i j l b);
}
