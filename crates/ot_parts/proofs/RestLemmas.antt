-- What is left, by the part that comes next.
use Rattle.std.proofs.Common.{◌≡◌, ◌++◌, ℕ, ◌+◌, Bool, true, false, List, [], ◌∷◌, drop, refl, sym, ap, subst, ◌∙◌, inl, inr}
use Rattle.std.specs.Prelude.{Option, Some, None, IfSome, MatchOption, option_map, slice_get, is_some}
use Rattle.std.specs.Arc.{arc_value}
use Rattle.std.proofs.lemmas.List.{drop_all}
use Rattle.std.proofs.lemmas.Option.{same_Some, slice_get_cases}
use Rattle.ot_model.specs.Tree.{S, Set, Fold, If, Task, Wait, Group, Body, End, Next, append}
use Rattle.ot_model.proofs.TreeLemmas as tree
use Rattle.ot_parts.specs.Parts.{leading, after_parts, test_of, control_next, past_control, branch_taken, Meaning, IsPart, alone, branch_of, condition_at, condition_of, is_control, part_of, parts_of}
use Rattle.ot_parts.specs.Left.{IsHidden, IsShown, IsTrim, comes, next_at, outer_parts, parts_left, rest_left, shows}
use Rattle.ot_parts.specs.declared.frames.Frames.{Frames}
use Rattle.ot_parts.specs.declared.part.Part.{Part}
use Rattle.ot_parts.proofs.FrameLemmas.{behind-first, control-first, leading-first, next-drop, not-none, parts-append}
use Rattle.ot_parts.proofs.LeadingLemmas.{behind-behind, leading-behind}

-- ---- the parts that are left

pub next-parts : (f : Frames) (p : Part) → next_at f.inner ≡ Some p → parts_left f ≡ p ∷ (drop (f.inner.at + 1) (arc_value f.inner.body).items ++ outer_parts f.outer.items)
next-parts f p is = ap (λ l. l ++ outer_parts f.outer.items) (next-drop (arc_value f.inner.body).items f.inner.at p is)

pub none-left : (passed : Bool) (f : Frames) → IsTrim passed f → next_at f.inner ≡ None → rest_left passed (parts_of (parts_left f)) ≡ End
none-left passed f trim is =
    let items = (arc_value f.inner.body).items in
    let outer : outer_parts f.outer.items ≡ [] = subst (λ o. MatchOption o (outer_parts f.outer.items ≡ []) (λ p. comes passed (part_of p) ≡ true)) is trim in
    let none : parts_left f ≡ [] = ap (λ l. l ++ outer_parts f.outer.items) (over items f.inner.at is) ∙ outer in
    ap (λ l. rest_left passed (parts_of l)) none ∙ end passed
  where
    end : (passed : Bool) → rest_left passed End ≡ End
    end true = refl
    end false = refl

    over : (ps : List Part) (i : ℕ) → slice_get ps i ≡ None → drop i ps ≡ []
    over ps i is = drop_all i ps (elim (slice_get_cases ps i).1 [ inl h ↦ absurd (not-none ps i h.1 is) | inr h ↦ h.0 ])

-- what is left, where a part comes next
pub some-left : (passed : Bool) (f : Frames) (p : Part) (ps : List Part) → parts_left f ≡ p ∷ ps
    → rest_left passed (parts_of (parts_left f)) ≡ rest_left passed (append (append (part_of p).run (alone (part_of p).control)) (parts_of ps))
some-left passed f p ps is = ap (λ l. rest_left passed (parts_of l)) is

-- ---- something of it comes

pub not-end : (passed : Bool) (m : Meaning) (rest : Body) → IsPart m → comes passed m ≡ true → rest_left passed (append (append m.run (alone m.control)) rest) ≡ End → ⊥
not-end passed m rest part some is = on passed m.run m.control refl refl part some is
  where
    on : (passed : Bool) (run : Body) (control : Option S) → m.run ≡ run → m.control ≡ control → IsPart (let n : Meaning = record { run = run; control = control } in n)
        → comes passed (let n : Meaning = record { run = run; control = control } in n) ≡ true → rest_left passed (append (append run (alone control)) rest) ≡ End → ⊥
    on true run None a b part some is = cc
    on false End None a b part some is = cc
    on false (Next x run) None a b part some is = cc
    on true run (Some x) a b part some is =
        let h = behind-first (let n : Meaning = record { run = run; control = Some x } in n) rest part in
        let k = (control-first x rest part.1).1 in
        let j : Next x rest ≡ End = sym k ∙ sym h ∙ is in cc
    on false End (Some x) a b part some is = cc
    on false (Next y run) (Some x) a b part some is = cc

-- ---- its control statement comes next, or does not

pub shown-left : (passed : Bool) (m : Meaning) (rest : Body) → IsPart m → shows passed m ≡ true
    → (x : S) × (m.control ≡ Some x) × (rest_left passed (append (append m.run (alone m.control)) rest) ≡ Next x rest) × (is_control x ≡ true)
shown-left passed m rest part shown = on passed m.run m.control part shown
  where
    on : (passed : Bool) (run : Body) (control : Option S) → IsPart (let n : Meaning = record { run = run; control = control } in n)
        → shows passed (let n : Meaning = record { run = run; control = control } in n) ≡ true
        → (x : S) × (control ≡ Some x) × (rest_left passed (append (append run (alone control)) rest) ≡ Next x rest) × (is_control x ≡ true)
    on passed run None part shown = cc
    on true run (Some x) part shown =
        (x, refl, behind-first (let n : Meaning = record { run = run; control = Some x } in n) rest part ∙ (control-first x rest part.1).1, part.1)
    on false End (Some x) part shown = (x, refl, refl, part.1)
    on false (Next y run) (Some x) part shown = cc

first-assign : (x : S) (run b : Body) → leading (Next x run) ≡ Next x run → control_next (Next x b) ≡ None
first-assign (Set c e) run b h = refl
first-assign (Fold o c e) run b h = refl
first-assign (If e p q) run b h = cc
first-assign (Task d p) run b h = cc
first-assign (Wait w) run b h = cc
first-assign (Group o cs p) run b h = cc

pub hidden-left : (passed : Bool) (m : Meaning) (rest : Body) → IsPart m → comes passed m ≡ true → shows passed m ≡ false
    → control_next (rest_left passed (append (append m.run (alone m.control)) rest)) ≡ None
hidden-left passed m rest part some hidden = on passed m.run m.control part some hidden
  where
    on : (passed : Bool) (run : Body) (control : Option S) → IsPart (let n : Meaning = record { run = run; control = control } in n)
        → comes passed (let n : Meaning = record { run = run; control = control } in n) ≡ true → shows passed (let n : Meaning = record { run = run; control = control } in n) ≡ false
        → control_next (rest_left passed (append (append run (alone control)) rest)) ≡ None
    on true run None part some hidden = cc
    on true run (Some x) part some hidden = cc
    on false End None part some hidden = cc
    on false End (Some x) part some hidden = cc
    on false (Next y run) control part some hidden = first-assign y run _ part.0

pub hidden-next : (passed : Bool) (f : Frames) → IsTrim passed f → IsHidden passed f → control_next (rest_left passed (parts_of (parts_left f))) ≡ None
hidden-next passed f trim hidden = on (next_at f.inner) refl
  where
    on : (o : Option Part) → next_at f.inner ≡ o → control_next (rest_left passed (parts_of (parts_left f))) ≡ None
    on None is = ap control_next (none-left passed f trim is)
    on (Some p) is =
        let h : IsPart (part_of p) × (shows passed (part_of p) ≡ false) = subst (λ o. MatchOption o (Unit {0}) (λ p. IsPart (part_of p) × (shows passed (part_of p) ≡ false))) is hidden in
        let t : comes passed (part_of p) ≡ true = subst (λ o. MatchOption o (outer_parts f.outer.items ≡ []) (λ p. comes passed (part_of p) ≡ true)) is trim in
        ap control_next (some-left passed f p _ (next-parts f p is)) ∙ hidden-left passed (part_of p) _ h.0 t h.1

pub shown-next : (passed : Bool) (f : Frames) (p : Part) (ps : List Part) → IsShown passed f p → parts_left f ≡ p ∷ ps
    → (x : S) × ((part_of p).control ≡ Some x) × (rest_left passed (parts_of (parts_left f)) ≡ Next x (parts_of ps)) × (is_control x ≡ true)
shown-next passed f p ps shown is =
    let h = shown-left passed (part_of p) (parts_of ps) shown.1 shown.2 in
    (h.0, h.1, some-left passed f p ps is ∙ h.2, h.3)

-- ---- a control statement comes next, or none

pub control-is : (x : S) (b : Body) → is_control x ≡ true → control_next (Next x b) ≡ Some x
control-is (Set c e) b is = cc
control-is (Fold o c e) b is = cc
control-is (If e p q) b is = refl
control-is (Task d p) b is = refl
control-is (Wait w) b is = refl
control-is (Group o cs p) b is = refl

pub control-past : (x : S) (b : Body) → is_control x ≡ true → past_control (Next x b) ≡ b
control-past (Set c e) b is = cc
control-past (Fold o c e) b is = cc
control-past (If e p q) b is = refl
control-past (Task d p) b is = refl
control-past (Wait w) b is = refl
control-past (Group o cs p) b is = refl

pub none-past : (b : Body) → control_next b ≡ None → past_control b ≡ b
none-past End is = refl
none-past (Next (Set c e) b) is = refl
none-past (Next (Fold o c e) b) is = refl
none-past (Next (If e p q) b) is = cc
none-past (Next (Task d p) b) is = cc
none-past (Next (Wait w) b) is = cc
none-past (Next (Group o cs p) b) is = cc

pub none-branched : (taken : Bool) (b : Body) → control_next b ≡ None → branch_taken taken b ≡ b
none-branched taken End is = refl
none-branched taken (Next (Set c e) b) is = refl
none-branched taken (Next (Fold o c e) b) is = refl
none-branched taken (Next (If e p q) b) is = cc
none-branched taken (Next (Task d p) b) is = cc
none-branched taken (Next (Wait w) b) is = cc
none-branched taken (Next (Group o cs p) b) is = cc

pub other-branched : (taken : Bool) (x : S) (b : Body) → branch_of taken (Some x) ≡ None → branch_taken taken (Next x b) ≡ Next x b
other-branched taken (Set c e) b is = refl
other-branched taken (Fold o c e) b is = refl
other-branched taken (If e p q) b is = cc
other-branched taken (Task d p) b is = refl
other-branched taken (Wait w) b is = refl
other-branched taken (Group o cs p) b is = refl

pub if-branched : (taken : Bool) (x : S) (a b : Body) → branch_of taken (Some x) ≡ Some a → branch_taken taken (Next x b) ≡ append a b
if-branched taken (Set c e) a b is = cc
if-branched taken (Fold o c e) a b is = cc
if-branched taken (If e p q) a b is = ap (λ x. append x b) (same_Some _ _ is)
if-branched taken (Task d p) a b is = cc
if-branched taken (Wait w) a b is = cc
if-branched taken (Group o cs p) a b is = cc

-- ---- the sets and folds that come first

pub behind-left : (passed : Bool) (b : Body) → after_parts (rest_left passed b) ≡ after_parts b
behind-left true b = behind-behind b
behind-left false b = refl

pub next-condition : (b : Body) → leading b ≡ End → condition_of (control_next b) ≡ test_of (after_parts b)
next-condition End h = refl
next-condition (Next (Set c e) b) h = cc
next-condition (Next (Fold o c e) b) h = cc
next-condition (Next (If e p q) b) h = refl
next-condition (Next (Task d p) b) h = refl
next-condition (Next (Wait w) b) h = refl
next-condition (Next (Group o cs p) b) h = refl

-- a part whose run is all that comes first
pub alone-control : (m : Meaning) (rest : Body) → IsPart m → is_some m.control ≡ true
    → (m.run ≡ leading (append (append m.run (alone m.control)) rest)) × (condition_of m.control ≡ test_of (after_parts (append (append m.run (alone m.control)) rest)))
alone-control m rest part some = on m.control refl some
  where
    on : (o : Option S) → m.control ≡ o → is_some o ≡ true
        → (m.run ≡ leading (append (append m.run (alone m.control)) rest)) × (condition_of m.control ≡ test_of (after_parts (append (append m.run (alone m.control)) rest)))
    on None is some = cc
    on (Some x) is some =
        let first = control-first x rest (subst (λ o. IfSome o (λ x. is_control x ≡ true)) is part.1) in (
          sym (leading-first m rest part ∙ ap (λ o. append m.run (leading (append (alone o) rest))) is ∙ ap (append m.run) first.0 ∙ tree.append-End m.run),
          ap condition_of is ∙ sym first.2 ∙ sym (ap test_of (behind-first m rest part ∙ ap (λ o. after_parts (append (alone o) rest)) is ∙ first.1)),
        )

pub alone-last : (m : Meaning) → IsPart m → is_some m.control ≡ false
    → (m.run ≡ leading (append (append m.run (alone m.control)) End)) × (condition_of m.control ≡ test_of (after_parts (append (append m.run (alone m.control)) End)))
alone-last m part none = on m.control refl none
  where
    on : (o : Option S) → m.control ≡ o → is_some o ≡ false
        → (m.run ≡ leading (append (append m.run (alone m.control)) End)) × (condition_of m.control ≡ test_of (after_parts (append (append m.run (alone m.control)) End)))
    on (Some x) is none = cc
    on None is none = (
      sym (leading-first m End part ∙ ap (λ o. append m.run (leading (append (alone o) End))) is ∙ tree.append-End m.run),
      ap condition_of is ∙ sym (ap test_of (behind-first m End part ∙ ap (λ o. after_parts (append (alone o) End)) is)),
    )

-- the same of what is left
pub unpassed : (passed : Bool) (b now : Body) → rest_left passed b ≡ now → passed ≡ false → b ≡ now
unpassed true b now view is = cc
unpassed false b now view is = view

pub passed-leading : (passed : Bool) (b now : Body) → rest_left passed b ≡ now → passed ≡ true → leading now ≡ End
passed-leading true b now view is = ap leading (sym view) ∙ leading-behind b
passed-leading false b now view is = cc

abbrev pub IsAlone : Meaning → Body → Type 0
IsAlone m now = (m.run ≡ leading now) × (condition_of m.control ≡ test_of (after_parts now))

pub control-left : (passed : Bool) (f : Frames) (now : Body) (p : Part) → rest_left passed (parts_of (parts_left f)) ≡ now → passed ≡ false → IsPart (part_of p) → next_at f.inner ≡ Some p
    → is_some (part_of p).control ≡ true → IsAlone (part_of p) now
control-left passed f now p view is part next some =
    let left = next-parts f p next in
    subst (IsAlone (part_of p)) (ap parts_of (sym left) ∙ unpassed passed (parts_of (parts_left f)) now view is) (alone-control (part_of p) _ part some)

pub last-left : (passed : Bool) (f : Frames) (now : Body) (p : Part) → rest_left passed (parts_of (parts_left f)) ≡ now → passed ≡ false → IsPart (part_of p) → parts_left f ≡ p ∷ []
    → is_some (part_of p).control ≡ false → IsAlone (part_of p) now
last-left passed f now p view is part left none =
    subst (IsAlone (part_of p)) (ap parts_of (sym left) ∙ unpassed passed (parts_of (parts_left f)) now view is) (alone-last (part_of p) part none)

-- ---- conditions

pub condition-next : {A : Type 0} (f : A → Meaning) (o : Option A) (c : Option S) → MatchOption o (c ≡ None) (λ p. (x : S) × ((f p).control ≡ Some x) × (c ≡ Some x))
    → condition_at (option_map f o) ≡ condition_of c
condition-next f None c h = ap condition_of (sym h)
condition-next f (Some p) c h = ap condition_of (h.1 ∙ sym h.2)

-- ---- what a look at the next part tells

pub match-weaker : {A : Type 0} (o : Option A) (P Q : Type 0) (R T : A → Type 0) → (P → Q) → ((a : A) → R a → T a) → MatchOption o P R → MatchOption o Q T
match-weaker None P Q R T none some h = none h
match-weaker (Some a) P Q R T none some h = some a h

pub control-shown : (passed : Bool) (f : Frames) (b : Body) (p : Part) → rest_left passed (parts_of (parts_left f)) ≡ b → IsShown passed f p
    → (x : S) × ((part_of p).control ≡ Some x) × (control_next b ≡ Some x)
control-shown passed f b p view shown =
    let n = shown-next passed f p _ shown (next-parts f p shown.0) in
    (n.0, n.1, ap control_next (sym view ∙ n.2) ∙ control-is n.0 _ n.3)

pub past-shown : (passed : Bool) (f new : Frames) (b : Body) (p : Part) → rest_left passed (parts_of (parts_left f)) ≡ b → IsShown passed f p
    → ((p : Part) → next_at f.inner ≡ Some p → parts_left f ≡ p ∷ parts_left new) → parts_of (parts_left new) ≡ past_control b
past-shown passed f new b p view shown past =
    let n = shown-next passed f p (parts_left new) shown (past p shown.0) in
    sym (control-past n.0 (parts_of (parts_left new)) n.3) ∙ ap past_control (sym n.2 ∙ view)

pub other-shown : (taken passed : Bool) (f : Frames) (b : Body) (p : Part) → rest_left passed (parts_of (parts_left f)) ≡ b → IsShown passed f p → branch_of taken (part_of p).control ≡ None
    → b ≡ branch_taken taken b
other-shown taken passed f b p view shown other =
    let n = shown-next passed f p _ shown (next-parts f p shown.0) in
    sym (ap (branch_taken taken) (sym view ∙ n.2) ∙ other-branched taken n.0 _ (ap (branch_of taken) (sym n.1) ∙ other) ∙ sym n.2 ∙ view)

pub if-shown : (taken passed : Bool) (f new : Frames) (b : Body) (p : Part) (body : List Part) → rest_left passed (parts_of (parts_left f)) ≡ b → IsShown passed f p
    → branch_of taken (part_of p).control ≡ Some (parts_of body)
    → ((q : Part) (ps : List Part) → next_at f.inner ≡ Some q → parts_left f ≡ q ∷ ps → parts_left new ≡ body ++ ps) → parts_of (parts_left new) ≡ branch_taken taken b
if-shown taken passed f new b p body view shown is gone =
    let left = next-parts f p shown.0 in
    let n = shown-next passed f p _ shown left in
    ap parts_of (gone p _ shown.0 left) ∙ parts-append body _
    ∙ sym (ap (branch_taken taken) (sym view ∙ n.2) ∙ if-branched taken n.0 (parts_of body) _ (ap (branch_of taken) (sym n.1) ∙ is))

-- ---- a value behind a reference

pub map-now : {A B C : Type 0} (now : A → B) (view : B → C) (r : Option A) (o : Option B) → option_map now r ≡ o → option_map (λ a. view (now a)) r ≡ option_map view o
map-now now view None o is = ap (option_map view) is
map-now now view (Some a) o is = ap (option_map view) is
