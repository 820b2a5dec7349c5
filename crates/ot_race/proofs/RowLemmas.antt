-- Rows of children.
use Rattle.std.proofs.Common.{◌≡◌, ◌∙◌, ℕ, ◌≤◌, Bool, true, false, List, [], ◌∷◌, ◌++◌, refl, sym, ap, subst, inl, inr, arith, append-nil, append_assoc}
use Rattle.std.specs.Prelude.{◌⊎◌, Contains, cond, nat_lt, if◌then◌else◌}
use Rattle.std.proofs.lemmas.Bool.{cases_eq}
use Rattle.std.proofs.lemmas.Bool.Decides.{nat_tests}
use Rattle.std.proofs.lemmas.List.Elements.{Contains-append_left, Contains-append_right, Contains-append_cases, Contains-push, Contains-push_cases}
use Rattle.ot_model.specs.Cells.{one_writes}
use Rattle.ot_model.specs.declared.expr.Cell.{Cell}
use Rattle.ot_model.specs.declared.stmt.Mode.{Mode}
use Rattle.ot_model.specs.declared.stmt.Mode.TheVariants.{Reads, Writes, Folds}
use Rattle.ot_model.specs.declared.stmt.Use.{Use}
use Rattle.ot_check.proofs.Cited.{cells_equal}
use Rattle.ot_race.specs.Ends.{end_of, goes_on, going_on}
use Rattle.ot_race.specs.Siblings.{is_write, seen_in, siblings_seen, seen_by_all, IsLedTo, IsSeenBy, IsElsewhere, HaveEntered, HavePassed}
use Rattle.ot_race.specs.declared.siblings.Row.{Row}
use Rattle.ot_race.specs.declared.siblings.Siblings.{Siblings}

pub true_or_false : (b : Bool) → (b ≡ true) ⊎ (b ≡ false)
true_or_false true = inl refl
true_or_false false = inr refl

pub only_one : (x c : ℕ) → Contains (x ∷ []) c → x ≡ c
only_one x c l = elim (Contains-push_cases [] x c l) [ inl none ↦ absurd (omega (arith, none.1)) | inr is ↦ is ]

-- ---- those that go on

pub left_only : (ends : List ℕ) (n : ℕ) (xs : List ℕ) (c : ℕ) → Contains (going_on ends n xs) c → Contains xs c
left_only ends n [] c h = h
left_only ends n (x ∷ xs) c h =
    elim (true_or_false (goes_on ends n x)) [
      | inl on ↦
          elim (Contains-append_cases (x ∷ []) (going_on ends n xs) c (subst (λ b. Contains (cond b (x ∷ going_on ends n xs) (going_on ends n xs)) c) on h)) [
            | inl here ↦ Contains-append_left (x ∷ []) xs c here
            | inr there ↦ Contains-append_right (x ∷ []) xs c (left_only ends n xs c there)
          ]
      | inr over ↦
          Contains-append_right (x ∷ []) xs c
          (left_only ends n xs c (subst (λ b. Contains (cond b (x ∷ going_on ends n xs) (going_on ends n xs)) c) over h))
    ]

left_here : (ends : List ℕ) (n : ℕ) (x : ℕ) (xs : List ℕ) → goes_on ends n x ≡ true → Contains (going_on ends n (x ∷ xs)) x
left_here ends n x xs on =
    subst (λ b. Contains (cond b (x ∷ going_on ends n xs) (going_on ends n xs)) x) (sym on)
    (Contains-append_left (x ∷ []) (going_on ends n xs) x (Contains-push [] x))

left_there : (ends : List ℕ) (n : ℕ) (x : ℕ) (xs : List ℕ) (c : ℕ) → Contains (going_on ends n xs) c → Contains (going_on ends n (x ∷ xs)) c
left_there ends n x xs c h =
    elim (true_or_false (goes_on ends n x)) [
      | inl on ↦
          subst (λ b. Contains (cond b (x ∷ going_on ends n xs) (going_on ends n xs)) c) (sym on)
          (Contains-append_right (x ∷ []) (going_on ends n xs) c h)
      | inr over ↦ subst (λ b. Contains (cond b (x ∷ going_on ends n xs) (going_on ends n xs)) c) (sym over) h
    ]

pub left_kept : (ends : List ℕ) (n : ℕ) (xs : List ℕ) (c : ℕ) → Contains xs c → Contains (going_on ends n xs) c ⊎ (goes_on ends n c ≡ false)
left_kept ends n [] c h = inl h
left_kept ends n (x ∷ xs) c h =
    elim (Contains-append_cases (x ∷ []) xs c h) [
      | inl here ↦
          let is = only_one x c here in
          elim (true_or_false (goes_on ends n c)) [
            | inl on ↦ inl (subst (λ y. Contains (going_on ends n (y ∷ xs)) c) (sym is) (left_here ends n c xs on))
            | inr over ↦ inr over
          ]
      | inr there ↦ elim (left_kept ends n xs c there) [
        | inl left ↦ inl (left_there ends n x xs c left)
        | inr over ↦ inr over
      ]
    ]

pub is_over : (ends : List ℕ) (n c : ℕ) → goes_on ends n c ≡ false → end_of ends c ≤ n
is_over ends n c h = not_less n (end_of ends c) h
  where
    not_less : (n k : ℕ) → nat_lt n k ≡ false → k ≤ n
    not_less n k h = grind (arith, nat_tests)

-- ---- whom a mode sees

abbrev pub view : List ℕ → List ℕ → Mode → List ℕ
view ws us m = if is_write m then ws ++ us else ws

seen_cases : (ws us : List ℕ) (m : Mode) (c : ℕ) → Contains (view ws us m) c → Contains ws c ⊎ ((is_write m ≡ true) × Contains us c)
seen_cases ws us m c h =
    elim (true_or_false (is_write m)) [
      | inl w ↦ elim (Contains-append_cases ws us c (subst (λ b. Contains (if b then ws ++ us else ws) c) w h)) [
        | inl here ↦ inl here
        | inr there ↦ inr (w, there)
      ]
      | inr r ↦ inl (subst (λ b. Contains (if b then ws ++ us else ws) c) r h)
    ]

seen_writer : (ws us : List ℕ) (m : Mode) (c : ℕ) → Contains ws c → Contains (view ws us m) c
seen_writer ws us m c h =
    elim (true_or_false (is_write m)) [
      | inl w ↦ subst (λ b. Contains (if b then ws ++ us else ws) c) (sym w) (Contains-append_left ws us c h)
      | inr r ↦ subst (λ b. Contains (if b then ws ++ us else ws) c) (sym r) h
    ]

seen_user : (ws us : List ℕ) (m : Mode) (c : ℕ) → is_write m ≡ true → Contains us c → Contains (view ws us m) c
seen_user ws us m c w h = subst (λ b. Contains (if b then ws ++ us else ws) c) (sym w) (Contains-append_right ws us c h)

-- a write orders any two, and without one nothing does
first_writes : (m o : Mode) → is_write m ≡ true → one_writes m o ≡ true
first_writes Reads o h = cc
first_writes Writes o h = refl
first_writes (Folds p) o h = cc

second_writes : (m o : Mode) → is_write o ≡ true → one_writes m o ≡ true
second_writes Writes o h = refl
second_writes Reads Writes h = refl
second_writes Reads Reads h = cc
second_writes Reads (Folds p) h = cc
second_writes (Folds q) Writes h = refl
second_writes (Folds q) Reads h = cc
second_writes (Folds q) (Folds p) h = cc

is_second : (m o : Mode) → one_writes m o ≡ true → is_write m ≡ false → is_write o ≡ true
is_second Writes o h k = cc
is_second Reads Writes h k = refl
is_second Reads Reads h k = cc
is_second Reads (Folds p) h k = cc
is_second (Folds q) Writes h k = refl
is_second (Folds q) Reads h k = cc
is_second (Folds q) (Folds p) h k = cc

-- ---- a row that is passed

abbrev pub RowOnly : Row → Row → Type 0
RowOnly old new = (m : Mode) (c : ℕ) → Contains (seen_in new m) c → Contains (seen_in old m) c

abbrev pub RowKept : List ℕ → ℕ → Mode → Row → Row → Type 0
RowKept ends n mode old new = (m : Mode) (c : ℕ) → Contains (seen_in old m) c → Contains (seen_in new m) c ⊎ ((goes_on ends n c ≡ false) × Contains (seen_in old mode) c)

pub written_only : (ends : List ℕ) (n : ℕ) (old new : Row) → new.writers.items ≡ going_on ends n old.writers.items → new.users.items ≡ going_on ends n old.users.items
    → RowOnly old new
written_only ends n old new w u m c h =
    let ws = old.writers.items in
    let us = old.users.items in
    elim (seen_cases new.writers.items new.users.items m c h) [
      | inl here ↦ seen_writer ws us m c (left_only ends n ws c (subst (λ l. Contains l c) w here))
      | inr there ↦ seen_user ws us m c there.0 (left_only ends n us c (subst (λ l. Contains l c) u there.1))
    ]

pub written_kept : (ends : List ℕ) (n : ℕ) (mode : Mode) (old new : Row) → is_write mode ≡ true → new.writers.items ≡ going_on ends n old.writers.items
    → new.users.items ≡ going_on ends n old.users.items → RowKept ends n mode old new
written_kept ends n mode old new writes w u m c h =
    let ws = old.writers.items in
    let us = old.users.items in
    elim (seen_cases ws us m c h) [
      | inl here ↦ elim (left_kept ends n ws c here) [
        | inl left ↦ inl (seen_writer new.writers.items new.users.items m c (subst (λ l. Contains l c) (sym w) left))
        | inr over ↦ inr (over, seen_writer ws us mode c here)
      ]
      | inr there ↦ elim (left_kept ends n us c there.1) [
        | inl left ↦ inl (seen_user new.writers.items new.users.items m c there.0 (subst (λ l. Contains l c) (sym u) left))
        | inr over ↦ inr (over, seen_user ws us mode c writes there.1)
      ]
    ]

pub read_only : (ends : List ℕ) (n : ℕ) (old new : Row) → new.writers.items ≡ going_on ends n old.writers.items → new.users.items ≡ old.users.items
    → RowOnly old new
read_only ends n old new w u m c h =
    let ws = old.writers.items in
    let us = old.users.items in
    elim (seen_cases new.writers.items new.users.items m c h) [
      | inl here ↦ seen_writer ws us m c (left_only ends n ws c (subst (λ l. Contains l c) w here))
      | inr there ↦ seen_user ws us m c there.0 (subst (λ l. Contains l c) u there.1)
    ]

pub read_kept : (ends : List ℕ) (n : ℕ) (mode : Mode) (old new : Row) → new.writers.items ≡ going_on ends n old.writers.items
    → new.users.items ≡ old.users.items → RowKept ends n mode old new
read_kept ends n mode old new w u m c h =
    let ws = old.writers.items in
    let us = old.users.items in
    elim (seen_cases ws us m c h) [
      | inl here ↦ elim (left_kept ends n ws c here) [
        | inl left ↦ inl (seen_writer new.writers.items new.users.items m c (subst (λ l. Contains l c) (sym w) left))
        | inr over ↦ inr (over, seen_writer ws us mode c here)
      ]
      | inr there ↦ inl (seen_user new.writers.items new.users.items m c there.0 (subst (λ l. Contains l c) (sym u) there.1))
    ]

-- ---- a row with a child more

pub record RowEntered (ends : List ℕ) (n : ℕ) (child : ℕ) (mode : Mode) (old new : Row) : Type 0 where
  pub only : (m : Mode) (c : ℕ) → Contains (seen_in new m) c → Contains (seen_in old m) c ⊎ ((c ≡ child) × (one_writes mode m ≡ true))
  pub kept : (m : Mode) (c : ℕ) → Contains (seen_in old m) c
      → Contains (seen_in new m) c ⊎ ((goes_on ends n c ≡ false) × Contains (seen_in old mode) c × Contains (seen_in new m) child)
  pub entered : (m : Mode) → one_writes mode m ≡ true → Contains (seen_in new m) child

pub writer_entered : (ends : List ℕ) (n : ℕ) (child : ℕ) (mode : Mode) (old mid new : Row) → is_write mode ≡ true → RowOnly old mid → RowKept ends n mode old mid
    → new.writers.items ≡ mid.writers.items ++ child ∷ [] → new.users.items ≡ mid.users.items → RowEntered ends n child mode old new
writer_entered ends n child mode old mid new writes only kept w u =
    let ws = new.writers.items in
    let us = new.users.items in
    let child-in : (m : Mode) → Contains (seen_in new m) child = λ m.
    seen_writer ws us m child (subst (λ l. Contains l child) (sym w) (Contains-push mid.writers.items child)) in
    record {
      only = λ m c h. elim (seen_cases ws us m c h) [
        | inl here ↦ elim (Contains-push_cases mid.writers.items child c (subst (λ l. Contains l c) w here)) [
          | inl before ↦ inl (only m c (seen_writer mid.writers.items mid.users.items m c before))
          | inr is ↦ inr (sym is, first_writes mode m writes)
        ]
        | inr there ↦ inl (only m c (seen_user mid.writers.items mid.users.items m c there.0 (subst (λ l. Contains l c) u there.1)))
      ];
      kept = λ m c h. elim (kept m c h) [
        | inl left ↦ elim (seen_cases mid.writers.items mid.users.items m c left) [
          | inl here ↦ inl (seen_writer ws us m c (subst (λ l. Contains l c) (sym w) (Contains-append_left mid.writers.items (child ∷ []) c here)))
          | inr there ↦ inl (seen_user ws us m c there.0 (subst (λ l. Contains l c) (sym u) there.1))
        ]
        | inr over ↦ inr (over.0, over.1, child-in m)
      ];
      entered = λ m led. child-in m;
    }

pub user_entered : (ends : List ℕ) (n : ℕ) (child : ℕ) (mode : Mode) (old new : Row) → is_write mode ≡ false → new.writers.items ≡ old.writers.items
    → new.users.items ≡ old.users.items ++ child ∷ [] → RowEntered ends n child mode old new
user_entered ends n child mode old new reads w u =
    let ws = new.writers.items in
    let us = new.users.items in
    record {
      only = λ m c h. elim (seen_cases ws us m c h) [
        | inl here ↦ inl (seen_writer old.writers.items old.users.items m c (subst (λ l. Contains l c) w here))
        | inr there ↦ elim (Contains-push_cases old.users.items child c (subst (λ l. Contains l c) u there.1)) [
          | inl before ↦ inl (seen_user old.writers.items old.users.items m c there.0 before)
          | inr is ↦ inr (sym is, second_writes mode m there.0)
        ]
      ];
      kept = λ m c h. elim (seen_cases old.writers.items old.users.items m c h) [
        | inl here ↦ inl (seen_writer ws us m c (subst (λ l. Contains l c) (sym w) here))
        | inr there ↦ inl (seen_user ws us m c there.0 (subst (λ l. Contains l c) (sym u) (Contains-append_left old.users.items (child ∷ []) c there.1)))
      ];
      entered = λ m led.
          seen_user ws us m child (is_second mode m led reads) (subst (λ l. Contains l child) (sym u) (Contains-push old.users.items child));
    }

-- ---- all rows, after one of them

-- one row was put in the place of another
pub record RowPut (parent : ℕ) (cell : Cell) (old new : Siblings) (before behind : Row) : Type 0 where
  pub others : (p : ℕ) (u : Use) → IsElsewhere parent cell p u → siblings_seen new p u ≡ siblings_seen old p u
  pub was : (u : Use) → u.cell ≡ cell → siblings_seen old parent u ≡ seen_in before u.mode
  pub is : (u : Use) → u.cell ≡ cell → siblings_seen new parent u ≡ seen_in behind u.mode

elsewhere : (parent p : ℕ) (cell : Cell) (u : Use) → ((p ≡ parent) × (u.cell ≡ cell)) ⊎ IsElsewhere parent cell p u
elsewhere parent p cell u =
    elim (cases_eq p parent) [
      | inl same ↦ elim (cells_equal u.cell cell) [ inl here ↦ inl (same, here) | inr apart ↦ inr (inr apart) ]
      | inr apart ↦ inr (inl apart)
    ]

one_used : (used : Use) → Contains (used ∷ []) used
one_used used = Contains-push [] used

pub is_used : (used u : Use) → Contains (used ∷ []) u → used ≡ u
is_used used u l = elim (Contains-push_cases [] used u l) [ inl none ↦ absurd (omega (arith, none.1)) | inr is ↦ is ]

pub put_entered : (ends : List ℕ) (n parent child : ℕ) (used : Use) (old new : Siblings) (before behind : Row) → RowPut parent used.cell old new before behind
    → RowEntered ends n child used.mode before behind → HaveEntered ends n parent child (used ∷ []) old new
put_entered ends n parent child used old new before behind put e = record {
  only = λ p c u h. elim (elsewhere parent p used.cell u) [
    | inl here ↦
        let in-row : Contains (seen_in behind u.mode) c = subst (λ l. Contains l c) (put.is u here.1) (subst (λ q. Contains (siblings_seen new q u) c) here.0 h) in
        elim (e.only u.mode c in-row) [
          | inl past ↦ inl (subst (λ q. Contains (siblings_seen old q u) c) (sym here.0) (subst (λ l. Contains l c) (sym (put.was u here.1)) past))
          | inr more ↦ inr (here.0, more.0, record { one = used; there = one_used used; same = sym here.1; written = more.1 })
        ]
    | inr apart ↦ inl (subst (λ l. Contains l c) (put.others p u apart) h)
  ];
  kept = λ p c u h. elim (elsewhere parent p used.cell u) [
    | inl here ↦
        let in-row : Contains (seen_in before u.mode) c = subst (λ l. Contains l c) (put.was u here.1) (subst (λ q. Contains (siblings_seen old q u) c) here.0 h) in
        elim (e.kept u.mode c in-row) [
          | inl left ↦ inl (subst (λ q. Contains (siblings_seen new q u) c) (sym here.0) (subst (λ l. Contains l c) (sym (put.is u here.1)) left))
          | inr over ↦ inr (
            here.0,
            over.0,
            record { one = used; there = one_used used; same = sym here.1; sees = subst (λ l. Contains l c) (sym (put.was used refl)) over.1 },
            subst (λ q. Contains (siblings_seen new q u) child) (sym here.0) (subst (λ l. Contains l child) (sym (put.is u here.1)) over.2),
          )
        ]
    | inr apart ↦ inl (subst (λ l. Contains l c) (sym (put.others p u apart)) h)
  ];
  entered = λ u led.
      let is = is_used used led.one led.there in
      let same : u.cell ≡ used.cell = sym led.same ∙ sym (ap (λ (v : Use). v.cell) is) in
      let written : one_writes used.mode u.mode ≡ true = ap (λ (v : Use). one_writes v.mode u.mode) is ∙ led.written in
      subst (λ l. Contains l child) (sym (put.is u same)) (e.entered u.mode written);
}

pub put_passed : (ends : List ℕ) (n parent : ℕ) (used : Use) (old new : Siblings) (before behind : Row) → RowPut parent used.cell old new before behind
    → RowOnly before behind → RowKept ends n used.mode before behind → HavePassed ends n parent (used ∷ []) old new
put_passed ends n parent used old new before behind put only kept = record {
  only = λ p c u h. elim (elsewhere parent p used.cell u) [
    | inl here ↦
        let in-row : Contains (seen_in behind u.mode) c = subst (λ l. Contains l c) (put.is u here.1) (subst (λ q. Contains (siblings_seen new q u) c) here.0 h) in
        subst (λ q. Contains (siblings_seen old q u) c) (sym here.0) (subst (λ l. Contains l c) (sym (put.was u here.1)) (only u.mode c in-row))
    | inr apart ↦ subst (λ l. Contains l c) (put.others p u apart) h
  ];
  kept = λ p c u h. elim (elsewhere parent p used.cell u) [
    | inl here ↦
        let in-row : Contains (seen_in before u.mode) c = subst (λ l. Contains l c) (put.was u here.1) (subst (λ q. Contains (siblings_seen old q u) c) here.0 h) in
        elim (kept u.mode c in-row) [
          | inl left ↦ inl (subst (λ q. Contains (siblings_seen new q u) c) (sym here.0) (subst (λ l. Contains l c) (sym (put.is u here.1)) left))
          | inr over ↦ inr (
            here.0,
            over.0,
            record { one = used; there = one_used used; same = sym here.1; sees = subst (λ l. Contains l c) (sym (put.was used refl)) over.1 },
          )
        ]
    | inr apart ↦ inl (subst (λ l. Contains l c) (sym (put.others p u apart)) h)
  ];
}

-- ---- one use after others

abbrev pub some_use : Use
some_use = record { cell = record { array = 0; index = 0 }; mode = Reads }

pub seen_more : (s : Siblings) (p : ℕ) (us : List Use) (u : Use) → seen_by_all s p (us ++ u ∷ []) ≡ seen_by_all s p us ++ siblings_seen s p u
seen_more s p [] u = append-nil (siblings_seen s p u)
seen_more s p (v ∷ us) u = ap (λ l. siblings_seen s p v ++ l) (seen_more s p us u) ∙ sym (append_assoc (siblings_seen s p v) (seen_by_all s p us) (siblings_seen s p u))

led_weaker : (xs ys : List Use) (u : Use) → IsLedTo xs u → IsLedTo (xs ++ ys) u
led_weaker xs ys u l = record { one = l.one; there = Contains-append_left xs ys l.one l.there; same = l.same; written = l.written }

led_last : (xs ys : List Use) (u : Use) → IsLedTo ys u → IsLedTo (xs ++ ys) u
led_last xs ys u l = record { one = l.one; there = Contains-append_right xs ys l.one l.there; same = l.same; written = l.written }

seen_weaker : (s : Siblings) (p : ℕ) (xs ys : List Use) (cell : Cell) (c : ℕ) → IsSeenBy s p xs cell c → IsSeenBy s p (xs ++ ys) cell c
seen_weaker s p xs ys cell c l = record { one = l.one; there = Contains-append_left xs ys l.one l.there; same = l.same; sees = l.sees }

pub nothing_entered : (ends : List ℕ) (n parent child : ℕ) (s : Siblings) → HaveEntered ends n parent child [] s s
nothing_entered ends n parent child s = record {
  only = λ p c u h. inl h;
  kept = λ p c u h. inl h;
  entered = λ u led. absurd (omega (arith, led.there.1));
}

pub more_entered : (ends : List ℕ) (n parent child : ℕ) (xs ys : List Use) (old mid new : Siblings) → HaveEntered ends n parent child xs old mid
    → HaveEntered ends n parent child ys mid new → HaveEntered ends n parent child (xs ++ ys) old new
more_entered ends n parent child xs ys old mid new a b = record {
  only = λ p c u h. elim (b.only p c u h) [
    | inl past ↦ elim (a.only p c u past) [
      | inl first ↦ inl first
      | inr more ↦ inr (more.0, more.1, led_weaker xs ys u more.2)
    ]
    | inr more ↦ inr (more.0, more.1, led_last xs ys u more.2)
  ];
  kept = λ p c u h. elim (a.kept p c u h) [
    | inl left ↦ elim (b.kept p c u left) [
      | inl still ↦ inl still
      | inr over ↦
          let by = over.2 in
          elim (a.only parent c by.one by.sees) [
            | inl first ↦ inr (
              over.0,
              over.1,
              record { one = by.one; there = Contains-append_right xs ys by.one by.there; same = by.same; sees = first },
              over.3,
            )
            | inr more ↦ inl (subst (λ x. Contains (siblings_seen new p u) x) (sym more.1) over.3)
          ]
    ]
    | inr over ↦ elim (b.kept p child u over.3) [
      | inl still ↦ inr (over.0, over.1, seen_weaker old parent xs ys u.cell c over.2, still)
      | inr again ↦ inr (over.0, over.1, seen_weaker old parent xs ys u.cell c over.2, again.3)
    ]
  ];
  entered = λ u led. elim (Contains-append_cases xs ys led.one led.there) [
    | inl first ↦
        let there = a.entered u (record { one = led.one; there = first; same = led.same; written = led.written }) in
        elim (b.kept parent child u there) [ inl still ↦ still | inr again ↦ again.3 ]
    | inr last ↦ b.entered u (record { one = led.one; there = last; same = led.same; written = led.written })
  ];
}

pub nothing_passed : (ends : List ℕ) (n parent : ℕ) (uses : List Use) (s : Siblings) → HavePassed ends n parent uses s s
nothing_passed ends n parent uses s = record { only = λ p c u h. h; kept = λ p c u h. inl h }

pub more_passed : (ends : List ℕ) (n parent : ℕ) (xs ys : List Use) (old mid new : Siblings) → HavePassed ends n parent xs old mid
    → HavePassed ends n parent ys mid new → HavePassed ends n parent (xs ++ ys) old new
more_passed ends n parent xs ys old mid new a b = record {
  only = λ p c u h. a.only p c u (b.only p c u h);
  kept = λ p c u h. elim (a.kept p c u h) [
    | inl left ↦ elim (b.kept p c u left) [
      | inl still ↦ inl still
      | inr over ↦
          let by = over.2 in
          inr (
            over.0,
            over.1,
            record { one = by.one; there = Contains-append_right xs ys by.one by.there; same = by.same; sees = a.only parent c by.one by.sees },
          )
    ]
    | inr over ↦ inr (over.0, over.1, seen_weaker old parent xs ys u.cell c over.2)
  ];
}
