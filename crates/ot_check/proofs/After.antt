-- The walk's children are those of all paths.
use Rattle.std.proofs.Common.{◌≡◌, ◌⊎◌, ℕ, ◌+◌, ◌++◌, Bool, true, false, not, ◌&&◌, ◌||◌, List, [], ◌∷◌, refl, sym, ap, inl, inr, ◌∙◌, subst, append-nil, true≢false}
use Rattle.std.specs.List.{list_any}
use Rattle.ot_model.specs.Tree.{S, Set, Fold, If, Task, Wait, Group, Body, End, Next, size, size_one}
use Rattle.ot_model.specs.declared.stmt.Use.{Use}
use Rattle.ot_check.specs.Offences.{Create, Await, Enter, Leave, Step, At, touch_steps, touches, PassesOne, Passes, awaits, is_awaited, unawaited_uses}
use Rattle.ot_check.specs.Discipline.{Children, nobody, through, through_one, behind, behind_one}
use Rattle.ot_check.proofs.Steps.{some_unawaited, IsClosed, awaited-append, touched-awaited, touched-unawaited, passes-closed, unawaited-append, unawaited-group}
use Rattle.ot_check.proofs.Bits.{or_true, true_or, or_right, and_left, and_right, and_true, not_true, true_not, or_false_left, or_false_right, false_or, or_none, or_false}

-- ---- some path

mutual
  pub some_path_one : (k : ℕ) (x : S) → (path : List Step) × PassesOne k x path
  some_path_one k (Set c e) = (_, refl)
  some_path_one k (Fold o c e) = (_, refl)
  some_path_one k (If e a b) = let p = some_path (k + 1) a in (_, (p.0, refl, inl p.1))
  some_path_one k (Task d b) = (_, refl)
  some_path_one k (Wait w) = (_, refl)
  some_path_one k (Group o cs b) = let p = some_path (k + 1) b in (_, (p.0, refl, p.1))

  pub some_path : (k : ℕ) (b : Body) → (path : List Step) × Passes k b path
  some_path k End = (_, refl)
  some_path k (Next x rest) = let p = some_path_one k x in let q = some_path (k + size_one x) rest in (_, (p.0, q.0, refl, p.1, q.1))

-- ---- a child that is there before

awaited-inside : (d : List Use) (k : ℕ) (uses : List Use) (inside : List Step) → is_awaited d (touch_steps k uses ++ inside) ≡ is_awaited d inside
awaited-inside d k uses inside = awaited-append d (touch_steps k uses) inside ∙ ap (λ b. b || is_awaited d inside) (touched-awaited d k uses)

awaited-group : (d : List Use) (k : ℕ) (inside : List Step) → is_awaited d (inside ++ At k Leave ∷ []) ≡ is_awaited d inside
awaited-group d k inside = awaited-append d inside (At k Leave ∷ []) ∙ or_none (is_awaited d inside)

-- a path that doesn't await it
mutual
  through-from_one : (d : List Use) (k : ℕ) (x : S) (path : List Step) → PassesOne k x path → is_awaited d path ≡ false → through_one d x ≡ true
  through-from_one d k (Set c e) path is none = refl
  through-from_one d k (Fold o c e) path is none = refl
  through-from_one d k (If e a b) path (inside, is, inl h) none =
      true_or (through d a) (through d b) (through-from d (k + 1) a inside h (sym (awaited-inside d k (touches (If e a b)) inside) ∙ ap (is_awaited d) (sym is) ∙ none))
  through-from_one d k (If e a b) path (inside, is, inr h) none =
      or_right (through d a) (through d b) (through-from d (k + 1 + size a) b inside h (sym (awaited-inside d k (touches (If e a b)) inside) ∙ ap (is_awaited d) (sym is) ∙ none))
  through-from_one d k (Task uses b) path is none = refl
  through-from_one d k (Wait w) path is none = true_not (awaits w d) (sym (or_none (awaits w d)) ∙ ap (is_awaited d) (sym is) ∙ none)
  through-from_one d k (Group o cs b) path (inside, is, h) none =
      through-from d (k + 1) b inside h (sym (awaited-group d k inside) ∙ ap (is_awaited d) (sym is) ∙ none)

  pub through-from : (d : List Use) (k : ℕ) (b : Body) (path : List Step) → Passes k b path → is_awaited d path ≡ false → through d b ≡ true
  through-from d k End path is none = refl
  through-from d k (Next x rest) path (one, later, is, h, g) none =
      let parts : (is_awaited d one || is_awaited d later) ≡ false = sym (awaited-append d one later) ∙ ap (is_awaited d) (sym is) ∙ none in
      and_true (through_one d x) (through d rest) (through-from_one d k x one h (or_false_left (is_awaited d one) (is_awaited d later) parts))
      (through-from d (k + size_one x) rest later g (or_false_right (is_awaited d one) (is_awaited d later) parts))

mutual
  through-to_one : (d : List Use) (k : ℕ) (x : S) → through_one d x ≡ true → (path : List Step) × PassesOne k x path × (is_awaited d path ≡ false)
  through-to_one d k (Set c e) h = (_, refl, touched-awaited d k (touches (Set c e)))
  through-to_one d k (Fold o c e) h = (_, refl, touched-awaited d k (touches (Fold o c e)))
  through-to_one d k (If e a b) h =
      elim (or_true (through d a) (through d b) h) [
        | inl one ↦ let p = through-to d (k + 1) a one in (_, (p.0, refl, inl p.1), awaited-inside d k (touches (If e a b)) p.0 ∙ p.2)
        | inr two ↦ let p = through-to d (k + 1 + size a) b two in (_, (p.0, refl, inr p.1), awaited-inside d k (touches (If e a b)) p.0 ∙ p.2)
      ]
  through-to_one d k (Task uses b) h = (_, refl, refl)
  through-to_one d k (Wait w) h = (_, refl, or_none (awaits w d) ∙ not_true (awaits w d) h)
  through-to_one d k (Group o cs b) h = let p = through-to d (k + 1) b h in (_, (p.0, refl, p.1), awaited-group d k p.0 ∙ p.2)

  pub through-to : (d : List Use) (k : ℕ) (b : Body) → through d b ≡ true → (path : List Step) × Passes k b path × (is_awaited d path ≡ false)
  through-to d k End h = (_, refl, refl)
  through-to d k (Next x rest) h =
      let p = through-to_one d k x (and_left (through_one d x) (through d rest) h) in
      let q = through-to d (k + size_one x) rest (and_right (through_one d x) (through d rest) h) in
      (_, (p.0, q.0, refl, p.1, q.1), awaited-append d p.0 q.0 ∙ false_or (is_awaited d p.0) (is_awaited d q.0) p.2 q.2)

-- ---- children

-- what is true of some child is true of one that is there
pub IsListed : Children → Type 0
IsListed children = (f : List Use → Bool) → children f ≡ true → (d : List Use) × (f d ≡ true) × ((g : List Use → Bool) → g d ≡ true → children g ≡ true)

pub listed-more : (children : Children) → IsListed children → (f g : List Use → Bool) → ((d : List Use) → f d ≡ true → g d ≡ true) → children f ≡ true → children g ≡ true
unfolding IsListed
listed-more children listed f g more h = let one = listed f h in one.2 g (more one.0 one.1)

pub listed-nobody : IsListed nobody
unfolding IsListed
listed-nobody f h = absurd (true≢false (sym h))

pub listed-list : (ds : List (List Use)) → IsListed (λ test. list_any test ds)
unfolding IsListed
listed-list [] f h = absurd (true≢false (sym h))
listed-list (d ∷ ds) f h = elim (or_true (f d) (list_any f ds) h) [
  | inl here ↦ (d, here, λ g is. true_or (g d) (list_any g ds) is)
  | inr later ↦ let one = listed-list ds f later in (one.0, one.1, λ g is. or_right (g d) (list_any g ds) (one.2 g is))
]

-- a child that passes the test and that the path doesn't await
abbrev pub kept : (List Use → Bool) → List Step → List Use → Bool
kept test path d = test d && not (is_awaited d path)

kept-test : (test : List Use → Bool) (path : List Step) (d : List Use) → kept test path d ≡ true → test d ≡ true
kept-test test path d h = and_left (test d) (not (is_awaited d path)) h

kept-none : (test : List Use → Bool) (path : List Step) (d : List Use) → kept test path d ≡ true → is_awaited d path ≡ false
kept-none test path d h = not_true (is_awaited d path) (and_right (test d) (not (is_awaited d path)) h)

kept-is : (test : List Use → Bool) (path : List Step) (d : List Use) → test d ≡ true → is_awaited d path ≡ false → kept test path d ≡ true
kept-is test path d h none = and_true (test d) (not (is_awaited d path)) h (true_not (is_awaited d path) none)

-- the children that may be unawaited behind a path, where these may be before it
pub left_by : Children → List Step → Children
left_by before path test = before (kept test path) || some_unawaited test path

-- those from before, or those made on it
Left : Children → List Step → (List Use → Bool) → Type 0
Left before path test = (before (kept test path) ≡ true) ⊎ (some_unawaited test path ≡ true)

pub left-is : (before : Children) (path : List Step) (test : List Use → Bool) → left_by before path test ≡ (before (kept test path) || some_unawaited test path)
unfolding left_by
left-is before path test = refl

left-parts : (before : Children) (path : List Step) (test : List Use → Bool) → left_by before path test ≡ true → Left before path test
unfolding left_by Left
left-parts before path test h = or_true (before (kept test path)) (some_unawaited test path) h

left-from : (before : Children) (path : List Step) (test : List Use → Bool) → Left before path test → left_by before path test ≡ true
unfolding left_by Left
left-from before path test (inl h) = true_or (before (kept test path)) (some_unawaited test path) h
left-from before path test (inr h) = or_right (before (kept test path)) (some_unawaited test path) h

pub listed-left : (before : Children) (path : List Step) → IsListed before → IsListed (left_by before path)
unfolding IsListed Left
listed-left before path listed f h = elim (left-parts before path f h) [
  | inl old ↦ let one = listed (kept f path) old in
      (one.0, kept-test f path one.0 one.1, λ g is. left-from before path g (inl (one.2 (kept g path) (kept-is g path one.0 is (kept-none f path one.0 one.1)))))
  | inr new ↦ let one = listed-list (unawaited_uses path) f new in (one.0, one.1, λ g is. left-from before path g (inr (one.2 g is)))
]

mutual
  unfolding IsListed

  pub listed-behind_one : (before : Children) (x : S) → IsListed before → IsListed (behind_one before x)
  listed-behind_one before (Set c e) listed f h = listed f h
  listed-behind_one before (Fold o c e) listed f h = listed f h
  listed-behind_one before (If e a b) listed f h = elim (or_true (behind before a f) (behind before b f) h) [
    | inl one ↦ let d = listed-behind before a listed f one in (d.0, d.1, λ g is. true_or (behind before a g) (behind before b g) (d.2 g is))
    | inr two ↦ let d = listed-behind before b listed f two in (d.0, d.1, λ g is. or_right (behind before a g) (behind before b g) (d.2 g is))
  ]
  listed-behind_one before (Task uses b) listed f h = elim (or_true (before f) (f uses) h) [
    | inl old ↦ let d = listed f old in (d.0, d.1, λ g is. true_or (before g) (g uses) (d.2 g is))
    | inr new ↦ (uses, new, λ g is. or_right (before g) (g uses) is)
  ]
  listed-behind_one before (Wait w) listed f h =
      let d = listed (λ d. f d && not (awaits w d)) h in
      (d.0, and_left (f d.0) (not (awaits w d.0)) d.1, λ g is. d.2 (λ d. g d && not (awaits w d)) (and_true (g d.0) (not (awaits w d.0)) is (and_right (f d.0) (not (awaits w d.0)) d.1)))
  listed-behind_one before (Group o cs b) listed f h =
      let d = listed (λ d. f d && through d b) h in
      (d.0, and_left (f d.0) (through d.0 b) d.1, λ g is. d.2 (λ d. g d && through d b) (and_true (g d.0) (through d.0 b) is (and_right (f d.0) (through d.0 b) d.1)))

  pub listed-behind : (before : Children) (b : Body) → IsListed before → IsListed (behind before b)
  listed-behind before End listed f h = listed f h
  listed-behind before (Next x rest) listed f h = listed-behind (behind_one before x) rest (listed-behind_one before x listed) f h

-- ---- paths in two parts

module _ (before : Children) (listed : IsListed before) where
  more : (f g : List Use → Bool) → ((d : List Use) → f d ≡ true → g d ≡ true) → before f ≡ true → before g ≡ true
  more = listed-more before listed

  left-later : (test : List Use → Bool) (one later : List Step) → IsClosed later → left_by before (one ++ later) test ≡ true → left_by (left_by before one) later test ≡ true
  unfolding Left
  left-later test one later closed h = left-from (left_by before one) later test (elim (left-parts before (one ++ later) test h) [
    | inl old ↦ inl (left-from before one (kept test later) (inl (more (kept test (one ++ later)) (kept (kept test later) one) (λ d is.
        let parts : (is_awaited d one || is_awaited d later) ≡ false = sym (awaited-append d one later) ∙ kept-none test (one ++ later) d is in
        kept-is (kept test later) one d (kept-is test later d (kept-test test (one ++ later) d is) (or_false_right (is_awaited d one) (is_awaited d later) parts))
        (or_false_left (is_awaited d one) (is_awaited d later) parts)) old)))
    | inr new ↦ elim (or_true (some_unawaited (kept test later) one) (some_unawaited test later) (sym (unawaited-append test one later closed) ∙ new)) [
      | inl first ↦ inl (left-from before one (kept test later) (inr first))
      | inr second ↦ inr second
    ]
  ])

  left-whole : (test : List Use → Bool) (one later : List Step) → IsClosed later → left_by (left_by before one) later test ≡ true → left_by before (one ++ later) test ≡ true
  unfolding Left
  left-whole test one later closed h = left-from before (one ++ later) test (elim (left-parts (left_by before one) later test h) [
    | inl first ↦ elim (left-parts before one (kept test later) first) [
      | inl old ↦ inl (more (kept (kept test later) one) (kept test (one ++ later)) (λ d is.
          let inner : kept test later d ≡ true = kept-test (kept test later) one d is in
          kept-is test (one ++ later) d (kept-test test later d inner)
          (awaited-append d one later ∙ false_or (is_awaited d one) (is_awaited d later) (kept-none (kept test later) one d is) (kept-none test later d inner))) old)
      | inr made ↦ inr (unawaited-append test one later closed ∙ true_or (some_unawaited (kept test later) one) (some_unawaited test later) made)
    ]
    | inr second ↦ inr (unawaited-append test one later closed ∙ or_right (some_unawaited (kept test later) one) (some_unawaited test later) second)
  ])

  -- paths that await the same and leave the same
  left-same : (test : List Use → Bool) (one two : List Step) → ((d : List Use) → is_awaited d one ≡ is_awaited d two) → some_unawaited test one ≡ some_unawaited test two
      → left_by before one test ≡ true → left_by before two test ≡ true
  unfolding Left
  left-same test one two same made h = left-from before two test (elim (left-parts before one test h) [
    | inl old ↦ inl (more (kept test one) (kept test two) (λ d is. kept-is test two d (kept-test test one d is) (sym (same d) ∙ kept-none test one d is)) old)
    | inr new ↦ inr (sym made ∙ new)
  ])

  -- a path on which no child is made that stays
  left-old : (test : List Use → Bool) (path : List Step) → some_unawaited test path ≡ false → left_by before path test ≡ true → before (kept test path) ≡ true
  unfolding Left
  left-old test path none h = elim (left-parts before path test h) [ inl old ↦ old | inr new ↦ absurd (true≢false (sym new ∙ none)) ]

  left-kept : (test : List Use → Bool) (path : List Step) → some_unawaited test path ≡ false → left_by before path test ≡ true → before test ≡ true
  left-kept test path none h = more (kept test path) test (λ d is. kept-test test path d is) (left-old test path none h)

  left-all : (test : List Use → Bool) (path : List Step) → ((d : List Use) → is_awaited d path ≡ false) → before test ≡ true → left_by before path test ≡ true
  unfolding Left
  left-all test path none h = left-from before path test (inl (more test (kept test path) (λ d is. kept-is test path d is (none d)) h))

touched-none : (test : List Use → Bool) (k : ℕ) (uses : List Use) → some_unawaited test (touch_steps k uses) ≡ false
touched-none test k uses = ap (some_unawaited test) (sym (append-nil (touch_steps k uses))) ∙ touched-unawaited test k uses []

-- ---- what is unawaited on a path is carried by the walk
mutual
  unfolding Left

  pub behind-from_one : (k : ℕ) (x : S) (path : List Step) → PassesOne k x path → (p q : Children) → IsListed p → IsListed q
      → ((test : List Use → Bool) → p test ≡ true → q test ≡ true) → (test : List Use → Bool) → left_by p path test ≡ true → behind_one q x test ≡ true
  behind-from_one k (Set c e) path is p q lp lq more test h = more test (left-kept p lp test path (ap (some_unawaited test) is ∙ touched-none test k (touches (Set c e))) h)
  behind-from_one k (Fold o c e) path is p q lp lq more test h = more test (left-kept p lp test path (ap (some_unawaited test) is ∙ touched-none test k (touches (Fold o c e))) h)
  behind-from_one k (If e a b) path (inside, is, inl g) p q lp lq more test h =
      true_or (behind q a test) (behind q b test) (behind-from (k + 1) a inside g p q lp lq more test
      (left-same p lp test path inside (λ d. ap (is_awaited d) is ∙ awaited-inside d k (touches (If e a b)) inside) (ap (some_unawaited test) is ∙ touched-unawaited test k (touches (If e a b)) inside) h))
  behind-from_one k (If e a b) path (inside, is, inr g) p q lp lq more test h =
      or_right (behind q a test) (behind q b test) (behind-from (k + 1 + size a) b inside g p q lp lq more test
      (left-same p lp test path inside (λ d. ap (is_awaited d) is ∙ awaited-inside d k (touches (If e a b)) inside) (ap (some_unawaited test) is ∙ touched-unawaited test k (touches (If e a b)) inside) h))
  behind-from_one k (Task uses b) path is p q lp lq more test h = elim (left-parts p path test h) [
    | inl old ↦ true_or (q test) (test uses) (more test (listed-more p lp (kept test path) test (λ d on. kept-test test path d on) old))
    | inr new ↦ or_right (q test) (test uses) (or_false (test uses) (ap (some_unawaited test) (sym is) ∙ new))
  ]
  behind-from_one k (Wait w) path is p q lp lq more test h =
      more (λ d. test d && not (awaits w d))
      (listed-more p lp (kept test path) (λ d. test d && not (awaits w d)) (λ d on. and_true (test d) (not (awaits w d)) (kept-test test path d on)
      (true_not (awaits w d) (sym (or_none (awaits w d)) ∙ ap (is_awaited d) (sym is) ∙ kept-none test path d on)))
      (left-old p lp test path (ap (some_unawaited test) is) h))
  behind-from_one k (Group o cs b) path (inside, is, g) p q lp lq more test h =
      more (λ d. test d && through d b)
      (listed-more p lp (kept test path) (λ d. test d && through d b) (λ d on. and_true (test d) (through d b) (kept-test test path d on)
      (through-from d (k + 1) b inside g (sym (awaited-group d k inside) ∙ ap (is_awaited d) (sym is) ∙ kept-none test path d on)))
      (left-old p lp test path (ap (some_unawaited test) is ∙ unawaited-group test k o cs b inside g) h))

  pub behind-from : (k : ℕ) (b : Body) (path : List Step) → Passes k b path → (p q : Children) → IsListed p → IsListed q
      → ((test : List Use → Bool) → p test ≡ true → q test ≡ true) → (test : List Use → Bool) → left_by p path test ≡ true → behind q b test ≡ true
  behind-from k End path is p q lp lq more test h = more test (left-kept p lp test path (ap (some_unawaited test) is) h)
  behind-from k (Next x rest) path (one, later, is, g, f) p q lp lq more test h =
      behind-from (k + size_one x) rest later f (left_by p one) (behind_one q x) (listed-left p one lp) (listed-behind_one q x lq)
      (behind-from_one k x one g p q lp lq more) test
      (left-later p lp test one later (passes-closed (k + size_one x) rest later f) (subst (λ (t : List Step). left_by p t test ≡ true) is h))

-- ---- what the walk carries is unawaited on some path
mutual
  unfolding Left IsListed

  pub behind-to_one : (k : ℕ) (x : S) (p : Children) → IsListed p → (test : List Use → Bool) → behind_one p x test ≡ true
      → (path : List Step) × PassesOne k x path × (left_by p path test ≡ true)
  behind-to_one k (Set c e) p lp test h = (_, refl, left-all p lp test (touch_steps k (touches (Set c e))) (λ d. touched-awaited d k (touches (Set c e))) h)
  behind-to_one k (Fold o c e) p lp test h = (_, refl, left-all p lp test (touch_steps k (touches (Fold o c e))) (λ d. touched-awaited d k (touches (Fold o c e))) h)
  behind-to_one k (If e a b) p lp test h =
      elim (or_true (behind p a test) (behind p b test) h) [
        | inl one ↦ let q = behind-to (k + 1) a p lp test one in
            (_, (q.0, refl, inl q.1), left-same p lp test q.0 (touch_steps k (touches (If e a b)) ++ q.0) (λ d. sym (awaited-inside d k (touches (If e a b)) q.0)) (sym (touched-unawaited test k (touches (If e a b)) q.0)) q.2)
        | inr two ↦ let q = behind-to (k + 1 + size a) b p lp test two in
            (_, (q.0, refl, inr q.1), left-same p lp test q.0 (touch_steps k (touches (If e a b)) ++ q.0) (λ d. sym (awaited-inside d k (touches (If e a b)) q.0)) (sym (touched-unawaited test k (touches (If e a b)) q.0)) q.2)
      ]
  behind-to_one k (Task uses b) p lp test h =
      let path : List Step = At k (Create uses) ∷ [] in (
        path,
        refl,
        left-from p path test (elim (or_true (p test) (test uses) h) [
          | inl old ↦ inl (listed-more p lp test (kept test path) (λ d is. kept-is test path d is refl) old)
          | inr new ↦ inr (true_or (test uses) false new)
        ]),
      )
  behind-to_one k (Wait w) p lp test h =
      let path : List Step = At k (Await w) ∷ [] in (
        path,
        refl,
        left-from p path test (inl (listed-more p lp (λ d. test d && not (awaits w d)) (kept test path)
            (λ d on. kept-is test path d (and_left (test d) (not (awaits w d)) on) (or_none (awaits w d) ∙ not_true (awaits w d) (and_right (test d) (not (awaits w d)) on))) h)),
      )
  behind-to_one k (Group o cs b) p lp test h =
      let d = lp (λ d. test d && through d b) h in
      let q = through-to d.0 (k + 1) b (and_right (test d.0) (through d.0 b) d.1) in
      let path : List Step = At k (Enter o cs) ∷ (q.0 ++ At k Leave ∷ []) in
      (path, (q.0, refl, q.1), left-from p path test (inl (d.2 (kept test path) (kept-is test path d.0 (and_left (test d.0) (through d.0 b) d.1) (awaited-group d.0 k q.0 ∙ q.2)))))

  pub behind-to : (k : ℕ) (b : Body) (p : Children) → IsListed p → (test : List Use → Bool) → behind p b test ≡ true
      → (path : List Step) × Passes k b path × (left_by p path test ≡ true)
  behind-to k End p lp test h = ([], refl, left-from p [] test (inl (listed-more p lp test (kept test []) (λ d is. kept-is test [] d is refl) h)))
  behind-to k (Next x rest) p lp test h =
      let q = behind-to (k + size_one x) rest (behind_one p x) (listed-behind_one p x lp) test h in
      elim (left-parts (behind_one p x) q.0 test q.2) [
        | inl old ↦
            let r = behind-to_one k x p lp (kept test q.0) old in
            (_, (r.0, q.0, refl, r.1, q.1), left-whole p lp test r.0 q.0 (passes-closed (k + size_one x) rest q.0 q.1) (left-from (left_by p r.0) q.0 test (inl r.2)))
        | inr made ↦
            let r = some_path_one k x in
            (_, (r.0, q.0, refl, r.1, q.1), left-whole p lp test r.0 q.0 (passes-closed (k + size_one x) rest q.0 q.1) (left-from (left_by p r.0) q.0 test (inr made)))
      ]
