-- What a run passes: each wait awaits exactly those whom it takes of the unawaited.
use Rattle.std.proofs.Common.{◌≡◌, ◌≢◌, ◌⊎◌, inl, inr, ℕ, suc, ◌+◌, ◌<◌, ◌≤◌, ◌&&◌, ◌||◌, Bool, true, false, not, cond, nat_le, List, [], ◌∷◌, ◌++◌, refl, sym, ap, subst, ◌∙◌, arith, append_assoc, append-nil}
use Rattle.std.specs.Prelude.{◌==◌, if◌then◌else◌}
use Rattle.std.specs.List.{filter, list_any}
use Rattle.std.proofs.Math.Bool.{or-false}
use Rattle.std.proofs.lemmas.Bool.Decides.{nat_tests}
use Rattle.std.proofs.lemmas.List.Elements.{filter-append}
use Rattle.std.proofs.lemmas.List.Folds.{list_any-append}
use Rattle.ot_model.specs.Tree.{S, Set, Fold, If, Task, Wait, Group, Body, End, Next, size, size_one, val}
use Rattle.ot_model.specs.Cells.{cell_of}
use Rattle.ot_model.specs.Serial.{State, bump, either, serial, serial_one, serial_run}
use Rattle.ot_model.proofs.SerialLemmas.{either-both, serial-from}
use Rattle.ot_show_graph.specs.Created.{Created, Passed, Creates, Enters, Leaves}
use Rattle.ot_show_graph.specs.Passing.{state_begun, created_at, takes_child, spares, is_within, children_unawaited, unawaited_one, passes, passes_one, passed_by, stays_in_groups, is_wait_taking, unawaited_of, AwaitExactly}
use Rattle.ot_show_graph.proofs.LinkLemmas.{other_number, same_number}
use Rattle.ot_show_graph.proofs.PassedLemmas.{or_none, filter_same, filter_all, filter_both, filter_swap, filter_weaker, within_more, within-more, none-fewer, is_by, unawaited-others, none-of-others, waits-of-others, IsBalanced, leaves-none-balanced, leaves-none-alone, survives, unawaited-append, AreRight, right-append, right-at}

-- tasks are only added
serial-more : (b : Body) (s : State) → s.tasks ≤ (serial b s).tasks
serial-more b s = let from : (serial b s).tasks ≡ (serial_run b s.cells).tasks + s.tasks = ap (λ (t : State). t.tasks) (serial-from b s) in omega (arith, from)

serial_one-more : (x : S) (s : State) → s.tasks ≤ (serial_one x s).tasks
serial_one-more x s = serial-more (Next x End) s

-- what holds of both bodies' outcomes holds of an `if`
either-two : {A B : Type 0} (n : ℕ) (P : A → B → Type 0) (one two : A) (x y : B) → P one x → P two y → P (either n one two) (either n x y)
either-two n P one two x y p q =
    let choice : (b : Bool) → P (if b then two else one) (if b then y else x) = λ b. elim b as (λ b. P (if b then two else one) (if b then y else x)) [ true ↦ q | false ↦ p ] in
    choice (n == 0)

-- a statement that is no task statement counts none
same_count : (n : ℕ) → n ≡ n + 0
same_count n = omega arith

within_same : (n : ℕ) (cs : List Created) → filter (is_within n) cs ≡ cs → filter (is_within (n + 0)) cs ≡ cs
within_same n cs h = subst (λ m. filter (is_within m) cs ≡ cs) (same_count n) h

none_same : (n : ℕ) (cs : List Created) → filter (is_within (n + 0)) cs ≡ [] → filter (is_within n) cs ≡ []
none_same n cs h = subst (λ m. filter (is_within m) cs ≡ []) (sym (same_count n)) h

out_same : {A : Type 0} (q n : ℕ) → (q ≤ n) ⊎ A → (q ≤ n + 0) ⊎ A
out_same q n (inl le) = inl (omega (arith, le))
out_same q n (inr more) = inr more

-- ---- groups

mutual
  balanced_one : (own k : ℕ) (x : S) (s : State) (p : List Created) → IsBalanced (passes_one own k x s p)
  balanced_one own k (Set c e) s p = λ n rest. refl
  balanced_one own k (Fold o c e) s p = λ n rest. refl
  balanced_one own k (If e a b) s p =
      either-both (val (cell_of s.cells) e) (passes own (k + 1) a (bump 0 1 s) p) (passes own (k + 1 + size a) b (bump 0 1 s) p) IsBalanced
      (balanced own (k + 1) a (bump 0 1 s) p) (balanced own (k + 1 + size a) b (bump 0 1 s) p)
  balanced_one own k (Task d b) s p = λ n rest. balanced (s.tasks + 1) (k + 1) b (bump 1 1 s) [] n rest
  balanced_one own k (Wait w) s p = λ n rest. refl
  balanced_one own k (Group o cs b) s p = λ n rest.
      ap (stays_in_groups (suc n)) (append_assoc (passes own (k + 1) b (bump 0 1 s) p) (Leaves ∷ []) rest) ∙ balanced own (k + 1) b (bump 0 1 s) p (suc n) (Leaves ∷ rest)

  balanced : (own k : ℕ) (b : Body) (s : State) (p : List Created) → IsBalanced (passes own k b s p)
  balanced own k End s p = λ n rest. refl
  balanced own k (Next x rest) s p = λ n more.
      let later = passes own (k + size_one x) rest (serial_one x s) (unawaited_one k x s p) in
      ap (stays_in_groups n) (append_assoc (passes_one own k x s p) later more) ∙ balanced_one own k x s p n (later ++ more)
      ∙ balanced own (k + size_one x) rest (serial_one x s) (unawaited_one k x s p) n more

-- ---- numbers: a body is that of its own task, and those of the tasks in it have new numbers

mutual
  others_one : (own k : ℕ) (x : S) (s : State) (p : List Created) (q : ℕ) → q ≢ own → (q ≤ s.tasks) ⊎ ((serial_one x s).tasks < q)
      → list_any (is_by q) (passes_one own k x s p) ≡ false
  others_one own k (Set c e) s p q apart out = refl
  others_one own k (Fold o c e) s p q apart out = refl
  others_one own k (If e a b) s p q apart out =
      either-two (val (cell_of s.cells) e) (λ ms (t : State). (q ≤ s.tasks) ⊎ (t.tasks < q) → list_any (is_by q) ms ≡ false)
      (passes own (k + 1) a (bump 0 1 s) p) (passes own (k + 1 + size a) b (bump 0 1 s) p) (serial a (bump 0 1 s)) (serial b (bump 0 1 s))
      (λ out. others own (k + 1) a (bump 0 1 s) p q apart (out_same q s.tasks out)) (λ out. others own (k + 1 + size a) b (bump 0 1 s) p q apart (out_same q s.tasks out)) out
  others_one own k (Task d b) s p q apart out =
      let new : q ≢ s.tasks + 1 = elim out [ inl le ↦ λ is. absurd (omega (arith, le, is)) | inr more ↦ λ is. absurd (omega (arith, more, is, serial-more b (bump 1 1 s))) ] in
      let inner : (q ≤ s.tasks + 1) ⊎ ((serial b (bump 1 1 s)).tasks < q) = elim out [ inl le ↦ inl (omega (arith, le)) | inr more ↦ inr more ] in
      or_none (own == q) (list_any (is_by q) (passes (s.tasks + 1) (k + 1) b (bump 1 1 s) []))
      (other_number own q (λ is. apart (sym is))) (others (s.tasks + 1) (k + 1) b (bump 1 1 s) [] q new inner)
  others_one own k (Wait w) s p q apart out = or_none (own == q) false (other_number own q (λ is. apart (sym is))) refl
  others_one own k (Group o cs b) s p q apart out =
      list_any-append (is_by q) (passes own (k + 1) b (bump 0 1 s) p) (Leaves ∷ [])
      ∙ or_none (list_any (is_by q) (passes own (k + 1) b (bump 0 1 s) p)) false (others own (k + 1) b (bump 0 1 s) p q apart (out_same q s.tasks out)) refl

  others : (own k : ℕ) (b : Body) (s : State) (p : List Created) (q : ℕ) → q ≢ own → (q ≤ s.tasks) ⊎ ((serial b s).tasks < q)
      → list_any (is_by q) (passes own k b s p) ≡ false
  others own k End s p q apart out = refl
  others own k (Next x rest) s p q apart out =
      let t = serial_one x s in
      let later = passes own (k + size_one x) rest t (unawaited_one k x s p) in
      let first : (q ≤ s.tasks) ⊎ (t.tasks < q) = elim out [ inl le ↦ inl le | inr more ↦ inr (omega (arith, more, serial-more rest t)) ] in
      let second : (q ≤ t.tasks) ⊎ ((serial rest t).tasks < q) = elim out [ inl le ↦ inl (omega (arith, le, serial_one-more x s)) | inr more ↦ inr more ] in
      list_any-append (is_by q) (passes_one own k x s p) later
      ∙ or_none (list_any (is_by q) (passes_one own k x s p)) (list_any (is_by q) later)
      (others_one own k x s p q apart first) (others own (k + size_one x) rest t (unawaited_one k x s p) q apart second)

-- what the body of a new task passes is none of an earlier one
others_inside : (own k : ℕ) (b : Body) (s : State) → own ≤ s.tasks → list_any (is_by own) (passes (s.tasks + 1) (k + 1) b (bump 1 1 s) []) ≡ false
others_inside own k b s old =
    others (s.tasks + 1) (k + 1) b (bump 1 1 s) [] own (λ is. absurd (omega (arith, is, old))) (inl (omega (arith, old)))

-- ---- the end of a group

closed : (e st more : Bool) (c : Created) (cs : List Created) → st ≡ false → cond (e && (st && more)) (c ∷ cs) cs ≡ cs
closed true true more c cs h = cc
closed true false more c cs h = refl
closed false st more c cs h = refl

mutual
  ended_one : (own k : ℕ) (x : S) (s : State) (p : List Created) (rest : List Passed) → own ≤ s.tasks → stays_in_groups 0 rest ≡ false
      → unawaited_of own (passes_one own k x s p ++ rest) ≡ unawaited_of own rest
  ended_one own k (Set c e) s p rest old h = refl
  ended_one own k (Fold o c e) s p rest old h = refl
  ended_one own k (If e a b) s p rest old h =
      either-both (val (cell_of s.cells) e) (passes own (k + 1) a (bump 0 1 s) p) (passes own (k + 1 + size a) b (bump 0 1 s) p)
      (λ ms. unawaited_of own (ms ++ rest) ≡ unawaited_of own rest)
      (ended own (k + 1) a (bump 0 1 s) p rest (omega (arith, old)) h) (ended own (k + 1 + size a) b (bump 0 1 s) p rest (omega (arith, old)) h)
  ended_one own k (Task d b) s p rest old h =
      let ms = passes (s.tasks + 1) (k + 1) b (bump 1 1 s) [] in
      closed (own == own) (stays_in_groups 0 (ms ++ rest)) (not (list_any (is_wait_taking own (created_at k d s)) (ms ++ rest))) (created_at k d s) (unawaited_of own (ms ++ rest))
      (balanced (s.tasks + 1) (k + 1) b (bump 1 1 s) [] 0 rest ∙ h)
      ∙ unawaited-others own ms rest (others_inside own k b s old)
  ended_one own k (Wait w) s p rest old h = refl
  ended_one own k (Group o cs b) s p rest old h =
      ap (unawaited_of own) (append_assoc (passes own (k + 1) b (bump 0 1 s) p) (Leaves ∷ []) rest) ∙ ended own (k + 1) b (bump 0 1 s) p (Leaves ∷ rest) (omega (arith, old)) refl

  -- behind the end of a group none of those is unawaited that were created in it
  ended : (own k : ℕ) (b : Body) (s : State) (p : List Created) (rest : List Passed) → own ≤ s.tasks → stays_in_groups 0 rest ≡ false
      → unawaited_of own (passes own k b s p ++ rest) ≡ unawaited_of own rest
  ended own k End s p rest old h = refl
  ended own k (Next x more) s p rest old h =
      let t = serial_one x s in
      let q = unawaited_one k x s p in
      let later = passes own (k + size_one x) more t q in
      ap (unawaited_of own) (append_assoc (passes_one own k x s p) later rest)
      ∙ ended_one own k x s p (later ++ rest) old (balanced own (k + size_one x) more t q 0 rest ∙ h)
      ∙ ended own (k + size_one x) more t q rest (omega (arith, old, serial_one-more x s)) h

-- ---- those that a body creates have new numbers

alone : (t : ℕ) (b : Bool) (c : Created) (cs : List Created) → cs ≡ [] → is_within t c ≡ false → filter (is_within t) (cond b (c ∷ cs) cs) ≡ []
alone t true c cs none past = ap (λ x. cond x (c ∷ filter (is_within t) cs) (filter (is_within t) cs)) past ∙ ap (filter (is_within t)) none
alone t false c cs none past = ap (filter (is_within t)) none

past_last : (t : ℕ) → nat_le (t + 1) t ≡ false
past_last t = grind (arith, nat_tests)

mutual
  fresh_one : (own k : ℕ) (x : S) (s : State) (p : List Created) → own ≤ s.tasks → filter (is_within s.tasks) (unawaited_of own (passes_one own k x s p)) ≡ []
  fresh_one own k (Set c e) s p old = refl
  fresh_one own k (Fold o c e) s p old = refl
  fresh_one own k (If e a b) s p old =
      either-both (val (cell_of s.cells) e) (passes own (k + 1) a (bump 0 1 s) p) (passes own (k + 1 + size a) b (bump 0 1 s) p)
      (λ ms. filter (is_within s.tasks) (unawaited_of own ms) ≡ [])
      (none_same s.tasks (unawaited_of own (passes own (k + 1) a (bump 0 1 s) p)) (fresh own (k + 1) a (bump 0 1 s) p (omega (arith, old))))
      (none_same s.tasks (unawaited_of own (passes own (k + 1 + size a) b (bump 0 1 s) p)) (fresh own (k + 1 + size a) b (bump 0 1 s) p (omega (arith, old))))
  fresh_one own k (Task d b) s p old =
      let ms = passes (s.tasks + 1) (k + 1) b (bump 1 1 s) [] in
      alone s.tasks ((own == own) && (stays_in_groups 0 ms && not (list_any (is_wait_taking own (created_at k d s)) ms))) (created_at k d s) (unawaited_of own ms)
      (none-of-others own ms (others_inside own k b s old)) (past_last s.tasks)
  fresh_one own k (Wait w) s p old = refl
  fresh_one own k (Group o cs b) s p old = ap (filter (is_within s.tasks)) (ended own (k + 1) b (bump 0 1 s) p (Leaves ∷ []) (omega (arith, old)) refl)

  fresh : (own k : ℕ) (b : Body) (s : State) (p : List Created) → own ≤ s.tasks → filter (is_within s.tasks) (unawaited_of own (passes own k b s p)) ≡ []
  fresh own k End s p old = refl
  fresh own k (Next x rest) s p old =
      let t = serial_one x s in
      let q = unawaited_one k x s p in
      let first = passes_one own k x s p in
      let later = passes own (k + size_one x) rest t q in
      let old_later : own ≤ t.tasks = omega (arith, old, serial_one-more x s) in
      let one : filter (is_within s.tasks) (filter (survives own later) (unawaited_of own first)) ≡ [] =
      filter_swap (survives own later) (is_within s.tasks) (unawaited_of own first) ∙ ap (filter (survives own later)) (fresh_one own k x s p old) in
      let two : filter (is_within s.tasks) (unawaited_of own later) ≡ [] =
      none-fewer s.tasks t.tasks (unawaited_of own later) (serial_one-more x s) (fresh own (k + size_one x) rest t q old_later) in
      ap (filter (is_within s.tasks)) (unawaited-append own first later (leaves-none-balanced later (balanced own (k + size_one x) rest t q)))
      ∙ filter-append (is_within s.tasks) (filter (survives own later) (unawaited_of own first)) (unawaited_of own later)
      ∙ ap (λ cs. cs ++ filter (is_within s.tasks) (unawaited_of own later)) one ∙ two

up_to_last : (n t : ℕ) → n ≤ t → nat_le n t ≡ true
up_to_last n t le = grind (arith, nat_tests)

mutual
  few_one : (k : ℕ) (x : S) (s : State) (p : List Created) → filter (is_within s.tasks) p ≡ p → filter (is_within (serial_one x s).tasks) (unawaited_one k x s p) ≡ unawaited_one k x s p
  few_one k (Set c e) s p h = within_same s.tasks p h
  few_one k (Fold o c e) s p h = within_same s.tasks p h
  few_one k (If e a b) s p h =
      either-two (val (cell_of s.cells) e) (λ cs (t : State). filter (is_within t.tasks) cs ≡ cs)
      (children_unawaited (k + 1) a (bump 0 1 s) p) (children_unawaited (k + 1 + size a) b (bump 0 1 s) p) (serial a (bump 0 1 s)) (serial b (bump 0 1 s))
      (few (k + 1) a (bump 0 1 s) p (within_same s.tasks p h)) (few (k + 1 + size a) b (bump 0 1 s) p (within_same s.tasks p h))
  few_one k (Task d b) s p h =
      let t = (serial b (bump 1 1 s)).tasks in
      let c = created_at k d s in
      filter-append (is_within t) p (c ∷ [])
      ∙ ap (λ cs. cs ++ filter (is_within t) (c ∷ [])) (within-more s.tasks t p (omega (arith, serial-more b (bump 1 1 s))) h)
      ∙ ap (λ x. p ++ cond x (c ∷ []) []) (up_to_last (s.tasks + 1) t (serial-more b (bump 1 1 s)))
  few_one k (Wait w) s p h = within_same s.tasks (filter (spares w) p) (filter_swap (spares w) (is_within s.tasks) p ∙ ap (filter (spares w)) h)
  few_one k (Group o cs b) s p h =
      filter_weaker (is_within s.tasks) (is_within (serial b (bump 0 1 s)).tasks)
      (λ c. within_more s.tasks (serial b (bump 0 1 s)).tasks c (omega (arith, serial-more b (bump 0 1 s)))) (children_unawaited (k + 1) b (bump 0 1 s) p)

  few : (k : ℕ) (b : Body) (s : State) (p : List Created) → filter (is_within s.tasks) p ≡ p → filter (is_within (serial b s).tasks) (children_unawaited k b s p) ≡ children_unawaited k b s p
  few k End s p h = h
  few k (Next x rest) s p h = few (k + size_one x) rest (serial_one x s) (unawaited_one k x s p) (few_one k x s p h)

-- ---- the state of the definition is what has passed

sure : (e st wait : Bool) (c : Created) (cs : List Created) → e ≡ true → st ≡ true → wait ≡ false → cs ≡ [] → cond (e && (st && not wait)) (c ∷ cs) cs ≡ c ∷ []
sure e st wait c cs one two three none =
    ap (λ x. cond (x && (st && not wait)) (c ∷ cs) cs) one ∙ ap (λ x. cond (x && not wait) (c ∷ cs) cs) two ∙ ap (λ x. cond (not x) (c ∷ cs) cs) three ∙ ap (λ xs. c ∷ xs) none

spared : (e t : Bool) → e ≡ true → not t ≡ not ((e && t) || false)
spared true true h = refl
spared true false h = refl
spared false t h = cc

not_or : (a b : Bool) → (not a && not b) ≡ not (a || b)
not_or true b = refl
not_or false b = refl

mutual
  unawaited_one-is : (own k : ℕ) (x : S) (s : State) (p : List Created) → own ≤ s.tasks → filter (is_within s.tasks) p ≡ p
      → unawaited_one k x s p ≡ filter (survives own (passes_one own k x s p)) p ++ unawaited_of own (passes_one own k x s p)
  unawaited_one-is own k (Set c e) s p old h = sym (append-nil _ ∙ filter_all (survives own []) (λ c. refl) p)
  unawaited_one-is own k (Fold o c e) s p old h = sym (append-nil _ ∙ filter_all (survives own []) (λ c. refl) p)
  unawaited_one-is own k (If e a b) s p old h =
      either-two (val (cell_of s.cells) e) (λ cs ms. cs ≡ filter (survives own ms) p ++ unawaited_of own ms)
      (children_unawaited (k + 1) a (bump 0 1 s) p) (children_unawaited (k + 1 + size a) b (bump 0 1 s) p)
      (passes own (k + 1) a (bump 0 1 s) p) (passes own (k + 1 + size a) b (bump 0 1 s) p)
      (unawaited-is own (k + 1) a (bump 0 1 s) p (omega (arith, old)) (within_same s.tasks p h))
      (unawaited-is own (k + 1 + size a) b (bump 0 1 s) p (omega (arith, old)) (within_same s.tasks p h))
  unawaited_one-is own k (Task d b) s p old h =
      let ms = passes (s.tasks + 1) (k + 1) b (bump 1 1 s) [] in
      let c = created_at k d s in
      let others = others_inside own k b s old in
      let stays : stays_in_groups 0 ms ≡ true = ap (stays_in_groups 0) (sym (append-nil ms)) ∙ balanced (s.tasks + 1) (k + 1) b (bump 1 1 s) [] 0 [] in
      sym (ap (λ cs. cs ++ unawaited_of own (Creates own c ∷ ms)) (filter_all (survives own (Creates own c ∷ ms)) (λ d. ap not (waits-of-others own d ms others)) p)
      ∙ ap (λ cs. p ++ cs) (sure (own == own) (stays_in_groups 0 ms) (list_any (is_wait_taking own c) ms) c (unawaited_of own ms)
      (same_number own) stays (waits-of-others own c ms others) (none-of-others own ms others)))
  unawaited_one-is own k (Wait w) s p old h =
      filter_same (spares w) (λ c. not (((own == own) && takes_child w c) || false)) (λ c. spared (own == own) (takes_child w c) (same_number own)) p ∙ sym (append-nil _)
  unawaited_one-is own k (Group o cs b) s p old h =
      let ms = passes own (k + 1) b (bump 0 1 s) p in
      let left = filter (survives own ms) p in
      ap (filter (is_within s.tasks)) (unawaited-is own (k + 1) b (bump 0 1 s) p (omega (arith, old)) (within_same s.tasks p h))
      ∙ filter-append (is_within s.tasks) left (unawaited_of own ms)
      ∙ ap (λ cs. cs ++ filter (is_within s.tasks) (unawaited_of own ms)) (filter_swap (survives own ms) (is_within s.tasks) p ∙ ap (filter (survives own ms)) h)
      ∙ ap (λ cs. left ++ cs) (none_same s.tasks (unawaited_of own ms) (fresh own (k + 1) b (bump 0 1 s) p (omega (arith, old))) ∙ sym (ended own (k + 1) b (bump 0 1 s) p (Leaves ∷ []) (omega (arith, old)) refl))
      ∙ ap (λ cs. cs ++ unawaited_of own (ms ++ Leaves ∷ []))
      (filter_same (survives own ms) (survives own (ms ++ Leaves ∷ []))
      (λ c. ap not (sym (list_any-append (is_wait_taking own c) ms (Leaves ∷ []) ∙ or-false (list_any (is_wait_taking own c) ms)))) p)

  unawaited-is : (own k : ℕ) (b : Body) (s : State) (p : List Created) → own ≤ s.tasks → filter (is_within s.tasks) p ≡ p
      → children_unawaited k b s p ≡ filter (survives own (passes own k b s p)) p ++ unawaited_of own (passes own k b s p)
  unawaited-is own k End s p old h = sym (append-nil _ ∙ filter_all (survives own []) (λ c. refl) p)
  unawaited-is own k (Next x rest) s p old h =
      let t = serial_one x s in
      let q = unawaited_one k x s p in
      let first = passes_one own k x s p in
      let later = passes own (k + size_one x) rest t q in
      let left = filter (survives own later) (unawaited_of own first) in
      unawaited-is own (k + size_one x) rest t q (omega (arith, old, serial_one-more x s)) (few_one k x s p h)
      ∙ ap (λ cs. filter (survives own later) cs ++ unawaited_of own later) (unawaited_one-is own k x s p old h)
      ∙ ap (λ cs. cs ++ unawaited_of own later) (filter-append (survives own later) (filter (survives own first) p) (unawaited_of own first))
      ∙ append_assoc (filter (survives own later) (filter (survives own first) p)) left (unawaited_of own later)
      ∙ ap (λ cs. cs ++ (left ++ unawaited_of own later))
      (filter_both (survives own first) (survives own later) p
      ∙ filter_same (λ c. survives own first c && survives own later c) (survives own (first ++ later))
      (λ c. not_or (list_any (is_wait_taking own c) first) (list_any (is_wait_taking own c) later) ∙ ap not (sym (list_any-append (is_wait_taking own c) first later))) p)
      ∙ ap (λ cs. filter (survives own (first ++ later)) p ++ cs)
      (sym (unawaited-append own first later (leaves-none-balanced later (balanced own (k + size_one x) rest t q))))

-- ---- so each wait is right

-- no more tasks than so many have passed anything
abbrev AreOld : ℕ → List Passed → Type 0
AreOld t ms = (q : ℕ) → t < q → list_any (is_by q) ms ≡ false

old-push : (t u : ℕ) (ms : List Passed) (m : Passed) → AreOld t ms → t ≤ u → AreOld u (m ∷ []) → AreOld u (ms ++ m ∷ [])
old-push t u ms m old le one = λ q past.
    list_any-append (is_by q) ms (m ∷ []) ∙ or_none (list_any (is_by q) ms) (list_any (is_by q) (m ∷ [])) (old q (omega (arith, le, past))) (one q past)

old-created : (t own : ℕ) (c : Created) → own ≤ t → AreOld t (Creates own c ∷ [])
old-created t own c le = λ q past. or_none (own == q) false (other_number own q (λ is. absurd (omega (arith, is, le, past)))) refl

-- before a group begins as many are unawaited as behind
entered-same : (own : ℕ) (ms : List Passed) (m : Passed) → ((n : ℕ) → stays_in_groups n (m ∷ []) ≡ true) → unawaited_of own (m ∷ []) ≡ []
    → ((c : Created) → is_wait_taking own c m ≡ false) → unawaited_of own ms ≡ unawaited_of own (ms ++ m ∷ [])
entered-same own ms m stays none waits =
    sym (unawaited-append own ms (m ∷ []) (leaves-none-alone m stays)
    ∙ ap (λ cs. filter (survives own (m ∷ [])) (unawaited_of own ms) ++ cs) none ∙ append-nil _
    ∙ filter_all (survives own (m ∷ [])) (λ c. ap not (or_none (is_wait_taking own c m) false (waits c) refl)) (unawaited_of own ms))

mutual
  right_one : (before : List Passed) (own k : ℕ) (x : S) (s : State) (p : List Created) → AreOld s.tasks before → own ≤ s.tasks → p ≡ unawaited_of own before
      → filter (is_within s.tasks) p ≡ p → AreRight before (passes_one own k x s p)
  right_one before own k (Set c e) s p olds old is h = tt
  right_one before own k (Fold o c e) s p olds old is h = tt
  right_one before own k (If e a b) s p olds old is h =
      either-both (val (cell_of s.cells) e) (passes own (k + 1) a (bump 0 1 s) p) (passes own (k + 1 + size a) b (bump 0 1 s) p) (AreRight before)
      (right before own (k + 1) a (bump 0 1 s) p (λ q past. olds q (omega (arith, past))) (omega (arith, old)) is (within_same s.tasks p h))
      (right before own (k + 1 + size a) b (bump 0 1 s) p (λ q past. olds q (omega (arith, past))) (omega (arith, old)) is (within_same s.tasks p h))
  right_one before own k (Task d b) s p olds old is h =
      let c = created_at k d s in
      let new : list_any (is_by (s.tasks + 1)) (before ++ Creates own c ∷ []) ≡ false =
      old-push s.tasks s.tasks before (Creates own c) olds (omega arith) (old-created s.tasks own c old) (s.tasks + 1) (omega arith) in
      right (before ++ Creates own c ∷ []) (s.tasks + 1) (k + 1) b (bump 1 1 s) []
      (old-push s.tasks (s.tasks + 1) before (Creates own c) olds (omega arith) (old-created (s.tasks + 1) own c (omega (arith, old)))) (omega arith)
      (sym (none-of-others (s.tasks + 1) (before ++ Creates own c ∷ []) new)) refl
  right_one before own k (Wait w) s p olds old is h = (ap (filter (takes_child w)) is, tt)
  right_one before own k (Group o cs b) s p olds old is h =
      let ms = passes own (k + 1) b (bump 0 1 s) p in
      let begins = Enters o cs in
      right-append (before ++ begins ∷ []) ms (Leaves ∷ [])
      (right (before ++ begins ∷ []) own (k + 1) b (bump 0 1 s) p (old-push s.tasks (s.tasks + 0) before begins olds (omega arith) (λ q past. refl)) (omega (arith, old))
      (is ∙ entered-same own before begins (λ n. refl) refl (λ c. refl)) (within_same s.tasks p h))
      tt

  right : (before : List Passed) (own k : ℕ) (b : Body) (s : State) (p : List Created) → AreOld s.tasks before → own ≤ s.tasks → p ≡ unawaited_of own before
      → filter (is_within s.tasks) p ≡ p → AreRight before (passes own k b s p)
  right before own k End s p olds old is h = tt
  right before own k (Next x rest) s p olds old is h =
      let t = serial_one x s in
      let q = unawaited_one k x s p in
      let first = passes_one own k x s p in
      let olds_later : AreOld t.tasks (before ++ first) =
      λ q past. list_any-append (is_by q) before first
      ∙ or_none (list_any (is_by q) before) (list_any (is_by q) first) (olds q (omega (arith, past, serial_one-more x s)))
      (others_one own k x s p q (λ is. absurd (omega (arith, is, old, past, serial_one-more x s))) (inr past)) in
      let pending : q ≡ unawaited_of own (before ++ first) =
      unawaited_one-is own k x s p old h ∙ ap (λ cs. filter (survives own first) cs ++ unawaited_of own first) is
      ∙ sym (unawaited-append own before first (leaves-none-balanced first (balanced_one own k x s p))) in
      right-append before first (passes own (k + size_one x) rest t q) (right_one before own k x s p olds old is h)
      (right (before ++ first) own (k + size_one x) rest t q olds_later (omega (arith, old, serial_one-more x s)) pending (few_one k x s p h))

pub await-exactly : (body : Body) (cells : List (List ℕ)) → AwaitExactly (passed_by body cells)
await-exactly body cells = λ before later own w awaited is.
    right-at [] before later own w awaited
    (subst (AreRight []) is (right [] 0 1 body (state_begun cells) [] (λ q past. refl) (omega arith) refl refl))
