-- At which cells a child waits for an earlier one by itself.
use Rattle.std.proofs.Common.{◌≡◌, ◌≢◌, ◌↔◌, ℕ, zero, suc, ◌+◌, ◌<◌, ◌≤◌, ◌&&◌, ◌||◌, Bool, true, false, not, cond, List, [], ◌∷◌, ◌++◌, length, get_or, take, drop, map, refl, sym, ap, subst, ◌∙◌, inl, inr, arith, append-nil, append_assoc, le_refl}
use Rattle.std.specs.Prelude.{◌⊎◌, ◌==◌, Some, slice_get, replicate}
use Rattle.std.specs.List.{list_any, filter}
use Rattle.std.specs.Option.{option_to_list}
use Rattle.std.specs.declared.collections.BTreeMap.{BTreeMap}
use Rattle.std.specs.declared.vec.Vec.{Vec}
use Rattle.std.specs.declared.alloc.Global.{Global}
use Rattle.std.proofs.Math.Bool.{or-false, and-true}
use Rattle.std.proofs.lemmas.Bool.{cases_eq, cases_lt}
use Rattle.std.proofs.lemmas.List.{drop-append-le, drop_all, map-append, get_or_push, get_or_append_left, get_or_past, take_more, length-append, replicate-append-replicate}
use Rattle.std.proofs.lemmas.List.Elements.{filter_more}
use Rattle.std.proofs.lemmas.List.Folds.{list_any-append, list_any_more}
use Rattle.std.proofs.lemmas.List.Sums.{sum_by-append, sum_by-cons}
use Rattle.ot_model.specs.Cells.{same_cell, AreInOrder}
use Rattle.ot_model.specs.declared.expr.Cell.{Cell}
use Rattle.ot_model.specs.declared.stmt.Mode.{Mode}
use Rattle.ot_model.specs.declared.stmt.Mode.TheVariants.{Reads}
use Rattle.ot_model.specs.declared.stmt.Use.{Use}
use Rattle.ot_model.proofs.EqualLemmas.{cell-decides}
use Rattle.ot_model.proofs.OrderLemmas.{each_precedes, precedes_apart}
use Rattle.ot_depend.proofs.HeartLemmas.{writes-uses}
use Rattle.ot_depend.proofs.ListLemmas.{slice_get-push_place}
use Rattle.ot_depend.specs.Siblings.{is_direct, is_write, times, uses_cell, writes_cell}
use Rattle.ot_show_graph.specs.Links.{cells_at, siblings_with}
use Rattle.ot_show_graph.proofs.LinkLemmas.{bit, same_number, other_number}
use Rattle.ot_show_graph.specs.Written.{CellRow, no_child, TellsRows, AreMet, AreLabels, is_met, waited_for, row_behind, entered_by, cells_with}

-- what a list of uses reads past its end
abbrev pub nowhere : Use
nowhere = record { cell = record { array = 0; index = 0 }; mode = Reads }

-- ---- who uses a cell

any-siblings : (c : Cell) (xs : List (List Use)) → list_any (λ s. writes_cell c s.uses) (siblings_with xs) ≡ list_any (writes_cell c) xs
any-siblings c [] = refl
any-siblings c (x ∷ xs) = ap (λ r. writes_cell c x || r) (any-siblings c xs)

-- where none uses a cell, none writes it
unused-unwritten : (c : Cell) (us : List Use) → uses_cell c us ≡ false → writes_cell c us ≡ false
unused-unwritten c us none = by (writes_cell c us) refl
  where
    by : (b : Bool) → writes_cell c us ≡ b → writes_cell c us ≡ false
    by true wrote = absurd (let both : true ≡ false = sym (writes-uses c us wrote) ∙ none in cc)
    by false not_wrote = not_wrote

same_apart : (a b : Cell) → a ≢ b → same_cell a b ≡ false
same_apart a b other = by (same_cell a b) refl
  where
    by : (t : Bool) → same_cell a b ≡ t → same_cell a b ≡ false
    by true same = absurd (other ((cell-decides a b).0 same))
    by false differs = differs

-- what is used later is used by none of the uses before
unused-first : (us : List Use) (i : ℕ) (d : Use) (c : Cell) (n : ℕ) → AreInOrder us → i < length us → (get_or us i d).cell ≡ c → n ≤ i → uses_cell c (take n us) ≡ false
unused-first us i d c zero order l is early = refl
unused-first us i d c (suc n) order l is early =
    let here : (get_or us n d).cell ≢ c =
    λ same. precedes_apart (get_or us n d).cell (get_or us i d).cell (each_precedes us order n i d (omega (arith, early)) l) (same ∙ sym is) in
    let next : suc n ≡ n + 1 = omega arith in
    ap (λ m. uses_cell c (take m us)) next
    ∙ list_any_more (λ v. same_cell v.cell c) us n d (omega (arith, early, l))
    ∙ ap (λ b. b || same_cell (get_or us n d).cell c) (unused-first us i d c n order l is (omega (arith, early)))
    ∙ same_apart (get_or us n d).cell c here

-- ---- one use more of a child

-- by whether the use more is one of the cell
entered_more : (child : ℕ) (mode : Mode) (used wrote same : Bool) (start old new : CellRow) → (same ≡ true → (used ≡ false) × (wrote ≡ false))
    → old ≡ row_behind child used wrote start → new ≡ cond same (entered_by child mode old) old
    → new ≡ row_behind child (used || same) (wrote || (same && is_write mode)) start
entered_more child mode true wrote true start old new first so is = let none : true ≡ false = (first refl).0 in cc
entered_more child mode false true true start old new first so is = let none : true ≡ false = (first refl).1 in cc
entered_more child mode false false true start old new first so is = is ∙ ap (entered_by child mode) so
entered_more child mode used wrote false start old new first so is =
    is ∙ so ∙ ap (λ b. row_behind child b wrote start) (sym (or-false used)) ∙ ap (λ b. row_behind child (used || false) b start) (sym (or-false wrote))

pub enter_more : (child : ℕ) (uses : List Use) (i : ℕ) (d : Use) (start old new : Cell → CellRow) → AreInOrder uses → i < length uses
    → ((c : Cell) → old c ≡ row_behind child (uses_cell c (take i uses)) (writes_cell c (take i uses)) (start c))
    → new (get_or uses i d).cell ≡ entered_by child (get_or uses i d).mode (old (get_or uses i d).cell)
    → ((c : Cell) → c ≢ (get_or uses i d).cell → new c ≡ old c)
    → (c : Cell) → new c ≡ row_behind child (uses_cell c (take (i + 1) uses)) (writes_cell c (take (i + 1) uses)) (start c)
enter_more child uses i d start old new order l so there others c =
    let one = get_or uses i d in
    let first : same_cell one.cell c ≡ true → (uses_cell c (take i uses) ≡ false) × (writes_cell c (take i uses) ≡ false) =
    λ same.
    let none = unused-first uses i d c i order l ((cell-decides one.cell c).0 same) (le_refl i) in
    (none, unused-unwritten c (take i uses) none) in
    entered_more child one.mode (uses_cell c (take i uses)) (writes_cell c (take i uses)) (same_cell one.cell c) (start c) (old c) (new c) first (so c)
    (by one.cell one.mode (same_cell one.cell c) refl there others)
    ∙ ap (λ b. row_behind child b (writes_cell c (take i uses) || (same_cell one.cell c && is_write one.mode)) (start c)) (sym (list_any_more (λ v. same_cell v.cell c) uses i d l))
    ∙ ap (λ b. row_behind child (uses_cell c (take (i + 1) uses)) b (start c)) (sym (list_any_more (λ v. same_cell v.cell c && is_write v.mode) uses i d l))
  where
    by : (at : Cell) (mode : Mode) (b : Bool) → same_cell at c ≡ b → new at ≡ entered_by child mode (old at) → ((c : Cell) → c ≢ at → new c ≡ old c)
        → new c ≡ cond b (entered_by child mode (old c)) (old c)
    by at mode true same there others = subst (λ q. new q ≡ entered_by child mode (old q)) ((cell-decides at c).0 same) there
    by at mode false apart there others = others c (λ is. let met : same_cell at c ≡ true = (cell-decides at c).1 (sym is) in let no : true ≡ false = sym met ∙ apart in cc)

-- ---- one child more

times-append : (n : ℕ) (xs ys : List ℕ) → times n (xs ++ ys) ≡ times n xs + times n ys
times-append n xs ys = sum_by-append (λ x. bit (x == n)) xs ys

times-one : (n m : ℕ) → times n (m ∷ []) ≡ bit (m == n)
times-one n m = omega (arith, sum_by-cons (λ x. bit (x == n)) m [])

found-entered : (child n : ℕ) (used wrote : Bool) (e : CellRow) (m : Mode)
    → times n (waited_for (row_behind child used wrote e) m) ≡ cond used (cond wrote (bit (child == n)) (times n (waited_for e m) + cond (is_write m) (bit (child == n)) 0)) (times n (waited_for e m))
found-entered child n false wrote e m = refl
found-entered child n true true e m = by (is_write m)
  where
    by : (w : Bool) → times n (option_to_list (Some child) ++ cond w [] []) ≡ bit (child == n)
    by true = times-one n child
    by false = times-one n child
found-entered child n true false e m = by (is_write m)
  where
    by : (w : Bool) → times n (option_to_list e.writer ++ cond w (e.users ++ child ∷ []) []) ≡ times n (option_to_list e.writer ++ cond w e.users []) + cond w (bit (child == n)) 0
    by true =
        let all = times-append n (option_to_list e.writer) (e.users ++ child ∷ []) in
        let before = times-append n (option_to_list e.writer) e.users in
        let last = times-append n e.users (child ∷ []) in
        omega (arith, all, before, last, times-one n child)
    by false = omega arith

-- whether a use of the cell is met, by whether it writes
abbrev met_at : List (List Use) → ℕ → Cell → Bool → Bool
met_at before earlier c write =
    (uses_cell c (get_or before earlier []) && (writes_cell c (get_or before earlier []) || write)) && not (list_any (writes_cell c) (drop (suc earlier) before))

met-is : (before : List (List Use)) (earlier : ℕ) (u : Use) → is_met before earlier u ≡ met_at before earlier u.cell (is_write u.mode)
met-is before earlier u =
    or-false _ ∙ ap (λ b. (uses_cell u.cell (get_or before earlier []) && (writes_cell u.cell (get_or before earlier []) || is_write u.mode)) && not b) (any-siblings u.cell (drop (suc earlier) before))

met_both : (f a w : Bool) → (f && not (a || (w || false))) ≡ ((f && not a) && not w)
met_both false a w = refl
met_both true true w = refl
met_both true false true = refl
met_both true false false = refl

-- at a child before the last
met-before : (before : List (List Use)) (d : List Use) (earlier : ℕ) (c : Cell) (write : Bool) → earlier < length before
    → met_at (before ++ d ∷ []) earlier c write ≡ (met_at before earlier c write && not (writes_cell c d))
met-before before d earlier c write l =
    let first = uses_cell c (get_or before earlier []) && (writes_cell c (get_or before earlier []) || write) in
    ap (λ (x : List Use). (uses_cell c x && (writes_cell c x || write)) && not (list_any (writes_cell c) (drop (suc earlier) (before ++ d ∷ [])))) (get_or_append_left before (d ∷ []) [] earlier l)
    ∙ ap (λ b. first && not b) (ap (list_any (writes_cell c)) (drop-append-le (suc earlier) before (d ∷ []) (omega (arith, l))) ∙ list_any-append (writes_cell c) (drop (suc earlier) before) (d ∷ []))
    ∙ met_both first (list_any (writes_cell c) (drop (suc earlier) before)) (writes_cell c d)

-- at the last, and past it
met-last : (before : List (List Use)) (d : List Use) (c : Cell) (write : Bool) → met_at (before ++ d ∷ []) (length before) c write ≡ (uses_cell c d && (writes_cell c d || write))
met-last before d c write =
    ap (λ (x : List Use). (uses_cell c x && (writes_cell c x || write)) && not (list_any (writes_cell c) (drop (suc (length before)) (before ++ d ∷ [])))) (get_or_push before d [] (length before) refl)
    ∙ ap (λ (xs : List (List Use)). (uses_cell c d && (writes_cell c d || write)) && not (list_any (writes_cell c) xs))
    (drop_all (suc (length before)) (before ++ d ∷ []) (omega (arith, length-append before (d ∷ []))))
    ∙ and-true (uses_cell c d && (writes_cell c d || write))

met-past : (before : List (List Use)) (earlier : ℕ) (c : Cell) (write : Bool) → length before ≤ earlier → met_at before earlier c write ≡ false
met-past before earlier c write past =
    ap (λ (x : List Use). (uses_cell c x && (writes_cell c x || write)) && not (list_any (writes_cell c) (drop (suc earlier) before))) (get_or_past before earlier [] past)

step_before : (used wrote w b m : Bool) (t : ℕ) → (wrote ≡ true → used ≡ true) → b ≡ false → t ≡ bit m
    → cond used (cond wrote (bit b) (t + cond w (bit b) 0)) t ≡ bit (m && not wrote)
step_before used wrote w true m t both other was = cc
step_before true true w false true t both other was = refl
step_before true true w false false t both other was = refl
step_before false true w false m t both other was = let both_is : false ≡ true = both refl in cc
step_before true false true false true t both other was = omega (arith, was)
step_before true false true false false t both other was = omega (arith, was)
step_before true false false false true t both other was = omega (arith, was)
step_before true false false false false t both other was = omega (arith, was)
step_before false false w false true t both other was = was
step_before false false w false false t both other was = was

step_last : (used wrote w b : Bool) (t : ℕ) → (wrote ≡ true → used ≡ true) → b ≡ true → t ≡ 0
    → cond used (cond wrote (bit b) (t + cond w (bit b) 0)) t ≡ bit (used && (wrote || w))
step_last used wrote w false t both same none = cc
step_last false true w true t both same none = none
step_last false false w true t both same none = none
step_last true true w true t both same none = refl
step_last true false true true t both same none = omega (arith, none)
step_last true false false true t both same none = omega (arith, none)

pub tells_more : (before : List (List Use)) (d : List Use) (child : ℕ) (old new : Cell → CellRow) → child ≡ length before → TellsRows before old
    → ((c : Cell) → new c ≡ row_behind child (uses_cell c d) (writes_cell c d) (old c)) → TellsRows (before ++ d ∷ []) new
tells_more before d child old new at tells is = λ u earlier.
    let c = u.cell in
    let w = is_write u.mode in
    let was : times earlier (waited_for (old c) u.mode) ≡ bit (met_at before earlier c w) = tells u earlier ∙ ap bit (met-is before earlier u) in
    let now : times earlier (waited_for (new c) u.mode)
    ≡ cond (uses_cell c d) (cond (writes_cell c d) (bit (child == earlier)) (times earlier (waited_for (old c) u.mode) + cond w (bit (child == earlier)) 0)) (times earlier (waited_for (old c) u.mode)) =
    ap (λ x. times earlier (waited_for x u.mode)) (is c) ∙ found-entered child earlier (uses_cell c d) (writes_cell c d) (old c) u.mode in
    now ∙ by earlier c w (times earlier (waited_for (old c) u.mode)) was (cases_lt earlier child) ∙ ap bit (sym (met-is (before ++ d ∷ []) earlier u))
  where
    by : (earlier : ℕ) (c : Cell) (w : Bool) (t : ℕ) → t ≡ bit (met_at before earlier c w) → (earlier < child) ⊎ (child ≤ earlier)
        → cond (uses_cell c d) (cond (writes_cell c d) (bit (child == earlier)) (t + cond w (bit (child == earlier)) 0)) t ≡ bit (met_at (before ++ d ∷ []) earlier c w)
    by earlier c w t was (inl ahead) =
        step_before (uses_cell c d) (writes_cell c d) w (child == earlier) (met_at before earlier c w) t (writes-uses c d)
        (other_number child earlier (λ same. omega (arith, same, ahead))) was
        ∙ ap bit (sym (met-before before d earlier c w (omega (arith, ahead, at))))
    by earlier c w t was (inr behind) =
        let none : t ≡ 0 = was ∙ ap bit (met-past before earlier c w (omega (arith, behind, at))) in
        elim (cases_eq earlier child) [
          | inl same ↦
              step_last (uses_cell c d) (writes_cell c d) w (child == earlier) t (writes-uses c d) (ap (λ n. child == n) same ∙ same_number child) none
              ∙ ap bit (sym (ap (λ n. met_at (before ++ d ∷ []) n c w) (same ∙ at) ∙ met-last before d c w))
          | inr apart ↦
              step_before (uses_cell c d) (writes_cell c d) w (child == earlier) false t (writes-uses c d)
              (other_number child earlier (λ same. apart (sym same))) none
              ∙ ap bit (sym (met-past (before ++ d ∷ []) earlier c w (omega (arith, behind, apart, at, length-append before (d ∷ [])))))
        ]

none-found : (earlier : ℕ) (w : Bool) → times earlier ([] ++ cond w [] []) ≡ 0
none-found earlier true = refl
none-found earlier false = refl

-- ---- the cells of a child

pub cells-more : (earlier : List Use) (between : List (List Use)) (uses : List Use) (i : ℕ) (u : Use) → i < length uses
    → cells_at earlier between (take (i + 1) uses)
    ≡ cells_at earlier between (take i uses) ++ cond (is_direct earlier (siblings_with between) (get_or uses i u ∷ [])) ((get_or uses i u).cell ∷ []) []
cells-more earlier between uses i u l =
    let test = λ (v : Use). is_direct earlier (siblings_with between) (v ∷ []) in
    let at = get_or uses i u in
    let cell = λ (v : Use). v.cell in
    let one : (b : Bool) → map cell (cond b (at ∷ []) []) ≡ cond b (at.cell ∷ []) [] =
    λ b. elim b as (λ b. map cell (cond b (at ∷ []) []) ≡ cond b (at.cell ∷ []) []) [ true ↦ refl | false ↦ refl ] in
    ap (map cell) (filter_more test uses i u l) ∙ map-append cell (filter test (take i uses)) (cond (test at) (at ∷ []) [])
    ∙ ap (λ xs. cells_at earlier between (take i uses) ++ xs) (one (test at))

replicate_bit : (b : Bool) (c : Cell) → replicate (bit b) c ≡ cond b (c ∷ []) []
replicate_bit true c = refl
replicate_bit false c = refl

pub met_more : (before : List (List Use)) (rows : Cell → CellRow) (uses : List Use) (i : ℕ) (d : Use) (old new : BTreeMap ℕ (Vec Cell Global) Global) → TellsRows before rows → i < length uses
    → AreMet before (take i uses) old
    → ((e : ℕ) → cells_with new e ≡ cells_with old e ++ replicate (times e (waited_for (rows (get_or uses i d).cell) (get_or uses i d).mode)) (get_or uses i d).cell)
    → AreMet before (take (i + 1) uses) new
met_more before rows uses i d old new tells l so is = λ e.
    let one = get_or uses i d in
    is e ∙ ap (λ xs. xs ++ replicate (times e (waited_for (rows one.cell) one.mode)) one.cell) (so e)
    ∙ ap (λ n. cells_at (get_or before e []) (drop (suc e) before) (take i uses) ++ replicate n one.cell) (tells one e)
    ∙ ap (λ xs. cells_at (get_or before e []) (drop (suc e) before) (take i uses) ++ xs) (replicate_bit (is_met before e one) one.cell)
    ∙ sym (cells-more (get_or before e []) (drop (suc e) before) uses i d l)

-- a cell is put to the children of one list, and of another
pub put_both : (c : Cell) (xs ys : List ℕ) (e : ℕ) (start mid new : List Cell) → mid ≡ start ++ replicate (times e xs) c → new ≡ mid ++ replicate (times e ys) c
    → new ≡ start ++ replicate (times e (xs ++ ys)) c
put_both c xs ys e start mid new first second =
    second ∙ ap (λ zs. zs ++ replicate (times e ys) c) first
    ∙ append_assoc start (replicate (times e xs) c) (replicate (times e ys) c)
    ∙ ap (λ zs. start ++ zs) (replicate-append-replicate (times e xs) (times e ys) c ∙ ap (λ n. replicate n c) (sym (times-append e xs ys)))

-- nobody is found
pub put_none : (e : ℕ) (mode : Mode) (c : Cell) (row : CellRow) (cells : List Cell) → row ≡ no_child → cells ≡ cells ++ replicate (times e (waited_for row mode)) c
put_none e mode c row cells is =
    sym (append-nil cells) ∙ ap (λ n. cells ++ replicate n c) (sym (ap (λ x. times e (waited_for x mode)) is ∙ none-found e (is_write mode)))

-- one more of the children to which a cell is put
pub put_more : (c : Cell) (children : List ℕ) (i d e : ℕ) (start old new : List Cell) → i < length children
    → old ≡ start ++ replicate (times e (take i children)) c → new ≡ old ++ cond (get_or children i d == e) (c ∷ []) []
    → new ≡ start ++ replicate (times e (take (i + 1) children)) c
put_more c children i d e start old new l so is =
    is ∙ ap (λ xs. xs ++ cond (get_or children i d == e) (c ∷ []) []) so
    ∙ append_assoc start (replicate (times e (take i children)) c) (cond (get_or children i d == e) (c ∷ []) [])
    ∙ ap (λ xs. start ++ xs)
    (ap (λ xs. replicate (times e (take i children)) c ++ xs) (sym (replicate_bit (get_or children i d == e) c))
    ∙ replicate-append-replicate (times e (take i children)) (bit (get_or children i d == e)) c
    ∙ ap (λ n. replicate n c) (sym (ap (times e) (take_more children i d l) ∙ times-append e (take i children) (get_or children i d ∷ [])
    ∙ ap (λ n. times e (take i children) + n) (times-one e (get_or children i d)))))

-- ---- the labels of one child more

pub labels_more : (decls : List (List Use)) (labels new : List (BTreeMap ℕ (Vec Cell Global) Global)) (met : BTreeMap ℕ (Vec Cell Global) Global) (i : ℕ) → length labels ≡ i
    → AreLabels decls labels → AreMet (take i decls) (get_or decls i []) met → new ≡ labels ++ met ∷ [] → AreLabels decls new
labels_more decls labels new met i long so one is = λ later m there.
    elim (slice_get-push_place labels met later m (ap (λ xs. slice_get xs later) (sym is) ∙ there)) [
      | inl before ↦ so later m before
      | inr (last, same) ↦
          subst (AreMet (take later decls) (get_or decls later [])) (sym same)
          (subst (λ k. AreMet (take k decls) (get_or decls k []) met) (sym (last ∙ long)) one)
    ]

-- ---- whether there is a cell

split : (a rest : Bool) → (a || rest) ≡ ((a || false) || rest)
split a rest = ap (λ b. b || rest) (sym (or-false a))

cell_more : (d rest : Bool) (v : Use) (waited_for : List Use) → rest ≡ false ↔ map (λ (u : Use). u.cell) waited_for ≡ []
    → (d || rest) ≡ false ↔ map (λ (u : Use). u.cell) (cond d (v ∷ waited_for) waited_for) ≡ []
cell_more true rest v waited_for h = (λ met. cc, λ none. cc)
cell_more false rest v waited_for h = h

pub waits_at_cells : (earlier : List Use) (between : List (List Use)) (later : List Use)
    → is_direct earlier (siblings_with between) later ≡ false ↔ cells_at earlier between later ≡ []
waits_at_cells earlier between [] = (λ _. refl, λ _. refl)
waits_at_cells earlier between (v ∷ vs) =
    let siblings = siblings_with between in
    let both : is_direct earlier siblings (v ∷ vs) ≡ (is_direct earlier siblings (v ∷ []) || is_direct earlier siblings vs) =
    split (uses_cell v.cell earlier && (writes_cell v.cell earlier || is_write v.mode) && not (list_any (λ s. writes_cell v.cell s.uses) siblings)) (is_direct earlier siblings vs) in
    subst (λ (b : Bool). b ≡ false ↔ cells_at earlier between (v ∷ vs) ≡ []) (sym both)
    (cell_more (is_direct earlier siblings (v ∷ [])) (is_direct earlier siblings vs) v (filter (λ u. is_direct earlier siblings (u ∷ [])) vs) (waits_at_cells earlier between vs))
