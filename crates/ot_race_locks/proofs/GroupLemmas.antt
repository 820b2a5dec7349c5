-- Groups of a cell's touches.
use Rattle.std.proofs.Common.{◌≡◌, ◌≢◌, ◌<◌, ◌≤◌, ◌+◌, ℕ, zero, suc, Bool, true, false, ◌&&◌, List, [], ◌∷◌, ◌++◌, length, length-append, map, set, refl, sym, ap, subst, ◌∙◌, inl, inr, arith}
use Rattle.std.specs.Prelude.{◌↔◌, ◌==◌, Contains, Some, slice_get}
use Rattle.std.proofs.lemmas.Bool.{cases_eq}
use Rattle.std.proofs.lemmas.Bool.Decides.{nat_tests}
use Rattle.std.proofs.lemmas.List.Elements.{All-push, All-map, All-weaker, All-contains_itself, Contains-append_left, Contains-push, Contains-push_cases}
use Rattle.std.proofs.lemmas.List.{length-map}
use Rattle.std.proofs.lemmas.Option.{slice_get_within}
use Rattle.ot_model.specs.Cells.{same_mode}
use Rattle.ot_model.specs.declared.expr.Cell.{Cell}
use Rattle.ot_model.specs.declared.stmt.Mode.{Mode}
use Rattle.ot_model.specs.declared.stmt.Use.{Use}
use Rattle.ot_model.proofs.EqualLemmas.{mode-decides}
use Rattle.ot_check.specs.Offences.{use_as}
use Rattle.ot_check.proofs.Cited.{cells_equal}
use Rattle.ot_race.specs.Events.{Event}
use Rattle.ot_race.specs.Histories.{Touched}
use Rattle.ot_race.specs.Races.{IsUsed}
use Rattle.ot_race.specs.Standings.{IsUpTo}
use Rattle.ot_race.proofs.OrderLemmas.{some_is, up_trans}
use Rattle.ot_race.proofs.HistoryLemmas.{more_touched, touched_cases, same_event}
use Rattle.ot_sets.specs.Sets.{has}
use Rattle.ot_sets.specs.declared.numbers.Numbers.{Numbers}
use Rattle.ot_race_locks.specs.OpenRaces.{Kind, IsDistinct, IsThere, HasMany, set_at}
use Rattle.ot_race_locks.specs.Kinds.{kind, kind_of, IsRising, IsTip, IsBehindTip, AreGroups, AreAllGroups, groups_at, TipIsPut, HasGrown, IsNew, AreGrown, AreFull, KindHasBegun, KindFits}
use Rattle.ot_race_locks.specs.declared.group.Group.{Group}
use Rattle.ot_race_locks.specs.declared.kept.Row.{Row}
use Rattle.ot_race_locks.specs.declared.locks.Locks.{Locks}
use Rattle.ot_race_locks.proofs.ListLemmas.{none_some, got_there, got_of, get_push, get_set, set_got, set_at_place, map_set, map_push, distinct_push}

-- ---- kinds

equal_of : (x y : ℕ) → (x == y) ≡ true → x ≡ y
equal_of x y h = grind (arith, nat_tests)

itself : (x y : ℕ) → x ≡ y → (x == y) ≡ true
itself x y h = grind (arith, nat_tests)

both_of : (a b : Bool) → (a && b) ≡ true → (a ≡ true) × (b ≡ true)
both_of true b h = (refl, h)
both_of false b h = cc

both_are : (a b : Bool) → a ≡ true → b ≡ true → (a && b) ≡ true
both_are a b h k = cc

pub kind_is : (g : Group) (s : ℕ) (mode : Mode) → (g.set == s && same_mode g.mode mode) ≡ true → kind_of g ≡ kind s mode
kind_is g s mode h =
    let both = both_of (g.set == s) (same_mode g.mode mode) h in
    ap (λ x. kind x g.mode) (equal_of g.set s both.0) ∙ ap (kind s) ((mode-decides g.mode mode).0 both.1)

pub kind_test : (g : Group) (s : ℕ) (mode : Mode) → kind_of g ≡ kind s mode → (g.set == s && same_mode g.mode mode) ≡ true
kind_test g s mode h =
    both_are (g.set == s) (same_mode g.mode mode) (itself g.set s (ap (λ (k : Kind). k.set) h)) ((mode-decides g.mode mode).1 (ap (λ (k : Kind). k.mode) h))

-- ---- one touch more

front_of : (old new : List ℕ) (n : ℕ) (known : Numbers) (put : TipIsPut old n known new) (e : ℕ) → Contains put.front e → Contains old e
front_of old new n known put e l =
    elim put.was [
      | inl same ↦ subst (λ xs. Contains xs e) (sym same) l
      | inr last ↦ subst (λ xs. Contains xs e) (sym last.1) (Contains-append_left put.front (last.0 ∷ []) e l)
    ]

rising_front : (xs ys : List ℕ) → IsRising (xs ++ ys) → IsRising xs
rising_front xs ys h a b x y l at_a at_b = h a b x y l (more xs ys a x at_a) (more xs ys b y at_b)
  where
    more : (xs ys : List ℕ) (k x : ℕ) → slice_get xs k ≡ Some x → slice_get (xs ++ ys) k ≡ Some x
    more [] ys k x h = absurd (none_some x h)
    more (z ∷ xs) ys zero x h = h
    more (z ∷ xs) ys (suc k) x h = more xs ys k x h

rising_put : (old new : List ℕ) (n : ℕ) (known : Numbers) → IsRising old → ((e : ℕ) → Contains old e → e ≤ n) → TipIsPut old n known new → IsRising new
rising_put old new n known h low put =
    let front : IsRising put.front = elim put.was [
      | inl same ↦ subst IsRising same h
      | inr last ↦ rising_front put.front (last.0 ∷ []) (subst IsRising last.1 h)
    ] in
    subst IsRising (sym put.is) (λ a b x y l at_a at_b.
    elim (get_push put.front n y b at_b) [
      | inl old_b ↦ elim (get_push put.front n x a at_a) [
        | inl old_a ↦ front a b x y l old_a old_b
        | inr new_a ↦ let k : b < length put.front = slice_get_within put.front b y old_b in absurd (omega (arith, l, new_a.0, k))
      ]
      | inr new_b ↦ elim (get_push put.front n x a at_a) [
        | inl old_a ↦ let k : x ≤ n = low x (front_of old new n known put x (got_there put.front a x old_a)) in omega (arith, k, new_b.1)
        | inr new_a ↦ absurd (omega (arith, l, new_a.0, new_b.0))
      ]
    ])

one_rises : (n : ℕ) → IsRising (n ∷ [])
one_rises n a b x y l at_a at_b = let k : b < length (n ∷ []) = slice_get_within (n ∷ []) b y at_b in absurd (omega (arith, l, k))

module _ (es : List Event) (locks : Locks) (n : ℕ) (front : List Use) (u : Use) (known : Numbers) (up : (i : ℕ) → (has known i ≡ true) ↔ IsUpTo es i n) (old new : List Group)
    (h : AreGroups es locks n front u.cell old) (grown : AreGrown (kind (set_at locks n) u.mode) n known old new) where
  own : Kind
  own = kind (set_at locks n) u.mode

  tip_more : (g : Group) (e : ℕ) → IsTip es locks n front u.cell g e → IsTip es locks n (front ++ u ∷ []) u.cell g e
  tip_more g e t = record { touched = more_touched es n front u u.cell g.mode e t.touched; set_is = t.set_is }

  -- the touch itself is a tip of a group of its kind
  own_tip : (g : Group) → kind_of g ≡ kind (set_at locks n) u.mode → IsTip es locks n (front ++ u ∷ []) u.cell g n
  own_tip g is = record {
    touched = inr (refl, subst (λ m. Contains (front ++ u ∷ []) (use_as m u.cell)) (sym (ap (λ (k : Kind). k.mode) is)) (Contains-push front u));
    set_is = sym (ap (λ (k : Kind). k.set) is);
  }

  -- a tip of one group is one of another of its kind
  same_tip : (g k : Group) (e : ℕ) → kind_of g ≡ kind_of k → IsTip es locks n (front ++ u ∷ []) u.cell g e → IsTip es locks n (front ++ u ∷ []) u.cell k e
  same_tip g k e is t = record {
    touched = subst (λ m. Touched es n (front ++ u ∷ []) u.cell m e) (ap (λ (x : Kind). x.mode) is) t.touched;
    set_is = t.set_is ∙ ap (λ (x : Kind). x.set) is;
  }

  tip_low : (g : Group) (e : ℕ) → Contains old g → Contains g.tips.items e → e ≤ n
  tip_low g e l t = elim (h.tips g e l t).touched [ inl before ↦ omega (arith, before.0) | inr here ↦ omega (arith, here.0) ]

  groups_tips : (g : Group) (e : ℕ) → Contains new g → Contains g.tips.items e → IsTip es locks n (front ++ u ∷ []) u.cell g e
  groups_tips g e l t =
      elim (grown.only g l) [
        | inl was ↦ tip_more g e (h.tips g e was t)
        | inr made ↦ elim made [
          | inl begun ↦
              let is : n ≡ e = elim (Contains-push_cases [] n e (subst (λ xs. Contains xs e) begun.tips t)) [ inl none ↦ absurd (omega (arith, none.1)) | inr same ↦ same ] in
              subst (IsTip es locks n (front ++ u ∷ []) u.cell g) is (own_tip g begun.kind_is)
          | inr more ↦
              let put = more.2.put in
              elim (Contains-push_cases put.front n e (subst (λ xs. Contains xs e) put.is t)) [
                | inl was ↦
                    same_tip more.0 g e (more.2.kind_was ∙ sym more.2.kind_is)
                    (tip_more more.0 e (h.tips more.0 e more.1 (front_of more.0.tips.items g.tips.items n known put e was)))
                | inr same ↦ subst (IsTip es locks n (front ++ u ∷ []) u.cell g) same (own_tip g more.2.kind_is)
              ]
        ]
      ]

  groups_some : (g : Group) → Contains new g → (e : ℕ) × Contains g.tips.items e
  groups_some g l =
      elim (grown.only g l) [
        | inl was ↦ h.some g was
        | inr made ↦ elim made [
          | inl begun ↦ (n, subst (λ xs. Contains xs n) (sym begun.tips) (Contains-push [] n))
          | inr more ↦ (n, subst (λ xs. Contains xs n) (sym more.2.put.is) (Contains-push more.2.put.front n))
        ]
      ]

  groups_rising : (g : Group) → Contains new g → IsRising g.tips.items
  groups_rising g l =
      elim (grown.only g l) [
        | inl was ↦ h.rising g was
        | inr made ↦ elim made [
          | inl begun ↦ subst IsRising (sym begun.tips) (one_rises n)
          | inr more ↦ rising_put more.0.tips.items g.tips.items n known (h.rising more.0 more.1) (λ e t. tip_low more.0 e more.1 t) more.2.put
        ]
      ]

  groups_distinct : IsDistinct (map kind_of new)
  groups_distinct = elim grown.kinds [
    | inl same ↦ subst IsDistinct (sym same) h.distinct
    | inr more ↦ subst IsDistinct (sym more.0) (distinct_push (map kind_of old) (kind (set_at locks n) u.mode) h.distinct more.1)
  ]

  behind_more : (k : Kind) (i : ℕ) → IsBehindTip es old k i → IsBehindTip es new k i
  behind_more k i b =
      elim (grown.kept b.group b.there) [
        | inl stays ↦ record { group = b.group; there = stays; kind_is = b.kind_is; tip = b.tip; tip_there = b.tip_there; reached = b.reached }
        | inr more ↦
            let put = more.2.put in
            let is = more.2.kind_is ∙ sym more.2.kind_was ∙ b.kind_is in
            let it : Contains more.0.tips.items n = subst (λ xs. Contains xs n) (sym put.is) (Contains-push put.front n) in
            elim put.was [
              | inl same ↦ record {
                group = more.0;
                there = more.1;
                kind_is = is;
                tip = b.tip;
                tip_there = subst (λ xs. Contains xs b.tip) (sym put.is) (Contains-append_left put.front (n ∷ []) b.tip (subst (λ xs. Contains xs b.tip) same b.tip_there));
                reached = b.reached;
              }
              | inr last ↦ elim (Contains-push_cases put.front last.0 b.tip (subst (λ xs. Contains xs b.tip) last.1 b.tip_there)) [
                | inl was ↦ record {
                  group = more.0;
                  there = more.1;
                  kind_is = is;
                  tip = b.tip;
                  tip_there = subst (λ xs. Contains xs b.tip) (sym put.is) (Contains-append_left put.front (n ∷ []) b.tip was);
                  reached = b.reached;
                }
                | inr same ↦ record {
                  group = more.0;
                  there = more.1;
                  kind_is = is;
                  tip = n;
                  tip_there = it;
                  reached = up_trans es i b.tip n b.reached ((up b.tip).0 (subst (λ x. has known x ≡ true) same last.2));
                }
              ]
            ]
      ]

  groups_all : (mode : Mode) (i : ℕ) → Touched es n (front ++ u ∷ []) u.cell mode i → IsBehindTip es new (kind (set_at locks i) mode) i
  groups_all mode i t =
      elim (touched_cases es n front u u.cell mode i t) [
        | inl was ↦ behind_more (kind (set_at locks i) mode) i (h.all mode i was)
        | inr same ↦
            let it = grown.it in
            record {
              group = it.0;
              there = it.1;
              kind_is = it.2 ∙ ap (λ (v : Use). kind (set_at locks n) v.mode) same.1 ∙ ap (λ x. kind (set_at locks x) mode) (sym same.0);
              tip = n;
              tip_there = it.3;
              reached = inl same.0;
            }
      ]

  groups_more : AreGroups es locks n (front ++ u ∷ []) u.cell new
  groups_more = record { tips = groups_tips; some = groups_some; rising = groups_rising; distinct = groups_distinct; all = groups_all }

-- ---- all cells

-- groups of touches that are the same
groups_moved : (es : List Event) (locks : Locks) (n m : ℕ) (front more : List Use) (c : Cell) (groups : List Group)
    → ((o : Mode) (i : ℕ) → Touched es n front c o i → Touched es m more c o i)
    → ((o : Mode) (i : ℕ) → Touched es m more c o i → Touched es n front c o i)
    → AreGroups es locks n front c groups → AreGroups es locks m more c groups
groups_moved es locks n m front more c groups to from h = record {
  tips = λ g e l t. let tip = h.tips g e l t in record { touched = to g.mode e tip.touched; set_is = tip.set_is };
  some = h.some;
  rising = h.rising;
  distinct = h.distinct;
  all = λ o i t. h.all o i (from o i t);
}

another_touched : (es : List Event) (n : ℕ) (front : List Use) (u : Use) (c : Cell) → c ≢ u.cell → (o : Mode) (i : ℕ) → Touched es n (front ++ u ∷ []) c o i
    → Touched es n front c o i
another_touched es n front u c apart o i t =
    elim (touched_cases es n front u c o i t) [
      | inl old ↦ old
      | inr new ↦ absurd (apart (sym (ap (λ (v : Use). v.cell) new.1)))
    ]

pub all_groups_more : (es : List Event) (locks : Locks) (n : ℕ) (front : List Use) (u : Use) (known : Numbers) (rows new : List Row)
    → ((i : ℕ) → (has known i ≡ true) ↔ IsUpTo es i n) → AreAllGroups es locks n front rows
    → AreGrown (kind (set_at locks n) u.mode) n known (groups_at rows u.cell) (groups_at new u.cell) → ((c : Cell) → c ≢ u.cell → groups_at new c ≡ groups_at rows c)
    → AreAllGroups es locks n (front ++ u ∷ []) new
all_groups_more es locks n front u known rows new up h here others = λ c.
    elim (cells_equal c u.cell) [
      | inl same ↦
          subst (λ d. AreGroups es locks n (front ++ u ∷ []) d (groups_at new d)) (sym same)
          (groups_more es locks n front u known up (groups_at rows u.cell) (groups_at new u.cell) (h u.cell) here)
      | inr apart ↦
          subst (AreGroups es locks n (front ++ u ∷ []) c) (sym (others c apart))
          (groups_moved es locks n n front (front ++ u ∷ []) c (groups_at rows c) (more_touched es n front u c) (another_touched es n front u c apart) (h c))
    ]

none_there : {A : Type 0} (x : A) → Contains [] x → ⊥
none_there x h = omega (arith, h.1)

pub all_groups_next : (es : List Event) (locks : Locks) (n : ℕ) (e : Event) (rows : List Row) → slice_get es n ≡ Some e → AreAllGroups es locks n e.uses rows
    → AreAllGroups es locks (n + 1) [] rows
all_groups_next es locks n e rows at h = λ c.
    groups_moved es locks n (n + 1) e.uses [] c (groups_at rows c)
    (λ o i t. elim t [
      | inl old ↦ inl (omega (arith, old.0), old.1)
      | inr new ↦
          let here : slice_get es i ≡ Some e = ap (slice_get es) new.0 ∙ at in
          inl (omega (arith, new.0), record { it = e; there = here; uses = new.1 })
    ])
    (λ o i t. elim t [
      | inl old ↦ elim (cases_eq i n) [
        | inl same ↦ inr (same, same_event es n c o e at (subst (IsUsed es c o) same old.1))
        | inr apart ↦ inl (omega (arith, old.0, apart), old.1)
      ]
      | inr none ↦ absurd (none_there (use_as o c) none.1)
    ])
    (h c)

-- ---- too many

pub too_many : (es : List Event) (locks : Locks) (n : ℕ) (front : List Use) (u : Use) (groups : List Group) → AreGroups es locks n front u.cell groups
    → ((mode : Mode) → Contains front (use_as mode u.cell) → IsUsed es u.cell mode n) → IsUsed es u.cell u.mode n
    → AreFull (kind (set_at locks n) u.mode) groups → HasMany es locks u.cell
too_many es locks n front u groups h passed used full =
    let own : Kind = kind (set_at locks n) u.mode in
    let many : 64 < length (map kind_of groups ++ own ∷ []) = omega (arith, full.many, length-map groups kind_of, length-append (map kind_of groups) (own ∷ [])) in
    record {
      kinds = map kind_of groups ++ own ∷ [];
      many = many;
      distinct = distinct_push (map kind_of groups) own h.distinct full.other;
      each = All-push (IsThere es locks u.cell) (map kind_of groups) own
          (All-map (IsThere es locks u.cell) kind_of groups
          (All-weaker (Contains groups) (λ g. IsThere es locks u.cell (kind_of g))
          (λ g l.
          let t = h.some g l in
          let tip = h.tips g t.0 l t.1 in
          record {
            i = t.0;
            used = elim tip.touched [ inl before ↦ before.1 | inr here ↦ subst (IsUsed es u.cell g.mode) (sym here.0) (passed g.mode here.1) ];
            set_is = tip.set_is;
          })
          groups (All-contains_itself groups)))
          (record { i = n; used = used; set_is = refl });
    }

pub test_false : (b : Bool) → b ≡ false → b ≡ true → ⊥
test_false b h k = cc

-- ---- what an addition leaves

pub grown_at : (old : List Group) (p : ℕ) (g h : Group) (own : Kind) (n : ℕ) (known : Numbers) → slice_get old p ≡ Some g → HasGrown own n known g h
    → AreGrown own n known old (set old p h)
grown_at old p g h own n known at grown =
    let there : Contains (set old p h) h = got_there (set old p h) p h (set_at_place old p h g at) in
    record {
      kinds = inl (map_set kind_of old p h g at (grown.kind_is ∙ sym grown.kind_was));
      kept = λ k l.
          let place = got_of old k l in
          elim (cases_eq place.0 p) [
            | inl same ↦
                let is : g ≡ k = some_is g k (sym at ∙ ap (slice_get old) (sym same) ∙ place.1) in
                inr (h, there, subst (λ x. HasGrown own n known x h) is grown)
            | inr apart ↦ inl (got_there (set old p h) place.0 k (set_got old p h k place.0 apart place.1))
          ];
      only = λ k l.
          let place = got_of (set old p h) k l in
          elim (get_set old p h k place.0 place.1) [
            | inl was ↦ inl (got_there old place.0 k was)
            | inr same ↦ inr (inr (g, got_there old p g at, subst (HasGrown own n known g) same grown))
          ];
      it = (h, there, grown.kind_is, subst (λ xs. Contains xs n) (sym grown.put.is) (Contains-push grown.put.front n));
    }

pub grown_begun : (old new : List Group) (g : Group) (own : Kind) (n : ℕ) (known : Numbers) → IsNew own n g → new ≡ old ++ g ∷ []
    → (Contains (map kind_of old) own → ⊥) → AreGrown own n known old new
grown_begun old new g own n known is more other = subst (AreGrown own n known old) (sym more) (record {
  kinds = inr (map_push kind_of old g ∙ ap (λ k. map kind_of old ++ k ∷ []) is.kind_is, other);
  kept = λ k l. inl (Contains-append_left old (g ∷ []) k l);
  only = λ k l. elim (Contains-push_cases old g k l) [
    | inl was ↦ inl was
    | inr same ↦ inr (inl (subst (IsNew own n) same is))
  ];
  it = (g, Contains-push old g, is.kind_is, subst (λ xs. Contains xs n) (sym is.tips) (Contains-push [] n));
})

pub fits_begun : (old new : List Group) (own : Kind) (n : ℕ) (known : Numbers) → (Contains (map kind_of old) own → ⊥) → (b : Bool) → KindHasBegun own n old new b
    → KindFits own n known old new b
fits_begun old new it n known other true begun = grown_begun old new begun.0 it n known begun.1 begun.2 other
fits_begun old new it n known other false full = record { many = full; other = other }
