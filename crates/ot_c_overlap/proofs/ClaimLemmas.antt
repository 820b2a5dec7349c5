-- Claims of cells, and the overlaps that they show.
use Rattle.std.proofs.Common.{◌≡◌, ◌≢◌, ℕ, zero, suc, [], ◌∷◌, length, slice_index_or, ◌+◌, ◌<◌, ◌≤◌, Bool, true, false, cond, ◌&&◌, ◌⊎◌, inl, inr, List, refl, sym, ap, ◌∙◌, subst, arith, is_eq}
use Rattle.std.specs.Prelude.{◌==◌, ◌||◌, nat_le, nat_lt, not, Some, None, slice_get}
use Rattle.std.specs.BTreeMap.{Updates}
use Rattle.std.specs.Ordering.{nat_cmp, ordering_then}
use Rattle.std.specs.declared.cmp.Ordering.{Ordering}
use Rattle.std.specs.declared.cmp.Ordering.TheVariants.{Less, Equal, Greater}
use Rattle.std.proofs.lemmas.Bool.{cases_eq, cases_lt}
use Rattle.std.proofs.lemmas.Bool.Decides.{nat_tests}
use Rattle.ot_model.specs.declared.expr.Section.{Section}
use Rattle.ot_c_overlap.specs.Claims.{Key, key_cmp, claimed_section, Clashes, AreWhole, is_here, is_taken, AreClaims}
use Rattle.ot_c_overlap.specs.Overlaps.{Covers, IsOverlap, IsFirstIn}
use Rattle.ot_c_overlap.specs.declared.claims.Claims.{Claims}
use Rattle.ot_c_overlap.specs.declared.item.Item.{Item}

true_or_false : (b : Bool) → (b ≡ true) ⊎ (b ≡ false)
true_or_false true = inl refl
true_or_false false = inr refl

-- ---- keys

same_cmp : (x y : ℕ) → is_eq (nat_cmp x y) ≡ (x == y)
same_cmp x y = elim (cases_lt x y) [ inl less ↦ grind (arith, nat_tests) | inr rest ↦ grind (arith, nat_tests) ]

then_eq : (a b : Ordering) → is_eq (ordering_then a b) ≡ (is_eq a && is_eq b)
then_eq Less b = refl
then_eq Equal b = refl
then_eq Greater b = refl

key_is : (x y : Key) → is_eq (key_cmp x y) ≡ (((x.0 == y.0) && (x.1 == y.1)) && (x.2 == y.2))
key_is x y =
    then_eq (ordering_then (nat_cmp x.0 y.0) (nat_cmp x.1 y.1)) (nat_cmp x.2 y.2)
    ∙ ap (λ b. b && is_eq (nat_cmp x.2 y.2)) (then_eq (nat_cmp x.0 y.0) (nat_cmp x.1 y.1))
    ∙ ap (λ b. (b && is_eq (nat_cmp x.1 y.1)) && is_eq (nat_cmp x.2 y.2)) (same_cmp x.0 y.0)
    ∙ ap (λ b. ((x.0 == y.0) && b) && is_eq (nat_cmp x.2 y.2)) (same_cmp x.1 y.1)
    ∙ ap (λ b. ((x.0 == y.0) && (x.1 == y.1)) && b) (same_cmp x.2 y.2)

-- ---- an item that claims its cells

-- whether the cell is one of the item's before this index, and the task its parent
abbrev pub is_upto : Item → ℕ → ℕ → ℕ → ℕ → Bool
is_upto it n parent array index =
    it.parent == parent && (it.section.array == array && (nat_le it.section.start index && nat_lt index n))

pick : {A : Type 0} (p a e l : Bool) (x y : A) → cond ((p && a) && e) x (cond (p && (a && l)) x y) ≡ cond (p && (a && (e || l))) x y
pick true true true l x y = refl
pick true true false l x y = refl
pick true false e l x y = refl
pick false a e l x y = refl

upto_next : (start k n : ℕ) → start ≤ n → (nat_le start k && nat_lt k (n + 1)) ≡ ((n == k) || (nat_le start k && nat_lt k n))
upto_next start k n within = grind (arith, nat_tests)

upto_none : (start k : ℕ) → (nat_le start k && nat_lt k start) ≡ false
upto_none start k = grind (arith, nat_tests)

and_false : (b : Bool) → (b && false) ≡ false
and_false true = refl
and_false false = refl

pub entered_none : (it : Item) (old : Claims) (n : ℕ) → n ≡ it.section.start → (parent array index : ℕ)
    → claimed_section old parent array index ≡ cond (is_upto it n parent array index) (Some it.section) (claimed_section old parent array index)
entered_none it old n first parent array index =
    let p = it.parent == parent in
    let a = it.section.array == array in
    let none : is_upto it n parent array index ≡ false =
    ap (λ m. is_upto it m parent array index) first ∙ ap (λ b. p && (a && b)) (upto_none it.section.start index) ∙ ap (λ b. p && b) (and_false a) ∙ and_false p in
    sym (ap (λ b. cond b (Some it.section) (claimed_section old parent array index)) none)

pub entered_next : (it : Item) (n : ℕ) (base old new : Claims) → it.section.start ≤ n
    → ((parent array index : ℕ) → claimed_section old parent array index ≡ cond (is_upto it n parent array index) (Some it.section) (claimed_section base parent array index))
    → Updates key_cmp old.sections new.sections (it.parent, it.section.array, n) (Some it.section)
    → (parent array index : ℕ) → claimed_section new parent array index ≡ cond (is_upto it (n + 1) parent array index) (Some it.section) (claimed_section base parent array index)
entered_next it n base old new from before updates parent array index =
    let p = it.parent == parent in
    let a = it.section.array == array in
    let l = nat_le it.section.start index && nat_lt index n in
    let x = Some it.section in
    let y = claimed_section base parent array index in
    updates.0 (parent, array, index)
    ∙ ap (λ b. cond b x (claimed_section old parent array index)) (key_is (it.parent, it.section.array, n) (parent, array, index))
    ∙ ap (λ z. cond ((p && a) && (n == index)) x z) (before parent array index)
    ∙ pick p a (n == index) l x y
    ∙ ap (λ b. cond (p && (a && b)) x y) (sym (upto_next it.section.start index n from))

-- ---- an item's own cells

left_of : (a b : Bool) → (a && b) ≡ true → a ≡ true
left_of true b h = refl
left_of false b h = cc

right_of : (a b : Bool) → (a && b) ≡ true → b ≡ true
right_of true b h = h
right_of false b h = cc

both_of : (a b : Bool) → a ≡ true → b ≡ true → (a && b) ≡ true
both_of true b h k = k
both_of false b h k = cc

equal_of : (x y : ℕ) → (x == y) ≡ true → x ≡ y
equal_of x y h = grind (arith, nat_tests)

equal_to : (x y : ℕ) → x ≡ y → (x == y) ≡ true
equal_to x y h = grind (arith, nat_tests)

at_most : (x y : ℕ) → nat_le x y ≡ true → x ≤ y
at_most x y h = grind (arith, nat_tests)

at_most_to : (x y : ℕ) → x ≤ y → nat_le x y ≡ true
at_most_to x y h = grind (arith, nat_tests)

less_of : (x y : ℕ) → nat_lt x y ≡ true → x < y
less_of x y h = grind (arith, nat_tests)

less_to : (x y : ℕ) → x < y → nat_lt x y ≡ true
less_to x y h = grind (arith, nat_tests)

here_is : (it : Item) (parent array index : ℕ) → is_here it parent array index ≡ true
    → (it.parent ≡ parent) × (it.section.array ≡ array) × Covers it.section index
here_is it parent array index h =
    let s = it.section in
    let rest = right_of (it.parent == parent) _ h in
    let inside = right_of (s.array == array) _ rest in (
      equal_of it.parent parent (left_of (it.parent == parent) _ h),
      equal_of s.array array (left_of (s.array == array) _ rest),
      (at_most s.start index (left_of (nat_le s.start index) _ inside), less_of index (s.start + s.len) (right_of (nat_le s.start index) _ inside)),
    )

is_there : (it : Item) (parent array index : ℕ) → it.parent ≡ parent → it.section.array ≡ array → Covers it.section index → is_here it parent array index ≡ true
is_there it parent array index p a covers =
    let s = it.section in
    both_of (it.parent == parent) _ (equal_to it.parent parent p)
    (both_of (s.array == array) _ (equal_to s.array array a)
    (both_of (nat_le s.start index) _ (at_most_to s.start index covers.0) (less_to index (s.start + s.len) covers.1)))

-- ---- sections

abbrev section_of : ℕ → ℕ → ℕ → Section
section_of array start len = record { array = array; start = start; len = len }

same_section : (s t : Section) → s.array ≡ t.array → s.start ≡ t.start → s.len ≡ t.len → s ≡ t
same_section s t a b c =
    ap (λ x. section_of x s.start s.len) a ∙ ap (λ x. section_of t.array x s.len) b ∙ ap (λ x. section_of t.array t.start x) c

pub sections_equal : (s t : Section) → (s ≡ t) ⊎ (s ≢ t)
sections_equal s t =
    elim (cases_eq s.array t.array) [
      | inl array ↦ elim (cases_eq s.start t.start) [
        | inl start ↦ elim (cases_eq s.len t.len) [
          | inl len ↦ inl (same_section s t array start len)
          | inr apart ↦ inr (λ e. apart (ap (λ (x : Section). x.len) e))
        ]
        | inr apart ↦ inr (λ e. apart (ap (λ (x : Section). x.start) e))
      ]
      | inr apart ↦ inr (λ e. apart (ap (λ (x : Section). x.array) e))
    ]

-- ---- claims behind one item more

some_same : {A : Type 0} (x y : A) → Some x ≡ Some y → x ≡ y
some_same x y h = cc

-- where a section claims a cell of an item that has it, it claims all of them
pub are_whole : (items : List Item) (n : ℕ) (claims : Claims) → AreClaims items n claims → AreWhole claims
are_whole items n claims are parent array index s claim k covers =
    let found = are.sound parent array index s claim in
    let it = found.1 in
    let all = are.complete found.0 it found.2 found.3 found.8 k (subst (λ (t : Section). Covers t k) (sym found.6) covers) in
    ap (λ p. claimed_section claims p array k) (sym found.4) ∙ ap (λ a. claimed_section claims it.parent a k) (sym found.5) ∙ all ∙ ap Some found.6

pub whole_here : (it : Item) (claims : Claims) → AreWhole claims → claimed_section claims it.parent it.section.array it.section.start ≡ Some it.section
    → (parent array index : ℕ) → claimed_section claims parent array index ≡ cond (is_here it parent array index) (Some it.section) (claimed_section claims parent array index)
whole_here it claims whole first parent array index =
    elim (true_or_false (is_here it parent array index)) [
      | inl here ↦
          let is = here_is it parent array index here in
          ap (λ p. claimed_section claims p array index) (sym is.0) ∙ ap (λ a. claimed_section claims it.parent a index) (sym is.1)
          ∙ whole it.parent it.section.array it.section.start it.section first index is.2
          ∙ sym (ap (λ b. cond b (Some it.section) (claimed_section claims parent array index)) here)
      | inr away ↦ sym (ap (λ b. cond b (Some it.section) (claimed_section claims parent array index)) away)
    ]

pub whole_free : (it : Item) (claims : Claims) → AreWhole claims → claimed_section claims it.parent it.section.array it.section.start ≡ Some it.section → Clashes claims it → ⊥
whole_free it claims whole first clash =
    clash.2.2 (some_same clash.2.0 it.section (sym clash.2.1 ∙ whole it.parent it.section.array it.section.start it.section first clash.0 clash.1))

abbrev Entered : Claims → Item → Claims → Type 0
Entered old it new = (parent array index : ℕ) → claimed_section new parent array index ≡ cond (is_taken it parent array index) (Some it.section) (claimed_section old parent array index)

at_here : (old new : Claims) (it : Item) (parent array index : ℕ) → Entered old it new → is_taken it parent array index ≡ true
    → claimed_section new parent array index ≡ Some it.section
at_here old new it parent array index entered here =
    entered parent array index ∙ ap (λ b. cond b (Some it.section) (claimed_section old parent array index)) here

at_other : (old new : Claims) (it : Item) (parent array index : ℕ) → Entered old it new → is_taken it parent array index ≡ false
    → claimed_section new parent array index ≡ claimed_section old parent array index
at_other old new it parent array index entered away =
    entered parent array index ∙ ap (λ b. cond b (Some it.section) (claimed_section old parent array index)) away

module _ (items : List Item) (n : ℕ) (it : Item) (old : Claims) (there : slice_get items n ≡ Some it) (are : AreClaims items n old) where
  pub overlaps : Clashes old it → IsFirstIn items (Some it.entry)
  overlaps clash =
      let index = clash.0 in
      let covers = clash.1 in
      let other = clash.2.0 in
      let found = are.sound it.parent it.section.array index other clash.2.1 in
      let one = found.1 in (
        found.0,
        n,
        it,
        record {
          order = found.2;
          one = one;
          other = it;
          earlier = found.3;
          later = there;
          writes = found.8;
          siblings = found.4;
          array = found.5;
          index = index;
          here = subst (λ (s : Section). Covers s index) (sym found.6) found.7;
          there = covers;
          apart = λ same. clash.2.2 (sym found.6 ∙ same);
        },
        there,
        refl,
        λ k l o. elim (cases_lt l n) [ inl less ↦ absurd (are.none k l o less) | inr rest ↦ omega (arith, rest) ],
      )

  module _ (new : Claims) (free : Clashes old it → ⊥) (entered : Entered old it new) where
    kept_sound : (parent array index : ℕ) (s : Section) → claimed_section new parent array index ≡ Some s
        → (i : ℕ) × (jt : Item) × (i < n + 1) × (slice_get items i ≡ Some jt) × (jt.parent ≡ parent) × (jt.section.array ≡ array) × (jt.section ≡ s) × Covers s index × (jt.writes ≡ true)
    kept_sound parent array index s claim =
        elim (true_or_false (is_taken it parent array index)) [
          | inl here ↦
              let is = here_is it parent array index (right_of it.writes _ here) in
              let same : it.section ≡ s = some_same it.section s (sym (at_here old new it parent array index entered here) ∙ claim) in
              (n, it, omega arith, there, is.0, is.1, same, subst (λ (t : Section). Covers t index) same is.2, left_of it.writes _ here)
          | inr away ↦
              let found = are.sound parent array index s (sym (at_other old new it parent array index entered away) ∙ claim) in
              (found.0, found.1, omega (arith, found.2), found.3, found.4, found.5, found.6, found.7, found.8)
        ]

    earlier_kept : (i : ℕ) (jt : Item) → i < n → slice_get items i ≡ Some jt → jt.writes ≡ true → (index : ℕ) → Covers jt.section index
        → claimed_section new jt.parent jt.section.array index ≡ Some jt.section
    earlier_kept i jt less at_i writes index covers =
        let claim = are.complete i jt less at_i writes index covers in
        elim (true_or_false (is_taken it jt.parent jt.section.array index)) [
          | inl here ↦
              let is = here_is it jt.parent jt.section.array index (right_of it.writes _ here) in
              elim (sections_equal jt.section it.section) [
                | inl same ↦ at_here old new it jt.parent jt.section.array index entered here ∙ ap Some (sym same)
                | inr apart ↦
                    let moved : claimed_section old it.parent it.section.array index ≡ Some jt.section =
                    ap (λ p. claimed_section old p it.section.array index) is.0 ∙ ap (λ a. claimed_section old jt.parent a index) is.1 ∙ claim in
                    absurd (free (index, is.2, (jt.section, moved, apart)))
              ]
          | inr away ↦ at_other old new it jt.parent jt.section.array index entered away ∙ claim
        ]

    kept_complete : (i : ℕ) (jt : Item) → i < n + 1 → slice_get items i ≡ Some jt → jt.writes ≡ true → (index : ℕ) → Covers jt.section index
        → claimed_section new jt.parent jt.section.array index ≡ Some jt.section
    kept_complete i jt less at_i writes index covers =
        elim (cases_eq i n) [
          | inl last ↦
              let same : jt ≡ it = some_same jt it (sym at_i ∙ ap (λ k. slice_get items k) last ∙ there) in
              subst (λ (x : Item). x.writes ≡ true → Covers x.section index → claimed_section new x.parent x.section.array index ≡ Some x.section) (sym same)
              (λ ws cs. at_here old new it it.parent it.section.array index entered (both_of it.writes _ ws (is_there it it.parent it.section.array index refl refl cs))) writes covers
          | inr before ↦ earlier_kept i jt (omega (arith, less, before)) at_i writes index covers
        ]

    kept_none : (i j : ℕ) → IsOverlap items i j → j < n + 1 → ⊥
    kept_none i j o less =
        elim (cases_eq j n) [
          | inl last ↦
              let same : o.other ≡ it = some_same o.other it (sym o.later ∙ ap (λ k. slice_get items k) last ∙ there) in
              let claim = are.complete i o.one (omega (arith, o.order, last)) o.earlier o.writes o.index o.here in
              let moved : claimed_section old it.parent it.section.array o.index ≡ Some o.one.section =
              ap (λ (x : Item). claimed_section old x.parent x.section.array o.index) (sym same)
              ∙ ap (λ p. claimed_section old p o.other.section.array o.index) (sym o.siblings) ∙ ap (λ a. claimed_section old o.one.parent a o.index) (sym o.array) ∙ claim in
              free (
                o.index,
                subst (λ (x : Item). Covers x.section o.index) same o.there,
                (o.one.section, moved, λ e. o.apart (e ∙ ap (λ (x : Item). x.section) (sym same))),
              )
          | inr before ↦ are.none i j o (omega (arith, less, before))
        ]

    pub are_next : AreClaims items (n + 1) new
    are_next = record { sound = kept_sound; complete = kept_complete; none = kept_none }

-- ---- at first

none_some : {A : Type 0} (x : A) → None ≡ Some x → ⊥
none_some x h = cc

pub are_none : (items : List Item) (claims : Claims) → ((parent array index : ℕ) → claimed_section claims parent array index ≡ None) → AreClaims items 0 claims
are_none items claims none =
    record {
      sound = λ parent array index s claim. absurd (none_some s (sym (none parent array index) ∙ claim));
      complete = λ i it less at_i writes index covers. absurd (omega (arith, less));
      none = λ i j o less. omega (arith, less);
    }

-- what an index beyond all items gives
abbrev pub nowhere : Item
nowhere = record { parent = 0; entry = 0; writes = false; section = section_of 0 0 0 }

-- the item at an index
pub stands_at : (items : List Item) (n : ℕ) (other : Item) → n < length items → slice_get items n ≡ Some (slice_index_or items n other)
stands_at [] n other l = absurd (omega (arith, l))
stands_at (x ∷ xs) zero other l = refl
stands_at (x ∷ xs) (suc n) other l = stands_at xs n other (omega (arith, l))

pub stands_within : (items : List Item) (n : ℕ) (it : Item) → slice_get items n ≡ Some it → n < length items
stands_within [] n it h = absurd (none_some it h)
stands_within (x ∷ xs) zero it h = omega arith
stands_within (x ∷ xs) (suc n) it h = let l = stands_within xs n it h in omega (arith, l)

pub not_true : (b : Bool) → not b ≡ true → b ≡ false
not_true false h = refl
not_true true h = cc
