-- What is kept of members, through each change of them.
use Rattle.std.proofs.Common.{◌≡◌, ◌≢◌, ◌<◌, ◌≤◌, ◌+◌, ℕ, Bool, true, false, cond, not, List, [], ◌∷◌, ◌++◌, length, zero, suc, ◌-◌, get_or, set, refl, sym, ap, subst, ◌∙◌, inl, inr, arith, if◌then◌else◌}
use Rattle.std.proofs.lemmas.Bool.{cases_eq, cases_lt, eq-eqb, ne_eqb}
use Rattle.std.proofs.lemmas.List.{get_or-set_other, get_or-set_same, get_or_append_left, get_or_past, length-append, length-set}
use Rattle.std.specs.List.{range_with_len}
use Rattle.std.proofs.lemmas.List.FromFn.{length-range_with_len}
use Rattle.std.proofs.lemmas.List.Sums.{count_by-le-length, length-filter}
use Rattle.std.proofs.Math.Seq.{get_or-append_seam}
use Rattle.ot_job_roster.specs.Listed.{has, IsListBelow}
use Rattle.ot_job_roster.specs.Members.{Member, Kept, IsAlone, AreNumbered, Tells, passing, told_put, goes_out, comes_back, ends, with_kid, with_member}
use Rattle.ot_job_roster.proofs.ListedLemmas.{below-but, below-fewer, below-more, counted-one, get_or-behind, has-those, list-is, listed, those-more, those-same}

-- ---- what is told of one number

pub put-here : {A : Type 0} (f : ℕ → A) (i : ℕ) (x : A) → told_put f i x i ≡ x
put-here f i x = ap (λ b. if b then x else f i) (eq-eqb i i refl)

pub put-other : {A : Type 0} (f : ℕ → A) (i : ℕ) (x : A) (k : ℕ) → k ≢ i → told_put f i x k ≡ f k
put-other f i x k apart = ap (λ b. if b then x else f k) (ne_eqb k i apart)

-- what is the same of it there is so everywhere
pub put-field : {A B : Type 0} (g : A → B) (f : ℕ → A) (i : ℕ) (x : A) → g x ≡ g (f i) → (k : ℕ) → g (told_put f i x k) ≡ g (f k)
put-field g f i x same k = elim (cases_eq k i) [
  | inl is ↦ ap (λ n. g (told_put f i x n)) is ∙ ap g (put-here f i x) ∙ same ∙ sym (ap (λ n. g (f n)) is)
  | inr apart ↦ ap g (put-other f i x k apart)
]

-- ---- how many pass a test

count-same : (f g : ℕ → Bool) (n : ℕ) → ((k : ℕ) → f k ≡ g k) → length (passing f n) ≡ length (passing g n)
count-same f g n same = ap length (those-same f g 0 n (λ k low high. same k))

-- one more does
pub count-one : {A : Type 0} (g : A → Bool) (f : ℕ → A) (n i : ℕ) (x : A) → i < n → g (f i) ≡ false → g x ≡ true → length (passing (λ k. g (told_put f i x k)) n) ≡ length (passing (λ k. g (f k)) n) + 1
count-one g f n i x within fails passes =
    counted-one (λ k. g (f k)) (λ k. g (told_put f i x k)) 0 n i (omega arith) (omega (arith, within)) fails (ap g (put-here f i x) ∙ passes) (λ k apart. ap g (put-other f i x k apart))

-- one fewer does
pub count-none : {A : Type 0} (g : A → Bool) (f : ℕ → A) (n i : ℕ) (x : A) → i < n → g (f i) ≡ true → g x ≡ false → length (passing (λ k. g (f k)) n) ≡ length (passing (λ k. g (told_put f i x k)) n) + 1
count-none g f n i x within passes fails =
    counted-one (λ k. g (told_put f i x k)) (λ k. g (f k)) 0 n i (omega arith) (omega (arith, within)) (ap g (put-here f i x) ∙ fails) passes (λ k apart. sym (ap g (put-other f i x k apart)))

pub count-kept : {A : Type 0} (g : A → Bool) (f : ℕ → A) (n i : ℕ) (x : A) → g x ≡ g (f i) → length (passing (λ k. g (told_put f i x k)) n) ≡ length (passing (λ k. g (f k)) n)
count-kept g f n i x same = count-same (λ k. g (told_put f i x k)) (λ k. g (f k)) n (put-field g f i x same)

-- among one number more, that doesn't pass
longer-same : (f g : ℕ → Bool) (n : ℕ) → g n ≡ false → ((k : ℕ) → k < n → g k ≡ f k) → length (passing g (n + 1)) ≡ length (passing f n)
longer-same f g n fails same =
    ap (λ m. length (passing g m)) (let e : n + 1 ≡ suc n = omega arith in e)
    ∙ ap length (those-more g 0 n (ap g (let e : 0 + n ≡ n = omega arith in e) ∙ fails) ∙ those-same g f 0 n (λ k low high. same k (omega (arith, high))))

-- and among one that does
longer-one : (f g : ℕ → Bool) (n : ℕ) → g n ≡ true → ((k : ℕ) → k < n → g k ≡ f k) → length (passing g (n + 1)) ≡ length (passing f n) + 1
longer-one f g n passes same =
    let less = longer-same f (told_put g n false) n (put-here g n false) (λ k h. put-other g n false k (λ e. absurd (omega (arith, e, h))) ∙ same k h) in
    let one = counted-one (told_put g n false) g 0 (n + 1) n (omega arith) (omega arith) (put-here g n false) passes (λ k apart. sym (put-other g n false k apart)) in
    omega (arith, one, less)

-- ---- which are listed

pub put-listed : (n room : ℕ) (test : ℕ → Bool) (i : ℕ) (b : Bool) (old new : List ℕ) → i < n → n ≤ room → old ≡ passing test n → IsListBelow room new → has i new ≡ b → ((k : ℕ) → k ≢ i → has k new ≡ has k old)
    → new ≡ passing (told_put test i b) n
put-listed n room test i b old new within enough was ordered here others =
    list-is (told_put test i b) n new (below-but n room old new i within enough (listed test n old was) ordered others) (λ k h. elim (cases_eq k i) [
      | inl is ↦ subst (λ j. has j new ≡ told_put test i b j) (sym is) (here ∙ sym (put-here test i b))
      | inr apart ↦ others k apart ∙ ap (has k) was ∙ has-those test 0 n k (omega arith) (omega (arith, h)) ∙ sym (put-other test i b k apart)
    ])

-- ---- what is kept of the same members

-- whatever there is room for
pub tells-roomy : (n : ℕ) (s : ℕ → Member) (test : ℕ → Bool) (r new : Kept) → new.numbers ≡ r.numbers → new.listed ≡ r.listed → new.out ≡ r.out → new.unended ≡ r.unended → Tells n s test r → Tells n s test new
tells-roomy n s test r new numbers list out unended old = record {
  free = list ∙ old.free;
  out = out ∙ old.out;
  unended = unended ∙ old.unended;
  numbered = subst (AreNumbered n s) (sym numbers) old.numbered;
}

-- ---- the same members, told otherwise

pub tells-same : (n : ℕ) (s t : ℕ → Member) (f g : ℕ → Bool) (r : Kept) → ((k : ℕ) → s k ≡ t k) → ((k : ℕ) → k < n → f k ≡ g k) → Tells n s f r → Tells n t g r
tells-same n s t f g r same passes old = record {
  free = old.free ∙ those-same f g 0 n (λ k low high. passes k (omega (arith, high)));
  out = old.out ∙ count-same (λ k. (s k).out) (λ k. (t k).out) n (λ k. ap (λ m. m.out) (same k));
  unended = old.unended ∙ count-same (λ k. not (s k).ended) (λ k. not (t k).ended) n (λ k. ap (λ m. not m.ended) (same k));
  numbered = record {
    long = old.numbered.long;
    kids = λ p. old.numbered.kids p ∙ ap (λ m. m.kids) (same p);
    known = λ p c h. old.numbered.known p c (omega (arith, h, ap (λ m. m.kids) (same p)));
    placed = λ i pos h. subst (λ (m : Member). m.child < (t m.parent).kids) (same i) (omega (arith, old.numbered.placed i pos h, ap (λ m. m.kids) (same (s i).parent)));
    is = λ i pos h. subst (λ (m : Member). get_or (get_or r.numbers m.parent []) m.child 0 ≡ i) (same i) (old.numbered.is i pos h);
  };
}

-- ---- one member is free now, or isn't

-- as the list tells that is made of it
pub tells-marked : (n : ℕ) (s : ℕ → Member) (test : ℕ → Bool) (r : Kept) (room i : ℕ) (b : Bool) (new : List ℕ) → i < n → n ≤ room → IsListBelow room new → has i new ≡ b → ((k : ℕ) → k ≢ i → has k new ≡ has k r.listed)
    → Tells n s test r → Tells n s (told_put test i b) (record r { listed = new; room = room })
tells-marked n s test r room i b new within enough ordered here others old = record {
  free = put-listed n room test i b r.listed new within enough old.free ordered here others;
  out = old.out;
  unended = old.unended;
  numbered = old.numbered;
}

-- ---- one member changes, and neither whose child it is nor how many it has

pub numbered-put : (n : ℕ) (s : ℕ → Member) (numbers : List (List ℕ)) (i : ℕ) (m : Member) → m.parent ≡ (s i).parent → m.child ≡ (s i).child → m.kids ≡ (s i).kids → AreNumbered n s numbers → AreNumbered n (told_put s i m) numbers
numbered-put n s numbers i m up place many old = record {
  long = old.long;
  kids = λ p. old.kids p ∙ sym (kids p);
  known = λ p c h. old.known p c (omega (arith, h, kids p));
  placed = λ k pos h. omega (arith, old.placed k pos h, child k, kids (told_put s i m k).parent, ap (λ p. (s p).kids) (parent k));
  is = λ k pos h. ap (λ p. get_or (get_or numbers p []) (told_put s i m k).child 0) (parent k) ∙ ap (λ c. get_or (get_or numbers (s k).parent []) c 0) (child k) ∙ old.is k pos h;
}
  where
    parent : (k : ℕ) → (told_put s i m k).parent ≡ (s k).parent
    parent = put-field (λ m. m.parent) s i m up

    child : (k : ℕ) → (told_put s i m k).child ≡ (s k).child
    child = put-field (λ m. m.child) s i m place

    kids : (k : ℕ) → (told_put s i m k).kids ≡ (s k).kids
    kids = put-field (λ m. m.kids) s i m many

-- it goes out
pub tells-out : (n : ℕ) (s : ℕ → Member) (test : ℕ → Bool) (r : Kept) (i : ℕ) → i < n → (s i).out ≡ false → Tells n s test r → Tells n (told_put s i (goes_out (s i))) test (record r { out = r.out + 1 })
tells-out n s test r i within idle old = record {
  free = old.free;
  out = omega (arith, old.out, count-one (λ m. m.out) s n i (goes_out (s i)) within idle refl);
  unended = old.unended ∙ sym (count-kept (λ m. not m.ended) s n i (goes_out (s i)) refl);
  numbered = numbered-put n s r.numbers i (goes_out (s i)) refl refl refl old.numbered;
}

-- it comes back
pub tells-back : (n : ℕ) (s : ℕ → Member) (test : ℕ → Bool) (r : Kept) (i : ℕ) → i < n → (s i).out ≡ true → Tells n s test r → Tells n (told_put s i (comes_back (s i))) test (record r { out = r.out - 1 })
tells-back n s test r i within out old = record {
  free = old.free;
  out = omega (arith, old.out, count-none (λ m. m.out) s n i (comes_back (s i)) within out refl);
  unended = old.unended ∙ sym (count-kept (λ m. not m.ended) s n i (comes_back (s i)) refl);
  numbered = numbered-put n s r.numbers i (comes_back (s i)) refl refl refl old.numbered;
}

-- it ends
pub tells-ended : (n : ℕ) (s : ℕ → Member) (test : ℕ → Bool) (r : Kept) (i : ℕ) → i < n → (s i).ended ≡ false → Tells n s test r → Tells n (told_put s i (ends (s i))) test (record r { unended = r.unended - 1 })
tells-ended n s test r i within alive old = record {
  free = old.free;
  out = old.out ∙ sym (count-kept (λ m. m.out) s n i (ends (s i)) refl);
  unended = omega (arith, old.unended, count-none (λ m. not m.ended) s n i (ends (s i)) within (ap not alive) refl);
  numbered = numbered-put n s r.numbers i (ends (s i)) refl refl refl old.numbered;
}

-- who is out, and who has not ended, is counted
pub some-out : (n : ℕ) (s : ℕ → Member) (test : ℕ → Bool) (r : Kept) (i : ℕ) → Tells n s test r → i < n → (s i).out ≡ true → 1 ≤ r.out
some-out n s test r i old within out = omega (arith, old.out, count-none (λ m. m.out) s n i (comes_back (s i)) within out refl)

pub some-unended : (n : ℕ) (s : ℕ → Member) (test : ℕ → Bool) (r : Kept) (i : ℕ) → Tells n s test r → i < n → (s i).ended ≡ false → 1 ≤ r.unended
some-unended n s test r i old within alive = omega (arith, old.unended, count-none (λ m. not m.ended) s n i (ends (s i)) within (ap not alive) refl)

-- no more are out than there are
pub out-few : (n : ℕ) (s : ℕ → Member) (test : ℕ → Bool) (r : Kept) (i : ℕ) → Tells n s test r → i < n → (s i).out ≡ false → r.out + 1 ≤ length r.numbers
out-few n s test r i old within idle =
    omega (
      arith,
      old.out,
      old.numbered.long,
      count-one (λ m. m.out) s n i (goes_out (s i)) within idle refl,
      length-filter (λ k. (told_put s i (goes_out (s i)) k).out) (range_with_len 0 n),
      count_by-le-length (λ k. (told_put s i (goes_out (s i)) k).out) (range_with_len 0 n),
      length-range_with_len 0 n,
    )

-- ---- a member more

module _ (n : ℕ) (s : ℕ → Member) (test : ℕ → Bool) (r : Kept) (t : Tells n s test r) (p : ℕ) (within : p < n) where
  abbrev old : AreNumbered n s r.numbers
  old = t.numbered

  abbrev now : ℕ → Member
  now = with_member n p s

  abbrev more : List (List ℕ)
  more = set r.numbers p (get_or r.numbers p [] ++ n ∷ []) ++ [] ∷ []

  row-here : get_or more p [] ≡ get_or r.numbers p [] ++ n ∷ []
  row-here = get_or-behind [] (set r.numbers p (get_or r.numbers p [] ++ n ∷ [])) p ∙ get_or-set_same r.numbers p (get_or r.numbers p [] ++ n ∷ []) [] (omega (arith, within, old.long))

  row-other : (q : ℕ) → q ≢ p → get_or more q [] ≡ get_or r.numbers q []
  row-other q apart = get_or-behind [] (set r.numbers p (get_or r.numbers p [] ++ n ∷ [])) q ∙ get_or-set_other r.numbers p q (get_or r.numbers p [] ++ n ∷ []) [] apart

  now-new : now n ≡ record { parent = p; child = (s p).kids; kids = 0; out = false; ended = false }
  now-new = put-here (told_put s p (with_kid (s p))) n _

  now-here : now p ≡ with_kid (s p)
  now-here = put-other (told_put s p (with_kid (s p))) n _ p (λ e. absurd (omega (arith, e, within))) ∙ put-here s p (with_kid (s p))

  now-other : (k : ℕ) → k ≢ n → k ≢ p → now k ≡ s k
  now-other k young apart = put-other (told_put s p (with_kid (s p))) n _ k young ∙ put-other s p (with_kid (s p)) k apart

  -- what is so of the three is so of all
  each : (P : ℕ → Type 0) → P p → P n → ((k : ℕ) → k ≢ n → k ≢ p → P k) → (k : ℕ) → P k
  each P here new others k = elim (cases_eq k p) [
    | inl is ↦ subst P (sym is) here
    | inr apart ↦ elim (cases_eq k n) [
      | inl is ↦ subst P (sym is) new
      | inr young ↦ others k young apart
    ]
  ]

  -- whose child an older member is
  before : (k : ℕ) → k < n → now k ≡ told_put s p (with_kid (s p)) k
  before k h = put-other (told_put s p (with_kid (s p))) n _ k (λ e. absurd (omega (arith, e, h)))

  place : (k : ℕ) → k < n → ((now k).parent ≡ (s k).parent) × ((now k).child ≡ (s k).child)
  place k h = (ap (λ m. m.parent) (before k h) ∙ put-field (λ m. m.parent) s p (with_kid (s p)) refl k, ap (λ m. m.child) (before k h) ∙ put-field (λ m. m.child) s p (with_kid (s p)) refl k)

  long-here : length (get_or more p []) ≡ (s p).kids + 1
  long-here = omega (arith, ap length row-here, length-append (get_or r.numbers p []) (n ∷ []), old.kids p)

  kids-now : (q : ℕ) → length (get_or more q []) ≡ (now q).kids
  kids-now = each (λ q. length (get_or more q []) ≡ (now q).kids)
      (long-here ∙ sym (ap (λ m. m.kids) now-here))
      (ap length (row-other n (λ e. absurd (omega (arith, e, within))) ∙ get_or_past r.numbers n [] (omega (arith, old.long))) ∙ sym (ap (λ m. m.kids) now-new))
      (λ k young apart. ap length (row-other k apart) ∙ old.kids k ∙ sym (ap (λ m. m.kids) (now-other k young apart)))

  -- what stands at an old place, and at the new one
  stands : (q c : ℕ) → c < (s q).kids → get_or (get_or more q []) c 0 ≡ get_or (get_or r.numbers q []) c 0
  stands q c h = elim (cases_eq q p) [
    | inl is ↦ ap (λ q. get_or (get_or more q []) c 0) is ∙ ap (λ l. get_or l c 0) row-here
        ∙ get_or_append_left (get_or r.numbers p []) (n ∷ []) 0 c (omega (arith, h, old.kids p, ap (λ q. (s q).kids) is)) ∙ sym (ap (λ q. get_or (get_or r.numbers q []) c 0) is)
    | inr apart ↦ ap (λ l. get_or l c 0) (row-other q apart)
  ]

  last : get_or (get_or more p []) (s p).kids 0 ≡ n
  last = ap (λ l. get_or l (s p).kids 0) row-here ∙ ap (λ c. get_or (get_or r.numbers p [] ++ n ∷ []) c 0) (sym (old.kids p)) ∙ get_or-append_seam (get_or r.numbers p []) n [] 0

  fewer : (q : ℕ) → q < n → (s q).kids ≤ (now q).kids
  fewer q h = elim (cases_eq q p) [
    | inl is ↦ omega (arith, ap (λ q. (s q).kids) is, ap (λ q. (now q).kids) is, ap (λ m. m.kids) now-here)
    | inr apart ↦ omega (arith, ap (λ m. m.kids) (now-other q (λ e. absurd (omega (arith, e, h))) apart))
  ]

  known-now : (q c : ℕ) → c < (now q).kids → get_or (get_or more q []) c 0 < n + 1
  known-now = each (λ q. (c : ℕ) → c < (now q).kids → get_or (get_or more q []) c 0 < n + 1)
      (λ c h. elim (cases_lt c (s p).kids) [
        | inl below ↦ omega (arith, stands p c below, old.known p c below)
        | inr past ↦ (let is : c ≡ (s p).kids = omega (arith, past, h, ap (λ m. m.kids) now-here) in omega (arith, ap (λ c. get_or (get_or more p []) c 0) is, last))
      ])
      (λ c h. absurd (omega (arith, h, ap (λ m. m.kids) now-new)))
      (λ k young apart c h. let below : c < (s k).kids = omega (arith, h, ap (λ m. m.kids) (now-other k young apart)) in omega (arith, stands k c below, old.known k c below))

  -- a parent is a member
  parent-known : (k : ℕ) → 0 < k → k < n → (s k).parent < n
  parent-known k pos h = elim (cases_lt (s k).parent n) [
    | inl below ↦ below
    | inr past ↦ absurd (omega (arith, old.placed k pos h, old.kids (s k).parent, ap length (get_or_past r.numbers (s k).parent [] (omega (arith, past, old.long)))))
  ]

  pub numbered-more : AreNumbered (n + 1) now more
  numbered-more = record {
    long = omega (arith, length-append (set r.numbers p (get_or r.numbers p [] ++ n ∷ [])) ([] ∷ []), length-set r.numbers p (get_or r.numbers p [] ++ n ∷ []), old.long);
    kids = kids-now;
    known = known-now;
    placed = λ k pos h. elim (cases_lt k n) [
      | inl below ↦ omega (arith, old.placed k pos below, (place k below).1, ap (λ q. (now q).kids) (place k below).0, fewer (s k).parent (parent-known k pos below))
      | inr past ↦ (let is : n ≡ k = omega (arith, past, h) in
          subst (λ k. (now k).child < (now (now k).parent).kids) is (omega (arith, ap (λ m. m.child) now-new, ap (λ m. (now m.parent).kids) now-new, ap (λ m. m.kids) now-here)))
    ];
    is = λ k pos h. elim (cases_lt k n) [
      | inl below ↦ ap (λ q. get_or (get_or more q []) (now k).child 0) (place k below).0 ∙ ap (λ c. get_or (get_or more (s k).parent []) c 0) (place k below).1
          ∙ stands (s k).parent (s k).child (old.placed k pos below) ∙ old.is k pos below
      | inr past ↦ (let is : n ≡ k = omega (arith, past, h) in
          subst (λ k. get_or (get_or more (now k).parent []) (now k).child 0 ≡ k) is (ap (λ (m : Member). get_or (get_or more m.parent []) m.child 0) now-new ∙ last))
    ];
  }

  -- it is among them, idle and not ended, and free or not
  pub tells-more : (room : ℕ) (b : Bool) (new : List ℕ) (places : ℕ) (rooms : List ℕ) → n < room → IsListBelow room new → has n new ≡ b → ((k : ℕ) → k ≢ n → has k new ≡ has k r.listed)
      → Tells (n + 1) now (told_put test n b) (record r { numbers = more; listed = new; unended = r.unended + 1; room = room; places = places; rooms = rooms })
  tells-more room b new places rooms enough ordered here others = record {
    free = list-is (told_put test n b) (n + 1) new
        (below-but (n + 1) room r.listed new n (omega arith) (omega (arith, enough)) (below-more n r.listed (listed test n r.listed t.free)) ordered others)
        (λ k h. elim (cases_eq k n) [
          | inl is ↦ subst (λ j. has j new ≡ told_put test n b j) (sym is) (here ∙ sym (put-here test n b))
          | inr young ↦ others k young ∙ ap (has k) t.free ∙ has-those test 0 n k (omega arith) (omega (arith, h, young)) ∙ sym (put-other test n b k young)
        ]);
    out = t.out ∙ sym (longer-same (λ k. (s k).out) (λ k. (now k).out) n (ap (λ m. m.out) now-new) (λ k h. ap (λ m. m.out) (before k h) ∙ put-field (λ m. m.out) s p (with_kid (s p)) refl k));
    unended = ap (λ m. m + 1) t.unended ∙ sym (longer-one (λ k. not (s k).ended) (λ k. not (now k).ended) n (ap (λ m. not m.ended) now-new) (λ k h. ap (λ m. not m.ended) (before k h) ∙ put-field (λ m. not m.ended) s p (with_kid (s p)) refl k));
    numbered = numbered-more;
  }

-- ---- one alone

pub tells-alone : (s : ℕ → Member) (test : ℕ → Bool) (r : Kept) (room : ℕ) → IsAlone s test → r.numbers ≡ [] ∷ [] → r.out ≡ 0 → r.unended ≡ 1 → 1 ≤ room → IsListBelow room r.listed → has 0 r.listed ≡ true
    → ((k : ℕ) → k ≢ 0 → has k r.listed ≡ false) → Tells 1 s test r
tells-alone s test r room a numbers out unended enough ordered here others = record {
  free = list-is test 1 r.listed (below-fewer 1 room r.listed enough ordered (λ k h. others k (λ e. absurd (omega (arith, e, h)))))
      (λ k h. let first : 0 ≡ k = omega (arith, h) in subst (λ j. has j r.listed ≡ test j) first (here ∙ sym a.free));
  out = out ∙ sym (ap (λ b. length {A = ℕ} (cond b (0 ∷ []) [])) a.idle);
  unended = unended ∙ sym (ap (λ b. length {A = ℕ} (cond (not b) (0 ∷ []) [])) a.alive);
  numbered = subst (AreNumbered 1 s) (sym numbers) (record {
    long = refl;
    kids = λ p. none p ∙ sym (a.kids p);
    known = λ p c h. absurd (omega (arith, h, a.kids p));
    placed = λ i pos h. absurd (omega (arith, pos, h));
    is = λ i pos h. absurd (omega (arith, pos, h));
  });
}
  where
    alone : List (List ℕ)
    alone = [] ∷ []

    none : (p : ℕ) → length (get_or alone p []) ≡ 0
    none zero = refl
    none (suc p) = refl
