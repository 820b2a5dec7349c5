-- Children that finish in the order of their creation: whom each lets wait for less.
use Rattle.std.proofs.Common.{◌≡◌, ℕ, zero, suc, ◌+◌, ◌<◌, ◌≤◌, ◌≢◌, List, [], ◌∷◌, ◌++◌, length, take, map, refl, sym, ap, ◌∙◌, subst, arith, inl, inr, le_refl, Bool, true, false}
use Rattle.std.specs.Prelude.{Option, Some, None, slice_get, option_map, unwrap_or, cond, not, ◌&&◌, ◌==◌, count_by, IsTrue}
use Rattle.ot_model.specs.declared.stmt.Use.{Use}
use Rattle.ot_depend.specs.Siblings.{Sibling, sibling_created, with_finished, IsReady, IsUnfinished, is_direct, count_direct, waiting_for, times, WaitForLess}
use Rattle.std.proofs.lemmas.Bool.Decides.{nat_tests, leb_tells}
use Rattle.std.proofs.Math.ListN.{length-map}
use Rattle.std.proofs.lemmas.List.Sums.{sum_by-cons, sum_by-append}
use Rattle.ot_show_graph.specs.declared.link.Link.{Link}
use Rattle.ot_show_graph.specs.Links.{waits_itself, siblings_with, is_link, AreLinks}
use Rattle.ot_show_graph.specs.Written.{link_from}

-- finished
abbrev pub done : Sibling → Sibling
done s = record s { finished = true }

-- the first so many have finished
abbrev pub finished_first : ℕ → List Sibling → List Sibling
finished_first zero xs = xs
finished_first (suc n) [] = []
finished_first (suc n) (x ∷ xs) = done x ∷ finished_first n xs

pub one_more : (n : ℕ) (xs : List Sibling) → n < length xs → with_finished (finished_first n xs) n ≡ finished_first (suc n) xs
one_more zero [] within = absurd (omega (arith, within))
one_more zero (x ∷ xs) within = refl
one_more (suc n) [] within = absurd (omega (arith, within))
one_more (suc n) (x ∷ xs) within = ap (λ ys. done x ∷ ys) (one_more n xs (omega (arith, within)))

-- those before the place have finished
pub before_done : (n place : ℕ) (xs : List Sibling) (s : Sibling) → place < n → slice_get (finished_first n xs) place ≡ Some s → IsTrue s.finished
before_done zero place xs s below is = absurd (omega (arith, below))
before_done (suc n) place [] s below is = cc
before_done (suc n) zero (x ∷ xs) s below is = cc
before_done (suc n) (suc place) (x ∷ xs) s below is = before_done n place xs s (omega (arith, below)) is

-- the one at the place is as it was
pub at_place : (n : ℕ) (xs : List Sibling) → slice_get (finished_first n xs) n ≡ slice_get xs n
at_place zero xs = refl
at_place (suc n) [] = refl
at_place (suc n) (x ∷ xs) = at_place n xs

pub known : (decls : List (List Use)) (n : ℕ) → n < length decls → (s : Sibling) × (slice_get (siblings_with decls) n ≡ Some s) × (s.finished ≡ false)
known [] n within = absurd (omega (arith, within))
known (d ∷ ds) zero within = (sibling_created d [], refl, refl)
known (d ∷ ds) (suc n) within = known ds n (omega (arith, within))

pub ready : (decls : List (List Use)) (n : ℕ) → n < length decls → IsReady (finished_first n (siblings_with decls)) n
ready decls n within =
    let k = known decls n within in record {
      itself = k.0;
      known = at_place n (siblings_with decls) ∙ k.1;
      awaited = λ place earlier below is depends. before_done n place (siblings_with decls) earlier below is;
    }

pub unfinished : (decls : List (List Use)) (n : ℕ) → n < length decls → IsUnfinished (finished_first n (siblings_with decls)) n
unfinished decls n within =
    let k = known decls n within in record {
      itself = k.0;
      known = at_place n (siblings_with decls) ∙ k.1;
      unfinished = k.2;
    }

-- ---- for how many a child waits

-- the count for an option of a child
abbrev waits_at : List Sibling → Option Sibling → ℕ
waits_at before o = unwrap_or (option_map (λ s. count_direct before s.uses) o) 0

abbrev pub bit : Bool → ℕ
bit b = cond b 1 0

first_of : (x : Sibling) (between : List Sibling) (o : Option Sibling) → x.finished ≡ false →
    waits_at (x ∷ between) o ≡ waits_at (done x ∷ between) o + bit (unwrap_or (option_map (λ t. is_direct x.uses between t.uses) o) false)
first_of x between None is = refl
first_of x between (Some t) is =
    let direct = is_direct x.uses between t.uses in
    let now : cond (not x.finished && direct) 1 0 ≡ bit direct = ap (λ f. cond (not f && direct) 1 0) is in
    omega (arith, now)

later_of : (x : Sibling) (before : List Sibling) (o : Option Sibling) → waits_at (done x ∷ before) o ≡ waits_at before o
later_of x before None = refl
later_of x before (Some t) = omega arith

-- by the end of the child at n the one at j waits for one less, where it waited for that child by itself
pub waits_less : (decls : List (List Use)) (n j : ℕ) → n < length decls →
    waiting_for (finished_first n (siblings_with decls)) j
    ≡ waiting_for (finished_first (suc n) (siblings_with decls)) j + bit (waits_itself (siblings_with decls) n j)
waits_less [] n j within = absurd (omega (arith, within))
waits_less (d ∷ ds) zero zero within = refl
waits_less (d ∷ ds) zero (suc j) within = first_of (sibling_created d []) (take j (siblings_with ds)) (slice_get (siblings_with ds) j) refl
waits_less (d ∷ ds) (suc n) zero within = refl
waits_less (d ∷ ds) (suc n) (suc j) within =
    let xs = siblings_with ds in
    later_of (sibling_created d []) (take j (finished_first n xs)) (slice_get (finished_first n xs) j)
    ∙ waits_less ds n j (omega (arith, within))
    ∙ ap (λ k. k + bit (waits_itself xs n j)) (sym (later_of (sibling_created d []) (take j (finished_first (suc n) xs)) (slice_get (finished_first (suc n) xs) j)))

-- so those that are released are those that waited for it by themselves
pub released : (decls : List (List Use)) (n j : ℕ) (waiters : List ℕ) → n < length decls →
    WaitForLess waiters (finished_first n (siblings_with decls)) (finished_first (suc n) (siblings_with decls)) →
    times j waiters ≡ bit (waits_itself (siblings_with decls) n j)
released decls n j waiters within less = omega (arith, less j, waits_less decls n j within)

-- where all have finished none waits
all_done : (n : ℕ) (xs : List Sibling) (j : ℕ) → length xs ≤ n → waiting_for (finished_first n xs) j ≡ 0
all_done zero [] j short = refl
all_done zero (x ∷ xs) j short = absurd (omega (arith, short))
all_done (suc n) [] j short = refl
all_done (suc n) (x ∷ xs) zero short = refl
all_done (suc n) (x ∷ xs) (suc j) short =
    later_of x (take j (finished_first n xs)) (slice_get (finished_first n xs) j) ∙ all_done n xs j (omega (arith, short))

-- ---- links from one child

pub same_number : (n : ℕ) → (n == n) ≡ true
same_number n = grind (arith, nat_tests)

pub other_number : (n m : ℕ) → n ≢ m → (n == m) ≡ false
other_number n m other = grind (arith, nat_tests)

pub links_same : (n j : ℕ) (ws : List ℕ) → count_by (is_link n j) (map (link_from n) ws) ≡ times j ws
links_same n j [] = refl
links_same n j (w ∷ ws) =
    let one : bit (is_link n j (link_from n w)) ≡ bit (w == j) = ap (λ b. bit (b && (w == j))) (same_number n) in
    omega (arith, one, links_same n j ws, sum_by-cons (λ l. bit (is_link n j l)) (link_from n w) (map (link_from n) ws), sum_by-cons (λ x. bit (x == j)) w ws)

pub links_other : (n e j : ℕ) (ws : List ℕ) → n ≢ e → count_by (is_link e j) (map (link_from n) ws) ≡ 0
links_other n e j [] other = refl
links_other n e j (w ∷ ws) other =
    let one : bit (is_link e j (link_from n w)) ≡ 0 = ap (λ b. bit (b && (w == j))) (other_number n e other) in
    omega (arith, one, links_other n e j ws other, sum_by-cons (λ l. bit (is_link e j l)) (link_from n w) (map (link_from n) ws))

abbrev pub is_into : ℕ → Link → Bool
is_into j link = link.later == j

pub links_into : (n j : ℕ) (ws : List ℕ) → count_by (is_into j) (map (link_from n) ws) ≡ times j ws
links_into n j [] = refl
links_into n j (w ∷ ws) =
    omega (arith, links_into n j ws, sum_by-cons (λ l. bit (is_into j l)) (link_from n w) (map (link_from n) ws), sum_by-cons (λ x. bit (x == j)) w ws)

-- ---- the links of the children that have finished

-- these are the links of the first so many children, which have finished
pub record AreSoFar (decls : List (List Use)) (n : ℕ) (links : List Link) (siblings : List Sibling) : Type 0 where
  pub finished : siblings ≡ finished_first n (siblings_with decls)
  pub earlier : (e j : ℕ) → e < n → count_by (is_link e j) links ≡ bit (waits_itself (siblings_with decls) e j)
  pub none : (e j : ℕ) → n ≤ e → count_by (is_link e j) links ≡ 0
  pub counted : (j : ℕ) → count_by (is_into j) links + waiting_for (finished_first n (siblings_with decls)) j ≡ waiting_for (siblings_with decls) j

length-siblings_with : (decls : List (List Use)) → length (siblings_with decls) ≡ length decls
length-siblings_with decls = length-map decls (λ uses. sibling_created uses [])

earlier_on : (decls : List (List Use)) (n : ℕ) (links now : List Link) (ws : List ℕ) (e j : ℕ) → {siblings : List Sibling} → AreSoFar decls n links siblings → n < length decls →
    count_by (is_link e j) now ≡ count_by (is_link e j) links + count_by (is_link e j) (map (link_from n) ws) →
    times j ws ≡ bit (waits_itself (siblings_with decls) n j) → e < suc n → count_by (is_link e j) now ≡ bit (waits_itself (siblings_with decls) e j)
earlier_on decls n links now ws e j so within all exact below = elim (leb_tells n e) [
  | inl (test, above) ↦
      let same : n ≡ e = omega (arith, above, below) in
      let mine : count_by (is_link n j) now ≡ bit (waits_itself (siblings_with decls) n j) =
      omega (arith, subst (λ k. count_by (is_link k j) now ≡ count_by (is_link k j) links + count_by (is_link k j) (map (link_from n) ws)) (sym same) all, so.none n j (le_refl n), links_same n j ws, exact) in
      subst (λ k. count_by (is_link k j) now ≡ bit (waits_itself (siblings_with decls) k j)) same mine
  | inr (test, before) ↦ omega (arith, all, so.earlier e j before, links_other n e j ws (λ same. absurd (omega (arith, same, before))))
]

pub one_on : (decls : List (List Use)) (n m : ℕ) (links now : List Link) (siblings new : List Sibling) (ws : List ℕ) → AreSoFar decls n links siblings → m ≡ suc n →
    n < length decls → new ≡ with_finished siblings n → WaitForLess ws siblings new → now ≡ links ++ map (link_from n) ws → AreSoFar decls m now new
one_on decls n m links now siblings new ws so next within finishes less is =
    let xs = siblings_with decls in
    let new_is : new ≡ finished_first (suc n) xs =
    finishes ∙ ap (λ s. with_finished s n) so.finished ∙ one_more n xs (omega (arith, within, length-siblings_with decls)) in
    let less_is : WaitForLess ws (finished_first n xs) (finished_first (suc n) xs) =
    subst (λ s. WaitForLess ws (finished_first n xs) s) new_is (subst (λ s. WaitForLess ws s new) so.finished less) in
    let all : (p : Link → Bool) → count_by p now ≡ count_by p links + count_by p (map (link_from n) ws) =
    λ p. ap (count_by p) is ∙ sum_by-append (λ l. bit (p l)) links (map (link_from n) ws) in
    subst (λ k. AreSoFar decls k now new) (sym next) record {
      finished = new_is;
      earlier = λ e j below. earlier_on decls n links now ws e j so within (all (is_link e j)) (released decls n j ws within less_is) below;
      none = λ e j above. omega (arith, all (is_link e j), so.none e j (omega (arith, above)), links_other n e j ws (λ same. absurd (omega (arith, same, above))));
      counted = λ j. omega (arith, all (is_into j), links_into n j ws, so.counted j, less_is j);
    }

-- none waits for a child that isn't there
nobody : (xs : List Sibling) (e j : ℕ) → length xs ≤ e → waits_itself xs e j ≡ false
nobody [] e zero past = refl
nobody [] e (suc j) past = refl
nobody (x ∷ xs) e zero past = refl
nobody (x ∷ xs) zero (suc j) past = absurd (omega (arith, past))
nobody (x ∷ xs) (suc e) (suc j) past = nobody xs e j (omega (arith, past))

pub all_links : (decls : List (List Use)) (n : ℕ) (links : List Link) (siblings : List Sibling) → AreSoFar decls n links siblings → length decls ≤ n → AreLinks decls links
all_links decls n links siblings so whole = record {
  exact = λ e j. elim (leb_tells n e) [
    | inl (test, above) ↦ so.none e j above ∙ sym (ap bit (nobody (siblings_with decls) e j (omega (arith, above, whole, length-siblings_with decls))))
    | inr (test, before) ↦ so.earlier e j before
  ];
  counted = λ j. omega (arith, so.counted j, all_done n (siblings_with decls) j (omega (arith, whole, length-siblings_with decls)));
}
