-- The lists and the numbers of those that wait, once a child was added.
use Rattle.std.proofs.Common.{◌≡◌, ◌+◌, ℕ, ◌<◌, ◌≤◌, List, [], ◌∷◌, ◌++◌, Bool, true, false, cond, length, Some, ◌⊎◌, inl, inr, refl, sym, ap, ◌∙◌, subst, arith, true≢false}
use Rattle.std.specs.List.{slice_get}
use Rattle.std.proofs.lemmas.Bool.{cases_eq, false_from_ne_true}
use Rattle.std.proofs.lemmas.Option.{slice_get_within}
use Rattle.std.proofs.lemmas.List.{map-append, length-map, length-append}
use Rattle.std.proofs.lemmas.List.Sums.{sum_by_push}
use Rattle.ot_depend.specs.Siblings.{Sibling, has, times}
use Rattle.ot_depend.specs.Kept.{decls, IsDirect, ends_with, with_last, Kid, siblings, owes, due, IsLinked, kids_enlisted}
use Rattle.ot_depend.proofs.HeartLemmas.{times-none, due-none}
use Rattle.ot_depend.proofs.ListLemmas.{slice_get-push_place, has-with_last, has-with_last-other, times-with_last, times-with_last-other}
use Rattle.ot_depend.proofs.LinkLemmas.{grown, enlisted_back, siblings-enlisted, length-enlisted, due-enlisted-other, IsDirect-behind, IsDirect-before, no_direct}

-- none of the children waits for itself for one that isn't there yet
pub none_waits : (kids : List Kid) (i : ℕ) (k : Kid) → IsLinked kids → slice_get kids i ≡ Some k → k.it.finished ≡ false → has (length kids) k.waiters ≡ false
none_waits kids i k linked there still = false_from_ne_true (has (length kids) k.waiters) (λ waits.
    let len : length (decls (siblings kids)) ≡ length kids = length-map (siblings kids) (λ (s : Sibling). s.uses) ∙ length-map kids (λ (t : Kid). t.it) in
    no_direct (decls (siblings kids)) i (length kids) (omega arith) (linked.told i (length kids) k there still waits))

-- so nothing is due to it
pub due-next : (kids : List Kid) → IsLinked kids → due (length kids) kids ≡ 0
due-next kids linked = due-none (length kids) kids (λ i k there. by i k there k.it.finished refl)
  where
    by : (i : ℕ) (k : Kid) → slice_get kids i ≡ Some k → (b : Bool) → k.it.finished ≡ b → owes (length kids) k ≡ 0
    by i k there true is = ap (λ b. cond b 0 (times (length kids) k.waiters)) is
    by i k there false is = ap (λ b. cond b 0 (times (length kids) k.waiters)) is ∙ times-none (length kids) k.waiters (none_waits kids i k linked there is)

module _ (kids : List Kid) (earlier : List ℕ) (new : Kid) (linked : IsLinked kids) (nobody : new.waiters ≡ [])
    (found : (i : ℕ) → has i earlier ≡ true → IsDirect (decls (siblings kids) ++ new.it.uses ∷ []) i (length kids))
    (finds : (i : ℕ) → IsDirect (decls (siblings kids) ++ new.it.uses ∷ []) i (length kids) → has i earlier ≡ true)
    (waits : new.waiting ≡ due (length kids) (kids_enlisted (length kids) kids earlier)) where
  pub siblings-add : siblings (kids_enlisted (length kids) kids earlier ++ new ∷ []) ≡ siblings kids ++ new.it ∷ []
  siblings-add = map-append (λ (k : Kid). k.it) (kids_enlisted (length kids) kids earlier) (new ∷ []) ∙ ap (λ ss. ss ++ new.it ∷ []) (siblings-enlisted (length kids) earlier kids)

  pub decls-add : decls (siblings (kids_enlisted (length kids) kids earlier ++ new ∷ [])) ≡ decls (siblings kids) ++ new.it.uses ∷ []
  decls-add = ap decls siblings-add ∙ map-append (λ (s : Sibling). s.uses) (siblings kids) (new.it ∷ [])

  count : length (decls (siblings kids)) ≡ length kids
  count = length-map (siblings kids) (λ (s : Sibling). s.uses) ∙ length-map kids (λ (t : Kid). t.it)

  -- a child is one of those before, or the new one
  place : (j : ℕ) (k : Kid) → slice_get (kids_enlisted (length kids) kids earlier ++ new ∷ []) j ≡ Some k → (slice_get (kids_enlisted (length kids) kids earlier) j ≡ Some k) ⊎ ((j ≡ length kids) × (k ≡ new))
  place j k there = elim (slice_get-push_place (kids_enlisted (length kids) kids earlier) new j k there) [
    | inl old ↦ inl old
    | inr last ↦ inr (last.0 ∙ length-enlisted (length kids) earlier kids, last.1)
  ]

  told_old : (a b : ℕ) (k t : Kid) → slice_get kids a ≡ Some t → k.it ≡ t.it → k.waiters ≡ grown t.it.finished (has a earlier) (length kids) t.waiters → k.it.finished ≡ false →
      has b k.waiters ≡ true → (b ≡ length kids) ⊎ (b ≡ length kids → ⊥) → (named : Bool) → has a earlier ≡ named → IsDirect (decls (siblings kids) ++ new.it.uses ∷ []) a b
  told_old a b k t there it is still waits (inl last) true named = subst (λ (n : ℕ). IsDirect (decls (siblings kids) ++ new.it.uses ∷ []) a n) (sym last) (found a named)
  told_old a b k t there it is still waits (inl last) false not_named =
      let same : k.waiters ≡ t.waiters = is ∙ ap (λ c. grown t.it.finished c (length kids) t.waiters) not_named ∙ ap (λ c. grown c false (length kids) t.waiters) (ap (λ (s : Sibling). s.finished) (sym it) ∙ still) in
      let among : has (length kids) t.waiters ≡ true = ap (λ n. has n t.waiters) (sym last) ∙ ap (has b) (sym same) ∙ waits in
      absurd (true≢false (sym among ∙ none_waits kids a t linked there (ap (λ (s : Sibling). s.finished) (sym it) ∙ still)))
  told_old a b k t there it is still waits (inr apart) named how =
      IsDirect-behind (decls (siblings kids)) new.it.uses a b (linked.told a b t there (ap (λ (s : Sibling). s.finished) (sym it) ∙ still) (other t.it.finished (has a earlier) (sym (ap (has b) is) ∙ waits)))
    where
      other : (f c : Bool) → has b (grown f c (length kids) t.waiters) ≡ true → has b t.waiters ≡ true
      other true c among = among
      other false true among = sym (has-with_last-other b (length kids) t.waiters apart) ∙ among
      other false false among = among

  telling_old : (a b : ℕ) (k t : Kid) → slice_get kids a ≡ Some t → k.it ≡ t.it → k.waiters ≡ grown t.it.finished (has a earlier) (length kids) t.waiters → k.it.finished ≡ false →
      IsDirect (decls (siblings kids) ++ new.it.uses ∷ []) a b → (b ≡ length kids) ⊎ (b ≡ length kids → ⊥) → has b k.waiters ≡ true
  telling_old a b k t there it is still direct (inl last) =
      let named : has a earlier ≡ true = finds a (subst (λ (n : ℕ). IsDirect (decls (siblings kids) ++ new.it.uses ∷ []) a n) last direct) in
      let on : t.it.finished ≡ false = ap (λ (s : Sibling). s.finished) (sym it) ∙ still in
      ap (has b) (is ∙ ap (λ c. grown t.it.finished c (length kids) t.waiters) named ∙ ap (λ c. grown c true (length kids) t.waiters) on)
      ∙ ap (λ n. has n (with_last (length kids) t.waiters)) last ∙ has-with_last (length kids) t.waiters
  telling_old a b k t there it is still direct (inr apart) =
      let on : t.it.finished ≡ false = ap (λ (s : Sibling). s.finished) (sym it) ∙ still in
      let old : has b t.waiters ≡ true = linked.telling a b t there on (IsDirect-before (decls (siblings kids)) new.it.uses a b (λ at. apart (at ∙ count)) direct) in
      ap (has b) is ∙ other t.it.finished (has a earlier) old
    where
      other : (f c : Bool) → has b t.waiters ≡ true → has b (grown f c (length kids) t.waiters) ≡ true
      other true c among = among
      other false true among = has-with_last-other b (length kids) t.waiters apart ∙ among
      other false false among = among

  once_old : (a b : ℕ) (t : Kid) → slice_get kids a ≡ Some t → (f c : Bool) → t.it.finished ≡ f → (b ≡ length kids) ⊎ (b ≡ length kids → ⊥) → times b (grown f c (length kids) t.waiters) ≤ 1
  once_old a b t there true c on at = linked.once a b t there
  once_old a b t there false false on at = linked.once a b t there
  once_old a b t there false true on (inr apart) = rw (times-with_last-other b (length kids) t.waiters apart) (linked.once a b t there)
  once_old a b t there false true on (inl last) =
      let none : times (length kids) t.waiters ≡ 0 = times-none (length kids) t.waiters (none_waits kids a t linked there on) in
      rw (last, times-with_last (length kids) t.waiters, none) (most (ends_here))
    where
      ends_here : Bool
      ends_here = ends_with (length kids) t.waiters

      most : (e : Bool) → 0 + cond e 0 1 ≤ 1
      most true = omega arith
      most false = omega arith

  due-add : (j : ℕ) → due j (kids_enlisted (length kids) kids earlier ++ new ∷ []) ≡ due j (kids_enlisted (length kids) kids earlier)
  due-add j =
      let none : owes j new ≡ 0 = by new.it.finished in
      omega (arith, sum_by_push (owes j) (kids_enlisted (length kids) kids earlier) new)
    where
      by : (b : Bool) → cond b 0 (times j new.waiters) ≡ 0
      by true = refl
      by false = ap (times j) nobody

  pub IsLinked-add : IsLinked (kids_enlisted (length kids) kids earlier ++ new ∷ [])
  IsLinked-add = record {
    told = λ a b k there still waits. rw decls-add (elim (place a k there) [
      | inl old ↦ let t = enlisted_back (length kids) earlier kids a k old in told_old a b k t.0 t.1 t.2 t.4 still waits (cases_eq b (length kids)) (has a earlier) refl
      | inr last ↦ absurd (true≢false (sym waits ∙ ap (has b) (ap (λ (t : Kid). t.waiters) last.1 ∙ nobody)))
    ]);
    telling = λ a b k there still direct.
        let on : IsDirect (decls (siblings kids) ++ new.it.uses ∷ []) a b = rw decls-add at direct in
        elim (place a k there) [
          | inl old ↦ let t = enlisted_back (length kids) earlier kids a k old in telling_old a b k t.0 t.1 t.2 t.4 still on (cases_eq b (length kids))
          | inr last ↦ absurd (let order : a < b = on.order in
              no_direct (decls (siblings kids) ++ new.it.uses ∷ []) a b (let is = last.0 in omega (arith, count, length-append (decls (siblings kids)) (new.it.uses ∷ []))) on)
        ];
    once = λ a b k there. elim (place a k there) [
      | inl old ↦ let t = enlisted_back (length kids) earlier kids a k old in rw t.4 (once_old a b t.0 t.1 t.0.it.finished (has a earlier) refl (cases_eq b (length kids)))
      | inr last ↦ rw (ap (λ (t : Kid). t.waiters) last.1 ∙ nobody) (omega arith)
    ];
    counted = λ j k there. elim (place j k there) [
      | inl old ↦ let t = enlisted_back (length kids) earlier kids j k old in
          let within : j < length kids = slice_get_within kids j t.0 t.1 in
          t.3 ∙ linked.counted j t.0 t.1 ∙ sym (due-enlisted-other j (length kids) earlier kids (λ is. omega (arith, is))) ∙ sym (due-add j)
      | inr last ↦ ap (λ (t : Kid). t.waiting) last.1 ∙ waits ∙ ap (λ n. due n (kids_enlisted (length kids) kids earlier)) (sym last.0) ∙ sym (due-add j)
    ];
  }
