-- One step of telling those that wait.
use Rattle.std.proofs.Common.{◌≡◌, ◌==◌, ◌+◌, ◌-◌, ℕ, ◌<◌, ◌≤◌, List, [], Bool, cond, take, set, get_or, length, Some, refl, sym, ap, ◌∙◌, arith}
use Rattle.std.specs.List.{slice_get}
use Rattle.std.specs.Option.{unwrap_or, option_map}
use Rattle.std.proofs.lemmas.Bool.{eq-eqb}
use Rattle.std.proofs.lemmas.Option.{same_Some, slice_get_within}
use Rattle.std.proofs.lemmas.List.{length-map}
use Rattle.std.proofs.lemmas.List.Sums.{fold_more, sum_by_more_le}
use Rattle.ot_model.specs.Cells.{updated}
use Rattle.ot_depend.specs.Kept.{Kid, woken, one_less, waiters_of, WaitForAll}
use Rattle.ot_depend.specs.Siblings.{times}
use Rattle.ot_depend.specs.Children.{kid_of, kids_of}
use Rattle.ot_depend.specs.declared.child.Child.{Child}
use Rattle.ot_depend.proofs.LinkLemmas.{woken_back}
use Rattle.ot_depend.proofs.ChildrenLemmas.{kids_of-set, kid_at, has-place, waiters_of-woken, length-woken}

module _ (old now : List Child) (finished i : ℕ) (known : finished < length old) (wait : WaitForAll (kids_of old) (waiters_of (kids_of old) finished))
    (told : kids_of now ≡ woken (kids_of old) (take i (waiters_of (kids_of old) finished))) where
  pub count_kept : length now ≡ length old
  count_kept = sym (length-map now kid_of) ∙ ap length told ∙ length-woken (take i (waiters_of (kids_of old) finished)) (kids_of old) ∙ length-map old kid_of

  -- the list that is gone through is as it was
  pub list_kept : (c : Child) → c ≡ get_or now finished c → waiters_of (kids_of old) finished ≡ c.waiters.items
  list_kept c is =
      sym (waiters_of-woken (take i (waiters_of (kids_of old) finished)) (kids_of old) finished)
      ∙ ap (λ ks. waiters_of ks finished) (sym told)
      ∙ ap (λ o. unwrap_or (option_map (λ (k : Kid). k.waiters) o) []) (kid_at now finished c (omega (arith, count_kept)) is)

  -- the next one is known, and waits for one at least
  pub next_known : i < length (waiters_of (kids_of old) finished) → get_or (waiters_of (kids_of old) finished) i 0 < length now
  next_known within =
      let all : List ℕ = waiters_of (kids_of old) finished in
      let k = wait (get_or all i 0) (has-place all i 0 within) in
      let inside = slice_get_within (kids_of old) (get_or all i 0) k.0 k.1 in
      omega (arith, count_kept, length-map old kid_of)

  pub next_waits : i < length (waiters_of (kids_of old) finished) → (c : Child) → c ≡ get_or now (get_or (waiters_of (kids_of old) finished) i 0) c → 1 ≤ c.waiting
  next_waits within c is =
      let all : List ℕ = waiters_of (kids_of old) finished in
      let w : ℕ = get_or all i 0 in
      let k = wait w (has-place all i 0 within) in
      let there : slice_get (woken (kids_of old) (take i all)) w ≡ Some (kid_of c) = ap (λ ks. slice_get ks w) (sym told) ∙ kid_at now w c (next_known within) is in
      let t = woken_back (take i all) (kids_of old) w (kid_of c) there in
      let same : t.0.waiting ≡ k.0.waiting = ap (λ (x : Kid). x.waiting) (same_Some t.0 k.0 (sym t.1 ∙ k.1)) in
      let one : cond {A = ℕ} (w == w) 1 0 ≡ 1 = ap (λ (b : Bool). cond {A = ℕ} b 1 0) (eq-eqb w w refl) in
      let more : times w (take i all) + cond {A = ℕ} (w == w) 1 0 ≤ times w all = sum_by_more_le (λ x. cond {A = ℕ} (x == w) 1 0) all i 0 within in
      let waiting : c.waiting ≡ t.0.waiting - times w (take i all) = t.4 in
      let enough : times w all ≤ k.0.waiting = k.2 in
      omega arith

  pub woken_more : i < length (waiters_of (kids_of old) finished) → (c new : Child) → c ≡ get_or now (get_or (waiters_of (kids_of old) finished) i 0) c → kid_of new ≡ one_less (kid_of c) →
      kids_of (set now (get_or (waiters_of (kids_of old) finished) i 0) new) ≡ woken (kids_of old) (take (i + 1) (waiters_of (kids_of old) finished))
  woken_more within c new is less =
      let all : List ℕ = waiters_of (kids_of old) finished in
      kids_of-set one_less now (get_or all i 0) c new (next_known within) is less
      ∙ ap (λ ks. updated ks (get_or all i 0) one_less) told
      ∙ sym (fold_more (λ (ks : List Kid) w. updated ks w one_less) (kids_of old) all i 0 within)
