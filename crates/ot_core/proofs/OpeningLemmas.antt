-- A new world is right.
use Rattle.std.proofs.Common.{◌≡◌, ◌≤◌, ℕ, List, length, get_or, map, replicate, sym, ap, ◌∙◌, subst, arith}
use Rattle.std.specs.Prelude.{Option, Some, None, slice_get, option_map, All, String}
use Rattle.std.specs.declared.alloc.Global.{Global}
use Rattle.std.proofs.lemmas.Option.{none-some, same_Some, slice_get_within, slice_get-map, get_or_from_slice_get}
use Rattle.std.proofs.lemmas.List.{length-replicate, length-map}
use Rattle.ot_store.specs.Arrays.{Named}
use Rattle.ot_store.specs.declared.limits.Limits.{Limits}
use Rattle.ot_job.specs.Dealings.{Live}
use Rattle.ot_core.specs.Accounts.{Account, IsSoundAccount}
use Rattle.ot_hall.specs.Floors.{job_of, Floor, new_floor, tenant_units}
use Rattle.ot_core.specs.Openings.{opening_of, new_scene}
use Rattle.ot_core.specs.Scenes.{Scene, IsScene, Agrees, AreInHands, Pairs, out_at, units_in}
use Rattle.ot_core.specs.declared.held.Held.{Held}
use Rattle.ot_hall.proofs.IndexLemmas.{replicated-at}

none-at : (X : Type 0) (n u : ℕ) → get_or (replicate {A = Option X} n None) u None ≡ None
none-at X = replicated-at None

-- nothing is open
fresh : (o : Option (String Global × Limits × List Named)) (a : Account) → option_map opening_of o ≡ Some a → a.spec ≡ None
fresh None a is = absurd (none-some a is)
fresh (Some x) a is = sym (ap (λ (b : Account). b.spec) (same_Some (opening_of x) a is))

held-none : (n : ℕ) → AreInHands (replicate n None) (replicate 16 None)
held-none n = record {
  out = λ w h is. absurd (none-some h (sym (none-at Held 16 w) ∙ is));
  one = λ v w g h is _ _ _. absurd (none-some g (sym (none-at Held 16 v) ∙ is));
  all = λ t k work is. absurd (none-some work (sym (ap (λ o. out_at o k) (none-at Live n t)) ∙ is));
}

agrees-new : (a : Account) (job : Option Live) (units : ℕ) → IsSoundAccount a → a.spec ≡ None → job ≡ None → units ≡ 0 → Agrees a job units
agrees-new a job units sound closed none zero = record {
  sound = sound;
  pairs = subst (λ o. Pairs a.spec o) (sym none) (subst (λ o. Pairs o None) (sym closed) tt);
  paid = omega (arith, zero);
  bounded = omega (arith, ap units_in none);
}

pub scene-new : (openings : List (String Global × Limits × List Named)) (accounts : List Account) (floor : Floor) (hands : List (Option Held)) → accounts ≡ map opening_of openings
    → All IsSoundAccount accounts → floor ≡ new_floor (length openings) → hands ≡ replicate 16 None → length openings ≤ 64
    → IsScene (record { accounts = accounts; floor = floor; hands = hands })
scene-new openings accounts floor hands are sound floor_is hands_are few =
    let n = length openings in
    let many : length accounts ≡ n = ap length are ∙ length-map openings opening_of in
    let right : IsScene (record { accounts = accounts; floor = new_floor n; hands = replicate 16 None }) = record {
      each = λ t a at.
          agrees-new a (job_of (new_floor n).jobs t) (tenant_units (new_floor n) t)
          (subst IsSoundAccount (get_or_from_slice_get accounts t a a at) (sound t a (slice_get_within accounts t a at)))
          (fresh (slice_get openings t) a (sym (slice_get-map opening_of openings t) ∙ ap (λ l. slice_get l t) (sym are) ∙ at)) (none-at Live n t) (replicated-at 0 n t);
      jobs_many = length-replicate {A = Option Live} n None ∙ sym many;
      units_many = length-replicate {A = ℕ} n 0 ∙ sym many;
      few = omega (arith, many, few);
      hands_many = length-replicate {A = Option Held} 16 None;
      held = held-none n;
    } in
    subst (λ f. IsScene (record { accounts = accounts; floor = f; hands = hands })) (sym floor_is)
    (subst (λ hs. IsScene (record { accounts = accounts; floor = new_floor n; hands = hs })) (sym hands_are) right)

pub new-is : (openings : List (String Global × Limits × List Named)) (accounts : List Account) (floor : Floor) (hands : List (Option Held)) → accounts ≡ map opening_of openings
    → floor ≡ new_floor (length openings) → hands ≡ replicate 16 None → record { accounts = accounts; floor = floor; hands = hands } ≡ new_scene openings
new-is openings accounts floor hands are floor_is hands_are =
    ap (λ l. let s : Scene = record { accounts = l; floor = floor; hands = hands } in s) are
    ∙ ap (λ f. let s : Scene = record { accounts = map opening_of openings; floor = f; hands = hands } in s) floor_is
    ∙ ap (λ hs. let s : Scene = record { accounts = map opening_of openings; floor = new_floor (length openings); hands = hs } in s) hands_are
