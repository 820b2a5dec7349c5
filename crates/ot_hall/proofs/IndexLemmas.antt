-- A tenant's place changes, and no other tenant's job.
use Rattle.std.proofs.Common.{◌≡◌, ◌≢◌, ◌<◌, ◌⊎◌, inl, inr, ℕ, zero, suc, List, [], ◌∷◌, length, map, get_or, set, replicate, refl, sym, ap, ◌∙◌, subst, arith, true≢false}
use Rattle.std.proofs.lemmas.Bool.{cases_eq, cases_lt}
use Rattle.std.proofs.lemmas.List.{get_or-set_same, get_or-set_other, set-get_or, length-map, get_or_default, get_or_past, get_or-replicate, length-replicate}
use Rattle.std.specs.Prelude.{Option, Some, None, IsSome, is_some, slice_get}
use Rattle.std.proofs.lemmas.Option.{none-some, same_Some, slice_get_within}
use Rattle.std.proofs.Math.ListN.{get_or-map}
use Rattle.slab.specs.Slab.{Slab, get, with_value}
use Rattle.ot_job.specs.Dealings.{Live}
use Rattle.ot_hall.specs.Index.{job_at, key_of, Indexes}

-- what is read of many of the same
pub replicated-at : {X : Type 0} (x : X) (n u : ℕ) → get_or (replicate n x) u x ≡ x
replicated-at x n u = elim (cases_lt u n) [
  | inl within ↦ get_or-replicate n u x x within
  | inr past ↦ get_or_past (replicate n x) u x (omega (arith, past, length-replicate n x))
]

pub map-replicate : {X Y : Type 0} (f : X → Y) (x : X) (n : ℕ) → map f (replicate n x) ≡ replicate n (f x)
map-replicate f x zero = refl
map-replicate f x (suc n) = ap (λ l. f x ∷ l) (map-replicate f x n)

map-same : {X Y : Type 0} (f g : X → Y) (d : X) (xs : List X) → ((u : ℕ) → u < length xs → f (get_or xs u d) ≡ g (get_or xs u d)) → map f xs ≡ map g xs
map-same f g d [] same = refl
map-same f g d (x ∷ xs) same =
    ap (λ y. y ∷ map f xs) (same zero (omega arith)) ∙ ap (λ ys. g x ∷ ys) (map-same f g d xs (λ u below. same (suc u) (omega (arith, below))))

pub map-changed : {X Y : Type 0} (f g : X → Y) (d : X) (xs : List X) (t : ℕ) (x : X)
    → ((u : ℕ) → u ≢ t → u < length xs → f (get_or xs u d) ≡ g (get_or xs u d)) → map f (set xs t x) ≡ set (map g xs) t (f x)
map-changed f g d [] t x same = refl
map-changed f g d (y ∷ xs) zero x same =
    ap (λ ys. f x ∷ ys) (map-same f g d xs (λ u below. same (suc u) (λ e. absurd (omega (arith, e))) (omega (arith, below))))
map-changed f g d (y ∷ xs) (suc t) x same =
    ap (λ z. z ∷ map f (set xs t x)) (same zero (λ e. absurd (omega (arith, e))) (omega arith))
    ∙ ap (λ ys. g y ∷ ys) (map-changed f g d xs t x (λ u other below. same (suc u) (λ e. other (omega (arith, e))) (omega (arith, below))))

job_at-other : (old new : Slab Live) (key : ℕ) (p : Option ℕ) → ((k : ℕ) → k ≢ key → get new k ≡ get old k) → p ≢ Some key → job_at new p ≡ job_at old p
job_at-other old new key None others other = refl
job_at-other old new key (Some k) others other = others k (λ e. other (ap Some e))

-- one key changes, which is no other tenant's
pub jobs-changed : (old new : Slab Live) (keys : List (Option ℕ)) (t key : ℕ) (p : Option ℕ)
    → ((k : ℕ) → k ≢ key → get new k ≡ get old k) → ((u : ℕ) → u ≢ t → key_of keys u ≢ Some key)
    → map (job_at new) (set keys t p) ≡ set (map (job_at old) keys) t (job_at new p)
jobs-changed old new keys t key p others other =
    map-changed (job_at new) (job_at old) None keys t p (λ u ne below. job_at-other old new key (get_or keys u None) others (other u ne))

-- a key that is taken is no vacant one
pub not_vacant : (slab : Slab Live) (keys : List (Option ℕ)) (key : ℕ) → Indexes slab keys → get slab key ≡ None → (u : ℕ) → key_of keys u ≢ Some key
not_vacant slab keys key index vacant u is = absurd (true≢false (sym (index.there u key is) ∙ ap is_some vacant))

-- a place after one was changed
place-set : (keys : List (Option ℕ)) (t : ℕ) (p : Option ℕ) (u k : ℕ) → t < length keys → key_of (set keys t p) u ≡ Some k
    → ((u ≡ t) × (p ≡ Some k)) ⊎ ((u ≡ t → ⊥) × (key_of keys u ≡ Some k))
place-set keys t p u k within e = elim (cases_eq u t) [
  | inl same ↦ inl (same, sym (get_or-set_same keys t p None within) ∙ ap (key_of (set keys t p)) (sym same) ∙ e)
  | inr other ↦ inr (other, sym (get_or-set_other keys t u p None other) ∙ e)
]

-- a tenant gets a vacant key
pub indexes-more : (old new : Slab Live) (keys : List (Option ℕ)) (t key : ℕ) (job : Live) → Indexes old keys → get old key ≡ None → t < length keys
    → get new key ≡ Some job → ((k : ℕ) → k ≢ key → get new k ≡ get old k) → Indexes new (set keys t (Some key))
indexes-more old new keys t key job index vacant within is others =
    let free = not_vacant old keys key index vacant in
    record {
      there = λ u k e. elim (place-set keys t (Some key) u k within e) [
        | inl same ↦ ap is_some (ap (get new) (sym (same_Some key k same.1)) ∙ is)
        | inr other ↦ subst IsSome (sym (others k (λ q. absurd (free u (other.1 ∙ ap Some q))))) (index.there u k other.1)
      ];
      apart = λ t' u k e f. elim (place-set keys t (Some key) t' k within e) [
        | inl one ↦ elim (place-set keys t (Some key) u k within f) [
          | inl two ↦ one.0 ∙ sym two.0
          | inr two ↦ absurd (free u (two.1 ∙ sym one.1))
        ]
        | inr one ↦ elim (place-set keys t (Some key) u k within f) [
          | inl two ↦ absurd (free t' (one.1 ∙ sym two.1))
          | inr two ↦ index.apart t' u k one.1 two.1
        ]
      ];
    }

-- a tenant gives its key up
pub indexes-fewer : (old new : Slab Live) (keys : List (Option ℕ)) (t key : ℕ) → Indexes old keys → t < length keys → key_of keys t ≡ Some key
    → ((k : ℕ) → k ≢ key → get new k ≡ get old k) → Indexes new (set keys t None)
indexes-fewer old new keys t key index within mine others = record {
  there = λ u k e. elim (place-set keys t None u k within e) [
    | inl same ↦ absurd (none-some k same.1)
    | inr o ↦ subst IsSome (sym (others k (λ q. o.0 (index.apart u t key (o.1 ∙ ap Some q) mine)))) (index.there u k o.1)
  ];
  apart = λ t' u k e f. elim (place-set keys t None t' k within e) [
    | inl same ↦ absurd (none-some k same.1)
    | inr one ↦ elim (place-set keys t None u k within f) [
      | inl same ↦ absurd (none-some k same.1)
      | inr two ↦ index.apart t' u k one.1 two.1
    ]
  ];
}

-- and its job is there
pub jobs-more : (old new : Slab Live) (keys : List (Option ℕ)) (t key : ℕ) (job : Live) (jobs : List (Option Live)) → Indexes old keys → get old key ≡ None
    → get new key ≡ Some job → ((k : ℕ) → k ≢ key → get new k ≡ get old k) → map (job_at old) keys ≡ jobs → map (job_at new) (set keys t (Some key)) ≡ set jobs t (Some job)
jobs-more old new keys t key job jobs index vacant is others was =
    jobs-changed old new keys t key (Some key) others (λ u _. not_vacant old keys key index vacant u) ∙ ap (set _ t) is ∙ ap (λ l. set l t (Some job)) was

-- where a tenant has a job, it has a key
pub at_key : (slab : Slab Live) (keys : List (Option ℕ)) (t key : ℕ) (p : Option ℕ) → IsSome (get_or (map (job_at slab) keys) t None) → p ≡ get_or keys t p → p ≡ Some key
    → (t < length keys) × (key_of keys t ≡ Some key)
at_key slab keys t key p some read is = elim (cases_lt t (length keys)) [
  | inl within ↦ (within, get_or_default keys t None p within ∙ sym read ∙ is)
  | inr past ↦ absurd (true≢false (sym some ∙ ap is_some (get_or_past (map (job_at slab) keys) t None (omega (arith, past, length-map keys (job_at slab))))))
]

-- no other tenant has its key
pub not_others : (slab : Slab Live) (keys : List (Option ℕ)) (t key : ℕ) → Indexes slab keys → key_of keys t ≡ Some key → (u : ℕ) → u ≢ t → key_of keys u ≢ Some key
not_others slab keys t key index mine u other is = other (index.apart u t key is mine)

pub job-at_key : (slab : Slab Live) (keys : List (Option ℕ)) (t key : ℕ) → t < length keys → key_of keys t ≡ Some key → get_or (map (job_at slab) keys) t None ≡ get slab key
job-at_key slab keys t key within mine = get_or-map (job_at slab) keys t None ∙ ap (job_at slab) mine

key_within : (slab : Slab Live) (key : ℕ) → IsSome (get slab key) → key < length slab.slots
key_within slab key some = elim (cases_lt key (length slab.slots)) [
  | inl within ↦ within
  | inr past ↦ absurd (true≢false (sym some ∙ ap is_some (get_or_past slab.slots key None past)))
]

-- a tenant's job is written over
pub jobs-written : (slab : Slab Live) (keys : List (Option ℕ)) (t key : ℕ) (w : Live) → Indexes slab keys → t < length keys → key_of keys t ≡ Some key
    → map (job_at (with_value slab key w)) keys ≡ set (map (job_at slab) keys) t (Some w)
jobs-written slab keys t key w index within mine =
    let new = with_value slab key w in
    ap (map (job_at new)) (sym (set-get_or keys t None) ∙ ap (set keys t) mine)
    ∙ jobs-changed slab new keys t key (Some key) (λ k other. get_or-set_other slab.slots key k (Some w) None other) (not_others slab keys t key index mine)
    ∙ ap (set (map (job_at slab) keys) t) (get_or-set_same slab.slots key (Some w) None (key_within slab key (index.there t key mine)))

pub within-jobs : (slab : Slab Live) (keys : List (Option ℕ)) (t : ℕ) (o : Option Live) → slice_get (map (job_at slab) keys) t ≡ Some o → t < length keys
within-jobs slab keys t o is = omega (arith, slice_get_within (map (job_at slab) keys) t o is, length-map keys (job_at slab))

pub indexes-none : (slab : Slab Live) (n : ℕ) → Indexes slab (replicate n None)
indexes-none slab n = record {
  there = λ t k is. absurd (none-some k (sym (replicated-at None n t) ∙ is));
  apart = λ t u k is _. absurd (none-some k (sym (replicated-at None n t) ∙ is));
}
