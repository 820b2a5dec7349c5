-- Events one after the other, as they are taken.
use Rattle.std.proofs.Common.{◌≡◌, ◌∙◌, ℕ, zero, suc, ◌+◌, ◌<◌, List, [], ◌∷◌, ◌++◌, length, map, take, drop, set, get_or, refl, sym, ap, add-one}
use Rattle.std.specs.Prelude.{Option, Some, None, slice_get}
use Rattle.std.proofs.lemmas.List.{length-map, map-append, map-set, take_more}
use Rattle.ot_model.specs.declared.stmt.Use.{Use}
use Rattle.ot_race.specs.Events as s
use Rattle.ot_race.specs.declared.event.Event.{Event}
use Rattle.ot_race.specs.View.{deed_of, event_of}
use Rattle.ot_race.proofs.PlaceLemmas.{place_read, place_map}
use Rattle.ot_race_order.specs.Instead.{instead}

map_both : {A B C : Type 0} (f : B → C) (g : A → B) (xs : List A) → map (λ x. f (g x)) xs ≡ map f (map g xs)
map_both f g [] = refl
map_both f g (x ∷ xs) = ap (λ zs. f (g x) ∷ zs) (map_both f g xs)

-- ---- what is declared

-- what is declared so far
pub declared_next : (events : List Event) (declared new : List (Option (List Use))) (n : ℕ) (e : Event) (own : Option (List Use)) → n < length events → e ≡ get_or events n e
    → declared ≡ map (λ e. instead (deed_of e.deed)) (take n events) → own ≡ instead (deed_of e.deed) → new ≡ declared ++ own ∷ []
    → new ≡ map (λ e. instead (deed_of e.deed)) (take (n + 1) events)
declared_next events declared new n e own within is before one push =
    let f = λ (x : Event). instead (deed_of x.deed) in
    push ∙ ap (λ ds. ds ++ own ∷ []) before ∙ ap (λ d. map f (take n events) ++ d ∷ []) (one ∙ ap f is)
    ∙ sym (map-append f (take n events) (get_or events n e ∷ [])) ∙ ap (map f) (sym (take_more events n e within))

pub declared_all : (events : List Event) → map (λ (e : Event). instead (deed_of e.deed)) events ≡ map (λ e. instead e.deed) (map event_of events)
declared_all events = map_both (λ e. instead e.deed) event_of events

pub as_many : (events : List s.Event) (declared : List (Option (List Use))) → declared ≡ map (λ e. instead e.deed) events → length declared ≡ length events
as_many events declared are = ap length are ∙ length-map events (λ x. instead x.deed)

-- ---- events of which the first so many are taken otherwise

none_some : {A : Type 0} (x : A) → None ≡ Some x → ⊥
none_some x h = cc

some_same : {A : Type 0} (x y : A) → Some x ≡ Some y → x ≡ y
some_same x y h = cc

taken_length : (f : s.Event → s.Event) (xs : List s.Event) (n : ℕ) → length (map f (take n xs) ++ drop n xs) ≡ length xs
taken_length f [] zero = refl
taken_length f [] (suc n) = refl
taken_length f (x ∷ xs) zero = refl
taken_length f (x ∷ xs) (suc n) = ap suc (taken_length f xs n)

pub taken_many : (f : s.Event → s.Event) (now : List Event) (xs : List s.Event) (n : ℕ) → map event_of now ≡ map f (take n xs) ++ drop n xs → length now ≡ length xs
taken_many f now xs n h = sym (length-map now event_of) ∙ ap length h ∙ taken_length f xs n

taken_there : (f : s.Event → s.Event) (xs : List s.Event) (n : ℕ) (x : s.Event) → slice_get (map f (take n xs) ++ drop n xs) n ≡ Some x → slice_get xs n ≡ Some x
taken_there f [] zero x h = h
taken_there f [] (suc n) x h = h
taken_there f (y ∷ ys) zero x h = h
taken_there f (y ∷ ys) (suc n) x h = taken_there f ys n x h

-- the one that is next
next_is : (f : s.Event → s.Event) (now : List Event) (xs : List s.Event) (n : ℕ) (e : Event) → map event_of now ≡ map f (take n xs) ++ drop n xs → n < length now → e ≡ get_or now n e
    → slice_get xs n ≡ Some (event_of e)
next_is f now xs n e h within is =
    taken_there f xs n (event_of e) (sym (ap (λ zs. slice_get zs n) h) ∙ place_map event_of now n e (place_read now n e within is))

-- what it declares, as it was noted
pub own_is : (f : s.Event → s.Event) (now : List Event) (xs : List s.Event) (declared : List (Option (List Use))) (n : ℕ) (e : Event) (own : Option (List Use))
    → declared ≡ map (λ x. instead x.deed) xs → map event_of now ≡ map f (take n xs) ++ drop n xs → n < length now → e ≡ get_or now n e
    → n < length declared → own ≡ get_or declared n own → own ≡ instead (deed_of e.deed)
own_is f now xs declared n e own are h within is there own_at =
    let noted = place_map (λ (x : s.Event). instead x.deed) xs n (event_of e) (next_is f now xs n e h within is) in
    some_same own (instead (deed_of e.deed)) (sym (place_read declared n own there own_at) ∙ ap (λ ds. slice_get ds n) are ∙ noted)

taken_one : (f : s.Event → s.Event) (xs : List s.Event) (n : ℕ) (x : s.Event) → slice_get xs n ≡ Some x
    → set (map f (take n xs) ++ drop n xs) n (f x) ≡ map f (take (suc n) xs) ++ drop (suc n) xs
taken_one f [] n x h = absurd (none_some x h)
taken_one f (y ∷ ys) zero x h = ap (λ z. f z ∷ ys) (sym (some_same y x h))
taken_one f (y ∷ ys) (suc n) x h = ap (λ zs. f y ∷ zs) (taken_one f ys n x h)

-- one more
pub taken_next : (f : s.Event → s.Event) (now : List Event) (xs : List s.Event) (n : ℕ) (e new : Event) → map event_of now ≡ map f (take n xs) ++ drop n xs → n < length now → e ≡ get_or now n e
    → event_of new ≡ f (event_of e) → map event_of (set now n new) ≡ map f (take (n + 1) xs) ++ drop (n + 1) xs
taken_next f now xs n e new h within is taken =
    map-set event_of now n new ∙ ap (λ x. set (map event_of now) n x) taken ∙ ap (λ zs. set zs n (f (event_of e))) h
    ∙ taken_one f xs n (event_of e) (next_is f now xs n e h within is) ∙ ap (λ m. map f (take m xs) ++ drop m xs) (sym (add-one n))
