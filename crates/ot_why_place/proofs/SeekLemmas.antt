-- Spots one after the other, as a walk comes to them.
use Rattle.std.proofs.Common.{◌≡◌, ℕ, zero, suc, ◌+◌, ◌-◌, ◌<◌, ◌≤◌, Bool, true, false, cond, List, [], ◌∷◌, ◌++◌, length, get_or, drop, refl, sym, ap, ◌∙◌, add-one, arith}
use Rattle.std.proofs.Math.Seq.{drop-cons}
use Rattle.std.proofs.lemmas.List.{drop_all}
use Rattle.serde_json.specs.View.{view, items_view}
use Rattle.serde_json.specs.declared.value.Value.{Value}
use Rattle.ot_program.specs.Copies.{Text, Copies, Done, Turn, at, turns, copies_of, copy}
use Rattle.ot_program.specs.Meanings.{Bindings}
use Rattle.ot_program.specs.declared.profile.Profile.{Profile}
use Rattle.ot_why_place.specs.Spots.{Path, Spot, spots, in_body, in_turns}
use Rattle.ot_why_place.specs.Seeking.{Sought, Skipped, Met, meet, seek}

-- what is sought behind what was passed
abbrev pub onward : Sought → (ℕ → Sought) → Sought
onward (Skipped n) rest = rest n
onward (Met path variables) rest = Met path variables

meet-onward : (s : Spot) (n : ℕ) (f g : ℕ → Sought) → onward (meet s n f) g ≡ meet s n (λ m. onward (f m) g)
meet-onward s zero f g = refl
meet-onward s (suc n) f g = refl

meet-same : (s : Spot) (n : ℕ) (f g : ℕ → Sought) → ((m : ℕ) → f m ≡ g m) → meet s n f ≡ meet s n g
meet-same s zero f g h = refl
meet-same s (suc n) f g h = h n

seek_by : (b : Bool) (s : Spot) (n : ℕ) (f g h : ℕ → Sought) → ((m : ℕ) → f m ≡ onward (h m) g)
    → cond b (meet s n f) (f n) ≡ onward (cond b (meet s n h) (h n)) g
seek_by true s n f g h same = meet-same s n f (λ m. onward (h m) g) same ∙ sym (meet-onward s n h g)
seek_by false s n f g h same = same n

pub seek-append : (counts : Text → Bool) (n : ℕ) (xs ys : List Spot) → seek counts n (xs ++ ys) ≡ onward (seek counts n xs) (λ m. seek counts m ys)
seek-append counts n [] ys = refl
seek-append counts n (s ∷ xs) ys =
    seek_by (counts s.placed.text) s n (λ m. seek counts m (xs ++ ys)) (λ m. seek counts m ys) (λ m. seek counts m xs)
    (λ m. seek-append counts m xs ys)

-- behind spots of which none was sought
pub passed : (counts : Text → Bool) (n m : ℕ) (xs ys : List Spot) → Skipped m ≡ seek counts n xs → seek counts n (xs ++ ys) ≡ seek counts m ys
passed counts n m xs ys is = seek-append counts n xs ys ∙ ap (λ (s : Sought). onward s (λ k. seek counts k ys)) (sym is)

pub ended : (counts : Text → Bool) (n : ℕ) (path : Path) (variables : Bindings) (xs ys : List Spot) → Met path variables ≡ seek counts n xs
    → Met path variables ≡ seek counts n (xs ++ ys)
ended counts n path variables xs ys is = sym (seek-append counts n xs ys ∙ ap (λ (s : Sought). onward s (λ k. seek counts k ys)) (sym is))

-- ---- the items of a body

items-next : (profile : Profile) (level : ℕ) (variables : Bindings) (path : Path) (vs : List Value) (i : ℕ) (v : Value)
    → i < length vs → v ≡ get_or vs i v
    → in_body path i (copies_of profile level (items_view (drop i vs)) variables)
    ≡ spots (path ++ i ∷ []) (copy profile level (view v) variables) ++ in_body path (i + 1) (copies_of profile level (items_view (drop (i + 1) vs)) variables)
unfolding copies_of
items-next profile level variables path vs i v within is = rw (drop-cons vs i v within, ← is, add-one) refl

pub items_pass : (counts : Text → Bool) (profile : Profile) (level : ℕ) (variables : Bindings) (path : Path) (vs : List Value) (i : ℕ) (v : Value) (n m : ℕ)
    → i < length vs → v ≡ get_or vs i v → Skipped m ≡ seek counts n (spots (path ++ i ∷ []) (copy profile level (view v) variables))
    → seek counts n (in_body path i (copies_of profile level (items_view (drop i vs)) variables))
    ≡ seek counts m (in_body path (i + 1) (copies_of profile level (items_view (drop (i + 1) vs)) variables))
items_pass counts profile level variables path vs i v n m within is skipped =
    ap (seek counts n) (items-next profile level variables path vs i v within is)
    ∙ passed counts n m (spots (path ++ i ∷ []) (copy profile level (view v) variables)) _ skipped

pub items_end : (counts : Text → Bool) (profile : Profile) (level : ℕ) (variables : Bindings) (path : Path) (vs : List Value) (i : ℕ) (v : Value) (n : ℕ) (to : Path) (turns : Bindings)
    → i < length vs → v ≡ get_or vs i v → Met to turns ≡ seek counts n (spots (path ++ i ∷ []) (copy profile level (view v) variables))
    → Met to turns ≡ seek counts n (in_body path i (copies_of profile level (items_view (drop i vs)) variables))
items_end counts profile level variables path vs i v n to turns within is met =
    ended counts n to turns (spots (path ++ i ∷ []) (copy profile level (view v) variables)) _ met
    ∙ ap (seek counts n) (sym (items-next profile level variables path vs i v within is))

pub items_none : (counts : Text → Bool) (profile : Profile) (level : ℕ) (variables : Bindings) (path : Path) (vs : List Value) (i n : ℕ)
    → length vs ≤ i → seek counts n (in_body path i (copies_of profile level (items_view (drop i vs)) variables)) ≡ Skipped n
unfolding copies_of
items_none counts profile level variables path vs i n past = rw (drop_all i vs past) refl

-- ---- the turns of a loop

turns-next : (path : Path) (level : ℕ) (variables : Bindings) (body : ℕ → Copies) (k behind : ℕ) → k < behind
    → in_turns path (turns level variables body k (behind - k))
    ≡ spots path (at level variables Turn (body k) Done) ++ in_turns path (turns level variables body (k + 1) (behind - (k + 1)))
turns-next path level variables body k behind below =
    let left : behind - k ≡ suc (behind - (k + 1)) = omega arith in
    let next : k + 1 ≡ suc k = omega arith in
    rw (left, next) refl

pub turns_pass : (counts : Text → Bool) (path : Path) (level : ℕ) (variables : Bindings) (body : ℕ → Copies) (k behind n m : ℕ) → k < behind
    → Skipped m ≡ seek counts n (spots path (at level variables Turn (body k) Done))
    → seek counts n (in_turns path (turns level variables body k (behind - k)))
    ≡ seek counts m (in_turns path (turns level variables body (k + 1) (behind - (k + 1))))
turns_pass counts path level variables body k behind n m below skipped =
    ap (seek counts n) (turns-next path level variables body k behind below)
    ∙ passed counts n m (spots path (at level variables Turn (body k) Done)) _ skipped

pub turns_end : (counts : Text → Bool) (path : Path) (level : ℕ) (variables : Bindings) (body : ℕ → Copies) (k behind n : ℕ) (to : Path) (turns_in : Bindings) → k < behind
    → Met to turns_in ≡ seek counts n (spots path (at level variables Turn (body k) Done))
    → Met to turns_in ≡ seek counts n (in_turns path (turns level variables body k (behind - k)))
turns_end counts path level variables body k behind n to turns_in below met =
    ended counts n to turns_in (spots path (at level variables Turn (body k) Done)) _ met
    ∙ ap (seek counts n) (sym (turns-next path level variables body k behind below))

pub turns_none : (counts : Text → Bool) (path : Path) (level : ℕ) (variables : Bindings) (body : ℕ → Copies) (k behind n : ℕ) → behind ≤ k
    → seek counts n (in_turns path (turns level variables body k (behind - k))) ≡ Skipped n
turns_none counts path level variables body k behind n past =
    let left : behind - k ≡ 0 = omega arith in
    rw left refl
