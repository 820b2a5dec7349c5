-- The first of some faults, and readings that give what a text denotes, or the first of its faults.
use Rattle.std.proofs.Common.{◌≡◌, ℕ, ◌≤◌, Bool, true, false, cond, List, [], ◌∷◌, ◌++◌, map, Option, Some, None, Result, Ok, Err, refl, sym, ap, ◌∙◌, arith, inl, inr}
use Rattle.std.specs.Prelude.{IfErr, IfSome, fold, flat_map}
use Rattle.std.proofs.lemmas.Bool.{cases_lt}
use Rattle.serde_json.specs.Data.{Data, Items, no_items, item}
use Rattle.ot_program.specs.declared.fault.Refusal.{Refusal}
use Rattle.ot_program.specs.declared.fault.Refusal.TheVariants.{Form}
use Rattle.ot_program.specs.Faults.{rank, least, unless}
use Rattle.ot_program.specs.walk.Reading.{◌>>=◌, both_of, each_of}
use Rattle.ot_program.specs.Meanings.{each}
use Rattle.ot_program.specs.Programs.{foremost, told_or}
use Rattle.ot_program.proofs.Lists.{least-lt, least-le, least-least}

-- ---- the first of some faults

abbrev pub earlier : Refusal → Option Refusal → Option Refusal
earlier c None = Some c
earlier c (Some d) = Some (least c d)

abbrev pub first_of : List Refusal → Option Refusal
first_of [] = None
first_of (c ∷ cs) = earlier c (first_of cs)

least-fold : (c d : Refusal) (cs : List Refusal) → fold least (least c d) cs ≡ least c (fold least d cs)
least-fold c d [] = refl
least-fold c d (e ∷ es) = ap (λ (b : Refusal). fold least b es) (least-least c d e) ∙ least-fold c (least d e) es

foremost-earlier : (c : Refusal) (cs : List Refusal) → foremost (c ∷ cs) ≡ earlier c (foremost cs)
foremost-earlier c [] = refl
foremost-earlier c (d ∷ ds) = ap Some (least-fold c d ds)

pub foremost_is : (cs : List Refusal) → foremost cs ≡ first_of cs
foremost_is [] = refl
foremost_is (c ∷ cs) = foremost-earlier c cs ∙ ap (earlier c) (foremost_is cs)

-- of what is told of two lists the first
abbrev pub merged : Option Refusal → Option Refusal → Option Refusal
merged None p = p
merged (Some c) p = earlier c p

earlier-merged : (c : Refusal) (o p : Option Refusal) → merged (earlier c o) p ≡ earlier c (merged o p)
earlier-merged c None p = refl
earlier-merged c (Some d) None = refl
earlier-merged c (Some d) (Some e) = ap Some (least-least c d e)

pub first-append : (fs gs : List Refusal) → first_of (fs ++ gs) ≡ merged (first_of fs) (first_of gs)
first-append [] gs = refl
first-append (c ∷ fs) gs = ap (earlier c) (first-append fs gs) ∙ sym (earlier-merged c (first_of fs) (first_of gs))

-- each of the faults has this place in the order, or a later one
abbrev pub AreFrom : ℕ → List Refusal → Type 0
AreFrom k [] = Unit {0}
AreFrom k (c ∷ cs) = (k ≤ rank c) × AreFrom k cs

earlier-from : (k : ℕ) (c : Refusal) (o : Option Refusal) → k ≤ rank c → IfSome o (λ d. k ≤ rank d) → IfSome (earlier c o) (λ d. k ≤ rank d)
earlier-from k c None h t = h
earlier-from k c (Some d) h t =
    elim (cases_lt (rank d) (rank c)) [
      | inl d_first ↦ rw (least-lt c d d_first) t
      | inr c_first ↦ rw (least-le c d c_first) h
    ]

pub first-from : (k : ℕ) (fs : List Refusal) → AreFrom k fs → IfSome (first_of fs) (λ d. k ≤ rank d)
first-from k [] h = tt
first-from k (c ∷ fs) h = earlier-from k c (first_of fs) (h.0) (first-from k fs h.1)

earlier-before : (k : ℕ) (c : Refusal) (o : Option Refusal) → rank c ≤ k → IfSome o (λ d. k ≤ rank d) → earlier c o ≡ Some c
earlier-before k c None below h = refl
earlier-before k c (Some d) below h = ap Some (least-le c d (omega (arith, below, h)))

-- ---- readings

-- what is read is what the text denotes, or the first of its faults, none of which comes behind a place in the order
pub record Reads {A : Type 0} (last : ℕ) (r : Result A Refusal) (x : A) (fs : List Refusal) : Type 0 where
  pub is : r ≡ told_or x (first_of fs)
  pub up_to : IfErr r (λ c. rank c ≤ last)

both_told : {A B : Type 0} (x : A) (y : B) (o p : Option Refusal) → both_of (told_or x o) (told_or y p) ≡ told_or (x, y) (merged o p)
both_told x y None None = refl
both_told x y None (Some d) = refl
both_told x y (Some c) None = refl
both_told x y (Some c) (Some d) = refl

least-up_to : (last : ℕ) (c d : Refusal) → rank c ≤ last → rank d ≤ last → rank (least c d) ≤ last
least-up_to last c d h k =
    elim (cases_lt (rank d) (rank c)) [
      | inl d_first ↦ rw (least-lt c d d_first) k
      | inr c_first ↦ rw (least-le c d c_first) h
    ]

both-up_to : {A B : Type 0} (last : ℕ) (r : Result A Refusal) (s : Result B Refusal)
    → IfErr r (λ c. rank c ≤ last) → IfErr s (λ c. rank c ≤ last) → IfErr (both_of r s) (λ c. rank c ≤ last)
both-up_to last (Ok x) (Ok y) h k = tt
both-up_to last (Ok x) (Err d) h k = k
both-up_to last (Err c) (Ok y) h k = h
both-up_to last (Err c) (Err d) h k = least-up_to last c d h k

pub reads_both : {A B : Type 0} (last : ℕ) (r : Result A Refusal) (s : Result B Refusal) (x : A) (y : B) (fs gs : List Refusal)
    → Reads last r x fs → Reads last s y gs → Reads last (both_of r s) (x, y) (fs ++ gs)
reads_both last r s x y fs gs h k = record {
  is = rw (h.is, k.is, first-append fs gs) (both_told x y (first_of fs) (first_of gs));
  up_to = both-up_to last r s h.up_to k.up_to;
}

pub reads_later : {A : Type 0} (last more : ℕ) (r : Result A Refusal) (x : A) (fs : List Refusal) → last ≤ more
    → Reads last r x fs → Reads more r x fs
reads_later last more (Ok y) x fs below h = record { is = h.is; up_to = tt }
reads_later last more (Err c) x fs below h = record { is = h.is; up_to = omega (arith, h.up_to) }

then_by : {A B : Type 0} (last more : ℕ) (r : Result A Refusal) (k : A → Result B Refusal) (x : A) (y : B) (o : Option Refusal) (fs hs : List Refusal)
    → last ≤ more → first_of fs ≡ o → r ≡ told_or x o → IfErr r (λ c. rank c ≤ last) → AreFrom last hs → Reads more (k x) y hs
    → Reads more (r >>= k) y (fs ++ hs)
then_by last more r k x y None fs hs below o is h later then = rw is (record {
  is = rw (first-append fs hs, o) then.is;
  up_to = then.up_to;
})
then_by {A} {B} last more r k x y (Some c) fs hs below o is h later then =
    let up : rank c ≤ last = rw is at h in
    rw is (record {
      is = rw (first-append fs hs, o, earlier-before last c (first_of hs) up (first-from last hs later)) refl;
      up_to = omega (arith, up);
    })

-- a test behind what it needs, whose faults come later in the order
pub reads_then : {A B : Type 0} (last more : ℕ) (r : Result A Refusal) (k : A → Result B Refusal) (x : A) (y : B) (fs hs : List Refusal)
    → last ≤ more → Reads last r x fs → AreFrom last hs → Reads more (k x) y hs
    → Reads more (r >>= k) y (fs ++ hs)
reads_then last more r k x y fs hs below h later then = then_by last more r k x y (first_of fs) fs hs below refl h.is h.up_to later then

made_by : {A B : Type 0} (r : Result A Refusal) (f : A → B) (x : A) (o : Option Refusal) → r ≡ told_or x o → (r >>= λ z. Ok (f z)) ≡ told_or (f x) o
made_by r f x None is = rw is refl
made_by r f x (Some c) is = rw is refl

made-up_to : {A B : Type 0} (last : ℕ) (r : Result A Refusal) (f : A → B) → IfErr r (λ c. rank c ≤ last)
    → IfErr (r >>= λ z. Ok (f z)) (λ c. rank c ≤ last)
made-up_to last (Ok x) f h = tt
made-up_to last (Err c) f h = h

-- what is made of what was read has no fault of its own
pub reads_made : {A B : Type 0} (last : ℕ) (r : Result A Refusal) (f : A → B) (x : A) (fs : List Refusal) → Reads last r x fs
    → Reads last (r >>= λ z. Ok (f z)) (f x) fs
reads_made last r f x fs h = record { is = made_by r f x (first_of fs) h.is; up_to = made-up_to last r f h.up_to }

pub reads_test : {A : Type 0} (last : ℕ) (b : Bool) (x : A) (c : Refusal) → rank c ≤ last
    → Reads last (cond b (Ok x) (Err c)) x (unless b c)
reads_test last true x c below = record { is = refl; up_to = tt }
reads_test last false x c below = record { is = refl; up_to = below }

pub reads_right : {A : Type 0} (last : ℕ) (x : A) → Reads last (Ok x) x []
reads_right last x = record { is = refl; up_to = tt }

pub reads_no_form : {A : Type 0} (last : ℕ) (x : A) → Reads last (Err Form) x (Form ∷ [])
reads_no_form last x = record { is = refl; up_to = omega arith }

pub form-earlier : (o : Option Refusal) → earlier Form o ≡ Some Form
form-earlier None = refl
form-earlier (Some d) = ap Some (least-le Form d (omega arith))

-- no form, whatever else there is
pub reads_form_first : {A : Type 0} (last : ℕ) (x : A) (fs : List Refusal) → Reads last (Err Form) x (Form ∷ fs)
reads_form_first last x fs = record { is = rw (form-earlier (first_of fs)) refl; up_to = omega arith }

pub reads_if : {A : Type 0} (last : ℕ) (b : Bool) (r s : Result A Refusal) (x y : A) (fs gs : List Refusal)
    → Reads last r x fs → Reads last s y gs → Reads last (cond b r s) (cond b x y) (cond b fs gs)
reads_if last true r s x y fs gs h k = h
reads_if last false r s x y fs gs h k = k

-- a form that is asked for by its word
pub reads_word : {A : Type 0} (last : ℕ) (b : Bool) (r : Result A Refusal) (x : A) (fs : List Refusal)
    → Reads last r x fs → Reads last (cond b r (Err Form)) x (unless b Form ++ fs)
reads_word last true r x fs h = h
reads_word last false r x fs h = reads_form_first last x fs

pub reads_each : {A : Type 0} (last : ℕ) (read : Data → Result A Refusal) (denoted : Data → A) (faults : Data → List Refusal)
    → ((d : Data) → Reads last (read d) (denoted d) (faults d)) → (ds : Items)
    → Reads last (each_of read ds) (map denoted (each ds)) (flat_map faults (each ds))
reads_each last read denoted faults h no_items = reads_right last []
reads_each {A} last read denoted faults h (item d ds) =
    reads_made {A = A × List A} last (both_of (read d) (each_of read ds)) (λ p. p.0 ∷ p.1) (denoted d, map denoted (each ds)) (faults d ++ flat_map faults (each ds))
    (reads_both last (read d) (each_of read ds) (denoted d) (map denoted (each ds)) (faults d) (flat_map faults (each ds)) (h d)
    (reads_each last read denoted faults h ds))

pub unless-from : (k : ℕ) (b : Bool) (c : Refusal) → k ≤ rank c → AreFrom k (unless b c)
unless-from k true c h = tt
unless-from k false c h = (h, tt)

pub append-from : (k : ℕ) (fs gs : List Refusal) → AreFrom k fs → AreFrom k gs → AreFrom k (fs ++ gs)
append-from k [] gs h j = j
append-from k (c ∷ fs) gs h j = (h.0, append-from k fs gs h.1 j)

-- what is read behind a test whose fault comes before all others
pub reads_guard : {A : Type 0} (last : ℕ) (b : Bool) (c : Refusal) (r : Result A Refusal) (x : A) (fs : List Refusal)
    → rank c ≤ last → AreFrom (rank c) fs → Reads last r x fs → Reads last (cond b r (Err c)) x (unless b c ++ fs)
reads_guard last true c r x fs below from h = h
reads_guard last false c r x fs below from h = record {
  is = rw (earlier-before (rank c) c (first_of fs) (omega arith) (first-from (rank c) fs from)) refl;
  up_to = below;
}
