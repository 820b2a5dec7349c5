-- The members of a roster, by their numbers from 0 on, and what is kept of them.
use Rattle.std.specs.Prelude.{◌≡◌, ◌<◌, ◌==◌, ◌+◌, ℕ, Bool, true, false, not, List, [], length, get_or, filter, if◌then◌else◌}
use Rattle.std.specs.List.{range_with_len}

-- whose child it is, which of its children, how many children it has, and whether it is out and has ended
pub record Member : Type 0 where
  pub parent : ℕ
  pub child : ℕ
  pub kids : ℕ
  pub out : Bool
  pub ended : Bool

-- What is kept: of each member the numbers of its children, those that are free, how many are out, and how many have not ended;
-- and what there is room for: so many members in each list, and so many children of each.
pub record Kept : Type 0 where
  pub numbers : List (List ℕ)
  pub listed : List ℕ
  pub out : ℕ
  pub unended : ℕ
  pub room : ℕ
  pub places : ℕ
  pub rooms : List ℕ

-- the numbers below this one that pass a test, in their order
abbrev pub passing : (ℕ → Bool) → ℕ → List ℕ
passing test n = filter test (range_with_len 0 n)

-- the numbers of each member's children are these
pub record AreNumbered (n : ℕ) (s : ℕ → Member) (numbers : List (List ℕ)) : Type 0 where
  pub long : length numbers ≡ n
  pub kids : (p : ℕ) → length (get_or numbers p []) ≡ (s p).kids
  pub known : (p c : ℕ) → c < (s p).kids → get_or (get_or numbers p []) c 0 < n
  pub placed : (i : ℕ) → 0 < i → i < n → (s i).child < (s (s i).parent).kids
  pub is : (i : ℕ) → 0 < i → i < n → get_or (get_or numbers (s i).parent []) (s i).child 0 ≡ i

-- it tells of so many members rightly, which are free where they pass a test
pub record Tells (n : ℕ) (s : ℕ → Member) (test : ℕ → Bool) (r : Kept) : Type 0 where
  pub free : r.listed ≡ passing test n
  pub out : r.out ≡ length (passing (λ k. (s k).out) n)
  pub unended : r.unended ≡ length (passing (λ k. not (s k).ended) n)
  pub numbered : AreNumbered n s r.numbers

-- it tells of some members rightly, and this of one of them
pub record Knows (r : Kept) (i : ℕ) (P : Member → Type 0) : Type 0 where
  pub count : ℕ
  pub members : ℕ → Member
  pub test : ℕ → Bool
  pub tells : Tells count members test r
  pub known : i < count
  pub holds : P (members i)

-- what is told of a number, and nothing else, is this from now on
abbrev pub told_put : {A : Type 0} → (ℕ → A) → ℕ → A → ℕ → A
told_put f i x k = if k == i then x else f k

abbrev pub goes_out : Member → Member
goes_out m = record m { out = true }

abbrev pub comes_back : Member → Member
comes_back m = record m { out = false }

abbrev pub ends : Member → Member
ends m = record m { ended = true }

abbrev pub with_kid : Member → Member
with_kid m = record m { kids = m.kids + 1 }

-- member n is a further child of this one
abbrev pub with_member : ℕ → ℕ → (ℕ → Member) → ℕ → Member
with_member n p s = told_put (told_put s p (with_kid (s p))) n (record { parent = p; child = (s p).kids; kids = 0; out = false; ended = false })

-- one member alone, that is free
pub record IsAlone (s : ℕ → Member) (test : ℕ → Bool) : Type 0 where
  pub kids : (p : ℕ) → (s p).kids ≡ 0
  pub idle : (s 0).out ≡ false
  pub alive : (s 0).ended ≡ false
  pub free : test 0 ≡ true

-- there is room for a further child of this member
pub record HasRoom (r : Kept) (p : ℕ) : Type 0 where
  pub list : length r.numbers < r.room
  pub place : length r.numbers < r.places
  pub child : length (get_or r.numbers p []) < get_or r.rooms p 0
