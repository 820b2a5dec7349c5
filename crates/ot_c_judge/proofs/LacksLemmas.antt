-- The first use that isn't allowed, part by part.
use Rattle.std.proofs.Common.{◌≡◌, ◌<◌, ◌≤◌, ◌+◌, ◌-◌, ◌++◌, ℕ, suc, Bool, true, false, List, [], ◌∷◌, map, refl, sym, ap, ◌∙◌, arith}
use Rattle.std.specs.Prelude.{find, if◌then◌else◌, Option, Some, None}
use Rattle.std.specs.Option.{option_or}
use Rattle.std.specs.List.{range_with_len}
use Rattle.std.proofs.lemmas.List.{map-append}
use Rattle.std.proofs.lemmas.List.Folds.{find-append}
use Rattle.ot_model.specs.Tree.{cell_at}
use Rattle.ot_model.specs.declared.expr.Section.{Section}
use Rattle.ot_model.specs.declared.stmt.Mode.TheVariants.{Reads}
use Rattle.ot_model.specs.declared.stmt.Use.{Use}
use Rattle.ot_check.specs.Offences.{use_as}

both-found : {A B : Type 0} (p : B → Bool) (f : A → B) (xs ys : List A) → find p (map f (xs ++ ys)) ≡ option_or (find p (map f xs)) (find p (map f ys))
both-found p f xs ys = ap (find p) (map-append f xs ys) ∙ find-append p (map f xs) (map f ys)

pub found-in_front : {A B : Type 0} (p : B → Bool) (f : A → B) (xs ys : List A) (x : B) → Some x ≡ find p (map f xs) → Some x ≡ find p (map f (xs ++ ys))
found-in_front p f xs ys x h = sym (both-found p f xs ys ∙ ap (λ o. option_or o (find p (map f ys))) (sym h))

pub found-behind : {A B : Type 0} (p : B → Bool) (f : A → B) (xs ys : List A) (o : Option B) → None ≡ find p (map f xs) → o ≡ find p (map f ys) → o ≡ find p (map f (xs ++ ys))
found-behind p f xs ys o none h = h ∙ sym (both-found p f xs ys ∙ ap (λ o. option_or o (find p (map f ys))) (sym none))

pub found-left : {A : Type 0} (p : A → Bool) (xs ys : List A) (x : A) → Some x ≡ find p xs → Some x ≡ find p (xs ++ ys)
found-left p xs ys x h = sym (find-append p xs ys ∙ ap (λ o. option_or o (find p ys)) (sym h))

pub found-right : {A : Type 0} (p : A → Bool) (xs ys : List A) (o : Option A) → None ≡ find p xs → o ≡ find p ys → o ≡ find p (xs ++ ys)
found-right p xs ys o none h = h ∙ sym (find-append p xs ys ∙ ap (λ o. option_or o (find p ys)) (sym none))

-- ---- a section's cells one by one

-- the first that is found among its cells from k on
abbrev from : (Use → Bool) → Section → ℕ → ℕ → Option Use
from p s k n = find p (map (use_as Reads) (map (cell_at s) (range_with_len k (n - k))))

next : (p : Use → Bool) (s : Section) (k n : ℕ) → k < n → from p s k n ≡ (if p (use_as Reads (cell_at s k)) then Some (use_as Reads (cell_at s k)) else from p s (k + 1) n)
next p s k n l =
    let e : n - k ≡ suc (n - (k + 1)) = omega arith in
    rw e refl

if_found : (b : Bool) (u used : Use) (rest : Option Use) → Some used ≡ (if b then Some u else None) → Some used ≡ (if b then Some u else rest)
if_found true u used rest h = h
if_found false u used rest h = cc

if_none : (b : Bool) (u : Use) (rest : Option Use) → None ≡ (if b then Some u else None) → (if b then Some u else rest) ≡ rest
if_none true u rest h = cc
if_none false u rest h = refl

pub read_found : (p : Use → Bool) (s : Section) (k n : ℕ) (used : Use) → k < n → Some used ≡ find p (use_as Reads (cell_at s k) ∷ []) → Some used ≡ from p s k n
read_found p s k n used l h = if_found (p (use_as Reads (cell_at s k))) (use_as Reads (cell_at s k)) used (from p s (k + 1) n) h ∙ sym (next p s k n l)

pub read_none : (p : Use → Bool) (s : Section) (k n : ℕ) → k < n → None ≡ find p (use_as Reads (cell_at s k) ∷ []) → from p s k n ≡ from p s (k + 1) n
read_none p s k n l h = next p s k n l ∙ if_none (p (use_as Reads (cell_at s k))) (use_as Reads (cell_at s k)) (from p s (k + 1) n) h

pub section_none : (p : Use → Bool) (s : Section) (k n : ℕ) → n ≤ k → from p s k n ≡ None
section_none p s k n l =
    let e : n - k ≡ 0 = omega arith in
    rw e refl
