-- Cells that open groups name, whatever the operations of the groups.
use Rattle.std.proofs.Common.{◌≡◌, ◌++◌, Bool, true, false, List, [], ◌∷◌, refl, sym, ap, ◌∙◌, true≢false}
use Rattle.std.specs.List.{list_any}
use Rattle.ot_model.specs.declared.expr.Cell.{Cell}
use Rattle.ot_model.specs.declared.fold.Fold.{Fold as Operation}
use Rattle.ot_model.specs.declared.fold.Fold.TheVariants.{Plus, Times, And, Or, Xor, Min, Max}
use Rattle.ot_check.specs.Offences.{Openings, opened_by_any}
use Rattle.ot_check.proofs.Bits.{true_or, or_right}

-- ---- the seven operations

abbrev every : List Operation
every = Plus ∷ Times ∷ And ∷ Or ∷ Xor ∷ Min ∷ Max ∷ []

any-told : (opened : Openings) (c : Cell) → opened_by_any opened c ≡ list_any (λ o. opened o c) every
unfolding opened_by_any
any-told opened c = refl

any-there : (test : Operation → Bool) (before : List Operation) (o : Operation) (later : List Operation) → test o ≡ true → list_any test (before ++ o ∷ later) ≡ true
any-there test [] o later h = true_or (test o) (list_any test later) h
any-there test (p ∷ before) o later h = or_right (test p) (list_any test (before ++ o ∷ later)) (any-there test before o later h)

any-every : (test : Operation → Bool) (o : Operation) → test o ≡ true → list_any test every ≡ true
any-every test Plus h = any-there test [] Plus (Times ∷ And ∷ Or ∷ Xor ∷ Min ∷ Max ∷ []) h
any-every test Times h = any-there test (Plus ∷ []) Times (And ∷ Or ∷ Xor ∷ Min ∷ Max ∷ []) h
any-every test And h = any-there test (Plus ∷ Times ∷ []) And (Or ∷ Xor ∷ Min ∷ Max ∷ []) h
any-every test Or h = any-there test (Plus ∷ Times ∷ And ∷ []) Or (Xor ∷ Min ∷ Max ∷ []) h
any-every test Xor h = any-there test (Plus ∷ Times ∷ And ∷ Or ∷ []) Xor (Min ∷ Max ∷ []) h
any-every test Min h = any-there test (Plus ∷ Times ∷ And ∷ Or ∷ Xor ∷ []) Min (Max ∷ []) h
any-every test Max h = any-there test (Plus ∷ Times ∷ And ∷ Or ∷ Xor ∷ Min ∷ []) Max [] h

-- ---- cells

-- the same groups
-- openings that are the same everywhere are one
pub openings-same : (one other : Openings) → ((o : Operation) (c : Cell) → one o c ≡ other o c) → one ≡ other
openings-same one other same = λ i o c. same o c i

pub opened-same : (one other : Openings) → ((o : Operation) (c : Cell) → one o c ≡ other o c) → (c : Cell) → opened_by_any one c ≡ opened_by_any other c
opened-same one other same c = ap (λ opened. opened_by_any opened c) (openings-same one other same)

-- a group by this operation names it
pub opened-by : (opened : Openings) (o : Operation) (c : Cell) → opened o c ≡ true → opened_by_any opened c ≡ true
opened-by opened o c h = any-told opened c ∙ any-every (λ o. opened o c) o h

unless : (a b : Bool) → (a ≡ true → b ≡ true) → b ≡ false → a ≡ false
unless true b to none = absurd (true≢false (sym (to refl) ∙ none))
unless false b to none = refl

-- no group names it
pub opened-none : (opened : Openings) (o : Operation) (c : Cell) → opened_by_any opened c ≡ false → opened o c ≡ false
opened-none opened o c none = unless (opened o c) (opened_by_any opened c) (opened-by opened o c) none

-- ---- one cell in two groups
