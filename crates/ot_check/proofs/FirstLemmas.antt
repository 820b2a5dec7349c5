-- The first offence, as the one value that is the first.
use Rattle.std.proofs.Common.{◌≡◌, ◌<◌, ◌≤◌, ◌⊎◌, ℕ, zero, suc, refl, sym, ap, inl, inr, ◌∙◌, arith}
use Rattle.std.specs.Prelude.{Option, Some, None}
use Rattle.ot_model.specs.Tree.{Body}
use Rattle.ot_check.specs.Offences.{Offends, IsFirstOf, rank}
use Rattle.ot_check.specs.Laws.{first_offence}
use Rattle.ot_check.specs.declared.fault.Offence.{Offence}
use Rattle.ot_check.specs.declared.fault.Offence.TheVariants.{NotDeclared, ChildBeyond, ReductionMisuse, ConflictsWithChild, EndsWithChildren}
use Rattle.ot_check.proofs.PathsMet.{first-is_first}

-- ---- ranks tell offences

abbrev ranked : ℕ → Offence
ranked zero = NotDeclared
ranked (suc zero) = ChildBeyond
ranked (suc (suc zero)) = ReductionMisuse
ranked (suc (suc (suc zero))) = ConflictsWithChild
ranked (suc (suc (suc (suc n)))) = EndsWithChildren

ranked-rank : (offence : Offence) → ranked (rank offence) ≡ offence
ranked-rank NotDeclared = refl
ranked-rank ChildBeyond = refl
ranked-rank ReductionMisuse = refl
ranked-rank ConflictsWithChild = refl
ranked-rank EndsWithChildren = refl

same_rank : (one other : Offence) → rank one ≡ rank other → one ≡ other
same_rank one other h = sym (ranked-rank one) ∙ ap ranked h ∙ ranked-rank other

-- ---- there is one first

abbrev Before : ℕ × Offence → ℕ × Offence → Type 0
Before f g = (f.0 < g.0) ⊎ ((f.0 ≡ g.0) × (rank f.1 ≤ rank g.1))

both_before : (f g : ℕ × Offence) → Before f g → Before g f → f ≡ g
both_before f g (inl p) (inl q) = absurd (omega (arith, p, q))
both_before f g (inl p) (inr q) = absurd (omega (arith, p, q.0))
both_before f g (inr p) (inl q) = absurd (omega (arith, p.0, q))
both_before f g (inr p) (inr q) =
    let ranks : rank f.1 ≡ rank g.1 = omega (arith, p.1, q.1) in
    ap (λ place. (place, f.1)) p.0 ∙ ap (λ offence. (g.0, offence)) (same_rank f.1 g.1 ranks)

one_first : (Holds : ℕ → Offence → Type 0) (f g : Option (ℕ × Offence)) → IsFirstOf Holds f → IsFirstOf Holds g → f ≡ g
one_first Holds None None hf hg = refl
one_first Holds None (Some g) hf hg = absurd (hf g.0 g.1 hg.0)
one_first Holds (Some f) None hf hg = absurd (hg f.0 f.1 hf.0)
one_first Holds (Some f) (Some g) hf hg = ap Some (both_before f g (hf.1 g.0 g.1 hg.0) (hg.1 f.0 f.1 hf.0))

pub first_offence-is_first : (b : Body) → IsFirstOf (Offends b) (first_offence b)
unfolding first_offence
first_offence-is_first b = first-is_first b

pub first_offence-only : (b : Body) (told : Option (ℕ × Offence)) → IsFirstOf (Offends b) told → told ≡ first_offence b
first_offence-only b told h = one_first (Offends b) told (first_offence b) h (first_offence-is_first b)
