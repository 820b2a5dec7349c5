-- What `main` does, one after another: a loop by its index.
use Rattle.std.proofs.Common.{◌≡◌, ℕ, ◌+◌, ◌-◌, ◌<◌, ◌≤◌, List, [], ◌∷◌, length, drop, take, get_or, Result, Ok, Err, refl, sym, ap, subst, ◌∙◌, arith}
use Rattle.std.proofs.lemmas.List.{drop_all, length-drop, take_all}
use Rattle.ot_c_files.specs.declared.program.Step.{Step}
use Rattle.ot_c_files.specs.Program.{Act, step_of, main_of}
use Rattle.ot_c_scope.specs.declared.fault.CFault.{CFault}
use Rattle.ot_c_scope.specs.declared.fault.CFault.TheVariants as errors
use Rattle.ot_c_scope.specs.Results.{Refusal, FailsAs}
use Rattle.ot_c_arrays.proofs.EachLemmas.{front}
use Rattle.ot_c_program.specs.Statements.{Origin}
use Rattle.ot_c_program.specs.Regions.{SourceNames}
use Rattle.ot_c_program.specs.Files.{P, main_act, main_from}

-- a slice up to the end
behind_all : (ss : List Step) (i : ℕ) → take (length ss - (i + 1)) (drop (i + 1) ss) ≡ drop (i + 1) ss
behind_all ss i = take_all (length ss - (i + 1)) (drop (i + 1) ss) (omega (arith, length-drop (i + 1) ss))

viewed : (ss : List Step) (i : ℕ) (x : Step) → i < length ss → x ≡ get_or ss i x → main_of (drop i ss) ≡ step_of x ∷ main_of (drop (i + 1) ss)
viewed ss i x h is = ap main_of (front ss i x h is)

module _ (names : SourceNames) (o : Origin) where
  one_more : (p q : P) (a : Act) (acts : List Act) → main_act names o p a acts ≡ Ok q → main_from names o p (a ∷ acts) ≡ main_from names o q acts
  unfolding main_from
  one_more p q a acts is = rw is refl

  one_fails : (p : P) (a : Act) (acts : List Act) (e : Refusal) → main_act names o p a acts ≡ Err e → main_from names o p (a ∷ acts) ≡ Err e
  unfolding main_from
  one_fails p a acts e is = rw is refl

  none_left : (p : P) → main_from names o p [] ≡ Ok p
  unfolding main_from
  none_left p = refl

  pub main_more : (ss : List Step) (i : ℕ) (x : Step) (p q : P) (whole : Result P Refusal) → i < length ss → x ≡ get_or ss i x → main_from names o p (main_of (drop i ss)) ≡ whole
      → main_act names o p (step_of x) (main_of (take (length ss - (i + 1)) (drop (i + 1) ss))) ≡ Ok q → main_from names o q (main_of (drop (i + 1) ss)) ≡ whole
  main_more ss i x p q whole h at is done =
      let next : main_act names o p (step_of x) (main_of (drop (i + 1) ss)) ≡ Ok q = subst (λ rest. main_act names o p (step_of x) (main_of rest) ≡ Ok q) (behind_all ss i) done in
      sym (one_more p q (step_of x) (main_of (drop (i + 1) ss)) next) ∙ sym (ap (main_from names o p) (viewed ss i x h at)) ∙ is

  pub main_fails : (ss : List Step) (i : ℕ) (x : Step) (p : P) (whole : Result P Refusal) (e : CFault) → i < length ss → x ≡ get_or ss i x → main_from names o p (main_of (drop i ss)) ≡ whole
      → FailsAs e (main_act names o p (step_of x) (main_of (take (length ss - (i + 1)) (drop (i + 1) ss)))) → FailsAs e whole
  main_fails ss i x p whole errors.Memory h at is fails = tt
  main_fails ss i x p whole (errors.Outside left why) h at is fails =
      let next : main_act names o p (step_of x) (main_of (drop (i + 1) ss)) ≡ Err (left, why) = subst (λ rest. main_act names o p (step_of x) (main_of rest) ≡ Err (left, why)) (behind_all ss i) fails in
      sym is ∙ ap (main_from names o p) (viewed ss i x h at) ∙ one_fails p (step_of x) (main_of (drop (i + 1) ss)) (left, why) next

  pub main_last : (ss : List Step) (i : ℕ) (p : P) (whole : Result P Refusal) → length ss ≤ i → main_from names o p (main_of (drop i ss)) ≡ whole → whole ≡ Ok p
  main_last ss i p whole past is = sym is ∙ ap (λ xs. main_from names o p (main_of xs)) (drop_all i ss past) ∙ none_left p
