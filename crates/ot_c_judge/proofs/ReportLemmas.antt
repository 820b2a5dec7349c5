-- What is written, put together of its parts.
use Rattle.std.proofs.Common.{◌≡◌, ℕ, List, [], ◌∷◌, ◌++◌, length, refl, ap, ◌∙◌, subst}
use Rattle.std.specs.Prelude.{None, Result, Ok, Err, IfOk}
use Rattle.serde_json.specs.Data.{Data}
use Rattle.ot_model.specs.Cells.{lengths}
use Rattle.ot_model.specs.Programs.{Expanded, array_lengths}
use Rattle.ot_check.specs.declared.fault.Offence.{Offence}
use Rattle.ot_check.specs.declared.fault.Offence.TheVariants.{NotDeclared, ChildBeyond, ReductionMisuse, ConflictsWithChild, EndsWithChildren}
use Rattle.ot_race_order.specs.declared.order.Order.{Order}
use Rattle.ot_program.specs.declared.fault.Refusal.{Refusal}
use Rattle.ot_c_judge.specs.Start.{shape_of, starting_cells}
use Rattle.ot_c_judge.specs.Sites.{Source}
use Rattle.ot_c_judge.specs.Lacks.{lacks_by}
use Rattle.ot_c_judge.specs.Reports.{ReportsRead, Told}
use Rattle.ot_c_names.specs.Arrays.{initial_cells}
use Rattle.ot_c_names.specs.declared.array.CArray.{CArray}

pub if_both : {A E : Type 0} (r : Result A E) (P Q R : A → Type 0) → ((x : A) → P x → Q x → R x) → IfOk r P → IfOk r Q → IfOk r R
if_both (Ok x) P Q R f h k = f x h k
if_both (Err e) P Q R f h k = h

pub same_lengths : (arrays : List CArray) → lengths (starting_cells arrays) ≡ array_lengths (shape_of arrays)
same_lengths [] = refl
same_lengths (a ∷ others) = ap (λ ls. length (initial_cells a) ∷ ls) (same_lengths others)

pub none_lacks : (offence : Offence) → lacks_by offence None ≡ None
none_lacks NotDeclared = refl
none_lacks ChildBeyond = refl
none_lacks ReductionMisuse = refl
none_lacks ConflictsWithChild = refl
none_lacks EndsWithChildren = refl

abbrev pub source : List ℕ → List ℕ → Order → Data → List (List ℕ × ℕ) → List ℕ → Source
source name text order request arrays bytes = record { name = name; text = text; request = request; arrays = arrays; bytes = bytes; order = order }

pub same_source : (name text : List ℕ) (o : Order) (d e : Data) (a b : List (List ℕ × ℕ)) (m n : List ℕ) → d ≡ e → a ≡ b → m ≡ n → source name text o d a m ≡ source name text o e b n
same_source name text o d e a b m n p q r = ap (λ x. source name text o x a m) p ∙ ap (λ x. source name text o e x m) q ∙ ap (λ x. source name text o e b x) r

pub same_reports : (s z : Source) (cells start : List (List ℕ)) (r q : Result Expanded Refusal) (told : Told) → s ≡ z → cells ≡ start → r ≡ q
    → ReportsRead s cells r told → ReportsRead z start q told
same_reports s z cells start r q told same begun is h =
    subst (λ x. ReportsRead z start x told) is (subst (λ c. ReportsRead z c r told) begun (subst (λ y. ReportsRead y cells r told) same h))
