-- A loop over the parts of one statement.
use Rattle.std.proofs.Common.{◌≡◌, ℕ, ◌+◌, ◌<◌, ◌≤◌, List, [], ◌∷◌, ◌++◌, length, get_or, drop, Result, Ok, Err, refl, sym, ap, ◌∙◌, append_assoc, add-one, arith, inl, inr}
use Rattle.std.proofs.Math.Seq.{drop-cons}
use Rattle.std.proofs.lemmas.Bool.{cases_lt, lt-ltb, le-ltb}
use Rattle.serde_json.specs.Data.{Data}
use Rattle.serde_json.specs.View.{view, items_view}
use Rattle.serde_json.specs.declared.value.Value.{Value}
use Rattle.ot_program.specs.declared.fault.Refusal.{Refusal}
use Rattle.ot_program.specs.Faults.{rank, least}
use Rattle.ot_program.specs.walk.Reading.{◌>>=◌, both_of, each_of}
use Rattle.ot_program.specs.walk.Together.{with_part}

-- ---- of three faults

pub least-lt : (c d : Refusal) → rank d < rank c → least c d ≡ d
least-lt c d below = rw (lt-ltb (rank d) (rank c) below) refl

pub least-le : (c d : Refusal) → rank c ≤ rank d → least c d ≡ c
least-le c d within = rw (le-ltb (rank d) (rank c) within) refl

pub least-least : (b c d : Refusal) → least (least b c) d ≡ least b (least c d)
least-least b c d =
    elim (cases_lt (rank c) (rank b)) [
      | inl c_first ↦ elim (cases_lt (rank d) (rank c)) [
        | inl d_first ↦
            ap (λ (x : Refusal). least x d) (least-lt b c c_first) ∙ least-lt c d d_first
            ∙ sym (ap (least b) (least-lt c d d_first) ∙ least-lt b d (omega arith))
        | inr c_before ↦
            ap (λ (x : Refusal). least x d) (least-lt b c c_first) ∙ least-le c d c_before
            ∙ sym (ap (least b) (least-le c d c_before) ∙ least-lt b c c_first)
      ]
      | inr b_before ↦ elim (cases_lt (rank d) (rank c)) [
        | inl d_first ↦
            ap (λ (x : Refusal). least x d) (least-le b c b_before) ∙ sym (ap (least b) (least-lt c d d_first))
        | inr c_before ↦
            ap (λ (x : Refusal). least x d) (least-le b c b_before) ∙ least-le b d (omega arith)
            ∙ sym (ap (least b) (least-le c d c_before) ∙ least-le b c b_before)
      ]
    ]

-- ---- the loop

-- one list of parts, then another
abbrev pub then_more : {A : Type 0} → Result (List A) Refusal → Result (List A) Refusal → Result (List A) Refusal
then_more front rest = both_of front rest >>= λ p. Ok (p.0 ++ p.1)

-- a part more in front is one less behind
then_more-with_part : {A : Type 0} (front : Result (List A) Refusal) (one : Result A Refusal) (rest : Result (List A) Refusal)
    → then_more (with_part front one) rest ≡ then_more front (both_of one rest >>= λ p. Ok (p.0 ∷ p.1))
then_more-with_part (Ok parts) (Ok x) (Ok xs) = ap Ok (append_assoc parts (x ∷ []) xs)
then_more-with_part (Ok parts) (Ok x) (Err d) = refl
then_more-with_part (Ok parts) (Err c) (Ok xs) = refl
then_more-with_part (Ok parts) (Err c) (Err d) = refl
then_more-with_part (Err b) (Ok x) (Ok xs) = refl
then_more-with_part (Err b) (Ok x) (Err d) = refl
then_more-with_part (Err b) (Err c) (Ok xs) = refl
then_more-with_part (Err b) (Err c) (Err d) = ap Err (least-least b c d)

-- the list of values that is left from an index on
each_of-drop : {A : Type 0} (read : Data → Result A Refusal) (front : Result (List A) Refusal) (vs : List Value) (i : ℕ) (v : Value)
    → i < length vs → v ≡ get_or vs i v
    → then_more front (both_of (read (view v)) (each_of read (items_view (drop (i + 1) vs))) >>= λ p. Ok (p.0 ∷ p.1))
    ≡ then_more front (each_of read (items_view (drop i vs)))
each_of-drop read front vs i v within is = rw (drop-cons vs i v within, ← is, add-one) refl

-- a value was read, and what it gave put behind the others
pub part_put : {A : Type 0} (read : Data → Result A Refusal) (front : Result (List A) Refusal) (vs : List Value) (i : ℕ) (v : Value) (whole : Result (List A) Refusal)
    → i < length vs → v ≡ get_or vs i v
    → then_more front (each_of read (items_view (drop i vs))) ≡ whole
    → then_more (with_part front (read (view v))) (each_of read (items_view (drop (i + 1) vs))) ≡ whole
part_put read front vs i v whole within is h = then_more-with_part front (read (view v)) _ ∙ each_of-drop read front vs i v within is ∙ h
