-- What a program is refused for is what is told of its first fault.
use Rattle.std.proofs.Common.{◌≡◌, ℕ, ◌^◌, ◌<◌, Bool, true, false, cond, List, [], ◌∷◌, ◌++◌, map, length, Option, Some, None, refl, sym, ap, ◌∙◌, append_assoc, arith, inl, inr}
use Rattle.std.specs.Prelude.{nat_lt, nat_le, option_map, unwrap_or, fold}
use Rattle.std.specs.Option.{option_or}
use Rattle.std.proofs.lemmas.Bool.{cases_lt, lt-leb}
use Rattle.std.proofs.lemmas.List.{map-append}
use Rattle.serde_json.specs.Data.{Data, array, no_items, item}
use Rattle.ot_model.specs.Programs.{Expanded, Arrays}
use Rattle.ot_program.specs.Copies.{Placed, in_copy}
use Rattle.ot_program.specs.Faults as told
use Rattle.ot_program.specs.Limits.{max_statements, max_turns, max_nodes, max_cells, Tally, total}
use Rattle.ot_program.specs.Meanings.{profile_of}
use Rattle.ot_program.specs.Programs.{foremost, faults_behind, fault_told as refusal_told, told_or, program_copy, program_in, program_of}
use Rattle.ot_program.specs.Faults.{rank, least}
use Rattle.ot_program.specs.Requested.{form}
use Rattle.ot_program.specs.declared.fault.Refusal.{Refusal}
use Rattle.ot_program.specs.declared.profile.Profile.{Profile}
use Rattle.ot_program.proofs.Firsts.{first_of, foremost_is, merged, first-append}
use Rattle.ot_program.proofs.StatementsRead.{first-swap}
use Rattle.ot_why_place.specs.Spots.{program_spots}
use Rattle.ot_why_fault.specs.Whys.{counts_of, whys_past_limits, mixed_whys, whys_behind, first_behind, first_among, first_why, Why, long, short, refusal_of, earlier, after, text_whys}
use Rattle.ot_why_fault.specs.Laws.{refusal_of_program}
use Rattle.ot_why_fault.proofs.FirstLemmas.{placed_of, program_placed}
use Rattle.ot_why_fault.proofs.RefusalLemmas.{Are, unless_is, text_is}

-- ---- counts past their limits

le-long : (n max : ℕ) → max < 2 ^ 32 → nat_le (long n) max ≡ nat_le n max
le-long n max small =
    elim (cases_lt max n) [
      | inl past ↦ lt-leb (long n) max (omega (arith, past, small)) ∙ sym (lt-leb n max past)
      | inr within ↦ let e : long n ≡ n = omega (arith, within, small) in ap (λ (m : ℕ). nat_le m max) e
    ]

limits_are : (shape : Arrays) (n : Tally) → shape.tasks < 2 ^ 32 → Are (whys_past_limits shape.tasks (counts_of n)) (told.past_limits shape.tasks n)
limits_are shape n small =
    rw (
      ← le-long n.statements max_statements (omega arith),
      ← le-long n.turns max_turns (omega arith),
      ← le-long n.nodes max_nodes (omega arith),
      ← le-long n.cells max_cells (omega arith),
      ← le-long n.tasks shape.tasks small,
    ) (simp (unless_is, map-append))

-- ---- of some faults the first

earlier_is : (v w : Why) → refusal_of (earlier v w) ≡ least (refusal_of v) (refusal_of w)
earlier_is v w = by (nat_lt (rank (refusal_of w)) (rank (refusal_of v)))
  where
    by : (b : Bool) → refusal_of (cond b w v) ≡ cond b (refusal_of w) (refusal_of v)
    by true = refl
    by false = refl

after_some : (v : Why) (ws : List Why) → option_map refusal_of (after (Some v) ws) ≡ Some (fold least (refusal_of v) (map refusal_of ws))
after_some v [] = refl
after_some v (w ∷ ws) = after_some (earlier v w) ws ∙ ap (λ (c : Refusal). Some (fold least c (map refusal_of ws))) (earlier_is v w)

after_foremost : (ws : List Why) → option_map refusal_of (after None ws) ≡ foremost (map refusal_of ws)
after_foremost [] = refl
after_foremost (w ∷ ws) = after_some w ws

-- ---- entry after entry

same_foremost : (a m p : List Refusal) → foremost (a ++ (p ++ m)) ≡ foremost ((a ++ m) ++ p)
same_foremost a m p =
    foremost_is (a ++ (p ++ m)) ∙ first-append a (p ++ m) ∙ ap (merged (first_of a)) (first-swap p m) ∙ sym (first-append a (m ++ p))
    ∙ ap first_of (sym (append_assoc a m p)) ∙ sym (foremost_is ((a ++ m) ++ p))

entry_told : (shape : Arrays) (before : List Placed) (p : Placed) → shape.tasks < 2 ^ 32
    → option_map refusal_of (after None (whys_behind shape before p)) ≡ foremost (faults_behind shape before p)
entry_told shape before p small =
    let text = text_whys shape p.level p.variables p.text in
    let mixed = mixed_whys shape p.variables p.text in
    let n = total shape (before ++ p ∷ []) in
    let past = whys_past_limits shape.tasks (counts_of n) in
    let own = text_is shape p.level p.variables p.text in
    after_foremost (text ++ (past ++ mixed))
    ∙ ap foremost (map-append refusal_of text (past ++ mixed) ∙ ap (λ (fs : List Refusal). map refusal_of text ++ fs) (map-append refusal_of past mixed))
    ∙ same_foremost (map refusal_of text) (map refusal_of mixed) (map refusal_of past)
    ∙ ap (λ (fs : List Refusal). foremost (fs ++ map refusal_of past)) (sym (map-append refusal_of text mixed) ∙ own)
    ∙ ap (λ (fs : List Refusal). foremost (told.own_faults shape p ++ fs)) (limits_are shape n small)

abbrev told_of : ℕ × Why → Refusal
told_of found = refusal_of found.1

first_told_by : (n : ℕ) (o : Option Why) (c : Option Refusal) (rest : Option (ℕ × Why)) (others : Option Refusal) → option_map refusal_of o ≡ c
    → option_map told_of rest ≡ others → option_map told_of (option_or (option_map (λ why. (n, why)) o) rest) ≡ option_or c others
first_told_by n None c rest others h k = rw (← h) k
first_told_by n (Some why) c rest others h k = rw (← h) refl

first_told : (shape : Arrays) (before ps : List Placed) → shape.tasks < 2 ^ 32
    → option_map told_of (first_behind shape before ps) ≡ refusal_told shape before ps
first_told shape before [] small = refl
first_told shape before (p ∷ ps) small =
    first_told_by (short (length before)) (after None (whys_behind shape before p)) (foremost (faults_behind shape before p)) _ _
    (entry_told shape before p small) (first_told shape (before ++ p ∷ []) ps small)

refused_or : (x : Expanded) (o : Option Refusal) → refusal_of_program (told_or x o) ≡ o
refused_or x None = refl
refused_or x (Some c) = refl

refused_by : (shape : Arrays) (program a b : Data) → shape.tasks < 2 ^ 32 → (o : Option Profile)
    → option_map told_of (first_among shape program (map placed_of (unwrap_or (option_map program_spots (option_map (form a b) o)) []))) ≡ refusal_of_program (program_in shape o a b)
refused_by shape program a b small None = refl
refused_by shape program a b small (Some profile) =
    ap (option_map told_of) (program_placed shape program (form a b profile))
    ∙ first_told shape [] (in_copy (program_copy profile a b)) small
    ∙ sym (refused_or _ (refusal_told shape [] (in_copy (program_copy profile a b))))

pub first_is : (shape : Arrays) (run program : Data) → shape.tasks < 2 ^ 32
    → option_map told_of (first_why shape (array (item run (item program no_items)))) ≡ refusal_of_program (program_of shape program)
first_is shape run (array (item t (item a (item b no_items)))) small = refused_by shape (array (item t (item a (item b no_items)))) a b small (profile_of t)
first_is shape run _ small = refl
