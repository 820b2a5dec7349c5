-- The first fault of an entry, and the first entry that has one.
use Rattle.std.proofs.Common.{◌≡◌, ℕ, ◌+◌, ◌≤◌, Bool, true, false, cond, List, [], ◌∷◌, ◌++◌, map, length, Option, Some, None, Bor, refl, sym, ap, ◌∙◌, arith, inl, inr}
use Rattle.std.specs.Prelude.{option_map}
use Rattle.std.specs.Option.{option_or, option_to_list}
use Rattle.std.proofs.lemmas.Bool.{cases_lt, le-ltb}
use Rattle.std.proofs.lemmas.List.{map-append, length-append}
use Rattle.serde_json.specs.Data.{Data}
use Rattle.serde_json.specs.View.{view}
use Rattle.serde_json.specs.declared.value.Value.{Value}
use Rattle.ot_model.specs.Programs.{Arrays}
use Rattle.ot_program.specs.Copies.{Text, IfText, ForText, TaskText, GroupText, GroupByText, ProgramText, Placed, Copy, At, Copies, Done, Then, in_copy, in_order}
use Rattle.ot_program.specs.Limits.{Tally, total, plus, own_tally}
use Rattle.ot_program.specs.Meanings.{Bindings}
use Rattle.ot_program.specs.Programs.{program_copy}
use Rattle.ot_program.specs.Requested.{ProgramForm, program_form}
use Rattle.ot_program.specs.declared.profile.Profile.{Profile}
use Rattle.ot_program.proofs.Tallies.{plus-nothing, total-append}
use Rattle.ot_why_place.specs.Spots.{Path, Spot, first_body, is_loop, spots, in_turns, in_body, program_spots}
use Rattle.ot_why_place.specs.Texts.{text_by}
use Rattle.ot_why_place.specs.declared.text.Text.{Text as CodeText}
use Rattle.ot_why_place.specs.declared.text.Text.TheVariants as t
use Rattle.ot_why_fault.specs.Whys.{counts_of, whys_past_limits, mixed_why, mixed_whys, whys_at, whys_behind, first_behind, first_among, first_in_program, Why, Mixed, long, short, earlier, after, whys_nested, text_whys}
use Rattle.ot_why_fault.specs.Walk.{counts_with, Walked, Passed, Met, unless_told, counts_placed, walk}
use Rattle.ot_why_mixed.specs.Mixed.{mixed_of}
use Rattle.ot_why_fault.specs.declared.own.Tally.{Tally as CodeTally}
use Rattle.ot_why_fault.proofs.AfterLemmas.{after-append}

-- ---- of some faults

-- where one was told there is one
some-after : (why : Why) (ws : List Why) → after (Some why) ws ≡ None → ⊥
some-after why [] is = cc
some-after why (w ∷ ws) is = some-after (earlier why w) ws is

pub none_after : (told : Option Why) (ws : List Why) → after told ws ≡ None → (told ≡ None) × (ws ≡ [])
none_after None [] is = (refl, refl)
none_after None (w ∷ ws) is = absurd (some-after w ws is)
none_after (Some why) ws is = absurd (some-after why ws is)

-- nothing is told after three lists: none of them has a fault
pub first_none : (a b : List Why) (t1 t2 : Option Why) → t1 ≡ after None a → t2 ≡ after t1 b → t2 ≡ None → a ≡ []
first_none a b t1 t2 one two none =
    let e = none_after t1 b (sym two ∙ none) in
    (none_after None a (sym one ∙ e.0)).1

pub told_three : (a b c : List Why) (t1 t2 t3 : Option Why) → t1 ≡ after None a → t2 ≡ after t1 b → t3 ≡ after t2 c → t3 ≡ after None (a ++ (b ++ c))
told_three a b c t1 t2 t3 one two three = rw (after-append None a (b ++ c), ← one, after-append t1 b c, ← two) three

-- a cell under `red` and otherwise is told behind all others
mixed_last : (why : Why) (name : List ℕ) (index : ℕ) → earlier why (Mixed name index) ≡ why
mixed_last why name index = grind arith

pub behind_others : (why : Why) (found : Option (List ℕ × ℕ)) → after (Some why) (option_to_list (option_map mixed_why found)) ≡ Some why
behind_others why None = refl
behind_others why (Some c) = ap Some (mixed_last why c.0 c.1)

pub told_already : (told : Option Why) (why : Why) (shape : Arrays) (variables : Bindings) (text : Text) → told ≡ Some why
    → Some why ≡ after told (mixed_whys shape variables text)
told_already told why shape variables (TaskText profile a b) is = rw is (sym (behind_others why (mixed_of shape profile variables a)))
told_already told why shape variables _ is = rw is refl

pub mixed_found : (shape : Arrays) (defined : Profile) (variables : Bindings) (text : CodeText) (a b : Bor Value) (cell : List ℕ × ℕ) → text ≡ t.Task a b
    → Some cell ≡ mixed_of shape defined variables (view a.now) → Some (mixed_why cell) ≡ after None (mixed_whys shape variables (text_by defined text))
mixed_found shape defined variables text a b cell is found = rw (is, ← found) refl

pub mixed_none : (shape : Arrays) (defined : Profile) (variables : Bindings) (text : CodeText) (a b : Bor Value) → text ≡ t.Task a b
    → None ≡ mixed_of shape defined variables (view a.now) → None ≡ after None (mixed_whys shape variables (text_by defined text))
mixed_none shape defined variables text a b is found = rw (is, ← found) refl

-- ---- levels as they are told

short-twice : (n : ℕ) → short (short n) ≡ short n
short-twice n = omega arith

nested-short : (n : ℕ) → whys_nested (short n) ≡ whys_nested n
nested-short n =
    elim (cases_lt n 16) [
      | inl few ↦ let e : short n ≡ n = omega (arith, few) in ap whys_nested e
      | inr many ↦
          let past : 16 ≤ short n = omega (arith, many) in
          rw (le-ltb (short n) 16 past, le-ltb n 16 many, short-twice n) refl
    ]

pub level_told : (shape : Arrays) (n : ℕ) (variables : Bindings) (text : Text) → text_whys shape (short n) variables text ≡ text_whys shape n variables text
level_told shape n variables (IfText a b c) = rw (nested-short n) refl
level_told shape n variables (ForText a b c d) = rw (nested-short n) refl
level_told shape n variables (TaskText profile a b) = rw (nested-short n) refl
level_told shape n variables (GroupText a b) = rw (nested-short n) refl
level_told shape n variables (GroupByText op a b) = rw (nested-short n) refl
level_told shape n variables (ProgramText a b) = rw (nested-short n) refl
level_told shape n variables _ = refl

-- ---- an entry, one step after the other

pub entry_is : (shape : Arrays) (whys_nested level : ℕ) (variables : Bindings) (text : Text) (t0 t1 t2 told : Option Why) (counts own with_own : CodeTally)
    → level ≡ short whys_nested → t0 ≡ None → t1 ≡ after t0 (text_whys shape level variables text) → own ≡ counts_of (own_tally shape variables text)
    → with_own ≡ counts_with counts own → t2 ≡ after t1 (whys_past_limits shape.tasks with_own)
    → ((t2 ≡ None → text_whys shape whys_nested variables text ≡ []) → told ≡ after t2 (mixed_whys shape variables text))
    → let p : Placed = record { level = whys_nested; variables = variables; text = text } in
    told ≡ after None (whys_at shape (counts_placed shape counts p) p)
entry_is shape whys_nested level variables text t0 t1 t2 told counts own with_own is none first own_is with_is past mixed =
    let whys : text_whys shape level variables text ≡ text_whys shape whys_nested variables text =
    ap (λ (n : ℕ). text_whys shape n variables text) is ∙ level_told shape whys_nested variables text in
    let one : t1 ≡ after None (text_whys shape whys_nested variables text) = first ∙ ap (λ (o : Option Why). after o (text_whys shape level variables text)) none
    ∙ ap (after None) whys in
    let sum : with_own ≡ counts_with counts (counts_of (own_tally shape variables text)) = with_is ∙ ap (counts_with counts) own_is in
    let two : t2 ≡ after t1 (whys_past_limits shape.tasks (counts_with counts (counts_of (own_tally shape variables text)))) =
    past ∙ ap (λ (n : CodeTally). after t1 (whys_past_limits shape.tasks n)) sum in
    told_three (text_whys shape whys_nested variables text) (whys_past_limits shape.tasks (counts_with counts (counts_of (own_tally shape variables text))))
    (mixed_whys shape variables text) t1 t2 told one two
    (mixed (λ no. first_none (text_whys shape whys_nested variables text) (whys_past_limits shape.tasks (counts_with counts (counts_of (own_tally shape variables text)))) t1 t2 one two no))

pub entry_met : (told : Option Why) (n : ℕ) (rest : Walked) (why : Why) → Some why ≡ told → Met n why ≡ unless_told told n rest
entry_met told n rest why is = rw (← is) refl

pub entry_passed : (told : Option Why) (n m next : ℕ) (more counts : CodeTally) → None ≡ told → m ≡ next → more ≡ counts
    → Passed m more ≡ unless_told told n (Passed next counts)
entry_passed told n m next more counts is one with_own = rw (← is, one, with_own) refl

-- ---- the entries are the spots of `ot_why_place`

abbrev pub placed_of : Spot → Placed
placed_of s = s.placed

either : (b : Bool) (xs ys : List Spot) (ps : List Placed) → map placed_of xs ≡ ps → map placed_of ys ≡ ps → map placed_of (cond b xs ys) ≡ ps
either true xs ys ps h k = h
either false xs ys ps h k = k

joined : (xs ys : List Spot) (ps qs : List Placed) → map placed_of xs ≡ ps → map placed_of ys ≡ qs → map placed_of (xs ++ ys) ≡ ps ++ qs
joined xs ys ps qs h k = map-append placed_of xs ys ∙ rw (h, k) refl

mutual
  copy_placed : (path : Path) (c : Copy) → map placed_of (spots path c) ≡ in_copy c
  copy_placed path (At p one two) =
      ap (λ (ps : List Placed). p ∷ ps)
      (joined (cond (is_loop p.text) (in_turns path one) (in_body (path ++ first_body p.text ∷ []) 0 one)) (in_body (path ++ 3 ∷ []) 0 two) (in_order one) (in_order two)
      (either (is_loop p.text) (in_turns path one) (in_body (path ++ first_body p.text ∷ []) 0 one) (in_order one)
      (turns_placed path one) (body_placed (path ++ first_body p.text ∷ []) 0 one))
      (body_placed (path ++ 3 ∷ []) 0 two))

  turns_placed : (path : Path) (cs : Copies) → map placed_of (in_turns path cs) ≡ in_order cs
  turns_placed path Done = refl
  turns_placed path (Then c rest) = joined (spots path c) (in_turns path rest) (in_copy c) (in_order rest) (copy_placed path c) (turns_placed path rest)

  body_placed : (path : Path) (index : ℕ) (cs : Copies) → map placed_of (in_body path index cs) ≡ in_order cs
  body_placed path index Done = refl
  body_placed path index (Then c rest) =
      joined (spots (path ++ index ∷ []) c) (in_body path (index + 1) rest) (in_copy c) (in_order rest)
      (copy_placed (path ++ index ∷ []) c) (body_placed path (index + 1) rest)

-- ---- the first entry

abbrev pub met_in : Walked → Option (ℕ × Why)
met_in (Passed n counts) = None
met_in (Met n why) = Some (n, why)

met_by : (told : Option Why) (n : ℕ) (w : Walked) (rest : Option (ℕ × Why)) → met_in w ≡ rest
    → met_in (unless_told told n w) ≡ option_or (option_map (λ why. (n, why)) told) rest
met_by None n w rest h = h
met_by (Some why) n w rest h = refl

long-sum : (a b : ℕ) → long (long a + long b) ≡ long (a + b)
long-sum a b = omega arith

counts-plus : (n m : Tally) → counts_with (counts_of n) (counts_of m) ≡ counts_of (plus n m)
counts-plus n m =
    rw (long-sum n.statements m.statements, long-sum n.tasks m.tasks, long-sum n.turns m.turns, long-sum n.nodes m.nodes, long-sum n.cells m.cells) refl

counted-one : (shape : Arrays) (before : List Placed) (p : Placed)
    → counts_placed shape (counts_of (total shape before)) p ≡ counts_of (total shape (before ++ p ∷ []))
counted-one shape before p =
    counts-plus (total shape before) (own_tally shape p.variables p.text)
    ∙ ap counts_of (ap (plus (total shape before)) (sym (plus-nothing (own_tally shape p.variables p.text))) ∙ sym (total-append shape before (p ∷ [])))

short-one : (before : List Placed) (p : Placed) → short (short (length before) + 1) ≡ short (length (before ++ p ∷ []))
short-one before p = omega (arith, length-append before (p ∷ []))

walk_first : (shape : Arrays) (before ps : List Placed)
    → met_in (walk shape (short (length before)) (counts_of (total shape before)) ps) ≡ first_behind shape before ps
walk_first shape before [] = refl
walk_first shape before (p ∷ ps) =
    let told : Option Why = after None (whys_behind shape before p) in
    let n : ℕ = short (length before) in
    let rest : Walked = walk shape (short (length (before ++ p ∷ []))) (counts_of (total shape (before ++ p ∷ []))) ps in
    ap (λ (counts : CodeTally). met_in (unless_told (after None (whys_at shape counts p)) n (walk shape (short (n + 1)) counts ps))) (counted-one shape before p)
    ∙ ap (λ (m : ℕ). met_in (unless_told told n (walk shape m (counts_of (total shape (before ++ p ∷ []))) ps))) (short-one before p)
    ∙ met_by told n rest (first_behind shape (before ++ p ∷ []) ps) (walk_first shape (before ++ p ∷ []) ps)

pub program_placed : (shape : Arrays) (program : Data) (f : ProgramForm)
    → first_among shape program (map placed_of (program_spots f)) ≡ first_behind shape [] (in_copy (program_copy f.profile f.shows f.body))
program_placed shape program f = ap (first_among shape program) (copy_placed (1 ∷ []) (program_copy f.profile f.shows f.body))

pub first_walked : (shape : Arrays) (program : Data) (f : ProgramForm) (w : Walked) → program_form program ≡ Some f
    → w ≡ walk shape 0 (counts_of (total shape [])) (in_copy (program_copy f.profile f.shows f.body)) → met_in w ≡ first_in_program shape program
first_walked shape program f w is walked =
    rw is (ap met_in walked ∙ walk_first shape [] (in_copy (program_copy f.profile f.shows f.body)) ∙ sym (program_placed shape program f))
