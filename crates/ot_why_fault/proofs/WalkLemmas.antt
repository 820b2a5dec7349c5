-- Entries one after the other, as a walk comes to them.
use Rattle.std.proofs.Common.{◌≡◌, ℕ, suc, ◌+◌, ◌-◌, ◌<◌, ◌≤◌, List, [], ◌∷◌, ◌++◌, length, get_or, drop, Option, Some, None, Result, Bor, refl, sym, ap, ◌∙◌, append-nil, add-one, arith}
use Rattle.std.specs.Prelude.{IfOk}
use Rattle.std.proofs.Math.Seq.{drop-cons}
use Rattle.std.proofs.lemmas.List.{drop_all}
use Rattle.serde_json.specs.Data.{Data}
use Rattle.serde_json.specs.View.{view, items_view}
use Rattle.serde_json.specs.declared.value.Value.{Value}
use Rattle.ot_model.specs.Programs.{Arrays}
use Rattle.ot_program.specs.Copies.{Placed, Copies, Done, Turn, at, turns, copies, copies_of, copy, in_order, in_copy}
use Rattle.ot_program.specs.Meanings.{Bindings, letters, size}
use Rattle.ot_program.specs.declared.profile.Profile.{Profile}
use Rattle.ot_why_place.specs.Texts.{text_by, text_at, copy_by}
use Rattle.ot_why_place.specs.declared.text.Text.{Text as CodeText}
use Rattle.ot_why_place.specs.declared.text.Text.TheVariants as t
use Rattle.ot_why_place.proofs.CopyLemmas.{copy_is}
use Rattle.ot_why_fault.specs.Whys.{whys_at, Why, short, after}
use Rattle.ot_why_fault.specs.Walk.{Walked, Passed, Met, unless_told, counts_placed, walk, in_bodies, walk_step}
use Rattle.ot_why_fault.specs.declared.find.Step.{Step}
use Rattle.ot_why_fault.specs.declared.own.Tally.{Tally as CodeTally}

-- a walk that came so far goes on through the rest
abbrev pub onward : Arrays → Walked → List Placed → Walked
onward shape (Passed n counts) ps = walk shape n counts ps
onward shape (Met n why) ps = Met n why

told-onward : (shape : Arrays) (told : Option Why) (n : ℕ) (w : Walked) (ps : List Placed)
    → onward shape (unless_told told n w) ps ≡ unless_told told n (onward shape w ps)
told-onward shape None n w ps = refl
told-onward shape (Some why) n w ps = refl

walk-append : (shape : Arrays) (n : ℕ) (counts : CodeTally) (xs ys : List Placed)
    → walk shape n counts (xs ++ ys) ≡ onward shape (walk shape n counts xs) ys
walk-append shape n counts [] ys = refl
walk-append shape n counts (p ∷ xs) ys =
    ap (unless_told (after None (whys_at shape (counts_placed shape counts p) p)) n) (walk-append shape (short (n + 1)) (counts_placed shape counts p) xs ys)
    ∙ sym (told-onward shape (after None (whys_at shape (counts_placed shape counts p) p)) n (walk shape (short (n + 1)) (counts_placed shape counts p) xs) ys)

-- on from where it came through the first of them
on : (shape : Arrays) (n : ℕ) (counts : CodeTally) (w : Walked) (xs ys all : List Placed) → all ≡ xs ++ ys → w ≡ walk shape n counts xs
    → walk shape n counts all ≡ onward shape w ys
on shape n counts w xs ys all is came = ap (walk shape n counts) is ∙ walk-append shape n counts xs ys ∙ ap (λ (v : Walked). onward shape v ys) (sym came)

pub seen_as : {E : Type 0} (r : Result Step E) (a b : Walked) → a ≡ b → IfOk r (λ step. walk_step step ≡ b) → IfOk r (λ step. walk_step step ≡ a)
seen_as r a b is h = rw is h

-- ---- the items of a body

pub items_on : (shape : Arrays) (profile : Profile) (level : ℕ) (variables : Bindings) (vs : List Value) (i : ℕ) (v : Value) (n : ℕ) (counts : CodeTally) (w : Walked)
    → i < length vs → v ≡ get_or vs i v → w ≡ walk shape n counts (in_copy (copy profile level (view v) variables))
    → walk shape n counts (in_order (copies_of profile level (items_view (drop i vs)) variables))
    ≡ onward shape w (in_order (copies_of profile level (items_view (drop (i + 1) vs)) variables))
unfolding copies_of
items_on shape profile level variables vs i v n counts w within is came =
    rw (drop-cons vs i v within, ← is, add-one) (on shape n counts w (in_copy (copy profile level (view v) variables)) _ _ refl came)

pub items_none : (shape : Arrays) (profile : Profile) (level : ℕ) (variables : Bindings) (vs : List Value) (i n : ℕ) (counts : CodeTally) → length vs ≤ i
    → walk shape n counts (in_order (copies_of profile level (items_view (drop i vs)) variables)) ≡ Passed n counts
unfolding copies_of
items_none shape profile level variables vs i n counts past = rw (drop_all i vs past) refl

-- ---- the turns of a loop

pub turns_on : (shape : Arrays) (level : ℕ) (variables : Bindings) (body : ℕ → Copies) (k behind n : ℕ) (counts : CodeTally) (w : Walked) → k < behind
    → w ≡ walk shape n counts (in_copy (at level variables Turn (body k) Done))
    → walk shape n counts (in_order (turns level variables body k (behind - k))) ≡ onward shape w (in_order (turns level variables body (k + 1) (behind - (k + 1))))
turns_on shape level variables body k behind n counts w below came =
    let left : behind - k ≡ suc (behind - (k + 1)) = omega arith in
    let next : k + 1 ≡ suc k = omega arith in
    rw (left, next) (on shape n counts w (in_copy (at level variables Turn (body k) Done)) _ _ refl came)

pub turns_none : (shape : Arrays) (level : ℕ) (variables : Bindings) (body : ℕ → Copies) (k behind n : ℕ) (counts : CodeTally) → behind ≤ k
    → walk shape n counts (in_order (turns level variables body k (behind - k))) ≡ Passed n counts
turns_none shape level variables body k behind n counts past =
    let left : behind - k ≡ 0 = omega arith in
    rw left refl

-- ---- statements with their bodies

pub if_on : (shape : Arrays) (defined : Profile) (level : ℕ) (variables : Bindings) (text : CodeText) (e a b : Bor Value) (n : ℕ) (counts : CodeTally) (w : Walked)
    → text ≡ t.If e a b → w ≡ walk shape n counts (in_order (copies defined (level + 1) (view a.now) variables))
    → walk shape n counts (in_bodies defined level variables (text_by defined text)) ≡ onward shape w (in_order (copies defined (level + 1) (view b.now) variables))
if_on shape defined level variables text e a b n counts w is came =
    rw is (on shape n counts w (in_order (copies defined (level + 1) (view a.now) variables)) _ _ refl came)

pub for_is : (shape : Arrays) (defined : Profile) (level : ℕ) (variables : Bindings) (text : CodeText) (a b c d : Bor Value) (name : List ℕ) (from behind n : ℕ) (counts : CodeTally)
    → text ≡ t.For a b c d → name ≡ letters (view a.now) → from ≡ size variables (view b.now) → behind ≡ size variables (view c.now)
    → walk shape n counts (in_bodies defined level variables (text_by defined text))
    ≡ walk shape n counts (in_order (turns level variables (λ k. copies defined (level + 1) (view d.now) ((name, k) ∷ variables)) from (behind - from)))
for_is shape defined level variables text a b c d name from behind n counts is named first last =
    let body : ℕ → Copies = λ k. copies defined (level + 1) (view d.now) ((letters (view a.now), k) ∷ variables) in
    let all : List Placed = in_order (turns level variables body (size variables (view b.now)) (size variables (view c.now) - size variables (view b.now))) in
    rw (is, named, first, last) (ap (walk shape n counts) {y = all} (append-nil all))

-- a statement, and then its bodies
pub statement_on : (shape : Arrays) (defined : Profile) (level : ℕ) (variables : Bindings) (d : Data) (text : CodeText) (n : ℕ) (counts : CodeTally) (w : Walked)
    → text_by defined text ≡ text_at defined d → w ≡ walk shape n counts (record { level = level; variables = variables; text = text_by defined text } ∷ [])
    → walk shape n counts (in_copy (copy defined level d variables)) ≡ onward shape w (in_bodies defined level variables (text_by defined text))
statement_on shape defined level variables d text n counts w is came =
    on shape n counts w (record { level = level; variables = variables; text = text_by defined text } ∷ []) _ _
    (ap in_copy (copy_is defined level variables d ∙ ap (copy_by defined level variables) (sym is))) came

-- an entry, and then a body alone
pub one_on : (shape : Arrays) (p : Placed) (ps : List Placed) (n : ℕ) (counts : CodeTally) (w : Walked) → w ≡ walk shape n counts (p ∷ [])
    → walk shape n counts (p ∷ (ps ++ [])) ≡ onward shape w ps
one_on shape p ps n counts w came = on shape n counts w (p ∷ []) ps _ (ap (λ (rest : List Placed). p ∷ rest) (append-nil ps)) came
