-- What is met in bodies and turns, one after the other, and in the items of clauses.
use Rattle.std.proofs.Common.{◌≡◌, ℕ, suc, Bool, ◌+◌, ◌-◌, ◌<◌, ◌≤◌, List, [], ◌∷◌, ◌++◌, map, length, get_or, drop, refl, sym, ap, ◌∙◌, add-one, append_assoc, append-nil, arith, Bor}
use Rattle.std.proofs.Math.Seq.{drop-cons}
use Rattle.std.proofs.lemmas.List.{drop_all, map-append}
use Rattle.serde_json.specs.Data.{Data}
use Rattle.serde_json.specs.View.{view, items_view}
use Rattle.serde_json.specs.declared.value.Value.{Value}
use Rattle.ot_program.specs.Copies.{Copies, Done, Turn, at, turns, copies, copies_of, copy}
use Rattle.ot_program.specs.Meanings.{Bindings, each, letters, size}
use Rattle.ot_program.specs.declared.profile.Profile.{Profile}
use Rattle.ot_why_place.specs.Texts.{text_by, text_at, first_copies, second_copies, copy_by}
use Rattle.ot_why_place.specs.declared.text.Text.{Text as CodeText}
use Rattle.ot_why_place.specs.declared.text.Text.TheVariants as t
use Rattle.ot_why_place.proofs.CopyLemmas.{copy_is}
use Rattle.ot_c_overlap.specs.Items.{Ground, ListItem, Met, each_cell, met_at, met_one, items_met_in, task_of, section_as, sections_among}
use Rattle.ot_c_overlap.specs.declared.item.Item.{Item}

-- ---- the items of a body

pub items_next : (ground : Ground) (profile : Profile) (level : ℕ) (variables : Bindings) (parent : ℕ) (vs : List Value) (i : ℕ) (v : Value) (m : Met)
    → i < length vs → v ≡ get_or vs i v
    → items_met_in ground parent (copies_of profile level (items_view (drop i vs)) variables) m
    ≡ items_met_in ground parent (copies_of profile level (items_view (drop (i + 1) vs)) variables) (met_one ground parent (copy profile level (view v) variables) m)
unfolding copies_of
items_next ground profile level variables parent vs i v m within is = rw (drop-cons vs i v within, ← is, add-one) refl

pub items_none : (ground : Ground) (profile : Profile) (level : ℕ) (variables : Bindings) (parent : ℕ) (vs : List Value) (i : ℕ) (m : Met)
    → length vs ≤ i → items_met_in ground parent (copies_of profile level (items_view (drop i vs)) variables) m ≡ m
unfolding copies_of
items_none ground profile level variables parent vs i m past = rw (drop_all i vs past) refl

-- ---- the turns of a loop

pub turns_next : (ground : Ground) (parent level : ℕ) (variables : Bindings) (body : ℕ → Copies) (k behind : ℕ) (m : Met) → k < behind
    → items_met_in ground parent (turns level variables body k (behind - k)) m
    ≡ items_met_in ground parent (turns level variables body (k + 1) (behind - (k + 1))) (met_one ground parent (at level variables Turn (body k) Done) m)
turns_next ground parent level variables body k behind m below =
    let left : behind - k ≡ suc (behind - (k + 1)) = omega arith in
    let next : k + 1 ≡ suc k = omega arith in
    rw (left, next) refl

pub turns_none : (ground : Ground) (parent level : ℕ) (variables : Bindings) (body : ℕ → Copies) (k behind : ℕ) (m : Met) → behind ≤ k
    → items_met_in ground parent (turns level variables body k (behind - k)) m ≡ m
turns_none ground parent level variables body k behind m past =
    let left : behind - k ≡ 0 = omega arith in
    rw left refl

-- ---- a statement, and then its bodies

pub statement_is : (ground : Ground) (defined : Profile) (level : ℕ) (variables : Bindings) (parent : ℕ) (d : Data) (text : CodeText) (m : Met)
    → text_by defined text ≡ text_at defined d
    → met_one ground parent (copy defined level d variables) m
    ≡ items_met_in ground (task_of parent m.entries (text_by defined text)) (second_copies defined level variables (text_by defined text))
    (items_met_in ground (task_of parent m.entries (text_by defined text)) (first_copies defined level variables (text_by defined text))
    (met_at ground parent (record { level = level; variables = variables; text = text_by defined text }) m))
statement_is ground defined level variables parent d text m is =
    ap (λ c. met_one ground parent c m) (copy_is defined level variables d ∙ ap (copy_by defined level variables) (sym is))

-- ---- clauses

pub clauses_next : (ground : Ground) (variables : Bindings) (f : ListItem → Item) (vs : List Value) (i : ℕ) (v : Value) (before now all : List Item)
    → i < length vs → v ≡ get_or vs i v → now ≡ before ++ map f (section_as ground variables (view v))
    → before ++ map f (sections_among ground variables (each (items_view (drop i vs)))) ≡ all
    → now ++ map f (sections_among ground variables (each (items_view (drop (i + 1) vs)))) ≡ all
clauses_next ground variables f vs i v before now all within is noted h =
    let more = sections_among ground variables (each (items_view (drop (i + 1) vs))) in
    let next : sections_among ground variables (each (items_view (drop i vs))) ≡ section_as ground variables (view v) ++ more =
    rw (drop-cons vs i v within, ← is, add-one) refl in
    ap (λ xs. xs ++ map f more) noted ∙ append_assoc before (map f (section_as ground variables (view v))) (map f more)
    ∙ ap (λ xs. before ++ xs) (sym (map-append f (section_as ground variables (view v)) more))
    ∙ ap (λ ss. before ++ map f ss) (sym next) ∙ h

pub clauses_end : (ground : Ground) (variables : Bindings) (f : ListItem → Item) (vs : List Value) (i : ℕ) (now all : List Item)
    → length vs ≤ i → now ++ map f (sections_among ground variables (each (items_view (drop i vs)))) ≡ all → now ≡ all
clauses_end ground variables f vs i now all past h =
    let none : sections_among ground variables (each (items_view (drop i vs))) ≡ [] = rw (drop_all i vs past) refl in
    sym (append-nil now) ∙ ap (λ ss. now ++ map f ss) (sym none) ∙ h

-- ---- cells one by one

pub cells_next : (f : ListItem → Item) (writing : Bool) (a start index behind : ℕ) (before now all : List Item) → index < behind → start ≡ index
    → now ≡ before ++ f (writing, record { array = a; start = start; len = 1 }) ∷ []
    → before ++ map f (each_cell writing a index (behind - index)) ≡ all
    → now ++ map f (each_cell writing a (index + 1) (behind - (index + 1))) ≡ all
cells_next f writing a start index behind before now all below same noted h =
    let left : behind - index ≡ suc (behind - (index + 1)) = omega arith in
    let rest = map f (each_cell writing a (index + 1) (behind - (index + 1))) in
    let at : ℕ → Item = λ k. f (writing, record { array = a; start = k; len = 1 }) in
    ap (λ xs. xs ++ rest) noted ∙ append_assoc before (at start ∷ []) rest ∙ ap (λ k. before ++ (at k ∷ rest)) same
    ∙ ap (λ n. before ++ map f (each_cell writing a index n)) (sym left) ∙ h

pub cells_end : (f : ListItem → Item) (writing : Bool) (a index behind : ℕ) (now all : List Item) → behind ≤ index
    → now ++ map f (each_cell writing a index (behind - index)) ≡ all → now ≡ all
cells_end f writing a index behind now all past h =
    let none : behind - index ≡ 0 = omega arith in
    sym (append-nil now) ∙ ap (λ n. now ++ map f (each_cell writing a index n)) (sym none) ∙ h

-- ---- what is met, put together

pub statement_met : (ground : Ground) (defined : Profile) (level : ℕ) (variables : Bindings) (parent : ℕ) (d : Data) (text : CodeText) (task : ℕ) (old mid new : Met)
    → text_by defined text ≡ text_at defined d → task ≡ task_of parent old.entries (text_by defined text)
    → mid ≡ met_at ground parent (record { level = level; variables = variables; text = text_by defined text }) old
    → new ≡ items_met_in ground task (second_copies defined level variables (text_by defined text)) (items_met_in ground task (first_copies defined level variables (text_by defined text)) mid)
    → new ≡ met_one ground parent (copy defined level d variables) old
statement_met ground defined level variables parent d text task old mid new is task_is mid_is new_is =
    let one = first_copies defined level variables (text_by defined text) in
    let two = second_copies defined level variables (text_by defined text) in
    let first = met_at ground parent (record { level = level; variables = variables; text = text_by defined text }) old in
    new_is ∙ ap (λ m. items_met_in ground task two (items_met_in ground task one m)) mid_is
    ∙ ap (λ k. items_met_in ground k two (items_met_in ground k one first)) task_is
    ∙ sym (statement_is ground defined level variables parent d text old is)

pub for_met : (ground : Ground) (defined : Profile) (level : ℕ) (variables : Bindings) (task : ℕ) (text : CodeText) (a b c d : Bor Value) (name : List ℕ) (first behind : ℕ) (m : Met)
    → text ≡ t.For a b c d → name ≡ letters (view a.now) → first ≡ size variables (view b.now) → behind ≡ size variables (view c.now)
    → items_met_in ground task (turns level variables (λ k. copies defined (level + 1) (view d.now) ((name, k) ∷ variables)) first (behind - first)) m
    ≡ items_met_in ground task (second_copies defined level variables (text_by defined text)) (items_met_in ground task (first_copies defined level variables (text_by defined text)) m)
for_met ground defined level variables task text a b c d name first behind m is named from to = rw (is, named, from, to) refl

pub if_met : (ground : Ground) (defined : Profile) (level : ℕ) (variables : Bindings) (task : ℕ) (text : CodeText) (e a b : Bor Value) (old mid new : Met)
    → text ≡ t.If e a b → mid ≡ items_met_in ground task (copies defined (level + 1) (view a.now) variables) old
    → new ≡ items_met_in ground task (copies defined (level + 1) (view b.now) variables) mid
    → new ≡ items_met_in ground task (second_copies defined level variables (text_by defined text)) (items_met_in ground task (first_copies defined level variables (text_by defined text)) old)
if_met ground defined level variables task text e a b old mid new is mid_is new_is =
    rw is (new_is ∙ ap (items_met_in ground task (copies defined (level + 1) (view b.now) variables)) mid_is)
