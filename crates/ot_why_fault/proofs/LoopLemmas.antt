-- What is told and counted of the items of a list, one by one.
use Rattle.std.proofs.Common.{◌≡◌, ◌≢◌, ℕ, ◌+◌, ◌^◌, ◌<◌, ◌≤◌, List, [], ◌∷◌, length, get_or, map, drop, Option, refl, sym, ap, ◌∙◌, add-one, arith, rules, Vec, Global}
use Rattle.std.proofs.Math.Seq.{drop-cons}
use Rattle.std.proofs.lemmas.List.{drop_all}
use Rattle.std.proofs.lemmas.List.Sums.{sum_by-cons}
use Rattle.std.specs.Prelude.{flat_map}
use Rattle.serde_json.specs.Data.{Data}
use Rattle.serde_json.specs.View.{view, items_view}
use Rattle.serde_json.specs.declared.value.Value.{Value, the_lemmas, Array as JsonArray}
use Rattle.ot_model.specs.declared.expr.Section.{Section}
use Rattle.ot_program.specs.Limits.{cells_in}
use Rattle.ot_program.specs.Meanings.{items, each, Clause}
use Rattle.ot_why_fault.specs.Whys.{Why, after, long}
use Rattle.ot_why_fault.proofs.AfterLemmas.{after-append}

each-next : (vs : List Value) (i : ℕ) (v : Value) → i < length vs → v ≡ get_or vs i v
    → each (items_view (drop i vs)) ≡ view v ∷ each (items_view (drop (i + 1) vs))
each-next vs i v within is = rw (drop-cons vs i v within, ← is, add-one) refl

pub told_next : (whys : Data → List Why) (told now : Option Why) (vs : List Value) (i : ℕ) (v : Value) → i < length vs → v ≡ get_or vs i v
    → now ≡ after told (whys (view v))
    → after now (flat_map whys (each (items_view (drop (i + 1) vs)))) ≡ after told (flat_map whys (each (items_view (drop i vs))))
told_next whys told now vs i v within is h =
    rw (h, each-next vs i v within is) (sym (after-append told (whys (view v)) (flat_map whys (each (items_view (drop (i + 1) vs))))))

long-more : (n m k : ℕ) → long (long (n + m) + k) ≡ long (n + (m + k))
long-more n m k = omega arith

pub cells_next : (section_at : Data → Section) (n m : ℕ) (vs : List Value) (i : ℕ) (v : Value) → i < length vs → v ≡ get_or vs i v
    → m ≡ long (n + (section_at (view v)).len)
    → long (m + cells_in (map section_at (each (items_view (drop (i + 1) vs))))) ≡ long (n + cells_in (map section_at (each (items_view (drop i vs)))))
cells_next section_at n m vs i v within is h =
    let parts : cells_in (map section_at (each (items_view (drop i vs)))) ≡ (section_at (view v)).len + cells_in (map section_at (each (items_view (drop (i + 1) vs)))) =
    ap (λ (ds : List Data). cells_in (map section_at ds)) (each-next vs i v within is)
    ∙ sum_by-cons (λ (s : Section). s.len) (section_at (view v)) (map section_at (each (items_view (drop (i + 1) vs)))) in
    rw (h, parts) (long-more n (section_at (view v)).len (cells_in (map section_at (each (items_view (drop (i + 1) vs))))))

pub cells_end : (section_at : Data → Section) (n : ℕ) (vs : List Value) (i : ℕ) → length vs ≤ i → n < 2 ^ 64
    → long (n + cells_in (map section_at (each (items_view (drop i vs))))) ≡ n
cells_end section_at n vs i past fits = rw (drop_all i vs past) (omega arith)

-- ---- the same of clauses

clause-sections : (clause_at : Data → Clause) (ds : List Data) → map (λ c. c.section) (map clause_at ds) ≡ map (λ d. (clause_at d).section) ds
clause-sections clause_at [] = refl
clause-sections clause_at (d ∷ ds) = ap (λ (sections : List Section). (clause_at d).section ∷ sections) (clause-sections clause_at ds)

pub clause_cells_next : (clause_at : Data → Clause) (n m : ℕ) (vs : List Value) (i : ℕ) (v : Value) → i < length vs → v ≡ get_or vs i v
    → m ≡ long (n + (clause_at (view v)).section.len)
    → long (m + cells_in (map (λ c. c.section) (map clause_at (each (items_view (drop (i + 1) vs))))))
    ≡ long (n + cells_in (map (λ c. c.section) (map clause_at (each (items_view (drop i vs))))))
clause_cells_next clause_at n m vs i v within is h =
    ap (λ (sections : List Section). long (m + cells_in sections)) (clause-sections clause_at (each (items_view (drop (i + 1) vs))))
    ∙ cells_next (λ (d : Data). (clause_at d).section) n m vs i v within is h
    ∙ ap (λ (sections : List Section). long (n + cells_in sections)) (sym (clause-sections clause_at (each (items_view (drop i vs)))))

pub clause_cells_end : (clause_at : Data → Clause) (n : ℕ) (vs : List Value) (i : ℕ) → length vs ≤ i → n < 2 ^ 64
    → long (n + cells_in (map (λ c. c.section) (map clause_at (each (items_view (drop i vs)))))) ≡ n
clause_cells_end clause_at n vs i past fits = rw (drop_all i vs past) (omega (arith, fits))

-- ---- a list as a part

pub no_items : (v : Value) → ((w : Vec Value Global) → v ≢ JsonArray w) → items (view v) ≡ []
no_items v other = search (rules, the_lemmas)
