-- Openings and parts of arrays, layer by layer.
use Rattle.std.proofs.Common.{◌≡◌, ℕ, suc, ◌+◌, ◌<◌, ◌==◌, length, drop, drop-cons, get_or, ap₂, arith, Bool, true, false, cond, ◌||◌, List, [], ◌∷◌, ◌++◌, map, find, Option, Some, None, option_map, refl, sym, ap, ◌∙◌, append_assoc, append-nil}
use Rattle.std.specs.List.{list_any}
use Rattle.std.specs.Option.{option_or}
use Rattle.std.proofs.lemmas.List.{map-append}
use Rattle.std.proofs.lemmas.List.Folds.{find-append, list_any-append}
use Rattle.ot_c_scope.specs.declared.layers.Frame.{Frame}
use Rattle.ot_c_scope.specs.declared.layers.Layer.{Layer}
use Rattle.ot_c_scope.specs.declared.scope.Opening.{Opening}
use Rattle.ot_c_scope.specs.Layers.{opened_by, opened_in, portions_by, portions_in}
use Rattle.ot_c_scope.specs.Scopes.{Extent, Run, combines, points_into, not_own}

-- ---- a layer within others

pub opened_within : (ls : List Layer) (l : Layer) → opened_in (ls ++ l ∷ []) ≡ opened_by l ++ opened_in ls
opened_within [] l = sym (append-nil (opened_by l))
opened_within (k ∷ ls) l = ap (λ os. os ++ opened_by k) (opened_within ls l) ∙ append_assoc (opened_by l) (opened_in ls) (opened_by k)

pub portions_within : (ls : List Layer) (l : Layer) → portions_in (ls ++ l ∷ []) ≡ portions_in ls ++ portions_by l
portions_within [] l = append-nil (portions_by l)
portions_within (k ∷ ls) l = ap (λ ps. portions_by k ++ ps) (portions_within ls l) ∙ sym (append_assoc (portions_by k) (portions_in ls) (portions_by l))

-- ---- in a task

pub not_own_twice : (os : List Opening) → map not_own (map not_own os) ≡ map not_own os
not_own_twice [] = refl
not_own_twice (o ∷ os) = ap (λ l. not_own o ∷ l) (not_own_twice os)

pub find_not_own : (name : ℕ) (os : List Opening) → find (λ o. o.array == name) (map not_own os) ≡ option_map not_own (find (λ o. o.array == name) os)
find_not_own name [] = refl
find_not_own name (o ∷ os) = by (o.array == name) (find_not_own name os)
  where
    by : (b : Bool) → find (λ p. p.array == name) (map not_own os) ≡ option_map not_own (find (λ p. p.array == name) os)
        → cond b (Some (not_own o)) (find (λ p. p.array == name) (map not_own os)) ≡ option_map not_own (cond b (Some o) (find (λ p. p.array == name) os))
    by true rest = refl
    by false rest = rest

pub any_not_own : (x : ℕ) (run : Run) (os : List Opening) → list_any (λ o. points_into x run o.pointee) (map not_own os) ≡ list_any (λ o. points_into x run o.pointee) os
any_not_own x run [] = refl
any_not_own x run (o ∷ os) = ap (λ b. points_into x run o.pointee || b) (any_not_own x run os)

pub combines_not_own : (os : List Opening) → combines (map not_own os) ≡ combines os
combines_not_own [] = refl
combines_not_own (o ∷ os) = refl

pub by_own : (own : Bool) (os : List Opening) → map not_own (cond own os (map not_own os)) ≡ map not_own os
by_own true os = refl
by_own false os = not_own_twice os

-- ---- what is found in one of two

pub or_assoc : {A : Type 0} (a b c : Option A) → option_or (option_or a b) c ≡ option_or a (option_or b c)
or_assoc None b c = refl
or_assoc (Some x) b c = refl

pub combines-append : (os ps : List Opening) → combines (os ++ ps) ≡ (combines os || combines ps)
combines-append [] ps = refl
combines-append (o ∷ os) ps = refl

pub or_true : (b : Bool) → (b || true) ≡ true
or_true true = refl
or_true false = refl

pub or_false : (b : Bool) → (b || false) ≡ b
or_false true = refl
or_false false = refl

pub opening_below : (l : Layer) (name : ℕ) (f : Frame) (found now : Option Opening) → f ≡ l.frame.value → found ≡ find (λ o. o.array == name) f.openings → now ≡ option_map not_own found
    → l.own ≡ false → now ≡ find (λ o. o.array == name) (opened_by l)
opening_below l name f found now frame is below own =
    below ∙ ap (option_map not_own) (is ∙ ap (λ g. find (λ o. o.array == name) g.openings) frame) ∙ sym (find_not_own name l.frame.value.openings)
    ∙ ap (λ b. find (λ o. o.array == name) (cond b l.frame.value.openings (map not_own l.frame.value.openings))) (sym own)

-- ---- loops: one layer more

front : {C : Type 0} (cs : List C) (i : ℕ) (x : C) → i < length cs → x ≡ get_or cs i x → drop i cs ≡ x ∷ drop (i + 1) cs
front cs i x h is =
    let next : suc i ≡ i + 1 = omega arith in
    drop-cons cs i x h ∙ ap (λ y. y ∷ drop (suc i) cs) (sym is) ∙ ap (λ n. x ∷ drop n cs) next

opened_alike : (k l : Layer) → k.frame.value ≡ l.frame.value → k.own ≡ l.own → opened_by k ≡ opened_by l
opened_alike k l frame own = ap₂ (λ f o. cond o f.openings (map not_own f.openings)) frame own

opened_below : (k l : Layer) → k.frame.value ≡ l.frame.value → k.own ≡ false → opened_by k ≡ map not_own (opened_by l)
opened_below k l frame own = ap₂ (λ f o. cond o f.openings (map not_own f.openings)) frame own ∙ sym (by_own l.own l.frame.value.openings)

combined_alike : (own : Bool) (os : List Opening) → combines (cond own os (map not_own os)) ≡ combines os
combined_alike true os = refl
combined_alike false os = combines_not_own os

pointed_alike : (x : ℕ) (run : Run) (own : Bool) (os : List Opening)
    → list_any (λ o. points_into x run o.pointee) (cond own os (map not_own os)) ≡ list_any (λ o. points_into x run o.pointee) os
pointed_alike x run true os = refl
pointed_alike x run false os = any_not_own x run os

module _ (ls : List Layer) (i : ℕ) (l : Layer) (less : i < length ls) (is : l ≡ get_or ls i l) where
  opened_left : opened_in (drop i ls) ≡ opened_in (drop (i + 1) ls) ++ opened_by l
  opened_left = ap opened_in (front ls i l less is)

  portions_left : portions_in (drop i ls) ≡ portions_by l ++ portions_in (drop (i + 1) ls)
  portions_left = ap portions_in (front ls i l less is)

  pub found_next : (name : ℕ) (inner found now whole : Option Opening) → inner ≡ find (λ o. o.array == name) (opened_by l) → now ≡ option_or inner found
      → option_or (find (λ o. o.array == name) (opened_in (drop i ls))) found ≡ whole
      → option_or (find (λ o. o.array == name) (opened_in (drop (i + 1) ls))) now ≡ whole
  found_next name inner found now whole by so_far done =
      let rest = opened_in (drop (i + 1) ls) in
      ap (λ f. option_or (find (λ o. o.array == name) rest) f) (so_far ∙ ap (λ f. option_or f found) by)
      ∙ sym (or_assoc (find (λ o. o.array == name) rest) (find (λ o. o.array == name) (opened_by l)) found)
      ∙ ap (λ f. option_or f found) (sym (find-append (λ o. o.array == name) rest (opened_by l)) ∙ ap (find (λ o. o.array == name)) (sym opened_left))
      ∙ done

  pub portion_left : (x : ℕ) (first whole : Option Extent) → first ≡ find (λ p. p.array == x) (portions_by l)
      → find (λ p. p.array == x) (portions_in (drop i ls)) ≡ whole → option_or first (find (λ p. p.array == x) (portions_in (drop (i + 1) ls))) ≡ whole
  portion_left x first whole by done =
      ap (λ f. option_or f (find (λ p. p.array == x) (portions_in (drop (i + 1) ls)))) by
      ∙ sym (find-append (λ p. p.array == x) (portions_by l) (portions_in (drop (i + 1) ls)))
      ∙ ap (find (λ p. p.array == x)) (sym portions_left) ∙ done

  pub combines_left : (some whole : Bool) → some ≡ combines l.frame.value.openings → combines (opened_in (drop i ls)) ≡ whole
      → (combines (opened_in (drop (i + 1) ls)) || some) ≡ whole
  combines_left some whole by done =
      ap (λ b. combines (opened_in (drop (i + 1) ls)) || b) (by ∙ sym (combined_alike l.own l.frame.value.openings))
      ∙ sym (combines-append (opened_in (drop (i + 1) ls)) (opened_by l)) ∙ ap combines (sym opened_left) ∙ done

  pub points_left : (x : ℕ) (run : Run) (some whole : Bool) → some ≡ list_any (λ o. points_into x run o.pointee) l.frame.value.openings
      → list_any (λ o. points_into x run o.pointee) (opened_in (drop i ls)) ≡ whole
      → (list_any (λ o. points_into x run o.pointee) (opened_in (drop (i + 1) ls)) || some) ≡ whole
  points_left x run some whole by done =
      ap (λ b. list_any (λ o. points_into x run o.pointee) (opened_in (drop (i + 1) ls)) || b) (by ∙ sym (pointed_alike x run l.own l.frame.value.openings))
      ∙ sym (list_any-append (λ o. points_into x run o.pointee) (opened_in (drop (i + 1) ls)) (opened_by l))
      ∙ ap (list_any (λ o. points_into x run o.pointee)) (sym opened_left) ∙ done

  module _ (k : Layer) (frame : k.frame.value ≡ l.frame.value) (so_far : List Layer) where
    pub portions_next : (whole : List Extent) → portions_in so_far ++ portions_in (drop i ls) ≡ whole → portions_in (so_far ++ k ∷ []) ++ portions_in (drop (i + 1) ls) ≡ whole
    portions_next whole done =
        ap (λ ps. ps ++ portions_in (drop (i + 1) ls)) (portions_within so_far k ∙ ap (λ f. portions_in so_far ++ f.portions) frame)
        ∙ append_assoc (portions_in so_far) (portions_by l) (portions_in (drop (i + 1) ls))
        ∙ ap (λ ps. portions_in so_far ++ ps) (sym portions_left) ∙ done

    pub opened_next : k.own ≡ l.own → (whole : List Opening) → opened_in (drop i ls) ++ opened_in so_far ≡ whole → opened_in (drop (i + 1) ls) ++ opened_in (so_far ++ k ∷ []) ≡ whole
    opened_next own whole done =
        ap (λ os. opened_in (drop (i + 1) ls) ++ os) (opened_within so_far k ∙ ap (λ os. os ++ opened_in so_far) (opened_alike k l frame own))
        ∙ sym (append_assoc (opened_in (drop (i + 1) ls)) (opened_by l) (opened_in so_far))
        ∙ ap (λ os. os ++ opened_in so_far) (sym opened_left) ∙ done

    pub below_next : k.own ≡ false → (whole : List Opening) → map not_own (opened_in (drop i ls)) ++ opened_in so_far ≡ whole
        → map not_own (opened_in (drop (i + 1) ls)) ++ opened_in (so_far ++ k ∷ []) ≡ whole
    below_next own whole done =
        ap (λ os. map not_own (opened_in (drop (i + 1) ls)) ++ os) (opened_within so_far k ∙ ap (λ os. os ++ opened_in so_far) (opened_below k l frame own))
        ∙ sym (append_assoc (map not_own (opened_in (drop (i + 1) ls))) (map not_own (opened_by l)) (opened_in so_far))
        ∙ ap (λ os. os ++ opened_in so_far) (sym (map-append not_own (opened_in (drop (i + 1) ls)) (opened_by l)) ∙ ap (map not_own) (sym opened_left)) ∙ done
