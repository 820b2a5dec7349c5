-- The strongest mode of a cell: the order of the uses makes no difference to it, and of uses in order it is the cell's one mode.
use Rattle.std.proofs.Common.{◌≡◌, suc, Bool, true, false, true≢false, ◌&&◌, ◌||◌, List, [], ◌∷◌, ◌++◌, append_assoc, get_or, refl, sym, ap, ◌∙◌, arith}
use Rattle.std.specs.Prelude.{Option, Some, None, option_map, if◌then◌else◌}
use Rattle.std.specs.List.{fold, list_any}
use Rattle.std.specs.List.Sorted.{IsPermutation}
use Rattle.std.proofs.lemmas.List.Sums.{fold-append}
use Rattle.std.proofs.lemmas.Option.{same_Some}
use Rattle.std.proofs.lemmas.List.Sorted.{list_any-IsPermutation}
use Rattle.ot_model.specs.Cells.{same_cell, AreInOrder, mode_in, is_fold, same_fold, same_mode}
use Rattle.ot_model.proofs.OrderLemmas.{precedes_apart, rest_in_order, each_precedes}
use Rattle.ot_model.proofs.DeclaredLemmas.{mode_in-none}
use Rattle.ot_model.proofs.EqualLemmas.{fold-decides}
use Rattle.ot_model.specs.declared.expr.Cell.{Cell}
use Rattle.ot_model.specs.declared.fold.Fold.{Fold as Operation}
use Rattle.ot_model.specs.declared.fold.Fold.TheVariants.{Plus}
use Rattle.ot_model.specs.declared.stmt.Mode.{Mode}
use Rattle.ot_model.specs.declared.stmt.Mode.TheVariants.{Reads, Writes, Folds}
use Rattle.ot_model.specs.declared.stmt.Use.{Use}
use Rattle.ot_parts.specs.Modes.{stronger, with_mode, mode_added, strongest}
use Rattle.ot_parts.proofs.FoldLemmas.{same_self, same_other}
use Rattle.ot_parts.proofs.UseLemmas.{added-one}

-- ---- of two uses either may be added first

fold-other : (o p : Operation) (a b : Bool) → same_fold o p ≡ a → same_fold p o ≡ b → (if a then Folds o else Writes) ≡ (if b then Folds p else Writes)
fold-other o p true true one two = ap Folds ((fold-decides o p).0 one)
fold-other o p true false one two = absurd (true≢false (sym one ∙ same_other o p ∙ two))
fold-other o p false true one two = absurd (true≢false (sym two ∙ same_other p o ∙ one))
fold-other o p false false one two = refl

stronger-comm : (m n : Mode) → stronger m n ≡ stronger n m
stronger-comm Reads Reads = refl
stronger-comm Reads Writes = refl
stronger-comm Reads (Folds p) = refl
stronger-comm Writes Reads = refl
stronger-comm Writes Writes = refl
stronger-comm Writes (Folds p) = refl
stronger-comm (Folds o) Reads = refl
stronger-comm (Folds o) Writes = refl
stronger-comm (Folds o) (Folds p) = fold-other o p (same_fold o p) (same_fold p o) refl refl

-- with a fold there is another
abbrev beside : Operation → Bool → Mode
beside o b = if b then Folds o else Writes

reads_beside : (o : Operation) (b : Bool) → stronger (beside o b) Reads ≡ beside o b
reads_beside o true = refl
reads_beside o false = refl

writes_beside : (o : Operation) (b : Bool) → stronger (beside o b) Writes ≡ Writes
writes_beside o true = refl
writes_beside o false = refl

folds_beside : (o p q : Operation) (a b : Bool) → same_fold o p ≡ a → same_fold o q ≡ b → stronger (beside o a) (Folds q) ≡ stronger (beside o b) (Folds p)
folds_beside o p q true true one two = ap (beside o) (two ∙ sym one)
folds_beside o p q true false one two = ap (beside o) two
folds_beside o p q false true one two = sym (ap (beside o) one)
folds_beside o p q false false one two = refl

stronger-other : (k m n : Mode) → stronger (stronger k m) n ≡ stronger (stronger k n) m
stronger-other Reads m n = stronger-comm m n
stronger-other Writes m n = refl
stronger-other (Folds o) Reads Reads = refl
stronger-other (Folds o) Reads Writes = refl
stronger-other (Folds o) Reads (Folds q) = sym (reads_beside o (same_fold o q))
stronger-other (Folds o) Writes Reads = refl
stronger-other (Folds o) Writes Writes = refl
stronger-other (Folds o) Writes (Folds q) = sym (writes_beside o (same_fold o q))
stronger-other (Folds o) (Folds p) Reads = reads_beside o (same_fold o p)
stronger-other (Folds o) (Folds p) Writes = writes_beside o (same_fold o p)
stronger-other (Folds o) (Folds p) (Folds q) = folds_beside o p q (same_fold o p) (same_fold o q) refl refl

with_mode-other : (o : Option Mode) (m n : Mode) → stronger (with_mode o m) n ≡ stronger (with_mode o n) m
with_mode-other None m n = stronger-comm m n
with_mode-other (Some k) m n = stronger-other k m n

added-other : (c : Cell) (o : Option Mode) (u v : Use) → mode_added c (mode_added c o u) v ≡ mode_added c (mode_added c o v) u
added-other c o u v = by (same_cell u.cell c) (same_cell v.cell c) refl refl
  where
    by : (a b : Bool) → same_cell u.cell c ≡ a → same_cell v.cell c ≡ b →
        (if b then Some (with_mode (if a then Some (with_mode o u.mode) else o) v.mode) else (if a then Some (with_mode o u.mode) else o))
        ≡ (if a then Some (with_mode (if b then Some (with_mode o v.mode) else o) u.mode) else (if b then Some (with_mode o v.mode) else o))
    by true true one two = ap Some (with_mode-other o u.mode v.mode)
    by true false one two = refl
    by false true one two = refl
    by false false one two = refl

pub fold-added : (c : Cell) (o : Option Mode) (u : Use) (us : List Use) → fold (mode_added c) (mode_added c o u) us ≡ mode_added c (fold (mode_added c) o us) u
fold-added c o u [] = refl
fold-added c o u (v ∷ us) = ap (λ q. fold (mode_added c) q us) (added-other c o u v) ∙ fold-added c (mode_added c o v) u us

-- ---- uses in order

pub strongest-in_order : (us : List Use) (c : Cell) → AreInOrder us → strongest us c ≡ mode_in us c
strongest-in_order [] c order = refl
strongest-in_order (u ∷ us) c order =
    let none : mode_in us u.cell ≡ None = mode_in-none us u.cell (λ k d within same. precedes_apart u.cell (get_or us k d).cell
    (each_precedes (u ∷ us) order 0 (suc k) d (omega arith) (omega (arith, within))) (sym same)) in
    fold-added c None u us
    ∙ ap (λ o. mode_added c o u) (strongest-in_order us c (rest_in_order u us order))
    ∙ sym (added-one u u.mode us (u ∷ us) (sym (ap (λ o. with_mode o u.mode) none)) (λ x. refl) c)

-- ---- one use more

-- it stands behind all others
pub strongest-push : (us vs : List Use) (u : Use) (c : Cell) → strongest (us ++ (vs ++ u ∷ [])) c ≡ mode_added c (strongest (us ++ vs) c) u
strongest-push us vs u c =
    ap (λ ws. strongest ws c) (sym (append_assoc us vs (u ∷ []))) ∙ fold-append (mode_added c) None (us ++ vs) (u ∷ [])

-- it stands among those in order that come first
pub strongest-front : (us vs ws : List Use) (u : Use) (c : Cell) → AreInOrder us → AreInOrder vs → mode_in vs c ≡ mode_added c (mode_in us c) u →
    strongest (vs ++ ws) c ≡ mode_added c (strongest (us ++ ws) c) u
strongest-front us vs ws u c before after is =
    fold-append (mode_added c) None vs ws
    ∙ ap (λ o. fold (mode_added c) o ws) (strongest-in_order vs c after ∙ is ∙ ap (λ o. mode_added c o u) (sym (strongest-in_order us c before)))
    ∙ fold-added c (strongest us c) u ws
    ∙ ap (λ o. mode_added c o u) (sym (fold-append (mode_added c) None us ws))

-- ---- the same uses in another order

-- The modes as one operation sees them: folds by another are writes to it. So it sees none, reads, its own folds and writes, each
-- stronger than the one before.
abbrev seen_by : Operation → Mode → Mode
seen_by o Reads = Reads
seen_by o Writes = Writes
seen_by o (Folds p) = beside o (same_fold o p)

abbrev has : Operation → Cell → (Mode → Bool) → Use → Bool
has o c test u = same_cell u.cell c && test (seen_by o u.mode)

-- the strongest of the modes of which there are uses
abbrev of_modes : Operation → Bool → Bool → Bool → Option Mode
of_modes o true a r = Some Writes
of_modes o false true r = Some (Folds o)
of_modes o false false true = Some Reads
of_modes o false false false = None

abbrev is_read : Mode → Bool
is_read = same_mode Reads

abbrev is_write : Mode → Bool
is_write = same_mode Writes

itself-beside : (o : Operation) → Some (stronger (Folds o) (Folds o)) ≡ Some (Folds o)
itself-beside o = ap (λ b. Some (beside o b)) (same_self o)

of_modes-reads : (o : Operation) (w a r : Bool) → Some (with_mode (of_modes o w a r) Reads) ≡ of_modes o w a true
of_modes-reads o true a r = refl
of_modes-reads o false true r = refl
of_modes-reads o false false true = refl
of_modes-reads o false false false = refl

of_modes-writes : (o : Operation) (w a r : Bool) → Some (with_mode (of_modes o w a r) Writes) ≡ Some Writes
of_modes-writes o true a r = refl
of_modes-writes o false true r = refl
of_modes-writes o false false true = refl
of_modes-writes o false false false = refl

of_modes-folds : (o : Operation) (w a r : Bool) → Some (with_mode (of_modes o w a r) (Folds o)) ≡ of_modes o w true r
of_modes-folds o true a r = refl
of_modes-folds o false true r = itself-beside o
of_modes-folds o false false true = refl
of_modes-folds o false false false = refl

of_modes-seen : (o : Operation) (m : Mode) (w a r : Bool) →
    Some (with_mode (of_modes o w a r) (seen_by o m)) ≡ of_modes o (is_write (seen_by o m) || w) (is_fold (seen_by o m) || a) (is_read (seen_by o m) || r)
of_modes-seen o Reads w a r = of_modes-reads o w a r
of_modes-seen o Writes w a r = of_modes-writes o w a r
of_modes-seen o (Folds p) w a r = by (same_fold o p)
  where
    by : (b : Bool) → Some (with_mode (of_modes o w a r) (beside o b)) ≡ of_modes o (is_write (beside o b) || w) (is_fold (beside o b) || a) (is_read (beside o b) || r)
    by true = of_modes-folds o w a r
    by false = of_modes-writes o w a r

of_modes-added : (is : Bool) (o : Operation) (m : Mode) (w a r : Bool) →
    (if is then Some (with_mode (of_modes o w a r) (seen_by o m)) else of_modes o w a r)
    ≡ of_modes o ((is && is_write (seen_by o m)) || w) ((is && is_fold (seen_by o m)) || a) ((is && is_read (seen_by o m)) || r)
of_modes-added false o m w a r = refl
of_modes-added true o m w a r = of_modes-seen o m w a r

-- the strongest of two modes, seen, is the strongest of those seen
seen-beside : (o p q : Operation) (pq op oq : Bool) → same_fold p q ≡ pq → same_fold o p ≡ op → same_fold o q ≡ oq → seen_by o (beside p pq) ≡ stronger (beside o op) (beside o oq)
seen-beside o p q true true true e f g = ap (beside o) f ∙ sym (ap (beside o) (same_self o))
seen-beside o p q true true false e f g = absurd (true≢false (sym f ∙ ap (same_fold o) ((fold-decides p q).0 e) ∙ g))
seen-beside o p q true false oq e f g = ap (beside o) f
seen-beside o p q false true true e f g = absurd (true≢false (sym ((fold-decides p q).1 (sym ((fold-decides o p).0 f) ∙ (fold-decides o q).0 g)) ∙ e))
seen-beside o p q false true false e f g = refl
seen-beside o p q false false oq e f g = refl

seen-stronger : (o : Operation) (m n : Mode) → seen_by o (stronger m n) ≡ stronger (seen_by o m) (seen_by o n)
seen-stronger o Reads n = refl
seen-stronger o Writes n = refl
seen-stronger o (Folds p) Reads = sym (reads_beside o (same_fold o p))
seen-stronger o (Folds p) Writes = sym (writes_beside o (same_fold o p))
seen-stronger o (Folds p) (Folds q) = seen-beside o p q (same_fold p q) (same_fold o p) (same_fold o q) refl refl refl

seen-with_mode : (o : Operation) (s : Option Mode) (m : Mode) → seen_by o (with_mode s m) ≡ with_mode (option_map (seen_by o) s) (seen_by o m)
seen-with_mode o None m = refl
seen-with_mode o (Some n) m = seen-stronger o n m

seen-added : (o : Operation) (s : Option Mode) (is : Bool) (m : Mode) →
    option_map (seen_by o) (if is then Some (with_mode s m) else s) ≡ (if is then Some (with_mode (option_map (seen_by o) s) (seen_by o m)) else option_map (seen_by o) s)
seen-added o s true m = ap Some (seen-with_mode o s m)
seen-added o s false m = refl

strongest-any : (o : Operation) (us : List Use) (c : Cell) →
    option_map (seen_by o) (strongest us c) ≡ of_modes o (list_any (has o c is_write) us) (list_any (has o c is_fold) us) (list_any (has o c is_read) us)
strongest-any o [] c = refl
strongest-any o (u ∷ us) c =
    ap (option_map (seen_by o)) (fold-added c None u us)
    ∙ seen-added o (strongest us c) (same_cell u.cell c) u.mode
    ∙ ap (λ s. if same_cell u.cell c then Some (with_mode s (seen_by o u.mode)) else s) (strongest-any o us c)
    ∙ of_modes-added (same_cell u.cell c) o u.mode (list_any (has o c is_write) us) (list_any (has o c is_fold) us) (list_any (has o c is_read) us)

seen-permuted : (o : Operation) (us vs : List Use) (c : Cell) → IsPermutation us vs → option_map (seen_by o) (strongest us c) ≡ option_map (seen_by o) (strongest vs c)
seen-permuted o us vs c moved =
    strongest-any o us c
    ∙ ap (λ b. of_modes o b (list_any (has o c is_fold) us) (list_any (has o c is_read) us)) (list_any-IsPermutation (has o c is_write) us vs moved)
    ∙ ap (λ b. of_modes o (list_any (has o c is_write) vs) b (list_any (has o c is_read) us)) (list_any-IsPermutation (has o c is_fold) us vs moved)
    ∙ ap (λ b. of_modes o (list_any (has o c is_write) vs) (list_any (has o c is_fold) vs) b) (list_any-IsPermutation (has o c is_read) us vs moved)
    ∙ sym (strongest-any o vs c)

-- modes that each operation sees alike are one
abbrev is_folded : Option Mode → Bool
is_folded None = false
is_folded (Some m) = is_fold m

from_fold : (o p : Operation) → Folds o ≡ beside o (same_fold o p) → Folds o ≡ Folds p
from_fold o p h = by (same_fold o p) refl
  where
    by : (b : Bool) → same_fold o p ≡ b → Folds o ≡ Folds p
    by true same = ap Folds ((fold-decides o p).0 same)
    by false not = absurd (true≢false (ap is_fold (h ∙ ap (beside o) not)))

seen_self : (o : Operation) → Some (seen_by o (Folds o)) ≡ Some (Folds o)
seen_self o = ap (λ b. Some (beside o b)) (same_self o)

-- what isn't folded is seen as it is, and what is folded is seen by its operation
not_folded : (o : Operation) (s : Option Mode) → is_folded s ≡ false → option_map (seen_by o) s ≡ s
not_folded o None h = refl
not_folded o (Some Reads) h = refl
not_folded o (Some Writes) h = refl
not_folded o (Some (Folds p)) h = absurd (true≢false h)

unfolded : (s t : Option Mode) → is_folded s ≡ false → ((o : Operation) → option_map (seen_by o) s ≡ option_map (seen_by o) t) → s ≡ t
unfolded s None none h = sym (not_folded Plus s none) ∙ h Plus
unfolded s (Some Reads) none h = sym (not_folded Plus s none) ∙ h Plus
unfolded s (Some Writes) none h = sym (not_folded Plus s none) ∙ h Plus
unfolded s (Some (Folds p)) none h = absurd (true≢false (sym (ap is_folded (sym (not_folded p s none) ∙ h p ∙ seen_self p)) ∙ none))

seen-alike : (s t : Option Mode) → ((o : Operation) → option_map (seen_by o) s ≡ option_map (seen_by o) t) → s ≡ t
seen-alike (Some (Folds o)) (Some (Folds p)) h = ap Some (from_fold o p (same_Some (Folds o) (beside o (same_fold o p)) (sym (seen_self o) ∙ h o)))
seen-alike (Some (Folds o)) None h = absurd (true≢false (ap is_folded (sym (seen_self o) ∙ h o)))
seen-alike (Some (Folds o)) (Some Reads) h = absurd (true≢false (ap is_folded (sym (seen_self o) ∙ h o)))
seen-alike (Some (Folds o)) (Some Writes) h = absurd (true≢false (ap is_folded (sym (seen_self o) ∙ h o)))
seen-alike None t h = unfolded None t refl h
seen-alike (Some Reads) t h = unfolded (Some Reads) t refl h
seen-alike (Some Writes) t h = unfolded (Some Writes) t refl h

pub strongest-permuted : (us vs : List Use) (c : Cell) → IsPermutation us vs → strongest us c ≡ strongest vs c
strongest-permuted us vs c moved = seen-alike (strongest us c) (strongest vs c) (λ o. seen-permuted o us vs c moved)
