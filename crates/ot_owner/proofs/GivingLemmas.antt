-- What cells are worth once copies have come back.
use Rattle.std.proofs.Common.{◌≡◌, ◌≢◌, ℕ, zero, suc, ◌<◌, ◌+◌, List, [], ◌∷◌, ◌++◌, length, get_or, take, Bool, true, false, true≢false, refl, sym, ap, ◌∙◌, subst, inl, inr, arith}
use Rattle.std.proofs.lemmas.Bool.{cases_lt}
use Rattle.std.proofs.lemmas.List.{get_or_default, take_more}
use Rattle.std.proofs.lemmas.List.Elements.{All-push}
use Rattle.std.proofs.lemmas.List.Quantifiers.{Any-push}
use Rattle.std.specs.List.{All, AllPairs}
use Rattle.std.specs.Prelude.{Option, Some, None, IsSome, option_map, if◌then◌else◌}
use Rattle.ot_model.specs.Joining.{join_by}
use Rattle.ot_model.specs.Cells.{AreInOrder, is_fold, joined}
use Rattle.ot_model.specs.declared.expr.Cell.{Cell}
use Rattle.ot_model.specs.declared.fold.Fold.{Fold as Operation}
use Rattle.ot_model.specs.declared.stmt.Mode.{Mode}
use Rattle.ot_model.specs.declared.stmt.Mode.TheVariants.{Reads, Writes, Folds}
use Rattle.ot_model.proofs.OrderLemmas.{precedes_apart}
use Rattle.ot_owner.specs.declared.lent.LentCell.{LentCell}
use Rattle.ot_owner.specs.Worth.{stored_kept, AreStored, taken_back, all_back, worth_over, AreJoined}
use Rattle.ot_owner.specs.Lending.{uses_of}
use Rattle.ot_owner.specs.Owning.{Summed, IsSummed, IsOnlyBy, copy_among, copies_folded}
use Rattle.ot_owner.proofs.OrderLemmas.{each_precedes}
use Rattle.ot_owner.proofs.JoinedLemmas.{not_lent, lent_push, others_before}
use Rattle.ot_owner.proofs.GroupLemmas.{worth-grew, worth-idle, worth-other}
use Rattle.ot_owner.proofs.OpenLemmas.{same_worth, taken-still, taken-only, worth-unsummed}

-- what cells with these stored numbers are worth
abbrev pub worth_with : List Summed → (Cell → Option ℕ) → Cell → Option ℕ
worth_with gs stored c = option_map (worth_over gs c) (stored c)

-- the lent cells are apart
abbrev AreApart : List LentCell → Type 0
AreApart lent = AllPairs (λ l m. l.cell ≢ m.cell) lent

apart : (lent : List LentCell) → AreInOrder (uses_of lent) → AreApart lent
apart lent order i j d before within = precedes_apart (get_or lent i d).cell (get_or lent j d).cell (each_precedes lent order i j d before within)

-- a cell of which nothing comes back is worth what it was
taken-other : (w : ℕ) (l : LentCell) (gs : List Summed) (c : Cell) → (is_fold l.mode ≡ true → l.cell ≢ c) → (s : ℕ) → worth_over (taken_back w l gs) c s ≡ worth_over gs c s
taken-other w l gs c other s = by (is_fold l.mode) other
  where
    by : (b : Bool) → (b ≡ true → l.cell ≢ c) → worth_over (if b then copies_folded w l.cell l.value gs else gs) c s ≡ worth_over gs c s
    by true other = worth-other w l.value l.cell c gs (other refl) s
    by false other = refl

back-other : (w : ℕ) (lent : List LentCell) (gs : List Summed) (c : Cell) → All (λ l. is_fold l.mode ≡ true → l.cell ≢ c) lent → (s : ℕ) → worth_over (all_back w lent gs) c s ≡ worth_over gs c s
back-other w [] gs c others s = refl
back-other w (l ∷ lent) gs c others s =
    back-other w lent (taken_back w l gs) c (λ k d within. others (suc k) d (omega (arith, within))) s ∙ taken-other w l gs c (others 0 l (omega arith)) s

-- what the value of a lent cell does to what the cell is worth, all of them together do
back-changed : (w : ℕ) (f : ℕ → ℕ) (o : Operation) (x : LentCell)
    → ((n : ℕ) (hs : List Summed) → IsOnlyBy hs o x.cell → copy_among hs w x.cell ≡ Some n → (s : ℕ) → worth_over (copies_folded w x.cell x.value hs) x.cell s ≡ f (worth_over hs x.cell s))
    → (lent : List LentCell) (k : ℕ) (gs : List Summed) → AreApart lent → k < length lent → x ≡ get_or lent k x → x.mode ≡ Folds o → IsOnlyBy gs o x.cell → IsSome (copy_among gs w x.cell)
    → (s : ℕ) → worth_over (all_back w lent gs) x.cell s ≡ f (worth_over gs x.cell s)
back-changed w f o x step [] k gs pairs within is mode only there s = absurd (omega (arith, within))
back-changed w f o x step (l ∷ lent) zero gs pairs within is mode only there s =
    back-other w lent (taken_back w l gs) x.cell (λ k d inside folds same. pairs 0 (suc k) d (omega arith) (omega (arith, inside)) (ap (λ (m : LentCell). m.cell) (sym is) ∙ sym same)) s
    ∙ ap (λ hs. worth_over hs x.cell s) (ap (λ m. taken_back w m gs) (sym is) ∙ ap (λ m. if is_fold m then copies_folded w x.cell x.value gs else gs) mode)
    ∙ some (copy_among gs w x.cell) refl there
  where
    some : (c : Option ℕ) → copy_among gs w x.cell ≡ c → IsSome c → worth_over (copies_folded w x.cell x.value gs) x.cell s ≡ f (worth_over gs x.cell s)
    some None at none = absurd (true≢false (sym none))
    some (Some n) at one = step n gs only at s
back-changed w f o x step (l ∷ lent) (suc k) gs pairs within is mode only there s =
    back-changed w f o x step lent k (taken_back w l gs) (λ i j d before inside. pairs (suc i) (suc j) d (omega (arith, before)) (omega (arith, inside))) (omega (arith, within)) is mode
    (taken-only w l gs o x.cell only) (taken-still w l gs w x.cell there) s
    ∙ ap f (taken-other w l gs x.cell (λ folds same. pairs 0 (suc k) x (omega arith) within (same ∙ ap (λ (m : LentCell). m.cell) is)) s)

-- the cells that are folded into aren't one that isn't
others-fold : (lent : List LentCell) (k : ℕ) (d : LentCell) → AreApart lent → k < length lent → is_fold (get_or lent k d).mode ≡ false → All (λ l. is_fold l.mode ≡ true → l.cell ≢ (get_or lent k d).cell) lent
others-fold lent k d pairs within not i e inside = elim (cases_lt i k) [
  | inl less ↦ λ folds same. pairs i k d less within (ap (λ (m : LentCell). m.cell) (get_or_default lent i d e inside) ∙ same)
  | inr rest ↦ elim (cases_lt k i) [
    | inl more ↦ λ folds same. pairs k i e more inside (ap (λ (m : LentCell). m.cell) (get_or_default lent k e d within) ∙ sym same)
    | inr none ↦
        let here : i ≡ k = omega (arith, rest, none) in
        λ folds same. true≢false (sym folds ∙ ap (λ j. is_fold (get_or lent j e).mode) here ∙ ap (λ (m : LentCell). is_fold m.mode) (get_or_default lent k e d within) ∙ not)
  ]
]

module _ (v : ℕ) (old new : ℕ → ℕ) where
  -- what becomes of the stored number and what becomes of the copies are one joining
  by_mode : (m : Mode) (before after : Option ℕ) → after ≡ option_map (λ n. stored_kept m n v) before → (is_fold m ≡ false → (n : ℕ) → new n ≡ old n) → (m ≡ Writes → (n : ℕ) → old n ≡ n)
      → ((o : Operation) → m ≡ Folds o → (n : ℕ) → new n ≡ join_by o (old n) v) → option_map new after ≡ option_map (λ n. joined m n v) (option_map old before)
  by_mode Reads None after is same none grew = ap (option_map new) is
  by_mode Reads (Some n) after is same none grew = ap (option_map new) is ∙ ap Some (same refl n)
  by_mode Writes None after is same none grew = ap (option_map new) is
  by_mode Writes (Some n) after is same none grew = ap (option_map new) is ∙ ap Some (same refl v ∙ none refl v)
  by_mode (Folds o) None after is same none grew = ap (option_map new) is
  by_mode (Folds o) (Some n) after is same none grew = ap (option_map new) is ∙ ap Some (grew o refl n)

by_idle : (m : Mode) (v : ℕ) (o : Operation) (old new : ℕ → ℕ) (before after : Option ℕ) → after ≡ option_map (λ n. stored_kept m n v) before → m ≡ Folds o → ((n : ℕ) → new n ≡ old n)
    → option_map new after ≡ option_map old before
by_idle m v o old new before after is folds same = by before (is ∙ ap (λ k. option_map (λ n. stored_kept k n v) before) folds)
  where
    by : (before : Option ℕ) → after ≡ option_map (λ (n : ℕ). n) before → option_map new after ≡ option_map old before
    by None is = ap (option_map new) is
    by (Some n) is = ap (option_map new) is ∙ ap Some (same n)

-- where no written cell has copies, and each cell is folded into by one operation, what cells are worth is joined as stored
-- numbers were when each copy was combined at once
module _ (w : ℕ) (lent : List LentCell) (gs : List Summed) (order : AreInOrder (uses_of lent)) (rows : All (λ l. is_fold l.mode ≡ true → IsSome (copy_among gs w l.cell)) lent)
    (none : All (λ l. l.mode ≡ Writes → ¬ IsSummed gs l.cell) lent) (own : All (λ l. (op : Operation) → l.mode ≡ Folds op → IsOnlyBy gs op l.cell) lent) where
  -- a lent cell's value changes what it is worth so
  changed : (f : ℕ → ℕ) (o : Operation) (k : ℕ) (d : LentCell) → k < length lent → (get_or lent k d).mode ≡ Folds o
      → ((n : ℕ) (hs : List Summed) → IsOnlyBy hs o (get_or lent k d).cell → copy_among hs w (get_or lent k d).cell ≡ Some n
      → (s : ℕ) → worth_over (copies_folded w (get_or lent k d).cell (get_or lent k d).value hs) (get_or lent k d).cell s ≡ f (worth_over hs (get_or lent k d).cell s))
      → (s : ℕ) → worth_over (all_back w lent gs) (get_or lent k d).cell s ≡ f (worth_over gs (get_or lent k d).cell s)
  changed f o k d within mode step s =
      let l = get_or lent k d in
      back-changed w f o l step lent k gs (apart lent order) within (get_or_default lent k d l within) mode (own k d within o mode) (rows k d within (ap is_fold mode)) s

  pub joined-worth : (st st' : Cell → Option ℕ) → AreStored lent st st' → AreJoined lent (worth_with gs st) (worth_with (all_back w lent gs) st')
  joined-worth st st' stored = record {
    lent_cells = λ k d within. let l = get_or lent k d in
        by_mode l.value (worth_over gs l.cell) (worth_over (all_back w lent gs) l.cell) l.mode (st l.cell) (st' l.cell) (stored.lent_cells k d within)
        (λ not n. back-other w lent gs l.cell (others-fold lent k d (apart lent order) within not) n)
        (λ writes n. worth-unsummed gs l.cell (none k d within writes) n)
        (λ o folds n. changed (λ m. join_by o m l.value) o k d within folds (λ m hs only at s. worth-grew w l.value l.cell o m hs only at s) n);
    untouched = λ k d within o folds unit. let l = get_or lent k d in
        by_idle l.mode l.value o (worth_over gs l.cell) (worth_over (all_back w lent gs) l.cell) (st l.cell) (st' l.cell) (stored.lent_cells k d within) folds
        (λ n. changed (λ m. m) o k d within folds (λ m hs only at s. worth-idle w l.value l.cell o unit m hs only at s) n);
    others = λ other away. ap (λ o. option_map (worth_over (all_back w lent gs) other) o) (stored.others other away)
        ∙ same_worth (worth_over (all_back w lent gs) other) (worth_over gs other) (st other)
        (λ n. back-other w lent gs other (λ k d within folds same. away (k, get_or lent k d, within, sym (get_or_default lent k d (get_or lent k d) within), same)) n);
  }

stored-push : (lent : List LentCell) (x : LentCell) (before mid after : Cell → Option ℕ) → AreStored lent before mid → All (λ l. l.cell ≢ x.cell) lent
    → after x.cell ≡ option_map (λ n. stored_kept x.mode n x.value) (mid x.cell) → ((other : Cell) → x.cell ≢ other → after other ≡ mid other) → AreStored (lent ++ x ∷ []) before after
stored-push lent x before mid after soon apart now others = record {
  lent_cells = All-push (λ l. after l.cell ≡ option_map (λ n. stored_kept l.mode n l.value) (before l.cell)) lent x
      (λ k d within. others (get_or lent k d).cell (λ same. apart k d within (sym same)) ∙ soon.lent_cells k d within)
      (now ∙ ap (option_map (λ n. stored_kept x.mode n x.value)) (soon.others x.cell (not_lent lent x.cell apart)));
  others = λ other away. others other (λ same. away (Any-push (λ l. l.cell ≡ other) lent x same)) ∙ soon.others other (λ here. away (lent_push lent x other here));
}

pub stored-more : (lent : List LentCell) (k : ℕ) (x : LentCell) (before mid after : Cell → Option ℕ) → AreInOrder (uses_of lent) → k < length lent → x ≡ get_or lent k x → AreStored (take k lent) before mid
    → after x.cell ≡ option_map (λ n. stored_kept x.mode n x.value) (mid x.cell) → ((other : Cell) → x.cell ≢ other → after other ≡ mid other) → AreStored (take (k + 1) lent) before after
stored-more lent k x before mid after order within is soon now others =
    let more : take k lent ++ x ∷ [] ≡ take (k + 1) lent = ap (λ y. take k lent ++ y ∷ []) is ∙ sym (take_more lent k x within) in
    subst (λ ls. AreStored ls before after) more (stored-push (take k lent) x before mid after soon (others_before lent k x order within is) now others)

-- one element more
pub all-more : (P : LentCell → Type 0) (lent : List LentCell) (k : ℕ) (x : LentCell) → k < length lent → x ≡ get_or lent k x → All P (take k lent) → P x → All P (take (k + 1) lent)
all-more P lent k x within is all one =
    let more : take k lent ++ x ∷ [] ≡ take (k + 1) lent = ap (λ y. take k lent ++ y ∷ []) is ∙ sym (take_more lent k x within) in
    subst (All P) more (All-push P (take k lent) x all one)
