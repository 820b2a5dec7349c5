-- Each piece that is out holds what it touches.
use Rattle.std.proofs.Common.{◌≡◌, Bool, true, false, List, refl, sym, ap, subst, ◌∙◌, inl, inr, true≢false, Option, Some, None, if◌then◌else◌}
use Rattle.ot_job.proofs.Common.{lengths, mode_in, Cell, Operation, Mode, Reads, Writes, Folds, Use, use_as, Declared, allows, folds_to, held_mode, held_as, mode_held, Holds, touches_out, Live, IsRight, at, OnlyFolds, IsOnCourse}
use Rattle.ot_check.proofs.Cited.{one_op}
use Rattle.ot_job.specs.Holding.{Touches, OnlyReads, FoldsNone, AllHold, ArePiecesApart}
use Rattle.ot_job.proofs.CoverLemmas.{Covers, covered}
use Rattle.ot_job.proofs.FoldLemmas.{held-alike, only-unread, only-unwritten}
use Rattle.ot_job.proofs.RightsLemmas.{touch-may}
use Rattle.ot_job.proofs.HoldsLemmas.{Among, held-right, among, contained}
use Rattle.ot_job.proofs.OpenLemmas.{placed, named-at, pieces_apart}

-- ---- the modes of a piece, case by case

-- of a touch that is covered by what is read, the mode is Reads
only-reads : (own : Declared) (u : Use) → Covers (Some Reads) (mode_held own u) → u.mode ≡ Reads
only-reads own u h = by u.mode refl h
  where
    fold : (o : Operation) (b : Bool) → Covers (Some Reads) (if b then Folds o else Writes) → ⊥
    fold o true h = h
    fold o false h = h

    by : (m : Mode) → u.mode ≡ m → Covers (Some Reads) (held_as own u.cell m) → u.mode ≡ Reads
    by Reads e h = e
    by Writes e h = absurd h
    by (Folds o) e h = absurd (fold o (folds_to own o u.cell) h)

module _ (own : Declared) (us d : List Use) (modes : (c : Cell) → mode_in d c ≡ held_mode own us c)
    (may : (u : Use) → Among u us → allows own u ≡ true) (exclusive : (o : Operation) (c : Cell) → folds_to own o c ≡ true → OnlyFolds o own c) where
  abbrev Right : Mode → Cell → Type 0
  Right m c = IsRight own (λ u. Among u us) (use_as m c)

  -- a cell that is touched is held in some mode, as the fold over the touches tells
  touched : (c : Cell) → Touches us c → (m : Mode) × (held_mode own us c ≡ Some m)
  touched c (u, has, is) = by (held_mode own us c) (subst (λ x. Covers (held_mode own us x) (mode_held own u)) is (covered own us None u (among u us has)))
    where
      by : (o : Option Mode) → Covers o (mode_held own u) → (m : Mode) × (o ≡ Some m)
      by None h = absurd h
      by (Some m) h = (m, refl)

  is-right : (c : Cell) (m : Mode) → held_mode own us c ≡ Some m → Right m c
  is-right c = held-right own c (held-alike own c (λ o. exclusive o c)) us

  held-folds : (o : Operation) (c : Cell) (m : Mode) → folds_to own o c ≡ true → Right m c → m ≡ Folds o
  held-folds o c Reads folds t = absurd (only-unread o own c (exclusive o c folds) (may (use_as Reads c) t))
  held-folds o c Writes folds (inl t) = absurd (only-unwritten o own c (exclusive o c folds) (may (use_as Writes c) t))
  held-folds o c Writes folds (inr t) =
      absurd (true≢false (sym folds ∙ subst (λ (p : Operation). folds_to own p c ≡ false) (one_op t.0 o (exclusive o c folds (Folds t.0) (may (use_as (Folds t.0) c) t.1))) t.2))
  held-folds o c (Folds p) folds t = exclusive o c folds (Folds p) (may (use_as (Folds p) c) t.0)

  held-reads : (c : Cell) (m : Mode) → FoldsNone own c → OnlyReads us c → Right m c → m ≡ Reads
  held-reads c Reads none only t = refl
  held-reads c Writes none only (inl t) = only (use_as Writes c) (contained (use_as Writes c) us t) refl
  held-reads c Writes none only (inr t) = absurd (let same : Folds t.0 ≡ Reads = only (use_as (Folds t.0) c) (contained (use_as (Folds t.0) c) us t.1) refl in cc)
  held-reads c (Folds o) none only t = absurd (true≢false (sym t.1 ∙ none o))

  held-writes : (c : Cell) (m : Mode) → FoldsNone own c → ¬ OnlyReads us c → held_mode own us c ≡ Some m → Right m c → m ≡ Writes
  held-writes c Reads none other e t =
      absurd (other (λ u has is. only-reads own u (subst (λ o. Covers o (mode_held own u)) (ap (held_mode own us) is ∙ e) (covered own us None u (among u us has)))))
  held-writes c Writes none other e t = refl
  held-writes c (Folds o) none other e t = absurd (true≢false (sym t.1 ∙ none o))

  untouched : (c : Cell) (m : Mode) → ¬ Touches us c → Right m c → ⊥
  untouched c Reads none t = none (use_as Reads c, contained (use_as Reads c) us t, refl)
  untouched c Writes none (inl t) = none (use_as Writes c, contained (use_as Writes c) us t, refl)
  untouched c Writes none (inr t) = none (use_as (Folds t.0) c, contained (use_as (Folds t.0) c) us t.1, refl)
  untouched c (Folds o) none t = none (use_as (Folds o) c, contained (use_as (Folds o) c) us t.0, refl)

  as-mode : (c : Cell) (m n : Mode) → held_mode own us c ≡ Some m → m ≡ n → mode_in d c ≡ Some n
  as-mode c m n e same = modes c ∙ e ∙ ap Some same

  pub fold-holds : Holds own us d
  fold-holds = record {
    folds = λ o c t folds. let m = touched c t in as-mode c m.0 (Folds o) m.1 (held-folds o c m.0 folds (is-right c m.0 m.1));
    reads = λ c t none only. let m = touched c t in as-mode c m.0 Reads m.1 (held-reads c m.0 none only (is-right c m.0 m.1));
    writes = λ c t none other. let m = touched c t in as-mode c m.0 Writes m.1 (held-writes c m.0 none other m.1 (is-right c m.0 m.1));
    others = λ c none. modes c ∙ by c none (held_mode own us c) refl;
  }
    where
      by : (c : Cell) → ¬ Touches us c → (o : Option Mode) → held_mode own us c ≡ o → o ≡ None
      by c none None e = refl
      by c none (Some m) e = absurd (untouched c m none (is-right c m e))

-- ---- a job on its course

module _ (j : Live) (o : IsOnCourse j) where
  pub course-holds : AllHold j
  course-holds i run is =
      let r = at j.regions i in
      let w = o.runs i run is in
      let whole_placed = placed j.regions o.sound i in
      fold-holds r.own (touches_out r run) run.lease.uses w.modes
      (touch-may (lengths j.cells) r whole_placed (named-at j.regions o.sound (lengths j.cells) o.named o.runs o.begun i) run is w) whole_placed.exclusive

  pub course-apart : ArePiecesApart j
  course-apart i k one two other is also = pieces_apart j.regions o.sound (lengths j.cells) o.named o.runs o.begun i k one two is also other
