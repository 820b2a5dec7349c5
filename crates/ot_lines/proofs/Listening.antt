-- One line more for who listens.
use Rattle.std.proofs.Common.{◌≡◌, ℕ, zero, suc, ◌+◌, ◌*◌, ◌<◌, ◌≤◌, List, [], ◌∷◌, ◌++◌, length, length-append, append_assoc, append-nil, sym, ap, subst, refl, ◌∙◌, arith}
use Rattle.std.specs.Prelude.{All, Result, Ok, Err, ⊤}
use Rattle.std.proofs.lemmas.List.Elements.{All-append}
use Rattle.std.proofs.Math.Nat.{mul-le-mul_right}
use Rattle.ot_lines.specs.Lines.{Flow, Hearing, Passes, Hears, lines_ended, IsLine, Went, Through, Stops, Ends}
use Rattle.ot_lines.specs.declared.lines.Heard.TheVariants.{Line, End, Long}
use Rattle.ot_lines.specs.declared.lines.LineFault.{LineFault}
use Rattle.ot_lines.specs.declared.lines.LineFault.TheVariants.{ReadFailed, TooManyReads}
use Rattle.ot_lines.specs.declared.listener.Ended.TheVariants as ended_as
use Rattle.ot_lines.proofs.Passing.{passes_nothing, passes_on}

pub ended-append : (lines more : List (List ℕ)) → lines_ended (lines ++ more) ≡ lines_ended lines ++ lines_ended more
ended-append [] more = refl
ended-append (l ∷ lines) more = ap (λ rest. l ++ 10 ∷ rest) (ended-append lines more) ∙ sym (append_assoc l (10 ∷ lines_ended lines) (lines_ended more))

all_one : (P : List ℕ → Type 0) (line : List ℕ) → P line → All P (line ∷ [])
all_one P line is zero other within = is
all_one P line is (suc k) other within = absurd (omega (arith, within))

module _ {S A X : Type 0} (took : S → A → List ℕ → S → A → Result ⊤ X → Type 0) where
  went-behind : (old : S) (answers : A) (mid : S) (more : A) (new : S) (told : A) (lines : List (List ℕ)) (line : List ℕ) → Went took old answers lines mid more → took mid more line new told (Ok tt)
      → Went took old answers (lines ++ line ∷ []) new told
  went-behind old answers mid more new told [] line is t = (new, told, subst (λ s. took s answers line new told (Ok tt)) is.0 (subst (λ a. took mid a line new told (Ok tt)) is.1 t), (refl, refl))
  went-behind old answers mid more new told (l ∷ lines) line (next, said, first, later) t = (next, said, first, went-behind next said mid more new told lines line later t)

  -- no line was heard yet
  pub through_nothing : (h : Hearing) (f : Flow) (s : S) (a : A) → Through took h f s a h f s a [] 0 0
  through_nothing h f s a = record {
    lines = [];
    are = λ k line within. absurd (omega (arith, within));
    passes = passes_nothing h f;
    went = (refl, refl);
  }

  -- so much more of the stream was heard
  pub through_more : {from mid to : Hearing} {f g h : Flow} {old now : S} {answers told : A} (rest : List ℕ) {n m : ℕ}
      → Through took from f old answers mid g now told [] 0 0 → Passes mid g to h rest n m → Through took from f old answers to h now told rest n m
  through_more {from} {mid} {to} {f} {g} {h} rest {n} {m} t more = record {
    lines = t.lines;
    are = t.are;
    passes = passes_on (lines_ended t.lines) rest (subst (λ bytes. Passes from f mid g bytes 0 0) (append-nil (lines_ended t.lines)) t.passes) more;
    went = t.went;
  }

  -- a line was taken
  pub through_line : {from to : Hearing} {f h : Flow} {old now : S} {answers told : A} (new : S) (said : A) (line : List ℕ)
      → Through took from f old answers to h now told (line ++ 10 ∷ []) 0 0 → IsLine from.longest line → took now told line new said (Ok tt) → Through took from f old answers to h new said [] 0 0
  through_line {from} {to} {f} {h} {old} {now} {answers} {told} new said line t is took_it = record {
    lines = t.lines ++ line ∷ [];
    are = All-append (IsLine from.longest) t.lines (line ∷ []) t.are (all_one (IsLine from.longest) line is);
    passes = subst (λ bytes. Passes from f to h bytes 0 0) (sym (ended-append t.lines (line ∷ [])) ∙ sym (append-nil (lines_ended (t.lines ++ line ∷ [])))) t.passes;
    went = went-behind old answers now told new said t.lines line t.went took_it;
  }

  -- the line that comes next
  pub next_line : {from mid to : Hearing} {f g h : Flow} {old now : S} {answers told : A}
      → Through took from f old answers mid g now told [] 0 0 → Hears mid g to h (Ok Line) → IsLine from.longest to.line
  next_line t hears = record {
    clean = hears.clean;
    short = omega (arith, hears.is.0, hears.passes.longest, t.passes.longest);
  }

  pub goes_on : {from mid to : Hearing} {f g h : Flow} {old now : S} {answers told : A} (new : S) (said : A)
      → Through took from f old answers mid g now told [] 0 0 → Hears mid g to h (Ok Line) → took now told to.line new said (Ok tt) → Through took from f old answers to h new said [] 0 0
  goes_on {to = to} new said t hears took_it = through_line new said to.line (through_more (to.line ++ 10 ∷ []) t hears.passes) (next_line t hears) took_it

  pub stops : {from mid to : Hearing} {f g h : Flow} {old now : S} {answers told : A} (new : S) (said : A) (why : X)
      → Through took from f old answers mid g now told [] 0 0 → Hears mid g to h (Ok Line) → took now told to.line new said (Err why) → Stops took from f old answers to h new said why
  stops {to = to} {now = now} {told = told} new said why t hears took_it = record {
    mid = now;
    more = told;
    through = through_more (to.line ++ 10 ∷ []) t hears.passes;
    is = next_line t hears;
    amid = hears.is.1;
    last = took_it;
  }

  pub ends : {from mid to : Hearing} {f g h : Flow} {old now : S} {answers told : A}
      → Through took from f old answers mid g now told [] 0 0 → Hears mid g to h (Ok End) → Ends took from f old answers to h now told (Ok ended_as.End)
  ends {to = to} t hears = record {
    through = through_more to.line t hears.passes;
    clean = hears.clean;
    is = hears.is;
  }

  pub ends_long : {from mid to : Hearing} {f g h : Flow} {old now : S} {answers told : A}
      → Through took from f old answers mid g now told [] 0 0 → Hears mid g to h (Ok Long) → Ends took from f old answers to h now told (Ok ended_as.Long)
  ends_long {to = to} t hears = record {
    through = through_more to.line t hears.passes;
    clean = hears.clean;
    is = hears.is;
  }

  pub ends_fault : {from mid to : Hearing} {f g h : Flow} {old now : S} {answers told : A} (fault : LineFault)
      → Through took from f old answers mid g now told [] 0 0 → Hears mid g to h (Err fault) → Ends took from f old answers to h now told (Err fault)
  ends_fault {to = to} ReadFailed t hears = record {
    through = through_more to.line t hears.passes;
    clean = hears.clean;
    is = hears.is;
  }
  ends_fault {to = to} TooManyReads t hears = record {
    through = through_more to.line t hears.passes;
    clean = hears.clean;
    is = hears.is;
  }

-- ---- there is an end

abbrev pub to_come : Hearing → ℕ
to_come h = h.left * suc h.most + length h.ahead

below : (a b m n k : ℕ) → suc a ≤ b → n ≤ m → a * suc m + n < b * suc m + k
below a b m n k less within =
    let times : suc a * suc m ≤ b * suc m = mul-le-mul_right (suc m) less in
    omega (arith, times, within, one_more a m)
  where
    one_more : (a m : ℕ) → suc a * suc m ≡ a * suc m + suc m
    one_more a m = omega arith

pub fewer : {old new : Hearing} {f g : Flow} → Hears old f new g (Ok Line) → to_come new < to_come old
fewer {old} {new} {f} {g} hears = by_reads hears.passes.reads refl
  where
    by_reads : (reads : ℕ) → hears.passes.reads ≡ reads → to_come new < to_come old
    by_reads zero none =
        let some = ap length (hears.passes.unread none) in
        let left : new.left ≡ old.left = omega (arith, none, hears.passes.left) in
        let same : new.left * suc new.most ≡ old.left * suc old.most = ap (λ n. n * suc new.most) left ∙ ap (λ n. old.left * suc n) hears.passes.most in
        omega (arith, some, same, length-append (new.line ++ 10 ∷ []) new.ahead, length-append new.line (10 ∷ []))
    by_reads (suc reads) is =
        let less = below new.left old.left new.most (length new.ahead) (length old.ahead) (omega (arith, is, hears.passes.left)) (omega (arith, hears.is.1.within)) in
        subst (λ m. new.left * suc new.most + length new.ahead < old.left * suc m + length old.ahead) hears.passes.most less
