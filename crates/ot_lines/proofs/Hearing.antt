-- What is heard, bytes after bytes.
use Rattle.std.proofs.Common.{◌≡◌, ℕ, zero, suc, ◌+◌, ◌<◌, ◌≤◌, List, [], ◌∷◌, ◌++◌, length, append_assoc, append-nil, sym, ap, subst, ◌∙◌, arith}
use Rattle.std.specs.Prelude.{true, false, Option, Some, None, Ok, Err}
use Rattle.std.specs.Io.KnownBytes.{Consumes, Keeps, prepend_known}
use Rattle.ot_lines.specs.declared.lines.Heard.{Heard}
use Rattle.ot_lines.specs.declared.lines.Heard.TheVariants.{Line, End, Long}
use Rattle.ot_lines.specs.declared.lines.LineFault.{LineFault}
use Rattle.ot_lines.specs.declared.lines.LineFault.TheVariants.{ReadFailed, TooManyReads}
use Rattle.ot_lines.specs.Lines.{Flow, next_count, count_after, HasNoEnd, Hearing, Passes, IsIdle, Hears}
use Rattle.ot_lines.specs.Cutting.{Cuts, Fills}
use Rattle.ot_lines.proofs.Passing.{passes_on}

reads_behind : (old new : List ℕ) (before after : Option (List ℕ)) → old ≡ [] → Consumes before after new → Consumes (prepend_known old before) (prepend_known new after) []
reads_behind old new None after none more = tt
reads_behind old new (Some xs) None none more = absurd more
reads_behind old new (Some xs) (Some ys) none more = ap (λ zs. zs ++ xs) none ∙ more

-- a read brings bytes where all were heard
pub passes_read : (old new : Hearing) (f g : Flow) (n m : ℕ) → old.ahead ≡ [] → Consumes f.ahead g.ahead new.ahead → new.since ≡ [] → new.longest ≡ old.longest → new.most ≡ old.most → suc new.left ≡ old.left
    → length new.ahead ≤ g.latest → 0 < length new.ahead + (n + m) → g.reads ≡ next_count f.reads → g.failures ≡ count_after n f.failures → g.ends ≡ count_after m f.ends → Passes old f new g [] n m
passes_read old new f g n m none more since longest most left latest some counted failed ended = record {
  heard = reads_behind old.ahead new.ahead f.ahead g.ahead none more;
  earlier = old.since;
  since = ap (λ xs. old.since ++ xs) (sym since);
  latest = λ is. omega (arith, latest, ap length since);
  longest = longest;
  most = most;
  reads = 1;
  unread = λ one. absurd (omega (arith, one));
  left = omega (arith, left);
  gave = omega (arith, ap length none, some);
  counted = counted;
  failed = failed;
  ended = ended;
}

pub kept : (at after : Option (List ℕ)) → Keeps at after → Consumes at after []
kept None after h = tt
kept (Some xs) None h = h
kept (Some xs) (Some ys) h = sym h

-- ---- the next line

-- one behind the other
pub clean_both : (a b : List ℕ) → HasNoEnd a → HasNoEnd b → HasNoEnd (a ++ b)
clean_both [] b front back k within = back k within
clean_both (x ∷ a) b front back zero within = front zero (omega arith)
clean_both (x ∷ a) b front back (suc k) within = clean_both a b (λ i inside. front (suc i) (omega (arith, inside))) back k (omega (arith, within))

-- so much of the line is heard, and more of it may come
pub record Begun (old : Hearing) (before : Flow) (now : Hearing) (after : Flow) : Type 0 where
  pub passes : Passes old before now after now.line 0 0
  pub clean : HasNoEnd now.line
  pub short : length now.line ≤ now.longest

-- the line ends
pub hears_cut : {old mid new : Hearing} {f g : Flow} (heard : Heard) → Begun old f mid g → Cuts mid new (Some heard) → Hears old f new g (Ok heard)
hears_cut {old} {mid} {new} {f} {g} Line b cut = record {
  passes = subst (λ bytes. Passes old f new g bytes 0 0) (sym (append_assoc mid.line cut.piece (10 ∷ [])) ∙ ap (λ line. line ++ 10 ∷ []) (sym cut.line)) (passes_on mid.line (cut.piece ++ 10 ∷ []) b.passes (cut.passes g));
  clean = subst HasNoEnd (sym cut.line) (clean_both mid.line cut.piece b.clean cut.clean);
  is = cut.is;
}
hears_cut {old} {mid} {new} {f} {g} End b cut = absurd cut.is
hears_cut {old} {mid} {new} {f} {g} Long b cut = record {
  passes = subst (λ bytes. Passes old f new g bytes 0 0) (sym (append_assoc mid.line cut.piece []) ∙ append-nil (mid.line ++ cut.piece) ∙ sym cut.line) (passes_on mid.line (cut.piece ++ []) b.passes (cut.passes g));
  clean = subst HasNoEnd (sym cut.line) (clean_both mid.line cut.piece b.clean cut.clean);
  is = cut.is;
}

-- all that was read is heard
pub begun_idle : {old mid new : Hearing} {f g : Flow} → Begun old f mid g → Cuts mid new None → Begun old f new g
begun_idle {old} {mid} {new} {f} {g} b cut = record {
  passes = subst (λ bytes. Passes old f new g bytes 0 0) (sym (append_assoc mid.line cut.piece []) ∙ append-nil (mid.line ++ cut.piece) ∙ sym cut.line) (passes_on mid.line (cut.piece ++ []) b.passes (cut.passes g));
  clean = subst HasNoEnd (sym cut.line) (clean_both mid.line cut.piece b.clean cut.clean);
  short = cut.is.short;
}

-- more was asked for
pub passes_filled : {old mid new : Hearing} {f g h : Flow} {n m : ℕ} → Begun old f mid g → new.line ≡ mid.line → Passes mid g new h [] n m → Passes old f new h new.line n m
passes_filled {old} {mid} {new} {f} {g} {h} {n} {m} b line p =
    subst (λ bytes. Passes old f new h bytes n m) (append-nil mid.line ∙ sym line) (passes_on mid.line [] b.passes p)

pub idle_filled : {old mid new : Hearing} {f g h : Flow} {n m : ℕ} → Begun old f mid g → new.line ≡ mid.line → Passes mid g new h [] n m → new.ahead ≡ [] → IsIdle new
idle_filled b line p none = record {
  short = omega (arith, b.short, ap length line, p.longest);
  none = none;
}

pub clean_filled : {old mid : Hearing} {f g : Flow} (new : Hearing) → Begun old f mid g → new.line ≡ mid.line → HasNoEnd new.line
clean_filled new b line = subst HasNoEnd (sym line) b.clean

-- nothing more came
pub hears_fault : {old mid new : Hearing} {f g h : Flow} (fault : LineFault) → Begun old f mid g → Fills mid g new h (Err fault) → Hears old f new h (Err fault)
hears_fault {new = new} ReadFailed b fills = record {
  passes = passes_filled b fills.line fills.passes;
  clean = clean_filled new b fills.line;
  is = idle_filled b fills.line fills.passes fills.is;
}
hears_fault {new = new} TooManyReads b fills = record {
  passes = passes_filled b fills.line fills.passes;
  clean = clean_filled new b fills.line;
  is = (idle_filled b fills.line fills.passes fills.is.0, fills.is.1);
}

pub hears_end : {old mid new : Hearing} {f g h : Flow} → Begun old f mid g → Fills mid g new h (Ok false) → Hears old f new h (Ok End)
hears_end {new = new} b fills = record {
  passes = passes_filled b fills.line fills.passes;
  clean = clean_filled new b fills.line;
  is = (idle_filled b fills.line fills.passes fills.is.0, fills.is.1);
}

pub begun_filled : {old mid new : Hearing} {f g h : Flow} → Begun old f mid g → Fills mid g new h (Ok true) → Begun old f new h
begun_filled {new = new} b fills = record {
  passes = passes_filled b fills.line fills.passes;
  clean = clean_filled new b fills.line;
  short = omega (arith, b.short, ap length fills.line, fills.passes.longest);
}
