-- Bytes that are heard, one behind the other.
use Rattle.std.proofs.Common.{◌≡◌, ℕ, ◌+◌, List, [], ◌++◌, length, length-append, append_assoc, append-nil, refl, sym, ap, ◌∙◌, arith}
use Rattle.std.specs.Prelude.{Option, Some, None}
use Rattle.std.specs.Io.KnownBytes.{Consumes, prepend_known}
use Rattle.std.proofs.KnownBytes.{Consumes-nil, Consumes-trans}
use Rattle.ot_lines.specs.Lines.{Flow, count_after, Hearing, Passes, stream}
use Rattle.ot_lines.proofs.Counting.{count_after-both}

-- nothing was heard
pub passes_nothing : (h : Hearing) (f : Flow) → Passes h f h f [] 0 0
passes_nothing h f = record {
  heard = Consumes-nil (stream h f);
  earlier = [];
  since = append-nil h.since;
  latest = λ is. is;
  longest = refl;
  most = refl;
  reads = 0;
  unread = λ none. refl;
  left = omega arith;
  gave = omega arith;
  counted = refl;
  failed = refl;
  ended = refl;
}

joined : (s xs ys e m d t : List ℕ) → s ++ xs ≡ e ++ m → m ++ ys ≡ d ++ t → s ++ (xs ++ ys) ≡ (e ++ d) ++ t
joined s xs ys e m d t first second =
    sym (append_assoc s xs ys) ∙ ap (λ zs. zs ++ ys) first ∙ append_assoc e m ys ∙ ap (λ zs. e ++ zs) second ∙ sym (append_assoc e d t)

-- one behind the other
pub passes_on : {a b c : Hearing} {f g h : Flow} (xs ys : List ℕ) {n m : ℕ} → Passes a f b g xs 0 0 → Passes b g c h ys n m → Passes a f c h (xs ++ ys) n m
passes_on {a} {b} {c} {f} {g} {h} xs ys {n} {m} p q = record {
  heard = Consumes-trans (stream a f) (stream b g) (stream c h) xs ys p.heard q.heard;
  earlier = p.earlier ++ q.earlier;
  since = joined a.since xs ys p.earlier b.since q.earlier c.since p.since q.since;
  latest = λ is. q.latest (p.latest is);
  longest = q.longest ∙ p.longest;
  most = q.most ∙ p.most;
  reads = p.reads + q.reads;
  unread = λ none. p.unread (omega (arith, none)) ∙ ap (λ zs. xs ++ zs) (q.unread (omega (arith, none))) ∙ sym (append_assoc xs ys c.ahead);
  left = omega (arith, p.left, q.left);
  gave = omega (arith, p.gave, q.gave, length-append xs ys);
  counted = q.counted ∙ ap (count_after q.reads) p.counted ∙ count_after-both p.reads q.reads f.reads;
  failed = q.failed ∙ ap (count_after n) p.failed;
  ended = q.ended ∙ ap (count_after m) p.ended;
}

-- ---- from the front of what was read

consumes_front : (ahead xs rest : List ℕ) (known : Option (List ℕ)) → ahead ≡ xs ++ rest → Consumes (prepend_known ahead known) (prepend_known rest known) xs
consumes_front ahead xs rest None is = tt
consumes_front ahead xs rest (Some ys) is = ap (λ zs. zs ++ ys) is ∙ append_assoc xs rest ys

pub passes_front : (h new : Hearing) (f : Flow) (xs : List ℕ) → h.ahead ≡ xs ++ new.ahead → new.since ≡ h.since ++ xs → new.longest ≡ h.longest → new.most ≡ h.most → new.left ≡ h.left
    → Passes h f new f xs 0 0
passes_front h new f xs front since longest most left = record {
  heard = consumes_front h.ahead xs new.ahead f.ahead front;
  earlier = [];
  since = sym since;
  latest = λ is. omega (arith, is, ap length front, length-append xs new.ahead, ap length since, length-append h.since xs);
  longest = longest;
  most = most;
  reads = 0;
  unread = λ none. front;
  left = omega (arith, left);
  gave = omega (arith, ap length front, length-append xs new.ahead);
  counted = refl;
  failed = refl;
  ended = refl;
}
