-- The text of a set or a fold determines it.
use Rattle.std.proofs.Common.{◌≡◌, ◌==◌, List, [], ◌∷◌, ◌++◌, if◌then◌else◌, refl, sym, ap, ◌∙◌, append_assoc, true≢false}
use Rattle.std.specs.Prelude.{Option, Some, None, codes, decimal}
use Rattle.std.proofs.lemmas.List.{append_cancel_left}
use Rattle.ot_model.specs.declared.expr.Cell.{Cell}
use Rattle.ot_model.specs.declared.fold.Fold.{Fold as Operation}
use Rattle.ot_model.specs.declared.fold.Fold.TheVariants as f
use Rattle.ot_model.specs.Tree.{E}
use Rattle.ot_show_print.specs.Shown.{Text, name, cell, value}
use Rattle.ot_show_print.specs.Laws.{write_sign, HasSign, WriteIsDetermined, CalledFoldIsShownAsSet}
use Rattle.ot_show_print.proofs.WordLemmas.{tail_of}
use Rattle.ot_show_print.proofs.ValueLemmas.{opened, same_cell, cell_shown, determined}

abbrev pub kind_at : Text → Option Operation
kind_at [] = None
kind_at (b ∷ []) = None
kind_at (b ∷ c ∷ t) = if c == 43 then Some f.Plus else if c == 42 then Some f.Times else if c == 38 then Some f.And else if c == 124 then Some f.Or else if c == 94 then Some f.Xor else None

pub kind_back : (k : Option Operation) (t : Text) → HasSign k → kind_at (write_sign k ++ t) ≡ k
kind_back None t h = refl
kind_back (Some f.Plus) t h = refl
kind_back (Some f.Times) t h = refl
kind_back (Some f.And) t h = refl
kind_back (Some f.Or) t h = refl
kind_back (Some f.Xor) t h = refl
kind_back (Some f.Min) t h = absurd (true≢false h)
kind_back (Some f.Max) t h = absurd (true≢false h)

pub write_shown : (names : List Text) (k : Option Operation) (c : Cell) (a : E) → cell names c ++ write_sign k ++ value names a ≡ name names c.array ++ (91 ∷ (decimal c.index ++ (93 ∷ (write_sign k ++ value names a))))
write_shown names k c a = append_assoc (cell names c) (write_sign k) (value names a) ∙ cell_shown names c (write_sign k ++ value names a)

pub write_law : WriteIsDetermined
write_law names are k l c d a b hk hl fc fd fa fb is =
    let all = opened names are c.array d.array c.index d.index (93 ∷ (write_sign k ++ value names a)) (93 ∷ (write_sign l ++ value names b)) fc.0 fd.0 fc.1 fd.1 refl refl (sym (write_shown names k c a) ∙ is ∙ write_shown names l d b) in
    let rest : write_sign k ++ value names a ≡ write_sign l ++ value names b = ap tail_of all.2 in
    let kinds : k ≡ l = sym (kind_back k (value names a) hk) ∙ ap kind_at rest ∙ kind_back l (value names b) hl in
    let values = append_cancel_left (write_sign k) (value names a) (value names b) (rest ∙ ap (λ q. write_sign q ++ value names b) (sym kinds)) in
    (kinds, same_cell c d all.0 all.1, ((determined names are a fa).value b [] [] fb refl refl (ap (λ t. t ++ []) values)).0)

grouped : (x w y z v u : Text) → x ++ w ++ y ++ z ++ v ++ u ≡ x ++ (w ++ y ++ z ++ v ++ u)
grouped x w y z v u = simp append_assoc refl

pub called_law : CalledFoldIsShownAsSet
called_law names c e = (
  grouped (cell names c ++ codes " = ") (codes "max(") (cell names c) (codes ", ") (value names e) (codes ")"),
  grouped (cell names c ++ codes " = ") (codes "min(") (cell names c) (codes ", ") (value names e) (codes ")"),
)
