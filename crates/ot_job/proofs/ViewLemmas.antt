-- What the code does to its lists, told of the regions and numbers in them.
use Rattle.std.proofs.Common.{◌≡◌, ℕ, List, get_or, set, ◌∙◌, ap, Result, Ok, Err, OnErr, OnOk}
use Rattle.ot_job.proofs.Common.{updated, Region}
use Rattle.ot_model.proofs.CellsLemmas.{set-updated}

-- one region is replaced by what it changes to
pub set-changed : (rs : List Region) (i : ℕ) (x y : Region) (f : Region → Region) → x ≡ get_or rs i x → y ≡ f x → set rs i y ≡ updated rs i f
set-changed rs i x y f is same = set-updated rs i y x f (same ∙ ap f is)

pub on_err_always : {T E P : Type 0} (r : Result T E) → P → OnErr r P
on_err_always (Ok x) p = tt
on_err_always (Err e) p = p

-- what follows from the one and from the other holds in any case
pub on_both : {T E P Q A : Type 0} (r : Result T E) → OnOk r P → OnErr r Q → (P → A) → (Q → A) → A
on_both (Ok x) p q f g = f p
on_both (Err e) p q f g = g q
