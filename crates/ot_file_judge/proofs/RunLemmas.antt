-- Requests that run a program, by their length.
use Rattle.std.proofs.Common.{◌≡◌, ◌≢◌, List, [], ◌∷◌, length, get_or, codes, refl, sym, arith, false}
use Rattle.serde_json.specs.Data.{array}
use Rattle.serde_json.specs.View.{view, items_view}
use Rattle.serde_json.specs.declared.value.Value.{Value}
use Rattle.ot_program.specs.Meanings.{is_word}
use Rattle.ot_file_judge.specs.Judging.{runs_program}

pub no_run : (vs : List Value) → length vs ≢ 2 → runs_program (array (items_view vs)) ≡ false
no_run (a ∷ b ∷ []) other = absurd (other refl)
no_run _ other = refl

pub a_run : (vs : List Value) (t : Value) → length vs ≡ 2 → t ≡ get_or vs 0 t → runs_program (array (items_view vs)) ≡ is_word (view t) (codes "run")
a_run (x ∷ y ∷ []) t two p = rw (sym p) refl
a_run _ t two p = absurd (omega arith)

pub ruleset runs = (no_run, a_run)
