-- Requests that run a program, by their length.
use Rattle.std.proofs.Common.{◌≡◌, ◌≢◌, List, [], ◌∷◌, length, get_or, codes, refl, sym, arith}
use Rattle.std.specs.Prelude.{None, if◌then◌else◌}
use Rattle.serde_json.specs.Data.{array}
use Rattle.serde_json.specs.View.{view, items_view}
use Rattle.serde_json.specs.declared.value.Value.{Value}
use Rattle.ot_model.specs.Programs.{Arrays}
use Rattle.ot_program.specs.Meanings.{is_word}
use Rattle.ot_program.specs.Programs.{program_of}
use Rattle.ot_why_reason.specs.Runs.{run_of, read_or_none}

pub no_run : (shape : Arrays) (vs : List Value) → length vs ≢ 2 → run_of shape (array (items_view vs)) ≡ None
no_run shape (a ∷ b ∷ []) other = absurd (other refl)
no_run shape _ other = refl

pub a_run : (shape : Arrays) (vs : List Value) (t d : Value) → length vs ≡ 2 → t ≡ get_or vs 0 t → d ≡ get_or vs 1 d →
    run_of shape (array (items_view vs)) ≡ (if is_word (view t) (codes "run") then read_or_none (program_of shape (view d)) else None)
a_run shape (x ∷ y ∷ []) t d two p q = rw (sym p, sym q) refl
a_run shape _ t d two p q = absurd (omega arith)

pub ruleset runs = (no_run, a_run)
