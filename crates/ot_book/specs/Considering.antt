-- What a line comes to before it is logged.
use Rattle.std.specs.Prelude.{◌≡◌, ◌⊎◌, List, map, length}
use Rattle.ot_model.specs.Programs.{expanded_of}
use Rattle.ot_store.specs.Arrays.{Named, cells_in}
use Rattle.ot_book.specs.Answers.{Lost}
use Rattle.ot_book.specs.ReplyView.{told_of}
use Rattle.ot_book.specs.Answers as answers
use Rattle.ot_book.specs.declared.told.Told.{Told}
use Rattle.ot_book.specs.declared.step.Considered.{Considered}
use Rattle.ot_book.specs.declared.step.Considered.TheVariants.{Now, Runs}

-- memory ran out and nothing has changed, or the step tells this and leaves these arrays
abbrev pub ComesToAnswer : answers.Step → List Named → List Named → Told → Type 0
ComesToAnswer step old new told = ((told_of told ≡ Lost) × (new ≡ old)) ⊎ (step ≡ answers.Now (told_of told) new)

-- a step came to an answer, or to a program whose reply has lists as long as its sections
abbrev pub ComesTo : answers.Step → List Named → List Named → Considered → Type 0
ComesTo step old new (Now told) = ComesToAnswer step old new told
ComesTo step old new (Runs spec shows) =
    (step ≡ answers.Runs (expanded_of spec.checked.program))
    × (spec.before ≡ cells_in old)
    × (new ≡ old)
    × (map (λ l. length l.items) shows.items ≡ map (λ s. s.len) (expanded_of spec.checked.program).shows)
