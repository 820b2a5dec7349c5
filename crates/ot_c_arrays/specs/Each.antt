-- One after another, up to the first that is refused.
use Rattle.std.specs.Prelude.{List, [], ◌∷◌, Result, Ok}
use Rattle.ot_c_scope.specs.Results.{Refusal, ◌>>=◌}

unfoldable pub each_or_refused : {A B : Type 0} → (A → B → Result A Refusal) → A → List B → Result A Refusal
each_or_refused step a [] = Ok a
each_or_refused step a (b ∷ bs) = step a b >>= λ c. each_or_refused step c bs
