-- How the crate keeps rights, rows and groups: only the crate knows it.
use Rattle.std.specs.Prelude.{◌+◌, ◌-◌, ℕ, List, [], ◌∷◌, map, length, Option, Some, None, if◌then◌else◌, option_map}
use Rattle.slab.specs.Slab.{get, values, slab_len}
use Rattle.ot_model.specs.declared.expr.Cell.{Cell}
use Rattle.ot_owner.specs.Owning.{Loan, Summed, names, place_in}
use Rattle.ot_owner.specs.Keeping.{Made}
use Rattle.ot_owner.specs.declared.rights.Rights.{Rights}
use Rattle.ot_owner.specs.declared.rows.Row.{Row}
use Rattle.ot_owner.specs.declared.rows.Group.{Group}

-- the loans that are out
abbrev pub loans_in : Rights → List Loan
loans_in r = values r.loans

-- the loan under a key
abbrev pub loan_at : Rights → ℕ → Option Loan
loan_at r key = get r.loans key

-- for how many loans there is a place
abbrev pub spare_in : Rights → ℕ
spare_in r = r.loans.capacity - slab_len r.loans

-- a row that has begun: one that hasn't is only kept for when it does
abbrev pub row_of : Row → Option (List ℕ)
row_of r = if r.begun then Some r.copies.items else None

abbrev pub rows_of : List Row → List (Option (List ℕ))
rows_of rows = map row_of rows

abbrev pub summed_of : Group → Summed
summed_of g = record { group = g.group; op = g.op; uses = g.decl; rows = rows_of g.rows.items }

abbrev pub summeds_of : List Group → List Summed
summeds_of gs = map summed_of gs

-- what is made of a group's rows
abbrev pub made_of : Group → Made
made_of g = record { uses = g.decl; rows = map (λ r. length r.copies.items) g.rows.items }

abbrev pub mades_of : List Group → List Made
mades_of gs = map made_of gs

-- the first group from the number k on that names the cell, and the cell's place there
abbrev pub holder_from : ℕ → List Summed → Cell → Option (ℕ × ℕ)
holder_from k [] c = None
holder_from k (g ∷ gs) c = if names c g then option_map (λ place. (k, place)) (place_in g.uses c) else holder_from (k + 1) gs c
