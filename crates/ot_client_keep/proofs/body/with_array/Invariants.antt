use Rattle.std.proofs.Common.{◌≡◌, ◌-◌, ◌≤◌, ◌++◌, List, length, map}
use Rattle.std.specs.Prelude.{All, replicate}
use Rattle.std.specs.List.{concat}
use Rattle.ot_client_keep.specs.Files.{Fits, Piece, new_line, put_line, cells_written}
use Rattle.ot_client_keep.proofs.BodyLemmas.{so_far}
use Rattle.ot_client_keep.proofs.body.with_array.Given as goal

-- the pieces so far make the cells before `at`
abbrev pub invariant-loop-at : goal.invariant-loop-at
invariant-loop-at l =
    (l.at ≤ length l.cells)
    × (pieces : List Piece)
    × All (Fits (length l.cells)) pieces
    × (cells_written (replicate (length l.cells) 0) pieces ≡ so_far l.cells l.at)
    × (l.text.items ≡ l.fn.text.items ++ (new_line l.name (length l.cells) ++ concat (map (put_line l.name) pieces)))

abbrev pub decreases-loop-at : goal.decreases-loop-at
decreases-loop-at l = length l.cells - l.at
