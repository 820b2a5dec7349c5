-- The place of a statement, as so many bytes of its piece.
use Rattle.std.proofs.Common.{◌≡◌, ℕ, List, sym, ap, ◌∙◌}
use Rattle.std.specs.Prelude.{Option, Some, None, option_map, option_and_then, unwrap_or}
use Rattle.serde_json.specs.Data.{Data}
use Rattle.ot_program.specs.Meanings.{Bindings}
use Rattle.ot_file_text.specs.Items.{offset_of}
use Rattle.ot_why_place.specs.Spots.{Path, Spot, statements_of, item_numbered, place_at, place_by}
use Rattle.ot_why_place.specs.declared.trail.Place.{Place}
use Rattle.ot_file_judge.specs.Judging.{is_program, path_in_piece, spot_offset, statement_offset}

path_by : (piece : List ℕ) (place : Place) (spot : Option Spot) → Some (place_by place) ≡ option_map place_at spot →
    option_and_then (spot_offset piece) spot ≡ offset_of piece (path_in_piece (is_program piece) place.path.items)
path_by piece place None is = absurd (cc)
path_by piece place (Some s) is =
    ap (λ (o : Option (Path × Bindings)). unwrap_or (option_map (λ (p : Path × Bindings). offset_of piece (path_in_piece (is_program piece) p.0)) o) None) (sym is)

pub statement_by : (piece : List ℕ) (number : ℕ) (d : Data) (place : Place) (found : Option Place) →
    option_map place_by found ≡ option_map place_at (item_numbered number (statements_of d)) → found ≡ Some place →
    statement_offset (Some d) piece number ≡ offset_of piece (path_in_piece (is_program piece) place.path.items)
statement_by piece number d place found place_is is =
    path_by piece place (item_numbered number (statements_of d)) (sym (ap (λ p. option_map place_by p) is) ∙ place_is)
