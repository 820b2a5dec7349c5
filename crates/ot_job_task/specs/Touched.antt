-- What a piece touches.
pub use Rattle.ot_parts.specs.Modes.{assign_touches, test_touches, piece_touches}
