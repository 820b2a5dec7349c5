-- A request that isn't taken, and where it is refused.
use Rattle.std.proofs.Common.{◌≡◌, ◌+◌, ℕ, List, refl, sym, ap, ◌∙◌, subst, Bool, true, false, inl, inr}
use Rattle.std.specs.Prelude.{Option, Some, None, option_map, MatchOption, slice_range, unwrap_or, if◌then◌else◌}
use Rattle.ot_file_diagnosis.specs.declared.diagnosis.Place.{Place}
use Rattle.ot_book.specs.Answers as r
use Rattle.ot_book.specs.Books.{Register, last_told}
use Rattle.ot_file_judge.specs.Judging.{statement_place, fault_offset, IsInPiece, IsPlacedAt, IsPlacedBy, IsPlacedIn, IsPlaced, IsBookBehind}
use Rattle.ot_file_judge.specs.Found.{found_as}
use Rattle.serde_json.specs.Data.{Data}
use Rattle.serde_json.specs.View.{view}
use Rattle.ot_model.specs.Programs.{Arrays}
use Rattle.ot_store.specs.Arrays.{shape_in}
use Rattle.ot_file_diagnosis.specs.Diagnoses.{place_in}
use Rattle.ot_file_judge.specs.declared.findings.Found.{Found}

pub match_none : {T : Type 0} (o : Option T) (A : Type 0) (B : T → Type 0) → o ≡ None → MatchOption o A B → A
match_none None A B is h = h
match_none (Some x) A B is h = absurd (cc)

pub match_some : {T : Type 0} (o : Option T) (A : Type 0) (B : T → Type 0) (x : T) → o ≡ Some x → MatchOption o A B → B x
match_some o A B x is h = subst (λ p. MatchOption p A B) is h

placed_by : (told : Option r.Told) (request : Option Data) (shape : Arrays) (blank : List ℕ) (start end : ℕ) (spot : Place) →
    ((code number : ℕ) → told ≡ Some (r.Offends code number) → spot ≡ statement_place request blank start end number) →
    ((code : ℕ) → told ≡ Some (r.Refused code) → IsPlacedAt request shape blank start end spot) →
    IsInPiece blank start end spot → IsPlacedBy told request shape blank start end spot
placed_by None request shape blank start end spot exact fault inside = inside
placed_by (Some r.Accepted) request shape blank start end spot exact fault inside = inside
placed_by (Some (r.Cells values)) request shape blank start end spot exact fault inside = inside
placed_by (Some (r.Arrays arrays)) request shape blank start end spot exact fault inside = inside
placed_by (Some (r.Used units)) request shape blank start end spot exact fault inside = inside
placed_by (Some (r.Done tasks units shows)) request shape blank start end spot exact fault inside = inside
placed_by (Some (r.Refused code)) request shape blank start end spot exact fault inside = fault code refl
placed_by (Some (r.Offends code number)) request shape blank start end spot exact fault inside = exact code number refl
placed_by (Some r.Lost) request shape blank start end spot exact fault inside = inside

-- where the log isn't full
pub placed_found : (blank : List ℕ) (f : Found) (book : Register) (spot : Place) → f.ends ≡ false →
    ((code number : ℕ) → last_told book ≡ Some (r.Offends code number) → spot ≡ statement_place (option_map view f.request) blank f.start f.end number) →
    ((code : ℕ) → last_told book ≡ Some (r.Refused code) → IsPlacedAt (option_map view f.request) (shape_in book.limits book.store) blank f.start f.end spot) →
    IsInPiece blank f.start f.end spot → IsPlaced blank (found_as f book) spot
placed_found blank f book spot full exact fault inside =
    subst (λ t. IsPlacedIn (if t then None else Some book) (option_map view f.request) blank f.start f.end spot) (sym full)
    (placed_by (last_told book) (option_map view f.request) (shape_in book.limits book.store) blank f.start f.end spot exact fault inside)

-- so many bytes of a piece, as a spot in the file
pub placed_fault : (value : Option Data) (book : Register) (blank : List ℕ) (start end place : ℕ) (spot : Place) → spot ≡ place_in blank (start + place) →
    IsInPiece blank start end spot →
    ((request : Data) → value ≡ Some request → place ≡ unwrap_or (fault_offset (shape_in book.limits book.store) (slice_range blank start end) request) 0) →
    IsPlacedAt value (shape_in book.limits book.store) blank start end spot
placed_fault None book blank start end place spot at inside fault = inside
placed_fault (Some request) book blank start end place spot at inside fault = at ∙ ap (λ n. place_in blank (start + n)) (fault request refl)

behind_by : (t long : Bool) (start end : ℕ) (request : Option Data) (book : Register) →
    IsBookBehind (record { start = start; end = end; request = request; book = if t then None else Some book; is_long = long }) book
behind_by true long start end request book = inl refl
behind_by false long start end request book = inr refl

pub behind_found : (f : Found) (book : Register) → IsBookBehind (found_as f book) book
behind_found f book = behind_by f.ends f.is_long f.start f.end (option_map view f.request) book
