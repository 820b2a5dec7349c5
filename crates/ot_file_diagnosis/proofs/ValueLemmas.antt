-- The value of a diagnosis has no number with a fraction.
use Rattle.std.proofs.Common.{◌≡◌, ◌-◌, ℕ, Bool, true, false, ◌||◌, List, [], ◌∷◌, map, refl, true≢false, codes}
use Rattle.std.specs.Prelude.{Option, Some, None}
use Rattle.std.specs.Ordering.{nat_cmp, match_ordering}
use Rattle.std.specs.Cmp.Lexicographic.{slice_cmp}
use Rattle.std.specs.declared.cmp.Ordering.{Ordering}
use Rattle.std.specs.declared.cmp.Ordering.TheVariants.{Less, Equal, Greater}
use Rattle.serde_json.specs.Data.{Data, string, object, Members, no_members, member, put}
use Rattle.serde_json.specs.View.{items_of}
use Rattle.serde_json.specs.Written.{has_float, items_have_float, members_have_float}
use Rattle.ot_file_diagnosis.specs.Codes.{severity_text, code_text}
use Rattle.ot_file_diagnosis.specs.Diagnoses.{Remark, Diagnosis, path_of, from_of}
use Rattle.ot_file_diagnosis.specs.Values.{turn_value, with_place, members_of, note_values, diagnosis_value, nat, json_list}
use Rattle.ot_file_diagnosis.specs.declared.diagnosis.Place.{Place}

none_of_two : (a b : Bool) → a ≡ false → b ≡ false → (a || b) ≡ false
none_of_two false b one two = two
none_of_two true b one two = one

not_left : (a b : Bool) → (a || b) ≡ false → a ≡ false
not_left false b none = refl
not_left true b none = none

not_right : (a b : Bool) → (a || b) ≡ false → b ≡ false
not_right false b none = none
not_right true b none = absurd (true≢false none)

placed : (o : Ordering) (k l : List ℕ) (d e : Data) (ms rest : Members) → has_float d ≡ false → has_float e ≡ false → members_have_float ms ≡ false → members_have_float rest ≡ false →
    members_have_float (match_ordering o (member k d (member l e ms)) (member l d ms) (member l e rest)) ≡ false
placed Less k l d e ms rest one two old new = none_of_two (has_float d) (has_float e || members_have_float ms) one (none_of_two (has_float e) (members_have_float ms) two old)
placed Equal k l d e ms rest one two old new = none_of_two (has_float d) (members_have_float ms) one old
placed Greater k l d e ms rest one two old new = none_of_two (has_float e) (members_have_float rest) two new

pub put-plain : (k : List ℕ) (d : Data) (ms : Members) → has_float d ≡ false → members_have_float ms ≡ false → members_have_float (put k d ms) ≡ false
put-plain k d no_members plain none = none_of_two (has_float d) false plain refl
put-plain k d (member l e ms) plain none =
    placed (slice_cmp nat_cmp k l) k l d e ms (put k d ms) plain (not_left (has_float e) (members_have_float ms) none) (not_right (has_float e) (members_have_float ms) none)
    (put-plain k d ms plain (not_right (has_float e) (members_have_float ms) none))

pub map-plain : {X : Type 0} (f : X → Data) (xs : List X) → ((x : X) → has_float (f x) ≡ false) → items_have_float (items_of (map f xs)) ≡ false
map-plain f [] plain = refl
map-plain f (x ∷ xs) plain = none_of_two (has_float (f x)) (items_have_float (items_of (map f xs))) (plain x) (map-plain f xs plain)

place-plain : (from : ℕ) (place : Option Place) (ms : Members) → members_have_float ms ≡ false → members_have_float (with_place from place ms) ≡ false
place-plain from None ms none = none
place-plain from (Some p) ms none =
    let byte = put (codes "byte") (nat (p.byte - from)) ms in
    let line = put (codes "line") (nat p.position.line) byte in
    put-plain (codes "column") (nat p.position.column) line refl
    (put-plain (codes "line") (nat p.position.line) byte refl (put-plain (codes "byte") (nat (p.byte - from)) ms refl none))

members-plain : (name : List ℕ) (r : Remark) → members_have_float (members_of name r) ≡ false
members-plain name r =
    let file = put (codes "file") (string (path_of name r)) no_members in
    let message = put (codes "message") (string r.message) file in
    let turns = json_list (map turn_value r.turns) in
    place-plain (from_of r) r.place (put (codes "turns") turns message) (put-plain (codes "turns") turns message (map-plain turn_value r.turns (λ turn. refl))
    (put-plain (codes "message") (string r.message) file refl (put-plain (codes "file") (string (path_of name r)) no_members refl refl)))

pub diagnosis-plain : (name : List ℕ) (d : Diagnosis) → has_float (diagnosis_value name d) ≡ false
diagnosis-plain name d =
    let told = members_of name d.told in
    let code = put (codes "code") (string (code_text d.code)) told in
    let severity = put (codes "severity") (string (severity_text d.severity)) code in
    put-plain (codes "notes") (json_list (note_values name d.notes)) severity (map-plain (λ note. object (members_of name note)) d.notes (members-plain name))
    (put-plain (codes "severity") (string (severity_text d.severity)) code refl (put-plain (codes "code") (string (code_text d.code)) told refl (members-plain name d.told)))
