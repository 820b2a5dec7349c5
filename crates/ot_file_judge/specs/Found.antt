-- A request that isn't taken.
use Rattle.std.specs.Prelude.{Bool, true, false, if◌then◌else◌, Some, None, option_map}
use Rattle.serde_json.specs.View.{view}
use Rattle.ot_book.specs.Books.{Register}
use Rattle.ot_file_judge.specs.declared.verdict.Verdict.{Verdict}
use Rattle.ot_file_judge.specs.declared.verdict.Verdict.TheVariants.{Taken, Full}
use Rattle.ot_file_judge.specs.declared.findings.Found.{Found}
use Rattle.ot_file_judge.specs.Judging.{Refusal}

-- as a refusal, by the book behind it
abbrev pub found_as : Found → Register → Refusal
found_as f book =
    record { start = f.start; end = f.end; request = option_map view f.request; book = if f.ends then None else Some book; is_long = f.is_long }

abbrev pub is_taken : Verdict → Bool
is_taken Taken = true
is_taken other = false

abbrev pub is_full : Verdict → Bool
is_full Full = true
is_full other = false
