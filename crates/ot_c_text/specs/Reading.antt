-- What a text in C means: a program of the language, or why it has none.
use Rattle.std.specs.Prelude.{◌≡◌, ℕ, ◌-◌, Bool, List, length, slice_get, Result, Ok, Err, String, unwrap_or}
use Rattle.std.specs.declared.alloc.Global.{Global}
use Rattle.ot_c_words.specs.Words.{Read, AreBelow, AreNames, all_spoken, words_in}
use Rattle.ot_c_words.specs.declared.word.Word.{Word}
use Rattle.ot_c_statements.specs.Faults.{words_left}
use Rattle.ot_c_statements.specs.declared.fault.Fault.{Fault}
use Rattle.ot_c_files.specs.Files.{file_at}
use Rattle.ot_c_files.specs.Program.{Whole}
use Rattle.ot_c_scope.specs.Results.{Refusal}
use Rattle.ot_c_program.specs.Files.{Program, file_lowered, lowered_by_turns, lowered_of}
use Rattle.ot_c_text.specs.Settling.{has_guards, reading_settled}
use Rattle.ot_c_text.specs.Reasons.{file_reason, program_reason, word_reason}
use Rattle.ot_c_text.specs.declared.reading.Meaning.{Meaning}
use Rattle.ot_c_text.specs.declared.reading.Meaning.TheVariants as m

-- a program, with its arrays and the places of its statements; or a byte, and why what stands there isn't read
abbrev pub Meant : Type 0
Meant = Result Program (ℕ × List ℕ)

-- the byte at which the word begins that so many words are left from, or the text's end
abbrev pub byte_at : List ℕ → ℕ → ℕ → ℕ
byte_at starts size left = unwrap_or (slice_get starts (length starts - left)) size

abbrev pub reason_given : List ℕ → ℕ → Result Program Refusal → Meant
reason_given starts size (Ok program) = Ok program
reason_given starts size (Err e) = Err (byte_at starts size e.0, program_reason e.1)

-- of a file of so many bytes whose names are these, and whose words begin at these bytes, where `if` is among them or isn't
abbrev pub meaning_of_file : List (String Global) → List ℕ → ℕ → Bool → Whole → Meant
meaning_of_file names starts size guards file = reason_given starts size (reading_settled guards (file_lowered names starts file) (lowered_by_turns names starts file))

abbrev pub meaning_read : List (String Global) → List ℕ → ℕ → Bool → Result Whole Fault → Meant
meaning_read names starts size guards (Ok file) = meaning_of_file names starts size guards file
meaning_read names starts size guards (Err fault) = Err (byte_at starts size (words_left fault), file_reason fault)

-- of the words of a text of so many bytes
abbrev pub meaning_of_words : List (String Global) → List ℕ → ℕ → List Word → Meant
meaning_of_words names starts size words = meaning_read names starts size (has_guards words) (file_at words)

-- of a text: its words have numbers for names, in any order
abbrev pub MeansRead : ℕ → Read → Meant → Type 0
MeansRead size (Err fault) meant = meant ≡ Err (fault.start, word_reason fault.wrong)
MeansRead size (Ok read) meant =
    (names : List (String Global)) × (words : List Word) × AreNames names × AreBelow (length names) words
    × (read.1 ≡ all_spoken names words) × (meant ≡ meaning_of_words names read.0 size words)

abbrev pub Means : List ℕ → Meant → Type 0
Means text meant = MeansRead (length text) (words_in text) meant

-- what the code gives of it
abbrev pub meaning_seen : Meaning → Meant
meaning_seen (m.Program file_lowered) = Ok (lowered_of file_lowered)
meaning_seen (m.Outside byte reason) = Err (byte, reason.now)
