-- Which files are judged, and how; and the words of which a fault tells.
use Rattle.std.specs.Prelude.{ℕ, List, [], Option, Some, None, codes, nat_eq, bytes_eq, Bool, ◌||◌, if◌then◌else◌, option_map, slice_get, string_bytes, unwrap_or}
use Rattle.std.specs.List.{ends_with}
use Rattle.ot_file_diagnosis.specs.declared.format.Format.{Format}
use Rattle.ot_file_diagnosis.specs.declared.format.Format.TheVariants.{Text as AsText, Json, Sarif, Github}
use Rattle.ot_file_diagnosis.specs.declared.paint.Paint.{Paint}
use Rattle.ot_subcommands.specs.declared.asked.Words.{Words}
use Rattle.ot_subcommands.specs.declared.asked.Words.TheVariants as asked
use Rattle.omptask.specs.declared.checking.Kind.{Kind}
use Rattle.omptask.specs.declared.checking.Kind.TheVariants.{InC, InCpp, Requests}
use Rattle.omptask.specs.declared.fault.Fault.{Fault}
use Rattle.omptask.specs.declared.fault.Fault.TheVariants as of

-- a file of this name is in C, in C++, or has requests
abbrev pub is_c : List ℕ → Bool
is_c name = ends_with nat_eq name (codes ".c")

abbrev pub is_cpp : List ℕ → Bool
is_cpp name = ends_with nat_eq name (codes ".cpp") || ends_with nat_eq name (codes ".cc") || ends_with nat_eq name (codes ".cxx") || ends_with nat_eq name (codes ".C")

abbrev pub kind_by_name : List ℕ → Kind
kind_by_name name = if is_c name then InC else (if is_cpp name then InCpp else Requests)

-- the format that a word asks for, none where there is no such format; text has colours or none
abbrev pub format_of : List ℕ → Paint → Option Format
format_of word paint =
    if bytes_eq word [] || bytes_eq word (codes "text") then Some (AsText paint)
    else (if bytes_eq word (codes "json") then Some Json else (if bytes_eq word (codes "sarif") then Some Sarif else (if bytes_eq word (codes "github") then Some Github else None)))

-- the path of the socket that the words name, empty where they name none
abbrev pub socket_of : Words → List ℕ
socket_of (asked.Ask ask manner) = string_bytes ask.socket
socket_of (asked.Save ask) = string_bytes ask.socket
socket_of (asked.Restore ask replace) = string_bytes ask.socket
socket_of other = []

-- the word of which a fault tells, empty where there is none
abbrev pub word_of : Words → Fault → List ℕ
word_of (asked.Check check) (of.BadDefinition place) = unwrap_or (option_map string_bytes (slice_get check.defined.items place)) []
word_of (asked.Check check) of.BadFormat = string_bytes check.format
word_of (asked.Check check) (of.Unread place want) = unwrap_or (option_map string_bytes (slice_get check.files.items place)) []
word_of (asked.Graph path) (of.Unread place want) = string_bytes path
word_of (asked.Lines check) (of.Unread place want) = unwrap_or (option_map string_bytes (slice_get check.files.items place)) []
word_of words fault = socket_of words
