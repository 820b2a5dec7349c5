-- What the program tells of a fault, and the status that it ends with.
use Rattle.std.specs.Prelude.{ℕ, Bool, nat_lt, if◌then◌else◌, List, codes}
use Rattle.std.specs.declared.io.ErrorKind.{ErrorKind}
use Rattle.std.specs.declared.io.ErrorKind.TheVariants as kind
use Rattle.ot_client_ask.specs.declared.asked.AskFault.{AskFault}
use Rattle.ot_client_ask.specs.declared.asked.AskFault.TheVariants as ask
use Rattle.ot_client_ask.specs.declared.asked.Asked.{Asked}
use Rattle.ot_client_ask.specs.declared.asked.Asked.TheVariants as asked
use Rattle.ot_c_judge.specs.declared.report.Verdict.{Verdict}
use Rattle.ot_c_judge.specs.declared.report.Verdict.TheVariants as verdict
use Rattle.ot_file_diagnosis.specs.declared.summary.Outcome.{Outcome}
use Rattle.ot_file_diagnosis.specs.declared.summary.Outcome.TheVariants as o
use Rattle.ot_session.specs.declared.fault.FrontFault.{FrontFault}
use Rattle.ot_session.specs.declared.fault.FrontFault.TheVariants as front
use Rattle.ot_client_keep.specs.declared.fault.KeepFault.{KeepFault}
use Rattle.ot_client_keep.specs.declared.fault.KeepFault.TheVariants as keep
use Rattle.ot_show_last.specs.declared.fault.LastFault.{LastFault}
use Rattle.ot_show_last.specs.declared.fault.LastFault.TheVariants as last
use Rattle.omptask.specs.declared.ended.Ended.{Ended}
use Rattle.omptask.specs.declared.ended.Ended.TheVariants.{Well, Refused, Outside, OnlyRun}
use Rattle.omptask.specs.declared.reaching.Cause.{Cause}
use Rattle.omptask.specs.declared.reaching.Cause.TheVariants as cause
use Rattle.omptask.specs.declared.fault.Fault.{Fault}
use Rattle.omptask.specs.declared.fault.Fault.TheVariants as of
use Rattle.omptask.specs.declared.fault.Want.{Want}
use Rattle.omptask.specs.declared.fault.Want.TheVariants as want

-- why nobody is reached, by the error of the connection, where something that is no socket is at the path, or isn't
abbrev pub cause_for : ErrorKind → Bool → Cause
cause_for kind.NotFound is_other_file = cause.NoFile
cause_for kind.NotADirectory is_other_file = cause.NoFolder
cause_for kind.PermissionDenied is_other_file = cause.NotPermitted
cause_for kind.ConnectionRefused is_other_file = if is_other_file then cause.NoSocket else cause.NobodyAnswers
cause_for kind.InvalidInput is_other_file = cause.NoPath
cause_for error is_other_file = cause.Other

-- what is told of it, behind the path
abbrev pub cause_text : Cause → List ℕ
cause_text cause.NoFile = codes "no such file"
cause_text cause.NoFolder = codes "no such folder"
cause_text cause.NotPermitted = codes "permission denied"
cause_text cause.NoSocket = codes "not a socket"
cause_text cause.NobodyAnswers = codes "nobody answers"
cause_text cause.NoPath = codes "no path of a socket"
cause_text cause.Other = codes "socket failed"

-- why a file isn't read, by the error
abbrev pub want_for : ErrorKind → Want
want_for kind.NotFound = want.NoFile
want_for kind.NotADirectory = want.NoFolder
want_for kind.IsADirectory = want.IsFolder
want_for kind.PermissionDenied = want.NotPermitted
want_for kind.InvalidInput = want.NoPath
want_for error = want.Other

-- what is told of it, behind the path
abbrev pub want_text : Want → List ℕ
want_text want.NoFile = codes "no such file"
want_text want.NoFolder = codes "no such folder"
want_text want.IsFolder = codes "a folder"
want_text want.NotPermitted = codes "permission denied"
want_text want.NoPath = codes "no path of a file"
want_text want.Other = codes "read failed"

-- The line on standard error. Behind that of a bad or a refused line stands its number, and behind that of a server that isn't
-- reached the path and the cause. Behind that of a bad definition or format stands the word, and behind that of a file that isn't read the path
-- and why.
abbrev pub line_of_fault : Fault → List ℕ
line_of_fault of.Busy = codes "omptask: busy"
line_of_fault of.UnknownTenant = codes "omptask: unknown tenant"
line_of_fault of.StrangeGreeting = codes "omptask: strange greeting"
line_of_fault of.Closed = codes "omptask: closed"
line_of_fault of.UnknownCode = codes "omptask: unknown code"
line_of_fault (of.BadLine number answer) = codes "omptask: bad line"
line_of_fault of.NoRun = codes "omptask: no run"
line_of_fault of.StrangeReply = codes "omptask: strange reply"
line_of_fault of.NotWhole = codes "omptask: not whole"
line_of_fault of.HasArrays = codes "omptask: has arrays"
line_of_fault (of.RefusedLine number) = codes "omptask: refused line"
line_of_fault of.Differs = codes "omptask: differs"
line_of_fault (of.Unreached cause) = codes "omptask:"
line_of_fault of.ReadFailed = codes "omptask: read failed"
line_of_fault of.WriteFailed = codes "omptask: write failed"
line_of_fault of.Memory = codes "omptask: no memory"
line_of_fault of.TooManyReads = codes "omptask: too many reads"
line_of_fault of.Stranger = codes "omptask: stranger"
line_of_fault (of.BadDefinition place) = codes "omptask: bad definition"
line_of_fault of.BadFormat = codes "omptask: bad format"
line_of_fault (of.Unread place want) = codes "omptask:"

-- the program's fault where a session with a server failed
abbrev pub session_fault : AskFault → Fault
session_fault ask.Busy = of.Busy
session_fault ask.UnknownTenant = of.UnknownTenant
session_fault ask.StrangeGreeting = of.StrangeGreeting
session_fault ask.Closed = of.Closed
session_fault ask.ReadFailed = of.ReadFailed
session_fault ask.WriteFailed = of.WriteFailed
session_fault ask.Memory = of.Memory
session_fault ask.TooManyLines = of.TooManyReads

-- the program's fault where a session without a server failed
abbrev pub fault_of_session : FrontFault → Fault
fault_of_session front.ReadFailed = of.ReadFailed
fault_of_session front.WriteFailed = of.WriteFailed
fault_of_session front.Memory = of.Memory
fault_of_session front.Stranger = of.Stranger
fault_of_session front.TooManyTurns = of.TooManyReads
fault_of_session front.SocketFailed = of.Unreached cause.Other

-- the program's fault where a session has no last run
abbrev pub fault_of_last : LastFault → Fault
fault_of_last last.NoRun = of.NoRun
fault_of_last (last.BadLine number answer) = of.BadLine number answer
fault_of_last last.ReadFailed = of.ReadFailed
fault_of_last last.TooManyReads = of.TooManyReads
fault_of_last last.Memory = of.Memory

-- the program's fault where a tenant isn't saved, or isn't restored
abbrev pub fault_of_keep : KeepFault → Fault
fault_of_keep (keep.Ask fault) = session_fault fault
fault_of_keep keep.StrangeReply = of.StrangeReply
fault_of_keep keep.WriteFailed = of.WriteFailed
fault_of_keep keep.NotWhole = of.NotWhole
fault_of_keep keep.HasArrays = of.HasArrays
fault_of_keep (keep.Refused number) = of.RefusedLine number
fault_of_keep keep.Differs = of.Differs

-- how the program ends where a session with a server came to this
abbrev pub ended_of : Asked → Ended
ended_of asked.AllTaken = Well
ended_of asked.SomeRefused = Refused
ended_of asked.CutShort = Refused

-- how the judging of a text in C ended, by its verdict
abbrev pub outcome_of : Verdict → Outcome
outcome_of verdict.Clean = o.Clean
outcome_of verdict.OnlyRun = o.OnlyRun
outcome_of verdict.Races = o.Races

-- how it ends where a file ended so
abbrev pub ended_by : Outcome → Ended
ended_by o.Races = Refused
ended_by o.Refused = Refused
ended_by o.Outside = Outside
ended_by o.OnlyRun = OnlyRun
ended_by o.Clean = Well
ended_by o.Taken = Well

-- how much an end outweighs others: most of all that something was refused, or races, then that something isn't judged, and then
-- that only the run of something was
abbrev pub weight_of : Ended → ℕ
weight_of Refused = 3
weight_of Outside = 2
weight_of OnlyRun = 1
weight_of Well = 0

-- how it ends where one file ends so, and another so
abbrev pub worse_of : Ended → Ended → Ended
worse_of one other = if nat_lt (weight_of one) (weight_of other) then other else one

-- the status of a fault: where another session is there it can be tried again, and where a line was refused it can't; a bad
-- definition or format is a word of the command line that can't be read
abbrev pub status_of_fault : Fault → ℕ
status_of_fault of.Busy = 4
status_of_fault (of.RefusedLine number) = 3
status_of_fault (of.BadDefinition place) = 2
status_of_fault of.BadFormat = 2
status_of_fault fault = 1

-- the status where nothing went wrong
abbrev pub status_of : Ended → ℕ
status_of Well = 0
status_of Refused = 3
status_of Outside = 1
status_of OnlyRun = 4
