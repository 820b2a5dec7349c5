-- Loops that are written out turn by turn. Each turn is a loop of that one turn; in it an `if` whose condition names no cell has only
-- the body that it takes, so that what stands in the other one is named nowhere.
use Rattle.std.specs.Prelude.{ℕ, ◌+◌, ◌-◌, ◌/◌, ◌^◌, ◌==◌, max, nat_lt, not, Bool, true, false, ◌&&◌, ◌||◌, [], ◌∷◌, length, Option, Some, None, Ok, Err, if◌then◌else◌}
use Rattle.std.specs.List.{range_with_len}
use Rattle.serde_json.specs.Data.{Data, number, string, array, no_items, item}
use Rattle.ot_model.specs.Signs.{op_with}
use Rattle.ot_model.specs.Tree.{applied}
use Rattle.ot_model.specs.declared.expr.Op.{Op}
use Rattle.ot_program.specs.Meanings.{Bindings, number_bound, whole_number}
use Rattle.ot_c_expressions.specs.Tree.{E}
use Rattle.ot_c_statements.specs.Tree.{S, Block, Assign, If, For, Task, Wait, Group, Yield, Call, Print, Show, Point, Body, End, Next}
use Rattle.ot_c_scope.specs.declared.reason.Reason.TheVariants as why
use Rattle.ot_c_scope.specs.Forms.{nat}
use Rattle.ot_c_scope.specs.Results.{◌>>=◌}
use Rattle.ot_c_scope.specs.Scopes.{Around, text_of, with_turn}
use Rattle.ot_c_meaning.specs.Values.{value}
use Rattle.ot_c_arrays.specs.Each.{each_or_refused}
use Rattle.ot_c_program.specs.declared.statements.Loops.{Loops}
use Rattle.ot_c_program.specs.declared.statements.Loops.TheVariants.{AsTheyStand, ByTurns}
use Rattle.ot_c_lines.specs.Extremes.{Extremum, kept_if}
use Rattle.ot_c_lines.specs.Lines.{L, Lowered, none, first_place, both_lines}
use Rattle.ot_c_program.specs.Statements.{Origin, LoopRange, lines_behind, bounds, branch, loop_lines, loop_turn, task_head, task, group_head, group, extreme_kept, lowered_statement, body_from, body}

-- ---- numbers that are known

abbrev pub word_operation : Data → Option Op
word_operation (string s) = op_with s
word_operation _ = None

abbrev pub operation_number : Option Op → Option ℕ → Option ℕ → Option ℕ
operation_number (Some op) (Some n) (Some m) = Some (applied op n m)
operation_number (Some op) (Some n) None = None
operation_number (Some op) None m = None
operation_number None n m = None

-- the number of a value that names no cell, where variables have these numbers
unfoldable pub number_at_turn : Bindings → Data → Option ℕ
number_at_turn b (number n) = whole_number n
number_at_turn b (string s) = number_bound b s
number_at_turn b (array (item t (item x (item y no_items)))) = operation_number (word_operation t) (number_at_turn b x) (number_at_turn b y)
number_at_turn b _ = None

-- ---- which loops are written out

unfoldable mutual
  -- whether an `if` stands in a statement, in a body
  pub has_branch_one : S → Bool
  has_branch_one (Block left b) = has_branch b
  has_branch_one (Assign left t sign e) = false
  has_branch_one (If left test b c) = true
  has_branch_one (For left c b) = has_branch b
  has_branch_one (Task left cs b) = has_branch b
  has_branch_one (Wait left cs) = false
  has_branch_one (Group left cs b) = has_branch b
  has_branch_one (Yield left) = false
  has_branch_one (Call left f es) = false
  has_branch_one (Print left es) = false
  has_branch_one (Show left c n) = false
  has_branch_one (Point left p c) = false

  pub has_branch : Body → Bool
  has_branch End = false
  has_branch (Next s rest) = has_branch_one s || has_branch rest

-- the first turn of a loop, and the end, where both are numbers of 32 bits
abbrev pub turns_between : Option ℕ → Option ℕ → Option (ℕ × ℕ)
turns_between (Some first) (Some end) = if nat_lt first (2 ^ 32) && nat_lt end (2 ^ 32) then Some (first, end) else None
turns_between (Some first) None = None
turns_between None end = None

-- those of a loop in whose body an `if` stands
abbrev pub turns_of : Bool → Bindings → LoopRange → Option (ℕ × ℕ)
turns_of branches b r = if branches then turns_between (number_at_turn b r.first) (number_at_turn b r.end) else None

-- ---- what is written of them

-- The second behind the first, unless there are too many: each may take as many words as the file has, and what is written of a loop
-- has at most 2,000,000.
abbrev pub within_words : ℕ → L → L → Lowered
within_words words a b = if nat_lt (2000000 / max words 1) (length a.places + length b.places) then Err (first_place b, why.TooMany) else both_lines a b

-- one turn of a loop
abbrev pub turn_range : LoopRange → ℕ → LoopRange
turn_range r k = record { name = r.name; first = nat k; end = nat (k + 1) }

abbrev pub turn_step : ℕ → ℕ → LoopRange → (ℕ → Lowered) → L → ℕ → Lowered
turn_step words at r inner lines k = inner k >>= λ x. within_words words lines (loop_lines at (turn_range r k) x)

-- a loop as it stands, or its turns, of each of which this is the body
abbrev pub loop_or_turns : ℕ → ℕ → LoopRange → Lowered → (ℕ → Lowered) → Option (ℕ × ℕ) → Lowered
loop_or_turns words at r whole inner None = whole >>= λ x. Ok (loop_lines at r x)
loop_or_turns words at r whole inner (Some t) = each_or_refused (turn_step words at r inner) none (range_with_len t.0 (t.1 - t.0))

-- whether an `if` leaves out its first body, its second one, where its condition has this number, if it is known
abbrev pub leaves_first : Option ℕ → Bool
leaves_first None = false
leaves_first (Some n) = n == 0

abbrev pub leaves_second : Option ℕ → Bool
leaves_second None = false
leaves_second (Some n) = not (n == 0)

-- nothing in place of a body that is left out
abbrev pub unless_left : Bool → Lowered → Lowered
unless_left left b = if left then Ok none else b

abbrev pub parted_by : ℕ → Data → Option ℕ → Lowered → Lowered → Lowered
parted_by at test n b c = unless_left (leaves_first n) b >>= λ x. unless_left (leaves_second n) c >>= λ y. Ok (branch at test x y)

-- an `if`, of which only the body that it takes is there, where its condition is known
abbrev pub branch_or_body : Bindings → Around → ℕ → E → Option Extremum → Lowered → Lowered → Lowered
branch_or_body v a at test (Some k) b c = extreme_kept a at k
branch_or_body v a at test None b c = value a test >>= λ x. parted_by at x.text (number_at_turn v x.text) b c

unfoldable mutual
  -- a statement where variables have these numbers
  pub turned_lines : Origin → Bindings → Around → S → Lowered
  turned_lines o v a (Block left b) = turned_from o v a none b
  turned_lines o v a (If left test b c) = branch_or_body v a left test (kept_if a test b c) (turned_from o v a none b) (turned_from o v a none c)
  turned_lines o v a (For left c b) =
      bounds a c >>= λ r.
      loop_or_turns o.words left r (body_from o (with_turn a (loop_turn c true)) none b)
      (λ k. turned_from o ((text_of a.names c.variable, k) ∷ v) (with_turn a (loop_turn c true)) none b) (turns_of (has_branch b) v r)
  turned_lines o v a (Task left cs b) = task_head a left cs >>= λ h. turned_from o v h.around none b >>= λ x. Ok (task left h.clauses h.taking x)
  turned_lines o v a (Group left cs b) = group_head a left cs >>= λ g. turned_from o v g.1.around none b >>= λ x. Ok (group left g.0 g.1.clauses x)
  turned_lines o v a (Assign left t sign e) = lowered_statement o a (Assign left t sign e)
  turned_lines o v a (Wait left cs) = lowered_statement o a (Wait left cs)
  turned_lines o v a (Yield left) = lowered_statement o a (Yield left)
  turned_lines o v a (Call left f es) = lowered_statement o a (Call left f es)
  turned_lines o v a (Print left es) = lowered_statement o a (Print left es)
  turned_lines o v a (Show left c n) = lowered_statement o a (Show left c n)
  turned_lines o v a (Point left p c) = lowered_statement o a (Point left p c)

  -- statements behind others
  pub turned_from : Origin → Bindings → Around → L → Body → Lowered
  turned_from o v a lines End = Ok lines
  turned_from o v a lines (Next s rest) = lines_behind lines (turned_lines o v a s) >>= λ l. turned_from o v a l rest

-- ---- how loops are written

abbrev pub by_loops : Loops → Lowered → Lowered → Lowered
by_loops AsTheyStand whole turns = whole
by_loops ByTurns whole turns = turns

-- a statement, a body outside of loops
abbrev pub statement_lines : Origin → Around → S → Lowered
statement_lines o a s = by_loops o.loops (lowered_statement o a s) (turned_lines o [] a s)

abbrev pub written_body : Origin → Around → Body → Lowered
written_body o a b = by_loops o.loops (body o a b) (turned_from o [] a none b)
