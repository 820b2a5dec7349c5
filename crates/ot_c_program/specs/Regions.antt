-- Parallel regions, of which one thread does what stands in them: groups over nothing, since all tasks have ended at their ends
-- (OpenMP API 5.2, section 15.3.2). The end of the last one orders nothing: so that one is a group only where it has taskgroups.
use Rattle.std.specs.Prelude.{ℕ, nat_lt, Bool, true, false, not, ◌&&◌, ◌||◌, List, [], ◌∷◌, length, map, Option, Some, None, Ok, Err, slice_get, slice_set, String, if◌then◌else◌}
use Rattle.std.specs.List.{list_any}
use Rattle.std.specs.declared.alloc.Global.{Global}
use Rattle.ot_c_words.specs.declared.word.Name.{Name}
use Rattle.ot_c_words.specs.declared.word.Name.TheVariants as n
use Rattle.ot_c_expressions.specs.declared.tree.Operation.TheVariants as op
use Rattle.ot_c_expressions.specs.declared.tree.Role.{Role}
use Rattle.ot_c_expressions.specs.declared.tree.Role.TheVariants as r
use Rattle.ot_c_expressions.specs.Tree.{Entry, Claim}
use Rattle.ot_c_statements.specs.Tree.{S, Block, Assign, If, For, Task, Wait, Group, Yield, Call, Print, Show, Point, Body, End, Next}
use Rattle.ot_c_scope.specs.declared.reason.Reason.{Reason}
use Rattle.ot_c_scope.specs.declared.reason.Reason.TheVariants as why
use Rattle.ot_c_scope.specs.declared.scope.Meaning.{Meaning}
use Rattle.ot_c_scope.specs.declared.scope.Meaning.TheVariants as m
use Rattle.ot_c_scope.specs.Results.{◌>>=◌}
use Rattle.ot_c_clauses.specs.Clauses.{heading}
use Rattle.ot_c_arrays.specs.Arrays.{outside}
use Rattle.ot_c_lines.specs.Lines.{L, Lowered}
use Rattle.ot_c_program.specs.Statements.{Origin, directive_name_at, group}
use Rattle.ot_c_program.specs.Turns.{written_body}

abbrev pub SourceNames : Type 0
SourceNames = List (String Global)

-- ---- `default(none)`: only what clauses list is named (OpenMP API 5.2, section 5.4.1)

unfoldable pub is_strict : Role → Bool
is_strict r.DefaultNone = true
is_strict _ = false

unfoldable pub is_shared : Role → Bool
is_shared r.Shared = true
is_shared _ = false

abbrev pub are_strict : List Claim → Bool
are_strict cs = list_any (λ c. is_strict c.role) cs

-- arrays and variables mean nothing
unfoldable pub meaning_hidden : Meaning → Meaning
meaning_hidden (m.Cells k length) = m.Nothing
meaning_hidden other = other

abbrev pub put_again : List Meaning → ℕ → Option Meaning → List Meaning
put_again hs i None = hs
put_again hs i (Some meaning) = if nat_lt i (length hs) then slice_set hs i meaning else hs

-- but one that is listed means what it does
abbrev pub meanings_shown : List Meaning → List Meaning → Name → List Meaning
meanings_shown ms hs (n.Known k) = hs
meanings_shown ms hs (n.Other i) = put_again hs i (slice_get ms i)

abbrev pub shown_items : List Meaning → List Meaning → List Entry → List Meaning
shown_items ms hs [] = hs
shown_items ms hs (i ∷ is) = shown_items ms (meanings_shown ms hs i.array) is

abbrev pub shown_clause : List Meaning → List Meaning → Claim → List Meaning
shown_clause ms hs c = if is_shared c.role then shown_items ms hs c.items else hs

abbrev pub shown_clauses : List Meaning → List Meaning → List Claim → List Meaning
shown_clauses ms hs [] = hs
shown_clauses ms hs (c ∷ cs) = shown_clauses ms (shown_clause ms hs c) cs

-- what names mean of which these clauses list some
abbrev pub meanings_listed : List Meaning → List Claim → List Meaning
meanings_listed ms cs = shown_clauses ms (map meaning_hidden ms) cs

unfoldable pub reason_unlisted : Reason → Reason
reason_unlisted why.Unknown = why.Unlisted
reason_unlisted other = other

abbrev pub strictly : Lowered → Lowered
strictly (Ok l) = Ok l
strictly (Err e) = Err (e.0, reason_unlisted e.1)

-- ---- regions

-- what one thread does in a region, where names mean this
abbrev pub within : SourceNames → Origin → List Meaning → Body → Lowered
within names o meanings b = written_body o (outside names meanings true) b

abbrev pub within_by : SourceNames → Origin → List Meaning → List Claim → Body → Lowered
within_by names o meanings cs b = if are_strict cs then strictly (within names o (meanings_listed meanings cs) b) else within names o meanings b

abbrev pub region : SourceNames → Origin → List Meaning → ℕ → List Claim → Body → Lowered
region names o meanings at cs b =
    heading (directive_name_at at) (outside names meanings true) cs >>= λ h.
    within_by names o meanings cs b

-- ---- the end of a region

-- Whether a taskgroup may stand in a statement, in a body, outside of the tasks in it: in its text, or in a function that it calls.
abbrev mutual
  pub has_group_one : S → Bool
  has_group_one (Block left b) = has_group b
  has_group_one (Assign left t sign e) = false
  has_group_one (If left test b c) = has_group b || has_group c
  has_group_one (For left c b) = has_group b
  has_group_one (Task left cs b) = false
  has_group_one (Wait left cs) = false
  has_group_one (Group left cs b) = true
  has_group_one (Yield left) = false
  has_group_one (Call left f es) = true
  has_group_one (Print left es) = false
  has_group_one (Show left c n) = false
  has_group_one (Point left p c) = false

  pub has_group : Body → Bool
  has_group End = false
  has_group (Next s rest) = has_group_one s || has_group rest

-- What becomes of a region that this stands in, which is the last of the program or isn't. A group of the program's own body stands
-- for a region, whose tasks are no siblings of others: so a region in which a taskgroup may stand is a group even if it is the last.
abbrev pub region_ended : ℕ → Bool → Body → L → L
region_ended at last b x = if last && not (has_group b) then x else group at op.Plus [] x
