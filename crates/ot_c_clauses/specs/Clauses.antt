-- Clauses of tasks, waits and groups (OpenMP API 5.2, sections 5.4.2, 5.5.9, 5.5.10 and 15.9.5).
use Rattle.std.specs.Prelude.{ℕ, ◌==◌, Bool, true, false, not, ◌&&◌, List, [], ◌∷◌, ◌++◌, map, Option, Some, None, Result, Ok, Err, codes, if◌then◌else◌}
use Rattle.std.specs.List.{list_all}
use Rattle.serde_json.specs.Data.{Data, string}
use Rattle.serde_json.specs.View.{view}
use Rattle.ot_c_words.specs.declared.word.Name.{Name}
use Rattle.ot_c_words.specs.declared.word.Name.TheVariants as n
use Rattle.ot_c_expressions.specs.declared.tree.Operation.{Operation}
use Rattle.ot_c_expressions.specs.declared.tree.Operation.TheVariants as o
use Rattle.ot_c_expressions.specs.declared.tree.Role.{Role}
use Rattle.ot_c_expressions.specs.declared.tree.Role.TheVariants as r
use Rattle.ot_c_expressions.specs.Tree.{Part, Entry, Span, Claim}
use Rattle.ot_c_scope.specs.declared.reason.Reason.TheVariants as why
use Rattle.ot_c_scope.specs.declared.scope.Opening.{Opening}
use Rattle.ot_c_scope.specs.declared.scope.Pointee.{Pointee}
use Rattle.ot_c_scope.specs.declared.scope.Sense.{Sense}
use Rattle.ot_c_scope.specs.declared.scope.Sense.TheVariants as s
use Rattle.ot_c_scope.specs.Forms.{form}
use Rattle.ot_c_scope.specs.Kinds.{is_signed}
use Rattle.ot_c_scope.specs.Results.{Refusal, ◌>>=◌}
use Rattle.ot_c_scope.specs.Scopes.{Around, Run, sense, is_pointed, with_opening, with_portion}
use Rattle.ot_c_clauses.specs.declared.clause.Heading.{Heading}
use Rattle.ot_c_clauses.specs.declared.clause.Joined.{Joined}
use Rattle.ot_c_clauses.specs.declared.own.Own.{Own}
use Rattle.ot_c_clauses.specs.declared.own.Taking.{Taking}
use Rattle.ot_c_arrays.specs.Each.{each_or_refused}
use Rattle.ot_c_clauses.specs.Operations.{operation_word, is_same_operation, is_extreme}
use Rattle.ot_c_clauses.specs.Owns.{own_count, name_all, is_run, taking_of}
use Rattle.ot_c_clauses.specs.Portions.{is_item}
use Rattle.ot_c_clauses.specs.Sections.{Sectioned, part, cell_pointed_at, item_section, item_run}

-- clauses of the language, or a group's sections; what names mean behind them; the cells that the task folds into by pointers;
-- and how it takes part in each reduction that it takes part in
pub record Head : Type 0 where
  pub clauses : List Data
  pub around : Around
  pub own : List Own
  pub taking : List Taking

abbrev pub head_of : Heading → Head
head_of h = record { clauses = map view h.clauses.items; around = h.scope; own = h.own; taking = h.taking.items }

-- the same of what clauses say of reductions, before the others
abbrev pub joined_of : Joined → Head
joined_of j = record { clauses = map view j.clauses.items; around = j.scope; own = j.own.items; taking = j.taking.items }

abbrev pub Headed : Type 0
Headed = Result Head Refusal

abbrev pub with_clause : Head → Data → Head
with_clause h d = record h { clauses = h.clauses ++ d ∷ [] }

-- ---- items

abbrev pub is_in : Role → Bool
is_in r.In = true
is_in r.Out = false
is_in r.Inout = false
is_in (r.Reduces op) = false
is_in (r.Combines op) = false
is_in r.Shared = false
is_in r.Firstprivate = false
is_in r.Default = false
is_in r.DefaultNone = false
is_in r.NumThreads = false
is_in r.Priority = false
is_in r.Untied = false
is_in r.Mergeable = false

-- whether so many cells are as many items: an iterator's, or a single one
abbrev pub are_single : Option Span → ℕ → Bool
are_single None n = n == 1
are_single (Some over) n = true

abbrev pub depends_by : Head → Role → List ℕ → Option Span → Entry → Run → Headed
depends_by h role word over item cells =
    if own_count item.array cells h.own == 0 then (item_section h.around over item >>= λ d. Ok (with_clause h (form word (d ∷ []))))
    else if is_in role && is_run cells (own_count item.array cells h.own) && are_single over (own_count item.array cells h.own) then Ok (record h { own = name_all item.array cells h.own })
    else Err (item.left, why.Combined)

-- Under `in`, `out` or `inout`. Where the task folds into the cells by pointers, `red` says all that `in` does: each is an item.
abbrev pub under_depend : Head → Role → List ℕ → Option Span → Entry → Headed
under_depend h role word over item = depends_by h role word over item (item_run h.around over item)

abbrev pub item_number : Name → ℕ
item_number (n.Other i) = i
item_number (n.Known k) = 0

-- over so many cells of an array, or a pointer's, an open group combines by an operation, and the task has no copy of them yet
abbrev pub may_join : Sense → Operation → Option (Option Pointee × Option ℕ)
may_join (s.Combined c k length) op = if not c.own && is_same_operation c.operation op then Some (c.pointee, length) else None
may_join s.Nothing op = None
may_join (s.Constant n k) op = None
may_join (s.Turn k) op = None
may_join s.Begins op = None
may_join (s.Cells k length) op = None
may_join (s.Pointer x p) op = None
may_join (s.Function i) op = None

abbrev pub opening : Name → Operation → Bool → Option Pointee → Opening
opening x op own cell = record { array = item_number x; operation = op; own = own; pointee = cell }

abbrev pub part_or_cell : Around → ℕ → Name → Option Pointee → Option ℕ → Part → Sectioned
part_or_cell a at x None length p = part a at x length p
part_or_cell a at x (Some cell) length p = cell_pointed_at a at cell p

abbrev pub own_of : Option Pointee → List Own
own_of None = []
own_of (Some cell) = record { cell = cell; named = false } ∷ []

abbrev pub joined_by : Head → Operation → Entry → Option (Option Pointee × Option ℕ) → Headed
joined_by h op item None = Err (item.left, why.NoGroup)
joined_by h op item (Some found) =
    if is_item h.around found item
    then (part_or_cell h.around item.left item.array found.0 found.1 item.part >>= λ d.
    Ok (record { clauses = h.clauses ++ form (codes "red") (string (operation_word op) ∷ d ∷ []) ∷ []; around = with_opening h.around (opening item.array op true found.0); own = h.own ++ own_of found.0; taking = h.taking ++ taking_of found.0 ∷ [] }))
    else Err (item.left, why.NoGroup)

-- under `in_reduction`: the task has a copy of its own
abbrev pub takes_part : Operation → Head → Entry → Headed
takes_part op h item = joined_by h op item (may_join (sense h.around item.array) op)

-- no open group combines over these cells of an array
abbrev pub apart_by : Around → ℕ → ℕ → Run → Sense → Result (Unit {0}) Refusal
apart_by a at x cells (s.Cells k length) = if is_pointed a (n.Other x) cells then Err (at, why.Combined) else Ok tt
apart_by a at x cells s.Nothing = Err (at, why.Unknown)
apart_by a at x cells (s.Constant n k) = Err (at, why.Constant)
apart_by a at x cells (s.Turn k) = Err (at, why.LoopVariable)
apart_by a at x cells s.Begins = Err (at, why.LoopVariable)
apart_by a at x cells (s.Combined o k length) = Err (at, why.Combined)
apart_by a at x cells (s.Pointer y p) = Err (at, why.Pointer)
apart_by a at x cells (s.Function i) = Err (at, why.Function)

abbrev pub apart : Around → ℕ → ℕ → Run → Result (Unit {0}) Refusal
apart a at x cells = apart_by a at x cells (sense a (n.Other x))

abbrev pub pointer_in : Sense → Option Pointee
pointer_in (s.Pointer x p) = Some (record { array = x; place = p })
pointer_in s.Nothing = None
pointer_in (s.Constant n k) = None
pointer_in (s.Turn k) = None
pointer_in s.Begins = None
pointer_in (s.Cells k length) = None
pointer_in (s.Combined o k length) = None
pointer_in (s.Function i) = None

abbrev pub combined_over : Around → Entry → Option Pointee → Sectioned
combined_over a item None = item_section a None item >>= λ d. apart a item.left (item_number item.array) (item_run a None item) >>= λ u. Ok d
combined_over a item (Some cell) = apart a item.left cell.array (Some (cell.place, 1)) >>= λ u. cell_pointed_at a item.left cell item.part

-- of numbers that may be negative the language has no `min` and `max`
abbrev pub is_extreme_apt : ℕ → Operation → Sense → Result (Unit {0}) Refusal
is_extreme_apt at op (s.Cells k length) = if is_extreme op && is_signed k then Err (at, why.Signed) else Ok tt
is_extreme_apt at op s.Nothing = Ok tt
is_extreme_apt at op (s.Constant n k) = Ok tt
is_extreme_apt at op (s.Turn k) = Ok tt
is_extreme_apt at op s.Begins = Ok tt
is_extreme_apt at op (s.Combined c k length) = Ok tt
is_extreme_apt at op (s.Pointer x p) = Ok tt
is_extreme_apt at op (s.Function i) = Ok tt

-- in a group that combines over an item: a part of an array, or the cell of a pointer
abbrev pub with_reduced_item : Around → Option Pointee → Entry → Around
with_reduced_item a None item = with_portion a (item_number item.array) item.part
with_reduced_item a (Some cell) item = a

-- under `task_reduction`: a section of the group
abbrev pub under_reduction : Head → Operation → Entry → Headed
under_reduction h op item =
    combined_over h.around item (pointer_in (sense h.around item.array)) >>= λ d.
    is_extreme_apt item.left op (sense h.around item.array) >>= λ u.
    Ok (record h { clauses = h.clauses ++ d ∷ []; around = with_reduced_item (with_opening h.around (opening item.array op false (pointer_in (sense h.around item.array)))) (pointer_in (sense h.around item.array)) item })

-- under `shared`: what is so anyway
abbrev pub under_shared : ℕ → Sense → Result (Unit {0}) Refusal
under_shared at (s.Cells k length) = Ok tt
under_shared at s.Nothing = Err (at, why.Unknown)
under_shared at (s.Constant n k) = Err (at, why.Constant)
under_shared at (s.Turn k) = Err (at, why.LoopVariable)
under_shared at s.Begins = Err (at, why.LoopVariable)
under_shared at (s.Combined c k length) = Err (at, why.Combined)
under_shared at (s.Pointer x p) = Err (at, why.Pointer)
under_shared at (s.Function i) = Err (at, why.Function)

-- under `firstprivate`: what is so anyway
abbrev pub private : ℕ → Sense → Result (Unit {0}) Refusal
private at (s.Turn k) = Ok tt
private at s.Nothing = Err (at, why.Private)
private at (s.Constant n k) = Err (at, why.Private)
private at s.Begins = Err (at, why.Private)
private at (s.Cells k length) = Err (at, why.Private)
private at (s.Combined c k length) = Err (at, why.Private)
private at (s.Pointer x p) = Err (at, why.Private)
private at (s.Function i) = Err (at, why.Private)

abbrev pub claim_item : Role → Option Span → Head → Entry → Headed
claim_item r.In over h item = under_depend h r.In (codes "in") over item
claim_item r.Out over h item = under_depend h r.Out (codes "out") over item
claim_item r.Inout over h item = under_depend h r.Inout (codes "inout") over item
claim_item (r.Reduces op) over h item = Ok h
claim_item (r.Combines op) over h item = under_reduction h op item
claim_item r.Shared over h item = under_shared item.left (sense h.around item.array) >>= λ x. Ok h
claim_item r.Firstprivate over h item = private item.left (sense h.around item.array) >>= λ x. Ok h
claim_item r.Default over h item = Ok h
claim_item r.DefaultNone over h item = Ok h
claim_item r.NumThreads over h item = Ok h
claim_item r.Priority over h item = Ok h
claim_item r.Untied over h item = Ok h
claim_item r.Mergeable over h item = Ok h

-- ---- clauses

abbrev pub claim_items : Head → Claim → Headed
claim_items h c = each_or_refused (claim_item c.role c.over) h c.items

-- by what a task takes part in reductions
abbrev pub reduced_by : Role → Option Operation
reduced_by (r.Reduces op) = Some op
reduced_by r.In = None
reduced_by r.Out = None
reduced_by r.Inout = None
reduced_by (r.Combines op) = None
reduced_by r.Shared = None
reduced_by r.Firstprivate = None
reduced_by r.Default = None
reduced_by r.DefaultNone = None
reduced_by r.NumThreads = None
reduced_by r.Priority = None
reduced_by r.Untied = None
reduced_by r.Mergeable = None

abbrev pub joining_by : Head → Claim → Option Operation → Headed
joining_by h c None = Ok h
joining_by h c (Some op) = each_or_refused (takes_part op) h c.items

abbrev pub joining_step : Head → Claim → Headed
joining_step h c = joining_by h c (reduced_by c.role)

-- `in_reduction` makes no dependence, and `red` does: where each cell stands under `in` too, both say the same
abbrev pub all_named : ℕ → Head → Headed
all_named at h = if list_all (λ o. o.named) h.own then Ok h else Err (at, why.NoDependence)

abbrev pub all_joining : Around → List Claim → Headed
all_joining a cs = each_or_refused joining_step (record { clauses = []; around = a; own = []; taking = [] }) cs

-- of a directive whose name stands there: reductions first, since they say what the others name
abbrev pub heading : ℕ → Around → List Claim → Headed
heading at a cs = all_joining a cs >>= λ h. each_or_refused claim_items h cs >>= λ k. all_named at k

-- by what a clause of a group combines
abbrev pub combined_by : Role → Operation
combined_by (r.Combines op) = op
combined_by r.In = o.Plus
combined_by r.Out = o.Plus
combined_by r.Inout = o.Plus
combined_by (r.Reduces op) = o.Plus
combined_by r.Shared = o.Plus
combined_by r.Firstprivate = o.Plus
combined_by r.Default = o.Plus
combined_by r.DefaultNone = o.Plus
combined_by r.NumThreads = o.Plus
combined_by r.Priority = o.Plus
combined_by r.Untied = o.Plus
combined_by r.Mergeable = o.Plus

-- the operation of a group
abbrev pub group_operation : List Claim → Result Operation Refusal
group_operation [] = Ok o.Plus
group_operation (c ∷ []) = Ok (combined_by c.role)
group_operation (c ∷ d ∷ more) = Err (d.left, why.Operations)
