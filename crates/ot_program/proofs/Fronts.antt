-- A loop over statements has read a front of what there is to read.
use Rattle.std.proofs.Common.{◌≡◌, ℕ, ◌+◌, ◌<◌, ◌≤◌, List, [], ◌∷◌, ◌++◌, map, length, get_or, drop, Ok, Err, refl, sym, ap, ◌∙◌, append_assoc, append-nil, add-one}
use Rattle.std.proofs.Math.Seq.{drop-cons}
use Rattle.std.proofs.lemmas.List.{drop_all, map-append}
use Rattle.serde_json.specs.View.{view, items_view}
use Rattle.serde_json.specs.declared.value.Value.{Value}
use Rattle.ot_model.specs.Programs.{Arrays}
use Rattle.ot_model.specs.Tree.{S}
use Rattle.ot_model.specs.View.{stmt_of}
use Rattle.ot_model.specs.declared.stmt.Stmt.{Stmt}
use Rattle.ot_program.specs.declared.counts.Counts.{Counts}
use Rattle.ot_program.specs.declared.fault.ProgramFault.{ProgramFault}
use Rattle.ot_program.specs.declared.fault.ProgramFault.TheVariants.{Memory, Refused}
use Rattle.ot_program.specs.declared.profile.Profile.{Profile}
use Rattle.ot_program.specs.Meanings.{Bindings}
use Rattle.ot_program.specs.walk.Reading.{◌>>=◌}
use Rattle.ot_program.specs.walk.Statements.{Read, Reader, one_then, one_in, all_in}
use Rattle.ot_program.specs.Returned.{Fails}
use Rattle.ot_program.specs.walk.Returned.{Added}

-- one statement more
pub put_behind : (old new : List Stmt) (x : Stmt) (y : S) → new ≡ old ++ x ∷ [] → stmt_of x ≡ y
    → map stmt_of new ≡ map stmt_of old ++ y ∷ []
put_behind old new x y is seen =
    ap (map stmt_of) is ∙ map-append stmt_of old (x ∷ []) ∙ ap (λ (s : S). map stmt_of old ++ s ∷ []) seen

abbrev pub behind : List S → Read → Read
behind front rest = rest >>= λ q. Ok (front ++ q.0, q.1)

pub record Front (old now : List S) (rest whole : Read) : Type 0 where
  pub front : List S
  pub list : now ≡ old ++ front
  pub whole_is : whole ≡ behind front rest

behind-nothing : (r : Read) → r ≡ behind [] r
behind-nothing (Ok q) = refl
behind-nothing (Err c) = refl

pub front_none : (list : List S) (r : Read) → Front list list r r
front_none list r = record { front = []; list = sym (append-nil list); whole_is = behind-nothing r }

behind-behind : (front added : List S) (r : Read) → behind front (behind added r) ≡ behind (front ++ added) r
behind-behind front added (Ok q) = ap (λ (xs : List S). Ok (xs, q.1)) (sym (append_assoc front added q.0))
behind-behind front added (Err c) = refl

-- one more was read
pub front_more : (old now next : List S) (first rest : Reader) (n m : Counts) (whole : Read)
    → Front old now (one_then first rest n) whole → Added now next m (first n) → Front old next (rest m) whole
front_more old now next first rest n m whole h a = record {
  front = h.front ++ a.added;
  list = a.list ∙ ap (λ (xs : List S). xs ++ a.added) h.list ∙ append_assoc old h.front a.added;
  whole_is = h.whole_is ∙ ap (λ (r : Read). behind h.front (r >>= λ p. behind p.0 (rest p.1))) a.is
      ∙ behind-behind h.front a.added (rest m);
}

-- a fault of the next one is that of the whole
pub front_fails : (old now : List S) (first rest : Reader) (n : Counts) (whole : Read) (e : ProgramFault)
    → Front old now (one_then first rest n) whole → Fails e (first n) → Fails e whole
front_fails old now first rest n whole Memory h f = tt
front_fails old now first rest n whole (Refused c) h f =
    h.whole_is ∙ ap (λ (r : Read). behind h.front (r >>= λ p. behind p.0 (rest p.1))) f

-- all were read
pub front_all : (old now : List S) (n : Counts) (whole : Read) → Front old now (Ok ([], n)) whole
    → Added old now n whole
front_all old now n whole h = record {
  added = h.front;
  is = h.whole_is ∙ ap (λ (xs : List S). Ok (xs, n)) (append-nil h.front);
  list = h.list;
}

-- what was put behind no statements is all of the list
pub added_behind_none : (old : List Stmt) (new : List S) (n : Counts) (read : Read) → old ≡ []
    → Added (map stmt_of old) new n read → read ≡ Ok (new, n)
added_behind_none old new n read none a =
    a.is ∙ ap (λ (xs : List S). Ok (xs, n)) (sym (a.list ∙ ap (λ (vs : List Stmt). map stmt_of vs ++ a.added) none))

-- the same over a list of values from an index on
all_in-drop : (shape : Arrays) (profile : Profile) (level : ℕ) (variables : Bindings) (vs : List Value) (i : ℕ) (v : Value) (n : Counts) → i < length vs → v ≡ get_or vs i v
    → all_in shape profile level (items_view (drop i vs)) variables n ≡ one_then (one_in shape profile level (view v) variables)
    (all_in shape profile level (items_view (drop (i + 1) vs)) variables) n
unfolding all_in
all_in-drop shape profile level variables vs i v n within is = rw (drop-cons vs i v within, ← is, add-one) refl

pub all_step : (old now next : List S) (shape : Arrays) (profile : Profile) (level : ℕ) (variables : Bindings) (vs : List Value) (i : ℕ) (v : Value) (n m : Counts) (whole : Read)
    → i < length vs → v ≡ get_or vs i v → Front old now (all_in shape profile level (items_view (drop i vs)) variables n) whole
    → Added now next m (one_in shape profile level (view v) variables n) → Front old next (all_in shape profile level (items_view (drop (i + 1) vs)) variables m) whole
all_step old now next shape profile level variables vs i v n m whole within is h a =
    front_more old now next (one_in shape profile level (view v) variables) (all_in shape profile level (items_view (drop (i + 1) vs)) variables) n m whole
    (rw (all_in-drop shape profile level variables vs i v n within is) at h) a

pub all_fails : (old now : List S) (shape : Arrays) (profile : Profile) (level : ℕ) (variables : Bindings) (vs : List Value) (i : ℕ) (v : Value) (n : Counts) (whole : Read)
    (e : ProgramFault)
    → i < length vs → v ≡ get_or vs i v → Front old now (all_in shape profile level (items_view (drop i vs)) variables n) whole
    → Fails e (one_in shape profile level (view v) variables n) → Fails e whole
all_fails old now shape profile level variables vs i v n whole e within is h f =
    front_fails old now (one_in shape profile level (view v) variables) (all_in shape profile level (items_view (drop (i + 1) vs)) variables) n whole e
    (rw (all_in-drop shape profile level variables vs i v n within is) at h) f

pub all_ends : (old now : List S) (shape : Arrays) (profile : Profile) (level : ℕ) (variables : Bindings) (vs : List Value) (i : ℕ) (n : Counts) (whole : Read)
    → length vs ≤ i → Front old now (all_in shape profile level (items_view (drop i vs)) variables n) whole → Added old now n whole
unfolding all_in
all_ends old now shape profile level variables vs i n whole past h = front_all old now n whole (rw (drop_all i vs past) at h)

pub ruleset fronts = (front_none, all_step, all_fails, all_ends)
