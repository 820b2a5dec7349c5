-- Locks that tasks hold. Each has a number, and so has each set of them that a task held.
use Rattle.std.specs.Prelude.{ℕ, suc, ◌++◌, ◌==◌, nat_lt, nat_le, Bool, true, false, not, ◌&&◌, List, [], ◌∷◌, length, filter, get_or, if◌then◌else◌, Result, Ok, Err}
use Rattle.std.specs.List.{list_any}
use Rattle.ot_exec_state.specs.Results.{◌>>=◌}
use Rattle.ot_exec_state.specs.declared.fault.Reason.{Reason}
use Rattle.ot_exec_state.specs.declared.fault.Reason.TheVariants.{Null, NoPlace, Taken, NotHeld, TooManyLocks}
use Rattle.ot_exec_state.specs.declared.limits.Limits.{Limits}
use Rattle.ot_exec_state.specs.declared.locks.Lock.{Lock}
use Rattle.ot_exec_state.specs.declared.locks.Lock.TheVariants.{ByNumber, ByPlace, ByItem}
use Rattle.ot_exec_state.specs.declared.value.Value.{Value}
use Rattle.ot_exec_state.specs.declared.value.Value.TheVariants.{Number, Pointer}

-- the locks that there have been, the sets of them, the number of the set that the task holds which runs, and all that are held
pub record Locks : Type 0 where
  pub known : List Lock
  pub sets : List (List ℕ)
  pub held : ℕ
  pub taken : List ℕ

abbrev pub locks : List Lock → List (List ℕ) → ℕ → List ℕ → Locks
locks known sets held taken = record { known = known; sets = sets; held = held; taken = taken }

-- in the beginning there is the empty set
abbrev pub no_locks : Locks
no_locks = locks [] ([] ∷ []) 0 []

-- ---- what names a lock

unfoldable pub lock_named : Value → Result Lock Reason
lock_named (Number n) = if n == 0 then Err Null else Ok (ByNumber n)
lock_named (Pointer o k) = Ok (ByPlace o k)
lock_named _ = Err NoPlace

abbrev pub same_lock : Lock → Lock → Bool
same_lock (ByNumber a) (ByNumber b) = a == b
same_lock (ByPlace o k) (ByPlace p l) = o == p && k == l
same_lock (ByItem a o k) (ByItem b p l) = a == b && o == p && k == l
same_lock one other = false

-- how many locks stand before it
abbrev pub lock_place : Lock → List Lock → ℕ
lock_place x [] = 0
lock_place x (y ∷ ys) = if same_lock y x then 0 else suc (lock_place x ys)

-- one that wasn't there gets the next number
abbrev pub with_lock : Lock → Locks → Locks
with_lock x s = if nat_lt (lock_place x s.known) (length s.known) then s else locks (s.known ++ x ∷ []) s.sets s.held s.taken

unfoldable pub lock_numbered : Limits → Lock → Locks → Result (ℕ × Locks) Reason
lock_numbered l x s = if nat_lt (lock_place x s.known) l.locks then Ok (lock_place x s.known, with_lock x s) else Err TooManyLocks

-- ---- sets of numbers

abbrev pub holds_number : ℕ → List ℕ → Bool
holds_number n ns = list_any (λ m. m == n) ns

abbrev pub without : ℕ → List ℕ → List ℕ
without n ns = filter (λ m. not (m == n)) ns

abbrev pub same_set : List ℕ → List ℕ → Bool
same_set [] [] = true
same_set (n ∷ ns) (m ∷ ms) = n == m && same_set ns ms
same_set one other = false

-- how many sets stand before it
abbrev pub set_place : List ℕ → List (List ℕ) → ℕ
set_place ns [] = 0
set_place ns (ms ∷ sets) = if same_set ms ns then 0 else suc (set_place ns sets)

abbrev pub with_set : List ℕ → List (List ℕ) → List (List ℕ)
with_set ns sets = if nat_lt (set_place ns sets) (length sets) then sets else sets ++ ns ∷ []

-- the locks that the task holds which runs
abbrev pub own : Locks → List ℕ
own s = get_or s.sets s.held []

-- it holds these
unfoldable pub holding : Limits → List ℕ → Locks → Result Locks Reason
holding l ns s =
    if nat_le (length ns) l.held && nat_lt (set_place ns s.sets) l.locks then Ok (locks s.known (with_set ns s.sets) (set_place ns s.sets) s.taken) else Err TooManyLocks

-- a lock more in a set that no task holds yet
unfoldable pub adding : Limits → Lock → List ℕ → Locks → Result (List ℕ × Locks) Reason
adding l x ns s = do
  n ← lock_numbered l x s
  Ok (if holds_number n.0 ns then ns else ns ++ n.0 ∷ [], n.1)

-- it goes on with the set of this number
abbrev pub with_held : ℕ → Locks → Locks
with_held n s = locks s.known s.sets n s.taken

abbrev pub with_taken : List ℕ → Locks → Locks
with_taken ns s = locks s.known s.sets s.held ns

-- ---- what it does with one

-- it takes a lock that no task holds
unfoldable pub taking : Limits → Value → Locks → Result Locks Reason
taking l v s = do
  x ← lock_named v
  n ← lock_numbered l x s
  if holds_number n.0 n.1.taken then Err Taken else holding l (own n.1 ++ n.0 ∷ []) (with_taken (n.1.taken ++ n.0 ∷ []) n.1)

-- it gives back one that it holds
unfoldable pub giving_back : Limits → Value → Locks → Result Locks Reason
giving_back l v s = do
  x ← lock_named v
  n ← lock_numbered l x s
  if holds_number n.0 (own n.1) then holding l (without n.0 (own n.1)) (with_taken (without n.0 n.1.taken) n.1) else Err NotHeld
