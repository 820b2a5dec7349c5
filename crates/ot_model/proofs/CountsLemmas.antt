-- How counts of statements and of tasks compare.
use Rattle.std.proofs.Common.{◌≤◌, arith}
use Rattle.ot_model.specs.Tree.{Set, Fold, If, Task, Wait, Group, Body, End, Next, size, tasks_in}

-- a task statement is a statement
pub tasks_in-≤-size : (b : Body) → tasks_in b ≤ size b
tasks_in-≤-size End = omega arith
tasks_in-≤-size (Next (Set c e) rest) = omega (arith, tasks_in-≤-size rest)
tasks_in-≤-size (Next (Fold o c e) rest) = omega (arith, tasks_in-≤-size rest)
tasks_in-≤-size (Next (If e a b) rest) = omega (arith, tasks_in-≤-size a, tasks_in-≤-size b, tasks_in-≤-size rest)
tasks_in-≤-size (Next (Task d b) rest) = omega (arith, tasks_in-≤-size b, tasks_in-≤-size rest)
tasks_in-≤-size (Next (Wait w) rest) = omega (arith, tasks_in-≤-size rest)
tasks_in-≤-size (Next (Group o cs b) rest) = omega (arith, tasks_in-≤-size b, tasks_in-≤-size rest)
