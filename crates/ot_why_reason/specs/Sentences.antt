-- What the codes mean, in sentences (docs/PROTOCOL.md).
use Rattle.std.specs.Prelude.{ℕ, ◌==◌, List, codes, if◌then◌else◌}

abbrev pub sentence_of : ℕ → List ℕ
sentence_of code =
    if code == 404 then codes "the server has no such tenant: in answer to a greeting alone" else
    (if code == 409 then codes "the tenant has a session already: in answer to a greeting alone" else
    (if code == 410 then codes "the line is no JSON, no UTF-8, or nested deeper than 127" else
    (if code == 411 then codes "the line is JSON, but no request" else
    (if code == 412 then codes "no array has this name" else
    (if code == 413 then codes "an array has this name already" else
    (if code == 414 then codes "the array has no such cells" else
    (if code == 415 then codes "too many cells" else
    (if code == 416 then codes "too many arrays" else
    (if code == 420 then codes "the program is of no form of the language" else
    (if code == 421 then codes "a size in the program is not exact or out of range, or a variable is unknown" else
    (if code == 422 then codes "the program is too large or too deep" else
    (if code == 423 then codes "the program has too many task statements" else
    (if code == 424 then codes "a section of the program has length 0" else
    (if code == 425 then codes "the body of a task touches a cell as the task doesn't declare it" else
    (if code == 426 then codes "a task declares more than the task around it" else
    (if code == 427 then codes "a touch, or a group, conflicts with a pending child" else
    (if code == 428 then codes "a task can end with a child pending" else
    (if code == 429 then codes "a reduction is misused" else
    (if code == 508 then codes "memory ran out" else
    codes "")))))))))))))))))))
