-- How a statement uses a cell, in words.
use Rattle.std.specs.Prelude.{◌++◌, codes}
use Rattle.ot_model.specs.Tree.{S, Set, Fold, If, Task, Wait, Group}
use Rattle.ot_model.specs.declared.stmt.Mode.{Mode}
use Rattle.ot_model.specs.declared.stmt.Mode.TheVariants.{Reads, Writes, Folds}
use Rattle.ot_model.specs.Signs.{identifier}
use Rattle.ot_show_print.specs.Shown.{Text}

-- a task declares it
abbrev pub declared_words : Mode → Text
declared_words Reads = codes "it declares, for reading, "
declared_words Writes = codes "it declares, for writing, "
declared_words (Folds op) = codes "it declares, under `red` by `" ++ (identifier op ++ codes "`, ")

-- a value, a `set`, a fold or a condition touches it
abbrev pub touch_words : Mode → Text
touch_words Reads = codes "it reads "
touch_words Writes = codes "it writes "
touch_words (Folds op) = codes "it folds by `" ++ (identifier op ++ codes "` into ")

-- a group names it
abbrev pub use_words : S → Mode → Text
use_words (Set c e) mode = touch_words mode
use_words (Fold o c e) mode = touch_words mode
use_words (If e a b) mode = touch_words mode
use_words (Task us b) mode = declared_words mode
use_words (Wait w) mode = touch_words mode
use_words (Group o cs b) mode = codes "it names "
