use Rattle.std.proofs.Common.{◌≡◌, map}
use Rattle.std.specs.Prelude.{string_bytes, take}
use Rattle.ot_commands.proofs.matched.copies.Given as goal

-- the texts so far are copied
abbrev pub invariant-loop-text : goal.invariant-loop-text
invariant-loop-text l = map string_bytes l.copies.items ≡ map (λ text. text.now) (take l.text-index l.texts)
