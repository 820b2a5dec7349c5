use Rattle.std.proofs.lemmas.Str.{IsUtf8-from_ascii}
use Rattle.ot_c_words.proofs.words.name_of.Goals as goal

pub unreachable-requires : goal.unreachable-requires
unreachable-requires c = c.in_default-from_utf8.ensures.cases.0 (IsUtf8-from_ascii c.args.name.now c.requires.ascii)
