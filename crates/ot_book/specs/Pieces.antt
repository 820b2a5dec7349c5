-- What a writer has after a piece of a reply.
use Rattle.std.specs.Prelude.{List, flat_map}
use Rattle.json.specs.Token.{Token}
use Rattle.json.specs.Tree.{json_tokens}
use Rattle.serde_json.specs.Data.{Data}
use Rattle.serde_json.specs.Written.{outline}

-- the tokens of a value that has no float
abbrev pub tokens_of : Data → List Token
tokens_of d = json_tokens (outline d)

-- the tokens of values, one after another
abbrev pub tokens_of_all : List Data → List Token
tokens_of_all ds = flat_map tokens_of ds
