use Rattle.std.proofs.lemmas.Result.{on_ok_weaker}
use Rattle.ot_c_words.proofs.WordLemmas.{name_put, name_put_below, names_same}
use Rattle.ot_c_words.proofs.words.Words.put_name.Goals as goal

pub returns-clause-words : goal.returns-clause-words
returns-clause-words c =
    on_ok_weaker c.put.result
    (λ put. name_put c.args.self.now.names.keys c.name_of.new.names.keys c.put.new.self.names.keys c.args.self.now.words.items c.put.new.self.words.items c.in_ok-name.name c.args.name.now
    c.in_ok-name.ensures.kept c.requires.below c.in_ok-name.ensures.value c.put.ensures.names put)
    c.put.ensures.words

pub returns-clause-below : goal.returns-clause-below
returns-clause-below c =
    on_ok_weaker c.put.result
    (λ put. name_put_below c.args.self.now.names.keys c.name_of.new.names.keys c.put.new.self.names.keys c.args.self.now.words.items c.put.new.self.words.items c.in_ok-name.name
    c.in_ok-name.ensures.kept c.requires.below c.in_ok-name.ensures.below c.put.ensures.names put)
    c.put.ensures.words

pub returns-clause-names : goal.returns-clause-names
returns-clause-names c = on_ok_weaker c.put.result (λ put. names_same c.name_of.new.names.keys c.put.new.self.names.keys c.put.ensures.names c.in_ok-name.ensures.names) c.put.ensures.words
