use Rattle.ot_c_words.proofs.WordLemmas.{found_name, names_put}
use Rattle.ot_c_words.proofs.words.number_of.Goals as goal

pub returns-in-Some-clause-found : goal.returns-in-Some-clause-found
returns-in-Some-clause-found c = found_name c.args.name.now c.args.names.now.keys c.in-Some.number c.in-Some.ensures.index

pub returns-clause-names : goal.returns-clause-names
returns-clause-names c =
    names_put c.args.names.now.keys c.insert_full.new.self.keys c.in_ok-from_str.field-0 c.args.name.now c.requires.names c.requires.free c.in_ok-from_str.ensures.ok
    c.in_ok-number.ensures.keys c.in_ok-number.ensures.unique
