-- What the words of the program are to `clap`.
use Rattle.std.proofs.Common.{◌≡◌, Option, Some, List, [], ◌∷◌, Result, Ok, Err, IfOk, IsErrAnd, true, codes, refl, sym, ap, subst, ◌∙◌, inl, inr, length, arith}
use Rattle.std.specs.Prelude.{unwrap_or}
use Rattle.clap.specs.Words.{FailsBy, HasKind, Kinds, Row, Text, fault_of, is_simple, is_simple_and_free, kind_of, subcommand_of}
use Rattle.clap.specs.declared.error.Error.{Error}
use Rattle.clap.specs.declared.error.kind.ErrorKind.TheVariants.{OutOfMemory}
use Rattle.clap.proofs.OnLiterals.{clap_on_literals}
use Rattle.ot_commands.specs.Rules.{entered_name, names_rule, number_rule, socket_rule}
use Rattle.omptaskd.specs.declared.asked.Words.{Words}
use Rattle.omptaskd.specs.declared.asked.Words.TheVariants as asked
use Rattle.omptaskd.specs.Asked.{AsksFor, Means}
use Rattle.omptaskd.specs.Grammar.{program_words, sim_words, solo_words, serve_words}

-- `clap` tells exactly when these words fail, and what it finds in them
pub program_words-is_simple_and_free : is_simple_and_free program_words ≡ true
unfolding program_words solo_words sim_words serve_words names_rule number_rule socket_rule clap_on_literals
program_words-is_simple_and_free = refl

pub program_words-is_simple : is_simple program_words ≡ true
unfolding program_words solo_words sim_words serve_words names_rule number_rule socket_rule clap_on_literals
program_words-is_simple = refl

-- a result that is an error that is passed on asks for nothing
pub IfOk-passed : {T : Type 0} (P : T → Type 0) (e : Error) (r : Result T Error) → IsErrAnd r (λ f. f ≡ e) → IfOk r P
IfOk-passed P e (Ok value) passed = absurd passed
IfOk-passed P e (Err f) passed = tt

-- ---- `solo` and `sim`, each alone behind the program's name

pub fault_of-solo : (name : Text) → fault_of program_words (name ∷ codes "solo" ∷ []) ≡ []
unfolding program_words solo_words sim_words serve_words names_rule number_rule socket_rule clap_on_literals
fault_of-solo name = refl

pub fault_of-sim : (name : Text) → fault_of program_words (name ∷ codes "sim" ∷ []) ≡ []
unfolding program_words solo_words sim_words serve_words names_rule number_rule socket_rule clap_on_literals
fault_of-sim name = refl

pub entered_name-solo : (name : Text) → entered_name (subcommand_of program_words (name ∷ codes "solo" ∷ [])) ≡ Some (codes "solo")
unfolding program_words solo_words sim_words serve_words names_rule number_rule socket_rule clap_on_literals
entered_name-solo name = refl

pub entered_name-sim : (name : Text) → entered_name (subcommand_of program_words (name ∷ codes "sim" ∷ [])) ≡ Some (codes "sim")
unfolding program_words solo_words sim_words serve_words names_rule number_rule socket_rule clap_on_literals
entered_name-sim name = refl

-- words of different lengths differ
other : (x y : Text) → Some x ≡ Some y → length x ≡ length y
other x y same = ap (λ o. length (unwrap_or o x)) same

AsksFor-solo : (entered : Option (Text × List Row)) (words : Words) → AsksFor entered words → entered_name entered ≡ Some (codes "solo")
    → words ≡ asked.Solo
AsksFor-solo entered asked.Solo asks named = refl
AsksFor-solo entered asked.Sim asks named =
    let lengths = other (codes "solo") (codes "sim") (sym named ∙ asks) in
    absurd (omega (arith, lengths))
AsksFor-solo entered (asked.Serve server) asks named =
    let lengths = other (codes "solo") (codes "serve") (sym named ∙ asks.0) in
    absurd (omega (arith, lengths))

AsksFor-sim : (entered : Option (Text × List Row)) (words : Words) → AsksFor entered words → entered_name entered ≡ Some (codes "sim")
    → words ≡ asked.Sim
AsksFor-sim entered asked.Solo asks named = absurd (asks.1 named)
AsksFor-sim entered asked.Sim asks named = refl
AsksFor-sim entered (asked.Serve server) asks named =
    let lengths = other (codes "sim") (codes "serve") (sym named ∙ asks.0) in
    absurd (omega (arith, lengths))

-- an error where no kind may come is want of memory
kind_of-none : (kinds : Kinds) (e : Error) → HasKind kinds e → kinds ≡ [] → kind_of e ≡ OutOfMemory
kind_of-none kinds e has none = elim (subst (λ k. HasKind k e) none has) [ inl memory ↦ memory | inr among ↦ absurd among ]

pub Means-solo : (given : List Text) (r : Result Words Error) → FailsBy (fault_of program_words given) r
    → IfOk r (AsksFor (subcommand_of program_words given)) → (name : Text) → given ≡ name ∷ codes "solo" ∷ [] → Means asked.Solo r
Means-solo given (Ok words) fails asks name same =
    AsksFor-solo (subcommand_of program_words given) words asks (ap (λ g. entered_name (subcommand_of program_words g)) same ∙ entered_name-solo name)
Means-solo given (Err e) fails asks name same = kind_of-none _ e fails (ap (fault_of program_words) same ∙ fault_of-solo name)

pub Means-sim : (given : List Text) (r : Result Words Error) → FailsBy (fault_of program_words given) r
    → IfOk r (AsksFor (subcommand_of program_words given)) → (name : Text) → given ≡ name ∷ codes "sim" ∷ [] → Means asked.Sim r
Means-sim given (Ok words) fails asks name same =
    AsksFor-sim (subcommand_of program_words given) words asks (ap (λ g. entered_name (subcommand_of program_words g)) same ∙ entered_name-sim name)
Means-sim given (Err e) fails asks name same = kind_of-none _ e fails (ap (fault_of program_words) same ∙ fault_of-sim name)
