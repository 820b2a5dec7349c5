-- Requests one after another, and where they stop.
use Rattle.std.proofs.Common.{◌≡◌, ◌∙◌, ◌+◌, ◌<◌, List, [], ◌∷◌, ◌++◌, get_or, length, map, take, refl, sym, ap, ap₂, subst, inr}
use Rattle.std.specs.Prelude.{ℕ, Bool, true, false, Result, Ok, Err, MatchResult, ⊤}
use Rattle.std.proofs.lemmas.List.{map-append, take_more}
use Rattle.ot_model.specs.Programs.{arrays_of}
use Rattle.ot_model.specs.declared.shape.ArrayShape.{ArrayShape}
use Rattle.ot_store.specs.Arrays.{Named, arrays_listed}
use Rattle.ot_client_ask.specs.Asking.{GreetsServer}
use Rattle.ot_client_ask.specs.Streams.{Link}
use Rattle.ot_client_keep.specs.Answers.{shape_sized}
use Rattle.ot_client_keep.specs.Files.{Reply, Listed, Taken, file_text}
use Rattle.ot_client_keep.specs.Arrays.{named_by}
use Rattle.ot_client_keep.specs.declared.array.Array.{Array}
use Rattle.ot_client_keep.specs.Questions.{Question, Arrays, Checkpoint, Free, TurnFails, StopsAsking, AsksInTurn, Turn, arrays_turns, cells_turn, array_sized}
use Rattle.ot_client_keep.specs.Saving.{AreFreed, Clears, Compares, FreesAll, IsClear, IsTaken, Restores, SeesNone, TakesSession}
use Rattle.ot_client_keep.specs.declared.fault.KeepFault.{KeepFault}
use Rattle.ot_client_keep.specs.declared.fault.KeepFault.TheVariants.{Ask, Differs, HasArrays, NotWhole, Refused, StrangeReply, WriteFailed}

pub talks_append : (a b c : Link) (xs ys : List (Question × Reply)) → AsksInTurn a b xs → AsksInTurn b c ys → AsksInTurn a c (xs ++ ys)
talks_append a b c [] ys first second = subst (λ l. AsksInTurn l c ys) first second
talks_append a b c (t ∷ ts) ys first second = (first.0, first.1, talks_append first.0 b c ts ys first.2 second)

pub talks_one : (a b : Link) (t : Question × Reply) → Turn t.0 a b t.1 → AsksInTurn a b (t ∷ [])
talks_one a b t turn = (b, turn, refl)

pub stops_now : (old new : Link) (question : Question) (fault : KeepFault) → TurnFails question old new fault → StopsAsking old new fault
stops_now old new question fault fails = record { turns = []; last = old; talk = refl; question = question; fails = fails }

pub stops_later : (a b c : Link) (ts : List (Question × Reply)) (fault : KeepFault) → AsksInTurn a b ts → StopsAsking b c fault → StopsAsking a c fault
stops_later a b c ts fault talk stops = record {
  turns = ts ++ stops.turns;
  last = stops.last;
  talk = talks_append a b stops.last ts stops.turns talk stops.talk;
  question = stops.question;
  fails = stops.fails;
}

pub talks_two : (a b c : Link) (t u : Question × Reply) → Turn t.0 a b t.1 → Turn u.0 b c u.1 → AsksInTurn a c (t ∷ u ∷ [])
talks_two a b c t u first second = (b, first, (c, second, refl))

-- the cells of one array more are told
pub turns_more : (a b c : Link) (items : List Array) (one : Array) (more : List Array) → AsksInTurn a b (map cells_turn (map named_by items))
    → Turn (cells_turn (named_by one)).0 b c (cells_turn (named_by one)).1 → more ≡ items ++ one ∷ [] → AsksInTurn a c (map cells_turn (map named_by more))
turns_more a b c items one more talk turn is =
    let all : map cells_turn (map named_by more) ≡ map cells_turn (map named_by items) ++ cells_turn (named_by one) ∷ [] =
    ap (λ l. map cells_turn (map named_by l)) is ∙ ap (map cells_turn) (map-append named_by items (one ∷ [])) ∙ map-append cells_turn (map named_by items) (named_by one ∷ []) in
    subst (AsksInTurn a c) (sym all) (talks_append a b c (map cells_turn (map named_by items)) (cells_turn (named_by one) ∷ []) talk (talks_one b c (cells_turn (named_by one)) turn))

-- and it is the next of the list
pub listed_more : (shapes : List ArrayShape) (i : ℕ) (shape : ArrayShape) (items : List Array) (one : Array) (more : List Array) → arrays_listed (map named_by items) ≡ arrays_of (take i shapes)
    → array_sized (named_by one) ≡ shape_sized shape → more ≡ items ++ one ∷ [] → i < length shapes → shape ≡ get_or shapes i shape → arrays_listed (map named_by more) ≡ arrays_of (take (i + 1) shapes)
listed_more shapes i shape items one more so_far same is within at =
    let all : arrays_of (take (i + 1) shapes) ≡ arrays_of (take i shapes) ++ shape_sized shape ∷ [] =
    ap arrays_of (take_more shapes i shape within ∙ ap (λ x. take i shapes ++ x ∷ []) (sym at)) ∙ map-append shape_sized (take i shapes) (shape ∷ []) in
    ap (λ l. arrays_listed (map named_by l)) is ∙ ap arrays_listed (map-append named_by items (one ∷ [])) ∙ map-append array_sized (map named_by items) (named_by one ∷ [])
    ∙ ap₂ (λ xs x. xs ++ x ∷ []) so_far same ∙ sym all

-- none are freed
pub freed_none : (a : Link) → AreFreed [] a a
freed_none a = record { turns = []; asked = refl; talk = refl }

-- and one more
pub freed_more : (shapes : List ArrayShape) (i : ℕ) (shape : ArrayShape) (name : List ℕ) (a b c : Link) (n : ℕ) → AreFreed (arrays_of (take i shapes)) a b
    → name ≡ (shape_sized shape).0 → Turn (Free name) b c (Taken n) → i < length shapes → shape ≡ get_or shapes i shape → AreFreed (arrays_of (take (i + 1) shapes)) a c
freed_more shapes i shape name a b c n freed named turn within at =
    let all : arrays_of (take (i + 1) shapes) ≡ arrays_of (take i shapes) ++ shape_sized shape ∷ [] =
    ap arrays_of (take_more shapes i shape within ∙ ap (λ x. take i shapes ++ x ∷ []) (sym at)) ∙ map-append shape_sized (take i shapes) (shape ∷ []) in
    let last : List (Question × Reply) = (Free name, Taken n) ∷ [] in
    record {
      turns = freed.turns ++ last;
      asked = map-append (λ t. t.0) freed.turns last ∙ ap₂ (λ l x. l ++ Free x ∷ []) freed.asked named
          ∙ sym (map-append (λ x. Free x.0) (arrays_of (take i shapes)) (shape_sized shape ∷ [])) ∙ ap (map (λ x. Free x.0)) (sym all);
      talk = talks_append a b c freed.turns last freed.talk (talks_one b c (Free name, Taken n) turn);
    }

-- all are freed behind their list, or it stops
pub frees_all : (old told new : Link) (number : ℕ) (found shapes : List (List ℕ × ℕ)) (result : Result ⊤ KeepFault)
    → AsksInTurn old told ((Checkpoint, Taken number) ∷ (Arrays, Listed found) ∷ []) → shapes ≡ found
    → MatchResult result (λ done. AreFreed shapes told new) (λ fault. StopsAsking told new fault) → FreesAll old new result
frees_all old told new number found shapes (Ok done) talk same freed =
    record { number = number; found = found; listed = told; talk = talk; freed = subst (λ l. AreFreed l told new) same freed }
frees_all old told new number found shapes (Err fault) talk same stops =
    stops_later old told new ((Checkpoint, Taken number) ∷ (Arrays, Listed found) ∷ []) fault talk stops

-- the names are told, and then the cells of each array
pub all_told : (a b c : Link) (shapes : List (List ℕ × ℕ)) (arrays : List Named) → Turn Arrays a b (Listed shapes) → AsksInTurn b c (map cells_turn arrays) → arrays_listed arrays ≡ shapes
    → AsksInTurn a c (arrays_turns arrays)
all_told a b c shapes arrays turn talk same = (b, subst (λ l. Turn Arrays a b (Listed l)) (sym same) turn, talk)

-- ---- what a stop is to each part

pub sees_none_stop : (old new : Link) (fault : KeepFault) → StopsAsking old new fault → SeesNone old new (Err fault)
sees_none_stop old new (Ask why) stops = stops
sees_none_stop old new StrangeReply stops = stops
sees_none_stop old new WriteFailed stops = stops
sees_none_stop old new NotWhole stops = stops
sees_none_stop old new HasArrays stops = absurd stops.fails
sees_none_stop old new (Refused n) stops = stops
sees_none_stop old new Differs stops = stops

pub takes_stop : (session : List ℕ) (old new : Link) (fault : KeepFault) → StopsAsking old new fault → TakesSession session old new (Err fault)
takes_stop session old new (Ask why) stops = stops
takes_stop session old new StrangeReply stops = stops
takes_stop session old new WriteFailed stops = stops
takes_stop session old new NotWhole stops = stops
takes_stop session old new HasArrays stops = stops
takes_stop session old new (Refused n) stops = absurd stops.fails
takes_stop session old new Differs stops = stops

-- what is asked and told until the tenant is clear
abbrev clear_turns : (replace : Bool) (old new : Link) → IsClear replace old new → List (Question × Reply)
clear_turns true old new lost = (Checkpoint, Taken lost.number) ∷ (Arrays, Listed lost.found) ∷ lost.freed.turns
clear_turns false old new none = (Arrays, Listed []) ∷ (Checkpoint, Taken none.0) ∷ []

clear_talk : (replace : Bool) (old new : Link) (clears : IsClear replace old new) → AsksInTurn old new (clear_turns replace old new clears)
clear_talk true old new lost =
    talks_append old lost.listed new ((Checkpoint, Taken lost.number) ∷ (Arrays, Listed lost.found) ∷ []) lost.freed.turns lost.talk lost.freed.talk
clear_talk false old new none = none.1

-- a stop behind a clear tenant
clear_stops : (replace : Bool) (greeted clear new : Link) (fault : KeepFault) → IsClear replace greeted clear → StopsAsking clear new fault → StopsAsking greeted new fault
clear_stops replace greeted clear new fault clears stops =
    stops_later greeted clear new (clear_turns replace greeted clear clears) fault (clear_talk replace greeted clear clears) stops

-- a stop before it
pub restores_clears : (name file : List ℕ) (replace : Bool) (old greeted new : Link) (fault : KeepFault) → GreetsServer name old greeted (Ok tt)
    → Clears replace greeted new (Err fault) → Restores name file replace old new (Err fault)
restores_clears name file true old greeted new (Ask why) greets stops = inr (greeted, greets, stops)
restores_clears name file true old greeted new StrangeReply greets stops = inr (greeted, greets, stops)
restores_clears name file true old greeted new WriteFailed greets stops = absurd stops.fails
restores_clears name file true old greeted new NotWhole greets stops = absurd stops.fails
restores_clears name file true old greeted new HasArrays greets stops = absurd stops.fails
restores_clears name file true old greeted new (Refused n) greets stops = absurd stops.fails
restores_clears name file true old greeted new Differs greets stops = absurd stops.fails
restores_clears name file false old greeted new (Ask why) greets stops = inr (greeted, greets, stops)
restores_clears name file false old greeted new StrangeReply greets stops = inr (greeted, greets, stops)
restores_clears name file false old greeted new WriteFailed greets stops = absurd stops.fails
restores_clears name file false old greeted new NotWhole greets stops = absurd stops.fails
restores_clears name file false old greeted new HasArrays greets some = (refl, (greeted, greets, some))
restores_clears name file false old greeted new (Refused n) greets stops = absurd stops.fails
restores_clears name file false old greeted new Differs greets stops = absurd stops.fails

-- a stop in the file's lines
pub restores_takes : (name file session : List ℕ) (replace : Bool) (old greeted clear new : Link) (next used : ℕ) (fault : KeepFault) → GreetsServer name old greeted (Ok tt) → IsClear replace greeted clear
    → file ≡ file_text session next used → TakesSession session clear new (Err fault) → Restores name file replace old new (Err fault)
restores_takes name file session replace old greeted clear new next used (Ask why) greets clears is takes = inr (greeted, greets, clear_stops replace greeted clear new (Ask why) clears takes)
restores_takes name file session replace old greeted clear new next used StrangeReply greets clears is takes = inr (greeted, greets, clear_stops replace greeted clear new StrangeReply clears takes)
restores_takes name file session replace old greeted clear new next used WriteFailed greets clears is takes = absurd takes.fails
restores_takes name file session replace old greeted clear new next used NotWhole greets clears is takes = absurd takes.fails
restores_takes name file session replace old greeted clear new next used HasArrays greets clears is takes = absurd takes.fails
restores_takes name file session replace old greeted clear new next used (Refused n) greets clears is takes = (session, greeted, clear, greets, clears, takes, (next, used, is))
restores_takes name file session replace old greeted clear new next used Differs greets clears is takes = absurd takes.fails

-- and behind them
pub restores_compares : (name file session : List ℕ) (replace : Bool) (old greeted clear sent new : Link) (next used : ℕ) (fault : KeepFault) → GreetsServer name old greeted (Ok tt) → IsClear replace greeted clear
    → file ≡ file_text session next used → IsTaken session clear sent → Compares session sent new (Err fault) → Restores name file replace old new (Err fault)
restores_compares name file session replace old greeted clear sent new next used (Ask why) greets clears is taken compares =
    inr (greeted, greets, clear_stops replace greeted clear new (Ask why) clears (stops_later clear sent new taken.taken.turns (Ask why) taken.taken.talk compares))
restores_compares name file session replace old greeted clear sent new next used StrangeReply greets clears is taken compares =
    inr (greeted, greets, clear_stops replace greeted clear new StrangeReply clears (stops_later clear sent new taken.taken.turns StrangeReply taken.taken.talk compares))
restores_compares name file session replace old greeted clear sent new next used WriteFailed greets clears is taken compares = absurd compares.fails
restores_compares name file session replace old greeted clear sent new next used NotWhole greets clears is taken compares = absurd compares.fails
restores_compares name file session replace old greeted clear sent new next used HasArrays greets clears is taken compares = absurd compares.fails
restores_compares name file session replace old greeted clear sent new next used (Refused n) greets clears is taken compares = absurd compares.fails
restores_compares name file session replace old greeted clear sent new next used Differs greets clears is taken compares =
    (session, compares.0, greeted, clear, sent, greets, clears, taken, compares.1, compares.2, (next, used, is))
