-- A talk, one line after another.
use Rattle.std.proofs.Common.{◌≡◌, ◌||◌, ◌&&◌, ◌∙◌, ◌+◌, ◌-◌, ℕ, Bool, true, false, List, [], ◌∷◌, ◌++◌, map, refl, sym, ap, ap₂, subst, inl, inr, append-nil, length-append, Result, Ok, Err, length}
use Rattle.std.specs.List.{concat}
use Rattle.std.specs.Io.KnownBytes.{Consumes}
use Rattle.std.proofs.Math.Bool.{or-false, or-true}
use Rattle.std.proofs.KnownBytes.{Appends-nil, Appends-trans, Consumes-nil, Consumes-trans}
use Rattle.std.proofs.lemmas.List.Folds.{concat-append, list_any-append}
use Rattle.std.proofs.lemmas.List.Elements.{All-nil, All-push, All-take, AllZip-push}
use Rattle.ot_client_ask.specs.Asking.{BreaksBy, Counts, EndsAfter, GoesOn, IsCutShort, IsPrintedReply, LeavesServer, SaysBye, Talk, Talks, Ways, tally_of}
use Rattle.ot_client_ask.specs.Exchanges.{IsAnswered, TakesOneLine, asked_after, asked_of, with_reply}
use Rattle.ot_session.specs.Serving.{Draft, Writes}
use Rattle.ot_client_ask.specs.Streams.{IsWhole, is_last, is_refusal, sent_for, GivesLineOrRest, Incoming, Link}
use Rattle.ot_client_ask.specs.declared.asked.Tally.{Tally}
use Rattle.ot_client_ask.specs.declared.asked.Asked.TheVariants.{AllTaken, SomeRefused, CutShort}
use Rattle.ot_client_ask.specs.declared.asked.AskFault.TheVariants.{Busy, UnknownTenant, StrangeGreeting, Closed, ReadFailed, WriteFailed, Memory, TooManyLines}
use Rattle.ot_client_ask.proofs.TallyLemmas.{Calm, all_before, tally_more, untaken-of, untaken_last}
use Rattle.ot_client_ask.specs.declared.asked.Asked.{Asked}
use Rattle.ot_client_ask.specs.declared.asked.AskFault.{AskFault}
use Rattle.ot_client_ask.specs.declared.exchange.Step.{Step}
use Rattle.ot_client_ask.specs.declared.exchange.Step.TheVariants.{Answered, Bye, CutShort as CutShortStep}

pub concat-more : (xs : List (List ℕ)) (x : List ℕ) → concat (xs ++ x ∷ []) ≡ concat xs ++ x
concat-more xs x = concat-append xs (x ∷ []) ∙ ap (λ l. concat xs ++ l) (append-nil x)

pub map-more : (xs : List (List ℕ)) (x : List ℕ) → map sent_for (xs ++ x ∷ []) ≡ map sent_for xs ++ sent_for x ∷ []
map-more [] x = refl
map-more (y ∷ xs) x = ap (λ l. sent_for y ∷ l) (map-more xs x)

-- what was read of the lines
pub gives-bytes : (old new : Incoming) (line : List ℕ) → GivesLineOrRest old new line → Consumes old.ahead new.ahead line
gives-bytes old new line (inl gives) = gives.bytes
gives-bytes old new line (inr gives) = gives.bytes

pub gives-worked : (old new : Incoming) (line : List ℕ) → GivesLineOrRest old new line → new.failures ≡ old.failures
gives-worked old new line (inl gives) = gives.worked
gives-worked old new line (inr gives) = gives.ended.worked

pub writes-more : (a b c : Draft) (xs ys : List ℕ) → Writes a b xs → Writes b c ys → Writes a c (xs ++ ys)
writes-more a b c xs ys first second = record {
  bytes_out = Appends-trans a.held b.held c.held _ _ first.bytes_out second.bytes_out;
  worked = second.worked ∙ first.worked;
}

-- no line was read
abbrev pub talk_none : (Says : List ℕ → List ℕ → Type 0) → (w : Ways) → Talk Says w w false
talk_none Says w = record {
  lines = [];
  replies = [];
  each = refl;
  reads = Consumes-nil w.typed.ahead;
  sends = record { bytes_out = Appends-nil w.link.sent.held; worked = refl };
  hears = Consumes-nil w.link.heard.ahead;
  texts = [];
  shows = tt;
  prints = record { bytes_out = Appends-nil w.printed.held; worked = refl };
  whole = All-nil IsWhole;
  goes_on = All-nil (λ reply. is_last reply ≡ false);
  told = refl;
  typed_worked = refl;
  heard_worked = refl;
  heard_untold = refl;
}

-- one line more is answered
abbrev pub talk_more : (Says : List ℕ → List ℕ → Type 0) → (a b c : Ways) (r s : Bool) → Talk Says a b r → IsAnswered Says b c s → Talk Says a c (r || s)
talk_more Says a b c r s talk step = record {
  lines = talk.lines ++ step.line ∷ [];
  replies = talk.replies ++ step.reply ∷ [];
  each = length-append talk.replies (step.reply ∷ []) ∙ ap (λ n. n + 1) talk.each ∙ sym (length-append talk.lines (step.line ∷ []));
  reads = subst (Consumes a.typed.ahead c.typed.ahead) (sym (concat-more talk.lines step.line)) (Consumes-trans a.typed.ahead b.typed.ahead c.typed.ahead _ _ talk.reads (gives-bytes b.typed c.typed step.line step.reads));
  sends = subst (Writes a.link.sent c.link.sent)
      (sym (ap concat (map-more talk.lines step.line) ∙ concat-more (map sent_for talk.lines) (sent_for step.line)))
      (writes-more a.link.sent b.link.sent c.link.sent _ _ talk.sends step.sends);
  hears = subst (Consumes a.link.heard.ahead c.link.heard.ahead) (sym (concat-more talk.replies step.reply)) (Consumes-trans a.link.heard.ahead b.link.heard.ahead c.link.heard.ahead _ _ talk.hears step.hears.bytes);
  texts = talk.texts ++ step.text ∷ [];
  shows = AllZip-push (IsPrintedReply Says) talk.replies talk.texts step.reply step.text talk.shows step.shows;
  prints = subst (Writes a.printed c.printed) (sym (concat-more talk.texts step.text)) (writes-more a.printed b.printed c.printed _ _ talk.prints step.prints);
  whole = All-push IsWhole talk.replies step.reply talk.whole step.hears.whole;
  goes_on = All-push (λ reply. is_last reply ≡ false) talk.replies step.reply talk.goes_on step.goes_on;
  told = ap₂ (λ x y. x || y) talk.told (step.told ∙ sym (or-false (is_refusal step.reply))) ∙ sym (list_any-append is_refusal talk.replies (step.reply ∷ []));
  typed_worked = gives-worked b.typed c.typed step.line step.reads ∙ talk.typed_worked;
  heard_worked = step.hears.worked ∙ talk.heard_worked;
  heard_untold = step.hears.untold ∙ talk.heard_untold;
}

-- one line more is answered, and isn't to stop the session
pub talk_on : (Says : List ℕ → List ℕ → Type 0) → (stop : Bool) (a b c : Ways) (r s : Bool) (result : Result Step AskFault) (n : ℕ) (t u : Tally) (talk : Talk Says a b r) → length talk.lines ≡ n
    → t ≡ tally_of talk.replies → Calm stop r talk.replies → u ≡ with_reply t s → (stop && s) ≡ false → TakesOneLine Says b c result → result ≡ Ok (Answered s)
    → (more : Talk Says a c (r || s)) × (length more.lines ≡ n + 1) × (u ≡ tally_of more.replies) × Calm stop (r || s) more.replies
talk_on Says stop a b c r s result n t u talk many counted calm more on steps is =
    let step : IsAnswered Says b c s = subst (TakesOneLine Says b c) is steps in
    let plain : stop ≡ true → s ≡ false = λ stops. sym (ap (λ x. x && s) stops) ∙ on in (
      talk_more Says a b c r s talk step,
      length-append talk.lines (step.line ∷ []) ∙ ap (λ k. k + 1) many,
      more ∙ ap (λ x. with_reply x s) counted ∙ tally_more talk.replies step.reply s (untaken-of step.reply s step.told step.goes_on),
      record {
        none = λ stops. ap₂ (λ x y. x || y) (calm.none stops) (plain stops);
        all = λ stops. All-push (λ reply. is_refusal reply ≡ false) talk.replies step.reply (calm.all stops) (sym step.told ∙ plain stops);
      },
    )

-- what it comes to, by whether any was refused
pub asked_of-or : (r s : Bool) → asked_after (asked_of r) s ≡ asked_of (r || s)
asked_of-or true true = refl
asked_of-or true false = refl
asked_of-or false true = refl
asked_of-or false false = refl

-- ---- and then an end

no_stop : (stop r : Bool) → (stop ≡ true → r ≡ false) → (stop && r) ≡ false
no_stop true r none = none refl
no_stop false r none = refl

-- no reply was to stop the session
pub talks : (Says : List ℕ → List ℕ → Type 0) → (stop : Bool) (a b c : Ways) (r : Bool) (result : Result Asked AskFault) (t : Tally) (talk : Talk Says a b r)
    → Calm stop r talk.replies → GoesOn Says (length talk.lines) b c r result → Counts talk.replies result t → Talks Says stop a c result t
talks Says stop a b c r result t talk calm ends counts = record {
  last = b;
  is_refused = r;
  talk = talk;
  first = λ stops. All-take (λ reply. is_refusal reply ≡ false) (length talk.replies - 1) talk.replies (calm.all stops);
  ends = subst (λ s. EndsAfter Says s (length talk.lines) b c r result) (sym (no_stop stop r calm.none)) ends;
  counts = counts;
}

goes_bye : (Says : List ℕ → List ℕ → Type 0) → (n : ℕ) (b c : Ways) (r : Bool) → SaysBye b c → GoesOn Says n b c r (Ok (asked_of r))
goes_bye Says n b c true bye = (refl, bye)
goes_bye Says n b c false bye = (refl, bye)

counts_bye : (r : Bool) (replies : List (List ℕ)) (t : Tally) → t ≡ tally_of replies → Counts replies (Ok (asked_of r)) t
counts_bye true replies t counted = counted
counts_bye false replies t counted = counted

-- a goodbye
pub talks_bye : (Says : List ℕ → List ℕ → Type 0) → (stop : Bool) (a b c : Ways) (r : Bool) (asked : Asked) (step : Result Step AskFault) (t : Tally) (talk : Talk Says a b r)
    → Calm stop r talk.replies → asked ≡ asked_of r → t ≡ tally_of talk.replies → TakesOneLine Says b c step → step ≡ Ok Bye → Talks Says stop a c (Ok asked) t
talks_bye Says stop a b c r asked step t talk calm so counted steps is =
    let bye : SaysBye b c = subst (TakesOneLine Says b c) is steps in
    subst (λ e. Talks Says stop a c (Ok e) t) (sym so)
    (talks Says stop a b c r (Ok (asked_of r)) t talk calm (goes_bye Says (length talk.lines) b c r bye) (counts_bye r talk.replies t counted))

-- the server takes no further line
pub talks_cut : (Says : List ℕ → List ℕ → Type 0) → (stop : Bool) (a b c : Ways) (r : Bool) (step : Result Step AskFault) (t u : Tally) (talk : Talk Says a b r)
    → Calm stop r talk.replies → t ≡ tally_of talk.replies → u ≡ with_reply t true → TakesOneLine Says b c step → step ≡ Ok CutShortStep
    → Talks Says stop a c (Ok CutShort) u
talks_cut Says stop a b c r step t u talk calm counted more steps is =
    let cut : IsCutShort b c = subst (TakesOneLine Says b c) is steps in
    talks Says stop a b c r (Ok CutShort) u talk calm cut
    (cut.reply, cut.last, more ∙ ap (λ x. with_reply x true) counted ∙ tally_more talk.replies cut.reply true (untaken_last cut.reply cut.last))

goes_broken : (Says : List ℕ → List ℕ → Type 0) → (n : ℕ) (b c : Ways) (r : Bool) (fault : AskFault) → BreaksBy Says fault b c → GoesOn Says n b c r (Err fault)
goes_broken Says n b c r Busy breaks = breaks
goes_broken Says n b c r UnknownTenant breaks = breaks
goes_broken Says n b c r StrangeGreeting breaks = breaks
goes_broken Says n b c r Closed breaks = breaks
goes_broken Says n b c r ReadFailed breaks = breaks
goes_broken Says n b c r WriteFailed breaks = breaks
goes_broken Says n b c r Memory breaks = breaks
goes_broken Says n b c r TooManyLines breaks = absurd breaks

-- something goes wrong
pub talks_broken : (Says : List ℕ → List ℕ → Type 0) → (stop : Bool) (a b c : Ways) (r : Bool) (fault : AskFault) (step : Result Step AskFault) (t : Tally) (talk : Talk Says a b r)
    → Calm stop r talk.replies → t ≡ tally_of talk.replies → TakesOneLine Says b c step → step ≡ Err fault → Talks Says stop a c (Err fault) t
talks_broken Says stop a b c r fault step t talk calm counted steps is =
    let breaks : BreaksBy Says fault b c = subst (TakesOneLine Says b c) is steps in
    talks Says stop a b c r (Err fault) t talk calm (goes_broken Says (length talk.lines) b c r fault breaks) counted

counts_left : (old new : Link) (result : Result Asked AskFault) (replies : List (List ℕ)) (t : Tally) → LeavesServer old new result
    → t ≡ tally_of replies → Counts replies result t
counts_left old new (Ok AllTaken) replies t leaves counted = absurd leaves
counts_left old new (Ok SomeRefused) replies t leaves counted = counted
counts_left old new (Ok CutShort) replies t leaves counted = absurd leaves
counts_left old new (Err fault) replies t leaves counted = counted

-- a refusal that is to stop the session
pub talks_left : (Says : List ℕ → List ℕ → Type 0) → (stop : Bool) (a b c d : Ways) (r s : Bool) (result : Result Asked AskFault) (step : Result Step AskFault) (t u : Tally) (talk : Talk Says a b r)
    → Calm stop r talk.replies → t ≡ tally_of talk.replies → u ≡ with_reply t s → TakesOneLine Says b c step → step ≡ Ok (Answered s) → stop ≡ true → s ≡ true
    → LeavesServer c.link d.link result → d.typed ≡ c.typed → d.printed ≡ c.printed → Talks Says stop a d result u
talks_left Says stop a b c d r s result step t u talk calm counted more steps is stops refused leaves unread unprinted =
    let answered : IsAnswered Says b c s = subst (TakesOneLine Says b c) is steps in
    let counted_now = more ∙ ap (λ x. with_reply x s) counted
    ∙ tally_more talk.replies answered.reply s (untaken-of answered.reply s answered.told answered.goes_on) in
    let ends_so : (stop && (r || s)) ≡ true = ap₂ (λ x y. x && (r || y)) stops refused ∙ or-true r in
    record {
      last = c;
      is_refused = r || s;
      talk = talk_more Says a b c r s talk answered;
      first = λ said. all_before talk.replies answered.reply (calm.all stops);
      ends = subst (λ e. EndsAfter Says e (length (talk.lines ++ answered.line ∷ [])) c d (r || s) result) (sym ends_so) (leaves, unread, unprinted);
      counts = counts_left c.link d.link result (talk.replies ++ answered.reply ∷ []) u leaves counted_now;
    }
