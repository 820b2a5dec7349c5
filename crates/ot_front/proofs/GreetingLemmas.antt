-- What a greeting is answered, and what a connection comes to.
use Rattle.std.proofs.Common.{◌≡◌, ◌≢◌, ℕ, ◌≤◌, List, [], ◌∷◌, ◌++◌, length, Option, refl, ap, ◌∙◌, subst, inl, inr, arith}
use Rattle.std.specs.Prelude.{Some, None, Result, Ok, Err, IfOk, codes, decimal}
use Rattle.std.specs.Io.KnownBytes.{Consumes}
use Rattle.std.proofs.KnownBytes.{Consumes-nil}
use Rattle.json.specs.Token as token
use Rattle.json.specs.Tree.{json_tokens}
use Rattle.serde_json.specs.Written.{outline}
use Rattle.serde_json.specs.View.{items_view}
use Rattle.serde_json.specs.declared.value.Value.{Value}
use Rattle.ot_book.specs.Books.{Register, next_number}
use Rattle.ot_session.specs.Session.{HasNoEnd}
use Rattle.ot_front.specs.FirstLines.{read_with}
use Rattle.ot_front.specs.Greetings.{hello_of, hello_json, Greeting, greeting_of, Asks, IsFirstLine, IsTooLong, IsCutLine, IsRefused, IsGiven, refusal_text, hello_text, WritesReply, Answers, Greets}
use Rattle.ot_lines.specs.declared.source.Failed.{Failed}
use Rattle.ot_lines.specs.declared.lines.Heard.{Heard}
use Rattle.ot_lines.specs.declared.lines.Heard.TheVariants.{Line, Long}
use Rattle.ot_session.specs.declared.fault.FrontFault.{FrontFault}
use Rattle.ot_session.specs.declared.fault.FrontFault.TheVariants.{WriteFailed, Memory}
use Rattle.ot_front.specs.declared.refusal.Refusal.{Refusal}
use Rattle.ot_front.specs.declared.refusal.Refusal.TheVariants.{NotGreeting}

-- ---- what is asked

-- lists of another length than two
pub no_hello : (vs : List Value) → length vs ≢ 2 → hello_of (items_view vs) ≡ None
no_hello [] two = refl
no_hello (a ∷ []) two = refl
no_hello (a ∷ b ∷ []) two = absurd (two refl)
no_hello (a ∷ b ∷ c ∷ vs) two = refl

-- ---- the reply to a greeting

-- its tokens, one after another
pub hello-tokens : (book : Register) (n : ℕ) (t0 t1 t2 t3 t4 t5 : List token.Token) → n ≡ next_number book → t0 ≡ [] → t1 ≡ t0 ++ token.begin_array ∷ [] →
    t2 ≡ t1 ++ token.string (codes "hello") ∷ [] → t3 ≡ t2 ++ token.string book.name ∷ [] → t4 ≡ t3 ++ token.number (decimal n) ∷ [] → t5 ≡ t4 ++ token.end_array ∷ [] →
    t5 ≡ json_tokens (outline (hello_json book))
hello-tokens book n t0 t1 t2 t3 t4 t5 number e0 e1 e2 e3 e4 e5 =
    let f1 : t1 ≡ token.begin_array ∷ [] = e1 ∙ ap (λ ts. ts ++ token.begin_array ∷ []) e0 in
    let f2 : t2 ≡ token.begin_array ∷ token.string (codes "hello") ∷ [] = e2 ∙ ap (λ ts. ts ++ token.string (codes "hello") ∷ []) f1 in
    let f3 : t3 ≡ token.begin_array ∷ token.string (codes "hello") ∷ token.string book.name ∷ [] = e3 ∙ ap (λ ts. ts ++ token.string book.name ∷ []) f2 in
    let f4 : t4 ≡ token.begin_array ∷ token.string (codes "hello") ∷ token.string book.name ∷ token.number (decimal n) ∷ [] =
    e4 ∙ ap (λ ts. ts ++ token.number (decimal n) ∷ []) f3 in
    e5 ∙ ap (λ ts. ts ++ token.end_array ∷ []) f4
    ∙ ap (λ k. token.begin_array ∷ token.string (codes "hello") ∷ token.string book.name ∷ token.number (decimal k) ∷ token.end_array ∷ []) number

-- ---- the answer

-- a refusal is told
pub answers_refused : (names : List (List ℕ)) (greeting : Greeting) (why : Refusal) (start held : Option (List ℕ)) (result : Result (Option Register) FrontFault) →
    IsRefused names greeting why → WritesReply start held (refusal_text why) result → IfOk result (λ given. given ≡ None) → Answers names greeting start held result
answers_refused names greeting why start held (Ok None) refused writes none = (why, refused, writes)
answers_refused names greeting why start held (Ok (Some book)) refused writes none = absurd (cc)
answers_refused names greeting why start held (Err WriteFailed) refused writes none = (refusal_text why, inl (why, refused, refl), writes)
answers_refused names greeting why start held (Err Memory) refused writes none = writes
answers_refused names greeting why start held (Err other) refused writes none = absurd writes

-- a book is given
pub answers_given : (names : List (List ℕ)) (greeting : Greeting) (book : Register) (start held : Option (List ℕ)) (result : Result (Option Register) FrontFault) →
    IsGiven names greeting book → WritesReply start held (hello_text book) result → IfOk result (λ given. given ≡ Some book) → Answers names greeting start held result
answers_given names greeting book start held (Ok None) is writes given = absurd (cc)
answers_given names greeting book start held (Ok (Some other)) is writes given =
    let same : book ≡ other = cc in
    subst (λ b. Answers names greeting start held (Ok (Some b))) same (is, writes)
answers_given names greeting book start held (Err WriteFailed) is writes given = (hello_text book, inr (book, is, refl), writes)
answers_given names greeting book start held (Err Memory) is writes given = writes
answers_given names greeting book start held (Err other) is writes given = absurd writes

-- ---- the connection

pub greets_asked : (names : List (List ℕ)) (ahead left : Option (List ℕ)) (ended : Type 0) (start held : Option (List ℕ)) (result : Result (Option Register) FrontFault)
    (bytes : List ℕ) (greeting : Greeting) → Consumes ahead left bytes → Asks bytes greeting → Answers names greeting start held result →
    Greets names ahead left ended start held result
greets_asked names ahead left ended start held result bytes greeting reads asks answers = record {
  bytes = bytes;
  reads = reads;
  tells = inl (greeting, asks, answers);
}

-- a whole line came
pub greets_whole : (names : List (List ℕ)) (ahead left : Option (List ℕ)) (ended : Type 0) (start held : Option (List ℕ)) (result : Result (Option Register) FrontFault)
    (line : List ℕ) (first : Heard) → first ≡ Line → Consumes ahead left (read_with (Ok first) line) → HasNoEnd line →
    ((same : Result Heard Failed) → same ≡ Ok first → same ≢ Ok Long → length line ≤ 64) →
    Answers names (greeting_of line) start held result → Greets names ahead left ended start held result
greets_whole names ahead left ended start held result line first is reads one short answers =
    let whole : IsFirstLine (line ++ 10 ∷ []) line = record {
      ends = refl;
      one = one;
      short = short (Ok first) refl (λ same. cc);
    } in
    greets_asked names ahead left ended start held result (line ++ 10 ∷ []) (greeting_of line)
    (subst (λ f. Consumes ahead left (read_with (Ok f) line)) is reads) (inl (line, whole, refl)) answers

-- too many bytes came
pub greets_long : (names : List (List ℕ)) (ahead left : Option (List ℕ)) (ended : Type 0) (start held : Option (List ℕ)) (result : Result (Option Register) FrontFault)
    (line : List ℕ) (first : Heard) → first ≡ Long → Consumes ahead left (read_with (Ok first) line) → HasNoEnd line →
    ((same : Result Heard Failed) → same ≡ Ok first → same ≡ Ok Long → length line ≡ 65) →
    WritesReply start held (refusal_text NotGreeting) result → IfOk result (λ given. given ≡ None) → Greets names ahead left ended start held result
greets_long names ahead left ended start held result line first is reads clean long writes none =
    let too_long : IsTooLong line = record {
      clean = clean;
      long = long (Ok first) refl (cc);
    } in
    greets_asked names ahead left ended start held result line (Err NotGreeting)
    (subst (λ f. Consumes ahead left (read_with (Ok f) line)) is reads) (inr (too_long, refl))
    (answers_refused names (Err NotGreeting) NotGreeting start held result refl writes none)

-- nothing was read for want of memory
pub greets_nothing : (names : List (List ℕ)) (ahead : Option (List ℕ)) (ended : Type 0) (held : Option (List ℕ)) → Greets names ahead ahead ended held held (Err Memory)
greets_nothing names ahead ended held =
    let cut : IsCutLine [] = record {
      clean = λ k within. absurd (omega (arith, within));
      short = omega arith;
    } in record {
      bytes = [];
      reads = Consumes-nil ahead;
      tells = inr (cut, refl, refl);
    }
