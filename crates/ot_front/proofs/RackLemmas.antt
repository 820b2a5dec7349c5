-- What becomes of a book at a greeting and behind it.
use Rattle.std.proofs.Common.{◌≡◌, List, ℕ, Option, refl, ◌∙◌, ap, subst, inr}
use Rattle.std.specs.Prelude.{Some, None, Result, Ok, Err, IfOk, OnOk, OnErr}
use Rattle.ot_book.specs.Books.{Register}
use Rattle.ot_front.specs.Greetings.{HasSession, Greets}
use Rattle.ot_front.specs.Racks.{Moves, with_taken, with_laid, Hands, ConnectsOver}
use Rattle.ot_session.specs.declared.fault.End.{End}
use Rattle.ot_session.specs.declared.fault.FrontFault.{FrontFault}
use Rattle.ot_front.proofs.ConnectionLemmas.{greets_so}

-- ---- the greeting

-- a book was taken, and told to its tenant or laid back
pub hands_welcomed : (book : Register) (before mid after : Option Moves) (result : Result (Option Register) FrontFault) → mid ≡ with_taken book before →
    OnOk result (after ≡ mid) → OnErr result (after ≡ with_laid book mid) → IfOk result (λ given. given ≡ Some book) → Hands before after result
hands_welcomed book before mid after (Ok None) taken kept laid given = absurd (cc)
hands_welcomed book before mid after (Ok (Some other)) taken kept laid given =
    let same : book ≡ other = cc in
    kept ∙ taken ∙ ap (λ b. with_taken b before) same
hands_welcomed book before mid after (Err fault) taken kept laid given = inr (book, laid ∙ ap (with_laid book) taken)

-- ---- the connection

-- a session behind the greeting
pub over_session : (names : List (List ℕ)) (ahead next left : Option (List ℕ)) (ended : Type 0) (start told held : Option (List ℕ)) (before mid after : Option Moves)
    (given : Option Register) (book : Register) → given ≡ Some book → Greets names ahead next ended start told (Ok given) → Hands before mid (Ok given) →
    (result : Result End FrontFault) (session : HasSession book next left told held result) → after ≡ with_laid session.after mid → ConnectsOver names ahead left start held (Some result) before after
over_session names ahead next left ended start told held before mid after given book is greets hands result session laid = record {
  connects = record {
    given = Ok (Some book);
    next = next;
    told = told;
    greets = greets_so names ahead next ended start told (Ok (Some book)) (subst (λ o. Greets names ahead next ended start told (Ok o)) is greets);
    goes_on = session;
  };
  comes_back = laid ∙ ap (with_laid session.after) (subst (λ o. Hands before mid (Ok o)) is hands);
}

-- nothing behind a greeting that gives no book
pub over_nothing : (names : List (List ℕ)) (ahead next : Option (List ℕ)) (ended : Type 0) (start told : Option (List ℕ)) (before after : Option Moves) (given : Option Register) → given ≡ None →
    Greets names ahead next ended start told (Ok given) → Hands before after (Ok given) → ConnectsOver names ahead next start told None before after
over_nothing names ahead next ended start told before after given is greets hands = record {
  connects = record {
    given = Ok None;
    next = next;
    told = told;
    greets = greets_so names ahead next ended start told (Ok None) (subst (λ o. Greets names ahead next ended start told (Ok o)) is greets);
    goes_on = (refl, refl, refl);
  };
  comes_back = subst (λ o. Hands before after (Ok o)) is hands;
}

-- nothing behind a fault
pub over_fault : (names : List (List ℕ)) (ahead next : Option (List ℕ)) (ended : Type 0) (start told : Option (List ℕ)) (before after : Option Moves) (fault : FrontFault) →
    Greets names ahead next ended start told (Err fault) → Hands before after (Err fault) → ConnectsOver names ahead next start told None before after
over_fault names ahead next ended start told before after fault greets hands = record {
  connects = record {
    given = Err fault;
    next = next;
    told = told;
    greets = greets_so names ahead next ended start told (Err fault) greets;
    goes_on = (refl, refl, refl);
  };
  comes_back = hands;
}
