-- A greeting, and what stands behind it.
use Rattle.std.proofs.Common.{◌≡◌, ◌≤◌, ◌∙◌, ap, ℕ, List, Option, inl, inr}
use Rattle.std.specs.Prelude.{⊤, None, Result, Ok}
use Rattle.ot_book.specs.Books.{Register}
use Rattle.ot_lines.specs.Lines.{Flow, next_count, count_after}
use Rattle.ot_front.specs.Greetings.{NeverAsks, AnswersFirstLine, Greets, TellsEnd}
use Rattle.ot_session.specs.Serving.{Draft, IsServed}
use Rattle.ot_session.specs.declared.fault.End.{End}
use Rattle.ot_session.specs.declared.fault.FrontFault.{FrontFault}

never_asks : (bytes : List ℕ) (left : Option (List ℕ)) (ended : Type 0) (result : Result (Option Register) FrontFault) → NeverAsks bytes left ended result → NeverAsks bytes left ⊤ result
never_asks bytes left ended (Ok None) never = (never.0, tt)
never_asks bytes left ended result never = never

tells : (names : List (List ℕ)) (bytes : List ℕ) (left : Option (List ℕ)) (ended : Type 0) (start held : Option (List ℕ)) (result : Result (Option Register) FrontFault) →
    AnswersFirstLine names bytes left ended start held result → AnswersFirstLine names bytes left ⊤ start held result
tells names bytes left ended start held result (inl asked) = inl asked
tells names bytes left ended start held result (inr cut) = inr (cut.0, cut.1, never_asks bytes left ended result cut.2)

-- whether the end was told counts no more
pub greets_so : (names : List (List ℕ)) (ahead left : Option (List ℕ)) (ended : Type 0) (start held : Option (List ℕ)) (result : Result (Option Register) FrontFault) →
    Greets names ahead left ended start held result → Greets names ahead left ⊤ start held result
greets_so names ahead left ended start held result greets = record {
  bytes = greets.bytes;
  reads = greets.reads;
  tells = tells names greets.bytes left ended start held result greets.tells;
}

-- what the devices tell of a session, they tell of it and of the greeting before it
pub tells_behind : (book left : Register) (before mid after : Flow) (earlier now later : Draft) (result : Result End FrontFault) →
    (k : ℕ) × (k ≤ 65) × (mid.reads ≡ count_after k before.reads) → mid.ends ≡ before.ends → mid.failures ≡ before.failures → now.failures ≡ earlier.failures →
    IsServed book left mid after now later result → TellsEnd before after earlier later result
tells_behind book left before mid after earlier now later result reads ends read_worked write_worked served = record {
  turns = λ is. (reads.0, reads.1, served.turns is ∙ ap (count_after 1000000) reads.2);
  at_end = served.at_end;
  end_told = λ is. served.end_told is ∙ ap next_count ends;
  read_failed = λ is. served.read_failed is ∙ ap next_count read_worked;
  read_worked = λ other. served.read_worked other ∙ read_worked;
  write_failed = λ is. served.write_failed is ∙ ap next_count write_worked;
  write_worked = λ other. served.write_worked other ∙ write_worked;
}
