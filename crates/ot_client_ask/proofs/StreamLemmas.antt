-- What is heard of a line, piece by piece.
use Rattle.std.proofs.Common.{◌≡◌, ◌≢◌, ◌-◌, ℕ, suc, zero, true, false, List, [], ◌∷◌, ◌++◌, length, take, append_assoc, length-append, Some, None, Ok, Err, refl, sym, ap, subst, ◌∙◌, arith}
use Rattle.std.specs.Prelude.{◌==◌, All, IfSome, slice_get, unwrap_or}
use Rattle.std.specs.Io.{StopsAt}
use Rattle.std.specs.Io.KnownBytes.{Consumes, IsAtEnd, prepend_known}
use Rattle.std.proofs.KnownBytes.{Consumes-trans}
use Rattle.std.proofs.Math.Seq.{take-append_seam}
use Rattle.std.proofs.lemmas.Bool.Decides.{nat_tests}
use Rattle.std.proofs.lemmas.List.Elements.{All-from_get_or}
use Rattle.ot_lines.specs.Lines.{Flow, HasNoEnd, Hearing, Hears, stream}
use Rattle.ot_lines.specs.declared.lines.Heard.TheVariants.{Line, End, Long}
use Rattle.ot_lines.specs.declared.lines.LineFault.{LineFault}
use Rattle.ot_lines.proofs.Hearing.{clean_both}
use Rattle.ot_client_ask.specs.Streams.{IsWhole, is_ended, Known}

-- ---- where bytes end

-- the last of more bytes
ended-cons : (x y : ℕ) (ys : List ℕ) → is_ended (x ∷ y ∷ ys) ≡ is_ended (y ∷ ys)
ended-cons x y ys =
    let long : length (x ∷ y ∷ ys) - 1 ≡ suc (length ys) = omega arith in
    let short : length (y ∷ ys) - 1 ≡ length ys = omega arith in
    ap (λ k. unwrap_or (slice_get (x ∷ y ∷ ys) k) 0 == 10) long ∙ sym (ap (λ k. unwrap_or (slice_get (y ∷ ys) k) 0 == 10) short)

no_end : (b : ℕ) → b ≢ 10 → (b == 10) ≡ false
no_end b apart = grind (arith, nat_tests)

clean_ended : (bytes : List ℕ) → HasNoEnd bytes → is_ended bytes ≡ false
clean_ended [] clean = refl
clean_ended (x ∷ []) clean = no_end x (clean zero (omega arith))
clean_ended (x ∷ y ∷ ys) clean = ended-cons x y ys ∙ clean_ended (y ∷ ys) (λ k l. clean (suc k) (omega (arith, l)))

line_ended : (bytes : List ℕ) → is_ended (bytes ++ 10 ∷ []) ≡ true
line_ended [] = refl
line_ended (x ∷ []) = ended-cons x 10 []
line_ended (x ∷ y ∷ ys) = ended-cons x y (ys ++ 10 ∷ []) ∙ line_ended (y ∷ ys)

-- the bytes before the LF
before_end : (bytes : List ℕ) → take (length (bytes ++ 10 ∷ []) - 1) (bytes ++ 10 ∷ []) ≡ bytes
before_end bytes =
    let n : length (bytes ++ 10 ∷ []) - 1 ≡ length bytes = ap (λ k. k - 1) (length-append bytes (10 ∷ [])) ∙ (omega arith) in
    ap (λ k. take k (bytes ++ 10 ∷ [])) n ∙ take-append_seam bytes (10 ∷ [])

line_stops : (bytes : List ℕ) → HasNoEnd bytes → StopsAt (bytes ++ 10 ∷ []) 10
line_stops bytes clean = subst (All (λ b. b ≢ 10)) (sym (before_end bytes)) (All-from_get_or (λ b. b ≢ 10) bytes 0 clean)

line_whole : (bytes : List ℕ) → HasNoEnd bytes → IsWhole (bytes ++ 10 ∷ [])
line_whole bytes clean = (line_ended bytes, line_stops bytes clean)

-- where all that was read is heard, the end is the source's
end_behind : (a : Known) (ahead : List ℕ) (known : Known) → ahead ≡ [] → IsAtEnd known → IfSome a (λ bytes. IsAtEnd (prepend_known ahead known))
end_behind None ahead known none end = tt
end_behind (Some xs) ahead None none end = tt
end_behind (Some xs) ahead (Some ys) none end = ap (λ front. front ++ ys) none ∙ end

-- ---- one piece more, behind a front of the line

more_heard : (a : Known) (b c : Known) (front kept line piece : List ℕ) → Consumes a b front → kept ≡ front → Consumes b c piece → line ≡ kept ++ piece → Consumes a c line
more_heard a b c front kept line piece so_far same heard put =
    subst (Consumes a c) (sym (put ∙ ap (λ xs. xs ++ piece) same)) (Consumes-trans a b c _ _ so_far heard)

pub gives_line : (a : Known) {old new : Hearing} {f g : Flow} (front kept line : List ℕ) → Consumes a (stream old f) front → HasNoEnd front → kept ≡ front
    → Hears old f new g (Ok Line) → line ≡ kept ++ (new.line ++ 10 ∷ []) → Consumes a (stream new g) line × IsWhole line
gives_line a {old} {new} {f} {g} front kept line so_far clean same hears put = (
  more_heard a (stream old f) (stream new g) front kept line (new.line ++ 10 ∷ []) so_far same hears.passes.heard put,
  subst IsWhole (sym (put ∙ ap (λ xs. xs ++ (new.line ++ 10 ∷ [])) same ∙ sym (append_assoc front new.line (10 ∷ []))))
      (line_whole (front ++ new.line) (clean_both front new.line clean hears.clean)),
)

pub gives_rest : (a : Known) {old new : Hearing} {f g : Flow} (front kept line : List ℕ) → Consumes a (stream old f) front → HasNoEnd front → kept ≡ front
    → Hears old f new g (Ok End) → line ≡ kept ++ new.line
    → Consumes a (stream new g) line × (is_ended line ≡ false) × IfSome a (λ bytes. IsAtEnd (stream new g))
gives_rest a {old} {new} {f} {g} front kept line so_far clean same hears put = (
  more_heard a (stream old f) (stream new g) front kept line new.line so_far same hears.passes.heard put,
  ap is_ended (put ∙ ap (λ xs. xs ++ new.line) same) ∙ clean_ended (front ++ new.line) (clean_both front new.line clean hears.clean),
  end_behind a new.ahead g.ahead hears.is.0.none hears.is.1,
)

pub gives_piece : (a : Known) {old new : Hearing} {f g : Flow} (front kept line : List ℕ) → Consumes a (stream old f) front → HasNoEnd front → kept ≡ front
    → Hears old f new g (Ok Long) → line ≡ kept ++ new.line → Consumes a (stream new g) line × HasNoEnd line
gives_piece a {old} {new} {f} {g} front kept line so_far clean same hears put = (
  more_heard a (stream old f) (stream new g) front kept line new.line so_far same hears.passes.heard put,
  subst HasNoEnd (sym (put ∙ ap (λ xs. xs ++ new.line) same)) (clean_both front new.line clean hears.clean),
)

pub gives_none : (a : Known) {old new : Hearing} {f g : Flow} (fault : LineFault) (front kept line : List ℕ) → Consumes a (stream old f) front → kept ≡ front
    → Hears old f new g (Err fault) → line ≡ kept ++ new.line → Consumes a (stream new g) line
gives_none a {old} {new} {f} {g} fault front kept line so_far same hears put =
    more_heard a (stream old f) (stream new g) front kept line new.line so_far same hears.passes.heard put
