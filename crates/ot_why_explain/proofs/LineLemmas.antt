-- Texts by their lines: what stays of them without their remarks.
use Rattle.std.proofs.Common.{◌≡◌, ◌≢◌, ℕ, zero, suc, ◌+◌, ◌-◌, List, [], ◌∷◌, ◌++◌, length, take, refl, sym, ap, ap₂, subst, ◌∙◌, arith, append_assoc, append-nil, take_all, ◌⊎◌, Bool, true, false, ◌||◌, ◌==◌, true≢false, inl, inr, flat_map, All}
use Rattle.std.specs.List.{list_any}
use Rattle.std.proofs.lemmas.List.{take-append-le}
use Rattle.std.proofs.lemmas.List.Folds.{list_any-append}
use Rattle.std.proofs.lemmas.Bool.Decides.{leb_tells, nat_tests}
use Rattle.ot_session.specs.Session.{HasNoEnd}
use Rattle.ot_why_explain.specs.Explaining.{with_first, lines_of, unless_remark, without_remarks, remark_line}
use Rattle.ot_why_explain.specs.Listening.{IsRemarks, IsWhole}

-- ---- bytes without an LF

abbrev pub is_end : ℕ → Bool
is_end byte = byte == 10

-- no LF is among them
abbrev pub HasNone : List ℕ → Type 0
HasNone bytes = list_any is_end bytes ≡ false

pub or_left : (a b : Bool) → (a || b) ≡ false → a ≡ false
or_left true b h = absurd (true≢false h)
or_left false b h = refl

pub or_right : (a b : Bool) → (a || b) ≡ false → b ≡ false
or_right true b h = absurd (true≢false h)
or_right false b h = h

pub none-append : (a b : List ℕ) → HasNone a → HasNone b → HasNone (a ++ b)
none-append a b none_a none_b = list_any-append is_end a b ∙ ap₂ (λ x y. x || y) none_a none_b

not_end : (byte : ℕ) → byte ≢ 10 → (byte == 10) ≡ false
not_end byte other = grind (arith, nat_tests)

pub none_of : (bytes : List ℕ) → HasNoEnd bytes → HasNone bytes
none_of [] clean = refl
none_of (b ∷ bytes) clean = ap₂ (λ x y. x || y) (not_end b (clean 0 (omega arith))) (none_of bytes (λ k within. clean (suc k) (omega (arith, within))))

-- ---- lines

pub lines_of-line : (line rest : List ℕ) → HasNone line → lines_of (line ++ 10 ∷ rest) ≡ (line ++ 10 ∷ []) ∷ lines_of rest
lines_of-line [] rest none = refl
lines_of-line (b ∷ line) rest none =
    let other : (b == 10) ≡ false = or_left (b == 10) (list_any is_end line) none in
    rw other (ap (with_first b) (lines_of-line line rest (or_right (b == 10) (list_any is_end line) none)))

pub lines_of-cut : (b : ℕ) (line : List ℕ) → HasNone (b ∷ line) → lines_of (b ∷ line) ≡ (b ∷ line) ∷ []
lines_of-cut b [] none = let other : (b == 10) ≡ false = or_left (b == 10) false none in rw other refl
lines_of-cut b (c ∷ line) none =
    let other : (b == 10) ≡ false = or_left (b == 10) (list_any is_end (c ∷ line)) none in
    rw other (ap (with_first b) (lines_of-cut c line (or_right (b == 10) (list_any is_end (c ∷ line)) none)))

-- ---- whole lines

pub whole-nil : IsWhole []
whole-nil more = refl

pub whole-append : (a b : List ℕ) → IsWhole a → IsWhole b → IsWhole (a ++ b)
whole-append a b whole_a whole_b more =
    ap without_remarks (append_assoc a b more)
    ∙ whole_a (b ++ more)
    ∙ ap (λ t. without_remarks a ++ t) (whole_b more)
    ∙ sym (append_assoc (without_remarks a) (without_remarks b) (without_remarks more))
    ∙ ap (λ t. t ++ without_remarks more) (sym (whole_a b))

line_and : (line more : List ℕ) → HasNone line → without_remarks ((line ++ 10 ∷ []) ++ more) ≡ unless_remark (line ++ 10 ∷ []) ++ without_remarks more
line_and line more none = ap without_remarks (append_assoc line (10 ∷ []) more) ∙ ap (flat_map unless_remark) (lines_of-line line more none)

line_alone : (line : List ℕ) → HasNone line → without_remarks (line ++ 10 ∷ []) ≡ unless_remark (line ++ 10 ∷ [])
line_alone line none = ap (flat_map unless_remark) (lines_of-line line [] none) ∙ append-nil (unless_remark (line ++ 10 ∷ []))

pub whole-line : (line : List ℕ) → HasNone line → IsWhole (line ++ 10 ∷ [])
whole-line line none more = line_and line more none ∙ ap (λ t. t ++ without_remarks more) (sym (line_alone line none))

-- ---- beginnings of texts

-- the first bytes of a line are all of it with its LF, or have no LF
front_of : (n : ℕ) (line : List ℕ) → HasNone line → HasNone (take n (line ++ 10 ∷ [])) ⊎ (take n (line ++ 10 ∷ []) ≡ line ++ 10 ∷ [])
front_of zero line none = inl refl
front_of (suc zero) [] none = inr refl
front_of (suc (suc n)) [] none = inr refl
front_of (suc n) (b ∷ line) none =
    let rest = or_right (b == 10) (list_any is_end line) none in
    elim (front_of n line rest) [
      | inl cut ↦ inl (ap₂ (λ x y. x || y) (or_left (b == 10) (list_any is_end line) none) cut)
      | inr all ↦ inr (ap (λ bytes. b ∷ bytes) all)
    ]

-- what stays of the first bytes of a line
front-stays : (n b : ℕ) (line : List ℕ) → HasNone (b ∷ line) → without_remarks (take (suc n) (b ∷ (line ++ 10 ∷ []))) ≡ unless_remark (take (suc n) (b ∷ (line ++ 10 ∷ [])))
front-stays n b line none = elim (front_of (suc n) (b ∷ line) none) [
  | inl cut ↦ ap (flat_map unless_remark) (lines_of-cut b (take n (line ++ 10 ∷ [])) cut) ∙ append-nil (unless_remark (take (suc n) (b ∷ (line ++ 10 ∷ []))))
  | inr all ↦ ap without_remarks all ∙ line_alone (b ∷ line) none ∙ ap unless_remark (sym all)
]

-- each beginning of the text stays as it is
abbrev pub IsPlain : List ℕ → Type 0
IsPlain text = (n : ℕ) → without_remarks (take n text) ≡ take n text

-- of no beginning of the text anything stays
abbrev pub IsHidden : List ℕ → Type 0
IsHidden text = (n : ℕ) → without_remarks (take n text) ≡ []

pub plain-nil : IsPlain []
plain-nil zero = refl
plain-nil (suc n) = refl

pub hidden-nil : IsHidden []
hidden-nil zero = refl
hidden-nil (suc n) = refl

-- a line that begins with `[`
pub plain-line : (line : List ℕ) → HasNone line → IsPlain (91 ∷ (line ++ 10 ∷ []))
plain-line line none zero = refl
plain-line line none (suc n) = front-stays n 91 line none

hidden-line : (line : List ℕ) → HasNone line → IsHidden (remark_line line)
hidden-line line none zero = refl
hidden-line line none (suc n) = front-stays n 35 (32 ∷ line) none

take-past : (a b : List ℕ) (n : ℕ) → take (length a + n) (a ++ b) ≡ a ++ take n b
take-past [] b n = ap (λ k. take k b) (let same : 0 + n ≡ n = omega arith in same)
take-past (x ∷ a) b n =
    ap (λ k. take k (x ∷ (a ++ b))) (let same : suc (length a) + n ≡ suc (length a + n) = omega arith in same) ∙ ap (λ t. x ∷ t) (take-past a b n)

-- the first bytes of two texts: some of the one, or all of it and some of the other
take_two : (n : ℕ) (a b : List ℕ) → (take n (a ++ b) ≡ take n a) ⊎ ((m : ℕ) × (take n (a ++ b) ≡ a ++ take m b))
take_two n a b = elim (leb_tells n (length a)) [
  | inl (test, within) ↦ inl (take-append-le n a b within)
  | inr (test, past) ↦ inr (n - length a, ap (λ k. take k (a ++ b)) (let same : n ≡ length a + (n - length a) = omega (arith, past) in same) ∙ take-past a b (n - length a))
]

-- all of a text
pub plain-all : (text : List ℕ) → IsPlain text → without_remarks text ≡ text
plain-all text plain = ap without_remarks (sym all) ∙ plain (length text) ∙ all
  where
    all : take (length text) text ≡ text
    all = take_all (length text) text (omega arith)

pub hidden-all : (text : List ℕ) → IsHidden text → without_remarks text ≡ []
hidden-all text hidden = ap without_remarks (sym (take_all (length text) text (omega arith))) ∙ hidden (length text)

pub plain-append : (a b : List ℕ) → IsWhole a → IsPlain a → IsPlain b → IsPlain (a ++ b)
plain-append a b whole plain_a plain_b n = elim (take_two n a b) [
  | inl within ↦ ap without_remarks within ∙ plain_a n ∙ sym within
  | inr past ↦ ap without_remarks past.1 ∙ whole (take past.0 b) ∙ ap₂ (λ x y. x ++ y) (plain-all a plain_a) (plain_b past.0) ∙ sym past.1
]

hidden-append : (a b : List ℕ) → IsWhole a → IsHidden a → IsHidden b → IsHidden (a ++ b)
hidden-append a b whole hidden_a hidden_b n = elim (take_two n a b) [
  | inl within ↦ ap without_remarks within ∙ hidden_a n
  | inr past ↦ ap without_remarks past.1 ∙ whole (take past.0 b) ∙ ap₂ (λ x y. x ++ y) (hidden-all a hidden_a) (hidden_b past.0)
]

-- a beginning of a plain text
pub plain-front : (text front rest : List ℕ) → IsPlain text → text ≡ front ++ rest → without_remarks front ≡ front
plain-front text front rest plain is = ap without_remarks (sym begins) ∙ plain (length front) ∙ begins
  where
    begins : take (length front) text ≡ front
    begins =
        ap (take (length front)) is
        ∙ take-append-le (length front) front rest (omega arith)
        ∙ take_all (length front) front (omega arith)

-- ---- remarks

whole-remarks : (lines : List (List ℕ)) → All HasNoEnd lines → IsWhole (flat_map remark_line lines)
whole-remarks [] are = whole-nil
whole-remarks (line ∷ lines) are =
    whole-append (remark_line line) (flat_map remark_line lines) (whole-line (35 ∷ 32 ∷ line) (none_of line (are 0 line (omega arith))))
    (whole-remarks lines (λ k d within. are (suc k) d (omega (arith, within))))

hidden-remarks : (lines : List (List ℕ)) → All HasNoEnd lines → IsHidden (flat_map remark_line lines)
hidden-remarks [] are = hidden-nil
hidden-remarks (line ∷ lines) are =
    hidden-append (remark_line line) (flat_map remark_line lines) (whole-line (35 ∷ 32 ∷ line) (none_of line (are 0 line (omega arith))))
    (hidden-line line (none_of line (are 0 line (omega arith)))) (hidden-remarks lines (λ k d within. are (suc k) d (omega (arith, within))))

pub remarks-whole : (text : List ℕ) → IsRemarks text → IsWhole text
remarks-whole text r = subst IsWhole (sym r.is) (whole-remarks r.lines r.are)

pub remarks-hidden : (text : List ℕ) → IsRemarks text → IsHidden text
remarks-hidden text r = subst IsHidden (sym r.is) (hidden-remarks r.lines r.are)

pub flat_more : (lines : List (List ℕ)) (line : List ℕ) → flat_map remark_line (lines ++ line ∷ []) ≡ flat_map remark_line lines ++ remark_line line
flat_more [] line = append-nil (remark_line line)
flat_more (l ∷ lines) line = ap (λ t. remark_line l ++ t) (flat_more lines line) ∙ sym (append_assoc (remark_line l) (flat_map remark_line lines) (remark_line line))
