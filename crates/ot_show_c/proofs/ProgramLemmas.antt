-- In C, a program is determined as far as it is told.
use Rattle.std.proofs.Common.{◌≡◌, ℕ, suc, ◌+◌, ◌<◌, ◌^◌, ◌==◌, List, [], ◌∷◌, ◌++◌, length, drop, map, Bool, true, false, if◌then◌else◌, refl, sym, ap, subst, ◌∙◌, append_assoc, arith}
use Rattle.std.specs.Prelude.{codes, decimal}
use Rattle.std.proofs.lemmas.List.{append_cancel_left}
use Rattle.ot_model.specs.Programs.{Expanded}
use Rattle.ot_model.specs.declared.expr.Cell.{Cell}
use Rattle.ot_model.specs.declared.expr.Section.{Section}
use Rattle.ot_show_print.specs.Shown.{Text, name}
use Rattle.ot_show_print.specs.Laws.{is_name}
use Rattle.ot_show_print.proofs.WordLemmas.{head_of, tail_of}
use Rattle.ot_show_print.proofs.ValueLemmas.{same_section}
use Rattle.ot_c_names.specs.Names.{is_taken, name_in_c}
use Rattle.ot_show_c.specs.Programs.{Declared, before, arrays_in_c, up_to_last, initial, further_numbers, declaration, each_declared, any_declared, words_if, declarations, declared_from, front, functions, head, main_text, min_text, max_text, show_text, region_text, region, show, lists, shows, any_shown, whole}
use Rattle.ot_show_c.specs.Laws.{is_identifier, AreIdentifiers, ShowsFit, NumbersFit, ListsFit, told_array, ProgramIsDetermined}
use Rattle.ot_show_c.specs.Named.{names, body_calls}
use Rattle.ot_show_c.specs.Programs as written
use Rattle.ot_show_c.specs.Statements.{line, deeper, block, body, constant}
use Rattle.ot_show_c.specs.declared.named.Call.TheVariants as call
use Rattle.ot_show_c.proofs.NameLemmas.{is_one}
use Rattle.ot_show_c.proofs.WordLemmas.{starts, split, same_number, name_word, one_cell}
use Rattle.ot_show_c.proofs.ValueLemmas.{same_literal, constant_is}
use Rattle.ot_show_c.proofs.WriteLemmas.{apart}
use Rattle.ot_show_c.proofs.StatementLemmas.{same_blocks}

-- ---- functions

-- 0 `min`, 1 `max`, 2 `show`, 3 `main`
abbrev function_of : Text → ℕ
function_of t = if head_of (drop 1 t) == 105 then 3 else (if head_of (drop 18 t) == 105 then 0 else (if head_of (drop 18 t) == 97 then 1 else 2))

same_if : (k : ℕ) (w : Text) → ((t : Text) → function_of (w ++ t) ≡ k) → (b c : Bool) (t u : Text) → (function_of t ≡ k → ⊥) → (function_of u ≡ k → ⊥) → words_if b w ++ t ≡ words_if c w ++ u → t ≡ u
same_if k w there true true t u ht hu is = append_cancel_left w t u is
same_if k w there true false t u ht hu is = absurd (hu (ap function_of (sym is) ∙ there t))
same_if k w there false true t u ht hu is = absurd (ht (ap function_of is ∙ there u))
same_if k w there false false t u ht hu is = is

not_min : (b c : Bool) (t : Text) → function_of (words_if b max_text ++ (words_if c show_text ++ (main_text ++ t))) ≡ 0 → ⊥
not_min true c t h = omega (arith, h)
not_min false true t h = omega (arith, h)
not_min false false t h = omega (arith, h)

not_max : (c : Bool) (t : Text) → function_of (words_if c show_text ++ (main_text ++ t)) ≡ 1 → ⊥
not_max true t h = omega (arith, h)
not_max false t h = omega (arith, h)

not_show : (t : Text) → function_of (main_text ++ t) ≡ 2 → ⊥
not_show t h = omega (arith, h)

same_functions : (a b c d e g : Bool) (t u : Text)
    → words_if a min_text ++ (words_if b max_text ++ (words_if c show_text ++ (main_text ++ t))) ≡ words_if d min_text ++ (words_if e max_text ++ (words_if g show_text ++ (main_text ++ u))) → t ≡ u
same_functions a b c d e g t u is =
    let one = same_if 0 min_text (λ x. refl) a d (words_if b max_text ++ (words_if c show_text ++ (main_text ++ t))) (words_if e max_text ++ (words_if g show_text ++ (main_text ++ u))) (not_min b c t) (not_min e g u) is in
    let two = same_if 1 max_text (λ x. refl) b e (words_if c show_text ++ (main_text ++ t)) (words_if g show_text ++ (main_text ++ u)) (not_max c t) (not_max g u) one in
    let three = same_if 2 show_text (λ x. refl) c g (main_text ++ t) (main_text ++ u) (not_show t) (not_show u) two in
    append_cancel_left main_text t u three

-- ---- arrays and their numbers

-- an array that can be told
abbrev DeclaredFits : Declared → Type 0
DeclaredFits d = (is_identifier d.name ≡ true) × (d.len < 2 ^ 64) × NumbersFit d.numbers

abbrev AllDeclaredFit : List Declared → Type 0
AllDeclaredFit [] = Unit {0}
AllDeclaredFit (d ∷ ds) = DeclaredFits d × AllDeclaredFit ds

before_fits : (n : ℕ) (ns : List ℕ) → n < 2 ^ 64 → NumbersFit ns → NumbersFit (before n ns)
before_fits n [] h k = at_once (n == 0) refl
  where
    at_once : (b : Bool) → (n == 0) ≡ b → NumbersFit (before n [])
    at_once true e = rw e tt
    at_once false e = rw e (h, tt)
before_fits n (m ∷ ms) h k = (h, k)

up_fits : (ns : List ℕ) → NumbersFit ns → NumbersFit (up_to_last ns)
up_fits [] h = tt
up_fits (n ∷ ns) h = before_fits n (up_to_last ns) h.0 (up_fits ns h.1)

further_starts : (ns : List ℕ) (t : Text) → starts (further_numbers ns ++ (125 ∷ t)) ≡ false
further_starts [] t = refl
further_starts (n ∷ ns) t = refl

further_shown : (n : ℕ) (ns : List ℕ) (t : Text) → further_numbers (n ∷ ns) ++ t ≡ 44 ∷ 32 ∷ (constant n ++ (further_numbers ns ++ t))
further_shown n ns t = simp append_assoc refl

same_further : (ms ns : List ℕ) (t u : Text) → NumbersFit ms → NumbersFit ns → further_numbers ms ++ (125 ∷ t) ≡ further_numbers ns ++ (125 ∷ u) → (ms ≡ ns) × (t ≡ u)
same_further [] [] t u f g is = (refl, ap tail_of is)
same_further [] (n ∷ ns) t u f g is = absurd (omega (arith, ap head_of (is ∙ further_shown n ns (125 ∷ u))))
same_further (m ∷ ms) [] t u f g is = absurd (omega (arith, ap head_of (sym is ∙ further_shown m ms (125 ∷ t))))
same_further (m ∷ ms) (n ∷ ns) t u f g is =
    let x = further_numbers ms ++ (125 ∷ t) in
    let y = further_numbers ns ++ (125 ∷ u) in
    let first = same_literal m n (constant m) (constant n) x y f.0 g.0 (constant_is m) (constant_is n) (further_starts ms t) (further_starts ns u)
    (ap (λ w. tail_of (tail_of w)) (sym (further_shown m ms (125 ∷ t)) ∙ is ∙ further_shown n ns (125 ∷ u))) in
    let rest = same_further ms ns t u f.1 g.1 first.1 in
    (ap (λ z. z ∷ ms) first.0 ∙ ap (λ zs. n ∷ zs) rest.0, rest.1)

initial_shown : (n : ℕ) (ns : List ℕ) (t : Text) → initial (n ∷ ns) ++ t ≡ codes " = {" ++ (constant n ++ (further_numbers ns ++ (125 ∷ t)))
initial_shown n ns t = simp append_assoc refl

same_initial : (ms ns : List ℕ) (t u : Text) → NumbersFit ms → NumbersFit ns → initial ms ++ (59 ∷ t) ≡ initial ns ++ (59 ∷ u) → (ms ≡ ns) × (t ≡ u)
same_initial [] [] t u f g is = (refl, ap tail_of is)
same_initial [] (n ∷ ns) t u f g is = absurd (omega (arith, ap head_of (is ∙ initial_shown n ns (59 ∷ u))))
same_initial (m ∷ ms) [] t u f g is = absurd (omega (arith, ap head_of (sym is ∙ initial_shown m ms (59 ∷ t))))
same_initial (m ∷ ms) (n ∷ ns) t u f g is =
    let x = further_numbers ms ++ (125 ∷ 59 ∷ t) in
    let y = further_numbers ns ++ (125 ∷ 59 ∷ u) in
    let first = same_literal m n (constant m) (constant n) x y f.0 g.0 (constant_is m) (constant_is n) (further_starts ms (59 ∷ t)) (further_starts ns (59 ∷ u))
    (append_cancel_left (codes " = {") (constant m ++ x) (constant n ++ y) (sym (initial_shown m ms (59 ∷ t)) ∙ is ∙ initial_shown n ns (59 ∷ u))) in
    let rest = same_further ms ns (59 ∷ t) (59 ∷ u) f.1 g.1 first.1 in
    (ap (λ z. z ∷ ms) first.0 ∙ ap (λ zs. n ∷ zs) rest.0, ap tail_of rest.1)

declaration_shown : (d : Declared) (t : Text) → declaration (codes "    ") d ++ t ≡ codes "    static uint64_t " ++ (d.name ++ (91 ∷ (decimal d.len ++ (93 ∷ (initial (up_to_last d.numbers) ++ (59 ∷ 10 ∷ t))))))
declaration_shown d t = simp append_assoc refl

same_declaration : (d e : Declared) (t u : Text) → DeclaredFits d → DeclaredFits e → declaration (codes "    ") d ++ t ≡ declaration (codes "    ") e ++ u → (told_array d ≡ told_array e) × (t ≡ u)
same_declaration d e t u f g is =
    let x = initial (up_to_last d.numbers) ++ (59 ∷ 10 ∷ t) in
    let y = initial (up_to_last e.numbers) ++ (59 ∷ 10 ∷ u) in
    let left = d.name ++ (91 ∷ (decimal d.len ++ (93 ∷ x))) in
    let right = e.name ++ (91 ∷ (decimal e.len ++ (93 ∷ y))) in
    let names_are = split d.name e.name (91 ∷ (decimal d.len ++ (93 ∷ x))) (91 ∷ (decimal e.len ++ (93 ∷ y))) (name_word d.name f.0) (name_word e.name g.0) refl refl
    (append_cancel_left (codes "    static uint64_t ") left right (sym (declaration_shown d t) ∙ is ∙ declaration_shown e u)) in
    let lens = same_number d.len e.len (93 ∷ x) (93 ∷ y) f.1 g.1 refl refl (ap tail_of names_are.1) in
    let numbers = same_initial (up_to_last d.numbers) (up_to_last e.numbers) (10 ∷ t) (10 ∷ u) (up_fits d.numbers f.2) (up_fits e.numbers g.2) (ap tail_of lens.1) in
    (cc (names_are.0, lens.0, numbers.0), ap tail_of numbers.1)

-- the fifth byte: `s` of `static`, behind a margin
abbrev fifth : Text → ℕ
fifth t = head_of (drop 4 t)

same_declared : (ds es : List Declared) (t u : Text) → AllDeclaredFit ds → AllDeclaredFit es → (fifth t ≡ 115 → ⊥) → (fifth u ≡ 115 → ⊥) → each_declared (codes "    ") ds ++ t ≡ each_declared (codes "    ") es ++ u → (map told_array ds ≡ map told_array es) × (t ≡ u)
same_declared [] [] t u f g ht hu is = (refl, is)
same_declared [] (e ∷ es) t u f g ht hu is =
    absurd (ht (ap fifth (is ∙ append_assoc (declaration (codes "    ") e) (each_declared (codes "    ") es) u ∙ declaration_shown e (each_declared (codes "    ") es ++ u))))
same_declared (d ∷ ds) [] t u f g ht hu is =
    absurd (hu (ap fifth (sym is ∙ append_assoc (declaration (codes "    ") d) (each_declared (codes "    ") ds) t ∙ declaration_shown d (each_declared (codes "    ") ds ++ t))))
same_declared (d ∷ ds) (e ∷ es) t u f g ht hu is =
    let one = same_declaration d e (each_declared (codes "    ") ds ++ t) (each_declared (codes "    ") es ++ u) f.0 g.0
    (sym (append_assoc (declaration (codes "    ") d) (each_declared (codes "    ") ds) t) ∙ is ∙ append_assoc (declaration (codes "    ") e) (each_declared (codes "    ") es) u) in
    let rest = same_declared ds es t u f.1 g.1 ht hu one.1 in
    (ap (λ z. z ∷ map told_array ds) one.0 ∙ ap (λ zs. told_array e ∷ zs) rest.0, rest.1)

any_told : (ds : List Declared) → any_declared (map told_array ds) ≡ any_declared ds
any_told [] = refl
any_told (d ∷ ds) = refl

not_static : (b : Bool) (t : Text) → fifth (words_if b (codes "\n") ++ (region_text ++ t)) ≡ 115 → ⊥
not_static true t h = omega (arith, h)
not_static false t h = omega (arith, h)

same_declarations : (ds es : List Declared) (t u : Text) → AllDeclaredFit ds → AllDeclaredFit es → declarations (codes "    ") ds ++ (region_text ++ t) ≡ declarations (codes "    ") es ++ (region_text ++ u) → (map told_array ds ≡ map told_array es) × (t ≡ u)
same_declarations ds es t u f g is =
    let x = words_if (any_declared ds) (codes "\n") ++ (region_text ++ t) in
    let y = words_if (any_declared es) (codes "\n") ++ (region_text ++ u) in
    let both = same_declared ds es x y f g (not_static (any_declared ds) t) (not_static (any_declared es) u)
    (sym (append_assoc (each_declared (codes "    ") ds) (words_if (any_declared ds) (codes "\n")) (region_text ++ t)) ∙ is ∙ append_assoc (each_declared (codes "    ") es) (words_if (any_declared es) (codes "\n")) (region_text ++ u)) in
    let any : any_declared ds ≡ any_declared es = sym (any_told ds) ∙ ap any_declared both.0 ∙ any_told es in
    let rest = append_cancel_left (words_if (any_declared ds) (codes "\n")) (region_text ++ t) (region_text ++ u) (both.1 ∙ ap (λ b. words_if b (codes "\n") ++ (region_text ++ u)) (sym any)) in
    (both.0, append_cancel_left region_text t u rest)

-- ---- what is shown

show_shown : (names : List Text) (s : Section) (t : Text) → show names (codes "    ") s ++ t ≡ codes "    show(&" ++ (name names s.array ++ (91 ∷ (decimal s.start ++ (93 ∷ 44 ∷ 32 ∷ (decimal s.len ++ (41 ∷ 59 ∷ 10 ∷ t))))))
show_shown names s t = simp append_assoc refl

abbrev ShowFits : List Text → Section → Type 0
ShowFits names s = (s.array < length names) × (s.start < 2 ^ 64) × (s.len < 2 ^ 64)

same_show : (names : List Text) → AreIdentifiers names → (s z : Section) (t u : Text) → ShowFits names s → ShowFits names z → show names (codes "    ") s ++ t ≡ show names (codes "    ") z ++ u → (s ≡ z) × (t ≡ u)
same_show names are s z t u f g is =
    let cell_s : Cell = record { array = s.array; index = s.start } in
    let cell_z : Cell = record { array = z.array; index = z.start } in
    let x = 44 ∷ 32 ∷ (decimal s.len ++ (41 ∷ 59 ∷ 10 ∷ t)) in
    let y = 44 ∷ 32 ∷ (decimal z.len ++ (41 ∷ 59 ∷ 10 ∷ u)) in
    let cells = one_cell names are cell_s cell_z x y f.0 f.1 g.0 g.1
    (append_cancel_left (codes "    show(&") (name names s.array ++ (91 ∷ (decimal s.start ++ (93 ∷ x)))) (name names z.array ++ (91 ∷ (decimal z.start ++ (93 ∷ y)))) (sym (show_shown names s t) ∙ is ∙ show_shown names z u)) in
    let lens = same_number s.len z.len (41 ∷ 59 ∷ 10 ∷ t) (41 ∷ 59 ∷ 10 ∷ u) f.2 g.2 refl refl (ap (λ w. tail_of (tail_of w)) cells.1) in
    (same_section s z (ap (λ c. c.array) cells.0) (ap (λ c. c.index) cells.0) lens.0, ap (λ w. tail_of (tail_of (tail_of w))) lens.1)

-- the line behind the lists
abbrev end_line : Text
end_line = line (codes "    ") (codes "printf(\"]\\n\");")

abbrev comma_line : Text
comma_line = line (codes "    ") (codes "printf(\",\");")

abbrev more_lists : List Text → List Section → Text
more_lists names ss = written.further_lists names (codes "    ") ss

more_shown : (names : List Text) (s : Section) (ss : List Section) (t : Text) → more_lists names (s ∷ ss) ++ t ≡ comma_line ++ (show names (codes "    ") s ++ (more_lists names ss ++ t))
more_shown names s ss t = simp append_assoc refl

-- the thirteenth byte tells the two lines apart
abbrev thirteenth : Text → ℕ
thirteenth t = head_of (drop 12 t)

same_more : (names : List Text) → AreIdentifiers names → (ss zs : List Section) (t u : Text) → ShowsFit names ss → ShowsFit names zs → more_lists names ss ++ (end_line ++ t) ≡ more_lists names zs ++ (end_line ++ u) → (ss ≡ zs) × (t ≡ u)
same_more names are [] [] t u f g is = (refl, append_cancel_left end_line t u is)
same_more names are [] (z ∷ zs) t u f g is = absurd (omega (arith, ap thirteenth (is ∙ more_shown names z zs (end_line ++ u))))
same_more names are (s ∷ ss) [] t u f g is = absurd (omega (arith, ap thirteenth (sym is ∙ more_shown names s ss (end_line ++ t))))
same_more names are (s ∷ ss) (z ∷ zs) t u f g is =
    let x = more_lists names ss ++ (end_line ++ t) in
    let y = more_lists names zs ++ (end_line ++ u) in
    let one = same_show names are s z x y f.0 g.0
    (append_cancel_left comma_line (show names (codes "    ") s ++ x) (show names (codes "    ") z ++ y) (sym (more_shown names s ss (end_line ++ t)) ∙ is ∙ more_shown names z zs (end_line ++ u))) in
    let rest = same_more names are ss zs t u f.1 g.1 one.1 in
    (ap (λ w. w ∷ ss) one.0 ∙ ap (λ ws. z ∷ ws) rest.0, rest.1)

first_shown : (names : List Text) (s : Section) (ss : List Section) (t : Text) → lists names (codes "    ") (s ∷ ss) ++ t ≡ show names (codes "    ") s ++ (more_lists names ss ++ t)
first_shown names s ss t = append_assoc (show names (codes "    ") s) (more_lists names ss) t

same_lists : (names : List Text) → AreIdentifiers names → (ss zs : List Section) (t u : Text) → ShowsFit names ss → ShowsFit names zs → lists names (codes "    ") ss ++ (end_line ++ t) ≡ lists names (codes "    ") zs ++ (end_line ++ u) → (ss ≡ zs) × (t ≡ u)
same_lists names are [] [] t u f g is = (refl, append_cancel_left end_line t u is)
same_lists names are [] (z ∷ zs) t u f g is = absurd (omega (arith, ap fifth (is ∙ first_shown names z zs (end_line ++ u) ∙ show_shown names z (more_lists names zs ++ (end_line ++ u)))))
same_lists names are (s ∷ ss) [] t u f g is = absurd (omega (arith, ap fifth (sym is ∙ first_shown names s ss (end_line ++ t) ∙ show_shown names s (more_lists names ss ++ (end_line ++ t)))))
same_lists names are (s ∷ ss) (z ∷ zs) t u f g is =
    let x = more_lists names ss ++ (end_line ++ t) in
    let y = more_lists names zs ++ (end_line ++ u) in
    let one = same_show names are s z x y f.0 g.0 (sym (first_shown names s ss (end_line ++ t)) ∙ is ∙ first_shown names z zs (end_line ++ u)) in
    let rest = same_more names are ss zs t u f.1 g.1 one.1 in
    (ap (λ w. w ∷ ss) one.0 ∙ ap (λ ws. z ∷ ws) rest.0, rest.1)

-- ---- the region

abbrev open_line : Text
open_line = line (codes "    ") (codes "printf(\"[\");")

region_shown : (names : List Text) (p : Expanded) (t : Text)
    → region names (codes "    ") p ++ t ≡ block (codes "    ") (body names (deeper (codes "    ")) [] p.body) ++ (10 ∷ (open_line ++ (lists names (codes "    ") p.shows ++ (end_line ++ t))))
region_shown names p t = parts (block (codes "    ") (body names (deeper (codes "    ")) [] p.body)) open_line (lists names (codes "    ") p.shows) end_line t
  where
    parts : (b o l e t : Text) → (b ++ (10 ∷ []) ++ (o ++ l ++ e)) ++ t ≡ b ++ (10 ∷ (o ++ (l ++ (e ++ t))))
    parts b o l e t = simp append_assoc refl

-- ---- what fits

abbrev AllNames : List Text → Type 0
AllNames [] = Unit {0}
AllNames (w ∷ ws) = (is_name w ≡ true) × AllNames ws

all_names : (ws : List Text) → ((i : ℕ) → i < length ws → is_name (name ws i) ≡ true) → AllNames ws
all_names [] each = tt
all_names (w ∷ ws) each = (each 0 (omega arith), all_names ws (λ i h. each (suc i) (omega (arith, h))))

declared_fit : (p : Expanded) (i : ℕ) (arrays : List (Text × ℕ)) (numbers : List (List ℕ)) → AllNames (map (λ a. a.0) arrays) → NumbersFit (map (λ a. a.1) arrays) → ListsFit numbers → AllDeclaredFit (declared_from p i (arrays_in_c arrays) numbers)
declared_fit p i [] numbers are lens fit = tt
declared_fit p i (a ∷ arrays) [] are lens fit = tt
declared_fit p i (a ∷ arrays) (ns ∷ numbers) are lens fit = at_once (names p i) refl (declared_fit p (i + 1) arrays numbers are.1 lens.1 fit.1)
  where
    at_once : (b : Bool) → names p i ≡ b → AllDeclaredFit (declared_from p (i + 1) (arrays_in_c arrays) numbers) → AllDeclaredFit (declared_from p i (arrays_in_c (a ∷ arrays)) (ns ∷ numbers))
    at_once true h rest = rw h ((is_one a.0 (is_taken a.0) refl are.0, lens.0, fit.0), rest)
    at_once false h rest = rw h rest

names_in_c : (arrays : List (Text × ℕ)) → map (λ a. a.0) (arrays_in_c arrays) ≡ map name_in_c (map (λ a. a.0) arrays)
names_in_c [] = refl
names_in_c (a ∷ arrays) = ap (λ ws. name_in_c a.0 ∷ ws) (names_in_c arrays)

-- ---- the whole

abbrev last : Text
last = codes "    return 0;\n}\n"

abbrev parts_of : Bool → Bool → Bool → Text → Text
parts_of a b c t = words_if a min_text ++ (words_if b max_text ++ (words_if c show_text ++ (main_text ++ t)))

whole_shown : (arrays : List (Text × ℕ)) (numbers : List (List ℕ)) (p : Expanded)
    → whole arrays numbers p ≡ head ++ parts_of (body_calls call.Min p.body) (body_calls call.Max p.body) (any_shown p.shows)
    (declarations (codes "    ") (declared_from p 0 arrays numbers) ++ (region_text ++ (region (map (λ a. a.0) arrays) (codes "    ") p ++ last)))
whole_shown arrays numbers p = simp append_assoc refl

pub program_law : ProgramIsDetermined
program_law words are arrays others ms ns p q fa fo fp fq text is it =
    let in_c = map name_in_c words in
    let all = all_names words are.each in
    let ds = declared_from p 0 (arrays_in_c arrays) ms in
    let es = declared_from q 0 (arrays_in_c others) ns in
    let fd = declared_fit p 0 arrays ms (subst AllNames (sym fa.named) all) fa.lens fa.lists in
    let fe = declared_fit q 0 others ns (subst AllNames (sym fo.named) all) fo.lens fo.lists in
    let named_p : map (λ a. a.0) (arrays_in_c arrays) ≡ in_c = names_in_c arrays ∙ ap (map name_in_c) fa.named in
    let named_q : map (λ a. a.0) (arrays_in_c others) ≡ in_c = names_in_c others ∙ ap (map name_in_c) fo.named in
    let region_p = region (map (λ a. a.0) (arrays_in_c arrays)) (codes "    ") p ++ last in
    let region_q = region (map (λ a. a.0) (arrays_in_c others)) (codes "    ") q ++ last in
    let left = declarations (codes "    ") ds ++ (region_text ++ region_p) in
    let right = declarations (codes "    ") es ++ (region_text ++ region_q) in
    let behind_head = append_cancel_left head (parts_of (body_calls call.Min p.body) (body_calls call.Max p.body) (any_shown p.shows) left) (parts_of (body_calls call.Min q.body) (body_calls call.Max q.body) (any_shown q.shows) right)
    (sym (whole_shown (arrays_in_c arrays) ms p) ∙ sym is ∙ it ∙ whole_shown (arrays_in_c others) ns q) in
    let behind_main = same_functions (body_calls call.Min p.body) (body_calls call.Max p.body) (any_shown p.shows) (body_calls call.Min q.body) (body_calls call.Max q.body) (any_shown q.shows) left right behind_head in
    let behind_arrays = same_declarations ds es region_p region_q fd fe behind_main in
    let regions : region in_c (codes "    ") p ++ last ≡ region in_c (codes "    ") q ++ last =
    ap (λ ws. region ws (codes "    ") p ++ last) (sym named_p) ∙ behind_arrays.1 ∙ ap (λ ws. region ws (codes "    ") q ++ last) named_q in
    let lists_p = lists in_c (codes "    ") p.shows ++ (end_line ++ last) in
    let lists_q = lists in_c (codes "    ") q.shows ++ (end_line ++ last) in
    let apart_c = apart words are in
    let bodies = same_blocks in_c apart_c [] (codes "    ") p.body q.body (10 ∷ (open_line ++ lists_p)) (10 ∷ (open_line ++ lists_q)) fp.body fq.body (sym (region_shown in_c p last) ∙ regions ∙ region_shown in_c q last) in
    let shown_alike = same_lists in_c apart_c.are p.shows q.shows last last fp.shows fq.shows (append_cancel_left open_line lists_p lists_q (ap tail_of bodies.1)) in
    record { shows = shown_alike.0; body = bodies.0; named = behind_arrays.0 }
