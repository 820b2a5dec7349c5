-- Arrays are made by lines.
use Rattle.std.proofs.Common.{◌≡◌, ◌∙◌, ℕ, zero, suc, ◌+◌, ◌-◌, ◌<◌, ◌≤◌, List, [], ◌∷◌, ◌++◌, length, map, take, drop, get_or, slice_index, refl, sym, ap, ap₂, subst, append_assoc, append-nil, length-drop, arith, add-one, take-add}
use Rattle.std.specs.Prelude.{decimal, replicate}
use Rattle.std.specs.List.{concat}
use Rattle.std.proofs.lemmas.List.{map-append, take_more, replicate-append-replicate, drop-replicate, length-take-le}
use Rattle.std.proofs.lemmas.List.Folds.{concat-append}
use Rattle.std.proofs.Math.Seq.{take-append_seam, drop-append-add, take-length}
use Rattle.json.specs.Print.{print}
use Rattle.json.specs.Token as token
use Rattle.serde_json.specs.Data.{Data, array, string}
use Rattle.serde_json.specs.View.{items_of}
use Rattle.serde_json.specs.Written.{compact_text}
use Rattle.serde_json.proofs.Texts.{print-outline}
use Rattle.ot_store.specs.Arrays.{Named, overwritten}
use Rattle.ot_book.specs.Pieces.{tokens_of}
use Rattle.ot_book.specs.Answers.{nat, nats}
use Rattle.ot_book.proofs.RepliesLemmas.{written-end}
use Rattle.ot_client_keep.specs.Arrays.{named_by}
use Rattle.ot_client_keep.specs.Files.{Fits, Makes, MakesOne, Piece, cells_written}
use Rattle.ot_client_keep.specs.declared.array.Array.{Array}

-- ---- arrays one after another

pub makes_more : (arrays : List Named) (text : List ℕ) (one : Named) (lines : List ℕ) → Makes arrays text → MakesOne one lines → Makes (arrays ++ one ∷ []) (text ++ lines)
makes_more [] text one lines makes more = (lines, [], more, refl, ap (λ l. l ++ lines) makes ∙ sym (append-nil lines))
makes_more (a ∷ arrays) text one lines makes more = (
  makes.0,
  makes.1 ++ lines,
  makes.2,
  makes_more arrays makes.1 one lines makes.3 more,
  ap (λ l. l ++ lines) makes.4 ∙ append_assoc makes.0 makes.1 lines,
)

-- one array more of a list of them
pub makes_next : (arrays : List Array) (i : ℕ) (found : Array) (one : Named) (text lines more : List ℕ) → Makes (map named_by (take i arrays)) text → MakesOne one lines
    → one ≡ named_by found → more ≡ text ++ lines → i < length arrays → found ≡ get_or arrays i found → Makes (map named_by (take (i + 1) arrays)) more
makes_next arrays i found one text lines more makes made same is within at =
    let all : map named_by (take (i + 1) arrays) ≡ map named_by (take i arrays) ++ one ∷ [] =
    ap (map named_by) (take_more arrays i found within ∙ ap (λ x. take i arrays ++ x ∷ []) (sym at)) ∙ map-append named_by (take i arrays) (found ∷ [])
    ∙ ap (λ x. map named_by (take i arrays) ++ x ∷ []) (sym same) in
    subst (λ l. Makes l more) (sym all) (subst (Makes (map named_by (take i arrays) ++ one ∷ [])) (sym is) (makes_more (map named_by (take i arrays)) text one lines makes made))

-- ---- pieces one after another

pub piece_fits : (cells : List ℕ) (at end : ℕ) → at < end → end ≤ length cells → Fits (length cells) (record { start = at; numbers = take (end - at) (drop at cells) })
piece_fits cells at end order within =
    let rest = length-drop at cells in
    let size : length (take (end - at) (drop at cells)) ≡ end - at = length-take-le (end - at) (drop at cells) (omega (arith, order, within, rest)) in
    record {
      some = λ none. let zero_long = ap length none in omega (arith, size, order, zero_long);
      within = omega (arith, size, order, within);
    }

pub written-more : (cells : List ℕ) (ps : List Piece) (p : Piece) → cells_written cells (ps ++ p ∷ []) ≡ overwritten (cells_written cells ps) p.start p.numbers
written-more cells [] p = refl
written-more cells (q ∷ ps) p = written-more (overwritten cells q.start q.numbers) ps p

-- the line of one piece more
pub text_more : (base front : List ℕ) (f : Piece → List ℕ) (ps : List Piece) (p : Piece) (text more : List ℕ)
    → text ≡ base ++ (front ++ concat (map f ps)) → more ≡ text ++ f p → more ≡ base ++ (front ++ concat (map f (ps ++ p ∷ [])))
text_more base front f ps p text more so_far next =
    let lines : concat (map f (ps ++ p ∷ [])) ≡ concat (map f ps) ++ f p =
    ap concat (map-append f ps (p ∷ [])) ∙ concat-append (map f ps) (f p ∷ []) ∙ ap (λ l. concat (map f ps) ++ l) (append-nil (f p)) in
    next
    ∙ ap (λ l. l ++ f p) so_far
    ∙ append_assoc base (front ++ concat (map f ps)) (f p)
    ∙ ap (λ l. base ++ l) (append_assoc front (concat (map f ps)) (f p) ∙ ap (λ l. front ++ l) (sym lines))

-- ---- cells that are 0 need no line

-- cells of which the last are 0
zeros_behind : (cells : List ℕ) (i d : ℕ) → i + d ≤ length cells → ((k : ℕ) → i ≤ k → k < i + d → slice_index cells k ≡ 0) → take (i + d) cells ≡ take i cells ++ replicate d 0
zeros_behind cells i zero within zeros =
    let same : i + zero ≡ i = omega arith in
    ap (λ n. take n cells) same ∙ sym (append-nil (take i cells))
zeros_behind cells i (suc d) within zeros =
    let more : i + suc d ≡ i + d + 1 = omega arith in
    let last : get_or cells (i + d) 0 ≡ 0 = zeros (i + d) (omega arith) (omega arith) in
    let front = zeros_behind cells i d (omega (arith, within)) (λ k low high. zeros k low (omega (arith, high))) in
    ap (λ n. take n cells) more ∙ take_more cells (i + d) 0 (omega (arith, within))
    ∙ ap₂ (λ xs x. xs ++ x ∷ []) front last
    ∙ append_assoc (take i cells) (replicate d 0) (0 ∷ [])
    ∙ ap (λ xs. take i cells ++ xs) (replicate-append-replicate d 1 0 ∙ ap (λ n. replicate n 0) (add-one d))

-- as many cells as there are, of which all behind a place are 0
abbrev pub so_far : List ℕ → ℕ → List ℕ
so_far cells at = take at cells ++ replicate (length cells - at) 0

-- zeros up to another place
so_far-zeros : (cells : List ℕ) (i j : ℕ) → i ≤ j → j ≤ length cells → ((k : ℕ) → i ≤ k → k < j → slice_index cells k ≡ 0) → so_far cells i ≡ so_far cells j
so_far-zeros cells i j order within zeros =
    let d = j - i in
    let same : i + d ≡ j = omega (arith, order) in
    let rest : length cells - i ≡ d + (length cells - j) = omega (arith, order, within) in
    let front = zeros_behind cells i d (omega (arith, same, within)) (λ k low high. zeros k low (omega (arith, high, same))) in
    ap (λ n. take i cells ++ replicate n 0) rest
    ∙ ap (λ xs. take i cells ++ xs) (sym (replicate-append-replicate d (length cells - j) 0))
    ∙ sym (append_assoc (take i cells) (replicate d 0) (replicate (length cells - j) 0))
    ∙ ap (λ xs. xs ++ replicate (length cells - j) 0) (sym front)
    ∙ ap (λ n. take n cells ++ replicate (length cells - j) 0) same

-- at first all are 0
pub so_far-first : (cells : List ℕ) (at : ℕ) → at ≤ length cells → ((k : ℕ) → 0 ≤ k → k < at → slice_index cells k ≡ 0) → replicate (length cells) 0 ≡ so_far cells at
so_far-first cells at within zeros =
    let none : length cells ≡ length cells - 0 = omega arith in
    ap (λ n. replicate n 0) none ∙ so_far-zeros cells 0 at (omega arith) within zeros

-- a piece is put
so_far-put : (cells numbers : List ℕ) (at end : ℕ) → at < end → end ≤ length cells → numbers ≡ take (end - at) (drop at cells) → overwritten (so_far cells at) at numbers ≡ so_far cells end
so_far-put cells numbers at end order within is =
    let d = end - at in
    let front : length (take at cells) ≡ at = length-take-le at cells (omega (arith, order, within)) in
    let size : length numbers ≡ d = ap length is ∙ length-take-le d (drop at cells) (let l = length-drop at cells in omega (arith, order, within, l)) in
    let zs = replicate (length cells - at) 0 in
    let kept : take at (so_far cells at) ≡ take at cells = ap (λ n. take n (so_far cells at)) (sym front) ∙ take-append_seam (take at cells) zs in
    let behind : drop (at + length numbers) (so_far cells at) ≡ replicate (length cells - end) 0 =
    ap (λ n. drop (n + length numbers) (so_far cells at)) (sym front) ∙ drop-append-add (take at cells) zs (length numbers)
    ∙ drop-replicate (length numbers) (length cells - at) 0
    ∙ ap (λ n. replicate n 0) (let e : length cells - at - length numbers ≡ length cells - end = omega (arith, size, order, within) in e) in
    let whole : take at cells ++ numbers ≡ take end cells =
    ap (λ xs. take at cells ++ xs) is ∙ sym (take-add at d cells) ∙ ap (λ n. take n cells) (let e : at + d ≡ end = omega (arith, order) in e) in
    ap₂ (λ xs ys. xs ++ (numbers ++ ys)) kept behind ∙ sym (append_assoc (take at cells) numbers (replicate (length cells - end) 0))
    ∙ ap (λ xs. xs ++ replicate (length cells - end) 0) whole

-- and zeros behind it
pub so_far-more : (cells numbers : List ℕ) (at end next : ℕ) → at < end → end ≤ next → next ≤ length cells → ((k : ℕ) → end ≤ k → k < next → slice_index cells k ≡ 0)
    → numbers ≡ take (end - at) (drop at cells) → overwritten (so_far cells at) at numbers ≡ so_far cells next
so_far-more cells numbers at end next order further within zeros is =
    so_far-put cells numbers at end order (omega (arith, further, within)) is ∙ so_far-zeros cells end next further within zeros

-- at the end no zero is added
pub so_far-end : (cells : List ℕ) (at : ℕ) → at ≤ length cells → length cells ≤ at → so_far cells at ≡ cells
so_far-end cells at within past =
    let same : at ≡ length cells = omega (arith, within, past) in
    let none : length cells - at ≡ 0 = omega (arith, past) in
    ap₂ (λ n m. take n cells ++ replicate m 0) same none ∙ append-nil (take (length cells) cells) ∙ take-length cells

-- ---- the text of one line

-- a line's first tokens
pub front-tokens : (word name : List ℕ) (n : ℕ) (t0 t1 t2 t3 t4 : List token.Token) → t0 ≡ [] → t1 ≡ t0 ++ token.begin_array ∷ [] → t2 ≡ t1 ++ token.string word ∷ []
    → t3 ≡ t2 ++ token.string name ∷ [] → t4 ≡ t3 ++ token.number (decimal n) ∷ [] → t4 ≡ token.begin_array ∷ token.string word ∷ token.string name ∷ token.number (decimal n) ∷ []
front-tokens word name n t0 t1 t2 t3 t4 e0 e1 e2 e3 e4 =
    let f1 : t1 ≡ token.begin_array ∷ [] = e1 ∙ ap (λ ts. ts ++ token.begin_array ∷ []) e0 in
    let f2 : t2 ≡ token.begin_array ∷ token.string word ∷ [] = e2 ∙ ap (λ ts. ts ++ token.string word ∷ []) f1 in
    let f3 : t3 ≡ token.begin_array ∷ token.string word ∷ token.string name ∷ [] = e3 ∙ ap (λ ts. ts ++ token.string name ∷ []) f2 in
    e4 ∙ ap (λ ts. ts ++ token.number (decimal n) ∷ []) f3

-- a line that ends behind them
pub short-tokens : (word name : List ℕ) (n : ℕ) (t4 t5 : List token.Token) → t4 ≡ token.begin_array ∷ token.string word ∷ token.string name ∷ token.number (decimal n) ∷ []
    → t5 ≡ t4 ++ token.end_array ∷ [] → t5 ≡ tokens_of (array (items_of (string word ∷ string name ∷ nat n ∷ [])))
short-tokens word name n t4 t5 front end = written-end [] t4 t5 (string word ∷ string name ∷ nat n ∷ []) front end

-- and one that goes on with numbers
pub long-tokens : (word name : List ℕ) (n : ℕ) (numbers : List ℕ) (t4 t5 t6 : List token.Token)
    → t4 ≡ token.begin_array ∷ token.string word ∷ token.string name ∷ token.number (decimal n) ∷ [] → t5 ≡ t4 ++ tokens_of (nats numbers) → t6 ≡ t5 ++ token.end_array ∷ []
    → t6 ≡ tokens_of (array (items_of (string word ∷ string name ∷ nat n ∷ nats numbers ∷ [])))
long-tokens word name n numbers t4 t5 t6 front more end =
    written-end [] t5 t6 (string word ∷ string name ∷ nat n ∷ nats numbers ∷ [])
    (more ∙ ap (λ ts. ts ++ tokens_of (nats numbers)) front
    ∙ ap (λ ts. token.begin_array ∷ token.string word ∷ token.string name ∷ token.number (decimal n) ∷ ts) (sym (append-nil (tokens_of (nats numbers))))) end

-- a value's text and an LF behind what stood there
pub line_text : (d : Data) (old before items pushed : List ℕ) (ts : List token.Token) → items ≡ before ++ print ts → before ≡ old → ts ≡ tokens_of d → pushed ≡ items ++ 10 ∷ []
    → pushed ≡ old ++ (compact_text d ++ 10 ∷ [])
line_text d old before items pushed ts is same tokens end =
    end ∙ ap (λ l. l ++ 10 ∷ []) (is ∙ ap₂ (λ a b. a ++ b) same (ap print tokens ∙ print-outline d)) ∙ append_assoc old (compact_text d) (10 ∷ [])
