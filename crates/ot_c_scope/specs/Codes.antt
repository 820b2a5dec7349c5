-- A code of values of C, so that a scope may hold them: the list of the pieces of one, inner pieces first, which a stack puts
-- together again.
use Rattle.std.proofs.Common.{inl, inr, ◌∙◌, ap}
use Rattle.std.specs.Prelude.{◌≡◌, ◌⊎◌, ℕ, Bool, true, false, List, [], ◌∷◌, slice_index_or, refl}
use Rattle.std.specs.Coded.{Coded, code_by, coded×, coded⊎, coded_ℕ, coded_bool, coded_list}
use Rattle.ot_c_words.specs.contracts.word.IntegerType as types
use Rattle.ot_c_words.specs.contracts.word.Name as names
use Rattle.ot_c_words.specs.declared.word.IntegerType.{IntegerType}
use Rattle.ot_c_words.specs.declared.word.IntegerType.TheVariants.{Int}
use Rattle.ot_c_words.specs.declared.word.Name.{Name}
use Rattle.ot_c_expressions.specs.contracts.sign.Sign as signs
use Rattle.ot_c_expressions.specs.contracts.sign.Unary as unaries
use Rattle.ot_c_expressions.specs.contracts.tree.Call as calls
use Rattle.ot_c_expressions.specs.declared.sign.Sign.{Sign}
use Rattle.ot_c_expressions.specs.declared.sign.Unary.{Unary}
use Rattle.ot_c_expressions.specs.declared.tree.Call.{Call}
use Rattle.ot_c_expressions.specs.Tree.{E, Literal, Variable, CellAt, Unsigned, Signed, Called, Apply, Choose}

-- one piece of a value; of `OfForm` a cast, which has no number, or a choice
pub data Piece : Type 0 where
  OfNumber : ℕ × (ℕ × IntegerType) → Piece
  OfName : ℕ × Name → Piece
  OfCell : ℕ × Name → Piece
  OfForm : Bool × ℕ → Piece
  OfSigned : ℕ × Unary → Piece
  OfCall : ℕ × Call → Piece
  OfTwo : ℕ × Sign → Piece

abbrev pub Sum : Type 0
Sum = (ℕ × (ℕ × IntegerType)) ⊎ ((ℕ × Name) ⊎ ((ℕ × Name) ⊎ ((Bool × ℕ) ⊎ ((ℕ × Unary) ⊎ ((ℕ × Call) ⊎ (ℕ × Sign))))))

abbrev pub piece_sum : Piece → Sum
piece_sum (OfNumber x) = inl x
piece_sum (OfName x) = inr (inl x)
piece_sum (OfCell x) = inr (inr (inl x))
piece_sum (OfForm x) = inr (inr (inr (inl x)))
piece_sum (OfSigned x) = inr (inr (inr (inr (inl x))))
piece_sum (OfCall x) = inr (inr (inr (inr (inr (inl x)))))
piece_sum (OfTwo x) = inr (inr (inr (inr (inr (inr x)))))

abbrev pub piece_at : Sum → Piece
piece_at (inl x) = OfNumber x
piece_at (inr (inl x)) = OfName x
piece_at (inr (inr (inl x))) = OfCell x
piece_at (inr (inr (inr (inl x)))) = OfForm x
piece_at (inr (inr (inr (inr (inl x))))) = OfSigned x
piece_at (inr (inr (inr (inr (inr (inl x)))))) = OfCall x
piece_at (inr (inr (inr (inr (inr (inr x)))))) = OfTwo x

pub piece-back : (p : Piece) → piece_at (piece_sum p) ≡ p
piece-back (OfNumber x) = refl
piece-back (OfName x) = refl
piece-back (OfCell x) = refl
piece-back (OfForm x) = refl
piece-back (OfSigned x) = refl
piece-back (OfCall x) = refl
piece-back (OfTwo x) = refl

abbrev pub piece_code : Coded Piece
piece_code = code_by Sum (coded⊎ (coded× coded_ℕ (coded× coded_ℕ types.the_row.coded)) (coded⊎ (coded× coded_ℕ names.the_row.coded) (coded⊎ (coded× coded_ℕ names.the_row.coded)
    (coded⊎ (coded× coded_bool coded_ℕ) (coded⊎ (coded× coded_ℕ unaries.the_row.coded) (coded⊎ (coded× coded_ℕ calls.the_row.coded) (coded× coded_ℕ signs.the_row.coded))))))) piece_sum piece_at piece-back

-- the pieces of a value, before those of what follows
abbrev pub pieces : E → List Piece → List Piece
pieces (Literal l n t) k = OfNumber (l, (n, t)) ∷ k
pieces (Variable l x) k = OfName (l, x) ∷ k
pieces (CellAt l x i) k = pieces i (OfCell (l, x) ∷ k)
pieces (Unsigned e) k = pieces e (OfForm (true, 0) ∷ k)
pieces (Signed l u e) k = pieces e (OfSigned (l, u) ∷ k)
pieces (Called l c a b) k = pieces b (pieces a (OfCall (l, c) ∷ k))
pieces (Apply l s a b) k = pieces b (pieces a (OfTwo (l, s) ∷ k))
pieces (Choose l t a b) k = pieces b (pieces a (pieces t (OfForm (false, l) ∷ k)))

-- a cast, or a choice that stands there
abbrev pub form_read : Bool → ℕ → List E → List E
form_read true l (e ∷ es) = Unsigned e ∷ es
form_read false l (t ∷ a ∷ b ∷ es) = Choose l t a b ∷ es
form_read is_cast l es = es

-- one piece more
abbrev pub with_piece : Piece → List E → List E
with_piece (OfNumber x) es = Literal x.0 x.1.0 x.1.1 ∷ es
with_piece (OfName x) es = Variable x.0 x.1 ∷ es
with_piece (OfCell x) (i ∷ es) = CellAt x.0 x.1 i ∷ es
with_piece (OfForm x) es = form_read x.0 x.1 es
with_piece (OfSigned x) (e ∷ es) = Signed x.0 x.1 e ∷ es
with_piece (OfCall x) (a ∷ b ∷ es) = Called x.0 x.1 a b ∷ es
with_piece (OfTwo x) (a ∷ b ∷ es) = Apply x.0 x.1 a b ∷ es
with_piece p es = es

abbrev pub values_of : List Piece → List E → List E
values_of [] es = es
values_of (p ∷ k) es = values_of k (with_piece p es)

pub values-back : (e : E) (k : List Piece) (es : List E) → values_of (pieces e k) es ≡ values_of k (e ∷ es)
values-back (Literal l n t) k es = refl
values-back (Variable l x) k es = refl
values-back (CellAt l x i) k es = values-back i (OfCell (l, x) ∷ k) es
values-back (Unsigned e) k es = values-back e (OfForm (true, 0) ∷ k) es
values-back (Signed l u e) k es = values-back e (OfSigned (l, u) ∷ k) es
values-back (Called l c a b) k es = values-back b (pieces a (OfCall (l, c) ∷ k)) es ∙ values-back a (OfCall (l, c) ∷ k) (b ∷ es)
values-back (Apply l s a b) k es = values-back b (pieces a (OfTwo (l, s) ∷ k)) es ∙ values-back a (OfTwo (l, s) ∷ k) (b ∷ es)
values-back (Choose l t a b) k es = values-back b (pieces a (pieces t (OfForm (false, l) ∷ k))) es ∙ values-back a (pieces t (OfForm (false, l) ∷ k)) (b ∷ es) ∙ values-back t (OfForm (false, l) ∷ k) (a ∷ b ∷ es)

abbrev pub top_value : List E → E
top_value es = slice_index_or es 0 (Literal 0 0 Int)

abbrev pub value_code : Coded E
value_code = code_by (List Piece) (coded_list piece_code) (λ e. pieces e []) (λ k. top_value (values_of k [])) (λ e. ap top_value (values-back e [] []))
