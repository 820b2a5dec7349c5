-- What leads to an event, by what the event is.
use Rattle.std.proofs.Common.{◌≡◌, ℕ, ◌+◌, ◌<◌, ◌≤◌, true, List, refl, sym, ap, subst, ◌∙◌, inl, inr, arith}
use Rattle.std.specs.Prelude.{◌⊎◌, Option, Some, slice_get}
use Rattle.ot_model.specs.declared.stmt.Use.{Use}
use Rattle.ot_check.specs.Offences.{awaits}
use Rattle.ot_race.specs.Events.{Deed, Touches, Begins, Awaits, Leaves, Event}
use Rattle.ot_race.specs.Order.{IsBy, Does, Leads, InTurn, ByCreation, ByDependence, ByWait, ByEnd, IsBefore, Once, Then}
use Rattle.ot_race.specs.Standings.{IsUpTo}

-- ---- events at their places

pub some_is : {A : Type 0} (x y : A) → Some x ≡ Some y → x ≡ y
some_is x y h = cc

pub by_is : (es : List Event) (t n : ℕ) (e : Event) → slice_get es n ≡ Some e → IsBy es t n → e.task ≡ t
by_is es t n e at b = ap (λ x. x.task) (some_is e b.it (sym at ∙ b.there)) ∙ b.done_by

pub does_by : (es : List Event) (t n : ℕ) (d : Deed) (e : Event) → slice_get es n ≡ Some e → Does es t d n → e.task ≡ t
does_by es t n d e at b = ap (λ x. x.task) (some_is e b.it (sym at ∙ b.there)) ∙ b.done_by

pub does_deed : (es : List Event) (t n : ℕ) (d : Deed) (e : Event) → slice_get es n ≡ Some e → Does es t d n → e.deed ≡ d
does_deed es t n d e at b = ap (λ x. x.deed) (some_is e b.it (sym at ∙ b.there)) ∙ b.does

pub is_by : (es : List Event) (n : ℕ) (e : Event) → slice_get es n ≡ Some e → IsBy es e.task n
is_by es n e at = record { it = e; there = at; done_by = refl }

pub is_deed : (es : List Event) (n : ℕ) (e : Event) (d : Deed) → slice_get es n ≡ Some e → e.deed ≡ d → Does es e.task d n
is_deed es n e d at is = record { it = e; there = at; done_by = refl; does = is }

-- ---- before

pub leads_less : (es : List Event) (i j : ℕ) → Leads es i j → i < j
leads_less es _ _ (InTurn me i j a l b) = l
leads_less es _ _ (ByCreation p c i j w a l b) = l
leads_less es _ _ (ByDependence p c d h i j u w a hl b dep by l) = l
leads_less es _ _ (ByWait me c h i j u w a hl b aw by l) = l
leads_less es _ _ (ByEnd me n i j a l b) = l

pub before_less : (es : List Event) (i j : ℕ) → IsBefore es i j → i < j
before_less es _ _ (Once i j l) = leads_less es i j l
before_less es _ _ (Then i j k b l) =
    let one : i < j = before_less es i j b in
    let two : j < k = leads_less es j k l in
    omega arith

pub before_trans : (es : List Event) (i j k : ℕ) → IsBefore es i j → IsBefore es j k → IsBefore es i k
before_trans es i _ _ b (Once j k l) = Then i j k b l
before_trans es i _ _ b (Then j k m c l) = Then i k m (before_trans es i j k b c) l

pub up_trans : (es : List Event) (i j k : ℕ) → IsUpTo es i j → IsUpTo es j k → IsUpTo es i k
up_trans es i j k (inl a) b = subst (λ x. IsUpTo es x k) (sym a) b
up_trans es i j k (inr a) (inl b) = inr (subst (λ x. IsBefore es i x) b a)
up_trans es i j k (inr a) (inr b) = inr (before_trans es i j k a b)

pub up_leads : (es : List Event) (i j k : ℕ) → IsUpTo es i j → Leads es j k → IsBefore es i k
up_leads es i j k (inl a) l = subst (λ x. IsBefore es x k) (sym a) (Once j k l)
up_leads es i j k (inr a) l = Then i j k a l

-- the last step
pub record Step (es : List Event) (i j : ℕ) : Type 0 where
  pub via : ℕ
  pub reached : IsUpTo es i via
  pub leads : Leads es via j

pub last_step : (es : List Event) (i j : ℕ) → IsBefore es i j → Step es i j
last_step es _ _ (Once i j l) = record { via = i; reached = inl refl; leads = l }
last_step es _ _ (Then i j k b l) = record { via = j; reached = inr b; leads = l }

-- ---- what leads to an event

-- event k is of a child that such a wait of the parent would await
pub record FromChild (es : List Event) (n parent : ℕ) (wait : Option (List Use)) (k : ℕ) : Type 0 where
  pub child : ℕ
  pub begin : ℕ
  pub uses : List Use
  pub early : begin < n
  pub does : Does es child (Begins parent uses) begin
  pub awaited : awaits wait uses ≡ true
  pub done : IsBy es child k

-- event k leads to event n of this task by what event n is
abbrev pub FromDeed : List Event → ℕ → ℕ → Deed → ℕ → Type 0
FromDeed es n me Touches k = ⊥
FromDeed es n me (Begins p d) k = IsBy es p k ⊎ FromChild es n p (Some d) k
FromDeed es n me (Awaits w) k = FromChild es n me w k
FromDeed es n me (Leaves count) k = n ≤ k + count

pub leads_from : (es : List Event) (n k : ℕ) (e : Event) → slice_get es n ≡ Some e → Leads es k n → IsBy es e.task k ⊎ FromDeed es n e.task e.deed k
leads_from es _ _ e at (InTurn me k n a l b) = inl (subst (λ t. IsBy es t k) (sym (by_is es me n e at b)) a)
leads_from es _ _ e at (ByCreation p c k n w a l b) =
    inr (subst (λ d. FromDeed es n e.task d k) (sym (does_deed es c n (Begins p w) e at b)) (inl a))
leads_from es _ _ e at (ByDependence p c d h k n u w a hl b dep by l) =
    inr (subst (λ x. FromDeed es n e.task x k) (sym (does_deed es d n (Begins p w) e at b))
    (inr (record { child = c; begin = h; uses = u; early = hl; does = a; awaited = dep; done = by })))
leads_from es _ _ e at (ByWait me c h k n u w a hl b aw by l) =
    inr (subst (λ x. FromDeed es n e.task x k) (sym (does_deed es me n (Awaits w) e at b))
    (record { child = c; begin = h; uses = u; early = hl; does = subst (λ t. Does es c (Begins t u) h) (sym (does_by es me n (Awaits w) e at b)) a; awaited = aw; done = by }))
leads_from es _ _ e at (ByEnd me count k n a l b) =
    inr (subst (λ x. FromDeed es n e.task x k) (sym (does_deed es me n (Leaves count) e at a)) b)
