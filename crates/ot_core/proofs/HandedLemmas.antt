-- A world stays right when a worker takes a piece or gives one back, and when a job ends or fails.
use Rattle.std.proofs.Common.{◌≡◌, ◌≢◌, ◌<◌, ◌≤◌, ◌+◌, ◌^◌, ◌⊎◌, inl, inr, ℕ, List, length, get_or, set, refl, sym, ap, ◌∙◌, subst, arith, true≢false, Bool, true, false}
use Rattle.std.specs.Prelude.{Option, Some, None, is_some, option_map, slice_get, All}
use Rattle.std.proofs.lemmas.Bool.{cases_eq}
use Rattle.std.proofs.lemmas.Option.{same_Some, slice_get_within, slice_get_cases}
use Rattle.std.proofs.lemmas.List.{get_or-set_same, get_or-set_other, get_or_default, length-set, set-get_or}
use Rattle.std.proofs.lemmas.List.Elements.{All-from_get_or}
use Rattle.std.proofs.lemmas.List.Sums.{sum_by-le}
use Rattle.ot_check.specs.Jobs.{Spec}
use Rattle.ot_job.specs.Dealings.{Live, FailsBy, Fails as HasFailed, job_aborted, NoneOut, Returns, SameSpec, work_brought, work_at, live_state, settled_units}
use Rattle.ot_job.specs.Taken.{Taken as Piece, Came as Done}
use Rattle.ot_job.specs.declared.state.State.{State}
use Rattle.ot_job.specs.declared.state.State.TheVariants as state
use Rattle.ot_job.proofs.DealingsLemmas.{claimed-gives, settles-pays, fails-breaks, aborted-aborts, work-out}
use Rattle.ot_core.specs.Accounts.{Account, IsSoundAccount, with_reply}
use Rattle.ot_hall.specs.Floors.{job_of, Floor, ClaimsFor, SettlesFor, FailsIn, AbortsJob, IsWorking, IsStrange, NothingAt, HasJob, with_job, with_settled, tenant_units, total_of}
use Rattle.ot_core.specs.Scenes.{Scene, IsScene, Pairs, Agrees, hand_of, held_work, out_at, with_hand, with_account, HandTakes, GivesBack, BreaksJob, EndsJob, StopsJob, CannotReply, CannotStart, MayTake}
use Rattle.ot_core.specs.declared.held.Held.{Held}
use Rattle.ot_core.proofs.AccountLemmas.{answered-≤, none-from}
use Rattle.ot_hall.proofs.FloorLemmas.{job-within}
use Rattle.ot_core.proofs.HandLemmas.{OthersOut, held-taken, held-given}
use Rattle.ot_core.proofs.SceneLemmas.{SameBut, but-none, but-set, job-set, scene-handed, scene-replied, agrees-same, agrees-job, held-same, out-but}

-- ---- the units of all

unit-small : (s : Scene) → IsScene s → (i : ℕ) → i < length s.floor.units → tenant_units s.floor i ≤ 85899345920000
unit-small s scene i below = elim ((slice_get_cases s.accounts i).1) [
  | inl at ↦
      let g = scene.each i at.0 at.2 in
      omega (arith, g.paid, g.bounded, answered-≤ at.0 g.sound, g.sound.few)
  | inr past ↦ absurd (omega (arith, past.0, below, scene.units_many))
]

-- the total is far from its bound
pub total-small : (s : Scene) → IsScene s → total_of s.floor + 20000 < 2 ^ 63
total-small s scene =
    let all : All (λ u. u ≤ 85899345920000) s.floor.units = All-from_get_or (λ u. u ≤ 85899345920000) s.floor.units 0 (unit-small s scene) in
    let sum = sum_by-le (λ u. u) 85899345920000 s.floor.units all in
    omega (arith, sum, scene.few, scene.units_many)

-- ---- hands

-- what was read of a hand
pub hand-read : (hands : List (Option Held)) (w : ℕ) (x r o : Option Held) → w < 16 → length hands ≡ 16 → x ≡ get_or hands w x → r ≡ x → r ≡ o → hand_of hands w ≡ o
hand-read hands w x r o below many read was is = get_or_default hands w None x (omega (arith, below, many)) ∙ sym read ∙ sym was ∙ is

-- a hand that was read is free
pub hand-free : (hands : List (Option Held)) (w : ℕ) (x : Option Held) → w < 16 → length hands ≡ 16 → x ≡ get_or hands w x → is_some x ≡ false → hand_of hands w ≡ None
hand-free hands w x below many read empty = hand-read hands w x x None below many read refl (none-from x (λ some. true≢false (sym some ∙ empty)))

others-out : (jobs : List (Option Live)) (t task : ℕ) (j k : Live) → job_of jobs t ≡ Some j → ((i : ℕ) → i ≢ task → work_at k i ≡ work_at j i)
    → OthersOut jobs (set jobs t (Some k)) t task
others-out jobs t task j k job others u i not = elim (cases_eq u t) [
  | inl here ↦
      ap (λ o. out_at o i) (ap (job_of (set jobs t (Some k))) here ∙ job-set jobs t (Some k) (job-within jobs t j job))
      ∙ others i (not here) ∙ sym (ap (λ o. out_at o i) (ap (job_of jobs) here ∙ job))
  | inr other ↦ ap (λ o. out_at o i) (get_or-set_other jobs t u (Some k) None other)
]

-- of the tenant with this job
was : (s : Scene) (t : ℕ) (j : Live) (a : Account) → IsScene s → job_of s.floor.jobs t ≡ Some j → slice_get s.accounts t ≡ Some a → Agrees a (Some j) (tenant_units s.floor t)
was s t j a scene job at = subst (λ o. Agrees a o (tenant_units s.floor t)) job (scene.each t a at)

-- ---- a worker takes a piece

scene-taken : (s : Scene) (w t pick : ℕ) (piece : Piece) (floor : Floor) → IsScene s → w < 16 → hand_of s.hands w ≡ None → ClaimsFor s.floor t pick (w + 1) piece floor
    → IsScene (with_hand s floor w (Some (record { tenant = t; piece = piece })))
scene-taken s w t pick piece floor scene below free claims =
    let h : Held = record { tenant = t; piece = piece } in
    let j = claims.job in
    let k = claims.next in
    let takes = (claimed-gives j pick (w + 1) (Some piece) k claims.claimed).1 in
    let mine = job-set s.floor.jobs t (Some k) (job-within s.floor.jobs t j claims.is) in
    subst (λ f. IsScene (with_hand s f w (Some h))) (sym claims.new_is)
    (scene-handed s t (with_job s.floor t (Some k)) (set s.hands w (Some h)) scene (but-set s.floor.jobs t (Some k)) (but-none s.floor.units t)
    (λ a at. subst (λ o. Agrees a o (tenant_units s.floor t)) (sym mine) (agrees-same a j k (tenant_units s.floor t) (was s t j a scene claims.is at) takes.same takes.units))
    (length-set s.hands w (Some h) ∙ scene.hands_many)
    (held-taken s.floor.jobs (set s.floor.jobs t (Some k)) s.hands w h scene.held (omega (arith, below, scene.hands_many)) free
    (ap (λ o. out_at o piece.task) claims.is ∙ takes.free) (ap (λ o. out_at o piece.task) mine ∙ takes.taken) (others-out s.floor.jobs t piece.task j k claims.is takes.others)))

pub taken : (s now : Scene) (w t pick task : ℕ) (piece : Piece) (floor : Floor) (hand : Option Held) → s ≡ now → IsScene s → w < 16 → hand_of s.hands w ≡ None → ClaimsFor s.floor t pick (w + 1) piece floor
    → task ≡ piece.task → hand ≡ Some (record { tenant = t; piece = piece }) → IsScene (with_hand s floor w hand) × HandTakes now w t pick task (with_hand s floor w hand)
taken s now w t pick task piece floor hand is scene below free claims task_is hand_is =
    let h : Held = record { tenant = t; piece = piece } in
    let does : HandTakes s w t pick task (with_hand s floor w (Some h)) = record { free = free; piece = piece; floor = floor; claims = claims; task_is = task_is; new_is = refl } in
    subst (λ o. IsScene (with_hand s floor w o) × HandTakes now w t pick task (with_hand s floor w o)) (sym hand_is)
    (scene-taken s w t pick piece floor scene below free claims, subst (λ o. HandTakes o w t pick task (with_hand s floor w (Some h))) is does)

-- a tenant's job goes on with the same pieces out
scene-goes_on : (s : Scene) (t : ℕ) (j k : Live) → IsScene s → job_of s.floor.jobs t ≡ Some j → SameSpec j k → settled_units k ≡ settled_units j
    → ((i : ℕ) → work_at k i ≡ work_at j i) → IsScene (record { accounts = s.accounts; floor = with_job s.floor t (Some k); hands = s.hands })
scene-goes_on s t j k scene job same units works =
    let mine = job-set s.floor.jobs t (Some k) (job-within s.floor.jobs t j job) in
    scene-handed s t (with_job s.floor t (Some k)) s.hands scene (but-set s.floor.jobs t (Some k)) (but-none s.floor.units t)
    (λ a at. subst (λ o. Agrees a o (tenant_units s.floor t)) (sym mine) (agrees-same a j k (tenant_units s.floor t) (was s t j a scene job at) same units))
    scene.hands_many
    (held-same s.floor.jobs (set s.floor.jobs t (Some k)) s.hands
    (out-but s.floor.jobs (set s.floor.jobs t (Some k)) t (but-set s.floor.jobs t (Some k)) (λ i. ap (λ o. out_at o i) mine ∙ works i ∙ sym (ap (λ o. out_at o i) job))) scene.held)

-- nothing has changed
pub as-before : (s now : Scene) (floor : Floor) → s ≡ now → IsScene s → floor ≡ s.floor
    → IsScene (record { accounts = s.accounts; floor = floor; hands = s.hands }) × (record { accounts = s.accounts; floor = floor; hands = s.hands } ≡ now)
as-before s now floor is scene same =
    let one : record { accounts = s.accounts; floor = floor; hands = s.hands } ≡ s = ap (λ f. let r : Scene = record { accounts = s.accounts; floor = f; hands = s.hands } in r) same in
    (subst IsScene (sym one) scene, one ∙ is)

-- a job fails
pub stopped : (s now : Scene) (t : ℕ) (floor : Floor) → s ≡ now → IsScene s → IsWorking s.floor t → AbortsJob s.floor t floor
    → IsScene (record { accounts = s.accounts; floor = floor; hands = s.hands }) × StopsJob now t (record { accounts = s.accounts; floor = floor; hands = s.hands })
stopped s now t floor is scene working stops =
    let fails = aborted-aborts stops.job (job_aborted stops.job) refl in
    let does : StopsJob s t (record { accounts = s.accounts; floor = floor; hands = s.hands }) = record { working = working; floor = floor; aborts = stops; new_is = refl } in (
      subst (λ f. IsScene (record { accounts = s.accounts; floor = f; hands = s.hands })) (sym stops.new_is)
          (scene-goes_on s t stops.job (job_aborted stops.job) scene stops.is fails.same fails.units fails.works),
      subst (λ o. StopsJob o t (record { accounts = s.accounts; floor = floor; hands = s.hands })) is does,
    )

-- ---- a worker gives its piece back

-- the piece in a hand runs in its tenant's job
pub held-runs : (s : Scene) (w : ℕ) (h : Held) → IsScene s → hand_of s.hands w ≡ Some h
    → (j : Live) × (job_of s.floor.jobs h.tenant ≡ Some j) × (work_at j h.piece.task ≡ Some (held_work h))
held-runs s w h scene mine = runs (job_of s.floor.jobs h.tenant) (scene.held.out w h mine)
  where
    runs : (o : Option Live) → out_at o h.piece.task ≡ Some (held_work h) → (j : Live) × (o ≡ Some j) × (work_at j h.piece.task ≡ Some (held_work h))
    runs None out = absurd (true≢false (sym (ap is_some out)))
    runs (Some j) out = (j, refl, out)

scene-given : (s : Scene) (w : ℕ) (h : Held) (j k : Live) (units : List ℕ) → IsScene s → w < 16 → hand_of s.hands w ≡ Some h → job_of s.floor.jobs h.tenant ≡ Some j
    → Returns j h.piece.task (held_work h) k → SameBut s.floor.units h.tenant units
    → ((a : Account) → slice_get s.accounts h.tenant ≡ Some a → Agrees a (Some k) (get_or units h.tenant 0))
    → IsScene (with_hand s (record { jobs = set s.floor.jobs h.tenant (Some k); units = units }) w None)
scene-given s w h j k units scene below mine job returns but agrees =
    let t = h.tenant in
    let now = job-set s.floor.jobs t (Some k) (job-within s.floor.jobs t j job) in
    let floor : Floor = record { jobs = set s.floor.jobs t (Some k); units = units } in
    scene-handed s t floor (set s.hands w None) scene (but-set s.floor.jobs t (Some k)) but
    (λ a at. subst (λ o. Agrees a o (tenant_units floor t)) (sym now) (agrees a at))
    (length-set s.hands w None ∙ scene.hands_many)
    (held-given s.floor.jobs (set s.floor.jobs t (Some k)) s.hands w h scene.held (omega (arith, below, scene.hands_many)) mine
    (ap (λ o. out_at o h.piece.task) now ∙ returns.free) (others-out s.floor.jobs t h.piece.task j k job returns.others))

-- what came back is what was held
returned : (j k : Live) (done : Done) (h : Held) → done.task ≡ h.piece.task → work_brought done ≡ held_work h → Returns j done.task (work_brought done) k
    → Returns j h.piece.task (held_work h) k
returned j k done h task ran returns = subst (λ w. Returns j h.piece.task w k) ran (subst (λ t. Returns j t (work_brought done) k) task returns)

-- it is settled
pub given : (s now : Scene) (w : ℕ) (h : Held) (done : Done) (n : ℕ) (floor : Floor) (hand : Option Held) → s ≡ now → IsScene s → w < 16 → hand_of s.hands w ≡ Some h
    → done.task ≡ h.piece.task → work_brought done ≡ held_work h → SettlesFor s.floor h.tenant done n floor → hand ≡ None
    → IsScene (with_hand s floor w hand) × GivesBack now w (λ f t d g. SettlesFor f t d n g) (with_hand s floor w hand)
given s now w h done n floor hand is scene below mine task ran does gone =
    let t = h.tenant in
    let j = does.job in
    let k = does.next in
    let more = tenant_units s.floor t + n in
    let pays = settles-pays j done n k does.settled in
    let right : IsScene (with_hand s (with_settled s.floor t k n) w None) =
    scene-given s w h j k (set s.floor.units t more) scene below mine does.is (returned j k done h task ran pays.returns) (but-set s.floor.units t more)
    (λ a at. subst (Agrees a (Some k)) (sym (get_or-set_same s.floor.units t more 0 (omega (arith, slice_get_within s.accounts t a at, scene.units_many))))
    (agrees-job a j k (tenant_units s.floor t) more (was s t j a scene does.is at) pays.returns.same (omega (arith, pays.units)) pays.few)) in
    let back : GivesBack s w (λ f t d g. SettlesFor f t d n g) (with_hand s floor w None) =
    record { held = h; is = mine; done = done; task_is = task; ran = ran; floor = floor; does_so = does; new_is = refl } in
    subst (λ o. IsScene (with_hand s floor w o) × GivesBack now w (λ f t d g. SettlesFor f t d n g) (with_hand s floor w o)) (sym gone)
    (subst (λ f. IsScene (with_hand s f w None)) (sym does.new_is) right, subst (λ o. GivesBack o w (λ f t d g. SettlesFor f t d n g) (with_hand s floor w None)) is back)

-- a piece that was out fails its job
fails-by : (old new : Live) (d : Done) → work_at old d.task ≡ Some (work_brought d) → HasFailed old d new → FailsBy old d new
fails-by old new d out failed = elim failed [
  | inl by ↦ by
  | inr not ↦ absurd (not.0 (work-out old d out))
]

breaks-of : (f : Floor) (t : ℕ) (done back : Done) (j : Live) (floor : Floor) → job_of f.jobs t ≡ Some j → work_at j done.task ≡ Some (work_brought done)
    → back ≡ done → FailsIn f t back (job_of f.jobs t) floor → BreaksJob f t done floor
breaks-of f t done back j floor job out same fails =
    let does = subst (λ d. FailsIn f t d (Some j) floor) same (subst (λ o. FailsIn f t back o floor) job fails) in
    record { job = j; is = job; next = does.next; failed = fails-by j does.next done out does.failed; new_is = does.new_is }

pub broken : (s now : Scene) (w : ℕ) (h : Held) (done back : Done) (mid floor : Floor) (hand : Option Held) → s ≡ now → IsScene s → w < 16 → hand_of s.hands w ≡ Some h
    → done.task ≡ h.piece.task → work_brought done ≡ held_work h → mid ≡ s.floor → back ≡ done
    → FailsIn mid h.tenant back (job_of mid.jobs h.tenant) floor → hand ≡ None
    → IsScene (with_hand s floor w hand) × GivesBack now w BreaksJob (with_hand s floor w hand)
broken s now w h done back mid floor hand is scene below mine task ran before same fails gone =
    let t = h.tenant in
    let runs = held-runs s w h scene mine in
    let out : work_at runs.0 done.task ≡ Some (work_brought done) = ap (work_at runs.0) task ∙ runs.2 ∙ ap Some (sym ran) in
    let does : BreaksJob s.floor t done floor = breaks-of s.floor t done back runs.0 floor runs.1 out same (subst (λ (g : Floor). FailsIn g t back (job_of g.jobs t) floor) before fails) in
    let j = does.job in
    let k = does.next in
    let breaks = fails-breaks j done k does.failed in
    let right : IsScene (with_hand s (with_job s.floor t (Some k)) w None) =
    scene-given s w h j k s.floor.units scene below mine does.is (returned j k done h task ran breaks.returns) (but-none s.floor.units t)
    (λ a at. agrees-same a j k (tenant_units s.floor t) (was s t j a scene does.is at) breaks.returns.same breaks.units) in
    let gives : GivesBack s w BreaksJob (with_hand s floor w None) =
    record { held = h; is = mine; done = done; task_is = task; ran = ran; floor = floor; does_so = does; new_is = refl } in
    subst (λ o. IsScene (with_hand s floor w o) × GivesBack now w BreaksJob (with_hand s floor w o)) (sym gone)
    (subst (λ f. IsScene (with_hand s f w None)) (sym does.new_is) right, subst (λ o. GivesBack o w BreaksJob (with_hand s floor w None)) is gives)

-- ---- a tenant is told what its job came to

pub ended : (s now : Scene) (t : ℕ) (a b : Account) (spec : Spec) (lost : Bool) (floor : Floor) → s ≡ now → IsScene s → slice_get s.accounts t ≡ Some a → (has : HasJob s.floor t spec)
    → ((lost ≡ false) × (live_state has.job ≡ state.Ended)) ⊎ ((lost ≡ true) × (live_state has.job ≡ state.Failed))
    → NoneOut has.job → b ≡ with_reply a lost → IsSoundAccount b → floor ≡ with_job s.floor t None
    → IsScene (with_account s t b floor) × EndsJob now t (with_account s t b floor)
ended s now t a b spec lost floor is scene at has over calm replied sound left =
    let right : IsScene (with_account s t b (with_job s.floor t None)) =
    subst (λ o. IsScene (with_account s t o (with_job s.floor t None))) (sym replied) (scene-replied s t a has.job lost scene at (subst IsSoundAccount replied sound) has.is calm) in
    let ends : EndsJob s t (with_account s t b (with_job s.floor t None)) = record {
      account = a;
      is = at;
      job = has.job;
      job_is = has.is;
      lost = lost;
      over = over;
      new_is = ap (λ o. with_account s t o (with_job s.floor t None)) replied;
    } in
    subst (λ f. IsScene (with_account s t b f) × EndsJob now t (with_account s t b f)) (sym left) (right, subst (λ o. EndsJob o t (with_account s t b (with_job s.floor t None))) is ends)

-- the job of an open request is its tenant's
pub never-strange : (s : Scene) (t : ℕ) (a : Account) (spec : Spec) → IsScene s → slice_get s.accounts t ≡ Some a → a.spec ≡ Some spec → IsStrange s.floor t spec → ⊥
never-strange s t a spec scene at open_for strange = none (job_of s.floor.jobs t) refl (subst (λ o. Pairs o (job_of s.floor.jobs t)) open_for (scene.each t a at).pairs)
  where
    none : (o : Option Live) → job_of s.floor.jobs t ≡ o → Pairs (Some spec) o → ⊥
    none None is pairs = pairs
    none (Some j) is pairs = strange j is pairs

pub cannot-reply : (s now : Scene) (t : ℕ) (o : Option Live) → s ≡ now → job_of s.floor.jobs t ≡ o → CannotReply o → CannotReply (job_of now.floor.jobs t)
cannot-reply s now t o is job not = subst (λ (r : Scene). CannotReply (job_of r.floor.jobs t)) is (subst CannotReply (sym job) not)

-- what was read is written again
pub read-again : (s now : Scene) (t : ℕ) (a : Account) → s ≡ now → a ≡ get_or s.accounts t a → with_account s t a s.floor ≡ now
read-again s now t a is read =
    ap (λ l. let r : Scene = record { accounts = l; floor = s.floor; hands = s.hands } in r) (ap (set s.accounts t) read ∙ set-get_or s.accounts t a) ∙ is

-- an account that is as it was is written again
pub written-again : (s now : Scene) (t : ℕ) (a b : Account) → s ≡ now → a ≡ get_or s.accounts t a → b ≡ a → with_account s t b s.floor ≡ now
written-again s now t a b is read same = ap (λ o. with_account s t o s.floor) same ∙ read-again s now t a is read

-- a job whose state was read works
pub working-of : (f : Floor) (t : ℕ) (s : State) → Some s ≡ option_map (λ j. live_state j) (job_of f.jobs t) → s ≡ state.Working → IsWorking f t
working-of f t s read is = works (job_of f.jobs t) refl (ap Some (sym is) ∙ read)
  where
    works : (o : Option Live) → job_of f.jobs t ≡ o → Some state.Working ≡ option_map (λ j. live_state j) o → IsWorking f t
    works None job said = absurd (true≢false (ap is_some said))
    works (Some j) job said = record { job = j; is = job; working = sym (same_Some state.Working (live_state j) said) }

pub cannot-start : (s now : Scene) (w t : ℕ) → s ≡ now → NothingAt s.floor.jobs t → CannotStart now w t
cannot-start s now w t is none = subst (λ o. CannotStart o w t) is (inr none)

-- a piece may be taken
pub may-take : (s now : Scene) (w t : ℕ) → s ≡ now → hand_of s.hands w ≡ None → IsWorking s.floor t → ¬ (NothingAt s.floor.jobs t) → MayTake now (Some w) t
may-take s now w t is free working some = subst (λ o. MayTake o (Some w) t) is (free, working, some)
