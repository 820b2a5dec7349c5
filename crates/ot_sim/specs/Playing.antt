-- What a line is answered.
use Rattle.std.specs.Prelude.{◌≡◌, ℕ, ◌+◌, ◌-◌, ◌^◌, min, List, [], ◌∷◌, ◌++◌, map, length, drop, replicate, codes, is_some, ◌||◌, if◌then◌else◌, Bool, Option, Some, None, option_map, unwrap_or, slice_get, suc, bytes_eq, nat_le, true, false}
use Rattle.ot_store.specs.Refusals.{usual_limits}
use Rattle.ot_book.specs.Books.{new_register}
use Rattle.ot_book.specs.Answers.{Told, text_of as reply_text}
use Rattle.ot_core.specs.Accounts.{Account, new_account, replies_of}
use Rattle.ot_hall.specs.Floors.{new_floor, tenant_units, total_of}
use Rattle.ot_core.specs.Scenes.{Scene, Steps}
use Rattle.ot_core.specs.Draining.{Drains, AllAnswered}
use Rattle.ot_core.specs.declared.event.Event.{Event}
use Rattle.ot_core.specs.declared.event.Stepped.{Stepped}
use Rattle.ot_sim.specs.declared.line.Line.{Line}
use Rattle.ot_sim.specs.declared.line.Line.TheVariants as line
use Rattle.ot_sim.specs.declared.answer.Answer.TheVariants as answer
use Rattle.ot_sim.specs.declared.play.Play.{Play}
use Rattle.ot_sim.specs.declared.play.Saying.{Saying}
use Rattle.ot_sim.specs.declared.play.Saying.TheVariants as saying
use Rattle.ot_sim.specs.Lines.{said_of, said_in}
use Rattle.ot_core.specs.declared.event.Event.TheVariants as event
use Rattle.ot_core.specs.declared.event.Stepped.TheVariants as stepped
use Rattle.ot_sim.specs.declared.answer.Answer.{Answer}
use Rattle.std.specs.Fmt.{decimal}

-- an answer as text, ended by one LF
abbrev pub answer_text : Answer → List ℕ
answer_text (answer.Tenant t) = codes "tenant " ++ t.now ++ codes "\n"
answer_text (answer.Asked t) = codes "asked " ++ t.now ++ codes "\n"
answer_text (answer.Full t) = codes "full " ++ t.now ++ codes "\n"
answer_text (answer.Reply t reply) = t.now ++ codes " " ++ reply.now ++ codes "\n"
answer_text (answer.Job t) = t.now ++ codes " job\n"
answer_text (answer.Started w t task) = codes "start " ++ decimal w ++ codes " " ++ t.now ++ codes " task " ++ decimal task ++ codes "\n"
answer_text (answer.Finished w units) = codes "finish " ++ decimal w ++ codes " units " ++ decimal units ++ codes "\n"
answer_text (answer.FinishedFailed w) = codes "finish " ++ decimal w ++ codes " failed\n"
answer_text (answer.Aborted t) = codes "abort " ++ t.now ++ codes "\n"
answer_text answer.Drained = codes "drained\n"
answer_text (answer.Usage t units total) = codes "usage " ++ t.now ++ codes " " ++ decimal units ++ codes " of " ++ decimal total ++ codes "\n"
answer_text answer.NotNow = codes "notnow\n"
answer_text answer.BadLine = codes "badline\n"

-- The tenants by name, in the order made.

-- the number of a tenant, from 0
abbrev pub tenant_place : List (List ℕ) → List ℕ → Option ℕ
tenant_place [] name = None
tenant_place (n ∷ ns) name = if bytes_eq n name then Some 0 else option_map suc (tenant_place ns name)

-- no tenant can be made of this name: it is there, or 64 are
abbrev pub is_barred : List (List ℕ) → List ℕ → Bool
is_barred names name = nat_le 64 (length names) || is_some (tenant_place names name)

-- a tenant is made behind the others, or not
abbrev pub AddsTenant : List (List ℕ) → List ℕ → Bool → List (List ℕ) → Type 0
AddsTenant old name false new = (is_barred old name ≡ true) × (new ≡ old)
AddsTenant old name true new = (is_barred old name ≡ false) × (new ≡ old ++ name ∷ [])

-- What a line asks of a world, and what it is answered.

-- the event, where all tenants that it names are there
abbrev pub event_of : List (List ℕ) → Line → Option Event
event_of names (line.Admit t request) = option_map (λ k. event.Admit k request) (tenant_place names t.now)
event_of names (line.Open t) = option_map event.Open (tenant_place names t.now)
event_of names (line.Start w t pick) = option_map (λ k. event.Start w k pick) (tenant_place names t.now)
event_of names (line.Finish w) = Some (event.Finish w)
event_of names (line.Reply t) = option_map event.Reply (tenant_place names t.now)
event_of names (line.Abort t) = option_map event.Abort (tenant_place names t.now)
event_of names other = None

-- what is answered where the event did this and gave no reply
abbrev pub answer_of : Line → Stepped → Answer
answer_of (line.Admit t request) stepped.Asked = answer.Asked t
answer_of (line.Admit t request) stepped.Full = answer.Full t
answer_of (line.Open t) stepped.Job = answer.Job t
answer_of (line.Start w t pick) (stepped.Started task) = answer.Started w t task
answer_of (line.Finish w) (stepped.Finished units) = answer.Finished w units
answer_of (line.Finish w) stepped.FinishedFailed = answer.FinishedFailed w
answer_of (line.Abort t) stepped.Aborted = answer.Aborted t
answer_of line stepped = answer.NotNow

-- what is told of the event
abbrev pub saying_of : Line → Event → Stepped → Saying
saying_of (line.Open t) (event.Open k) stepped.Answered = saying.Reply t k
saying_of (line.Reply t) (event.Reply k) stepped.Replied = saying.Reply t k
saying_of line event stepped = saying.Answer (answer_of line stepped)

-- What a line does to the tenants and their world, and the text that it is answered.

-- ---- the tenants, and their world

-- nobody is there
abbrev pub empty_play : Play
empty_play = record { names = []; world = None }

-- a tenant with the usual limits and no array, who asked nothing
abbrev pub newcomer : List ℕ → Account
newcomer name = new_account (new_register name usual_limits [])

-- the world of these tenants where nothing has happened
abbrev pub opening_scene : List (List ℕ) → Scene
opening_scene names = record { accounts = map newcomer names; floor = new_floor (length names); hands = replicate 16 None }

-- the world, which begins now where it hasn't before
abbrev pub world_of : Play → Scene
world_of p = unwrap_or p.world (opening_scene p.names)

-- ---- `tenant T`

-- no tenant can be made of this name: the world has begun, or the name is barred
abbrev pub is_late : Play → List ℕ → Bool
is_late p name = is_some p.world || is_barred p.names name

abbrev pub tenant_made : Play → List ℕ → Play
tenant_made p name = record { names = p.names ++ name ∷ []; world = None }

-- ---- replies

-- the replies that a tenant was given
abbrev pub replies_at : Scene → ℕ → List (ℕ × Told)
replies_at s t = unwrap_or (option_map replies_of (slice_get s.accounts t)) []

-- how many, as far as a `usize` can tell
abbrev pub count_at : Scene → ℕ → ℕ
count_at s t = min (length (replies_at s t)) (2 ^ 64 - 1)

-- a line for each reply, behind the tenant's name
abbrev pub reply_lines : List ℕ → List (ℕ × Told) → List ℕ
reply_lines name [] = []
reply_lines name (r ∷ rs) = (name ++ codes " " ++ reply_text r.0 r.1 ++ codes "\n") ++ reply_lines name rs

-- the reply that the tenant was given last
abbrev pub reply_given : List ℕ → ℕ → Scene → List ℕ
reply_given name t s = reply_lines name (drop (count_at s t - 1) (replies_at s t))

-- the replies that the tenants were given since, one tenant after another; the first tenant has this number
abbrev pub news : List (List ℕ) → ℕ → Scene → Scene → List ℕ
news [] t old new = []
news (name ∷ names) t old new = reply_lines name (drop (count_at old t) (replies_at new t)) ++ news names (t + 1) old new

-- ---- lines

-- what is told, as text
abbrev pub said_text : Saying → Scene → List ℕ
said_text (saying.Reply name t) s = reply_given name.now t s
said_text (saying.Answer a) s = answer_text a

-- an event, where the line asks for one
abbrev pub Happens : Line → Option Event → Scene → List ℕ → Scene → Type 0
Happens line None old text new = (text ≡ answer_text answer.BadLine) × (new ≡ old)
Happens line (Some e) old text new = (stepped : Stepped) × Steps old e stepped new × (text ≡ said_text (saying_of line e stepped) new)

abbrev pub usage_text : Line → Option ℕ → Scene → List ℕ
usage_text (line.Usage name) (Some t) s = answer_text (answer.Usage name (tenant_units s.floor t) (total_of s.floor))
usage_text line t s = answer_text answer.BadLine

-- a line over a world
abbrev pub PlaysIn : List (List ℕ) → Line → Scene → List ℕ → Scene → Type 0
PlaysIn names line.Drain old text new =
    Drains old new × AllAnswered new × (text ≡ news names 0 old new ++ answer_text answer.Drained)
PlaysIn names (line.Usage name) old text new = (text ≡ usage_text (line.Usage name) (tenant_place names name.now) old) × (new ≡ old)
PlaysIn names line old text new = Happens line (event_of names line) old text new

-- the world has begun, and the line went over it
pub record PlaysOn (old : Play) (line : Line) (text : List ℕ) (new : Play) : Type 0 where
  pub world : Scene
  pub plays : PlaysIn old.names line (world_of old) text world
  pub new_is : new ≡ record { names = old.names; world = Some world }

abbrev pub Plays : Play → Line → List ℕ → Play → Type 0
Plays old (line.Tenant name) text new =
    (text ≡ (if is_late old name.now then answer_text answer.BadLine else answer_text (answer.Tenant name)))
    × (new ≡ (if is_late old name.now then old else tenant_made old name.now))
Plays old line.NoTenant text new = (text ≡ answer_text answer.BadLine) × (new ≡ old)
Plays old line text new = PlaysOn old line text new

-- the bytes of a line, without its LF
pub record PlaysLine (old : Play) (bytes text : List ℕ) (new : Play) : Type 0 where
  pub line : Line
  pub read : said_of line ≡ said_in bytes
  pub plays : Plays old line text new
