-- Words of a line: what stands between two spaces.
use Rattle.std.specs.Prelude.{ℕ, bytes_eq, codes, if◌then◌else◌, List, Option, Some, None, ◌+◌, ◌*◌, ◌-◌, ◌^◌, ◌==◌, ◌&&◌, nat_le, nat_lt, [], ◌∷◌}
use Rattle.ot_program.specs.Meanings.{is_name, is_digit}
use Rattle.ot_sim.specs.declared.line.Line.{Line}
use Rattle.ot_sim.specs.declared.line.Line.TheVariants as line

-- the bytes before the first space
abbrev pub word_before : List ℕ → List ℕ
word_before [] = []
word_before (b ∷ bs) = if b == 32 then [] else b ∷ word_before bs

-- the bytes behind the first space, where there is one
abbrev pub behind_space : List ℕ → Option (List ℕ)
behind_space [] = None
behind_space (b ∷ bs) = if b == 32 then Some bs else behind_space bs

-- what the digits write behind those of n: it is below 2^32
abbrev pub digits_behind : ℕ → List ℕ → Option ℕ
digits_behind n [] = Some n
digits_behind n (b ∷ bs) =
    let next : ℕ = 10 * n + (b - 48) in
    if is_digit b && nat_lt next (2 ^ 32) then digits_behind next bs else None

-- a number in decimal, without leading zeros
abbrev pub number_in_word : List ℕ → Option ℕ
number_in_word [] = None
number_in_word (b ∷ []) = digits_behind 0 (b ∷ [])
number_in_word (b ∷ more ∷ bs) = if b == 48 then None else digits_behind 0 (b ∷ more ∷ bs)

-- the number of a worker, 1 to 16
abbrev pub worker_in_range : Option ℕ → Option ℕ
worker_in_range None = None
worker_in_range (Some w) = if nat_le 1 w && nat_le w 16 then Some w else None

abbrev pub worker_of : List ℕ → Option ℕ
worker_of bytes = worker_in_range (number_in_word bytes)

-- What a line asks.

-- tenants by name, requests as bytes, workers and picks as numbers
pub data Said : Type 0 where
  Tenant : List ℕ → Said
  NoTenant : Said
  Admit : List ℕ → List ℕ → Said
  Open : List ℕ → Said
  Start : ℕ → List ℕ → ℕ → Said
  Finish : ℕ → Said
  Reply : List ℕ → Said
  Abort : List ℕ → Said
  Drain : Said
  Usage : List ℕ → Said
  Bad : Said

abbrev pub said_of : Line → Said
said_of (line.Tenant t) = Tenant t.now
said_of line.NoTenant = NoTenant
said_of (line.Admit t request) = Admit t.now request.now
said_of (line.Open t) = Open t.now
said_of (line.Start w t pick) = Start w t.now pick
said_of (line.Finish w) = Finish w
said_of (line.Reply t) = Reply t.now
said_of (line.Abort t) = Abort t.now
said_of line.Drain = Drain
said_of (line.Usage t) = Usage t.now
said_of line.Bad = Bad

-- `tenant T`
abbrev pub tenant_line : List ℕ → Said
tenant_line rest = if is_name rest then Tenant rest else NoTenant

-- a word and `T`
abbrev pub tenant_said : (List ℕ → Said) → List ℕ → Said
tenant_said asks rest = if is_name rest then asks rest else Bad

-- `admit T REQUEST`: the request is all that stands behind the second space
abbrev pub admit_of : List ℕ → Option (List ℕ) → Said
admit_of t None = Bad
admit_of t (Some request) = if is_name t then Admit t request else Bad

abbrev pub admit_line : List ℕ → Said
admit_line rest = admit_of (word_before rest) (behind_space rest)

-- `start W T PICK`
abbrev pub start_said : Option ℕ → List ℕ → Option ℕ → Said
start_said (Some w) t (Some pick) = if is_name t then Start w t pick else Bad
start_said w t pick = Bad

abbrev pub start_behind : List ℕ → List ℕ → Option (List ℕ) → Said
start_behind w t None = Bad
start_behind w t (Some pick) = start_said (worker_of w) t (number_in_word pick)

abbrev pub start_words : List ℕ → Option (List ℕ) → Said
start_words w None = Bad
start_words w (Some rest) = start_behind w (word_before rest) (behind_space rest)

abbrev pub start_line : List ℕ → Said
start_line rest = start_words (word_before rest) (behind_space rest)

-- `finish W`
abbrev pub finish_of : Option ℕ → Said
finish_of None = Bad
finish_of (Some w) = Finish w

abbrev pub finish_line : List ℕ → Said
finish_line rest = finish_of (worker_of rest)

-- one word alone
abbrev pub lone_word : List ℕ → Said
lone_word w = if bytes_eq w (codes "drain") then Drain else (if bytes_eq w (codes "tenant") then NoTenant else Bad)

-- a word, and what stands behind its space
abbrev pub by_word : List ℕ → List ℕ → Said
by_word w rest =
    if bytes_eq w (codes "tenant") then tenant_line rest
    else (if bytes_eq w (codes "admit") then admit_line rest
    else (if bytes_eq w (codes "open") then tenant_said Open rest
    else (if bytes_eq w (codes "start") then start_line rest
    else (if bytes_eq w (codes "finish") then finish_line rest
    else (if bytes_eq w (codes "reply") then tenant_said Reply rest
    else (if bytes_eq w (codes "abort") then tenant_said Abort rest
    else (if bytes_eq w (codes "usage") then tenant_said Usage rest
    else Bad)))))))

abbrev pub by_words : List ℕ → Option (List ℕ) → Said
by_words w None = lone_word w
by_words w (Some rest) = by_word w rest

-- the bytes of a line, without its LF
abbrev pub said_in : List ℕ → Said
said_in bytes = by_words (word_before bytes) (behind_space bytes)
