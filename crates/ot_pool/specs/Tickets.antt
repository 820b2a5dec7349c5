-- How jobs are numbered, and the tickets by which those who brought them take them out.
use Rattle.std.specs.Prelude.{◌≡◌, ◌+◌, ◌-◌, ◌<◌, ◌^◌, ℕ, List, nat_lt, if◌then◌else◌, slice_index_or, slice_set}
use Rattle.ot_pool.specs.declared.tickets.Ticket.{Ticket}

-- the number of the tenant's newest job: a tenant's jobs are numbered from 1
abbrev pub ticket_number : List ℕ → ℕ → ℕ
ticket_number numbers t = slice_index_or numbers t 0

-- The last number, which no ticket has: all jobs of a tenant that come once it is reached have it.
abbrev pub last_number : ℕ
last_number = 2 ^ 64 - 1

-- the number that comes next
abbrev pub after : ℕ → ℕ
after n = if nat_lt n last_number then n + 1 else n

-- with one job more of the tenant
abbrev pub one_ticket_more : List ℕ → ℕ → List ℕ
one_ticket_more numbers t = slice_set numbers t (after (ticket_number numbers t))

-- there is a ticket for the tenant's next job
abbrev pub HasTicket : List ℕ → ℕ → Type 0
HasTicket numbers t = ticket_number numbers t + 1 < last_number

-- that ticket
abbrev pub next_ticket : List ℕ → ℕ → Ticket
next_ticket numbers t = record { tenant = t; number = ticket_number numbers t + 1 }

-- the ticket is that of its tenant's newest job
abbrev pub IsNewest : List ℕ → Ticket → Type 0
IsNewest numbers k = ticket_number numbers k.tenant ≡ k.number
