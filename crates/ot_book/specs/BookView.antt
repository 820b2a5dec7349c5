-- What the fields of a book stand for, and what holds of them.
use Rattle.std.specs.Prelude.{◌≡◌, ℕ, ◌+◌, ◌*◌, ◌^◌, ◌-◌, ◌≤◌, ◌<◌, List, map, length, option_map, string_bytes, vec_len, vec_capacity}
use Rattle.std.specs.Option.{ForSome}
use Rattle.ot_model.specs.Programs.{Expanded}
use Rattle.ot_book.specs.Answers.{Told, Runs}
use Rattle.ot_book.specs.ReplyView.{told_of}
use Rattle.ot_book.specs.Books.{Register, IsRight, next_step}
use Rattle.ot_book.specs.declared.book.Entry.{Entry}
use Rattle.ot_book.specs.declared.book.Pending.{Pending}
use Rattle.ot_book.specs.declared.book.Book.TheInside.{Inside}

abbrev pub entries_of : List Entry → List (List ℕ × Told)
entries_of entries = map (λ e. (e.line.items, told_of e.told)) entries

abbrev pub register_of : Inside → Register
register_of b = record {
  name = string_bytes b.name;
  limits = b.limits;
  base = b.base;
  store = b.store;
  log = entries_of b.log.items;
  pending = option_map (λ p. p.line.items) b.pending;
  used = b.used;
  first = b.first;
  base_used = b.base_used;
}

-- there is room for one entry more, and each list of the reply is as long as its section
pub record HasRoomForReply (b : Inside) (p : Pending) : Type 0 where
  pub place : vec_len b.log < vec_capacity b.log
  pub below : b.first + vec_len b.log < 2 ^ 32
  pub lists : (program : Expanded) → next_step (register_of b) p.line.items ≡ Runs program →
      map (λ l. length l.items) p.shows.items ≡ map (λ s. s.len) program.shows

pub record IsBook (b : Inside) : Type 0 where
  pub right : IsRight (register_of b)
  pub one : 1 ≤ b.first
  pub few : b.first + vec_len b.log ≤ 2 ^ 32
  pub used : b.used ≤ (2 ^ 32 - 1) * (b.first + vec_len b.log)
  pub room : ForSome b.pending (HasRoomForReply b)
