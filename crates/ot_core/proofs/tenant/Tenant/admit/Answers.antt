use Rattle.std.proofs.Common.{◌≡◌, ◌<◌, ◌≤◌, ◌+◌, ◌++◌, ◌∷◌, [], refl, sym, ap, ◌∙◌, subst, map, length, arith, true}
use Rattle.std.specs.Prelude.{if◌then◌else◌}
use Rattle.std.proofs.lemmas.List.{length-map, map-append}
use Rattle.ot_store.specs.declared.limits.Limits.{Limits}
use Rattle.ot_book.specs.Books.{max_number}
use Rattle.ot_book.specs.Room.{takes}
use Rattle.ot_core.specs.Accounts.{Account, IsSoundAccount, room_asked, LacksRoom, HasRoomFor}
use Rattle.ot_core.specs.AccountView.{account_of}
use Rattle.ot_core.proofs.AccountLemmas.{sound-admitted, full-past, test-takes, entries-asked, entries-admitted}
use Rattle.ot_core.proofs.tenant.Tenant.admit.Goals as goal

pub returns-then-len-ge-MAX_LINES-clause-admitted : goal.returns-then-len-ge-MAX_LINES-clause-admitted
returns-then-len-ge-MAX_LINES-clause-admitted c =
    let a = account_of c.self.inside in
    let past : max_number ≤ length a.asked = omega (arith, c.if-len-ge-MAX_LINES.true, c.len.ensures, c.self.inside.asked.ok.0, length-map c.self.inside.asked.items (λ l. l.items)) in
    (subst (λ b. LacksRoom b c.args.line.now) c.self.view_is (full-past a c.args.line.now past), refl)

pub returns-then-not-has_room-clause-admitted : goal.returns-then-not-has_room-clause-admitted
returns-then-not-has_room-clause-admitted c =
    let a = account_of c.self.inside in
    let left : length a.asked < max_number = omega (arith, c.if-len-ge-MAX_LINES.false, c.len.ensures, c.self.inside.asked.ok.0, length-map c.self.inside.asked.items (λ l. l.items)) in
    let test = test-takes a c.args.line.now _ _ _ c.has_room.result left c.has_room.ensures (ap (λ (l : Limits). l.log) c.limits.ensures) c.self.invariant.since c.in_ok-checkpoint.ensures in
    (subst (λ b. LacksRoom b c.args.line.now) c.self.view_is (sym test ∙ c.if-not-has_room.true), refl)

left_at : (c : goal.After-self-1) → length (account_of c.self.inside).asked < max_number
left_at c = omega (arith, c.if-len-ge-MAX_LINES.false, c.len.ensures, c.self.inside.asked.ok.0, length-map c.self.inside.asked.items (λ l. l.items))

room_at : (c : goal.After-self-1) → takes (room_asked (account_of c.self.inside)) c.args.line.now ≡ true
room_at c =
    sym (test-takes (account_of c.self.inside) c.args.line.now _ _ _ c.has_room.result (left_at c) c.has_room.ensures (ap (λ (l : Limits). l.log) c.limits.ensures) c.self.invariant.since c.in_ok-checkpoint.ensures)
    ∙ c.if-not-has_room.false

asked_at : (c : goal.After-self-1) → map (λ l. l.items) c.push.new.self.items ≡ (account_of c.self.inside).asked ++ c.args.line.now ∷ []
asked_at c =
    let a = account_of c.self.inside in
    ap (map (λ l. l.items)) c.in_ok-push.ensures.items ∙ map-append (λ l. l.items) c.self.inside.asked.items (c.in_ok-line.line ∷ [])
    ∙ ap (λ l. a.asked ++ l ∷ []) c.in_ok-line.ensures.items

pub invariant_of-self-2 : goal.invariant_of-self-2
invariant_of-self-2 c =
    let a = account_of c.self.inside in record {
      sound = subst (λ ls. let b : Account = record a { asked = ls } in IsSoundAccount b) (sym (asked_at c)) (sound-admitted a c.args.line.now c.self.invariant.sound (room_at c));
      since =
          c.next_since-self-inside.ensures
          ∙ ap (λ n. if c.in_ok-checkpoint.checkpoint then 1 else n + 1) c.self.invariant.since
          ∙ ap (λ t. if t then 1 else (room_asked a).entries + 1) c.in_ok-checkpoint.ensures
          ∙ sym (entries-admitted a c.args.line.now)
          ∙ ap (λ ls. (room_asked (record a { asked = ls })).entries) (sym (asked_at c));
    }

pub next_since-self-inside-requires : goal.next_since-self-inside-requires
next_since-self-inside-requires c =
    let a = account_of c.self.inside in
    omega (arith, c.if-len-ge-MAX_LINES.false, c.len.ensures, c.self.inside.asked.ok.0, length-map c.self.inside.asked.items (λ l. l.items), c.self.invariant.since, entries-asked a)

pub returns-clause-admitted : goal.returns-clause-admitted
returns-clause-admitted c =
    let a = account_of c.self.inside in (
      subst (λ b. HasRoomFor b c.args.line.now) c.self.view_is (room_at c),
      ap (λ ls. let b : Account = record a { asked = ls } in b) (asked_at c) ∙ ap (λ (b : Account). record b { asked = b.asked ++ c.args.line.now ∷ [] }) c.self.view_is,
    )

pub returns-clause-sound : goal.returns-clause-sound
returns-clause-sound c = (invariant_of-self-2 c).sound
