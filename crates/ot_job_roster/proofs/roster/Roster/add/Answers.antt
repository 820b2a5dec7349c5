use Rattle.std.proofs.Common.{◌≡◌, ◌≢◌, ◌<◌, ◌+◌, ◌∙◌, ◌++◌, ◌∷◌, [], ℕ, List, length, get_or, map, set, ap, sym, subst, arith, vec_capacity}
use Rattle.std.proofs.Math.ListN.{get_or-map}
use Rattle.std.proofs.lemmas.List.{get_or_default, length-map, map-append, map-set}
use Rattle.ot_job_roster.specs.Members.{Kept, Tells, told_put, with_member}
use Rattle.ot_job_roster.specs.Listed.{has}
use Rattle.ot_job_roster.specs.RosterView.{kept_of}
use Rattle.ot_job_roster.proofs.TellsLemmas.{tells-more}
use Rattle.ot_job_roster.proofs.roster.Roster.add.Goals as goal

pub returns : goal.returns
returns c = λ n s test old.
    let t = subst (Tells n s test) (sym c.self.view_is) old in
    let items = c.self.inside.children.items in
    let p = c.args.parent in
    let v = c.index_mut.result.now in
    let numbers : List (List ℕ) = map (λ v. v.items) items in
    let long : length items ≡ n = omega (arith, length-map items (λ v. v.items), t.numbered.long) in
    let number : c.len-number.result ≡ n = omega (arith, c.len-number.ensures, c.self.inside.children.ok.0, long) in
    let within : p < n = omega (arith, c.requires.known, old.numbered.long) in
    let row : v.items ≡ get_or numbers p [] =
    ap (λ v. v.items) c.index_mut.ensures.value ∙ sym (get_or-map (λ v. v.items) items p v) ∙ get_or_default numbers p v.items [] (omega (arith, within, t.numbered.long)) in
    let made : map (λ v. v.items) c.push_reserved-2.new.self.items ≡ set numbers p (get_or numbers p [] ++ n ∷ []) ++ [] ∷ [] =
    ap (map (λ v. v.items)) c.push_reserved-2.ensures.items ∙ map-append (λ v. v.items) (set items p c.push_reserved.new.self) (c.new.result ∷ [])
    ∙ ap (λ l. map (λ v. v.items) (set items p c.push_reserved.new.self) ++ l ∷ []) c.new.ensures.items
    ∙ ap (λ ns. ns ++ [] ∷ []) (map-set (λ v. v.items) items p c.push_reserved.new.self ∙ ap (set numbers p) (c.push_reserved.ensures.items ∙ ap (λ l. l ++ c.len-number.result ∷ []) row ∙ ap (λ k. get_or numbers p [] ++ k ∷ []) number)) in
    let kept : List (List ℕ) → Kept = λ ns. record {
      numbers = ns;
      listed = c.set.new.self.listed;
      out = c.self.inside.out;
      unended = c.self.inside.unended + 1;
      room = c.set.new.self.room;
      places = vec_capacity c.push_reserved-2.new.self;
      rooms = map vec_capacity c.push_reserved-2.new.self.items;
    } in
    let set_now = subst (λ k. (has k c.set.new.self.listed ≡ c.args.free) × ((j : ℕ) → j ≢ k → has j c.set.new.self.listed ≡ has j c.self.inside.free.listed)) number (c.set.ensures.noted, c.set.ensures.others) in
    subst (λ ns. Tells (n + 1) (with_member n p s) (told_put test n c.args.free) (kept ns)) (sym made)
    (tells-more n s test (kept_of c.self.inside) t p within c.set.new.self.room c.args.free c.set.new.self.listed (vec_capacity c.push_reserved-2.new.self) (map vec_capacity c.push_reserved-2.new.self.items)
    (omega (arith, c.requires.room.list, ap (λ k. k.room) c.self.view_is, old.numbered.long, c.set.ensures.room)) c.set.ensures.ordered set_now.0 set_now.1)
