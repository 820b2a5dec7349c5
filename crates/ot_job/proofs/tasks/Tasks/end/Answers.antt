use Rattle.std.proofs.Common.{◌≡◌, ◌∙◌, List, false, length, refl, ap, sym, subst, arith}
use Rattle.ot_job.proofs.Common.{updated, Region, over, HasPiece, at, is_claimable, members, AreKept}
use Rattle.ot_job.proofs.KeepingLemmas.{kept-still}
use Rattle.ot_job.proofs.ViewLemmas.{set-changed}
use Rattle.ot_job.proofs.tasks.Tasks.end.Goals.{After-end}
use Rattle.ot_job.proofs.tasks.Tasks.end.Goals as goal

alive : (c : After-end) → HasPiece c.self.inside.tasks.items c.args.i × ((at c.self.inside.tasks.items c.args.i).ended ≡ false)
alive c = subst (λ (l : List Region). HasPiece l c.args.i × ((at l c.args.i).ended ≡ false)) (sym c.self.view_is) (c.requires.piece, c.requires.alive)

pub index_mut-requires : goal.index_mut-requires
index_mut-requires c = omega (arith, c.requires.piece.known, ap length c.self.view_is, c.self.inside.tasks.ok.0)

pub end-requires-2 : goal.end-requires-2
end-requires-2 c =
    let (piece, goes) = alive (goal.at.end-requires-2 c).After-end in
    (c.args.i, record { count = _; members = _; test = _; tells = c.self.invariant; known = piece.known; holds = goes })

pub invariant_of-self : goal.invariant_of-self
invariant_of-self c =
    let rs = c.self.inside.tasks.items in
    let i = c.args.i in
    let (piece, goes) = alive (goal.at.invariant_of-self c).After-end in
    let now = set-changed rs i c.index_mut.result.now c.end.new.self over c.index_mut.ensures.value c.end.ensures in
    subst (λ (l : List Region). AreKept l c.end-2.new.self) (sym now)
    (kept-still over (λ r. refl) rs i piece.known c.end-2.new.self piece.out piece.out (c.end-2.ensures (length rs) (members rs) (is_claimable rs) i c.self.invariant piece.known goes))

pub returns : goal.returns
returns c =
    set-changed c.self.inside.tasks.items c.args.i c.index_mut.result.now c.end.new.self over c.index_mut.ensures.value c.end.ensures
    ∙ ap (λ (l : List Region). updated l c.args.i over) c.self.view_is
