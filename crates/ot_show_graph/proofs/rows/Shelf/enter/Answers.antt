use Rattle.std.proofs.Common.{◌/◌, ◌%◌, ◌∙◌, set, sym, ap, inl, inr}
use Rattle.std.specs.Prelude.{slice_get, unwrap_or, option_map}
use Rattle.std.proofs.lemmas.Bool.{cases_eq}
use Rattle.std.proofs.lemmas.Result.{on_ok_weaker}
use Rattle.ot_show_graph.specs.declared.rows.Page.{Page}
use Rattle.ot_show_graph.specs.Written.{entry_on, entered_by, no_child}
use Rattle.ot_show_graph.proofs.RowLemmas.{place_read, get_here, said_here, said_other, place_apart}
use Rattle.ot_show_graph.proofs.rows.Shelf.enter.Goals as goal

pub returns-clause-there : goal.returns-clause-there
returns-clause-there c =
    let pages = c.reach.new.self.pages.items in
    let index = c.args.index in
    let page = c.index_mut.result.now in
    let there = c.in_ok-reach.ensures.there in
    let said = λ (p : Page). entry_on p (index % 32) in
    on_ok_weaker c.enter.result
    (λ e.
    said_here said (set pages (index / 32) c.enter.new.self) (index / 32) c.enter.new.self (get_here pages (index / 32) c.enter.new.self there) ∙ e
    ∙ ap (entered_by c.args.child c.args.mode)
    (sym (said_here said pages (index / 32) page (place_read pages (index / 32) page there c.index_mut.ensures.value)) ∙ c.in_ok-reach.ensures.same index))
    c.enter.ensures.there

pub returns-clause-others : goal.returns-clause-others
returns-clause-others c =
    let pages = c.reach.new.self.pages.items in
    let index = c.args.index in
    let at = index / 32 in
    let page = c.index_mut.result.now in
    let new = c.enter.new.self in
    let there = c.in_ok-reach.ensures.there in
    on_ok_weaker c.enter.result
    (λ e i apart.
    let said = λ (p : Page). entry_on p (i % 32) in
    elim (cases_eq (i / 32) at) [
      | inl same ↦
          ap (λ a. unwrap_or (option_map said (slice_get (set pages at new) a)) no_child) same
          ∙ said_here said (set pages at new) at new (get_here pages at new there) ∙ e (i % 32) (place_apart i index same apart)
          ∙ sym (said_here said pages at page (place_read pages at page there c.index_mut.ensures.value))
          ∙ sym (ap (λ a. unwrap_or (option_map said (slice_get pages a)) no_child) same)
          ∙ c.in_ok-reach.ensures.same i
      | inr other ↦ said_other said pages at (i / 32) new other ∙ c.in_ok-reach.ensures.same i
    ]) c.enter.ensures.others
