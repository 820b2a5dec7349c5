use Rattle.std.proofs.Common.{[], ◌++◌, ap, sym, cond, ◌∙◌}
use Rattle.std.specs.Prelude.{replicate}
use Rattle.std.specs.Option.{option_to_list}
use Rattle.ot_check.proofs.Cited.{on_ok}
use Rattle.ot_depend.specs.Siblings.{times}
use Rattle.ot_show_graph.specs.Written.{cells_with}
use Rattle.ot_show_graph.proofs.LabelLemmas.{put_both}
use Rattle.ot_show_graph.proofs.rows.Row.put.Goals as goal

pub returns-then-is_write : goal.returns-then-is_write
returns-then-is_write c =
    on_ok c.put_all.result _ _
    (λ all e.
    let self = c.args.self.now in
    let cell = c.args.used.cell in
    put_both cell (option_to_list self.writer) self.users.items e (cells_with c.args.met.now e) (cells_with c.put_writer.new.met e) (cells_with c.put_all.new.met e)
    (c.in_ok-put_writer.ensures e) (all e ∙ ap (λ xs. cells_with c.put_writer.new.met e ++ replicate (times e xs) cell) c.deref.ensures.value)
    ∙ ap (λ w. cells_with c.args.met.now e ++ replicate (times e (option_to_list self.writer ++ cond w self.users.items [])) cell) (sym (sym c.is_write.ensures ∙ c.if-is_write.true)))
    c.put_all.ensures
