use Rattle.std.proofs.Common.{◌≡◌, take, drop}
use Rattle.serde_json.specs.View.{items_view}
use Rattle.ot_c_judge.specs.TextOrder.{count_all}
use Rattle.ot_c_judge.proofs.text_order.+behind.Given as goal

abbrev pub invariant-behind_all-loop-statement : goal.invariant-behind_all-loop-statement
invariant-behind_all-loop-statement l = l.left ≡ drop (count_all (items_view (take l.statement-index l.items))) l.told
