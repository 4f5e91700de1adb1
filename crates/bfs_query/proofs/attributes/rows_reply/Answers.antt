use Rattle.std.proofs.Common.{◌≡◌, ◌∙◌, List, sym, ap, subst}
use Rattle.std.specs.FinMap.{entries}
use Rattle.bfs_base.specs.Keys.{text_cmp}
use Rattle.bfs_tree.specs.Answers.{rows_of_attributes}
use Rattle.bfs_tree.specs.Orders.{in_order}
use Rattle.bfs_tree.specs.Steps.{Reads}
use Rattle.bfs_tree.specs.Trees.{Attributes}
use Rattle.bfs_tree.specs.declared.call.Call.TheVariants as calls
use Rattle.bfs_tree.specs.declared.reply.Reply.TheVariants as replies
use Rattle.bfs_tree.specs.declared.rows.AttributeRow.{AttributeRow}
use Rattle.bfs_look.proofs.Replying.{attributes_found}
use Rattle.bfs_query.proofs.Ordered.{rows_ordered}
use Rattle.bfs_query.proofs.attributes.rows_reply.Goals as goal

pub returns : goal.returns
returns c st id n es is apart are rows =
    let e : c.new.result ≡ rows_of_attributes (entries n.attributes) =
    c.new.ensures ∙ c.in_ok-sort_rows.ensures ∙ ap (in_order (λ (a b : AttributeRow). text_cmp a.name b.name)) (c.into_vec-rows.ensures ∙ rows) ∙ rows_ordered es apart
    ∙ ap (λ (m : Attributes). rows_of_attributes (entries m)) (sym are) in
    subst (λ (l : List AttributeRow). Reads (calls.AttrList id) st (replies.Attrs l)) (sym e) (attributes_found st id n is)
