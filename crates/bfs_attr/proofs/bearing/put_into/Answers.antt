use Rattle.std.proofs.Common.{◌∙◌, List, ℕ, sym, subst}
use Rattle.std.specs.Prelude.{IsSome}
use Rattle.std.proofs.lemmas.Bool.{true≢false}
use Rattle.bfs_smalldata.specs.Items.{items_of}
use Rattle.bfs_stream.specs.Told.{contents}
use Rattle.bfs_attr.proofs.Tops.{area_is}
use Rattle.bfs_attr.proofs.bearing.put_into.Goals as goal

pub returns-then-not-is_list-clause-put : goal.returns-then-not-is_list-clause-put
returns-then-not-is_list-clause-put g c m told some area =
    let e = c.deref.ensures.value ∙ c.in-Ok.ensures.read m told some in
    absurd (true≢false (sym (c.is_list.ensures.none (subst (λ (l : List ℕ). IsSome (items_of l)) (sym (area_is c.deref.result.now (contents m c.args.inode) e)) area)) ∙ c.if-not-is_list.true))

pub put_small-requires-clause-area : goal.put_small-requires-clause-area
put_small-requires-clause-area g c =
    subst (λ (l : List ℕ). IsSome (items_of l)) (area_is c.deref.result.now c.deref_mut.result.now (c.deref.ensures.value ∙ sym c.deref_mut.ensures.value)) (c.is_list.ensures.some c.if-not-is_list.false)
