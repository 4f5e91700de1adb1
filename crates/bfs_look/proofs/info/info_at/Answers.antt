use Rattle.std.proofs.Common.{◌∙◌, ap, sym, subst, List, [], Option, ℕ}
use Rattle.std.specs.Prelude.{IsSome, unwrap_or}
use Rattle.bfs_look.proofs.Known.{node_told, sized_at}
use Rattle.bfs_look.proofs.info.info_at.Goals as goal

pub returns-in-Ok-described-clause-info : goal.returns-in-Ok-described-clause-info
returns-in-Ok-described-clause-info g c v m tree lists n told ready is =
    let s = c.args.site.sup in
    let sized = sized_at s.block_size (g.B.Blocks.size c.args.under.now) (g.B.Blocks.told c.args.under.now) m c.requires.size told (g.met.B.Blocks.sized c.args.under.now) in
    c.in-Ok-described.ensures.info v m tree lists n sized (c.deref.ensures.value ∙ c.in-Ok.ensures.read m told (node_told s v m tree lists ready c.args.id n is)) ready is

pub returns-clause-info : goal.returns-clause-info
returns-clause-info g c v m tree lists n told ready is =
    let s = c.args.site.sup in
    let sized = sized_at s.block_size (g.B.Blocks.size c.args.under.now) (g.B.Blocks.told c.args.under.now) m c.requires.size told (g.met.B.Blocks.sized c.args.under.now) in
    c.in-Err-described.ensures.info v m tree lists n sized (c.deref.ensures.value ∙ c.in-Ok.ensures.read m told (node_told s v m tree lists ready c.args.id n is)) ready is

pub returns-in-Ok-described-clause-rests : goal.returns-in-Ok-described-clause-rests
returns-in-Ok-described-clause-rests g c v m w tree lists n told sized same ready is =
    let s = c.args.site.sup in
    let there = subst (λ (o : Option (List ℕ)). IsSome o) (sym same) (node_told s v w tree lists ready c.args.id n is) in
    c.in-Ok-described.ensures.info v w tree lists n sized (c.deref.ensures.value ∙ c.in-Ok.ensures.read m told there ∙ ap (λ (o : Option (List ℕ)). unwrap_or o []) same) ready is

pub returns-clause-rests : goal.returns-clause-rests
returns-clause-rests g c v m w tree lists n told sized same ready is =
    let s = c.args.site.sup in
    let there = subst (λ (o : Option (List ℕ)). IsSome o) (sym same) (node_told s v w tree lists ready c.args.id n is) in
    c.in-Err-described.ensures.info v w tree lists n sized (c.deref.ensures.value ∙ c.in-Ok.ensures.read m told there ∙ ap (λ (o : Option (List ℕ)). unwrap_or o []) same) ready is

pub returns-clause-cause : goal.returns-clause-cause
returns-clause-cause g c = c.in-Err-described.ensures.cause (g.B.Blocks.counts c.args.under.now) (g.B.Blocks.counts c.read_block.new.under)
