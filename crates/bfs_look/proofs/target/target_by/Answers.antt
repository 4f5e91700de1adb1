use Rattle.std.proofs.Common.{◌≡◌, ◌∙◌, ℕ, List, true, false, sym, ap}
use Rattle.bfs_inode.specs.Inode.{stream_at}
use Rattle.bfs_super.specs.Conditions.{natural}
use Rattle.bfs_stream.specs.Told.{contents}
use Rattle.bfs_look.specs.Infos.{is_short_in, short_target}
use Rattle.bfs_look.proofs.Linked.{short_is}
use Rattle.bfs_look.proofs.target.target_by.Goals as goal

pub returns-in-Ok-clause-target : goal.returns-in-Ok-clause-target
returns-in-Ok-clause-target g c v m tree lists n told read ready is link =
    let short : is_short_in (contents m c.args.id) ≡ true = ap is_short_in (sym read) ∙ sym c.is_short_in.ensures ∙ c.if-is_short_in.true in
    c.in-Ok.ensures.target ∙ ap short_target read ∙ short_is c.args.site.sup v m tree lists ready c.args.id n is link short

pub returns-in-Ok-target_behind-clause-target : goal.returns-in-Ok-target_behind-clause-target
returns-in-Ok-target_behind-clause-target g c v m tree lists n told read ready is link =
    let long : is_short_in (contents m c.args.id) ≡ false = ap is_short_in (sym read) ∙ sym c.is_short_in.ensures ∙ c.if-is_short_in.false in
    c.in-Ok-target_behind.ensures.target v m tree lists n told ready is link long (c.size_in-size.ensures ∙ ap (λ (b : List ℕ). natural (stream_at b).size) read)

pub returns-in-Err-target_behind-clause-target : goal.returns-in-Err-target_behind-clause-target
returns-in-Err-target_behind-clause-target g c v m tree lists n told read ready is link =
    let long : is_short_in (contents m c.args.id) ≡ false = ap is_short_in (sym read) ∙ sym c.is_short_in.ensures ∙ c.if-is_short_in.false in
    c.in-Err-target_behind.ensures.target v m tree lists n told ready is link long (c.size_in-size.ensures ∙ ap (λ (b : List ℕ). natural (stream_at b).size) read)
