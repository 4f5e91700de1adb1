use Rattle.std.proofs.Common.{◌≡◌, ◌≤◌, ◌∙◌, ◌*◌, ℕ, length, sym, ap, subst, take}
use Rattle.std.specs.List.{flat_map}
use Rattle.bfs_stream.specs.Places.{places_at}
use Rattle.bfs_stream.specs.Sizes.{sizes_of}
use Rattle.bfs_stream.specs.Told.{contents}
use Rattle.bfs_look.proofs.Linked.{link_stands, link_places_told, link_fits, long_target}
use Rattle.bfs_look.proofs.target.target_behind.Goals as goal

pub returns-in-Ok-clause-target : goal.returns-in-Ok-clause-target
returns-in-Ok-clause-target g c v m tree lists n told ready is link long size =
    let s = c.args.site.sup in
    let places = places_at (sizes_of s) (contents m) c.args.id in
    let fits = subst (λ (k : ℕ). k ≤ s.block_size * length places) (sym size) (link_fits s v m tree lists ready c.args.id n is c.requires.valid link long) in
    let read = c.in-Ok.ensures.found m told (link_stands s v m tree lists ready c.args.id n is c.requires.valid link long) (link_places_told s v m tree lists ready c.args.id n is c.requires.valid link long) fits in
    c.new.ensures ∙ read ∙ ap (λ (k : ℕ). take k (flat_map (contents m) places)) size ∙ sym (long_target s v m tree lists ready c.args.id n is c.requires.valid link long)

pub returns-in-Err-clause-target : goal.returns-in-Err-clause-target
returns-in-Err-clause-target g c v m tree lists n told ready is link long size =
    let s = c.args.site.sup in
    let places = places_at (sizes_of s) (contents m) c.args.id in
    let fits = subst (λ (k : ℕ). k ≤ s.block_size * length places) (sym size) (link_fits s v m tree lists ready c.args.id n is c.requires.valid link long) in
    c.in-Err.ensures.found m told (link_stands s v m tree lists ready c.args.id n is c.requires.valid link long) (link_places_told s v m tree lists ready c.args.id n is c.requires.valid link long) fits
