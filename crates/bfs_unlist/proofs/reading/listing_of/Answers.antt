use Rattle.std.proofs.Common.{◌∙◌, sym, subst}
use Rattle.bfs_base.specs.declared.kind.KeyKind.{KeyKind}
use Rattle.bfs_node.specs.Search.{IsSought}
use Rattle.bfs_unlist.proofs.Indexed.{index_readable, index_tree, index_inside, bears_attributes, attributes_read, key_is, sought_there}
use Rattle.bfs_unlist.proofs.reading.listing_of.Goals as goal

pub key_in-requires-clause-readable : goal.key_in-requires-clause-readable
key_in-requires-clause-readable g c m told = c.requires.readable m (sym c.in-Ok.ensures.told ∙ told)

pub returns-in-Err-clause-listing : goal.returns-in-Err-clause-listing
returns-in-Err-clause-listing g c v m tree lists now rest told u =
    let s = c.args.site.sup in
    let r = c.args.row.now in
    let i = c.args.info.now in
    c.in-Err.ensures.kind m (lists.kinds r.name) told (index_inside s v m tree lists now c.args.id i r rest c.requires.valid u) (index_readable s v m tree lists now c.args.id i r rest c.requires.valid u) (index_tree s v m tree lists now c.args.id i r rest c.requires.valid u)

pub returns-in-Err-key_in-clause-listing : goal.returns-in-Err-key_in-clause-listing
returns-in-Err-key_in-clause-listing g c v m tree lists now rest told u =
    let s = c.args.site.sup in
    let r = c.args.row.now in
    let i = c.args.info.now in
    c.in-Err-key_in.ensures.key m tree.root u.read.node (c.in-Ok.ensures.told ∙ told) (bears_attributes s v m tree lists now c.args.id i r rest c.requires.valid u)
    (attributes_read s v m tree lists now c.args.id i r rest c.requires.valid u) u.read.info_is u.read.apart

pub returns-in_default-clause-listing : goal.returns-in_default-clause-listing
returns-in_default-clause-listing g c v m tree lists now rest told u =
    let s = c.args.site.sup in
    let r = c.args.row.now in
    let i = c.args.info.now in
    let id = c.args.id in
    let kind = c.in-Ok.ensures.kind m (lists.kinds r.name) told (index_inside s v m tree lists now id i r rest c.requires.valid u) (index_readable s v m tree lists now id i r rest c.requires.valid u) (index_tree s v m tree lists now id i r rest c.requires.valid u) in
    let key = c.in-Ok-key_in.ensures.key m tree.root u.read.node (c.in-Ok.ensures.told ∙ told) (bears_attributes s v m tree lists now id i r rest c.requires.valid u)
    (attributes_read s v m tree lists now id i r rest c.requires.valid u) u.read.info_is u.read.apart in
    let is = key_is s v m tree lists now id i r rest c.requires.valid u c.in-Ok.at.kind c.as_slice.result.now c.in-Ok-key_in.found kind c.as_slice.ensures key in
    is ∙ c.in_default.is

pub returns-then-not-sought-clause-listing : goal.returns-then-not-sought-clause-listing
returns-then-not-sought-clause-listing g c v m tree lists now rest told u =
    let s = c.args.site.sup in
    let r = c.args.row.now in
    let i = c.args.info.now in
    let id = c.args.id in
    let kind = c.in-Ok.ensures.kind m (lists.kinds r.name) told (index_inside s v m tree lists now id i r rest c.requires.valid u) (index_readable s v m tree lists now id i r rest c.requires.valid u) (index_tree s v m tree lists now id i r rest c.requires.valid u) in
    let key = c.in-Ok-key_in.ensures.key m tree.root u.read.node (c.in-Ok.ensures.told ∙ told) (bears_attributes s v m tree lists now id i r rest c.requires.valid u)
    (attributes_read s v m tree lists now id i r rest c.requires.valid u) u.read.info_is u.read.apart in
    let is = key_is s v m tree lists now id i r rest c.requires.valid u c.in-Ok.at.kind c.as_slice.result.now c.in-Ok-key_in.found kind c.as_slice.ensures key in
    let sought : IsSought c.in-Ok.at.kind c.in-Some.key = subst (λ (k : KeyKind). IsSought k c.in-Some.key) (sym kind) (sought_there s v m tree lists now id i r rest c.requires.valid u c.in-Some.key (is ∙ c.in-Some.is)) in
    absurd (c.is_sought-sought.ensures.refused c.if-not-sought.true (subst (IsSought c.in-Ok.at.kind) (sym c.as_slice-2.ensures) sought))

pub returns-clause-listing : goal.returns-clause-listing
returns-clause-listing g c v m tree lists now rest told u =
    let s = c.args.site.sup in
    let r = c.args.row.now in
    let i = c.args.info.now in
    let id = c.args.id in
    let kind = c.in-Ok.ensures.kind m (lists.kinds r.name) told (index_inside s v m tree lists now id i r rest c.requires.valid u) (index_readable s v m tree lists now id i r rest c.requires.valid u) (index_tree s v m tree lists now id i r rest c.requires.valid u) in
    let key = c.in-Ok-key_in.ensures.key m tree.root u.read.node (c.in-Ok.ensures.told ∙ told) (bears_attributes s v m tree lists now id i r rest c.requires.valid u)
    (attributes_read s v m tree lists now id i r rest c.requires.valid u) u.read.info_is u.read.apart in
    let is = key_is s v m tree lists now id i r rest c.requires.valid u c.in-Ok.at.kind c.as_slice.result.now c.in-Ok-key_in.found kind c.as_slice.ensures key in
    (c.in-Ok.ensures.inode, kind, is ∙ c.in-Some.is)

pub returns-then-not-sought-clause-cause : goal.returns-then-not-sought-clause-cause
returns-then-not-sought-clause-cause g c = c.damaged.ensures.cause (g.B.Blocks.counts c.args.under.now) (g.B.Blocks.counts c.key_in.new.under)
