use Rattle.std.proofs.Common.{◌/◌, ◌∙◌, get_or, sym}
use Rattle.bfs_value_walk.proofs.Wording.{bit_clear, named_bit, named_put, parted_put}
use Rattle.bfs_value_walk.proofs.naming.name_fragment.Goals as goal

pub returns-then-has_bit-clause-twice : goal.returns-then-has_bit-clause-twice
returns-then-has_bit-clause-twice c e =
    named_bit c.args.size c.args.at c.args.index c.args.names.now c.requires.at.1 c.requires.index (sym c.has_bit.ensures ∙ c.if-has_bit.true)

pub returns-clause-once : goal.returns-clause-once
returns-clause-once c e x f =
    named_put c.args.size c.args.at c.args.index c.with_bit.result c.args.names.now c.requires.at c.requires.whole c.requires.length c.requires.index c.with_bit.ensures
    (bit_clear (get_or c.args.names.now (c.args.at / 1024) 0) c.args.index (sym c.has_bit.ensures ∙ c.if-has_bit.false)) x f

pub returns-clause-parts : goal.returns-clause-parts
returns-clause-parts c e x =
    parted_put c.args.size c.args.at c.args.index c.with_bit.result c.args.names.now c.requires.at c.requires.whole c.requires.length c.requires.index c.with_bit.ensures x
