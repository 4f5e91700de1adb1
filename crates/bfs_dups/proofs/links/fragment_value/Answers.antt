use Rattle.std.proofs.Common.{◌≡◌, ◌+◌, ◌∙◌, refl, rules, w64, to_z, of_z}
use Rattle.bfs_dups.proofs.Linked.{fragment-link}
use Rattle.bfs_dups.proofs.links.fragment_value.Goals as goal

pub returns : goal.returns
returns c =
    let signed : to_z w64 (of_z w64 c.cast_signed.result) ≡ c.cast_signed.result = search rules in
    fragment-link (to_z w64 (of_z w64 c.cast_signed.result)) (13835058055282163712 + c.args.page + c.args.index) c.args.page c.args.index (signed ∙ c.cast_signed.ensures) refl c.requires.page c.requires.whole c.requires.index
