use Rattle.std.proofs.Common.{◌≡◌, ◌+◌, ◌∙◌, refl, rules, w64, to_z, of_z}
use Rattle.bfs_dups.proofs.Linked.{chain-link}
use Rattle.bfs_dups.proofs.links.chain_value.Goals as goal

pub returns : goal.returns
returns c =
    let signed : to_z w64 (of_z w64 c.cast_signed.result) ≡ c.cast_signed.result = search rules in
    chain-link (to_z w64 (of_z w64 c.cast_signed.result)) (9223372036854775808 + c.args.page) c.args.page (signed ∙ c.cast_signed.ensures) refl c.requires.page c.requires.whole
