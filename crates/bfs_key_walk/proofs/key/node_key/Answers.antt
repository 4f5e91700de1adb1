use Rattle.std.proofs.Common.{◌≡◌, ◌∙◌, true, false, codes, sym}
use Rattle.std.specs.Str.{bytes_eq}
use Rattle.bfs_node_key.proofs.Cases.{key_by_size, key_by_time, key_by_attribute}
use Rattle.bfs_key_walk.proofs.key.node_key.Goals as goal

pub returns-in-Ok-file_key-clause-key : goal.returns-in-Ok-file_key-clause-key
returns-in-Ok-file_key-clause-key g c m root n told known name is_root keys =
    let index = c.args.index.now in
    let named : bytes_eq index (codes "name") ≡ false = sym c.eq.ensures ∙ c.if-eq.false in
    let sized : bytes_eq index (codes "size") ≡ true = sym c.eq-2.ensures ∙ c.if-eq-2.true in
    c.in-Ok-file_key.ensures n keys ∙ sym (key_by_size root index c.args.kind c.args.id n named sized)

pub returns-in-Ok-file_key-2-clause-key : goal.returns-in-Ok-file_key-2-clause-key
returns-in-Ok-file_key-2-clause-key g c m root n told known name is_root keys =
    let index = c.args.index.now in
    let named : bytes_eq index (codes "name") ≡ false = sym c.eq.ensures ∙ c.if-eq.false in
    let sized : bytes_eq index (codes "size") ≡ false = sym c.eq-2.ensures ∙ c.if-eq-2.false in
    let timed : bytes_eq index (codes "last_modified") ≡ true = sym c.eq-3.ensures ∙ c.if-eq-3.true in
    c.in-Ok-file_key-2.ensures n keys ∙ sym (key_by_time root index c.args.kind c.args.id n named sized timed)

pub returns-in-Ok-read_attribute_key-clause-key : goal.returns-in-Ok-read_attribute_key-clause-key
returns-in-Ok-read_attribute_key-clause-key g c m root n told known name is_root keys =
    let index = c.args.index.now in
    let named : bytes_eq index (codes "name") ≡ false = sym c.eq.ensures ∙ c.if-eq.false in
    let sized : bytes_eq index (codes "size") ≡ false = sym c.eq-2.ensures ∙ c.if-eq-2.false in
    let timed : bytes_eq index (codes "last_modified") ≡ false = sym c.eq-3.ensures ∙ c.if-eq-3.false in
    c.in-Ok-read_attribute_key.ensures.key m n told known ∙ sym (key_by_attribute root index c.args.kind c.args.id n named sized timed)
