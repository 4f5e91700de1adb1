use Rattle.std.proofs.Common.{rules, ◌≡◌, ◌∙◌, true, false, refl, sym, ap, w64, to_z, of_z}
use Rattle.std.proofs.lemmas.Bool.{true≢false}
use Rattle.bfs_super.specs.Conditions.{natural}
use Rattle.bfs_stream.specs.Told.{contents}
use Rattle.bfs_sound.specs.Volumes.{Volume}
use Rattle.bfs_sound.specs.Inodes.{is_proper}
use Rattle.bfs_sound.specs.Whole.{volume_of}
use Rattle.bfs_finding.specs.Ways.{to_attribute}
use Rattle.bfs_attr_walk.proofs.Attributing.{arrives_at, one_sound, no_claims, taken_one}
use Rattle.bfs_attr_walk.proofs.attribute.visit_row.Goals as goal

pub returns-then-not-named-clause-sound : goal.returns-then-not-named-clause-sound
returns-then-not-named-clause-sound g c m told =
    let slice : c.as_slice.result.now ≡ c.args.row.now.name = search rules in
    let dots : is_proper c.args.row.now.name ≡ false = sym (c.is_proper_name-named.ensures ∙ ap is_proper slice) ∙ c.if-not-named.true in
    one_sound (volume_of c.args.sup.now (contents m)) c.args.row.now (λ p. absurd (true≢false (sym p ∙ dots)))

pub returns-then-not-named-clause-claimed : goal.returns-then-not-named-clause-claimed
returns-then-not-named-clause-claimed g c m xs told a =
    let slice : c.as_slice.result.now ≡ c.args.row.now.name = search rules in
    let dots : is_proper c.args.row.now.name ≡ false = sym (c.is_proper_name-named.ensures ∙ ap is_proper slice) ∙ c.if-not-named.true in
    no_claims (volume_of c.args.sup.now (contents m)) c.args.claims.now xs c.args.row.now dots a

pub returns-clause-wrong : goal.returns-clause-wrong
returns-clause-wrong g c m id told reached there =
    let v : Volume = volume_of c.args.sup.now (contents m) in
    let slice : c.as_slice.result.now ≡ c.args.row.now.name = search rules in
    let named : is_proper c.args.row.now.name ≡ true = sym (c.is_proper_name-named.ensures ∙ ap is_proper slice) ∙ c.if-not-named.false in
    let signed : to_z w64 (of_z w64 c.args.row.now.value) ≡ c.args.row.now.value = search rules in
    let number : c.number_of-id.result ≡ natural c.args.row.now.value = c.number_of-id.ensures ∙ ap natural signed in
    c.in-Err.ensures.wrong m (to_attribute id c.args.row.now.name) told refl (arrives_at v id (natural c.args.sup.now.num_blocks) c.args.row.now c.number_of-id.result number (c.requires.row named) reached (there named))

pub returns-clause-taken : goal.returns-clause-taken
returns-clause-taken g c m xs told a =
    let v : Volume = volume_of c.args.sup.now (contents m) in
    let slice : c.as_slice.result.now ≡ c.args.row.now.name = search rules in
    let named : is_proper c.args.row.now.name ≡ true = sym (c.is_proper_name-named.ensures ∙ ap is_proper slice) ∙ c.if-not-named.false in
    let signed : to_z w64 (of_z w64 c.args.row.now.value) ≡ c.args.row.now.value = search rules in
    let number : c.number_of-id.result ≡ natural c.args.row.now.value = c.number_of-id.ensures ∙ ap natural signed in
    taken_one v xs c.args.row.now c.number_of-id.result c.in-Err.fault named number (c.in-Err.ensures.taken m xs told a)
