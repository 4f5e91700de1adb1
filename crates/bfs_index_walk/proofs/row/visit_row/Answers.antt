use Rattle.std.proofs.Common.{rules, ◌≡◌, ◌∙◌, ◌++◌, ◌∷◌, [], ℕ, List, true, false, sym, ap, subst, w64, to_z, of_z}
use Rattle.bfs_super.specs.Conditions.{natural}
use Rattle.bfs_stream.specs.Told.{contents}
use Rattle.bfs_sound.specs.Volumes.{Volume}
use Rattle.bfs_sound.specs.Inodes.{is_proper, inode_blocks}
use Rattle.bfs_sound.specs.Whole.{volume_of}
use Rattle.bfs_claims.specs.Claims.{AreClaimed}
use Rattle.bfs_attrs_walk.proofs.Attributing.{below, no_claims, one_blocks, taken_one}
use Rattle.bfs_index_walk.proofs.Clashing.{untaken_in}
use Rattle.bfs_index_walk.proofs.Rowing.{number_is, inside_next, found_past, found_next, arrives_at}
use Rattle.bfs_index_walk.proofs.row.visit_row.Goals as goal

pub returns-then-not-named-clause-found : goal.returns-then-not-named-clause-found
returns-then-not-named-clause-found g c m rows told a =
    let slice : c.as_slice.result.now ≡ c.args.row.now.name = search rules in
    let dots : is_proper c.args.row.now.name ≡ false = sym (c.is_proper_name-named.ensures ∙ ap is_proper slice) ∙ c.if-not-named.true in
    found_past (volume_of c.args.sup.now (contents m)) rows c.args.row.now c.args.found.now.items dots a

pub returns-then-not-named-clause-claimed : goal.returns-then-not-named-clause-claimed
returns-then-not-named-clause-claimed g c m xs told a =
    let slice : c.as_slice.result.now ≡ c.args.row.now.name = search rules in
    let dots : is_proper c.args.row.now.name ≡ false = sym (c.is_proper_name-named.ensures ∙ ap is_proper slice) ∙ c.if-not-named.true in
    no_claims (volume_of c.args.sup.now (contents m)) c.args.claims.now xs c.args.row.now dots a

pub visit_index-requires-clause-inside : goal.visit_index-requires-clause-inside
visit_index-requires-clause-inside g c =
    let slice : c.as_slice.result.now ≡ c.args.row.now.name = search rules in
    let named : is_proper c.args.row.now.name ≡ true = sym (c.is_proper_name-named.ensures ∙ ap is_proper slice) ∙ c.if-not-named.false in
    let signed : to_z w64 (of_z w64 c.args.row.now.value) ≡ c.args.row.now.value = search rules in
    below (natural c.args.sup.now.num_blocks) c.args.row.now c.number_of-id.result (c.number_of-id.ensures ∙ ap natural signed) (c.requires.row named)

pub returns-in-Err-clause-wrong : goal.returns-in-Err-clause-wrong
returns-in-Err-clause-wrong g c m told there =
    let v : Volume = volume_of c.args.sup.now (contents m) in
    let slice : c.as_slice.result.now ≡ c.args.row.now.name = search rules in
    let named : is_proper c.args.row.now.name ≡ true = sym (c.is_proper_name-named.ensures ∙ ap is_proper slice) ∙ c.if-not-named.false in
    let signed : to_z w64 (of_z w64 c.args.row.now.value) ≡ c.args.row.now.value = search rules in
    let number : c.number_of-id.result ≡ natural c.args.row.now.value = c.number_of-id.ensures ∙ ap natural signed in
    c.in-Err.ensures.wrong m c.args.row.now.name told (arrives_at v (natural c.args.sup.now.num_blocks) c.args.row.now c.number_of-id.result number (c.requires.row named) (there named))

pub returns-in-Err-clause-taken : goal.returns-in-Err-clause-taken
returns-in-Err-clause-taken g c m xs told a =
    let v : Volume = volume_of c.args.sup.now (contents m) in
    let slice : c.as_slice.result.now ≡ c.args.row.now.name = search rules in
    let named : is_proper c.args.row.now.name ≡ true = sym (c.is_proper_name-named.ensures ∙ ap is_proper slice) ∙ c.if-not-named.false in
    let signed : to_z w64 (of_z w64 c.args.row.now.value) ≡ c.args.row.now.value = search rules in
    let number : c.number_of-id.result ≡ natural c.args.row.now.value = c.number_of-id.ensures ∙ ap natural signed in
    taken_one v xs c.args.row.now c.number_of-id.result c.in-Err.fault named number (c.in-Err.ensures.taken m xs told a)

pub returns-in-Ok-push_index-clause-found : goal.returns-in-Ok-push_index-clause-found
returns-in-Ok-push_index-clause-found g c m rows told a =
    let v : Volume = volume_of c.args.sup.now (contents m) in
    let slice : c.as_slice.result.now ≡ c.args.row.now.name = search rules in
    let again : c.as_slice-2.result.now ≡ c.args.row.now.name = search rules in
    let named : is_proper c.args.row.now.name ≡ true = sym (c.is_proper_name-named.ensures ∙ ap is_proper slice) ∙ c.if-not-named.false in
    let signed : to_z w64 (of_z w64 c.args.row.now.value) ≡ c.args.row.now.value = search rules in
    let number : c.number_of-id.result ≡ natural c.args.row.now.value = c.number_of-id.ensures ∙ ap natural signed in
    found_next v rows c.args.row.now c.args.found.now.items c.push_index.new.found.items c.number_of-id.result c.in-Ok.kind
    (subst (λ (n : List ℕ). c.push_index.new.found.items ≡ c.args.found.now.items ++ (record { name = n; id = c.number_of-id.result; kind = c.in-Ok.kind }) ∷ []) again c.in-Ok-push_index.ensures.pushed) named
    (number_is (natural c.args.sup.now.num_blocks) c.args.row.now c.number_of-id.result number (c.requires.row named)) (c.in-Ok.ensures.index m told) a

pub returns-in-Ok-push_index-clause-inside : goal.returns-in-Ok-push_index-clause-inside
returns-in-Ok-push_index-clause-inside g c all =
    let slice : c.as_slice.result.now ≡ c.args.row.now.name = search rules in
    let named : is_proper c.args.row.now.name ≡ true = sym (c.is_proper_name-named.ensures ∙ ap is_proper slice) ∙ c.if-not-named.false in
    let signed : to_z w64 (of_z w64 c.args.row.now.value) ≡ c.args.row.now.value = search rules in
    let number : c.number_of-id.result ≡ natural c.args.row.now.value = c.number_of-id.ensures ∙ ap natural signed in
    inside_next (natural c.args.sup.now.num_blocks) c.args.found.now.items c.push_index.new.found.items c.as_slice-2.result.now c.number_of-id.result c.in-Ok.kind c.in-Ok-push_index.ensures.pushed
    (below (natural c.args.sup.now.num_blocks) c.args.row.now c.number_of-id.result number (c.requires.row named)) c.in-Ok.ensures.kind all

pub returns-in-Ok-push_index-clause-claimed : goal.returns-in-Ok-push_index-clause-claimed
returns-in-Ok-push_index-clause-claimed g c m xs told a =
    let v : Volume = volume_of c.args.sup.now (contents m) in
    let slice : c.as_slice.result.now ≡ c.args.row.now.name = search rules in
    let named : is_proper c.args.row.now.name ≡ true = sym (c.is_proper_name-named.ensures ∙ ap is_proper slice) ∙ c.if-not-named.false in
    let signed : to_z w64 (of_z w64 c.args.row.now.value) ≡ c.args.row.now.value = search rules in
    let number : c.number_of-id.result ≡ natural c.args.row.now.value = c.number_of-id.ensures ∙ ap natural signed in
    subst (λ (l : List ℕ). AreClaimed c.visit_index.new.claims (xs ++ l)) (ap (inode_blocks v) number ∙ sym (one_blocks v c.args.row.now named)) (c.in-Ok.ensures.claimed m xs told a)

pub returns-in-Err-push_index-clause-wrong : goal.returns-in-Err-push_index-clause-wrong
returns-in-Err-push_index-clause-wrong g c m told there = c.in-Err-push_index.ensures.wrong (volume_of c.args.sup.now (contents m))

pub returns-in-Err-push_index-clause-taken : goal.returns-in-Err-push_index-clause-taken
returns-in-Err-push_index-clause-taken g c m xs told a = untaken_in (volume_of c.args.sup.now (contents m)) xs c.args.row.now c.in-Err-push_index.fault c.in-Err-push_index.ensures.untaken

pub returns-in-Err-push_index-clause-cause : goal.returns-in-Err-push_index-clause-cause
returns-in-Err-push_index-clause-cause g c = c.in-Err-push_index.ensures.cause (g.B.Blocks.counts c.args.under.now) (g.B.Blocks.counts c.visit_index.new.under)
