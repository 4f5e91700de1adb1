use Rattle.std.proofs.Common.{rules, ◌≡◌, ◌≤◌, ◌∙◌, ℕ, List, Option, length, get_or, sym, ap, subst, arith, w64, to_z, of_z}
use Rattle.std.proofs.lemmas.List.{take_all}
use Rattle.bfs_base.specs.Lists.{times}
use Rattle.bfs_super.specs.Conditions.{natural}
use Rattle.bfs_stream.specs.Told.{contents}
use Rattle.bfs_pages.proofs.Later.{later-twice}
use Rattle.bfs_sound.specs.Volumes.{Volume}
use Rattle.bfs_sound.specs.Attributes.{attribute_directory, HasDirectory}
use Rattle.bfs_sound.specs.Whole.{volume_of}
use Rattle.bfs_finding.specs.Ways.{IsReached}
use Rattle.bfs_nodes_walk.specs.declared.lead.NodeLead.{NodeLead}
use Rattle.bfs_nodes_walk.proofs.Leading.{of_all}
use Rattle.bfs_attrs_walk.specs.Passes.{id_of, attribute_blocks, blocks_of_leads, IsWayFrom, IsWayFromSome, IsOwnerFound}
use Rattle.bfs_attrs_walk.proofs.Searched.{widen}
use Rattle.bfs_attrs_walk.proofs.Passing.{names_block, named_id, there, reached_there, none_next}
use Rattle.bfs_attrs_walk.proofs.owners.find_among.Goals as goal

pub find_attribute-requires-clause-inside : goal.find_attribute-requires-clause-inside
find_attribute-requires-clause-inside g c =
    let r : NodeLead = c.index-leads-i.result in
    let item : r ≡ get_or c.args.leads.now c.loop-i.i r = search rules in
    let signed : to_z w64 (of_z w64 r.row.value) ≡ r.row.value = search rules in
    named_id (natural c.args.sup.now.num_blocks) r c.number_of-id.result (c.number_of-id.ensures ∙ ap (λ (x : NodeLead). natural (to_z w64 (of_z w64 x.row.value))) (sym item) ∙ ap natural signed) (names_block c.args.leads.now c.loop-i.i r c.loop-i-test.true item (natural c.args.sup.now.num_blocks) c.requires.inside)

pub find_attribute-requires-clause-all : goal.find_attribute-requires-clause-all
find_attribute-requires-clause-all g c m told = c.requires.all m (sym c.loop-i.invariant.told ∙ told)

pub find_attribute-requires-clause-have : goal.find_attribute-requires-clause-have
find_attribute-requires-clause-have g c m on =
    let v : Volume = volume_of c.args.sup.now (contents m) in
    let told = sym c.loop-i.invariant.told ∙ on in
    let r : NodeLead = c.index-leads-i.result in
    let item : r ≡ get_or c.args.leads.now c.loop-i.i r = search rules in
    let signed : to_z w64 (of_z w64 r.row.value) ≡ r.row.value = search rules in
    let number : c.number_of-id.result ≡ id_of r = c.number_of-id.ensures ∙ ap (λ (x : NodeLead). natural (to_z w64 (of_z w64 x.row.value))) (sym item) ∙ ap natural signed in
    subst (λ (n : ℕ). HasDirectory v n (attribute_directory v n)) (sym number)
    (of_all (λ (l : NodeLead). HasDirectory v (id_of l) (attribute_directory v (id_of l))) c.args.leads.now r (c.requires.have m told) (there c.args.leads.now c.loop-i.i r c.loop-i-test.true item))

pub returns-in-Ok-Some-clause-found : goal.returns-in-Ok-Some-clause-found
returns-in-Ok-Some-clause-found g c m told reached =
    let v : Volume = volume_of c.args.sup.now (contents m) in
    let r : NodeLead = c.index-leads-i.result in
    let item : r ≡ get_or c.args.leads.now c.loop-i.i r = search rules in
    let signed : to_z w64 (of_z w64 r.row.value) ≡ r.row.value = search rules in
    let number : c.number_of-id.result ≡ id_of r = c.number_of-id.ensures ∙ ap (λ (x : NodeLead). natural (to_z w64 (of_z w64 x.row.value))) (sym item) ∙ ap natural signed in
    let here : IsReached v c.number_of-id.result = subst (IsReached v) (sym number) (reached_there c.args.leads.now c.loop-i.i r c.loop-i-test.true item v reached) in
    widen v c.args.block (IsWayFrom c.number_of-id.result) (IsWayFromSome c.args.leads.now)
    (λ way f. (r, there c.args.leads.now c.loop-i.i r c.loop-i-test.true item, subst (λ (n : ℕ). IsWayFrom n way) number f)) c.in-Ok-Some.owner
    (subst (λ (o : Option ℕ). IsOwnerFound (IsWayFrom c.number_of-id.result) v (attribute_blocks v c.number_of-id.result) c.args.block o) c.in-Ok-Some.field-0-is (c.in-Ok-Some.ensures.found m (c.loop-i.invariant.told ∙ told) here))

pub returns-in-Err-clause-wrong : goal.returns-in-Err-clause-wrong
returns-in-Err-clause-wrong g c m told reached =
    let v : Volume = volume_of c.args.sup.now (contents m) in
    let r : NodeLead = c.index-leads-i.result in
    let item : r ≡ get_or c.args.leads.now c.loop-i.i r = search rules in
    let signed : to_z w64 (of_z w64 r.row.value) ≡ r.row.value = search rules in
    let number : c.number_of-id.result ≡ id_of r = c.number_of-id.ensures ∙ ap (λ (x : NodeLead). natural (to_z w64 (of_z w64 x.row.value))) (sym item) ∙ ap natural signed in
    c.in-Err.ensures.wrong m (c.loop-i.invariant.told ∙ told) (subst (IsReached v) (sym number) (reached_there c.args.leads.now c.loop-i.i r c.loop-i-test.true item v reached))

pub loop-i-preserved : goal.loop-i-preserved
loop-i-preserved g c = record {
  told = c.in-Ok-None.ensures.told ∙ c.loop-i.invariant.told;
  changed = c.in-Ok-None.ensures.changed ∙ c.loop-i.invariant.changed;
  pairs = c.in-Ok-None.ensures.pairs ∙ c.loop-i.invariant.pairs;
  size = c.in-Ok-None.ensures.size ∙ c.loop-i.invariant.size;
  frame = c.in-Ok-None.ensures.frame ∙ c.loop-i.invariant.frame;
  later = later-twice c.loop-i.invariant.later c.in-Ok-None.ensures.later;
  none = λ m told reached.
      let v : Volume = volume_of c.args.sup.now (contents m) in
      let r : NodeLead = c.index-leads-i.result in
      let item : r ≡ get_or c.args.leads.now c.loop-i.i r = search rules in
      let signed : to_z w64 (of_z w64 r.row.value) ≡ r.row.value = search rules in
      let number : c.number_of-id.result ≡ id_of r = c.number_of-id.ensures ∙ ap (λ (x : NodeLead). natural (to_z w64 (of_z w64 x.row.value))) (sym item) ∙ ap natural signed in
      let here : IsReached v c.number_of-id.result = subst (IsReached v) (sym number) (reached_there c.args.leads.now c.loop-i.i r c.loop-i-test.true item v reached) in
      let one : times c.args.block (attribute_blocks v (id_of r)) ≡ 0 =
      subst (λ (n : ℕ). times c.args.block (attribute_blocks v n) ≡ 0) number
      (subst (λ (o : Option ℕ). IsOwnerFound (IsWayFrom c.number_of-id.result) v (attribute_blocks v c.number_of-id.result) c.args.block o) c.in-Ok-None.field-0-is (c.in-Ok-None.ensures.found m (c.loop-i.invariant.told ∙ told) here)) in
      none_next c.args.leads.now c.loop-i.i r c.loop-i-test.true item v c.args.block (c.loop-i.invariant.none m told reached) one;
}

pub returns-clause-found : goal.returns-clause-found
returns-clause-found g c m told reached =
    let v : Volume = volume_of c.args.sup.now (contents m) in
    let past : length c.args.leads.now ≤ c.loop-i.i = omega arith in
    subst (λ (l : List NodeLead). times c.args.block (blocks_of_leads v l) ≡ 0) (take_all c.loop-i.i c.args.leads.now past) (c.loop-i.invariant.none m told reached)
