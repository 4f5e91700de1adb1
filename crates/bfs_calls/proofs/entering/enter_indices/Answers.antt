use Rattle.std.proofs.Common.{rules, ◌≡◌, [], ℕ, List, Option, true, codes, ap, sym, ◌∙◌, subst}
use mir.Syntax.{w64}
use mir.Val.{to_z, of_z}
use Rattle.bfs_base.specs.declared.kind.KeyKind.TheVariants.{Text, I64}
use Rattle.bfs_bytes.specs.Fields.{signed64_bytes}
use Rattle.bfs_super.specs.Geometry.{geometry_of}
use Rattle.bfs_stream.specs.Sizes.{sizes_of}
use Rattle.bfs_tree.specs.Trees.{is_file}
use Rattle.bfs_shift.specs.Work.{IsAtWork}
use Rattle.bfs_calls.proofs.Faulting.{list_unanswered}
use Rattle.bfs_calls.proofs.Listing.{index_at, number_again, kind_since, by_name, by_size, by_time, pairs_of, name_more, size_more, time_more, other_listed, file_listed}
use Rattle.bfs_look.proofs.Telling.{told_back, one_map}
use Rattle.bfs_moves.proofs.Stepping.{stepped_twice}
use Rattle.bfs_calls.proofs.entering.enter_indices.Goals as goal

pub list_where-requires-clause-index : goal.list_where-requires-clause-index
list_where-requires-clause-index g c m told =
    let h = c.requires.named m told in
    let e : to_z w64 (of_z w64 c.args.stamp) ≡ c.args.stamp = search rules in
    index_at (geometry_of c.args.sup.now) c.args.bitmap.now m h.since h.begun (codes "name") Text h.named.work c.args.indices.name (number_again h.lists.names h.begun.names (codes "name") c.args.indices.name h.named.names h.built_in.name)
    (λ value row. kind_since h.tree h.lists c.args.id h.node c.args.kind c.args.name.now c.args.stamp h.named.agrees h.named.plain h.named.absent h.is_for h.begun h.named.names h.named.kinds (codes "name") Text (λ b. b.by_name) value row)

pub returns-in-Err-clause-unanswered : goal.returns-in-Err-clause-unanswered
returns-in-Err-clause-unanswered g c m tree since lists begun node told named is_for built =
    list_unanswered (sizes_of c.args.sup.now) c.args.bitmap.now m c.args.indices.name c.in-Err.fault
    (c.in-Err.ensures.refused m since begun [] (codes "name") told named.work (number_again lists.names begun.names (codes "name") c.args.indices.name named.names built.name)
    (λ value row. kind_since tree lists c.args.id node c.args.kind c.args.name.now c.args.stamp named.agrees named.plain named.absent is_for begun named.names named.kinds (codes "name") Text (λ b. b.by_name) value row))

pub returns-then-not-is_file-clause-listed : goal.returns-then-not-is_file-clause-listed
returns-then-not-is_file-clause-listed g c m tree since lists begun node told named is_for built =
    let one = c.in-Ok.ensures.listed m since begun [] (codes "name") (pairs_of tree lists c.args.id node c.args.kind c.args.name.now c.args.stamp named.agrees named.plain named.absent is_for (codes "name")) told named.work (number_again lists.names begun.names (codes "name") c.args.indices.name named.names built.name) (name_more tree lists c.args.id node c.args.kind c.args.name.now c.args.stamp named.agrees named.plain named.absent is_for begun named.pairs named.names named.kinds) in
    record {
      last = (by_name tree lists c.args.id node c.args.kind c.args.name.now c.args.stamp named.agrees named.plain named.absent is_for begun named.pairs);
      step = one;
      lists_node = other_listed tree lists c.args.id node c.args.kind c.args.name.now c.args.stamp named.agrees named.plain named.absent is_for begun named.pairs (sym c.is_file.ensures ∙ c.if-not-is_file.true);
    }

pub list_where-requires-2-clause-index : goal.list_where-requires-2-clause-index
list_where-requires-2-clause-index g c n told =
    let before =
    told_back (g.E.Blocks.told c.args.edits.now) (g.E.Blocks.told c.list_where.new.edits) (g.E.Blocks.frame c.args.edits.now).below (g.E.Blocks.frame c.list_where.new.edits).below
    (g.met.E.Edits.tells c.args.edits.now) (g.met.E.Edits.tells c.list_where.new.edits) (ap (λ f. f.below) c.in-Ok.ensures.frame) n told in
    let m = before.0 in
    let h = c.requires.named m before.1 in
    let file : is_file c.args.kind ≡ true = sym c.is_file.ensures ∙ c.if-not-is_file.false in
    let one = c.in-Ok.ensures.listed m h.since h.begun [] (codes "name") (pairs_of h.tree h.lists c.args.id h.node c.args.kind c.args.name.now c.args.stamp h.named.agrees h.named.plain h.named.absent h.is_for (codes "name")) before.1 h.named.work (number_again h.lists.names h.begun.names (codes "name") c.args.indices.name h.named.names h.built_in.name) (name_more h.tree h.lists c.args.id h.node c.args.kind c.args.name.now c.args.stamp h.named.agrees h.named.plain h.named.absent h.is_for h.begun h.named.pairs h.named.names h.named.kinds) in
    index_at (geometry_of c.args.sup.now) c.list_where.new.bitmap n h.since (by_name h.tree h.lists c.args.id h.node c.args.kind c.args.name.now c.args.stamp h.named.agrees h.named.plain h.named.absent h.is_for h.begun h.named.pairs) (codes "size") I64
    (subst (λ (k : ℕ → Option (List ℕ)). IsAtWork (geometry_of c.args.sup.now) c.list_where.new.bitmap k h.since (by_name h.tree h.lists c.args.id h.node c.args.kind c.args.name.now c.args.stamp h.named.agrees h.named.plain h.named.absent h.is_for h.begun h.named.pairs) []) (one_map (g.E.Blocks.told c.list_where.new.edits) one.map n one.is told) one.work)
    c.args.indices.size (number_again h.lists.names h.begun.names (codes "size") c.args.indices.size h.named.names h.built_in.size)
    (λ value row. kind_since h.tree h.lists c.args.id h.node c.args.kind c.args.name.now c.args.stamp h.named.agrees h.named.plain h.named.absent h.is_for (by_name h.tree h.lists c.args.id h.node c.args.kind c.args.name.now c.args.stamp h.named.agrees h.named.plain h.named.absent h.is_for h.begun h.named.pairs) h.named.names h.named.kinds (codes "size") I64 (λ b. b.by_size) value row)

pub returns-in-Err-list_where-clause-unanswered : goal.returns-in-Err-list_where-clause-unanswered
returns-in-Err-list_where-clause-unanswered g c m tree since lists begun node told named is_for built =
    let one = c.in-Ok.ensures.listed m since begun [] (codes "name") (pairs_of tree lists c.args.id node c.args.kind c.args.name.now c.args.stamp named.agrees named.plain named.absent is_for (codes "name")) told named.work (number_again lists.names begun.names (codes "name") c.args.indices.name named.names built.name) (name_more tree lists c.args.id node c.args.kind c.args.name.now c.args.stamp named.agrees named.plain named.absent is_for begun named.pairs named.names named.kinds) in
    list_unanswered (sizes_of c.args.sup.now) c.list_where.new.bitmap one.map c.args.indices.size c.in-Err-list_where.fault
    (c.in-Err-list_where.ensures.refused one.map since (by_name tree lists c.args.id node c.args.kind c.args.name.now c.args.stamp named.agrees named.plain named.absent is_for begun named.pairs) [] (codes "size") one.is one.work (number_again lists.names begun.names (codes "size") c.args.indices.size named.names built.size)
    (λ value row. kind_since tree lists c.args.id node c.args.kind c.args.name.now c.args.stamp named.agrees named.plain named.absent is_for (by_name tree lists c.args.id node c.args.kind c.args.name.now c.args.stamp named.agrees named.plain named.absent is_for begun named.pairs) named.names named.kinds (codes "size") I64 (λ b. b.by_size) value row))

pub list_where-requires-3-clause-index : goal.list_where-requires-3-clause-index
list_where-requires-3-clause-index g c n told =
    let before =
    told_back (g.E.Blocks.told c.args.edits.now) (g.E.Blocks.told c.list_where-2.new.edits) (g.E.Blocks.frame c.args.edits.now).below (g.E.Blocks.frame c.list_where-2.new.edits).below
    (g.met.E.Edits.tells c.args.edits.now) (g.met.E.Edits.tells c.list_where-2.new.edits) (ap (λ f. f.below) (c.in-Ok-list_where.ensures.frame ∙ c.in-Ok.ensures.frame)) n told in
    let m = before.0 in
    let h = c.requires.named m before.1 in
    let file : is_file c.args.kind ≡ true = sym c.is_file.ensures ∙ c.if-not-is_file.false in
    let one = c.in-Ok.ensures.listed m h.since h.begun [] (codes "name") (pairs_of h.tree h.lists c.args.id h.node c.args.kind c.args.name.now c.args.stamp h.named.agrees h.named.plain h.named.absent h.is_for (codes "name")) before.1 h.named.work (number_again h.lists.names h.begun.names (codes "name") c.args.indices.name h.named.names h.built_in.name) (name_more h.tree h.lists c.args.id h.node c.args.kind c.args.name.now c.args.stamp h.named.agrees h.named.plain h.named.absent h.is_for h.begun h.named.pairs h.named.names h.named.kinds) in
    let two = c.in-Ok-list_where.ensures.listed one.map h.since (by_name h.tree h.lists c.args.id h.node c.args.kind c.args.name.now c.args.stamp h.named.agrees h.named.plain h.named.absent h.is_for h.begun h.named.pairs) [] (codes "size") (pairs_of h.tree h.lists c.args.id h.node c.args.kind c.args.name.now c.args.stamp h.named.agrees h.named.plain h.named.absent h.is_for (codes "size")) one.is one.work (number_again h.lists.names h.begun.names (codes "size") c.args.indices.size h.named.names h.built_in.size)
    (size_more h.tree h.lists c.args.id h.node c.args.kind c.args.name.now c.args.stamp h.named.agrees h.named.plain h.named.absent h.is_for h.begun h.named.pairs h.named.names h.named.kinds file c.size_key-size.result c.size_key-size.ensures.key) in
    index_at (geometry_of c.args.sup.now) c.list_where-2.new.bitmap n h.since (by_size h.tree h.lists c.args.id h.node c.args.kind c.args.name.now c.args.stamp h.named.agrees h.named.plain h.named.absent h.is_for h.begun h.named.pairs) (codes "last_modified") I64
    (subst (λ (k : ℕ → Option (List ℕ)). IsAtWork (geometry_of c.args.sup.now) c.list_where-2.new.bitmap k h.since (by_size h.tree h.lists c.args.id h.node c.args.kind c.args.name.now c.args.stamp h.named.agrees h.named.plain h.named.absent h.is_for h.begun h.named.pairs) []) (one_map (g.E.Blocks.told c.list_where-2.new.edits) two.map n two.is told) two.work)
    c.args.indices.last_modified (number_again h.lists.names h.begun.names (codes "last_modified") c.args.indices.last_modified h.named.names h.built_in.last_modified)
    (λ value row. kind_since h.tree h.lists c.args.id h.node c.args.kind c.args.name.now c.args.stamp h.named.agrees h.named.plain h.named.absent h.is_for (by_size h.tree h.lists c.args.id h.node c.args.kind c.args.name.now c.args.stamp h.named.agrees h.named.plain h.named.absent h.is_for h.begun h.named.pairs) h.named.names h.named.kinds (codes "last_modified") I64 (λ b. b.by_time) value row)

pub returns-in-Err-list_where-2-clause-unanswered : goal.returns-in-Err-list_where-2-clause-unanswered
returns-in-Err-list_where-2-clause-unanswered g c m tree since lists begun node told named is_for built =
    let file : is_file c.args.kind ≡ true = sym c.is_file.ensures ∙ c.if-not-is_file.false in
    let one = c.in-Ok.ensures.listed m since begun [] (codes "name") (pairs_of tree lists c.args.id node c.args.kind c.args.name.now c.args.stamp named.agrees named.plain named.absent is_for (codes "name")) told named.work (number_again lists.names begun.names (codes "name") c.args.indices.name named.names built.name) (name_more tree lists c.args.id node c.args.kind c.args.name.now c.args.stamp named.agrees named.plain named.absent is_for begun named.pairs named.names named.kinds) in
    let two = c.in-Ok-list_where.ensures.listed one.map since (by_name tree lists c.args.id node c.args.kind c.args.name.now c.args.stamp named.agrees named.plain named.absent is_for begun named.pairs) [] (codes "size") (pairs_of tree lists c.args.id node c.args.kind c.args.name.now c.args.stamp named.agrees named.plain named.absent is_for (codes "size")) one.is one.work (number_again lists.names begun.names (codes "size") c.args.indices.size named.names built.size)
    (size_more tree lists c.args.id node c.args.kind c.args.name.now c.args.stamp named.agrees named.plain named.absent is_for begun named.pairs named.names named.kinds file c.size_key-size.result c.size_key-size.ensures.key) in
    list_unanswered (sizes_of c.args.sup.now) c.list_where-2.new.bitmap two.map c.args.indices.last_modified c.in-Err-list_where-2.fault
    (c.in-Err-list_where-2.ensures.refused two.map since (by_size tree lists c.args.id node c.args.kind c.args.name.now c.args.stamp named.agrees named.plain named.absent is_for begun named.pairs) [] (codes "last_modified") two.is two.work (number_again lists.names begun.names (codes "last_modified") c.args.indices.last_modified named.names built.last_modified)
    (λ value row. kind_since tree lists c.args.id node c.args.kind c.args.name.now c.args.stamp named.agrees named.plain named.absent is_for (by_size tree lists c.args.id node c.args.kind c.args.name.now c.args.stamp named.agrees named.plain named.absent is_for begun named.pairs) named.names named.kinds (codes "last_modified") I64 (λ b. b.by_time) value row))

pub returns-in-Ok-list_where-2-clause-listed : goal.returns-in-Ok-list_where-2-clause-listed
returns-in-Ok-list_where-2-clause-listed g c m tree since lists begun node told named is_for built =
    let e : to_z w64 (of_z w64 c.args.stamp) ≡ c.args.stamp = search rules in
    let file : is_file c.args.kind ≡ true = sym c.is_file.ensures ∙ c.if-not-is_file.false in
    let one = c.in-Ok.ensures.listed m since begun [] (codes "name") (pairs_of tree lists c.args.id node c.args.kind c.args.name.now c.args.stamp named.agrees named.plain named.absent is_for (codes "name")) told named.work (number_again lists.names begun.names (codes "name") c.args.indices.name named.names built.name) (name_more tree lists c.args.id node c.args.kind c.args.name.now c.args.stamp named.agrees named.plain named.absent is_for begun named.pairs named.names named.kinds) in
    let two = c.in-Ok-list_where.ensures.listed one.map since (by_name tree lists c.args.id node c.args.kind c.args.name.now c.args.stamp named.agrees named.plain named.absent is_for begun named.pairs) [] (codes "size") (pairs_of tree lists c.args.id node c.args.kind c.args.name.now c.args.stamp named.agrees named.plain named.absent is_for (codes "size")) one.is one.work (number_again lists.names begun.names (codes "size") c.args.indices.size named.names built.size)
    (size_more tree lists c.args.id node c.args.kind c.args.name.now c.args.stamp named.agrees named.plain named.absent is_for begun named.pairs named.names named.kinds file c.size_key-size.result c.size_key-size.ensures.key) in
    let three = c.in-Ok-list_where-2.ensures.listed two.map since (by_size tree lists c.args.id node c.args.kind c.args.name.now c.args.stamp named.agrees named.plain named.absent is_for begun named.pairs) [] (codes "last_modified") (pairs_of tree lists c.args.id node c.args.kind c.args.name.now c.args.stamp named.agrees named.plain named.absent is_for (codes "last_modified")) two.is two.work (number_again lists.names begun.names (codes "last_modified") c.args.indices.last_modified named.names built.last_modified)
    (time_more tree lists c.args.id node c.args.kind c.args.name.now c.args.stamp named.agrees named.plain named.absent is_for begun named.pairs named.names named.kinds file c.stamp_key-time.result (c.stamp_key-time.ensures.key ∙ ap signed64_bytes e)) in
    let s = geometry_of c.args.sup.now in
    record {
      last = (by_time tree lists c.args.id node c.args.kind c.args.name.now c.args.stamp named.agrees named.plain named.absent is_for begun named.pairs);
      step =
          stepped_twice s c.args.bitmap.now c.list_where.new.bitmap c.list_where-3.new.bitmap m since since since (by_name tree lists c.args.id node c.args.kind c.args.name.now c.args.stamp named.agrees named.plain named.absent is_for begun named.pairs) (by_time tree lists c.args.id node c.args.kind c.args.name.now c.args.stamp named.agrees named.plain named.absent is_for begun named.pairs) [] []
          (g.E.Blocks.told c.list_where.new.edits) (g.E.Blocks.told c.list_where-3.new.edits) (g.E.Blocks.changed c.args.edits.now) (g.E.Blocks.changed c.list_where.new.edits) (g.E.Blocks.changed c.list_where-3.new.edits) one
          (stepped_twice s c.list_where.new.bitmap c.list_where-2.new.bitmap c.list_where-3.new.bitmap one.map since since since (by_size tree lists c.args.id node c.args.kind c.args.name.now c.args.stamp named.agrees named.plain named.absent is_for begun named.pairs) (by_time tree lists c.args.id node c.args.kind c.args.name.now c.args.stamp named.agrees named.plain named.absent is_for begun named.pairs) [] []
          (g.E.Blocks.told c.list_where-2.new.edits) (g.E.Blocks.told c.list_where-3.new.edits) (g.E.Blocks.changed c.list_where.new.edits) (g.E.Blocks.changed c.list_where-2.new.edits) (g.E.Blocks.changed c.list_where-3.new.edits) two three);
      lists_node = file_listed tree lists c.args.id node c.args.kind c.args.name.now c.args.stamp named.agrees named.plain named.absent is_for begun named.pairs file;
    }
